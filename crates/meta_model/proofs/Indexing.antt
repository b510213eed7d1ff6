-- Looking up in indexes of classes and of binding sites.
use Rattle.std.proofs.Common.{◌≡◌, ℕ, List, length, slice_get, Option, Some, None, MatchOption, refl, sym, ap, ◌∙◌}
use Rattle.std.specs.Option.{option_and_then}
use Rattle.std.proofs.lemmas.Option.{none-some}
use Rattle.name_indexes.specs.NamePlaces.{place_in}
use Rattle.name_indexes.specs.CallPlaces.{Index, place_by}
use Rattle.basic_types.specs.declared.sig.Sig.{Sig}
use Rattle.meta_model.specs.declared.object.MetaObject.{MetaObject}
use Rattle.meta_model.specs.declared.class_index.MemberIndex.{MemberIndex}
use Rattle.meta_model.specs.declared.class_index.ClassIndex.{ClassIndex}
use Rattle.meta_model.specs.Loaded.{Loaded}
use Rattle.meta_model.specs.Members.{IsClassNamed, HasSig, IsMethodNamed, IsPropertyNamed}
use Rattle.meta_model.specs.declared.site.MetaSite.{MetaSite}
use Rattle.meta_model.specs.Sites.{IsSiteNamed}
use Rattle.meta_model.specs.Indexes.{IndexesMembers, IsIndexOf, IndexesSites, property_in, method_in}
use Rattle.name_indexes.proofs.Searches.{answer_of}
use Rattle.meta_model.proofs.LookUps.{class_answer, method_answer, property_answer}
use Rattle.name_indexes.proofs.Zips.{zip_left, zip_right}

-- a method of a signature has its name and as many parameters
pub named_of : (p : Loaded) (c : ℕ) (sig : Sig) (count : ℕ) → count ≡ length sig.types → (m : ℕ) → HasSig p c sig m → IsMethodNamed p c sig.name count m
named_of p c sig count e m h = record {
  method = h.method;
  is = h.is;
  named = ap (λ (s : Sig). s.name) h.signed;
  counted = ap (λ (s : Sig). length s.types) h.signed ∙ sym e;
}

-- the site of a name
pub site_found : (p : Loaded) (index : Index) → IndexesSites p.sites index → (name : List ℕ) → MatchOption (place_in index name) ((i : ℕ) → ¬ IsSiteNamed p name i) (λ i. IsSiteNamed p name i)
site_found p index is name =
    answer_of (λ (site : MetaSite). site.name ≡ name) p.sites (IsSiteNamed p name) (λ i at. record { is = at }) (λ i n. n.is) (place_in index name) (is name)

module _ (p : Loaded) (index : ClassIndex) (is : IsIndexOf p.classes index) where
  pub class_found : (name : List ℕ) → MatchOption (place_in index.classes name) ((c : ℕ) → ¬ IsClassNamed p name c) (λ c. IsClassNamed p name c)
  class_found name = class_answer p name p.classes refl (place_in index.classes name) (is.names name)

  module _ (c : ℕ) where
    -- past the last class nothing is found
    past : slice_get index.members c ≡ None → (class : MetaObject) → ¬ (slice_get p.classes c ≡ Some class)
    past none class e =
        let found = zip_left IndexesMembers p.classes index.members is.members c class e in none-some found.0 (sym none ∙ found.1)

    pub property_found : (name : List ℕ) → MatchOption (property_in index.members c name) ((q : ℕ) → ¬ IsPropertyNamed p c name q) (λ q. IsPropertyNamed p c name q)
    property_found name = by (slice_get index.members c) refl
      where
        by : (found : Option MemberIndex) → slice_get index.members c ≡ found
            → MatchOption (option_and_then (λ (m : MemberIndex). place_by m.properties 0 name) found) ((q : ℕ) → ¬ IsPropertyNamed p c name q) (λ q. IsPropertyNamed p c name q)
        by None e = λ q named. past e named.class named.is_class.is
        by (Some m) e =
            let class = zip_right IndexesMembers p.classes index.members is.members c m e in
            property_answer p c class.0 class.1 name class.0.properties refl (place_by m.properties 0 name) (class.2.properties name)

    pub method_found : (name : List ℕ) (count : ℕ) → MatchOption (method_in index.members c name count) ((m : ℕ) → ¬ IsMethodNamed p c name count m) (λ m. IsMethodNamed p c name count m)
    method_found name count = by (slice_get index.members c) refl
      where
        by : (found : Option MemberIndex) → slice_get index.members c ≡ found
            → MatchOption (option_and_then (λ (m : MemberIndex). place_by m.methods count name) found) ((m : ℕ) → ¬ IsMethodNamed p c name count m) (λ m. IsMethodNamed p c name count m)
        by None e = λ m named. past e named.is.class named.is.is_class.is
        by (Some m) e =
            let class = zip_right IndexesMembers p.classes index.members is.members c m e in
            method_answer p c class.0 class.1 name count class.0.methods refl (place_by m.methods count name) (class.2.methods name count)
