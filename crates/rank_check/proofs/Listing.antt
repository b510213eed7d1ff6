-- Sets of classes from items.
use Rattle.std.proofs.Common.{◌≡◌, ◌↔◌, ◌⊎◌, inl, inr, ℕ, ◌+◌, ◌<◌, ◌≤◌, Bool, true, false, List, [], length, get_or, take, replicate, refl, sym, ◌∙◌, subst, arith}
use Rattle.std.specs.List.{Contains}
use Rattle.std.proofs.lemmas.List.{length-replicate, take_all}
use Rattle.std.proofs.lemmas.Option.{slice_get_within}
use Rattle.meta_model.specs.Loaded.{Loaded}
use Rattle.meta_model.specs.Members.{IsClassNamed}
use Rattle.meta_model.proofs.InLists.{owned_by}
use Rattle.effect_scan.specs.Rows.{row}
use Rattle.effect_scan.specs.Destroying.{Closure, itself, child, AreClosures}
use Rattle.effect_scan.proofs.Relating.{below_first}
use Rattle.class_sets.specs.Marks.{IsMarked, Marks}
use Rattle.class_sets.proofs.Firsts.{no_members, first_more}
use Rattle.class_sets.proofs.Marking.{not_marked}
pub use Rattle.class_sets.proofs.Marking.{unmarked}
use Rattle.certificate_lang.specs.declared.certificate.SetItem.{SetItem}
use Rattle.certificate_lang.specs.declared.certificate.SetItem.TheVariants as item
use Rattle.rank_check.specs.Valid.{StandsFor, IsListed, AreClassesThere}
use Rattle.rank_check.specs.Causes.{StandsForNoClass, StandsForNone}
use Rattle.rank_check.specs.Entries.{IsSet, AddsItem}
use Rattle.rank_check.proofs.Elements.{at_index, element_at}

-- the set of the first items, with a mark for each class
pub record SetsFirst (p : Loaded) (items : List SetItem) (set : List Bool) : Type 0 where
  pub count : length set ≡ length p.classes
  pub is : IsSet p items set

pub none_set : (p : Loaded) (items : List SetItem) (count : ℕ) → count ≡ length p.classes → SetsFirst p (take 0 items) (replicate count false)
none_set p items count e = record {
  count = length-replicate count false ∙ e;
  is = record {
    there = λ item h. absurd (no_members item h);
    marks = λ d. (λ h. absurd (unmarked count d h), λ h. absurd (no_members h.item h.listed));
  };
}

pub no_items : (p : Loaded) (items : List SetItem) (set : List Bool) → items ≡ [] → set ≡ [] → IsSet p items set
no_items p items set none empty = record {
  there = λ item h. absurd (no_members item (subst (λ (xs : List SetItem). Contains xs item) none h));
  marks = λ d. (
    λ h. absurd (not_marked d (subst (λ (marks : List Bool). IsMarked marks d) empty h)),
    λ h. absurd (no_members h.item (subst (λ (xs : List SetItem). Contains xs h.item) none h.listed)),
  );
}

-- ---- the classes of one item

-- a closure is of classes
pub closure_low : (p : Loaded) (c d : ℕ) → Closure p c d → d < length p.classes
closure_low p c d (itself is) = slice_get_within p.classes c _ is.is
closure_low p c d (child closure owns) = let o = owned_by owns in below_first p d o.owns.child o.child

pub row_low : (p : Loaded) (closures : List (List ℕ)) → AreClosures p closures → (c d count : ℕ) → count ≡ length p.classes → Contains (row closures c) d → d < count
row_low p closures are c d count e held = let low = closure_low p c d ((are.members c d).0 held) in omega arith

marks_same : {P Q : ℕ → Type 0} {before after : List Bool} → ((j : ℕ) → P j ↔ Q j) → Marks P before after → Marks Q before after
marks_same same m = record {
  count = m.count;
  marks = λ j. (
    λ h. elim ((m.marks j).0 h) [ inl old ↦ inl old | inr new ↦ inr ((same j).0 new) ],
    λ h. (m.marks j).1 (elim h [ inl old ↦ inl old | inr new ↦ inr ((same j).1 new) ]),
  );
}

module _ (p : Loaded) (name : List ℕ) where
  pub none_named : ((c : ℕ) → ¬ IsClassNamed p name c) → StandsForNoClass p (item.Closure name)
  none_named none d h = none h.0 h.1

  module _ (c : ℕ) (named : IsClassNamed p name c) where
    pub class_low : (count : ℕ) → count ≡ length p.classes → c < count
    class_low count e = let low = slice_get_within p.classes c named.class named.is.is in omega arith

    module _ (only : (d : ℕ) → IsClassNamed p name d → d ≡ c) (before : List Bool) where
      pub class_added : (after : List Bool) → Marks (λ j. j ≡ c) before after → AddsItem p (item.Class name) before true after
      class_added after marks = (
        (c, named),
        marks_same (λ j. (λ e. subst (λ (d : ℕ). IsClassNamed p name d) (sym e) named, λ h. only j h)) marks,
      )

      pub closure_added : (closures : List (List ℕ)) (after : List Bool) → AreClosures p closures → Marks (Contains (row closures c)) before after → AddsItem p (item.Closure name) before true after
      closure_added closures after are marks = (
        (c, (c, named, itself named.is)),
        marks_same
            (λ j. (
              λ held. (c, named, (are.members c j).0 held),
              λ h. (are.members c j).1 (subst (λ (d : ℕ). Closure p d j) (only h.0 h.1) h.2),
            ))
            marks,
      )

pub none_there : (p : Loaded) (items : List SetItem) (i : ℕ) → StandsForNone p items i → ¬ AreClassesThere p items
none_there p items i h all = let c = all h.item (element_at items i h.item h.stands) in h.none c.0 c.1

-- ---- items
module _ (p : Loaded) (items : List SetItem) (i : ℕ) (item : SetItem) (inside : i < length items) (is : item ≡ get_or items i item) where
  pub item_lacks : StandsForNoClass p item → StandsForNone p items i
  item_lacks none = record { item = item; stands = at_index items i item inside is; none = none }

  newest : (x : SetItem) → Contains (take (i + 1) items) x → Contains (take i items) x ⊎ (x ≡ item)
  newest x h = elim ((first_more items i item inside x).0 h) [ inl old ↦ inl old | inr e ↦ inr (e ∙ sym is) ]

  older : (x : SetItem) → Contains (take i items) x ⊎ (x ≡ item) → Contains (take (i + 1) items) x
  older x h = (first_more items i item inside x).1 (elim h [ inl old ↦ inl old | inr e ↦ inr (e ∙ is) ])

  module _ (before after : List Bool) (adds : AddsItem p item before true after) (h : SetsFirst p (take i items) before) where
    marked_now : (d : ℕ) → IsMarked after d → IsListed p (take (i + 1) items) d
    marked_now d m =
        elim ((adds.1.marks d).0 m) [
          | inl marked ↦ let old = (h.is.marks d).0 marked in record { item = old.item; listed = older old.item (inl old.listed); stands_for = old.stands_for }
          | inr stands ↦ record { item = item; listed = older item (inr refl); stands_for = stands }
        ]

    listed_now : (d : ℕ) → IsListed p (take (i + 1) items) d → IsMarked after d
    listed_now d l =
        (adds.1.marks d).1
        (elim (newest l.item l.listed) [
          | inl old ↦ inl ((h.is.marks d).1 (record { item = l.item; listed = old; stands_for = l.stands_for }))
          | inr e ↦ inr (subst (λ (x : SetItem). StandsFor p x d) e l.stands_for)
        ])

    pub set_more : SetsFirst p (take (i + 1) items) after
    set_more = record {
      count = adds.1.count ∙ h.count;
      is = record {
        there = λ x l. elim (newest x l) [ inl old ↦ h.is.there x old | inr e ↦ subst (λ (y : SetItem). (d : ℕ) × StandsFor p y d) (sym e) adds.0 ];
        marks = λ d. (marked_now d, listed_now d);
      };
    }

pub set_all : (p : Loaded) (items : List SetItem) (i : ℕ) (set : List Bool) → length items ≤ i → SetsFirst p (take i items) set → IsSet p items set
set_all p items i set past h = subst (λ (xs : List SetItem). IsSet p xs set) (take_all i items past) h.is
