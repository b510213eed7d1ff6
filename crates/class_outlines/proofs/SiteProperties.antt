-- The properties that a binding site names: there is one at most.
use Rattle.std.proofs.Common.{◌≡◌, ℕ, true, false, List, [], ◌∷◌, length, get_or, Any, refl, arith, sym, ap, ◌∙◌, subst}
use Rattle.syntax_trees.specs.declared.syntax.Path.{Path}
use Rattle.syntax_trees.specs.declared.syntax.Root.TheVariants as root
use Rattle.syntax_trees.specs.declared.program.Formal.{Formal}
use Rattle.syntax_trees.specs.declared.program.Property.{Property}
use Rattle.syntax_trees.specs.declared.program.Site.{Site}
use Rattle.meta_model.specs.declared.site.SourceProperty.{SourceProperty}
use Rattle.class_outlines.specs.declared.outline.Outline.{Outline}
use Rattle.name_indexes.specs.Places.{StandsAt, StandsFirst, NoneStands, Found}
use Rattle.meta_model.specs.Sites.{paths_in}
use Rattle.class_outlines.specs.DeclaredSites.{IsPropertyIn, IsSourceProperty, IsReferenceIn, BindsReference, ReadsReference, UsesReference, by_target, by_source}
use Rattle.class_outlines.proofs.Firsts.{found_item, one_by, same_in}

-- the properties of this name
abbrev Named : List ℕ → Property → Type 0
Named name property = property.name ≡ name

abbrev NamedFormal : List ℕ → Formal → Type 0
NamedFormal name formal = formal.name ≡ name

abbrev source_of : ℕ → ℕ → SourceProperty
source_of i q = record { source = i; property = q }

-- the element of a list of one
pub alone_of : {X : Type 0} (xs : List X) (x : X) → length xs ≡ 1 → x ≡ get_or xs 0 x → xs ≡ x ∷ []
alone_of [] x e is = absurd (omega (arith, e))
alone_of (y ∷ []) x e is = ap (λ z. z ∷ []) (sym is)
alone_of (y ∷ z ∷ xs) x e is = absurd (omega (arith, e))

module _ (outlines : List Outline) where
  -- ---- properties of classes
  module _ (class name : List ℕ) (c : ℕ) (o : Outline) (found : Found (λ (o : Outline). o.name ≡ class) outlines c o) where
    pub a_property_in : (q : ℕ) (x : Property) → Found (Named name) o.properties q x → IsPropertyIn outlines class name c q x
    a_property_in q x at =
        let place = subst (λ (v : Outline). StandsFirst (Named name) v.properties q) (sym found.is) at.first in
        record {
          of_class = found.first;
          place = place;
          is = (same_in (λ (v : Outline). v.properties) (Named name) found.first.at.item o found.is q q place at.first).1 ∙ at.is;
        }

    pub no_property_in : NoneStands (Named name) o.properties → (d q : ℕ) (x : Property) → ¬ IsPropertyIn outlines class name d q x
    no_property_in none d q x h =
        none q (subst (λ (v : Outline). StandsAt (Named name) v.properties q) (found_item (λ (o : Outline). o.name ≡ class) outlines d c o h.of_class found) h.place.at)

  -- a property of this name in a class of this name
  pub one_property_in : (class other name named : List ℕ) → class ≡ other → name ≡ named → (c q d r : ℕ) (x y : Property)
      → IsPropertyIn outlines class name c q x → IsPropertyIn outlines other named d r y → (c ≡ d) × (q ≡ r) × (x ≡ y)
  one_property_in class other name named e f c q d r x y h k =
      let classes = one_by (λ (n : List ℕ) (o : Outline). o.name ≡ n) outlines class other e c d h.of_class k.of_class in
      let place = subst (λ n. StandsFirst (Named n) h.of_class.at.item.properties q) f h.place in
      let properties = same_in (λ (v : Outline). v.properties) (Named named) h.of_class.at.item k.of_class.at.item classes.1 q r place k.place in
      let first = one_by Named h.of_class.at.item.properties name named f q q h.place place in
      (classes.0, properties.0, sym h.is ∙ first.1 ∙ properties.1 ∙ k.is)

  -- ---- properties of formal sources
  module _ (site : Site) (path : Path) where
    pub no_root : ((name : List ℕ) → ¬ (path.root ≡ root.Name name)) → (s : SourceProperty) (x : Property) → ¬ IsSourceProperty outlines site path s x
    no_root none s x h = none h.formal_name h.rooted

    pub not_alone : ((name : List ℕ) → ¬ (path.properties ≡ name ∷ [])) → (s : SourceProperty) (x : Property) → ¬ IsSourceProperty outlines site path s x
    not_alone none s x h = none h.name h.alone

    module _ (formal_name : List ℕ) (rooted : path.root ≡ root.Name formal_name) where
      pub no_formal : NoneStands (NamedFormal formal_name) site.formals → (s : SourceProperty) (x : Property) → ¬ IsSourceProperty outlines site path s x
      no_formal none s x h =
          let same : h.formal_name ≡ formal_name = let e = sym h.rooted ∙ rooted in cc in
          none s.source (subst (λ n. StandsAt (NamedFormal n) site.formals s.source) same h.formal.at)

      module _ (name : List ℕ) (alone : path.properties ≡ name ∷ []) (i : ℕ) (f : Formal) (found : Found (NamedFormal formal_name) site.formals i f) where
        pub a_source : (c q : ℕ) (x : Property) → IsPropertyIn outlines f.class name c q x → IsSourceProperty outlines site path (source_of i q) x
        a_source c q x h = record {
          formal_name = formal_name;
          rooted = rooted;
          formal = found.first;
          name = name;
          alone = alone;
          number = c;
          is_property = subst (λ (g : Formal). IsPropertyIn outlines g.class name c q x) (sym found.is) h;
        }

        pub no_source : ((c q : ℕ) (x : Property) → ¬ IsPropertyIn outlines f.class name c q x) → (s : SourceProperty) (x : Property) → ¬ IsSourceProperty outlines site path s x
        no_source none s x h =
            let same : h.formal_name ≡ formal_name = let e = sym h.rooted ∙ rooted in cc in
            let same_name : h.name ≡ name = let e = sym h.alone ∙ alone in cc in
            let item = (one_by NamedFormal site.formals h.formal_name formal_name same s.source i h.formal found.first).1 ∙ found.is in
            none h.number s.property x
            (subst (λ n. IsPropertyIn outlines f.class n h.number s.property x) same_name
            (subst (λ (g : Formal). IsPropertyIn outlines g.class h.name h.number s.property x) item h.is_property))

    pub one_source : (s t : SourceProperty) (x y : Property) → IsSourceProperty outlines site path s x → IsSourceProperty outlines site path t y → (s ≡ t) × (x ≡ y)
    one_source s t x y h k =
        let same : h.formal_name ≡ k.formal_name = let e = sym h.rooted ∙ k.rooted in cc in
        let same_name : h.name ≡ k.name = let e = sym h.alone ∙ k.alone in cc in
        let formals = one_by NamedFormal site.formals h.formal_name k.formal_name same s.source t.source h.formal k.formal in
        let class = ap (λ (f : Formal). f.class) formals.1 in
        let property = one_property_in h.formal.at.item.class k.formal.at.item.class h.name k.name class same_name h.number s.property k.number t.property x y h.is_property k.is_property in
        (ap (λ i. source_of i s.property) formals.0 ∙ ap (λ q. source_of t.source q) property.1, property.2)

    -- a path to another property is none
    pub reads_not : (s : SourceProperty) (x : Property) → IsSourceProperty outlines site path s x → x.kind.pointer ≡ false → ¬ ReadsReference outlines site path
    reads_not s x h plain r =
        let same = (one_source s r.source x r.property h r.read).1 in
        let pointer : x.kind.pointer ≡ true = ap (λ (p : Property). p.kind.pointer) same ∙ r.pointer in
        absurd (cc)

-- a property of another type is no reference
pub refers_not : (outlines : List Outline) (class name : List ℕ) (c q : ℕ) (x : Property) → IsPropertyIn outlines class name c q x → x.kind.pointer ≡ false → ¬ IsReferenceIn outlines class name
refers_not outlines class name c q x h plain r =
    let one = one_property_in outlines class class name name refl refl _ _ _ _ _ _ h r.is in
    let pointer : x.kind.pointer ≡ true = ap (λ (p : Property). p.kind.pointer) one.2 ∙ r.pointer in
    absurd (cc)

-- a site of which neither part is a reference uses none
pub uses_none : (outlines : List Outline) (site : Site) → ¬ BindsReference outlines site → ¬ Any (ReadsReference outlines site) (paths_in site.expression) → ¬ UsesReference outlines site
uses_none outlines site target sources (by_target h) = target h
uses_none outlines site target sources (by_source h) = sources h
