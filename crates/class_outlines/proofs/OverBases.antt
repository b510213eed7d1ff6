-- The members that a class inherits, as the front of its lists.
use Rattle.std.proofs.Common.{◌≡◌, ℕ, List, length, take, slice_get, Some, sym, ap, ◌∙◌, subst}
use Rattle.std.specs.Option.{option_and_then}
use Rattle.syntax_trees.specs.declared.program.Property.{Property}
use Rattle.class_outlines.specs.declared.outline.Heading.{Heading}
use Rattle.class_outlines.specs.declared.outline.Outline.{Outline}
use Rattle.name_indexes.specs.CallPlaces.{Layers, AreCalledAlike}
use Rattle.class_outlines.specs.Clashes.{AreOneCall}
use Rattle.class_outlines.specs.Indexed.{IndexesHeadings, IndexesDeclared}
use Rattle.name_indexes.specs.Twice.{StandsTwice}
use Rattle.class_outlines.specs.code.OwnMembers.{IsOverBase, AreOneProperty, methods_of, properties_of, base_methods, base_properties, methods_above, properties_above}
use Rattle.name_indexes.proofs.Indexing.{twice_also}

module _ (done : List Outline) (o : Outline) (over : IsOverBase done o) (n : ℕ) where
  -- the front of the methods, as the code has it
  methods_front : (ms : List Heading) → n ≡ methods_above done o.base → ms ≡ o.methods → take n ms ≡ base_methods done o.base
  methods_front ms en em = ap (λ (k : ℕ). take k ms) en ∙ ap (λ (hs : List Heading). take (methods_above done o.base) hs) em ∙ over.methods

  properties_front : (ps : List Property) → n ≡ properties_above done o.base → ps ≡ o.properties → take n ps ≡ base_properties done o.base
  properties_front ps en ep = ap (λ (k : ℕ). take k ps) en ∙ ap (λ (qs : List Property). take (properties_above done o.base) qs) ep ∙ over.properties

  -- no two of them are one
  pub methods_once : (ms : List Heading) → n ≡ methods_above done o.base → ms ≡ o.methods → ¬ StandsTwice AreOneCall (take n ms)
  methods_once ms en em two = over.methods_once (subst (λ (hs : List Heading). StandsTwice AreOneCall hs) (methods_front ms en em) two)

  pub properties_once : (ps : List Property) → n ≡ properties_above done o.base → ps ≡ o.properties
      → ¬ StandsTwice (AreCalledAlike (λ (p : Property). p.name) (λ (p : Property). 0)) (take n ps)
  properties_once ps en ep two =
      over.properties_once
      (subst (λ (qs : List Property). StandsTwice AreOneProperty qs) (properties_front ps en ep)
      (twice_also (AreCalledAlike (λ (p : Property). p.name) (λ (p : Property). 0)) AreOneProperty (take n ps) (λ x y e. e.0) two))

  -- the base's index is that of the front
  module _ (above : Outline) (base : Layers) (is : Some above ≡ option_and_then (slice_get done) o.base) where
    pub methods_over : (ms : List Heading) → n ≡ length above.methods → ms ≡ o.methods → IndexesHeadings above.methods base → IndexesHeadings (take n ms) base
    methods_over ms en em indexed =
        let same : base_methods done o.base ≡ above.methods = sym (ap methods_of is) in
        subst (λ (hs : List Heading). IndexesHeadings hs base) (sym (methods_front ms (en ∙ sym (ap length same)) em ∙ same)) indexed

    pub properties_over : (ps : List Property) → n ≡ length above.properties → ps ≡ o.properties → IndexesDeclared above.properties base → IndexesDeclared (take n ps) base
    properties_over ps en ep indexed =
        let same : base_properties done o.base ≡ above.properties = sym (ap properties_of is) in
        subst (λ (qs : List Property). IndexesDeclared qs base) (sym (properties_front ps (en ∙ sym (ap length same)) ep ∙ same)) indexed
