-- The changed ones of those that follow a property, in the order in which their bindings were installed, are those of all
-- bound properties.
use Rattle.std.proofs.Common.{◌≡◌, ℕ, zero, suc, ◌+◌, ◌<◌, ◌⊎◌, Bool, true, false, cond, not, List, [], ◌∷◌, ◌++◌, map, inl, inr, Some, refl, ap, sym, ◌∙◌, subst, arith}
use Rattle.std.specs.Prelude.{◌↔◌, slice_get}
use Rattle.std.proofs.lemmas.Bool.{false≢true, cases_Bool}
use Rattle.std.proofs.lemmas.Option.{same_Some}
use Rattle.object_tree.specs.declared.object.Object.{Object}
use Rattle.binding_graph.specs.declared.place.Place.{Place}
use Rattle.binding_graph.specs.declared.binding.Binding.{Binding}
use Rattle.binding_graph.specs.declared.installed.Installed.{Installed}
use Rattle.binding_graph.specs.declared.numbering.Numbered.{Numbered}
use Rattle.binding_graph.specs.Places.{Distinct, In, is_in}
use Rattle.binding_graph.specs.Bindings.{AreApart, without_all}
use Rattle.prop_bindings.specs.Changes.{in_order, ReadsAlike, AreChanged, none_changed, one_changed, one_stayed}
use Rattle.binding_graph.specs.code.Graph.{AreKeyed, bindings_in, slot_of}
use Rattle.binding_graph.specs.code.Numbering.{places_of, Above, Rises, AreBy, IsNumbering}
use Rattle.binding_graph.proofs.Places.{decide_in, is_in-false}
use Rattle.binding_graph.proofs.Keyed.{none-stands}
use Rattle.prop_bindings.proofs.EachOnce.{distinct-once}
use Rattle.binding_graph.proofs.Several.{is_in-not, left, without_all-left}
use Rattle.prop_bindings.proofs.InSlots.{before, before-at, renumbered, renumbered-places, renumbered-rises}

-- each is at its number among these, which begin at k
abbrev Stand : ℕ → List Binding → List Numbered → Type 0
Stand k bs [] = Unit {0}
Stand k bs (f ∷ fs) = ((i : ℕ) × (b : Binding) × (f.number ≡ k + i) × (slice_get bs i ≡ Some b) × (b.target ≡ f.place)) × Stand k bs fs

stand-tail : (k : ℕ) (b : Binding) (bs : List Binding) (fs : List Numbered) → Above k fs → Stand k (b ∷ bs) fs → Stand (suc k) bs fs
stand-tail k b bs [] a h = tt
stand-tail k b bs (f ∷ fs) a h = (by-index h.0.0 h.0.1 h.0.2 h.0.3 h.0.4, stand-tail k b bs fs a.1 h.1)
  where
    by-index : (i : ℕ) (c : Binding) → f.number ≡ k + i → slice_get (b ∷ bs) i ≡ Some c → c.target ≡ f.place → (i : ℕ) × (b : Binding) × (f.number ≡ suc k + i) × (slice_get bs i ≡ Some b) × (b.target ≡ f.place)
    by-index zero c is at to = let over : k < f.number = a.0 in absurd (omega (arith, is, over))
    by-index (suc i) c is at to = let moved : f.number ≡ suc k + i = omega (arith, is) in (i, c, moved, at, to)

above-over : (k : ℕ) (gs : List Numbered) (n : ℕ) → k < n → Above n gs → Above k gs
above-over k [] n less a = tt
above-over k (g ∷ gs) n less a = let more : n < g.number = a.0 in let both : k < g.number = omega (arith, less, more) in (both, above-over k gs n less a.1)

stands-in : (k : ℕ) (bs : List Binding) (gs : List Numbered) (q : Place) → Stand k bs gs → In q (places_of gs) → (i : ℕ) × (c : Binding) × (slice_get bs i ≡ Some c) × (c.target ≡ q)
stands-in k bs [] q t j = absurd j
stands-in k bs (g ∷ gs) q t (inl e) = (t.0.0, t.0.1, t.0.3, t.0.4 ∙ e)
stands-in k bs (g ∷ gs) q t (inr j) = stands-in k bs gs q t.1 j

-- the first is changed, or not, and the rest are whatever they are of a longer list
head-moves : (old new : List Object) (q : Place) (xs ys cs : List Place) → AreChanged old new (q ∷ xs) cs → ((ds : List Place) → AreChanged old new xs ds → AreChanged old new ys ds) → AreChanged old new (q ∷ ys) cs
head-moves old new q xs ys (d ∷ ds) (one_changed apart h) more = one_changed apart (more ds h)
head-moves old new q xs ys cs (one_stayed alike h) more = one_stayed alike (more cs h)

module _ (old new : List Object) (ps : List Place) where
  abbrev targets : List Binding → List Place
  targets bs = map (λ (b : Binding). b.target) (left ps bs)

  head-out : (b : Binding) (bs : List Binding) (cs : List Place) → (is_in ps b.target ≡ true) ⊎ ReadsAlike old new b.target → AreChanged old new (targets bs) cs → AreChanged old new (targets (b ∷ bs)) cs
  head-out b bs cs alike h = elim (cases_Bool (is_in ps b.target)) [
    | inl t ↦ subst (λ (x : Bool). AreChanged old new (map (λ (z : Binding). z.target) (cond (not x) (b ∷ left ps bs) (left ps bs))) cs) (sym t) h
    | inr f ↦ subst (λ (x : Bool). AreChanged old new (map (λ (z : Binding). z.target) (cond (not x) (b ∷ left ps bs) (left ps bs))) cs) (sym f)
        (elim alike [ inl t ↦ absurd (false≢true (sym f ∙ t)) | inr a ↦ one_stayed a h ])
  ]

  head-in : (b : Binding) (bs : List Binding) (cs : List Place) → is_in ps b.target ≡ false → AreChanged old new (b.target ∷ targets bs) cs → AreChanged old new (targets (b ∷ bs)) cs
  head-in b bs cs f h = subst (λ (x : Bool). AreChanged old new (map (λ (z : Binding). z.target) (cond (not x) (b ∷ left ps bs) (left ps bs))) cs) (sym f) h

  none-left : (bs : List Binding) → ((b : Binding) (i : ℕ) → slice_get bs i ≡ Some b → (is_in ps b.target ≡ true) ⊎ ReadsAlike old new b.target) → AreChanged old new (targets bs) []
  none-left [] alike = none_changed
  none-left (b ∷ bs) alike = head-out b bs [] (alike b 0 refl) (none-left bs (λ c i at. alike c (suc i) at))

  lifted : (bs : List Binding) (k : ℕ) (fs : List Numbered) (cs : List Place) → Rises fs → Stand k bs fs → ((q : Place) → In q (places_of fs) → is_in ps q ≡ false) → AreApart bs → ((b : Binding) (i : ℕ) → slice_get bs i ≡ Some b → (is_in ps b.target ≡ true) ⊎ (In b.target (places_of fs) ⊎ ReadsAlike old new b.target)) → AreChanged old new (places_of fs) cs → AreChanged old new (targets bs) cs
  lifted bs k [] cs r s away apart alike none_changed = none-left bs (λ b i at. elim (alike b i at) [ inl t ↦ inl t | inr o ↦ elim o [ inl j ↦ absurd j | inr a ↦ inr a ] ])
  lifted [] k (f ∷ fs) cs r s away apart alike h = absurd (cc (s.0.3))
  lifted (b ∷ bs) k (f ∷ fs) cs r s away apart alike h = by-index (λ gs ds r2 s2 away2 alike2 h2. lifted bs (suc k) gs ds r2 s2 away2 apart.1 alike2 h2) s.0.0 s.0.1 s.0.2 s.0.3 s.0.4
    where
      -- the head isn't one of the rest
      rest-alike : (c : Binding) (i : ℕ) → slice_get bs i ≡ Some c → f.place ≡ b.target → (is_in ps c.target ≡ true) ⊎ (In c.target (places_of fs) ⊎ ReadsAlike old new c.target)
      rest-alike c i at to = elim (alike c (suc i) at) [
        | inl e ↦ inl e
        | inr o ↦ elim o [
          | inl j ↦ elim j [
            | inl e ↦ absurd (none-stands bs b.target i c apart.0 at (sym e ∙ to))
            | inr j2 ↦ inr (inl j2)
          ]
          | inr a ↦ inr (inr a)
        ]
      ]

      by-index : ((gs : List Numbered) (ds : List Place) → Rises gs → Stand (suc k) bs gs → ((q : Place) → In q (places_of gs) → is_in ps q ≡ false) → ((z : Binding) (i : ℕ) → slice_get bs i ≡ Some z → (is_in ps z.target ≡ true) ⊎ (In z.target (places_of gs) ⊎ ReadsAlike old new z.target)) → AreChanged old new (places_of gs) ds → AreChanged old new (targets bs) ds) → (i : ℕ) (c : Binding) → f.number ≡ k + i → slice_get (b ∷ bs) i ≡ Some c → c.target ≡ f.place → AreChanged old new (targets (b ∷ bs)) cs
      by-index again zero c is at to =
          let same : b ≡ c = same_Some b c at in
          let here : b.target ≡ f.place = ap (λ (z : Binding). z.target) same ∙ to in
          let number : f.number ≡ k = omega (arith, is) in
          let above : Above k fs = subst (λ (n : ℕ). Above n fs) number r.0 in
          let tail = stand-tail k b bs fs above s.1 in
          let out : is_in ps b.target ≡ false = subst (λ (q : Place). is_in ps q ≡ false) (sym here) (away f.place (inl refl)) in
          head-in b bs cs out (head-moves old new b.target (places_of fs) (targets bs) cs (subst (λ (q : Place). AreChanged old new (q ∷ places_of fs) cs) (sym here) h)
          (λ ds g. again fs ds r.1 tail (λ q i. away q (inr i)) (λ d j at2. rest-alike d j at2 (sym here)) g))
      by-index again (suc i) c is at to =
          let over : k < f.number = omega (arith, is) in
          let above : Above k (f ∷ fs) = (over, above-over k fs f.number over r.0) in
          let tail = stand-tail k b bs (f ∷ fs) above s in
          let out : In b.target (places_of (f ∷ fs)) → ⊥ = λ j. (let found = stands-in (suc k) bs (f ∷ fs) b.target tail j in none-stands bs b.target found.0 found.1 apart.0 found.2 found.3) in
          head-out b bs cs (elim (alike b 0 refl) [ inl t ↦ inl t | inr o ↦ elim o [ inl j ↦ absurd (out j) | inr a ↦ inr a ] ])
          (again (f ∷ fs) cs r tail away (λ d j at2. alike d (suc j) at2) h)

stands : (x : Installed) → AreKeyed x → (fs : List Numbered) → AreBy (slot_of x) fs → Stand 0 (bindings_in x) (renumbered x.slots.items fs)
stands x keyed [] h = tt
stands x keyed (f ∷ fs) h =
    let held = keyed.placed f.place f.number h.0 in
    let place : ℕ = before x.slots.items f.number in
    let zeroth : place ≡ 0 + place = omega arith in
    ((place, held.0, zeroth, before-at x.slots.items f.number held.0 held.1, held.2), stands x keyed fs h.1)

-- the first are changed, or not, and the rest are whatever they are of a longer list
firsts-move : (old new : List Object) (ts xs ys cs : List Place) → AreChanged old new (ts ++ xs) cs → ((ds : List Place) → AreChanged old new xs ds → AreChanged old new ys ds) → AreChanged old new (ts ++ ys) cs
firsts-move old new [] xs ys cs h more = more cs h
firsts-move old new (t ∷ ts) xs ys cs h more = head-moves old new t (ts ++ xs) (ts ++ ys) cs h (λ ds g. firsts-move old new ts xs ys ds g more)

pub lifted-changes : (old new : List Object) (ts : List Place) (bs : List Binding) (others : List Place) (sorted : List Numbered) (cs : List Place) → Distinct ts → AreApart bs → Rises sorted → Stand 0 bs sorted → ((q : Place) → In q (places_of sorted) ↔ In q others) → ((q : Place) → In q ts → In q others → ⊥) → ((q : Place) → (In q ts → ⊥) → (In q others → ⊥) → ReadsAlike old new q) → AreChanged old new (ts ++ places_of sorted) cs → AreChanged old new (in_order ts bs) cs
lifted-changes old new ts bs others sorted cs different apart rises stand same away alike h =
    subst (λ (qs : List Place). AreChanged old new (qs ++ map (λ (b : Binding). b.target) (without_all ts bs)) cs) (sym (distinct-once ts different))
    (firsts-move old new ts (places_of sorted) (map (λ (b : Binding). b.target) (without_all ts bs)) cs h
    (λ ds g. subst (λ (xs : List Binding). AreChanged old new (map (λ (b : Binding). b.target) xs) ds) (sym (without_all-left ts bs))
    (lifted old new ts bs 0 sorted ds rises stand
    (λ q i. is_in-not ts q (λ j. away q j ((same q).0 i))) apart
    (λ b i at. elim (cases_Bool (is_in ts b.target)) [
      | inl t ↦ inl t
      | inr f ↦ elim (decide_in b.target (places_of sorted)) [
        | inl j ↦ inr (inl j)
        | inr out ↦ inr (inr (alike b.target (is_in-false ts b.target f) (λ j. out ((same b.target).1 j))))
      ]
    ]) g)))

pub changes-in-slots : (old new : List Object) (ts : List Place) (x : Installed) (others : List Place) (sorted : List Numbered) (cs : List Place) → Distinct ts → AreKeyed x → AreApart (bindings_in x) → IsNumbering (slot_of x) sorted → ((q : Place) → In q (places_of sorted) ↔ In q others) → ((q : Place) → In q ts → In q others → ⊥) → ((q : Place) → (In q ts → ⊥) → (In q others → ⊥) → ReadsAlike old new q) → AreChanged old new (ts ++ places_of sorted) cs → AreChanged old new (in_order ts (bindings_in x)) cs
changes-in-slots old new ts x others sorted cs different keyed apart numbered same away alike h =
    let places = renumbered-places x.slots.items sorted in
    lifted-changes old new ts (bindings_in x) others (renumbered x.slots.items sorted) cs different apart (renumbered-rises x keyed sorted numbered.1 numbered.0) (stands x keyed sorted numbered.1)
    (λ q. subst (λ (ps : List Place). In q ps ↔ In q others) (sym places) (same q)) away alike
    (subst (λ (ps : List Place). AreChanged old new (ts ++ ps) cs) (sym places) h)
