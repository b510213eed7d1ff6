-- Of the properties that change those that are written or bound stand first, and the others follow.
use Rattle.std.proofs.Common.{◌≡◌, not, ◌||◌, Bool, false, cond, inl, inr, List, [], ◌∷◌, ◌++◌, map, refl, ap, sym, ◌∙◌, subst}
use Rattle.std.specs.List.{AllByRecursion}
use Rattle.std.proofs.lemmas.Bool.{cases_Bool, or_parts}
use Rattle.object_tree.specs.declared.object.Object.{Object}
use Rattle.binding_graph.specs.declared.binding.Binding.{Binding}
use Rattle.binding_graph.specs.declared.place.Place.{Place}
use Rattle.binding_graph.specs.Bindings.{without_all}
use Rattle.prop_bindings.specs.Changes.{AreChanged, none_changed, one_changed, one_stayed, in_order, once}
use Rattle.binding_graph.specs.Places.{Distinct, In, is_in, same_place}
use Rattle.binding_graph.proofs.Places.{In-cases, different, is_in-false, same_place-refl}
use Rattle.binding_graph.proofs.Several.{is_in-not, left, without_all-left}
use Rattle.prop_bindings.proofs.EachOnce.{is_in-once, once-distinct, once-in}
use Rattle.machine_state.specs.Telling.{others}
use Rattle.machine_state.specs.code.Planned.{StandFirst, none_left, changes, stays, behind}

-- ---- one after the other
passed-by : (p : Place) (changed : List Place) → is_in changed p ≡ false → behind p changed ≡ changed
passed-by p [] out = refl
passed-by p (q ∷ changed) out = ap (λ (b : Bool). cond b changed (q ∷ changed)) (or_parts (same_place q p) (is_in changed p) out).0

pub behind-first : (os : List Place) (p : Place) (ps changed : List Place) → StandFirst os (p ∷ ps) changed → StandFirst os ps (behind p changed)
behind-first os p ps changed (changes {changed = rest} next) =
    subst (λ (b : Bool). StandFirst os ps (cond b rest (p ∷ rest))) (sym (same_place-refl p)) next
behind-first os p ps changed (stays out next) = subst (StandFirst os ps) (sym (passed-by p changed out)) next

pub behind-all : (os changed : List Place) → StandFirst os [] changed → changed ≡ os
behind-all os changed none_left = refl

-- ---- what changes
changed-in : (old new : List Object) (ps changed : List Place) → AreChanged old new ps changed → (q : Place) → In q changed → In q ps
changed-in old new ps changed none_changed q i = i
changed-in old new ps changed (one_changed {ps = qs} {changed = rest} moved h) q i = elim i [
  | inl e ↦ inl e
  | inr j ↦ inr (changed-in old new qs rest h q j)
]
changed-in old new ps changed (one_stayed {ps = qs} alike h) q i = inr (changed-in old new qs changed h q i)

others-none : (changed : List Place) → others [] changed ≡ changed
others-none [] = refl
others-none (q ∷ changed) = ap (λ (qs : List Place). q ∷ qs) (others-none changed)

others-passed : (p : Place) (ps changed : List Place) → (In p changed → ⊥) → others (p ∷ ps) changed ≡ others ps changed
others-passed p ps [] out = refl
others-passed p ps (q ∷ changed) out =
    ap (λ (b : Bool). cond (not (b || is_in ps q)) (q ∷ others (p ∷ ps) changed) (others (p ∷ ps) changed)) (different p q (λ e. out (inl (sym e))))
    ∙ ap (λ (qs : List Place). cond (not (is_in ps q)) (q ∷ qs) qs) (others-passed p ps changed (λ i. out (inr i)))

others-first : (p : Place) (ps changed : List Place) → (In p changed → ⊥) → others (p ∷ ps) (p ∷ changed) ≡ others ps changed
others-first p ps changed out =
    ap (λ (b : Bool). cond (not (b || is_in ps p)) (p ∷ others (p ∷ ps) changed) (others (p ∷ ps) changed)) (same_place-refl p)
    ∙ others-passed p ps changed out

stand-first : (old new : List Object) (ps more changed : List Place) → Distinct ps → ((q : Place) → In q ps → In q more → ⊥) → AreChanged old new (ps ++ more) changed → StandFirst (others ps changed) ps changed
stand-first old new [] more changed distinct apart h = subst (λ (os : List Place). StandFirst os [] changed) (sym (others-none changed)) none_left
stand-first old new (p ∷ ps) more changed distinct apart (one_changed {changed = rest} moved h) =
    let out : In p rest → ⊥ = λ i. elim (In-cases p ps more (changed-in old new (ps ++ more) rest h p i)) [ inl j ↦ distinct.0 j | inr j ↦ apart p (inl refl) j ] in
    subst (λ (os : List Place). StandFirst os (p ∷ ps) (p ∷ rest)) (sym (others-first p ps rest out))
    (changes (stand-first old new ps more rest distinct.1 (λ q i j. apart q (inr i) j) h))
stand-first old new (p ∷ ps) more changed distinct apart (one_stayed alike h) =
    let out : In p changed → ⊥ = λ i. elim (In-cases p ps more (changed-in old new (ps ++ more) changed h p i)) [ inl j ↦ distinct.0 j | inr j ↦ apart p (inl refl) j ] in
    subst (λ (os : List Place). StandFirst os (p ∷ ps) changed) (sym (others-passed p ps changed out))
    (stays (is_in-not changed p out) (stand-first old new ps more changed distinct.1 (λ q i j. apart q (inr i) j) h))

-- ---- in the order in which properties are notified
pub others-once : (ps changed : List Place) → others (once ps) changed ≡ others ps changed
others-once ps [] = refl
others-once ps (q ∷ changed) =
    ap (λ (b : Bool). cond (not b) (q ∷ others (once ps) changed) (others (once ps) changed)) (is_in-once ps q)
    ∙ ap (λ (qs : List Place). cond (not (is_in ps q)) (q ∷ qs) qs) (others-once ps changed)

abbrev targets : List Binding → List Place
targets bs = map (λ (b : Binding). b.target) bs

left-apart : (ps : List Place) (bs : List Binding) (q : Place) → In q ps → In q (targets (left ps bs)) → ⊥
left-apart ps [] q i j = j
left-apart ps (b ∷ bs) q i j =
    let Of : Bool → Type 0 = λ keep. In q (targets (cond keep (b ∷ left ps bs) (left ps bs))) in
    elim (cases_Bool (is_in ps b.target)) [
      | inl t ↦ left-apart ps bs q i (subst (λ (x : Bool). Of (not x)) t j)
      | inr f ↦ elim (subst (λ (x : Bool). Of (not x)) f j) [
        | inl e ↦ is_in-false ps q (subst (λ (r : Place). is_in ps r ≡ false) e f) i
        | inr k ↦ left-apart ps bs q i k
      ]
    ]

pub written-first : (old new : List Object) (bs : List Binding) (written changed : List Place) → AreChanged old new (in_order written bs) changed → StandFirst (others written changed) (once written) changed
written-first old new bs written changed h =
    let apart : (q : Place) → In q (once written) → In q (targets (without_all written bs)) → ⊥ =
    λ q i j. left-apart written bs q (once-in written q i) (subst (λ (cs : List Binding). In q (targets cs)) (without_all-left written bs) j) in
    subst (λ (os : List Place). StandFirst os (once written) changed) (others-once written changed)
    (stand-first old new (once written) (targets (without_all written bs)) changed (once-distinct written) apart h)

-- ---- what holds of all that change
pub others-have : (Has : Place → Type 0) (written changed : List Place) → AllByRecursion Has changed → AllByRecursion Has (others written changed)
others-have Has written [] all = tt
others-have Has written (q ∷ changed) all =
    let Of : Bool → Type 0 = λ keep. AllByRecursion Has (cond keep (q ∷ others written changed) (others written changed)) in
    let rest : AllByRecursion Has (others written changed) = others-have Has written changed all.1 in
    elim (cases_Bool (is_in written q)) [
      | inl t ↦ subst (λ (x : Bool). Of (not x)) (sym t) rest
      | inr f ↦ subst (λ (x : Bool). Of (not x)) (sym f) (all.0, rest)
    ]
