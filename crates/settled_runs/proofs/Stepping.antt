-- A step hands its value on where all ways to what it leads to do (docs/settling-proof.md, "Each rule keeps it").
use Rattle.std.{proofs.Common.{◌≡◌, ℕ, List, [], ◌∷◌, length, Some, slice_get, refl, ap, subst, arith}}
use Rattle.basic_types.specs.declared.value.Value.{Value}
use Rattle.meta_model.specs.{declared.object.MetaMethod.{MetaMethod}, declared.object.Statement.{Statement}, declared.object.Statement.TheViews.{out-Statement}, declared.object.ValueType.{ValueType}, declared.object.Work.{Work}, declared.object.Work.TheVariants.{Signal, Slot, Native}, Loaded.{Loaded}}
use Rattle.meta_model.specs.declared.object.Statement.TheOpen as layer
use Rattle.object_tree.specs.{declared.object.Object.{Object}, Seen.{seen}}
use Rattle.effect_scan.specs.{declared.node.Node.{Node}, declared.effect.Effect.{Effect}, Effects.{Occurs, here as first, after, chosen, otherwise, grouped, WorkHas}, Edges.{by_work}}
use Rattle.rank_check.proofs.Elements.{some_inside}
use Rattle.machine_state.specs.{State.{Step, Run, Ask, Act}, Telling.{Alone, Grouped}}
use Rattle.machine_rules.{specs.Operations.{Operation, Write, Begin, operation_of_step}, proofs.Fields.{read-there, method-unique}}
use Rattle.settling.specs.{Hands.{HandsValue, StandsAlone, WorkHands, HandOn}, Settles.{TakesOne, Carries}}
use Rattle.object_machine.proofs.CheckedRuns.{Invariant.{BodyStands}}
use Rattle.object_machine.proofs.CheckedRuns.Leading.{occurs-in, IsRunBy, by_itself, by_group, IsEffectOf, Draws, way-drawn}
use Rattle.settled_runs.{specs.Handed.{IsDoneWith, sets, begins, nothing}, proofs.Handing.{handed}}

-- ---- ways

-- the step is a statement that hands its value on
abbrev pub HandsStep : Step → Type 0
HandsStep (Run s) = HandsValue (out-Statement s)
HandsStep (Ask effects) = ⊥
HandsStep (Act effects it) = ⊥

-- what is in a group doesn't stand alone
not-alone : (s g : Statement) (inner whole : List Statement) (at : Occurs g whole) (is : out-Statement g ≡ layer.Group inner) (i : Occurs s inner) → ¬ StandsAlone (occurs-in g inner whole at is s i)
not-alone s g inner whole first is i alone = alone
not-alone s g inner whole (after {rest = rest} at) is i alone = not-alone s g inner rest at is i alone
not-alone s g inner whole (chosen {block = block} e at) is i alone = not-alone s g inner block at is i alone
not-alone s g inner whole (otherwise {other = other} e at) is i alone = not-alone s g inner other at is i alone
not-alone s g inner whole (grouped e at) is i alone = alone

hands-run : {body : List Statement} {step : Step} {s : Statement} {at : Occurs s body} → IsRunBy body step s at → HandsValue (out-Statement s) → StandsAlone at → HandsStep step
hands-run by_itself hands alone = hands
hands-run {body} {s = s} (by_group {g = g} {sets = inner} at is i) hands alone = absurd (not-alone s g inner body at is i alone)

hands-effect : (step : Step) (types : List ValueType) (work : Work) (effect : Effect) (has : WorkHas types work effect) → IsEffectOf step types work effect has → WorkHands types work effect has → HandsStep step
hands-effect step types Signal effect has own hands = absurd hands
hands-effect step types (Slot body) effect has own hands = hands-run own hands.0 hands.1
hands-effect step types (Native effects) effect has own hands = absurd hands

module _ {p : Loaded} {objects : List Object} {o m : ℕ} {arguments : List Value} {left : List Step} {x : Node} (b : BodyStands p objects o m arguments left x) where
  -- the way that the step draws is one of them
  pub hands-drawn : {step : Step} {y : Node} → Draws p b.class b.method step y → HandOn p x y → HandsStep step
  hands-drawn {step} {y} d hands =
      let each = subst (λ (z : Node). HandOn p z y) b.at hands in
      hands-effect step (b.method).types (b.method).work d.effect d.has d.own (each (by_work (way-drawn b d)))

  -- ---- values

  -- where the node carries a value, the body has it
  pub first-of : Carries p x → (a : Value) × (slice_get arguments 0 ≡ Some a)
  first-of carries =
      let takes : TakesOne p b.class m = subst (λ (z : Node). Carries p z) b.at carries in
      let same : b.method ≡ takes.method = method-unique b.is takes.is in
      let one = takes.one in
      let count = ap (λ (k : MetaMethod). length k.types) same in
      let type = some_inside (b.method).types 0 (omega (arith, one, count)) in
      read-there p objects arguments (b.method).types 0 type.0 b.typed type.1

-- .. with which a step does what it does
pub does-with : (objects : List Object) (o : ℕ) (arguments : List Value) (a : Value) (step : Step) (d : Operation) → slice_get arguments 0 ≡ Some a → HandsStep step → operation_of_step objects o arguments step ≡ Some d → IsDoneWith (seen objects a) d
does-with objects o arguments a (Run s) d at hands is = handed objects o arguments a at (out-Statement s) d hands is
does-with objects o arguments a (Ask effects) d at hands is = absurd hands
does-with objects o arguments a (Act effects it) d at hands is = absurd hands

-- what is written or passed is the value alone, and nothing is grouped
abbrev pub GivesJust : Value → Operation → Type 0
GivesJust v (Write (Alone place w)) = w ≡ v
GivesJust v (Write (Grouped found)) = ⊥
GivesJust v (Begin o m given) = given ≡ v ∷ []
GivesJust v _ = Unit {0}

pub gives-just : {v : Value} {d : Operation} → IsDoneWith v d → GivesJust v d
gives-just sets = refl
gives-just begins = refl
gives-just nothing = tt
