use Rattle.std.proofs.Common.{◌∙◌, ℕ, List, ap, sym}
use Rattle.basic_types.specs.declared.value.Value.{Value}
use Rattle.object_tree.specs.Objects.{change_life, written}
use Rattle.prop_bindings.specs.Plans.{assigned}
use Rattle.prop_bindings.proofs.AssignedValues.{assigned-last}
use Rattle.prop_bindings.proofs.assigning.assign.Goals as goal

pub loop-key-preserved : goal.loop-key-preserved
loop-key-preserved c =
    ap (assigned c.next_back.new.self) (c.set_value.ensures.value ∙ ap (λ (o : ℕ). change_life o (written c.in-Some.key.1 c.in-Some.value) c.loop-key.tree) c.new.ensures)
    ∙ sym (assigned-last c.next_back.new.self c.in-Some.key c.in-Some.value c.loop-key.tree)
    ∙ sym (ap (λ (es : List ((ℕ × ℕ) × Value)). assigned es c.loop-key.tree) c.in-Some.ensures.steps)
    ∙ c.loop-key.invariant
