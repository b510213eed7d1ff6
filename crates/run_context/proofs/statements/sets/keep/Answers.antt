use Rattle.std.proofs.Common.{Option, sym, ap, ◌∙◌}
use Rattle.basic_types.specs.declared.value.Value.{Value}
use Rattle.object_tree.specs.Objects.{change_life, written}
use Rattle.prop_bindings.specs.declared.plans.assignment.Assignment.{Assignment}
use Rattle.prop_bindings.specs.Plans.{assigned}
use Rattle.prop_bindings.proofs.Assigned.{ahead-more}
use Rattle.machine_rules.specs.Operations.{after_set}
use Rattle.run_context.proofs.statements.sets.keep.Goals as goal

pub returns-in_ok-insert : goal.returns-in_ok-insert
returns-in_ok-insert c = λ objects.
    let old = c.args.written.now in
    let at = c.in-Some.set.place in
    ahead-more old c.insert.new.self objects at c.in_ok-value.value c.key.result c.key.ensures c.in_ok-insert.ensures.updates.0
    ∙ ap (λ (v : Value). change_life at.object (written at.property v) (assigned old.entries objects)) c.in_ok-value.ensures
    ∙ sym (ap (λ (s : Option Assignment). after_set s (assigned old.entries objects)) c.in-Some.is)
