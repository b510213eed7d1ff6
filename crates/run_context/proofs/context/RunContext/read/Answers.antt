use Rattle.std.proofs.Common.{◌≡◌, Some, take, get_or, sym, ap, ◌∙◌}
use Rattle.std.proofs.lemmas.List.{take_more}
use Rattle.basic_types.specs.declared.value.Value.{Value}
use Rattle.object_tree.specs.Objects.{stored}
use Rattle.machine_rules.proofs.Answering.{zip-snoc}
use Rattle.run_context.proofs.context.RunContext.read.Goals as goal

pub loop-property-preserved : goal.loop-property-preserved
loop-property-preserved c =
    let objects = c.args.world.now.store.tree in
    let passed = take c.loop-property.property-index c.args.properties.now in
    let property = get_or c.args.properties.now c.loop-property.property-index 0 in
    let more = take_more c.args.properties.now c.loop-property.property-index 0 c.loop-property-test.true in
    let is = sym c.in-Some.ensures ∙ ap (λ (v : Value). Some v) (sym c.in_ok-copy.ensures) in
    let one = zip-snoc (λ q value. stored objects c.args.object q ≡ Some value) passed c.loop-property.values.items property c.in_ok-copy.field-0 c.loop-property.invariant is in
    rw (more, c.in_ok-push.ensures.items) one
