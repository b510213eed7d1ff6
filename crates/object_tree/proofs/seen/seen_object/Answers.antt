use Rattle.std.proofs.Common.{true, false, sym, ◌∙◌}
use Rattle.std.specs.Prelude.{slice_get}
use Rattle.object_tree.proofs.Housed.{seen-is}
use Rattle.object_tree.proofs.seen.seen_object.Goals as goal

pub returns-then-is_dead : goal.returns-then-is_dead
returns-then-is_dead c = seen-is (slice_get c.args.objects.now c.args.object) c.args.object true (sym c.is_dead.ensures ∙ c.if-is_dead.true)

pub returns-else-is_dead : goal.returns-else-is_dead
returns-else-is_dead c = seen-is (slice_get c.args.objects.now c.args.object) c.args.object false (sym c.is_dead.ensures ∙ c.if-is_dead.false)
