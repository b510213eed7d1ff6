use Rattle.std.proofs.Common.{List, length, ap, arith}
use Rattle.object_tree.specs.declared.object.Object.{Object}
use Rattle.object_tree.proofs.Slots.{length-shown}
use Rattle.object_tree.proofs.objects.Objects.len.Goals as goal

pub returns : goal.returns
returns c = omega (arith, length-shown c.self.inside.slots 0 c.self.inside.entries.items, ap (λ (xs : List Object). length xs) c.self.view_is)
