use Rattle.std.proofs.Common.{◌≡◌, drop}
use Rattle.std.specs.Prelude.{slice_get}
use Rattle.binding_graph.specs.code.Slots.{filled}
use Rattle.binding_graph.proofs.installed.Installed.nth.Given as goal

-- so many others stand before it in the slots that are left
abbrev pub invariant-loop-slot : goal.invariant-loop-slot
invariant-loop-slot l = slice_get (filled (drop l.slot l.self.slots.items)) l.before ≡ slice_get (filled l.self.slots.items) l.position
