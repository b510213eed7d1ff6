use Rattle.std.proofs.Common.{◌≡◌, drop}
use Rattle.binding_graph.specs.Bindings.{lead_out}
use Rattle.binding_graph.specs.code.Slots.{filled}
use Rattle.binding_graph.proofs.installed.Installed.lead_out.Given as goal

-- of the bindings in the slots that are left one leads out exactly where one of all does
abbrev pub invariant-loop-slot : goal.invariant-loop-slot
invariant-loop-slot l = lead_out l.objects (filled (drop l.slot l.self.slots.items)) ≡ lead_out l.objects (filled l.self.slots.items)
