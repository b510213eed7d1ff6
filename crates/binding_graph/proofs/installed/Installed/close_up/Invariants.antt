use Rattle.std.proofs.Common.{◌≡◌}
use Rattle.binding_graph.specs.code.Graph.{slot_of}
use Rattle.binding_graph.proofs.Noted.{AreNoted}
use Rattle.binding_graph.proofs.installed.Installed.close_up.Given as goal

-- the slots of the first ones are noted
abbrev pub invariant-loop-slot : goal.invariant-loop-slot
invariant-loop-slot l = record {
  slots : l.self.slots.items ≡ l.initial.self.slots.items;
  noted : AreNoted l.initial.self.slots.items l.slot (slot_of l.self);
}
