use Rattle.std.proofs.Common.{take}
use Rattle.binding_graph.specs.declared.place.Place.{Place}
use Rattle.binding_graph.specs.Places.{In}
use Rattle.binding_graph.specs.code.Graph.{KeepReaders, Named}
use Rattle.binding_graph.proofs.readers.Readers.enlist.Given as goal

abbrev pub invariant-loop-source : goal.invariant-loop-source
invariant-loop-source l = record {
  kept : KeepReaders l.initial.self l.self;
  named : (m : Place) → In m (take l.source-index l.sources) → Named l.self m l.target;
}
