use Rattle.std.proofs.Common.{Option, drop, length}
use Rattle.binding_graph.specs.declared.place.Place.{Place}
use Rattle.binding_graph.specs.declared.binding.Binding.{Binding}
use Rattle.binding_graph.specs.code.BindingRanks.{HasNumbers, RankAll}
use Rattle.binding_graph.proofs.ranks.BindingRanks.renumber.Given as goal

abbrev pub invariant-loop-place : goal.invariant-loop-place
invariant-loop-place l = record {
  room : HasNumbers (length (drop l.place-index l.places)) l.self;
  ranked : (F : Place → Option Binding) → RankAll F l.places l.initial.self → RankAll F (drop l.place-index l.places) l.self;
}
