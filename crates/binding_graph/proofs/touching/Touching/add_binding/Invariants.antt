use Rattle.std.proofs.Common.{◌≡◌, ℕ, true, take}
use Rattle.meta_model.specs.Among.{is_among}
use Rattle.binding_graph.specs.code.Graph.{KeepTouched, Touched}
use Rattle.binding_graph.proofs.touching.Touching.add_binding.Given as goal

abbrev pub invariant-loop-source : goal.invariant-loop-source
invariant-loop-source l = record {
  kept : KeepTouched l.fn.self l.self;
  target : Touched l.self l.target.object l.target;
  sources : (o : ℕ) → is_among o (take l.source-index l.sources) ≡ true → Touched l.self o l.target;
}
