use Rattle.std.proofs.Common.{◌≡◌, ◌&&◌, ℕ, eqb, take}
use Rattle.indexmap.specs.IndexSet.{contains}
use Rattle.meta_model.specs.Among.{is_among}
use Rattle.binding_graph.specs.code.Graph.{target_keys}
use Rattle.binding_graph.specs.code.Touched.{has_any}
use Rattle.binding_graph.proofs.graph.Graph.touched_among.Given as goal

-- those of the first ones are noted
abbrev pub invariant-loop-object : goal.invariant-loop-object
invariant-loop-object l = (o : ℕ) → contains eqb l.touched o ≡ (is_among o (take l.object-index l.objects) && has_any (target_keys l.self.touching o))
