use Rattle.std.proofs.Common.{◌≡◌, ◌∙◌, ◌+◌, ◌∷◌, List, drop, ap, sym}
use Rattle.std.proofs.Math.ListN.{drop_of_length-le}
use Rattle.binding_graph.specs.declared.place.Place.{Place}
use Rattle.binding_graph.specs.declared.binding.Binding.{Binding}
use Rattle.binding_graph.specs.Bindings.{without_all}
use Rattle.binding_graph.specs.code.Graph.{bindings_of}
use Rattle.binding_graph.proofs.Ranked.{next-is}
use Rattle.binding_graph.proofs.graph.Graph.remove_all.Goals as goal

pub loop-place-preserved : goal.loop-place-preserved
loop-place-preserved c =
    let rest : List Place = drop (c.loop-place.place-index + 1) c.args.places.now in
    let cut : drop c.loop-place.place-index c.args.places.now ≡ c.place-item.result ∷ rest = next-is c.args.places.now c.loop-place.place-index c.place-item.result c.loop-place-test.true c.place-item.is in
    record {
      left = ap (λ (bs : List Binding). without_all rest bs) c.remove.ensures.left
          ∙ sym (ap (λ (ps : List Place). without_all ps (bindings_of c.loop-place.self)) cut)
          ∙ c.loop-place.invariant.left;
      graph = c.remove.ensures.graph;
    }

pub returns-clause-left : goal.returns-clause-left
returns-clause-left c =
    sym (ap (λ (ps : List Place). without_all ps (bindings_of c.loop-place.self)) (drop_of_length-le c.args.places.now c.loop-place-test.false))
    ∙ c.loop-place.invariant.left
