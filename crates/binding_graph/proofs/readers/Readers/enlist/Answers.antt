use Rattle.std.proofs.Common.{take, ◌∷◌, [], inl, inr, sym, subst}
use Rattle.binding_graph.proofs.Ranked.{taken-places}
use Rattle.binding_graph.specs.declared.place.Place.{Place}
use Rattle.binding_graph.specs.declared.binding.Binding.{Binding}
use Rattle.binding_graph.specs.Places.{In}
use Rattle.binding_graph.specs.code.Graph.{Named}
use Rattle.binding_graph.proofs.Places.{In-cases}
use Rattle.binding_graph.proofs.Ranked.{next-taken}
use Rattle.binding_graph.proofs.readers.Readers.enlist.Goals as goal

pub loop-source-preserved : goal.loop-source-preserved
loop-source-preserved c =
    let cut = next-taken c.reads-sources.result.now c.loop-source.source-index c.source-item.result c.loop-source-test.true c.source-item.is in
    record {
      kept = λ m q i. c.add.ensures.kept m q (c.loop-source.invariant.kept m q i);
      named = λ m i. elim (In-cases m (take c.loop-source.source-index c.reads-sources.result.now) (c.source-item.result ∷ []) (subst (In m) cut i)) [
        | inl j ↦ c.add.ensures.kept m c.binding.result.now.target (c.loop-source.invariant.named m j)
        | inr j ↦ elim j [ inl e ↦ subst (λ (p : Place). Named c.add.new.self p c.binding.result.now.target) e c.in_ok-add.ensures.there | inr k ↦ absurd k ]
      ];
    }

pub returns-in_err-add-clause-kept : goal.returns-in_err-add-clause-kept
returns-in_err-add-clause-kept c = λ m q i. c.add.ensures.kept m q (c.loop-source.invariant.kept m q i)

pub returns-clause-named : goal.returns-clause-named
returns-clause-named c = λ m reads.
    subst (λ (b : Binding). Named c.loop-source.self m b.target) c.binding.ensures
    (c.loop-source.invariant.named m (subst (In m) (sym (taken-places c.reads-sources.result.now c.loop-source.source-index c.loop-source-test.false)) (subst (In m) (sym c.reads-sources.ensures) reads)))
