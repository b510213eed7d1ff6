use Rattle.std.proofs.Common.{◌≡◌, ◌∙◌, ℕ, Bool, true, false, not, eqb, List, [], drop, inl, inr, refl, ap, sym, subst}
use Rattle.std.proofs.lemmas.Bool.{cases_Bool, eqb-true, false≢true}
use Rattle.std.proofs.Math.ListN.{drop_of_length-le}
use Rattle.binding_graph.specs.declared.place.Place.{Place}
use Rattle.binding_graph.specs.declared.binding.Binding.{Binding}
use Rattle.binding_graph.specs.Bindings.{binding_at, touches}
use Rattle.binding_graph.specs.code.Graph.{bindings_of}
use Rattle.binding_graph.specs.code.Keys.{key_of}
use Rattle.binding_graph.specs.code.Lists.{is_key_in}
use Rattle.binding_graph.proofs.Dropping.{none-dropped}
use Rattle.binding_graph.proofs.Graphs.{graph-of}
use Rattle.binding_graph.proofs.Members.{key-next}
use Rattle.binding_graph.proofs.graph.Graph.remove_touching.Goals as goal

pub loop-target-preserved : goal.loop-target-preserved
loop-target-preserved c = record {
  indexed = c.remove_if_touching.ensures.indexed;
  touched = c.remove_if_touching.ensures.touched;
  left = c.remove_if_touching.ensures.left ∙ c.loop-target.invariant.left;
  listed = λ q b some t.
      let was = c.remove_if_touching.ensures.gone q b some t in
      elim (key-next c.args.targets.now c.loop-target.target-index _ (key_of q) c.at.result c.at.ensures c.loop-target-test.true (c.loop-target.invariant.listed q b was.0 t)) [
        | inl j ↦ j
        | inr e ↦ absurd (was.1 e)
      ];
}

pub returns-clause-left : goal.returns-clause-left
returns-clause-left c =
    let o = c.args.object in
    let bs : List Binding = bindings_of c.loop-target.self in
    let none : drop c.loop-target.target-index c.args.targets.now ≡ [] = drop_of_length-le c.args.targets.now c.loop-target-test.false in
    sym (none-dropped o bs false c.loop-target.invariant.indexed.apart (λ q b some t. sym (ap (is_key_in (key_of q)) none) ∙ c.loop-target.invariant.listed q b some t) refl)
    ∙ c.loop-target.invariant.left

pub returns-clause-graph : goal.returns-clause-graph
returns-clause-graph c =
    let none : drop c.loop-target.target-index c.args.targets.now ≡ [] = drop_of_length-le c.args.targets.now c.loop-target-test.false in
    graph-of c.loop-target.self c.loop-target.invariant.indexed
    (λ q b o some t passes. elim (cases_Bool (eqb c.args.object o)) [
      | inl e ↦
          let own : touches c.args.object b ≡ true = ap (λ (k : ℕ). touches k b) (eqb-true c.args.object o e) ∙ t in
          absurd (false≢true (sym (ap (is_key_in (key_of q)) none) ∙ c.loop-target.invariant.listed q b some own))
      | inr f ↦ c.loop-target.invariant.touched q b o some t (ap not f)
    ])
