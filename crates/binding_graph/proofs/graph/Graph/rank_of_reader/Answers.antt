use Rattle.std.proofs.Common.{◌≡◌, ◌∙◌, false, List, sym, subst}
use Rattle.std.proofs.lemmas.Option.{same_Some}
use Rattle.binding_graph.specs.declared.place.Place.{Place}
use Rattle.binding_graph.specs.declared.binding.Binding.{Binding}
use Rattle.binding_graph.specs.Places.{In, is_in}
use Rattle.binding_graph.specs.Bindings.{Reads, read_by}
use Rattle.binding_graph.proofs.Graphs.{ranked-reader}
use Rattle.binding_graph.proofs.Places.{is_in-false, is_in-true}
use Rattle.binding_graph.proofs.graph.Graph.rank_of_reader.Goals as goal

pub returns-in_default : goal.returns-in_default
returns-in_default c = λ b some reads. cc (c.in_default.ensures.reader, some)

pub returns-then-not-contains : goal.returns-then-not-contains
returns-then-not-contains c = λ b some reads.
    let same : c.in-Some.found.now ≡ b = same_Some c.in-Some.found.now b (c.in-Some.ensures.reader ∙ some) in
    is_in-false (read_by c.in-Some.found.now) c.args.source.now (subst (λ (xs : List Place). is_in xs c.args.source.now ≡ false) c.reads.ensures (sym c.contains.ensures ∙ c.if-not-contains.true)) (subst (λ (z : Binding). Reads z c.args.source.now) (sym same) reads)

pub returns : goal.returns
returns c = ranked-reader c.args.self.now c.requires c.args.reader.now c.args.source.now c.in-Some.found.now (sym c.in-Some.ensures.reader)
    (subst (λ (xs : List Place). In c.args.source.now xs) c.reads.ensures (is_in-true c.reads.result.now c.args.source.now (sym c.contains.ensures ∙ c.if-not-contains.false))) c.rank_near.result c.rank_near.ensures
