use Rattle.std.proofs.Common.{length, ap, sym, ◌∙◌}
use Rattle.std.proofs.lemmas.Bool.{eqb-true}
use Rattle.binding_graph.specs.code.Graph.{bindings_of}
use Rattle.binding_graph.specs.code.Keys.{key_of}
use Rattle.binding_graph.specs.code.Lists.{is_key_in}
use Rattle.binding_graph.proofs.Graphs.{none-bound}
use Rattle.binding_graph.proofs.Members.{none-has}
use Rattle.binding_graph.proofs.graph.Graph.is_unread.Goals as goal

pub returns-then-is_empty : goal.returns-then-is_empty
returns-then-is_empty c = λ yes q b some reads. none-bound (bindings_of c.args.self.now) (c.is_empty.ensures.0 c.if-is_empty.true) q b some

pub returns : goal.returns
returns c = λ yes q b some reads.
    none-has c.of.result.now (key_of q) (eqb-true (length c.of.result.now) 0 (sym c.is_empty-2.ensures ∙ yes))
    (ap (is_key_in (key_of q)) c.of.ensures ∙ c.requires.readers q c.args.place.now b some reads)
