use Rattle.std.proofs.Common.{inl, sym, subst}
use Rattle.binding_graph.specs.declared.place.Place.{Place}
use Rattle.binding_graph.specs.code.Graph.{LosesReader, bindings_in}
use Rattle.binding_graph.proofs.Keyed.{target-of}
use Rattle.binding_graph.proofs.graph.unlist.Goals as goal

pub returns-in-Some : goal.returns-in-Some
returns-in-Some c = subst (λ (p : Place). LosesReader c.args.kept.now p c.args.readers.now c.unlist.new.self) (target-of (bindings_in c.args.installed.now) c.args.place.now c.in-Some.old.now (sym c.in-Some.ensures)) c.unlist.ensures

pub returns-in-None : goal.returns-in-None
returns-in-None c = λ m q i. inl i
