use Rattle.std.proofs.Common.{inl, sym, subst}
use Rattle.binding_graph.specs.declared.place.Place.{Place}
use Rattle.binding_graph.specs.declared.binding.Binding.{Binding}
use Rattle.binding_graph.specs.code.Graph.{LosesTarget, bindings_in}
use Rattle.binding_graph.proofs.Keyed.{target-of}
use Rattle.binding_graph.proofs.graph.leave_old.Goals as goal

pub returns-in-Some : goal.returns-in-Some
returns-in-Some c =
    subst (λ (p : Place). LosesTarget c.args.new.now p c.args.touching.now c.leave_to.new.self)
    (target-of (bindings_in c.args.installed.now) c.args.new.now.target c.in-Some.old.now (sym c.in-Some.ensures))
    (subst (λ (b : Binding). LosesTarget c.args.new.now b.target c.args.touching.now c.leave_to.new.self) c.binding.ensures c.leave_to.ensures)

pub returns-in-None : goal.returns-in-None
returns-in-None c = λ o q i. inl i
