use Rattle.std.proofs.Common.{◌≡◌, ◌∙◌, ◌++◌, ◌∷◌, [], None, List, ap, subst}
use Rattle.binding_graph.specs.declared.place.Place.{Place}
use Rattle.binding_graph.specs.declared.binding.Binding.{Binding}
use Rattle.binding_graph.specs.Bindings.{binding_at, replaced, without}
use Rattle.binding_graph.specs.code.Graph.{LosesReader, LosesTarget, bindings_in}
use Rattle.binding_graph.proofs.Graphs.{installed-graph}
use Rattle.binding_graph.specs.code.BindingRanks.{rank_of}
use Rattle.binding_graph.proofs.Ranking.{ranked-later}
use Rattle.binding_graph.proofs.Replaced.{without-at}
use Rattle.binding_graph.proofs.graph.Graph.install.Goals as goal

pub push-requires-clause-unbound : goal.push-requires-clause-unbound
push-requires-clause-unbound c = subst (λ (z : Binding). binding_at (bindings_in c.remove.new.self) z.target ≡ None) c.binding.ensures
    (ap (λ (xs : List Binding). binding_at xs c.binding.result.now.target) c.remove.ensures.left ∙ without-at c.binding.result.now.target (bindings_in c.args.self.now.installed))

pub returns-clause-replaced : goal.returns-clause-replaced
returns-clause-replaced c = c.push.ensures.pushed ∙ ap (λ (xs : List Binding). xs ++ c.args.reader ∷ []) (c.remove.ensures.left ∙ ap (λ (z : Binding). without z.target (bindings_in c.args.self.now.installed)) c.binding.ensures)

pub renumber-requires : goal.renumber-requires
renumber-requires c = c.requires.numbers

pub returns-clause-graph : goal.returns-clause-graph
returns-clause-graph c = installed-graph c.args.self.now (record { installed = c.push.new.self; readers = c.unlist.new.readers; ranks = c.renumber.new.self; touching = c.leave_old.new.touching }) c.args.reader c.requires.graph c.push.ensures.keyed
    (c.push.ensures.pushed ∙ ap (λ (xs : List Binding). xs ++ c.args.reader ∷ []) (c.remove.ensures.left ∙ ap (λ (z : Binding). without z.target (bindings_in c.args.self.now.installed)) c.binding.ensures))
    (c.renumber.ensures (binding_at (replaced (bindings_in c.args.self.now.installed) c.args.reader))
    (ranked-later (binding_at (bindings_in c.args.self.now.installed)) (binding_at (replaced (bindings_in c.args.self.now.installed) c.args.reader)) c.args.reader.target c.args.moved.now (rank_of c.args.self.now.ranks) c.args.self.now.ranks.next c.requires.later c.requires.graph.ranks))
    (subst (λ (z : Binding). LosesTarget z z.target c.args.self.now.touching c.leave_old.new.touching) c.binding-2.ensures c.leave_old.ensures)
    c.requires.touched c.requires.named
    (subst (λ (kept : List Place). LosesReader kept c.args.reader.target c.args.self.now.readers c.unlist.new.readers) c.reads.ensures
    (subst (λ (z : Binding). LosesReader c.reads.result.now z.target c.args.self.now.readers c.unlist.new.readers) c.binding.ensures c.unlist.ensures))
