use Rattle.std.proofs.Common.{false, ◌∙◌, ap, List}
use Rattle.connections.specs.Connected.{Connected, Held}
use Rattle.connections.specs.code.Lists.{shown_in}
use Rattle.connections.specs.declared.connection.Connection.{Connection}
use Rattle.connections.proofs.Lost.{Loses-swept, Tied-lost, shown-lost, without-none}
use Rattle.connections.proofs.Stale.{Tied-tidied, shown-tidied}
use Rattle.connections.proofs.connections.Connections.sweep.Goals as goal

pub invariant_of-self : goal.invariant_of-self
invariant_of-self c =
    let lost = Loses-swept c.self.inside.cells c.sweep.new.cells c.sweep.ensures.cells in
    Tied-tidied c.sweep.new.cells c.self.inside.lists c.tidy-self-inside.new.lists c.sweep.new.marked c.self.inside.last c.tidy-self-inside.ensures
    (Tied-lost (λ _. false) c.self.inside.cells c.sweep.new.cells lost c.self.inside.lists c.self.inside.marked c.sweep.new.marked c.self.inside.last c.sweep.ensures.marked c.self.invariant)

pub returns-clause-connected : goal.returns-clause-connected
returns-clause-connected c =
    let with : List Connection → Connected = λ cs. record { connections = cs; last = c.self.inside.last } in
    let lost = Loses-swept c.self.inside.cells c.sweep.new.cells c.sweep.ensures.cells in
    ap with (shown-tidied c.sweep.new.cells c.self.inside.lists c.tidy-self-inside.new.lists c.tidy-self-inside.ensures ∙ shown-lost (λ _. false) c.self.inside.cells c.sweep.new.cells lost c.self.inside.lists ∙ without-none (shown_in c.self.inside.cells c.self.inside.lists))
    ∙ ap (λ (h : Held). h.connected) c.self.view_is
