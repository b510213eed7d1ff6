use Rattle.std.proofs.Common.{◌≡◌, ◌∙◌, ap, List, ℕ, arith, count_by}
use Rattle.std.specs.Vec.{vec_len}
use Rattle.connections.specs.Connected.{Held, removed_in, without}
use Rattle.connections.specs.code.Cells.{fits}
use Rattle.connections.specs.code.Lists.{shown_in}
use Rattle.connections.specs.declared.connection.Connection.{Connection}
use Rattle.connections.proofs.Counts.{more_marked}
use Rattle.connections.proofs.Lost.{Loses-retired, Tied-lost, shown-lost}
use Rattle.connections.proofs.Stale.{Tied-tidied, shown-tidied}
use Rattle.connections.proofs.connections.Connections.remove.Goals as goal

pub remove-requires-clause-led : goal.remove-requires-clause-led
remove-requires-clause-led c = (c.self.inside.last, c.self.invariant.leads)

pub invariant_of-self : goal.invariant_of-self
invariant_of-self c =
    let lost = Loses-retired c.args.removal c.self.inside.cells c.remove.new.cells c.remove.ensures.cells in
    Tied-tidied c.remove.new.cells c.self.inside.lists c.remove.new.lists c.remove.new.marked c.self.inside.last c.remove.ensures.lists
    (Tied-lost (fits c.args.removal) c.self.inside.cells c.remove.new.cells lost c.self.inside.lists c.self.inside.marked c.remove.new.marked c.self.inside.last c.remove.ensures.marked c.self.invariant)

pub returns-clause-removed : goal.returns-clause-removed
returns-clause-removed c =
    let with : List Connection → ℕ → Held = λ cs n. record { connected = record { connections = cs; last = c.self.inside.last }; marked = n } in
    let lost = Loses-retired c.args.removal c.self.inside.cells c.remove.new.cells c.remove.ensures.cells in
    ap (λ (cs : List Connection). with cs (vec_len c.remove.new.marked)) (shown-tidied c.remove.new.cells c.self.inside.lists c.remove.new.lists c.remove.ensures.lists ∙ shown-lost (fits c.args.removal) c.self.inside.cells c.remove.new.cells lost c.self.inside.lists)
    ∙ ap (λ (n : ℕ). with (without (fits c.args.removal) (shown_in c.self.inside.cells c.self.inside.lists)) n) (more_marked c.self.inside.cells c.remove.new.cells c.self.inside.lists c.args.removal c.remove.ensures.cells c.self.inside.marked c.remove.new.marked c.self.inside.last c.self.invariant c.remove.ensures.marked)
    ∙ ap (removed_in (fits c.args.removal)) c.self.view_is

pub returns-clause-count : goal.returns-clause-count
returns-clause-count c =
    let more = more_marked c.self.inside.cells c.remove.new.cells c.self.inside.lists c.args.removal c.remove.ensures.cells c.self.inside.marked c.remove.new.marked c.self.inside.last c.self.invariant c.remove.ensures.marked in
    let same : c.remove.result ≡ count_by (fits c.args.removal) (shown_in c.self.inside.cells c.self.inside.lists) = omega (arith, more, c.remove.ensures.count) in
    same ∙ ap (λ (h : Held). count_by (fits c.args.removal) h.connected.connections) c.self.view_is
