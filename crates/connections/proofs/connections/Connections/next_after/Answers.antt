use Rattle.std.proofs.Common.{◌∙◌, ap}
use Rattle.std.specs.List.{find}
use Rattle.connections.specs.Connected.{Held, is_later}
use Rattle.connections.specs.code.CellPlaces.{live, first_above}
use Rattle.connections.proofs.Asked.{find-of_signal}
use Rattle.connections.proofs.connections.Connections.next_after.Goals as goal

pub next_above-requires : goal.next_above-requires
next_above-requires c =
    (c.self.inside.last, rw c.of_signal-places.ensures (c.self.invariant.leads.by_signal c.args.sender c.args.signal).rising)

pub returns : goal.returns
returns c =
    c.next_above.ensures
    ∙ ap (λ ps. first_above c.args.number (live c.self.inside.cells ps)) c.of_signal-places.ensures
    ∙ find-of_signal c.self.inside.cells c.self.inside.lists c.self.inside.last c.args.sender c.args.signal c.args.number c.self.invariant.leads
    ∙ ap (λ (h : Held). find (λ x. is_later c.args.sender c.args.signal c.args.number x) h.connected.connections) c.self.view_is
