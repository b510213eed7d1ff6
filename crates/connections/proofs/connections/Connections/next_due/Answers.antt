use Rattle.std.proofs.Common.{◌∙◌, ap, sym}
use Rattle.std.specs.List.{find}
use Rattle.connections.specs.Connected.{Held, is_of, is_due, not_above}
use Rattle.connections.specs.code.CellPlaces.{live, first_above}
use Rattle.connections.specs.code.Lists.{shown_in, all_of}
use Rattle.connections.proofs.Asked.{find-of_signal, find_due, Rises-live}
use Rattle.connections.proofs.connections.Connections.next_due.Goals as goal

pub next_above-next-requires : goal.next_above-next-requires
next_above-next-requires c =
    (c.self.inside.last, rw c.of_signal_near-places.ensures (c.self.invariant.leads.by_signal c.args.sender c.args.signal).rising)

pub returns : goal.returns
returns c =
    c.not_above.ensures
    ∙ ap (not_above c.args.made)
    (c.next_above-next.ensures
    ∙ ap (λ ps. first_above c.args.used (live c.self.inside.cells ps)) c.of_signal_near-places.ensures
    ∙ find-of_signal c.self.inside.cells c.self.inside.lists c.self.inside.last c.args.sender c.args.signal c.args.used c.self.invariant.leads)
    ∙ sym (find_due (is_of c.args.sender c.args.signal) c.args.used c.args.made 0 c.self.inside.last (shown_in c.self.inside.cells c.self.inside.lists) (Rises-live c.self.inside.cells 0 c.self.inside.last (all_of c.self.inside.lists) c.self.invariant.leads.all.rising))
    ∙ ap (λ (h : Held). find (λ x. is_due c.args.sender c.args.signal c.args.used c.args.made x) h.connected.connections) c.self.view_is
