use Rattle.std.proofs.Common.{◌∙◌, ap}
use Rattle.connections.specs.Connected.{Held, are_connected}
use Rattle.connections.proofs.Asked.{any-either}
use Rattle.connections.proofs.connections.Connections.are_connected.Goals as goal

pub returns : goal.returns
returns c =
    c.lead_to_any.ensures
    ∙ any-either c.self.inside.cells c.self.inside.lists c.self.inside.last c.args.sender c.args.signal c.args.receiver c.args.method c.of_either-places.result.now c.self.invariant.leads c.of_either-places.ensures
    ∙ ap (λ (h : Held). are_connected c.args.sender c.args.signal c.args.receiver c.args.method h.connected) c.self.view_is
