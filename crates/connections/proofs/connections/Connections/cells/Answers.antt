use Rattle.std.proofs.Common.{◌+◌, length, ◌∙◌, ap}
use Rattle.connections.specs.Connected.{Held}
use Rattle.connections.proofs.Counts.{cells-taken}
use Rattle.connections.proofs.connections.Connections.cells.Goals as goal

pub returns : goal.returns
returns c =
    c.len.ensures
    ∙ cells-taken c.self.inside.cells c.self.inside.lists c.self.inside.marked c.self.inside.last c.self.invariant
    ∙ ap (λ (h : Held). h.marked + length h.connected.connections) c.self.view_is
