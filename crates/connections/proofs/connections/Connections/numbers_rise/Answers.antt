use Rattle.std.proofs.Common.{subst}
use Rattle.connections.specs.Connected.{Held, Rises}
use Rattle.connections.specs.code.Lists.{all_of}
use Rattle.connections.proofs.Asked.{Rises-live}
use Rattle.connections.proofs.connections.Connections.numbers_rise.Goals as goal

pub returns : goal.returns
returns c =
    let RisesIn : Held → Type 0 = λ h. Rises 0 h.connected.connections h.connected.last in
    subst RisesIn c.self.view_is (Rises-live c.self.inside.cells 0 c.self.inside.last (all_of c.self.inside.lists) c.self.invariant.leads.all.rising)
