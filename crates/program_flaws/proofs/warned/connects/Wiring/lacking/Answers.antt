use Rattle.meta_model.proofs.InLists.{covered_by}
use Rattle.program_flaws.proofs.Wiring.{covering-serves}
use Rattle.program_flaws.proofs.warned.connects.Wiring.lacking.Goals as goal

pub returns-else-is_served : goal.returns-else-is_served
returns-else-is_served c = λ class d signal method want wired.
    let covers = covered_by wired in
    let serves = covering-serves c.classes-classes.ensures.sound covers.wire _ class d signal method want covers.by in
    let served = c.is_served.ensures (record { wire = covers.wire; declared = covers.declared; serves = serves }) in
    let unserved = c.if-is_served.false in
    absurd (cc)
