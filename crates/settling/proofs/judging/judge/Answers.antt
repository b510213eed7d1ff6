use Rattle.meta_model.specs.Loaded.{Loaded}
use Rattle.rank_check.specs.Entries.{BreaksProgram}
use Rattle.rank_check.specs.declared.no.No.{No}
use Rattle.rank_check.specs.declared.no.No.TheVariants.{Wire, BodyType, Missing, Extra, Edge, Destroys, Bound, Memory}
use Rattle.settling.specs.Checks.{IsNo}
use Rattle.settling.specs.declared.certificate.SettlingCertificate.{SettlingCertificate}
use Rattle.settling.proofs.judging.judge.Goals as goal

broken : (p : Loaded) (certificate : SettlingCertificate) (reason : No) → BreaksProgram p reason → IsNo p certificate reason
broken p certificate Wire h = h
broken p certificate BodyType h = h
broken p certificate Missing h = absurd h
broken p certificate Extra h = absurd h
broken p certificate Edge h = absurd h
broken p certificate Destroys h = absurd h
broken p certificate Bound h = absurd h
broken p certificate Memory h = tt

pub returns-in-Err : goal.returns-in-Err
returns-in-Err c = rw c.no.ensures (broken c.args.meta.now c.args.certificate.now _ c.in-Err.ensures.program)
