use Rattle.std.proofs.Common.{refl}
use Rattle.program_commands.specs.Settling.{Certifies, made, none}
use Rattle.rank_make.specs.declared.why.Why.TheVariants.{Memory}
use Rattle.program_commands.proofs.settling_commands.commands.certify_loaded.Goals as goal

pub told_reason-told-requires : goal.told_reason-told-requires
told_reason-told-requires c = c.in-Err.ensures.makes

pub returns-in-Ok-settling_text : goal.returns-in-Ok-settling_text
returns-in-Ok-settling_text c = rw (c.from_vec.ensures, c.in-Ok-settling_text.ensures) (made c.in-Ok.certificate c.in-Ok.ensures.makes c.in-Ok.ensures.flat c.in-Ok.ensures.least)

pub returns-in-Ok : goal.returns-in-Ok
returns-in-Ok c = none Memory tt (λ given valid. refl)

pub returns : goal.returns
returns c = none _ c.told_reason-told.ensures.told (λ given valid. c.told_reason-told.ensures.memory (c.in-Err.ensures.flat given valid))
