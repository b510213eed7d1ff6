-- What a verdict goes by where no certificate is given (docs/verdict.md, "Exit status").
use Rattle.std.specs.Prelude.{◌≡◌, ◌≢◌, ℕ, List, Bool, true, false}
use Rattle.class_lang.specs.declared.size.Limits.{Limits}
use Rattle.rank_make.specs.declared.why.Why.TheVariants.{Cycle}
use Rattle.program_commands.specs.declared.outcome.Outcome.{Outcome}
use Rattle.program_commands.specs.declared.outcome.Outcome.TheVariants.{Uncertified}
use Rattle.program_commands.specs.Commands.{CertifyComesTo}
use Rattle.program_commands.specs.Outcomes.{outcome_status}
use Rattle.program_commands.specs.Settling.{CertifySettlingComesTo}

-- no certificate was made, and a cycle is why
abbrev pub is_cycle : Outcome → Bool
is_cycle (Uncertified p (Cycle nodes)) = true
is_cycle _ = false

-- What `certify` comes to, where that is no cycle. Where it is one, what `certify --settling` comes to, but the cycle where that has a
-- reason too.
pub data CertifiesOrSettles (limits : Limits) (program : List ℕ) (outcome : Outcome) : Type 0 where
  certifies : CertifyComesTo limits program outcome → is_cycle outcome ≡ false → CertifiesOrSettles limits program outcome
  settles : (cycle : Outcome) → CertifyComesTo limits program cycle → is_cycle cycle ≡ true → CertifySettlingComesTo limits program outcome
      → outcome_status outcome ≢ 3 → CertifiesOrSettles limits program outcome
  circles : CertifyComesTo limits program outcome → is_cycle outcome ≡ true → (other : Outcome) → CertifySettlingComesTo limits program other
      → outcome_status other ≡ 3 → CertifiesOrSettles limits program outcome
