use Rattle.std.proofs.Common.{◌↔◌, length}
use Rattle.token_reading.specs.Signatures.{HasPlainReference}
use Rattle.token_reading.proofs.PlainReferences.{PlainFrom}
use Rattle.token_reading.proofs.signature.has_plain_reference.Given as goal

abbrev pub invariant-loop-token : goal.invariant-loop-token
invariant-loop-token l = HasPlainReference l.tokens ↔ PlainFrom l.after_const l.left

abbrev pub decreases-loop-token : goal.decreases-loop-token
decreases-loop-token l = length l.left
