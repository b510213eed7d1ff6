use Rattle.std.proofs.Common.{refl}
use Rattle.token_reading.proofs.PlainReferences.{plain_here, plain_step}
use Rattle.token_reading.proofs.signature.has_plain_reference.Goals as goal
use Rattle.token_reading.proofs.signature.has_plain_reference.Goals.{else-not-after_const-via-then-not-after_const+else-begins_with_reference, else-not-after_const-via-else-not-after_const}

pub returns-then-begins_with_reference : goal.returns-then-begins_with_reference
returns-then-begins_with_reference c =
    let w = c.if-begins_with_reference.ensures.0 refl in
    (λ k. c.loop-token.invariant.1 (rw c.if-not-after_const.true (plain_here w.0 w.1 c.loop-token.left.now w.2)), λ k. refl)

pub loop-token-preserved : goal.loop-token-preserved
loop-token-preserved c =
    elim c.else-not-after_const.branch [
      | else-not-after_const-via-then-not-after_const+else-begins_with_reference w ↦
          plain_step c.loop-token.after_const c.is_const-after_const.result c.in-Some.token.now c.in-Some.after.now c.is_const-after_const.ensures c.loop-token.invariant c.in-Some.ensures.cases.0 (λ name rest plain e. let no = w.if-begins_with_reference.ensures.1 (name, rest, e) in cc)
      | else-not-after_const-via-else-not-after_const w ↦
          let after_const = w.if-not-after_const.false in
          plain_step c.loop-token.after_const c.is_const-after_const.result c.in-Some.token.now c.in-Some.after.now c.is_const-after_const.ensures c.loop-token.invariant c.in-Some.ensures.cases.0 (λ name rest plain e. cc)
    ]
