use Rattle.std.proofs.Common.{refl}
use Rattle.basic_types.specs.Signatures.{IsPart}
use Rattle.signatures.specs.code.Scanning.{token_of}
use Rattle.signatures.proofs.Closed.{closed_part, closed_end, closed_last}
use Rattle.signatures.proofs.scanner.Scanner.is_closed.Goals as goal

pub returns-then-is_mark : goal.returns-then-is_mark
returns-then-is_mark c =
    let apart : ¬ IsPart (token_of c.in-Some.scanned) = λ h. let e = c.if-not-is_part.ensures.1 h in cc in
    let last = closed_last c.next-then-is_mark.result c.is_none.result (token_of c.in-Some.scanned) c.next.new.self c.next-then-is_mark.new.self c.next-then-is_mark.ensures c.is_none.ensures apart (c.if-is_mark.ensures.0 refl) in
    (λ h. c.loop-scanned.invariant.0 (rw c.in-Some.ensures (last.0 h)), λ h. last.1 (rw c.in-Some.ensures at (c.loop-scanned.invariant.1 h)))

pub returns-else-is_mark : goal.returns-else-is_mark
returns-else-is_mark c =
    let apart : ¬ IsPart (token_of c.in-Some.scanned) = λ h. let e = c.if-not-is_part.ensures.1 h in cc in
    (λ h. absurd (cc), λ h. rw c.if-is_mark.false (c.if-is_mark.ensures.1 (closed_end (token_of c.in-Some.scanned) c.next.new.self apart (rw c.in-Some.ensures at (c.loop-scanned.invariant.1 h))).0))

pub loop-scanned-preserved : goal.loop-scanned-preserved
loop-scanned-preserved c =
    let part = closed_part (token_of c.in-Some.scanned) c.next.new.self (c.if-not-is_part.ensures.0 refl) in
    (λ h. c.loop-scanned.invariant.0 (rw c.in-Some.ensures (part.1 h)), λ h. part.0 (rw c.in-Some.ensures at (c.loop-scanned.invariant.1 h)))
