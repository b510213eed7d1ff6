use Rattle.std.proofs.lemmas.Result.{err_from_is_err_and}
use Rattle.signatures.proofs.Reading.{none_found, found_more, no_types, found_all}
use Rattle.signatures.proofs.scanner.Scanner.types.Goals as goal

pub loop-is_last-init : goal.loop-is_last-init
loop-is_last-init c = rw c.new-types.ensures (none_found c.eat-is_last.result c.args.self.now c.eat-is_last.new.self c.eat-is_last.ensures.found)

pub returns-in_err-kind : goal.returns-in_err-kind
returns-in_err-kind c =
    let p = err_from_is_err_and c.from_residual.result c.from_residual.ensures.1 in
    let h = rw c.loop-is_last-test.true at c.loop-is_last.invariant in
    rw (p.1, p.2) (no_types c.args.self.now c.loop-is_last.self c.loop-is_last.types h c.in_err-kind.field-0.0 c.kind.new.self c.in_err-kind.ensures.read)

pub loop-is_last-preserved : goal.loop-is_last-preserved
loop-is_last-preserved c =
    let h = rw c.loop-is_last-test.true at c.loop-is_last.invariant in
    rw c.in_ok-push.ensures.ok (found_more c.args.self.now c.loop-is_last.self c.kind.new.self c.loop-is_last.types c.in_ok-kind.kind c.in_ok-kind.ends h c.in_ok-kind.ensures.read)

pub returns : goal.returns
returns c =
    let h = rw c.loop-is_last-test.false at c.loop-is_last.invariant in
    found_all c.args.self.now c.loop-is_last.self c.loop-is_last.types h
