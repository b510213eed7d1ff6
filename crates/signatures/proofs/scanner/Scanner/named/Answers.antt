use Rattle.signatures.proofs.Reading.{no_name, two_consts, const_before}
use Rattle.signatures.proofs.scanner.Scanner.named.Goals as goal

pub returns-in_err-name : goal.returns-in_err-name
returns-in_err-name c =
    rw c.from_residual.ensures (no_name c.eat_const-is_before.result c.args.self.now c.eat_const-is_before.new.self c.eat_const-is_before.ensures.found c.in_err-name.ensures.found)

pub returns-in-true-true : goal.returns-in-true-true
returns-in-true-true c =
    let e = c.in-true-true.ensures.found in
    let f = c.in-true-true.ensures'.found in
    let g = c.in_ok-name.ensures.found.0 in
    two_consts c.args.self.now c.in_ok-name.name.now c.eat_const-is_after.new.self (cc)

pub returns-in-true-false : goal.returns-in-true-false
returns-in-true-false c =
    let e = c.in-true-false.ensures.found in
    let f = c.in-true-false.ensures'.found.0 in
    let g = c.in_ok-name.ensures.found.0 in
    const_before c.args.self.now c.in_ok-name.name.now c.eat_const-is_after.new.self c.in_ok-name.ensures.found.1 (cc)
