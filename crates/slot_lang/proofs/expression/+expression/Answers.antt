use Rattle.std.proofs.Common.{length, ap, refl, arith}
use Rattle.std.proofs.lemmas.Result.{err_from_is_err_and}
use Rattle.slot_lang.proofs.Chains.{chain_no_first, chain_start, chain_step, chain_stuck, chain_done}
use Rattle.slot_lang.proofs.Factors.{prefix_reads, group_reads, path_reads, literal_found, no_factor_at_symbol, no_factor_at_token, no_factor_at_end}
use Rattle.slot_lang.proofs.Levels.{chain_at, no_left, alone_found, no_right, compared_found}
use Rattle.slot_lang.specs.declared.precedence.Level.TheVariants as level
use Rattle.syntax_trees.specs.declared.syntax.Root.TheVariants as root
use Rattle.syntax_trees.specs.declared.syntax.Unary.TheVariants as unary
use Rattle.slot_lang.proofs.expression.+expression.Goals as goal

-- ---- rules that group to the left

pub expression-returns-in_err-first-clause-reads : goal.expression-returns-in_err-first-clause-reads
expression-returns-in_err-first-clause-reads t c =
    let p = err_from_is_err_and c.from_residual.result c.from_residual.ensures.1 in
    rw (p.1, p.2) (λ k. chain_no_first (chain_at level.Or) (c.in_err-first.ensures.reads k))

pub expression-returns-clause-reads : goal.expression-returns-clause-reads
expression-returns-clause-reads t c = c.go_on.ensures.reads _ c.in_ok-first.ensures.reads

pub conjunction-returns-in_err-first-clause-reads : goal.conjunction-returns-in_err-first-clause-reads
conjunction-returns-in_err-first-clause-reads t c =
    let p = err_from_is_err_and c.from_residual.result c.from_residual.ensures.1 in
    rw (p.1, p.2) (λ k. chain_no_first (chain_at level.And) (c.in_err-first.ensures.reads k))

pub conjunction-returns-clause-reads : goal.conjunction-returns-clause-reads
conjunction-returns-clause-reads t c = c.go_on.ensures.reads _ c.in_ok-first.ensures.reads

pub sum-returns-in_err-first-clause-reads : goal.sum-returns-in_err-first-clause-reads
sum-returns-in_err-first-clause-reads t c =
    let p = err_from_is_err_and c.from_residual.result c.from_residual.ensures.1 in
    rw (p.1, p.2) (λ k. chain_no_first (chain_at level.Sum) (c.in_err-first.ensures.reads k))

pub sum-returns-clause-reads : goal.sum-returns-clause-reads
sum-returns-clause-reads t c = c.go_on.ensures.reads _ c.in_ok-first.ensures.reads

pub term-returns-in_err-first-clause-reads : goal.term-returns-in_err-first-clause-reads
term-returns-in_err-first-clause-reads t c =
    let p = err_from_is_err_and c.from_residual.result c.from_residual.ensures.1 in
    rw (p.1, p.2) (λ k. chain_no_first (chain_at level.Term) (c.in_err-first.ensures.reads k))

pub term-returns-clause-reads : goal.term-returns-clause-reads
term-returns-clause-reads t c = c.go_on.ensures.reads _ c.in_ok-first.ensures.reads

-- ---- what follows their first operand

pub go_on-returns-then-is_operator_next-clause-reads : goal.go_on-returns-then-is_operator_next-clause-reads
go_on-returns-then-is_operator_next-clause-reads t c = λ before f. c.chain.ensures.reads before (rw c.if-is_operator_next.ensures.same f)

pub go_on-returns-else-is_operator_next-clause-reads : goal.go_on-returns-else-is_operator_next-clause-reads
go_on-returns-else-is_operator_next-clause-reads t c =
    let none = rw c.precedence.ensures at (c.if-is_operator_next.ensures.none refl) in
    λ before f. rw c.if-is_operator_next.ensures.same (chain_done (chain_at c.args.level) (chain_start (chain_at c.args.level) f) none)

pub chain-loop-operator-init : goal.chain-loop-operator-init
chain-loop-operator-init t c = record { so_far = λ before f. chain_start (chain_at c.args.level) f; no_longer = omega arith }

pub chain-returns-in_err-right-clause-reads : goal.chain-returns-in_err-right-clause-reads
chain-returns-in_err-right-clause-reads t c =
    let p = err_from_is_err_and c.from_residual.result c.from_residual.ensures.1 in
    let found = rw c.precedence.ensures at c.in-Some.ensures.found in
    rw (p.1, p.2) (λ before f k. chain_stuck (chain_at c.args.level) (c.loop-operator.invariant.so_far before f) c.in-Some.operator found.0 found.1 (c.in_err-right.ensures.reads k))

pub chain-loop-operator-preserved : goal.chain-loop-operator-preserved
chain-loop-operator-preserved t c =
    let found = rw c.precedence.ensures at c.in-Some.ensures.found in
    record {
      so_far = λ before f. rw c.in_ok-left.ensures (chain_step (chain_at c.args.level) (c.loop-operator.invariant.so_far before f) c.in-Some.operator found.0 found.1 c.in_ok-right.ensures.reads);
      no_longer = omega (arith, c.in-Some.ensures.shorter, c.in_ok-right.ensures.shorter);
    }

pub chain-returns-clause-reads : goal.chain-returns-clause-reads
chain-returns-clause-reads t c =
    let found = rw c.precedence.ensures at c.in_default.ensures.found in
    λ before f. rw found.0 (chain_done (chain_at c.args.level) (c.loop-operator.invariant.so_far before f) found.1)

-- ---- what stands between their operators

pub operand-returns-in-Or-clause-reads : goal.operand-returns-in-Or-clause-reads
operand-returns-in-Or-clause-reads t c = rw c.in-Or.is c.conjunction.ensures.reads

pub operand-returns-in-And-clause-reads : goal.operand-returns-in-And-clause-reads
operand-returns-in-And-clause-reads t c = rw c.in-And.is c.comparison.ensures.reads

pub operand-returns-in-Sum-clause-reads : goal.operand-returns-in-Sum-clause-reads
operand-returns-in-Sum-clause-reads t c = rw c.in-Sum.is c.term.ensures.reads

pub operand-returns-in-Term-clause-reads : goal.operand-returns-in-Term-clause-reads
operand-returns-in-Term-clause-reads t c = rw c.in-Term.is c.factor.ensures.reads

-- ---- comparison

pub comparison-returns-in_err-left-clause-reads : goal.comparison-returns-in_err-left-clause-reads
comparison-returns-in_err-left-clause-reads t c =
    let p = err_from_is_err_and c.from_residual.result c.from_residual.ensures.1 in
    rw (p.1, p.2) (λ k. no_left (c.in_err-left.ensures.reads k))

pub comparison-returns-in_err-right-in-Some-clause-reads : goal.comparison-returns-in_err-right-in-Some-clause-reads
comparison-returns-in_err-right-in-Some-clause-reads t c =
    let p = err_from_is_err_and c.from_residual-in_err-right-in-Some.result c.from_residual-in_err-right-in-Some.ensures.1 in
    let found = c.in-Some.ensures.found in
    rw (p.1, p.2) (λ k. no_right c.in_ok-left.ensures.reads c.in-Some.operator found.0 found.1 (c.in_err-right-in-Some.ensures.reads k))

pub comparison-returns-in_ok-compared-in-Some-clause-reads : goal.comparison-returns-in_ok-compared-in-Some-clause-reads
comparison-returns-in_ok-compared-in-Some-clause-reads t c =
    let found = c.in-Some.ensures.found in
    rw c.in_ok-compared-in-Some.ensures (compared_found c.in_ok-left.ensures.reads c.in-Some.operator found.0 found.1 c.in_ok-right-in-Some.ensures.reads)

pub comparison-returns-in-None-clause-reads : goal.comparison-returns-in-None-clause-reads
comparison-returns-in-None-clause-reads t c = rw c.in-None.ensures.found.0 (alone_found c.in_ok-left.ensures.reads c.in-None.ensures.found.1)

-- ---- factor

pub factor-returns-then-eat_word-clause-reads : goal.factor-returns-then-eat_word-clause-reads
factor-returns-then-eat_word-clause-reads t c = path_reads root.This c.eat_word.new.self c.path_from.new.cursor c.path_from.result c.if-eat_word.ensures.found c.path_from.ensures.reads

pub factor-returns-in_err-token-clause-reads : goal.factor-returns-in_err-token-clause-reads
factor-returns-in_err-token-clause-reads t c =
    let p = err_from_is_err_and c.from_residual.result c.from_residual.ensures.1 in
    let same = c.if-eat_word.ensures.found.0 in
    rw (p.1, p.2) (λ k. no_factor_at_end (rw same at c.in_err-token.ensures.found.1))

pub factor-returns-in_err-literal-in_default : goal.factor-returns-in_err-literal-in_default
factor-returns-in_err-literal-in_default t c =
    let p = err_from_is_err_and c.from_residual-in_err-literal-in_default.result c.from_residual-in_err-literal-in_default.ensures.1 in
    let same = c.if-eat_word.ensures.found.0 in
    record {
      reads = rw (p.1, p.2) (λ k. no_factor_at_token c.in_ok-token.token.now (rw same at c.in_ok-token.ensures.found) c.if-eat_word.ensures.found.1 c.in_default.not-Symbol c.in_default.not-Name (c.in_err-literal-in_default.ensures k));
      shorter = rw p.1 tt;
    }

pub factor-returns-in-Not-clause-reads : goal.factor-returns-in-Not-clause-reads
factor-returns-in-Not-clause-reads t c =
    let same = c.if-eat_word.ensures.found.0 in
    prefix_reads unary.Not c.prefixed.new.cursor c.prefixed.result (rw (same, c.in-Symbol.is, c.in-Not.is) at c.in_ok-token.ensures.found) c.prefixed.ensures.reads

pub factor-returns-in-Minus-clause-reads : goal.factor-returns-in-Minus-clause-reads
factor-returns-in-Minus-clause-reads t c =
    let same = c.if-eat_word.ensures.found.0 in
    prefix_reads unary.Minus c.prefixed-in-Minus.new.cursor c.prefixed-in-Minus.result (rw (same, c.in-Symbol.is, c.in-Minus.is) at c.in_ok-token.ensures.found) c.prefixed-in-Minus.ensures.reads

pub factor-returns-in-Open-clause-reads : goal.factor-returns-in-Open-clause-reads
factor-returns-in-Open-clause-reads t c =
    let same = c.if-eat_word.ensures.found.0 in
    group_reads c.group.new.cursor c.group.result (rw (same, c.in-Symbol.is, c.in-Open.is) at c.in_ok-token.ensures.found) c.group.ensures.reads

pub factor-returns-in_default-symbol : goal.factor-returns-in_default-symbol
factor-returns-in_default-symbol t c =
    let same = c.if-eat_word.ensures.found.0 in
    record {
      reads = λ q. no_factor_at_symbol c.in-Symbol.symbol (rw (same, c.in-Symbol.is) at c.in_ok-token.ensures.found) c.in_default-symbol.not-Not c.in_default-symbol.not-Minus c.in_default-symbol.not-Open;
      shorter = tt;
    }

pub factor-returns-in_ok-root-in-Name-clause-reads : goal.factor-returns-in_ok-root-in-Name-clause-reads
factor-returns-in_ok-root-in-Name-clause-reads t c =
    let same = c.if-eat_word.ensures.found.0 in
    let copied = c.in_ok-root-in-Name.ensures in
    path_reads (root.Name c.in_ok-root-in-Name.root) c.next_of.new.self c.path_from-in-Name.new.cursor c.path_from-in-Name.result (rw (same, c.in-Name.is, ← copied) at c.in_ok-token.ensures.found) c.path_from-in-Name.ensures.reads

pub factor-returns-in_ok-literal-in_default : goal.factor-returns-in_ok-literal-in_default
factor-returns-in_ok-literal-in_default t c =
    let same = c.if-eat_word.ensures.found.0 in
    record {
      reads = rw c.into_value.ensures (literal_found c.in_ok-token.token.now (rw same at c.in_ok-token.ensures.found) c.in_ok-literal-in_default.ensures);
      shorter = omega (arith, ap length same, c.in_ok-token.ensures.shorter);
    }
