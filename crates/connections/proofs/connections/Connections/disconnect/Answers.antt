use Rattle.std.proofs.Common.{◌≡◌, ◌∙◌, sym, rules, arith, true, false}
use Rattle.connections.specs.Connected.{joins, are_connected}
use Rattle.connections.proofs.Asked.{none-counted, some-counted, none-removed}
use Rattle.connections.proofs.connections.Connections.disconnect.Goals as goal

pub returns-then-count-eq0-clause-err : goal.returns-then-count-eq0-clause-err
returns-then-count-eq0-clause-err c =
    c.remove-count.ensures.removed ∙ none-removed (joins c.args.sender c.args.signal c.args.receiver c.args.method) c.args.self.now (sym c.remove-count.ensures.count ∙ c.if-count-eq0.true)

pub returns-then-count-eq0-clause-there : goal.returns-then-count-eq0-clause-there
returns-then-count-eq0-clause-there c =
    let none : are_connected c.args.sender c.args.signal c.args.receiver c.args.method c.args.self.now.connected ≡ false = none-counted (joins c.args.sender c.args.signal c.args.receiver c.args.method) c.args.self.now.connected.connections (sym c.remove-count.ensures.count ∙ c.if-count-eq0.true) in
    rw none (search rules)

pub returns-clause-there : goal.returns-clause-there
returns-clause-there c =
    let some : are_connected c.args.sender c.args.signal c.args.receiver c.args.method c.args.self.now.connected ≡ true = some-counted (joins c.args.sender c.args.signal c.args.receiver c.args.method) c.args.self.now.connected.connections (λ i. absurd (omega (arith, c.remove-count.ensures.count, i, c.if-count-eq0.false))) in
    rw some (search rules)
