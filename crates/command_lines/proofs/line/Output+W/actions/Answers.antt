use Rattle.std.proofs.Common.{◌≡◌, List, [], ◌∷◌, ◌++◌, length, refl, codes, rules, arith}
use Rattle.trace_entries.specs.declared.entry.ShownAction.{ShownAction}
use Rattle.std.proofs.lemmas.List.{take_all}
use Rattle.command_lines.specs.Lines.{action_text, actions_text}
use Rattle.command_lines.proofs.Sending.{sent, one_item, none_sent, as_text}
use Rattle.command_lines.proofs.line.Output+W.actions.Goals as goal

nothing : (actions : List ShownAction) → length actions ≡ 0 → actions_text actions ≡ []
nothing [] none = refl
nothing (a ∷ more) none = let no : ⊥ = omega (arith, none) in absurd no

pub returns-in_default : goal.returns-in_default
returns-in_default g c = as_text (none_sent g.W.Write.contents c.args.self.now) (nothing c.args.actions.now c.in_default.ensures.cases)

pub loop-action-preserved : goal.loop-action-preserved
loop-action-preserved g c = one_item (λ b. codes ", " ++ action_text b) _ _ _ c.action-item.result c.loop-action-test.true c.action-item.is c.loop-action.invariant (sent c.put_word.ensures c.action-in-loop-action.ensures)

pub returns : goal.returns
returns g c =
    let all = take_all c.loop-action.action-index c.in-Some.rest.now (search rules) in
    rw c.in-Some.ensures.cases.0 (sent (sent c.put_byte.ensures c.action.ensures) (rw all at c.loop-action.invariant))
