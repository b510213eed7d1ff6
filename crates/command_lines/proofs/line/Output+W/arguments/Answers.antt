use Rattle.std.proofs.Common.{◌≡◌, List, [], ◌∷◌, ◌++◌, length, refl, codes, rules, arith}
use Rattle.trace_entries.specs.declared.entry.Shown.{Shown}
use Rattle.std.proofs.lemmas.List.{take_all}
use Rattle.std.specs.List.{join_by}
use Rattle.command_lines.specs.Lines.{value_text}
use Rattle.command_lines.proofs.Sending.{sent, one_item, none_sent, as_text}
use Rattle.command_lines.proofs.line.Output+W.arguments.Goals as goal

nothing : (values : List Shown) → length values ≡ 0 → join_by value_text (codes ",") values ≡ []
nothing [] none = refl
nothing (v ∷ vs) none = let no : ⊥ = omega (arith, none) in absurd no

pub returns-in_default : goal.returns-in_default
returns-in_default g c = as_text (none_sent g.W.Write.contents c.args.self.now) (nothing c.args.values.now c.in_default.ensures.cases)

pub loop-value-preserved : goal.loop-value-preserved
loop-value-preserved g c = one_item (λ v. codes "," ++ value_text v) _ _ _ c.value-item.result c.loop-value-test.true c.value-item.is c.loop-value.invariant (sent c.put_byte.ensures c.value-in-loop-value.ensures)

pub returns : goal.returns
returns g c =
    let all = take_all c.loop-value.value-index c.in-Some.rest.now (search rules) in
    rw c.in-Some.ensures.cases.0 (sent c.value.ensures (rw all at c.loop-value.invariant))
