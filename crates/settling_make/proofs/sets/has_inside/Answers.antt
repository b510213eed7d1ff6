use Rattle.std.proofs.Common.{ℕ, get_or, inl, inr, subst, sym}
use Rattle.std.proofs.lemmas.List.Elements.{Contains-get_or}
use Rattle.effect_scan.specs.Rows.{Edge}
use Rattle.settling_make.proofs.Taking.{one_of, none_taken, all_taken}
use Rattle.settling_make.proofs.sets.has_inside.Goals as goal

pub loop-member-init : goal.loop-member-init
loop-member-init c = λ a to h. absurd (none_taken c.args.members.now a h)

pub returns-then-leads_inside : goal.returns-then-leads_inside
returns-then-leads_inside c =
    let found = c.if-leads_inside.ensures in
    record { from = get_or c.args.members.now c.loop-member.member-index 0; to = found.0; among = Contains-get_or c.args.members.now c.loop-member.member-index 0 c.loop-member-test.true; edge = found.1; inside = found.2 }

pub loop-member-preserved : goal.loop-member-preserved
loop-member-preserved c = λ a to h edge inside.
    elim (one_of c.args.members.now c.loop-member.member-index c.loop-member-test.true a h) [
      | inl old ↦ c.loop-member.invariant a to old edge inside
      | inr same ↦ c.if-leads_inside.ensures to (subst (λ (n : ℕ). Edge c.args.scan.now.rows n to) (sym same) edge) inside
    ]

pub returns : goal.returns
returns c = λ has. c.loop-member.invariant has.from has.to (all_taken c.args.members.now c.loop-member.member-index has.from c.loop-member-test.false has.among) has.edge has.inside
