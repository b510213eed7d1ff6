use Rattle.std.proofs.Common.{inl, inr, subst}
use Rattle.edge_reasons.specs.declared.reasons.Reason.{Reason}
use Rattle.edge_reasons.specs.Reasons.{Draws}
use Rattle.settling.proofs.Ways.{works_of, native_not, site_not, deletion_not}
use Rattle.settling.proofs.edges.hand_on.Goals as goal

pub returns-in-Statement-clause-each : goal.returns-in-Statement-clause-each
returns-in-Statement-clause-each c = λ leads all.
    let draws = subst (λ r. Draws c.args.meta.now c.args.from c.args.to r) c.in-Statement.is c.in-Some.ensures.draws in
    c.works_hand_on.ensures.each draws.0 (works_of c.args.meta.now c.args.from c.args.to all)

pub returns-in-Native-clause-each : goal.returns-in-Native-clause-each
returns-in-Native-clause-each c = λ leads all.
    let Drawn : Reason → Type 0 = λ r. Draws c.args.meta.now c.args.from c.args.to r in
    elim c.in-Native.is [
      | inl native ↦ let draws = subst Drawn native c.in-Some.ensures.draws in absurd (native_not c.args.meta.now c.args.from c.args.to draws.0 draws.1 all)
      | inr (inl binding) ↦ let draws = subst Drawn binding.1 c.in-Some.ensures.draws in absurd (site_not c.args.meta.now c.args.from c.args.to binding.0 draws.1 all)
      | inr (inr deletion) ↦ let draws = subst Drawn deletion c.in-Some.ensures.draws in absurd (deletion_not c.args.meta.now c.args.from c.args.to draws leads all)
    ]
