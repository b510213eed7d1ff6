use Rattle.std.proofs.Common.{◌≡◌, ◌≢◌, ◌⊎◌, ◌↔◌, [], MatchOption, sym, ◌∙◌, arith}
use Rattle.std.proofs.lemmas.Result.{IfOk-weaker}
use Rattle.findings.specs.declared.verdict.Verdict.{Verdict}
use Rattle.program_commands.specs.Commands.{CheckComesTo}
use Rattle.program_commands.specs.Outcomes.{outcome_status}
use Rattle.program_commands.specs.declared.outcome.Outcome.{Outcome}
use Rattle.verdicts.specs.Settled.{CertifiesOrSettles}
use Rattle.verdicts.specs.Statuses.{HasStatus, IsRefusedAs}
use Rattle.verdicts.proofs.judging.verdict.Goals as goal

pub returns-clause-status : goal.returns-clause-status
returns-clause-status c =
    let ComesTo : Outcome → Type 0 = λ outcome.
    MatchOption c.args.texts.certificate (CertifiesOrSettles c.args.limits c.args.texts.program.now outcome) (λ certificate. CheckComesTo c.args.limits c.args.texts.program.now certificate.now outcome) in
    IfOk-weaker c.search.result
    (λ (found : Verdict). c.args.levels.changes.now ≡ [] → (found.accepted ≡ 0 ⊎ found.status ≢ 0) → found.status ≡ outcome_status c.outcome-judged.result)
    (λ (found : Verdict). c.args.levels.changes.now ≡ [] → (found.accepted ≡ 0 ⊎ found.status ≢ 0) → HasStatus ComesTo found.status)
    (λ (found : Verdict) told standard either. record { outcome = c.outcome-judged.result; comes = c.outcome-judged.ensures; is = told standard either })
    c.search.ensures.status

pub returns-clause-refused : goal.returns-clause-refused
returns-clause-refused c =
    let ComesTo : Outcome → Type 0 = λ outcome.
    MatchOption c.args.texts.certificate (CertifiesOrSettles c.args.limits c.args.texts.program.now outcome) (λ certificate. CheckComesTo c.args.limits c.args.texts.program.now certificate.now outcome) in
    IfOk-weaker c.search.result
    (λ (found : Verdict). outcome_status c.outcome-judged.result ≡ 2 ↔ found.status ≡ 2)
    (λ (found : Verdict). IsRefusedAs ComesTo found.status)
    (λ (found : Verdict) told. record { outcome = c.outcome-judged.result; comes = c.outcome-judged.ensures; is = told })
    c.search.ensures.refused

pub returns-in-0-clause-status : goal.returns-in-0-clause-status
returns-in-0-clause-status c =
    let ComesTo : Outcome → Type 0 = λ outcome.
    MatchOption c.args.texts.certificate (CertifiesOrSettles c.args.limits c.args.texts.program.now outcome) (λ certificate. CheckComesTo c.args.limits c.args.texts.program.now certificate.now outcome) in
    IfOk-weaker c.remark.result
    (λ (found : Verdict). c.args.levels.changes.now ≡ [] → found.status ≡ 0)
    (λ (found : Verdict). c.args.levels.changes.now ≡ [] → (found.accepted ≡ 0 ⊎ found.status ≢ 0) → HasStatus ComesTo found.status)
    (λ (found : Verdict) told standard either. record { outcome = c.outcome-judged.result; comes = c.outcome-judged.ensures; is = told standard ∙ sym c.in-0.is ∙ c.status.ensures })
    c.remark.ensures.status

pub returns-in-0-clause-refused : goal.returns-in-0-clause-refused
returns-in-0-clause-refused c =
    let ComesTo : Outcome → Type 0 = λ outcome.
    MatchOption c.args.texts.certificate (CertifiesOrSettles c.args.limits c.args.texts.program.now outcome) (λ certificate. CheckComesTo c.args.limits c.args.texts.program.now certificate.now outcome) in
    IfOk-weaker c.remark.result
    (λ (found : Verdict). found.status ≢ 2)
    (λ (found : Verdict). IsRefusedAs ComesTo found.status)
    (λ (found : Verdict) other. record {
      outcome = c.outcome-judged.result;
      comes = c.outcome-judged.ensures;
      is = (
        λ two. absurd (let no : 0 ≡ 2 = sym c.in-0.is ∙ c.status.ensures ∙ two in omega arith),
        λ two. absurd (other two),
      );
    })
    c.remark.ensures.refused
