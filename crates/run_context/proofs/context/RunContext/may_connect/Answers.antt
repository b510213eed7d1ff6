use Rattle.std.proofs.Common.{◌∙◌, sym}
use Rattle.machine_rules.specs.Judgement.{holds, fails, goes_on, ends}
use Rattle.run_context.proofs.Linking.{both-hold, first-fails, second-fails}
use Rattle.run_context.proofs.context.RunContext.may_connect.Goals as goal

pub returns-in-No : goal.returns-in-No
returns-in-No c = ends (fails c.in-No.ensures)

pub returns-in-Unfit : goal.returns-in-Unfit
returns-in-Unfit c = goes_on tt (holds c.in-Unfit.ensures.0) (ends (fails c.in-Unfit.ensures.1))

pub returns-in-Fit : goal.returns-in-Fit
returns-in-Fit c =
    goes_on tt (holds c.in-Fit.ensures.0) (goes_on tt (holds c.in-Fit.ensures.1)
    (fails (λ none. none (both-hold _ _ c.if-how.true (sym c.are_joined.ensures ∙ c.if-are_joined.true)))))

pub returns-in-Fit-2 : goal.returns-in-Fit-2
returns-in-Fit-2 c =
    goes_on tt (holds c.in-Fit.ensures.0) (goes_on tt (holds c.in-Fit.ensures.1)
    (holds (second-fails _ _ (sym c.are_joined.ensures ∙ c.if-are_joined.false))))

pub returns-in-Fit-2-2 : goal.returns-in-Fit-2-2
returns-in-Fit-2-2 c =
    goes_on tt (holds c.in-Fit.ensures.0) (goes_on tt (holds c.in-Fit.ensures.1)
    (holds (first-fails _ _ c.if-how.false)))
