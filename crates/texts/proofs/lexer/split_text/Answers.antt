use Rattle.std.proofs.Common.{◌∷◌, refl}
use Rattle.texts.specs.declared.bytes.Run.TheVariants as run
use Rattle.texts.proofs.Runs.{one_run}
use Rattle.texts.proofs.FirstPieces.{empty}
use Rattle.texts.proofs.lexer.split_text.Goals as goal
use Rattle.texts.proofs.lexer.split_text.Goals.{in_default-via-in-Some+else-quote-eq34, in_default-via-in_default}

pub returns-in_default : goal.returns-in_default
returns-in_default c = (
  refl,
  λ inner rest h.
      let m = one_run run.Text c.args.bytes.now c.split_run.result.0.now inner c.split_run.result.1.now (34 ∷ rest) c.split_run.ensures h in
      elim c.in_default.branch [
        | in_default-via-in-Some+else-quote-eq34 w ↦ let a = w.if-quote-eq34.false in let b = w.in-Some.ensures.cases.0 in a cc
        | in_default-via-in_default w ↦ let a = empty c.split_run.result.1.now w.in_default.ensures.cases in cc
      ],
)
