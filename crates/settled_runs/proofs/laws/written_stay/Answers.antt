use Rattle.settled_runs.proofs.Keeping.{written-stay, written-stay-within}
use Rattle.settled_runs.proofs.laws.written_stay.Goals as goal

pub returns : goal.returns
returns c = record {
  outside = λ p certificate cost classes before after old new written line top levels sound valid costs changed only low leaves are have. written-stay sound valid cost costs classes old new only top levels are have changed line low leaves;
  within = λ p certificate cost classes before after old new written top levels carried sound valid costs changed only is place lives other are have. written-stay-within sound valid cost costs classes old new only top levels are have changed carried is place lives other;
}
