use Rattle.std.proofs.Common.{◌≡◌, ℕ, None, sym, ◌∙◌, subst}
use Rattle.std.proofs.lemmas.Option.{none-some}
use Rattle.rank_check.specs.Entries.{place_at}
use Rattle.settling.proofs.lines.add_line.Goals as goal

pub returns-in-NoNode : goal.returns-in-NoNode
returns-in-NoNode c = (c.in-NoNode.ensures.0, λ n named e. c.in-NoNode.ensures.1 n named)

pub returns-in-Before : goal.returns-in-Before
returns-in-Before c =
    let had = c.in-Before.ensures.1 in (
      c.in-Before.ensures.0,
      λ n named e. none-some _ (sym (subst (λ (m : ℕ). place_at c.args.places.now m ≡ None) (had.only n named) e) ∙ had.had),
    )
