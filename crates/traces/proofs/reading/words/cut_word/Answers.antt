use Rattle.std.proofs.Common.{sym, ◌∙◌, refl}
use Rattle.traces.proofs.Cutting.{cut_at, uncut}
use Rattle.traces.proofs.reading.words.cut_word.Goals as goal

pub returns-in-Some : goal.returns-in-Some
returns-in-Some c =
    let r = cut_at c.args.text.now c.in-Some.at (sym c.first_blank.ensures ∙ c.in-Some.is) in
    record { unbroken = r.0; followed = r.1 }

pub returns-in-None : goal.returns-in-None
returns-in-None c = record { unbroken = uncut c.args.text.now (sym c.first_blank.ensures ∙ c.in-None.is); followed = refl }
