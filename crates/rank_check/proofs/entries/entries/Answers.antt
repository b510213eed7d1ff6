use Rattle.std.proofs.Common.{ℕ, List, Option, length, sym, ap, ◌∙◌, subst}
use Rattle.effect_scan.specs.declared.node.Node.{Node}
use Rattle.certificate_lang.specs.declared.certificate.Line.{Line}
use Rattle.rank_check.specs.Entries.{AreNumbers}
use Rattle.rank_check.proofs.Assembled.{numbers_low, is_missing}
use Rattle.rank_check.proofs.Breaking.{missing_breaks}
use Rattle.rank_check.proofs.entries.entries.Goals as goal

pub line_places-requires : goal.line_places-requires
line_places-requires c =
    let lines = subst (λ (ls : List Line). AreNumbers c.args.meta.now ls c.in_ok-numbers.numbers) c.as_slice-lines.ensures c.in_ok-numbers.ensures in
    let numbers = subst (λ (ns : List (Option ℕ)). AreNumbers c.args.meta.now c.args.certificate.now.lines ns) (sym c.as_slice.ensures) lines in
    numbers_low c.args.meta.now c.args.certificate.now c.as_slice.result.now numbers _ (ap (λ (ns : List Node). length ns) (c.nodes.ensures ∙ c.requires.nodes))

pub returns-in-Err : goal.returns-in-Err
returns-in-Err c = λ ready.
    let lines = subst (λ (ls : List Line). AreNumbers c.args.meta.now ls c.in_ok-numbers.numbers) c.as_slice-lines.ensures c.in_ok-numbers.ensures in
    let numbers = subst (λ (ns : List (Option ℕ)). AreNumbers c.args.meta.now c.args.certificate.now.lines ns) (sym c.as_slice.ensures) lines in
    let missing =
    is_missing c.args.meta.now c.args.certificate.now c.as_slice.result.now numbers _ _ (ap (λ (ns : List Node). length ns) (c.nodes.ensures ∙ c.requires.nodes)) (rw c.in-Err.is at c.in_ok-places.ensures) in
    ((ready.wires, ready.typed, missing_breaks c.args.meta.now c.args.certificate.now _ missing), missing)
