use Rattle.std.proofs.Common.{◌≡◌, ◌∙◌, ◌∷◌, sym, ap, codes}
use Rattle.std.proofs.lemmas.Bool.Decides.{Decides-eqb, not_from_Decides}
use Rattle.std.proofs.lemmas.Slice.Eq.{slice_eq-Decides}
use Rattle.texts.specs.declared.token.Token.TheVariants as token
use Rattle.slot_lang.proofs.Bodies.{form_reads, group_form, none_by_name}
use Rattle.slot_lang.proofs.body.begun_by_name.Goals as goal

pub returns-then-eq-clause-reads : goal.returns-then-eq-clause-reads
returns-then-eq-clause-reads c =
    let same = (slice_eq-Decides Decides-eqb _ _ _ c.eq.ensures).0 c.if-eq.true in
    let named : c.args.name.now ≡ codes "group" = sym c.bytes.ensures.value ∙ (same ∙ c.as_slice.ensures) in
    form_reads group_form c.update_group.new.cursor c.update_group.result (ap (λ name. token.Name name ∷ c.args.cursor.now) named) c.update_group.ensures.reads

pub returns-else-eq-clause-reads : goal.returns-else-eq-clause-reads
returns-else-eq-clause-reads c = λ k.
    none_by_name c.args.cursor.now (λ named. not_from_Decides _ (slice_eq-Decides Decides-eqb _ _ _ c.eq.ensures) c.if-eq.false (c.bytes.ensures.value ∙ (named ∙ sym c.as_slice.ensures)))
