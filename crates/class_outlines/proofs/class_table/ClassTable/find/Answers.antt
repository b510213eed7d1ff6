use Rattle.std.proofs.Common.{List, ◌∙◌, sym, subst, rules}
use Rattle.class_outlines.specs.declared.outline.Outline.{Outline}
use Rattle.class_outlines.specs.Indexed.{IndexesNames}
use Rattle.class_outlines.proofs.NamedClasses.{no_class, a_class, is_there}
use Rattle.class_outlines.proofs.class_table.ClassTable.find.Goals as goal

pub returns-in_err-number : goal.returns-in_err-number
returns-in_err-number c =
    let by = subst (λ (os : List Outline). IndexesNames os c.self.inside.names) c.self.view_is c.self.invariant in
    rw c.from_residual.ensures (no_class c.args.self.now c.self.inside.names by c.args.name.now (sym c.find.ensures ∙ c.in_err-number.was))

pub returns-in_err-class : goal.returns-in_err-class
returns-in_err-class c =
    let by = subst (λ (os : List Outline). IndexesNames os c.self.inside.names) c.self.view_is c.self.invariant in
    absurd (is_there c.args.self.now c.self.inside.names by c.args.name.now c.in_ok-number.number (sym c.find.ensures ∙ c.in_ok-number.was) (search rules))

pub returns : goal.returns
returns c =
    let by = subst (λ (os : List Outline). IndexesNames os c.self.inside.names) c.self.view_is c.self.invariant in
    a_class c.args.self.now c.self.inside.names by c.args.name.now c.in_ok-number.number c.in_ok-class.class.now (sym c.find.ensures ∙ c.in_ok-number.was) (search rules)
