use Rattle.std.proofs.Common.{◌∙◌, sym}
use Rattle.class_lang.proofs.Parts.{formals_are_parts}
use Rattle.class_lang.proofs.BindingSites.{site_found, no_site}
use Rattle.class_lang.proofs.sites.site.Goals as goal

pub list-requires : goal.list-requires
list-requires c = formals_are_parts

pub returns-then-not-is_bexpr-clause-reads : goal.returns-then-not-is_bexpr-clause-reads
returns-then-not-is_bexpr-clause-reads c = λ k. no_site c.in_ok-name.ensures.reads c.in_ok-class.ensures.reads c.in_ok-expect.ensures.found c.in_ok-property.ensures.reads c.in_ok-formals.ensures.reads c.in_ok-expression.ensures.reads (sym c.is_bexpr.ensures ∙ c.if-not-is_bexpr.true)

pub returns-clause-reads : goal.returns-clause-reads
returns-clause-reads c = site_found c.in_ok-name.ensures.reads c.in_ok-class.ensures.reads c.in_ok-expect.ensures.found c.in_ok-property.ensures.reads c.in_ok-formals.ensures.reads c.in_ok-expression.ensures.reads (sym c.is_bexpr.ensures ∙ c.if-not-is_bexpr.false)
