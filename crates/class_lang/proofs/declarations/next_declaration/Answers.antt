use Rattle.std.proofs.Common.{◌∙◌, sym}
use Rattle.class_lang.proofs.Sequences.{class_declaration, wire_declaration, owns_declaration, site_declaration}
use Rattle.class_lang.proofs.declarations.next_declaration.Goals as goal

pub returns-in_ok-class-clause-reads : goal.returns-in_ok-class-clause-reads
returns-in_ok-class-clause-reads c = class_declaration c.if-eat_opening.ensures.found c.in_ok-class.ensures.reads

pub returns-in_ok-wire-clause-reads : goal.returns-in_ok-wire-clause-reads
returns-in_ok-wire-clause-reads c = wire_declaration (sym c.if-eat_opening.ensures.found.0 ∙ c.if-eat_opening-2.ensures.found) c.in_ok-wire.ensures.reads

pub returns-in_ok-owns-clause-reads : goal.returns-in_ok-owns-clause-reads
returns-in_ok-owns-clause-reads c = owns_declaration (sym c.if-eat_opening.ensures.found.0 ∙ (sym c.if-eat_opening-2.ensures.found.0 ∙ c.if-eat_opening-3.ensures.found)) c.in_ok-owns.ensures.reads

pub returns-in_ok-site-clause-reads : goal.returns-in_ok-site-clause-reads
returns-in_ok-site-clause-reads c = site_declaration (sym c.if-eat_opening.ensures.found.0 ∙ (sym c.if-eat_opening-2.ensures.found.0 ∙ (sym c.if-eat_opening-3.ensures.found.0 ∙ c.if-eat_opening-4.ensures.found))) c.in_ok-site.ensures.reads
