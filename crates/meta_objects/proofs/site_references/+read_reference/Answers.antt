use Rattle.std.proofs.Common.{ap, ◌∙◌, sym, subst, Any}
use Rattle.meta_model.specs.Sites.{paths_in}
use Rattle.class_outlines.specs.DeclaredSites.{ReadsReference}
use Rattle.class_outlines.proofs.Anys.{any_one, of_one, any_front, tells_back}
use Rattle.meta_model.proofs.PathsIn.{paths-Path, paths-Binary}
use Rattle.meta_objects.proofs.site_references.+read_reference.Goals as goal

pub returns-in-Some : goal.returns-in-Some
returns-in-Some t c =
    subst (λ ps. Any (ReadsReference c.args.outlines.now c.args.site.now) ps) (sym (ap paths_in c.in-Path.is ∙ paths-Path _))
    (any_one (ReadsReference c.args.outlines.now c.args.site.now) c.in-Path.path c.in-Some.ensures)

pub returns-in-None : goal.returns-in-None
returns-in-None t c = λ any.
    c.in-None.ensures
    (of_one (ReadsReference c.args.outlines.now c.args.site.now) c.in-Path.path
    (subst (λ ps. Any (ReadsReference c.args.outlines.now c.args.site.now) ps) (ap paths_in c.in-Path.is ∙ paths-Path _) any))

pub returns-in-Some-read_reference : goal.returns-in-Some-read_reference
returns-in-Some-read_reference t c =
    subst (λ ps. Any (ReadsReference c.args.outlines.now c.args.site.now) ps) (sym (ap paths_in c.in-Binary.is ∙ paths-Binary _ _ _))
    (any_front (ReadsReference c.args.outlines.now c.args.site.now) (paths_in c.in-Binary.left) (paths_in c.in-Binary.right) (rw c.get-in-Binary.ensures at c.in-Some-read_reference.ensures))

pub returns-in-None-read_reference : goal.returns-in-None-read_reference
returns-in-None-read_reference t c =
    tells_back (ReadsReference c.args.outlines.now c.args.site.now) (paths_in c.args.expression.now) (paths_in c.in-Binary.left) (paths_in c.in-Binary.right)
    (ap paths_in c.in-Binary.is ∙ paths-Binary _ _ _) (rw c.get-in-Binary.ensures at c.in-None-read_reference.ensures) _
    (rw c.get-in-None-read_reference.ensures at c.read_reference-in-None-read_reference.ensures)
