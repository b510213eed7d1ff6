use Rattle.std.proofs.Common.{ℕ, Any, inr, refl}
use Rattle.std.specs.List.{AllZip}
use Rattle.syntax_trees.specs.declared.program.Formal.{Formal}
use Rattle.class_outlines.specs.declared.fault.MetaFault.TheVariants as fault
use Rattle.class_outlines.specs.Outlines.{IsOutlineNamed}
use Rattle.name_resolution.specs.code.Sites.{IsSite}
use Rattle.name_resolution.specs.LackedNames.{LacksInSite}
use Rattle.class_outlines.proofs.Loading.{failed}
use Rattle.name_resolution.proofs.SitePieces.{no_formals}
use Rattle.name_resolution.proofs.resolve_site.resolve_site.Goals as goal

pub returns-in_default : goal.returns-in_default
returns-in_default c = inr (c.no_property.ensures, λ loaded is. c.in_default.ensures _ _ _ is.target)

pub returns-in_err-formals : goal.returns-in_err-formals
returns-in_err-formals c =
    failed fault.NoMember (Any (λ (f : Formal). (class : ℕ) → ¬ IsOutlineNamed c.args.outlines.now f.class class) c.as_slice.result.now) (LacksInSite c.args.outlines.now c.args.site.now)
    (AllZip (λ (f : Formal) (class : ℕ). IsOutlineNamed c.args.outlines.now f.class class) c.as_slice.result.now) (IsSite c.args.outlines.now c.args.site.now) _ c.in_err-formals.ensures
    (λ lacks. no_formals c.args.outlines.now c.args.site.now (rw c.as_slice.ensures at lacks))
    _ c.from_residual.ensures.0 c.from_residual.ensures.1
