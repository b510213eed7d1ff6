use Rattle.std.specs.Prelude.{◌≡◌, Any}
use Rattle.syntax_trees.specs.declared.program.Site.{Site}
use Rattle.class_outlines.specs.DeclaredSites.{RepeatsFormal}
use Rattle.name_indexes.specs.Twice.{StandsTwice}
use Rattle.std.proofs.Common.{inl, refl}
use Rattle.class_outlines.specs.declared.fault.MetaFault.TheVariants as fault
use Rattle.class_outlines.specs.declared.offence.Declaration.TheVariants as declaration
use Rattle.class_outlines.proofs.Offending.{offends, or_offence}
use Rattle.meta_objects.proofs.clashes.repeated_in_sites.Goals as goal

pub returns-in-Some : goal.returns-in-Some
returns-in-Some c =
    let found = rw c.as_slice.ensures at c.in-Some.ensures in (
      inl found.0,
      offends c.args.program.now fault.DuplicateMember (declaration.Site c.in-Some.place) found.1 c.twice.result (rw c.twice.ensures refl) c.of.result c.of.ensures,
    )

pub returns-in-None : goal.returns-in-None
returns-in-None c =
    or_offence (StandsTwice (λ (a b : Site). a.name ≡ b.name) c.args.program.now.sites) (Any RepeatsFormal c.args.program.now.sites) (rw c.as_slice.ensures at c.in-None.ensures) c.args.program.now fault.DuplicateMember c.repeated_in_formals.result c.repeated_in_formals.ensures
