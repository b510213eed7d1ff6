use Rattle.std.specs.Prelude.{◌≡◌, ℕ, List}
use Rattle.class_outlines.specs.Natives.{RepeatsAction}
use Rattle.name_indexes.specs.Twice.{StandsTwice}
use Rattle.std.proofs.Common.{inl, refl}
use Rattle.class_outlines.specs.declared.fault.MetaFault.TheVariants as fault
use Rattle.class_outlines.proofs.Offending.{or_breach}
use Rattle.meta_objects.proofs.clashes.repeated_effect.Goals as goal

pub returns-in-Some : goal.returns-in-Some
returns-in-Some c = let found = rw c.as_slice-reads.ensures at c.in-Some.ensures in (inl found.0, rw c.twice.ensures refl)

pub returns-in-None : goal.returns-in-None
returns-in-None c =
    or_breach (StandsTwice (λ (a b : List ℕ). a ≡ b) c.args.effects.now.reads) (RepeatsAction c.args.effects.now) (rw c.as_slice-reads.ensures at c.in-None.ensures) fault.DuplicateMember c.repeated_action.result c.repeated_action.ensures
