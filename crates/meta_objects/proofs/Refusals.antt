-- What refuses a program, and what a program that isn't refused has.
use Rattle.std.proofs.Common.{◌≡◌, List, Result, Ok, Err, IsErr, IsErrAnd, Any, ◌⊎◌, inl, inr, sym, subst}
use Rattle.syntax_trees.specs.declared.program.Program.{Program}
use Rattle.class_outlines.{specs.declared.fault.MetaFault.{MetaFault}, specs.declared.outline.Outline.{Outline}, specs.Outlines.{Outlines}, specs.Clashes.{DuplicateClass, HasTwoMembers}, specs.Bases.{NoBase}, specs.Conditions.{RepeatsDeclared, DuplicateMember}, specs.Indexed.{AreIndexed}, specs.declared.offence.Offence.{Offence}, specs.declared.offence.LoadFault.{LoadFault}, specs.Offences.{IsOffence, IsOffenceBy, LoadsOf, fault_told}, proofs.Zips.{none_of_zip}, proofs.OutlineSteps.{none_lack}}
use Rattle.class_outlines.specs.declared.fault.MetaFault.TheVariants as fault
use Rattle.meta_model.specs.{declared.object.MetaWire.{MetaWire}, declared.object.MetaOwns.{MetaOwns}, declared.site.MetaSite.{MetaSite}, Loaded.{Loaded}}
use Rattle.name_resolution.specs.{declared.body_resolution.work.ResolvedWork.{ResolvedWork}, code.Bodies.{IsSlotWork, AreWorks}, LackedNames.{LacksInSlot, LacksInClass, LacksInSite, LacksEnd, LacksClass, LacksMember}, code.Sites.{IsSite}, code.Wires.{IsWire, IsOwns}, code.Loading.{HasUses}}
use Rattle.class_outlines.specs.declared.offence.LoadFault.TheVariants as load
use Rattle.meta_objects.specs.Builds.{HasOutlines, Builds, LoadsProgram}

pub outlined : (program : Program) (o : List Outline) → (¬ DuplicateClass program) → Outlines program.classes o → HasOutlines program o
outlined program o distinct are = record { distinct = distinct; based = none_lack program.classes o are; are = are }

-- what is resolved lacks no member
pub nothing_lacks : (program : Program) (o : List Outline) (works : List (List ResolvedWork)) (wires : List MetaWire) (owns : List MetaOwns) (sites : List MetaSite) → HasUses program o works wires owns sites → ¬ LacksMember program o
nothing_lacks program o works wires owns sites h (inl any) =
    none_of_zip (AreWorks o) (LacksInClass o) program.classes works h.are_works
    (λ class ws are. none_of_zip (IsSlotWork o class) (LacksInSlot o class) class.slots ws are (λ slot w is lacks. lacks w is)) any
nothing_lacks program o works wires owns sites h (inr (inl any)) =
    none_of_zip (IsWire o) (LacksEnd o) program.wires wires h.wired (λ wire w is lacks. lacks w is) any
nothing_lacks program o works wires owns sites h (inr (inr (inl any))) =
    none_of_zip (IsOwns o) (LacksClass o) program.owns owns h.owned (λ one w is lacks. lacks w is) any
nothing_lacks program o works wires owns sites h (inr (inr (inr any))) =
    none_of_zip (IsSite o) (LacksInSite o) program.sites sites h.sited (λ one w is lacks. lacks w is) any

-- ---- what is refused, and where
-- the answer of loading, where it is this fault
pub answers : (program : Program) (e : LoadFault) → LoadsProgram program (Err e) → (r : Result Loaded LoadFault) → IsErr r → IsErrAnd r (λ x. x ≡ e) → LoadsProgram program r
answers program e h (Ok loaded) is same = absurd (cc)
answers program e h (Err x) is same = subst (λ f. LoadsProgram program (Err f)) (sym same) h

-- an offence that leads to this fault
pub refused : (program : Program) (fault : MetaFault) (o : Offence) → IsOffence program fault o → Builds program (Err fault) → LoadsProgram program (Err (load.Offence o))
refused program fault o is h = (subst (λ f. Builds program (Err f)) (sym is.leads) h, is.declared)

-- .. or memory ran out
refused_by : (program : Program) (fault : MetaFault) (e : LoadFault) → (e ≡ load.Memory) ⊎ (IsOffenceBy program fault e × Builds program (Err fault)) → LoadsProgram program (Err e)
refused_by program fault (load.Offence o) (inl m) = absurd (cc)
refused_by program fault (load.Offence o) (inr n) = refused program fault o n.0 n.1
refused_by program fault load.Memory h = (tt, tt)

pub refused_base : (program : Program) (e : LoadFault) → (¬ DuplicateClass program) → (e ≡ load.Memory) ⊎ (IsOffenceBy program fault.NoBase e × NoBase program) → LoadsProgram program (Err e)
refused_base program e distinct (inl m) = refused_by program fault.NoBase e (inl m)
refused_base program e distinct (inr n) = refused_by program fault.NoBase e (inr (n.0, (distinct, n.1)))

pub refused_use : (program : Program) (o : List Outline) (e : LoadFault) → HasOutlines program o → (¬ DuplicateMember program o) → {Y : Type 0} (Is : Y → Type 0) → LoadsOf program fault.NoMember (LacksMember program o) Is (Err e) → LoadsProgram program (Err e)
refused_use program o e are members Is (inl m) = refused_by program fault.NoMember e (inl m)
refused_use program o e are members Is (inr n) = refused_by program fault.NoMember e (inr (n.0, (o, are, members, n.1)))

-- no member, no parameter and no binding site appears twice
pub members_once : (program : Program) (o indexed : List Outline) → AreIndexed o indexed → (¬ RepeatsDeclared program) → ¬ DuplicateMember program o
members_once program o indexed are none (inl any) = are.each_once any
members_once program o indexed are none (inr any) = none any

pub refused_member : (program : Program) (o : List Outline) (e : LoadFault) → HasOutlines program o → {Y : Type 0} (Is : Y → Type 0) → LoadsOf program fault.DuplicateMember (Any HasTwoMembers o) Is (Err e) → LoadsProgram program (Err e)
refused_member program o e are Is (inl m) = refused_by program fault.DuplicateMember e (inl m)
refused_member program o e are Is (inr n) = refused_by program fault.DuplicateMember e (inr (n.0, (o, are, inl n.1)))

-- .. of which the fault alone is reported
pub told : (program : Program) (e : LoadFault) → LoadsProgram program (Err e) → (r : Result Loaded MetaFault) → IsErr r → IsErrAnd r (λ x. x ≡ fault_told e) → Builds program r
told program e h (Ok loaded) is same = absurd (cc)
told program e h (Err x) is same = subst (λ f. Builds program (Err f)) (sym same) h.0
