-- Parts of programs that aren't loaded.
use Rattle.std.proofs.Common.{◌≡◌, ℕ, slice_get, Some, inl, inr, refl, ap, ◌∙◌, subst, sym}
use Rattle.std.specs.Prelude.{Result, Ok, Err, IsErr, IsErrAnd, ◌⊎◌}
use Rattle.syntax_trees.specs.declared.program.Class.{Class}
use Rattle.syntax_trees.specs.declared.program.Program.{Program}
use Rattle.class_outlines.specs.declared.fault.MetaFault.{MetaFault}
use Rattle.class_outlines.specs.declared.offence.Declaration.{Declaration}
use Rattle.class_outlines.specs.declared.offence.Declaration.TheVariants as declaration
use Rattle.class_outlines.specs.declared.offence.Member.{Member}
use Rattle.class_outlines.specs.declared.offence.PartFault.{PartFault}
use Rattle.class_outlines.specs.declared.offence.PartFault.TheVariants as part
use Rattle.class_outlines.specs.declared.offence.LoadFault.{LoadFault}
use Rattle.class_outlines.specs.declared.offence.LoadFault.TheVariants as load
use Rattle.class_outlines.specs.Offences.{LoadsPart, LoadsOf, LoadsIn, IsMember, IsDeclared, IsOffenceBy, IsOffenceInBy, fault_in, located}
use Rattle.class_outlines.proofs.Offending.{offends_from}

-- a part of a declaration, because of one of its parts
pub failed : {X Y : Type 0} (fault : MetaFault) (Lacks More : Type 0) (Is : X → Type 0) (Be : Y → Type 0) (e : PartFault) → LoadsPart fault Lacks Is (Err e) → (Lacks → More) → (r : Result Y PartFault) → IsErr r → IsErrAnd r (λ x. x ≡ e) → LoadsPart fault More Be r
failed fault Lacks More Is Be e h to (Ok y) is same = absurd (cc)
failed fault Lacks More Is Be e (inl m) to (Err x) is same = inl (same ∙ m)
failed fault Lacks More Is Be e (inr n) to (Err x) is same = inr (ap fault_in same ∙ n.0, to n.1)

-- .. of a program
pub stopped : {X Y : Type 0} (program : Program) (fault : MetaFault) (Lacks More : Type 0) (Is : X → Type 0) (Be : Y → Type 0) (e : LoadFault) → LoadsOf program fault Lacks Is (Err e) → (Lacks → More) → (r : Result Y LoadFault) → IsErr r → IsErrAnd r (λ x. x ≡ e) → LoadsOf program fault More Be r
stopped program fault Lacks More Is Be e h to (Ok y) is same = absurd (cc)
stopped program fault Lacks More Is Be e (inl m) to (Err x) is same = inl (same ∙ m)
stopped program fault Lacks More Is Be e (inr n) to (Err x) is same = inr (subst (IsOffenceBy program fault) (sym same) n.0, to n.1)

-- what isn't loaded of one of its declarations
pub stops_at : (program : Program) (fault : MetaFault) (Lacks More : Type 0) (d : Declaration) → IsDeclared program d → (e : PartFault) → (e ≡ part.Memory) ⊎ ((fault_in e ≡ fault) × Lacks) → (Lacks → More) → (x : LoadFault) → x ≡ located d e
    → (x ≡ load.Memory) ⊎ (IsOffenceBy program fault x × More)
stops_at program fault Lacks More d declared part.Memory h to x is = inl is
stops_at program fault Lacks More d declared (part.Breach b) (inl m) to x is = absurd (cc)
stops_at program fault Lacks More d declared (part.Breach b) (inr n) to x is =
    inr (subst (IsOffenceBy program fault) (sym is) (record { leads = n.0; declared = declared }), to n.1)

-- .. and of a member of one of its classes
pub stops_in : (i : ℕ) (class : Class) (fault : MetaFault) (Lacks More : Type 0) (m : Member) → IsMember class m → (e : PartFault) → (e ≡ part.Memory) ⊎ ((fault_in e ≡ fault) × Lacks) → (Lacks → More) → (x : LoadFault) → x ≡ located (declaration.Member i m) e
    → (x ≡ load.Memory) ⊎ (IsOffenceInBy i class fault x × More)
stops_in i class fault Lacks More m declares part.Memory h to x is = inl is
stops_in i class fault Lacks More m declares (part.Breach b) (inl l) to x is = absurd (cc)
stops_in i class fault Lacks More m declares (part.Breach b) (inr n) to x is =
    inr (subst (IsOffenceInBy i class fault) (sym is) (record { leads = n.0; member = m; is = refl; declares = declares }), to n.1)

-- what isn't loaded of a class, in its program
offends_by : (program : Program) (i : ℕ) (class : Class) → slice_get program.classes i ≡ Some class → (fault : MetaFault) (e : LoadFault) → IsOffenceInBy i class fault e → IsOffenceBy program fault e
offends_by program i class at fault (load.Offence o) is = offends_from program i class fault o at is
offends_by program i class at fault load.Memory is = is

pub stopped_in : {X Y : Type 0} (program : Program) (i : ℕ) (class : Class) → slice_get program.classes i ≡ Some class → (fault : MetaFault) (Lacks More : Type 0) (Is : X → Type 0) (Be : Y → Type 0) (e : LoadFault) → LoadsIn i class fault Lacks Is (Err e) → (Lacks → More) → (r : Result Y LoadFault) → IsErr r → IsErrAnd r (λ x. x ≡ e)
    → LoadsOf program fault More Be r
stopped_in program i class at fault Lacks More Is Be e h to (Ok y) is same = absurd (cc)
stopped_in program i class at fault Lacks More Is Be e (inl m) to (Err x) is same = inl (same ∙ m)
stopped_in program i class at fault Lacks More Is Be e (inr n) to (Err x) is same =
    inr (subst (IsOffenceBy program fault) (sym same) (offends_by program i class at fault e n.0), to n.1)

-- a fault that is of this sort
pub lacking : (fault : MetaFault) (Lacks : Type 0) (e : PartFault) → (e ≡ part.Memory) ⊎ (fault_in e ≡ fault) → Lacks → (e ≡ part.Memory) ⊎ ((fault_in e ≡ fault) × Lacks)
lacking fault Lacks e (inl m) lacks = inl m
lacking fault Lacks e (inr f) lacks = inr (f, lacks)
