-- A program has one answer: the conditions that refuse it are taken in their order, and the first that holds is one.
use Rattle.std.proofs.Common.{◌≡◌, ◌≢◌, ℕ, zero, suc, ◌<◌, List, Option, Some, None, Result, Ok, Err, inl, inr, refl, sym, ap, ◌∙◌, subst, arith}
use Rattle.std.proofs.lemmas.Bool.{cases_lt}
use Rattle.std.proofs.lemmas.Option.{none-some, same_Some}
use Rattle.syntax_trees.specs.declared.program.Program.{Program}
use Rattle.class_outlines.specs.declared.fault.MetaFault.{MetaFault}
use Rattle.class_outlines.specs.declared.fault.MetaFault.TheVariants as fault
use Rattle.class_outlines.specs.declared.outline.Outline.{Outline}
use Rattle.meta_model.specs.Loaded.{Loaded}
use Rattle.class_outlines.specs.Clashes.{DuplicateClass}
use Rattle.class_outlines.specs.Bases.{NoBase}
use Rattle.class_outlines.specs.Conditions.{DuplicateMember, NoType}
use Rattle.class_outlines.specs.Notifiers.{BadNotify}
use Rattle.name_resolution.specs.LackedNames.{LacksMember}
use Rattle.meta_objects.specs.Builds.{HasOutlines, Builds, OneAnswer}
use Rattle.name_resolution.proofs.Unique.{same_all}
use Rattle.meta_objects.proofs.FoundClasses.{one_loading}

abbrev place_of : Result Loaded MetaFault → ℕ
place_of (Err fault.DuplicateClass) = 0
place_of (Err fault.NoBase) = 1
place_of (Err fault.DuplicateMember) = 2
place_of (Err fault.NoMember) = 3
place_of (Err fault.BadNotify) = 4
place_of (Err fault.NoType) = 5
place_of (Ok loaded) = 6
place_of (Err fault.Memory) = 7

abbrev fault_at : ℕ → Option MetaFault
fault_at zero = Some fault.DuplicateClass
fault_at (suc zero) = Some fault.NoBase
fault_at (suc (suc zero)) = Some fault.DuplicateMember
fault_at (suc (suc (suc zero))) = Some fault.NoMember
fault_at (suc (suc (suc (suc zero)))) = Some fault.BadNotify
fault_at (suc (suc (suc (suc (suc zero))))) = Some fault.NoType
fault_at (suc (suc (suc (suc (suc (suc zero)))))) = None
fault_at (suc (suc (suc (suc (suc (suc (suc n))))))) = Some fault.Memory

fault_placed : (f : MetaFault) → fault_at (place_of (Err f)) ≡ Some f
fault_placed fault.DuplicateClass = refl
fault_placed fault.NoBase = refl
fault_placed fault.DuplicateMember = refl
fault_placed fault.NoMember = refl
fault_placed fault.BadNotify = refl
fault_placed fault.NoType = refl
fault_placed fault.Memory = refl

module _ (program : Program) where
  -- the conditions in their order; the last one always holds
  abbrev Condition : ℕ → Type 0
  Condition zero = DuplicateClass program
  Condition (suc zero) = NoBase program
  Condition (suc (suc zero)) = (o : List Outline) × HasOutlines program o × DuplicateMember program o
  Condition (suc (suc (suc zero))) = (o : List Outline) × HasOutlines program o × LacksMember program o
  Condition (suc (suc (suc (suc zero)))) = (o : List Outline) × HasOutlines program o × BadNotify o
  Condition (suc (suc (suc (suc (suc zero))))) = (o : List Outline) × HasOutlines program o × NoType program o
  Condition (suc (suc (suc (suc (suc (suc n)))))) = Unit {0}

  record IsFirst (k : ℕ) : Type 0 where
    pub holds : Condition k
    pub none : (j : ℕ) → j < k → ¬ Condition j

  one_first : (k l : ℕ) → IsFirst k → IsFirst l → k ≡ l
  one_first k l h i =
      elim (cases_lt k l) [
        | inl below ↦ absurd (i.none k below h.holds)
        | inr past ↦ elim (cases_lt l k) [ inl above ↦ absurd (h.none l above i.holds) | inr within ↦ omega arith ]
      ]

  -- the conditions before, where the program has these outlines
  module _ (o : List Outline) (has : HasOutlines program o) where
    none_2 : (j : ℕ) → j < 2 → ¬ Condition j
    none_2 zero less c = has.distinct c
    none_2 (suc zero) less c = has.based c
    none_2 (suc (suc j)) less c = absurd (omega arith)

    none_3 : (¬ DuplicateMember program o) → (j : ℕ) → j < 3 → ¬ Condition j
    none_3 not (suc (suc zero)) less c = not (subst (DuplicateMember program) (same_all program c.0 o c.1.are has.are) c.2)
    none_3 not zero less c = has.distinct c
    none_3 not (suc zero) less c = has.based c
    none_3 not (suc (suc (suc j))) less c = absurd (omega arith)

    none_4 : (¬ DuplicateMember program o) → (¬ LacksMember program o) → (j : ℕ) → j < 4 → ¬ Condition j
    none_4 members names (suc (suc (suc zero))) less c = names (subst (LacksMember program) (same_all program c.0 o c.1.are has.are) c.2)
    none_4 members names zero less c = has.distinct c
    none_4 members names (suc zero) less c = has.based c
    none_4 members names (suc (suc zero)) less c = none_3 members 2 (omega arith) c
    none_4 members names (suc (suc (suc (suc j)))) less c = absurd (omega arith)

    none_5 : (¬ DuplicateMember program o) → (¬ LacksMember program o) → (¬ BadNotify o) → (j : ℕ) → j < 5 → ¬ Condition j
    none_5 members names notifiers (suc (suc (suc (suc zero)))) less c = notifiers (subst BadNotify (same_all program c.0 o c.1.are has.are) c.2)
    none_5 members names notifiers zero less c = has.distinct c
    none_5 members names notifiers (suc zero) less c = has.based c
    none_5 members names notifiers (suc (suc zero)) less c = none_4 members names 2 (omega arith) c
    none_5 members names notifiers (suc (suc (suc zero))) less c = none_4 members names 3 (omega arith) c
    none_5 members names notifiers (suc (suc (suc (suc (suc j))))) less c = absurd (omega arith)

    none_6 : (¬ DuplicateMember program o) → (¬ LacksMember program o) → (¬ BadNotify o) → (¬ NoType program o) → (j : ℕ) → j < 6 → ¬ Condition j
    none_6 members names notifiers types (suc (suc (suc (suc (suc zero))))) less c = types (subst (NoType program) (same_all program c.0 o c.1.are has.are) c.2)
    none_6 members names notifiers types zero less c = has.distinct c
    none_6 members names notifiers types (suc zero) less c = has.based c
    none_6 members names notifiers types (suc (suc zero)) less c = none_5 members names notifiers 2 (omega arith) c
    none_6 members names notifiers types (suc (suc (suc zero))) less c = none_5 members names notifiers 3 (omega arith) c
    none_6 members names notifiers types (suc (suc (suc (suc zero)))) less c = none_5 members names notifiers 4 (omega arith) c
    none_6 members names notifiers types (suc (suc (suc (suc (suc (suc j)))))) less c = absurd (omega arith)

  none_0 : (j : ℕ) → j < 0 → ¬ Condition j
  none_0 j less c = absurd (omega arith)

  none_1 : (¬ DuplicateClass program) → (j : ℕ) → j < 1 → ¬ Condition j
  none_1 distinct zero less c = distinct c
  none_1 distinct (suc j) less c = absurd (omega arith)

  -- the answer's place is that of the first condition that holds
  placed : (r : Result Loaded MetaFault) → Builds program r → r ≢ Err fault.Memory → IsFirst (place_of r)
  placed (Err fault.DuplicateClass) h not = record { holds = h; none = none_0 }
  placed (Err fault.NoBase) h not = record { holds = h.1; none = none_1 h.0 }
  placed (Err fault.DuplicateMember) h not = record { holds = h; none = none_2 h.0 h.1 }
  placed (Err fault.NoMember) h not = record { holds = (h.0, h.1, h.3); none = none_3 h.0 h.1 h.2 }
  placed (Err fault.BadNotify) h not = record { holds = (h.0, h.1, h.4); none = none_4 h.0 h.1 h.2 h.3 }
  placed (Err fault.NoType) h not = record { holds = (h.0, h.1, h.5); none = none_5 h.0 h.1 h.2 h.3 h.4 }
  placed (Ok loaded) h not = record { holds = tt; none = none_6 h.outlines h.outlined h.clean.members h.clean.names h.clean.notifiers h.clean.types }
  placed (Err fault.Memory) h not = absurd (not refl)

  same_answer : (a b : Result Loaded MetaFault) → Builds program a → Builds program b → place_of a ≡ place_of b → a ≡ b
  same_answer (Ok x) (Ok y) h k e = ap Ok (one_loading program x y h k)
  same_answer (Ok x) (Err g) h k e = absurd (none-some g (ap fault_at e ∙ fault_placed g))
  same_answer (Err f) (Ok y) h k e = absurd (none-some f (ap fault_at (sym e) ∙ fault_placed f))
  same_answer (Err f) (Err g) h k e = ap Err (same_Some _ _ (sym (fault_placed f) ∙ ap fault_at e ∙ fault_placed g))

pub one_answer : OneAnswer
one_answer program a b h k not_a not_b =
    same_answer program a b h k (one_first program (place_of a) (place_of b) (placed program a h not_a) (placed program b k not_b))
