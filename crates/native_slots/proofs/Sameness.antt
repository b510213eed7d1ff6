-- The tests of names, types and signatures tell exactly what is the same.
use Rattle.std.proofs.Common.{◌≡◌, ℕ, List, Bool, true, false, ◌&&◌, refl, sym, ap}
use Rattle.std.specs.Bool.{beq, Decides}
use Rattle.std.specs.Cmp.Lexicographic.{pointwise_decides, bytes_decides}
use Rattle.basic_types.specs.declared.qtype.QType.{QType}
use Rattle.basic_types.specs.declared.sig.Sig.{Sig}
use Rattle.native_slots.specs.declared.head.NativeHead.{NativeHead}
use Rattle.native_slots.specs.Heads.{same_types, same_sigs, is_for}

pub both : {A B : Type 0} (a b : Bool) → Decides a A → Decides b B → Decides (a && b) (A × B)
both true true h k = (λ _. (h.0 refl, k.0 refl), λ _. refl)
both true false h k = (λ e. absurd (false_true e), λ w. k.1 w.1)
  where
    false_true : false ≡ true → ⊥
    false_true e = cc
both false b h k = (λ e. absurd (false_true e), λ w. h.1 w.0)
  where
    false_true : false ≡ true → ⊥
    false_true e = cc

pub same_bools : (a b : Bool) → Decides (beq a b) (a ≡ b)
same_bools true true = (λ _. refl, λ _. refl)
same_bools false false = (λ _. refl, λ _. refl)
same_bools true false = (λ e. sym e, λ e. sym e)
same_bools false true = (λ e. e, λ e. e)

pub same_types_decide : (a b : QType) → Decides (same_types a b) (a ≡ b)
same_types_decide a b =
    let parts = both _ _ (both _ _ (same_bools a.constant b.constant) (same_bools a.pointer b.pointer)) (bytes_decides a.name b.name) in (
      λ e. let w = parts.0 e in λ i. record { name = w.1 i; constant = w.0.0 i; pointer = w.0.1 i },
      λ e. parts.1 ((ap (λ (x : QType). x.constant) e, ap (λ (x : QType). x.pointer) e), ap (λ (x : QType). x.name) e),
    )

pub same_sigs_decide : (a b : Sig) → Decides (same_sigs a b) (a ≡ b)
same_sigs_decide a b =
    let parts = both _ _ (bytes_decides a.name b.name) (pointwise_decides same_types_decide a.types b.types) in (
      λ e. let w = parts.0 e in λ i. record { name = w.0 i; types = w.1 i },
      λ e. parts.1 (ap (λ (x : Sig). x.name) e, ap (λ (x : Sig). x.types) e),
    )

pub is_for_decides : (class : List ℕ) (sig : Sig) (head : NativeHead) → Decides (is_for class sig head) ((head.class ≡ class) × (head.sig ≡ sig))
is_for_decides class sig head = both _ _ (bytes_decides head.class class) (same_sigs_decide head.sig sig)
