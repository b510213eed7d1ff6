-- What closures may be asked and may answer, by their places.
use Rattle.std.proofs.Common.{◌≡◌, ℕ, List, true, false, slice_get, Option, None, Some, Vec, Result, Ok, Err, IsTrue, refl, sym, ◌∙◌, subst, map}
use Rattle.std.specs.Prelude.{IfOk, find, position}
use Rattle.std.specs.Option.{option_map, option_map_or}
use Rattle.std.specs.declared.alloc.Global.{Global}
use Rattle.std.specs.declared.alloc.AllocError.{AllocError}
use Rattle.basic_types.specs.declared.sig.Sig.{Sig}
use Rattle.basic_types.specs.declared.value.Value.{Value}
use Rattle.native_slots.specs.declared.action.Action.{Action}
use Rattle.native_slots.specs.declared.head.NativeHead.{NativeHead}
use Rattle.native_slots.specs.Answers.{takes_any, MayAnswer}
use Rattle.native_slots.specs.Effects.{accepts}
use Rattle.native_slots.specs.Heads.{is_for, first_for}
use Rattle.native_slots.proofs.Finding.{find_map, find_placed}

module _ {S : Type 0} (head_of : S → NativeHead) (slots : List S) (class : List ℕ) (sig : Sig) where
  abbrev pub found : Option S
  found = find (λ s. is_for class sig (head_of s)) slots

  pub heads_found : first_for class sig (map head_of slots) ≡ option_map head_of found
  heads_found = find_map (is_for class sig) head_of slots

  module _ (arguments reads : List Value) where
    accepted_of : (o : Option S) (slot : S) → o ≡ Some slot → IsTrue (option_map_or (λ (h : NativeHead). accepts h.effects arguments reads) (option_map head_of o) false) → IsTrue (accepts (head_of slot).effects arguments reads)
    accepted_of o slot e h = subst (λ o. IsTrue (option_map_or (λ (h : NativeHead). accepts h.effects arguments reads) (option_map head_of o) false)) e h

    taken : IsTrue (takes_any (map head_of slots) class sig arguments reads) → IsTrue (option_map_or (λ (h : NativeHead). accepts h.effects arguments reads) (option_map head_of found) false)
    taken h = subst (λ o. IsTrue (option_map_or (λ (h : NativeHead). accepts h.effects arguments reads) o false)) heads_found h

    -- the closure that is found accepts what the natives take
    pub accepted_at : (place : ℕ) → IsTrue (takes_any (map head_of slots) class sig arguments reads) → position (λ s. is_for class sig (head_of s)) slots ≡ Some place → (slot : S) → slice_get slots place ≡ Some slot → IsTrue (accepts (head_of slot).effects arguments reads)
    accepted_at place h at slot is = accepted_of found slot (find_placed _ slots place at ∙ is) (taken h)

    module _ (answers : S → List Value → List Value → Result (Vec Action Global) AllocError → Type 0) where
      may_of : (o : Option S) → found ≡ o → IsTrue (option_map_or (λ (h : NativeHead). accepts h.effects arguments reads) (option_map head_of o) false) → (r : Result (Vec Action Global) AllocError) → ((slot : S) → o ≡ Some slot → answers slot arguments reads r) → IfOk r (λ v. MayAnswer head_of answers slots class sig arguments reads v.items)
      may_of (Some slot) first h (Ok v) gave = record { slot = slot; first = first; answer = v; is = refl; gave = gave slot refl }
      may_of None first h (Ok v) gave = absurd (false_true h)
        where
          false_true : false ≡ true → ⊥
          false_true e = cc
      may_of o first h (Err e) gave = tt

      -- and what it answers is what they may answer
      pub may_answer_at : (place : ℕ) → IsTrue (takes_any (map head_of slots) class sig arguments reads) → position (λ s. is_for class sig (head_of s)) slots ≡ Some place → (r : Result (Vec Action Global) AllocError) → ((slot : S) → slice_get slots place ≡ Some slot → answers slot arguments reads r) → IfOk r (λ v. MayAnswer head_of answers slots class sig arguments reads v.items)
      may_answer_at place h at r gave = may_of found refl (taken h) r (λ slot is. gave slot (sym (find_placed _ slots place at) ∙ is))

-- where no closure is for the native, nothing is taken
pub nothing_taken : (heads : List NativeHead) (class : List ℕ) (sig : Sig) (arguments reads : List Value) → first_for class sig heads ≡ None → IsTrue (takes_any heads class sig arguments reads) → ⊥
nothing_taken heads class sig arguments reads none h =
    let bad : false ≡ true = subst (λ o. IsTrue (option_map_or (λ (h : NativeHead). accepts h.effects arguments reads) o false)) none h in cc
