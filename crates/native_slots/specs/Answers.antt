-- What closures may be asked, and what they may answer, by the class and the signature of a native. Which S stand for the
-- closures is left open, since a definition can't name what holds a boxed closure.
use Rattle.std.specs.Prelude.{◌≡◌, ℕ, Bool, false, List, Some, find, Vec, Result, Ok}
use Rattle.std.specs.Option.{option_map_or}
use Rattle.std.specs.declared.alloc.Global.{Global}
use Rattle.std.specs.declared.alloc.AllocError.{AllocError}
use Rattle.basic_types.specs.declared.sig.Sig.{Sig}
use Rattle.basic_types.specs.declared.value.Value.{Value}
use Rattle.native_slots.specs.declared.action.Action.{Action}
use Rattle.native_slots.specs.declared.head.NativeHead.{NativeHead}
use Rattle.native_slots.specs.Effects.{accepts}
use Rattle.native_slots.specs.Heads.{is_for, first_for}

-- there is a closure for the native, and the first one accepts these arguments and values
abbrev pub takes_any : List NativeHead → List ℕ → Sig → List Value → List Value → Bool
takes_any heads class sig arguments reads =
    option_map_or (λ (head : NativeHead). accepts head.effects arguments reads) (first_for class sig heads) false

-- the first closure for the native may answer these actions on these arguments and values
pub record MayAnswer {S : Type 0} (head_of : S → NativeHead) (answers : S → List Value → List Value → Result (Vec Action Global) AllocError → Type 0) (slots : List S) (class : List ℕ) (sig : Sig) (arguments reads : List Value) (actions : List Action) : Type 0 where
  pub slot : S
  pub first : find (λ s. is_for class sig (head_of s)) slots ≡ Some slot
  pub answer : Vec Action Global
  pub is : answer.items ≡ actions
  pub gave : answers slot arguments reads (Ok answer)
