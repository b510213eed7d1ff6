-- Which native a closure is for (docs/natives.md, "Which closure is called").
use Rattle.std.specs.Prelude.{ℕ, Bool, ◌&&◌, nat_eq, List, Option, find}
use Rattle.std.specs.Bool.{beq}
use Rattle.std.specs.Cmp.Lexicographic.{pointwise}
use Rattle.basic_types.specs.declared.qtype.QType.{QType}
use Rattle.basic_types.specs.declared.sig.Sig.{Sig}
use Rattle.native_slots.specs.declared.head.NativeHead.{NativeHead}

abbrev pub same_names : List ℕ → List ℕ → Bool
same_names = pointwise nat_eq

abbrev pub same_types : QType → QType → Bool
same_types a b = beq a.constant b.constant && beq a.pointer b.pointer && same_names a.name b.name

abbrev pub same_sigs : Sig → Sig → Bool
same_sigs a b = same_names a.name b.name && pointwise same_types a.types b.types

-- the closure is for the native of this class and signature
abbrev pub is_for : List ℕ → Sig → NativeHead → Bool
is_for class sig head = same_names head.class class && same_sigs head.sig sig

-- of several closures for one native the first counts
abbrev pub first_for : List ℕ → Sig → List NativeHead → Option NativeHead
first_for class sig heads = find (is_for class sig) heads
