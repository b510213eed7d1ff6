-- The ends of a connection, as `wired` looks for them among the wires.
use Rattle.std.specs.Prelude.{◌≡◌, ℕ, Some}
use Rattle.meta_model.specs.Loaded.{Loaded}
use Rattle.meta_model.specs.Members.{HasSig}
use Rattle.meta_model.specs.declared.meta.ConnectionEnd.{ConnectionEnd}

-- where a number is known, the class's method of it has the signature
abbrev pub IsEndOf : Loaded → ConnectionEnd → Type 0
IsEndOf p end = (n : ℕ) → end.number ≡ Some n → HasSig p end.class end.sig.now n
