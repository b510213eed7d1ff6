-- What a test that failed says.
use Rattle.std.proofs.Common.{◌≡◌, Bool, false, IsTrue, ◌↔◌}

pub fails : {A : Type 0} (r : Bool) → (IsTrue r ↔ A) → r ≡ false → ¬ A
fails r is failed a = let t = is.1 a in cc
