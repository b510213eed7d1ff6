-- Which classes' objects are destroyed with an object (docs/certificate.md, "Edges").
use Rattle.std.specs.Prelude.{◌≡◌, ◌↔◌, ℕ, List, length}
use Rattle.std.specs.List.Sorted.{IsStrictlyIncreasing}
use Rattle.meta_model.specs.declared.object.MetaObject.{MetaObject}
use Rattle.meta_model.specs.Loaded.{Loaded}
use Rattle.meta_model.specs.Members.{IsClass, Owns}
use Rattle.effect_scan.specs.Rows.{row, Edge}

-- with an object of class c one of class d may be destroyed: one of c itself, and with one of d each that it may be the
-- parent of
pub data Closure (p : Loaded) (c : ℕ) : ℕ → Type 0 where
  itself : {class : MetaObject} → IsClass p c class → Closure p c c
  child : {d e : ℕ} → Closure p c d → Owns p d e → Closure p c e

-- for each class its closure, in the order of classes
pub record AreClosures (p : Loaded) (closures : List (List ℕ)) : Type 0 where
  pub count : length closures ≡ length p.classes
  pub members : (c d : ℕ) → Edge closures c d ↔ Closure p c d
  pub increasing : (c : ℕ) → IsStrictlyIncreasing (row closures c)
