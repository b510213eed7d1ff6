-- Objects that move to another event loop (Qt 6, `QObject::moveToThread`: an object moves with its children).
use Rattle.std.specs.Prelude.{◌≡◌, ◌↔◌, ℕ, true, List, [], ◌∷◌}
use Rattle.object_tree.specs.declared.life.Life.{Life}
use Rattle.object_tree.specs.declared.object.Object.{Object}
use Rattle.meta_model.specs.Among.{is_among}
use Rattle.object_tree.specs.Children.{are_distinct}
use Rattle.object_tree.specs.Objects.{change_life}
use Rattle.object_tree.specs.Family.{IsChild, Above}

-- each of these objects that lives is in this loop
abbrev pub all_in_loop : List ℕ → ℕ → List Object → List Object
all_in_loop [] home objects = objects
all_in_loop (o ∷ os) home objects = all_in_loop os home (change_life o (λ (l : Life). record l { home = home }) objects)

-- an object lives in this loop
abbrev pub in_loop : ℕ → Life → Life
in_loop home l = record l { home = home }

-- a child and its parent are both among these objects, or neither is
abbrev pub AreWhole : List ℕ → List Object → Type 0
AreWhole os objects = (parent child : ℕ) → IsChild objects parent child → is_among parent os ≡ is_among child os

-- these are an object and all its living descendants, reached through living objects, each once
pub record AreBelow (objects : List Object) (o : ℕ) (os : List ℕ) : Type 0 where
  pub distinct : are_distinct os ≡ true
  pub all : (k : ℕ) → (is_among k os ≡ true) ↔ Above objects o k
