-- What the scheduling of a deletion does to an object that lives (`delete_later/specs/Scheduling.antt`).
use Rattle.std.proofs.Common.{◌≡◌, ℕ, Bool, true, false, Option, Some, if◌then◌else◌, ap, ◌∙◌}
use Rattle.object_tree.specs.declared.life.Life.{Life}
use Rattle.object_tree.specs.Objects.{life_of}
use Rattle.delete_later.specs.declared.store.Store.{Store}
use Rattle.delete_later.specs.Scheduling.{deferred_to, scheduled_with, scheduled_in}

by-mark : (o : ℕ) (s : Store) (life : Life) (marked : Bool) → life_of s.tree o ≡ Some life → life.scheduled ≡ marked → scheduled_in o s ≡ (if marked then s else deferred_to life.home o s)
by-mark o s life marked lives is =
    ap (λ (there : Option Life). scheduled_with there o s) lives
    ∙ ap (λ (b : Bool). if b then s else deferred_to life.home o s) is

-- it is appended to the items of the loop in which the object lives
pub scheduled-now : (o : ℕ) (s : Store) (life : Life) → life_of s.tree o ≡ Some life → life.scheduled ≡ false → scheduled_in o s ≡ deferred_to life.home o s
scheduled-now o s life lives unmarked = by-mark o s life false lives unmarked

-- .. once
pub scheduled-before : (o : ℕ) (s : Store) (life : Life) → life_of s.tree o ≡ Some life → life.scheduled ≡ true → scheduled_in o s ≡ s
scheduled-before o s life lives marked = by-mark o s life true lives marked
