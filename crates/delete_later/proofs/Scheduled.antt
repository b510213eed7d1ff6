-- An object that is scheduled is so from then on.
use Rattle.std.proofs.Common.{◌≡◌, ℕ, Bool, true, false, List, None, Some, Option, refl, ap, ◌∙◌, if◌then◌else◌}
use Rattle.std.specs.Prelude.{slice_get}
use Rattle.std.specs.Option.{option_map, option_and_then}
use Rattle.object_tree.specs.declared.life.Life.{Life}
use Rattle.object_tree.specs.declared.object.Object.{Object}
use Rattle.object_tree.specs.Objects.{life_of, change_life, scheduled, with_life}
use Rattle.object_tree.proofs.Changing.{get-change_same}
use Rattle.delete_later.specs.Scheduling.{deferred_to, scheduled_with, scheduled_in}
use Rattle.delete_later.specs.Laws.{ScheduledOnce}

-- the life of an object that was changed
life-change : (f : Life → Life) (there : Option Object) → option_and_then (λ (x : Object). x.life) (option_map (with_life f) there) ≡ option_map f (option_and_then (λ (x : Object). x.life) there)
life-change f None = refl
life-change f (Some x) = refl

pub life_of-change_life : (o : ℕ) (f : Life → Life) (objects : List Object) → life_of (change_life o f objects) o ≡ option_map f (life_of objects o)
life_of-change_life o f objects =
    ap (λ (there : Option Object). option_and_then (λ (x : Object). x.life) there) (get-change_same o (with_life f) objects)
    ∙ life-change f (slice_get objects o)

pub once : ScheduledOnce
once object s = by_life (life_of s.tree object) refl
  where
    by_mark : (life : Life) (b : Bool) → life_of s.tree object ≡ Some life → life.scheduled ≡ b → scheduled_in object (if b then s else deferred_to life.home object s) ≡ (if b then s else deferred_to life.home object s)
    by_mark life true is marked =
        ap (λ (there : Option Life). scheduled_with there object s) is
        ∙ ap (λ (b : Bool). if b then s else deferred_to life.home object s) marked
    by_mark life false is marked =
        let after : life_of (change_life object scheduled s.tree) object ≡ Some (scheduled life) = life_of-change_life object scheduled s.tree ∙ ap (λ (there : Option Life). option_map scheduled there) is in
        ap (λ (there : Option Life). scheduled_with there object (deferred_to life.home object s)) after

    by_life : (there : Option Life) → life_of s.tree object ≡ there → scheduled_in object (scheduled_with there object s) ≡ scheduled_with there object s
    by_life None is = ap (λ (there : Option Life). scheduled_with there object s) is
    by_life (Some life) is = by_mark life life.scheduled is refl
