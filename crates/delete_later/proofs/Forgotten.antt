-- What leaves a list isn't in it.
use Rattle.std.proofs.Common.{◌≡◌, ℕ, zero, suc, Bool, true, false, not, List, [], ◌∷◌, filter, map, if◌then◌else◌, refl}
use Rattle.std.specs.List.{list_any}
use Rattle.connections.specs.Connected.{touches}
use Rattle.event_loops.specs.Queues.{Loop, items_at, without_object}
use Rattle.delete_later.specs.Laws.{waits_for, EndedIsForgotten}

none_left : {X : Type 0} (test : X → Bool) (xs : List X) → list_any test (filter (λ x. not (test x)) xs) ≡ false
none_left test [] = refl
none_left {X} test (x ∷ xs) = by_test (test x) refl (none_left test xs)
  where
    by_test : (b : Bool) → test x ≡ b → list_any test (filter (λ y. not (test y)) xs) ≡ false → list_any test (if not b then x ∷ filter (λ y. not (test y)) xs else filter (λ y. not (test y)) xs) ≡ false
    by_test true told rest = rest
    by_test false told rest = rw told rest

none_waits : (object home : ℕ) (loops : List Loop) → list_any (waits_for object) (items_at (map (without_object object) loops) home) ≡ false
none_waits object home [] = refl
none_waits object zero (l ∷ loops) = none_left (waits_for object) l.items
none_waits object (suc home) (l ∷ loops) = none_waits object home loops

pub ended_forgotten : EndedIsForgotten
ended_forgotten object s = record {
  unconnected = none_left (touches object) s.connections.connections;
  awaited = λ home. none_waits object home s.loops.loops;
}
