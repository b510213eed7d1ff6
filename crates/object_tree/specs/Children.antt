-- Lists of children (docs/machine.md, "Objects"; Qt 6, `QObject::children`).
use Rattle.std.specs.Prelude.{ℕ, eqb, Bool, true, false, ◌&&◌, not, List, [], ◌∷◌, Option, None, Some, if◌then◌else◌}
use Rattle.meta_model.specs.Among.{is_among}

-- a list without the first place where the child stands
abbrev pub without : ℕ → List ℕ → List ℕ
without c [] = []
without c (k ∷ ks) = if eqb k c then ks else k ∷ without c ks

-- whether no child appears in the list twice
abbrev pub are_distinct : List ℕ → Bool
are_distinct [] = true
are_distinct (k ∷ ks) = not (is_among k ks) && are_distinct ks

-- the child that is at some place, if there is one, is this one
abbrev pub is_child : ℕ → Option ℕ → Bool
is_child c None = false
is_child c (Some k) = eqb k c
