-- What a look-up answers (docs/machine.md, "Meta-objects").
use Rattle.std.specs.Borrow.{Bor}
use Rattle.std.specs.Prelude.{◌≡◌, ℕ, ◌<◌, List, length, Any, Option, MatchOption, IfSome}

-- what is found has P; where nothing is found, nothing has
abbrev pub LooksUp : {X : Type 0} → (X → Type 0) → Option X → Type 0
LooksUp {X} P answer = MatchOption answer ((x : X) → ¬ P x) (λ found. P found)

-- what is found, by a reference to it, has P; where nothing is found, nothing has
abbrev pub LooksUpRef : {X : Type 0} → (X → Type 0) → Option (Bor X) → Type 0
LooksUpRef {X} P answer = MatchOption answer ((x : X) → ¬ P x) (λ found. P found.now)

-- nothing else than what is found has P
abbrev pub FindsOnly : {X : Type 0} → (X → Type 0) → Option X → Type 0
FindsOnly {X} P answer = IfSome answer (λ found. (x : X) → P x → x ≡ found)

-- an element with P, by its place, where there is one
abbrev pub FindsOne : {X : Type 0} → (X → Type 0) → List X → Option ℕ → Type 0
FindsOne P xs answer = MatchOption answer (¬ Any P xs) (λ k. Any P xs × (k < length xs))

-- something, exactly where this holds
abbrev pub Tells : {X : Type 0} → Type 0 → Option X → Type 0
Tells Holds answer = MatchOption answer (¬ Holds) (λ found. Holds)
