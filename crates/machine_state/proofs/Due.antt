-- The connection that an emission uses next.
use Rattle.std.proofs.Common.{◌≡◌, ℕ, ◌<◌, ◌≤◌, ◌&&◌, eqb, nat_lt, nat_le, not, Bool, true, false, cond, List, [], ◌∷◌, Option, Some, None, IfSome, refl, sym, subst}
use Rattle.std.specs.List.{AllByRecursion, filter, find}
use Rattle.std.proofs.lemmas.Bool.{eqb-true, ltb-true, leb-true, and_parts}
use Rattle.connections.specs.declared.connection.Connection.{Connection}
use Rattle.connections.specs.Connected.{Connected, is_of, is_due, is_numbered, removed}
use Rattle.object_tree.specs.declared.object.Object.{Object}
use Rattle.object_tree.specs.Objects.{life_of}
use Rattle.machine_state.specs.Connections.{silences, is_living, can_be_used, next_used, after_use}

-- what is found passes
found-passes : {X : Type 0} (test : X → Bool) (xs : List X) (c : X) → find test xs ≡ Some c → test c ≡ true
found-passes test [] c e = absurd (cc e)
found-passes {X} test (x ∷ xs) c e =
    (elim (test x) as (λ b. test x ≡ b → cond b (Some x) (find test xs) ≡ Some c → test c ≡ true) [
      | true ↦ λ passes is. let same : x ≡ c = cc is in subst (λ (y : X). test y ≡ true) same passes
      | false ↦ λ fails is. found-passes test xs c is
    ]) refl e

-- .. and is one of the list
pub found-among : {X : Type 0} (P : X → Type 0) (test : X → Bool) (xs : List X) (c : X) → AllByRecursion P xs → find test xs ≡ Some c → P c
found-among P test [] c all e = absurd (cc e)
found-among {X} P test (x ∷ xs) c all e =
    (elim (test x) as (λ b. cond b (Some x) (find test xs) ≡ Some c → P c) [
      | true ↦ λ is. let same : x ≡ c = cc is in subst P same all.0
      | false ↦ λ is. found-among P test xs c all.1 is
    ]) e

-- ---- what a use leaves

-- what holds of each holds of those that a test leaves
all-filtered : {X : Type 0} (P : X → Type 0) (test : X → Bool) (xs : List X) → AllByRecursion P xs → AllByRecursion P (filter test xs)
all-filtered P test [] all = tt
all-filtered {X} P test (x ∷ xs) all = by_test (test x) (all-filtered P test xs all.1)
  where
    by_test : (b : Bool) → AllByRecursion P (filter test xs) → AllByRecursion P (cond b (x ∷ filter test xs) (filter test xs))
    by_test true rest = (all.0, rest)
    by_test false rest = rest

pub all-removed : (P : Connection → Type 0) (test : Connection → Bool) (connected : Connected) → AllByRecursion P connected.connections → AllByRecursion P (removed test connected).connections
all-removed P test connected all = all-filtered P (λ d. not (test d)) connected.connections all

pub all-used : (P : Connection → Type 0) (c : Connection) (connected : Connected) → AllByRecursion P connected.connections → AllByRecursion P (after_use c connected).connections
all-used P c connected all = by_test c.single
  where
    by_test : (b : Bool) → AllByRecursion P (cond b (removed (is_numbered c.number) connected) connected).connections
    by_test true = all-removed P (is_numbered c.number) connected all
    by_test false = all

-- no number is given
pub last-used : (c : Connection) (connected : Connected) → (after_use c connected).last ≡ connected.last
last-used c connected = by_test c.single
  where
    by_test : (b : Bool) → (cond b (removed (is_numbered c.number) connected) connected).last ≡ connected.last
    by_test true = refl
    by_test false = refl

-- ---- what is used

-- what is due is of this sender and signal, made after the last one used and not after the last one that was made
due-is : (o g used last : ℕ) (c : Connection) → is_due o g used last c ≡ true → ((c.sender ≡ o) × (c.signal ≡ g)) × ((used < c.number) × (c.number ≤ last))
due-is o g used last c due =
    let parts = and_parts (is_of o g c) (nat_lt used c.number && nat_le c.number last) due in
    let ends = and_parts (eqb c.sender o) (eqb c.signal g) parts.0 in
    let made = and_parts (nat_lt used c.number) (nat_le c.number last) parts.1 in
    ((eqb-true c.sender o ends.0, eqb-true c.signal g ends.1), (ltb-true used c.number made.0, leb-true c.number last made.1))

-- what is found as due, and as one that can be used
pub due-within : (connections : List Connection) (o g used last : ℕ) (c : Connection) → find (is_due o g used last) connections ≡ Some c → (used < c.number) × (c.number ≤ last)
due-within connections o g used last c found = (due-is o g used last c (found-passes (is_due o g used last) connections c found)).1

pub can-within : (objects : List Object) (connections : List Connection) (o g used last : ℕ) (r : Option Connection) → r ≡ find (can_be_used objects o g used last) connections → IfSome r (λ c. (used < c.number) × (c.number ≤ last))
can-within objects connections o g used last None e = tt
can-within objects connections o g used last (Some c) e =
    let can : can_be_used objects o g used last c ≡ true = found-passes (can_be_used objects o g used last) connections c (sym e) in
    (due-is o g used last c (and_parts (is_due o g used last c) (is_living objects c.receiver) can).0).1

-- what is used can be
used-found : (objects : List Object) (connections : List Connection) (o g used last : ℕ) (c : Connection) → next_used objects connections o g used last ≡ Some c → find (can_be_used objects o g used last) connections ≡ Some c
used-found objects connections o g used last c found = by_test (silences (life_of objects o) g) found
  where
    by_test : (b : Bool) → cond b None (find (can_be_used objects o g used last) connections) ≡ Some c → find (can_be_used objects o g used last) connections ≡ Some c
    by_test true e = absurd (cc e)
    by_test false e = e

used-can : (objects : List Object) (connections : List Connection) (o g used last : ℕ) (c : Connection) → next_used objects connections o g used last ≡ Some c → (is_due o g used last c ≡ true) × (is_living objects c.receiver ≡ true)
used-can objects connections o g used last c found =
    let can : can_be_used objects o g used last c ≡ true = found-passes (can_be_used objects o g used last) connections c (used-found objects connections o g used last c found) in
    and_parts (is_due o g used last c) (is_living objects c.receiver) can

-- .. it is due
pub used-due : (objects : List Object) (connections : List Connection) (o g used last : ℕ) (c : Connection) → next_used objects connections o g used last ≡ Some c → ((c.sender ≡ o) × (c.signal ≡ g)) × ((used < c.number) × (c.number ≤ last))
used-due objects connections o g used last c found = due-is o g used last c (used-can objects connections o g used last c found).0

-- .. and its receiver lives
pub used-living : (objects : List Object) (connections : List Connection) (o g used last : ℕ) (c : Connection) → next_used objects connections o g used last ≡ Some c → is_living objects c.receiver ≡ true
used-living objects connections o g used last c found = (used-can objects connections o g used last c found).1

-- .. its sender isn't silent
pub used-heard : (objects : List Object) (connections : List Connection) (o g used last : ℕ) (c : Connection) → next_used objects connections o g used last ≡ Some c → silences (life_of objects o) g ≡ false
used-heard objects connections o g used last c found = by_test (silences (life_of objects o) g) found
  where
    by_test : (b : Bool) → cond b None (find (can_be_used objects o g used last) connections) ≡ Some c → b ≡ false
    by_test true e = absurd (cc e)
    by_test false e = refl

-- what holds of all connections holds of the one that is used
pub used-among : (P : Connection → Type 0) (objects : List Object) (connections : List Connection) (o g used last : ℕ) (c : Connection) → AllByRecursion P connections → next_used objects connections o g used last ≡ Some c → P c
used-among P objects connections o g used last c all found =
    found-among P (can_be_used objects o g used last) connections c all (used-found objects connections o g used last c found)
