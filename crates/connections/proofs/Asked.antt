-- What is found in the lists, and what is told of the connections.
use Rattle.std.proofs.Common.{◌≡◌, ⊎_elim, ℕ, Bool, true, false, cond, List, [], ◌∷◌, refl, arith, ◌&&◌, ◌||◌, eqb, nat_lt, ap, sym, ◌∙◌, filter, ◌⊎◌, inl, inr, ◌+◌, ◌<◌, ◌≤◌, not, nat_le, Option, None, Some, count_by}
use Rattle.std.specs.List.{Contains, find, list_any, cons_option}
use Rattle.std.proofs.lemmas.Map.Views.{any-filter_same}
use Rattle.std.proofs.lemmas.Bool.{eqb-true, and_parts, leb-false}
use Rattle.slab.specs.Slab.{Slab, get}
use Rattle.std.proofs.lemmas.List.Sums.{sum_by-cons}
use Rattle.connections.specs.declared.connection.Connection.{Connection}
use Rattle.connections.specs.declared.cell.Cell.{Cell}
use Rattle.connections.specs.declared.place.CellPlace.{CellPlace}
use Rattle.connections.specs.declared.lists.Lists.{Lists}
use Rattle.connections.specs.Connected.{without, is_of, is_later, is_numbered, joins, touches, Held, Rises, not_above, removed_in}
use Rattle.connections.specs.code.Cells.{LeadToEach}
use Rattle.connections.specs.code.CellPlaces.{live, connection_in, Rising}
use Rattle.connections.specs.code.Lists.{all_of, of_signal, of_object, shown_in, ListsLead, AreOfEither}

-- a search for two tests is a search for one in what passes the other
pub find_both : (p q : Connection → Bool) (cs : List Connection) → find (λ c. p c && q c) cs ≡ find q (filter p cs)
find_both p q [] = refl
find_both p q (c ∷ cs) = by_tests (p c) (q c) refl refl (find_both p q cs)
  where
    by_tests : (a b : Bool) → p c ≡ a → q c ≡ b → find (λ d. p d && q d) cs ≡ find q (filter p cs) → find (λ d. p d && q d) (c ∷ cs) ≡ find q (filter p (c ∷ cs))
    by_tests true true e f h = grind (arith, h)
    by_tests true false e f h = grind (arith, h)
    by_tests false b e f h = grind (arith, h)

-- what a signal's list leads to, above a number
pub find-of_signal : (cells : Slab Cell) (lists : Lists) (last s g number : ℕ) → ListsLead cells lists last → find (λ c. nat_lt number c.number) (live cells (of_signal lists s g)) ≡ find (is_later s g number) (shown_in cells lists)
find-of_signal cells lists last s g number l =
    ap (find (λ (c : Connection). nat_lt number c.number)) (l.by_signal s g).exact
    ∙ sym (find_both (is_of s g) (λ c. nat_lt number c.number) (shown_in cells lists))

module _ (cells : Slab Cell) (lists : Lists) (last : ℕ) where
  -- what joins these is of the sender and signal, and touches the receiver
  joins-of : (s g r m : ℕ) (c : Connection) → joins s g r m c ≡ true → is_of s g c ≡ true
  joins-of s g r m c h = (and_parts (is_of s g c) (eqb c.receiver r) (and_parts (is_of s g c && eqb c.receiver r) (eqb c.method m) h).0).0

  joins-touches : (s g r m : ℕ) (c : Connection) → joins s g r m c ≡ true → touches r c ≡ true
  joins-touches s g r m c h = by_sender (eqb c.sender r) (and_parts (is_of s g c) (eqb c.receiver r) (and_parts (is_of s g c && eqb c.receiver r) (eqb c.method m) h).0).1
    where
      by_sender : (b : Bool) → eqb c.receiver r ≡ true → (b || eqb c.receiver r) ≡ true
      by_sender true e = refl
      by_sender false e = e

  module _ (s g r m : ℕ) (places : List CellPlace) (l : ListsLead cells lists last) where
    -- either list leads to each connection that joins these
    pub LeadToEach-either : AreOfEither lists s g r places → LeadToEach cells (joins s g r m) places
    LeadToEach-either t = ⊎_elim
        (λ (same : places ≡ of_signal lists s g). rw same (record { place = λ k cell at alive passes. (l.by_signal s g).covers.place k cell at alive (joins-of s g r m cell.connection passes) }))
        (λ (same : places ≡ of_object lists r). rw same (record { place = λ k cell at alive passes. (l.by_object r).covers.place k cell at alive (joins-touches s g r m cell.connection passes) }))
        t

    -- and so one of them does where one of all connections does
    pub any-either : AreOfEither lists s g r places → list_any (joins s g r m) (live cells places) ≡ list_any (joins s g r m) (shown_in cells lists)
    any-either t = ⊎_elim
        (λ (same : places ≡ of_signal lists s g). ap (λ ps. list_any (joins s g r m) (live cells ps)) same ∙ ap (list_any (joins s g r m)) (l.by_signal s g).exact ∙ any-filter_same (joins s g r m) (is_of s g) true (joins-of s g r m) (shown_in cells lists))
        (λ (same : places ≡ of_object lists r). ap (λ ps. list_any (joins s g r m) (live cells ps)) same ∙ ap (list_any (joins s g r m)) (l.by_object r).exact ∙ any-filter_same (joins s g r m) (touches r) true (joins-touches s g r m) (shown_in cells lists))
        t

  -- the place of a number, where places of that number are found, leads to the connection of that number
  pub LeadToEach-numbered : (number : ℕ) (places : List CellPlace) → ((p : CellPlace) → Contains (all_of lists) p → p.number ≡ number → Contains places p) → ListsLead cells lists last → LeadToEach cells (is_numbered number) places
  LeadToEach-numbered number places h l = record {
    place = λ k cell at alive passes. h (record { number = cell.connection.number; key = k }) (l.all.covers.place k cell at alive refl) (eqb-true _ _ passes);
  }

Rises-lower : (low less last : ℕ) (cs : List Connection) → less ≤ low → Rises low cs last → Rises less cs last
Rises-lower low less last [] h r = omega (arith, h, r)
Rises-lower low less last (c ∷ cs) h r = (omega (arith, h, r.0), r.1)

Rises-cons : (low number last : ℕ) (x : Option Cell) (cs : List Connection) → low < number → Rises number cs last → Rises low (cons_option (connection_in number x) cs) last
Rises-cons low number last None cs h r = Rises-lower number low last cs (omega (arith, h)) r
Rises-cons low number last (Some cell) cs h r = by_tests cell.live (eqb cell.connection.number number) refl
  where
    by_tests : (a b : Bool) → eqb cell.connection.number number ≡ b → Rises low (cons_option (cond (a && b) (Some cell.connection) None) cs) last
    by_tests true true e = let same : cell.connection.number ≡ number = eqb-true _ _ e in (omega (arith, same, h), rw same r)
    by_tests true false e = Rises-lower number low last cs (omega (arith, h)) r
    by_tests false b e = Rises-lower number low last cs (omega (arith, h)) r

-- what rising places lead to rises
pub Rises-live : (cells : Slab Cell) (low last : ℕ) (places : List CellPlace) → Rising low places last → Rises low (live cells places) last
Rises-live cells low last [] r = r
Rises-live cells low last (p ∷ places) r = Rises-cons low p.number last (get cells p.key) (live cells places) r.0 (Rises-live cells p.number last places r.1)

-- either none passes the test, none is counted and none would be removed, or some do
abbrev IsCounted : (Connection → Bool) → List Connection → Type 0
IsCounted p cs = ((count_by p cs ≡ 0) × (list_any p cs ≡ false) × (without p cs ≡ cs)) ⊎ ((0 < count_by p cs) × (list_any p cs ≡ true))

is-counted : (p : Connection → Bool) (cs : List Connection) → IsCounted p cs
is-counted p [] = inl (refl, refl, refl)
is-counted p (c ∷ cs) = by_test (p c) refl (is-counted p cs)
  where
    by_test : (b : Bool) → p c ≡ b → IsCounted p cs → IsCounted p (c ∷ cs)
    by_test true e h =
        let one : (cond {A = ℕ} (p c) 1 0) ≡ 1 = ap (λ b. cond {A = ℕ} b 1 0) e in
        inr (omega (arith, one, sum_by-cons (λ z. cond (p z) 1 0) c cs), ap (λ b. b || list_any p cs) e)
    by_test false e (inl (n, a, w)) =
        let one : (cond {A = ℕ} (p c) 1 0) ≡ 0 = ap (λ b. cond {A = ℕ} b 1 0) e in
        inl (omega (arith, one, n, sum_by-cons (λ z. cond (p z) 1 0) c cs), ap (λ b. b || list_any p cs) e ∙ a, ap (λ b. cond (not b) (c ∷ without p cs) (without p cs)) e ∙ ap (λ ys. c ∷ ys) w)
    by_test false e (inr (n, a)) = inr (omega (arith, n, sum_by-cons (λ z. cond (p z) 1 0) c cs), ap (λ b. b || list_any p cs) e ∙ a)

pub none-counted : (p : Connection → Bool) (cs : List Connection) → count_by p cs ≡ 0 → list_any p cs ≡ false
none-counted p cs h = ⊎_elim (λ none. none.1) (λ (some : (0 < count_by p cs) × (list_any p cs ≡ true)). absurd (omega (arith, h, some.0))) (is-counted p cs)

pub some-counted : (p : Connection → Bool) (cs : List Connection) → (count_by p cs ≡ 0 → ⊥) → list_any p cs ≡ true
some-counted p cs h = ⊎_elim (λ none. absurd (h none.0)) (λ some. some.1) (is-counted p cs)

-- where none is counted, none is removed
pub none-removed : (p : Connection → Bool) (h : Held) → count_by p h.connected.connections ≡ 0 → removed_in p h ≡ h
none-removed p h none =
    let with : List Connection → ℕ → Held = λ cs n. record { connected = record { connections = cs; last = h.connected.last }; marked = n } in
    let all : without p h.connected.connections ≡ h.connected.connections = ⊎_elim (λ none. none.2) (λ (some : (0 < count_by p h.connected.connections) × (list_any p h.connected.connections ≡ true)). absurd (omega (arith, none, some.0))) (is-counted p h.connected.connections) in
    let same : h.marked + count_by p h.connected.connections ≡ h.marked = omega (arith, none) in
    ap (λ (cs : List Connection). with cs (h.marked + count_by p h.connected.connections)) all ∙ ap (with h.connected.connections) same

module _ (p : Connection → Bool) (used made : ℕ) where
  abbrev due : Connection → Bool
  due c = p c && (nat_lt used c.number && nat_le c.number made)

  abbrev later : Connection → Bool
  later c = p c && nat_lt used c.number

  -- none is due where all are numbered above
  find_due-above : (low last : ℕ) (cs : List Connection) → made < low → Rises low cs last → find due cs ≡ None
  find_due-above low last [] h r = refl
  find_due-above low last (c ∷ cs) h r = grind (arith, r.0, find_due-above c.number last cs (omega (arith, h, r.0)) r.1)

  -- the first that is due is the first later one, if that is not numbered above
  pub find_due : (low last : ℕ) (cs : List Connection) → Rises low cs last → find due cs ≡ not_above made (find later cs)
  find_due low last [] r = refl
  find_due low last (c ∷ cs) r = by_tests (p c) (nat_lt used c.number) (nat_le c.number made) refl refl refl (find_due c.number last cs r.1)
    where
      by_tests : (a b d : Bool) → p c ≡ a → nat_lt used c.number ≡ b → nat_le c.number made ≡ d → find due cs ≡ not_above made (find later cs) → find due (c ∷ cs) ≡ not_above made (find later (c ∷ cs))
      by_tests true true true e f g h = grind (arith)
      by_tests true true false e f g h = let above : made < c.number = leb-false _ _ g in grind (arith, find_due-above c.number last cs above r.1)
      by_tests true false d e f g h = grind (arith, h)
      by_tests false b d e f g h = grind (arith, h)
