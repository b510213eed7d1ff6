-- How many cells have a connection, how many have one that was removed, and how many more are marked by a removal.
use Rattle.std.proofs.Common.{◌≡◌, ◌≢◌, ⊎_elim, ℕ, zero, suc, ◌+◌, ◌<◌, ◌≤◌, Bool, true, false, cond, List, [], ◌∷◌, ◌++◌, length, Option, None, Some, is_some, refl, arith, get_or, set, count_by, ap, sym, ◌∙◌, not, option_map, ◌&&◌, ◌||◌}
use Rattle.std.proofs.lemmas.List.Elements.{Contains-append_left, Contains-push}
use Rattle.std.proofs.lemmas.List.Sums.{sum_by-set, sum_by-le-sum_by, sum_by-cons, sum_by_push}
use Rattle.std.proofs.lemmas.Bool.{cases_eq, false≢true}
use Rattle.std.proofs.lemmas.List.{get_or-set_same, get_or-set_other}
use Rattle.std.specs.Global.{Vec}
use Rattle.std.specs.Vec.{vec_len, vec_capacity}
use Rattle.std.proofs.lemmas.Option.{same_Some}
use Rattle.slab.specs.Slab.{Slab, get, slab_len, with_value}
use Rattle.connections.specs.code.Rooms.{Adds}
use Rattle.connections.specs.declared.connection.Connection.{Connection}
use Rattle.connections.specs.declared.cell.Cell.{Cell}
use Rattle.connections.specs.code.Cells.{is_dead, swept, Marked, fits, retired, counted, Retires}
use Rattle.connections.specs.declared.lists.Lists.{Lists}
use Rattle.connections.specs.declared.removing.Removal.{Removal}
use Rattle.connections.specs.code.Lists.{shown_in, Tied}

-- what two tests count, where they agree at each key
pub count_none : {X : Type 0} (p : Option X → Bool) (xs : List (Option X)) → ((k : ℕ) → p (get_or xs k None) ≡ false) → count_by p xs ≡ 0
count_none p [] h = refl
count_none p (x ∷ xs) h =
    let one : (cond {A = ℕ} (p x) 1 0) ≡ 0 = ap (λ b. cond {A = ℕ} b 1 0) (h zero) in
    omega (arith, one, sum_by-cons (λ z. cond (p z) 1 0) x xs, count_none p xs (λ k. h (suc k)))

pub count_same : {X : Type 0} (p q : Option X → Bool) (xs ys : List (Option X)) → p None ≡ false → q None ≡ false → ((k : ℕ) → p (get_or ys k None) ≡ q (get_or xs k None)) → count_by p ys ≡ count_by q xs
count_same p q [] ys e f h = count_none p ys (λ k. h k ∙ f)
count_same p q (x ∷ xs) [] e f h = sym (count_none q (x ∷ xs) (λ k. sym (h k) ∙ e))
count_same p q (x ∷ xs) (y ∷ ys) e f h =
    let one : (cond {A = ℕ} (p y) 1 0) ≡ (cond {A = ℕ} (q x) 1 0) = ap (λ b. cond {A = ℕ} b 1 0) (h zero) in
    omega (arith, one, sum_by-cons (λ z. cond (q z) 1 0) x xs, sum_by-cons (λ z. cond (p z) 1 0) y ys, count_same p q xs ys e f (λ k. h (suc k)))

-- the count after a write
count_set : {X : Type 0} (p : X → Bool) (xs : List X) (k : ℕ) (v d : X) → k < length xs → count_by p (set xs k v) + cond (p (get_or xs k d)) 1 0 ≡ count_by p xs + cond (p v) 1 0
count_set p xs k v d h = sum_by-set (λ x. cond (p x) 1 0) xs k v d h

within : {X : Type 0} (xs : List (Option X)) (k : ℕ) (x : X) → get_or xs k None ≡ Some x → k < length xs
within [] k x e = grind arith
within (y ∷ xs) zero x e = omega arith
within (y ∷ xs) (suc k) x e = omega (arith, within xs k x e)

-- one key more
pub count_more : {X : Type 0} (p : Option X → Bool) (xs ys : List (Option X)) (key : ℕ) (x : X) → p None ≡ false → get_or xs key None ≡ None → get_or ys key None ≡ Some x → ((k : ℕ) → k ≢ key → get_or ys k None ≡ get_or xs k None) → count_by p ys ≡ count_by p xs + cond {A = ℕ} (p (Some x)) 1 0
count_more p xs ys key x e vacant at others =
    let before : count_by p (set ys key None) ≡ count_by p xs = count_same p p xs (set ys key None) e e (λ k. ⊎_elim
    (λ (same : k ≡ key). ap (λ i. p (get_or (set ys key None) i None)) same ∙ ap p (get_or-set_same ys key None None (within ys key x at)) ∙ sym (ap (λ i. p (get_or xs i None)) same ∙ ap p vacant))
    (λ (other : k ≢ key). ap p (get_or-set_other ys key k None None other ∙ others k other))
    (cases_eq k key)) in
    let raw : count_by p (set ys key None) + cond {A = ℕ} (p (get_or ys key None)) 1 0 ≡ count_by p ys + cond {A = ℕ} (p None) 1 0 = count_set p ys key None None (within ys key x at) in
    let both : count_by p (set ys key None) + cond {A = ℕ} (p (Some x)) 1 0 ≡ count_by p ys + 0 = rw (at, e) at raw in
    omega (arith, before, both)

-- a test that implies another counts no more
count_less : {X : Type 0} (p q : X → Bool) → ((x : X) → cond (p x) 1 0 ≤ cond (q x) 1 0) → (xs : List X) → count_by p xs ≤ count_by q xs
count_less p q h xs = sum_by-le-sum_by (λ x. cond (p x) 1 0) (λ x. cond (q x) 1 0) xs h

dead_or_none : (x : Option Cell) → cond (is_dead x) 1 0 ≤ cond (is_some x) 1 0
dead_or_none None = omega arith
dead_or_none (Some x) = grind arith

dead_after : (xs : List (Option Cell)) (k : ℕ) (cell new : Cell) → get_or xs k None ≡ Some cell → cell.live ≡ true → new.live ≡ false → count_by is_dead (set xs k (Some new)) ≡ count_by is_dead xs + 1
dead_after xs k cell new e h f =
    let was : is_dead (get_or xs k None) ≡ false = rw (e, h) refl in
    let is : is_dead (Some new) ≡ true = rw f refl in
    let raw : count_by is_dead (set xs k (Some new)) + cond (is_dead (get_or xs k None)) 1 0 ≡ count_by is_dead xs + cond (is_dead (Some new)) 1 0 = count_set is_dead xs k (Some new) None (within xs k cell e) in
    let both : count_by is_dead (set xs k (Some new)) + 0 ≡ count_by is_dead xs + 1 = rw (was, is) at raw in
    omega (arith, both)

some_after : (xs : List (Option Cell)) (k : ℕ) (cell new : Cell) → get_or xs k None ≡ Some cell → count_by is_some (set xs k (Some new)) ≡ count_by is_some xs
some_after xs k cell new e =
    let raw : count_by is_some (set xs k (Some new)) + cond (is_some (get_or xs k None)) 1 0 ≡ count_by is_some xs + 1 = count_set is_some xs k (Some new) None (within xs k cell e) in
    let both : count_by is_some (set xs k (Some new)) + 1 ≡ count_by is_some xs + 1 = rw e at raw in
    omega (arith, both)

pub dead_before : (xs : List (Option Cell)) (k : ℕ) (cell : Cell) → get_or xs k None ≡ Some cell → cell.live ≡ true → count_by is_dead xs < count_by is_some xs
dead_before xs k cell e h =
    let dead : Cell = record cell { live = false } in
    omega (arith, dead_after xs k cell dead e h refl, some_after xs k cell dead e, count_less is_dead is_some dead_or_none (set xs k (Some dead)))

pub ruleset counts = (dead_before, Contains-append_left, Contains-push)

-- marking the connection of one cell
pub Marked-one : (cells : Slab Cell) (marked more : Vec ℕ) (k : ℕ) (cell new : Cell) → Marked cells marked → get cells k ≡ Some cell → cell.live ≡ true → new.live ≡ false → more.items ≡ marked.items ++ k ∷ [] → vec_len more ≡ vec_len marked + 1 → vec_capacity more ≡ vec_capacity marked → Marked (with_value cells k new) more
Marked-one cells marked more k cell new m e h f items len capacity = record {
  count = omega (arith, m.count, len, dead_after cells.slots k cell new e h f);
  room = omega (arith, m.room, capacity, some_after cells.slots k cell new e);
  covers = λ j other at dead. rw items (⊎_elim
      (λ (same : j ≡ k). rw same (Contains-push marked.items k))
      (λ (differ : j ≢ k). Contains-append_left marked.items (k ∷ []) j (m.covers j other (sym (get_or-set_other cells.slots k j (Some new) None differ) ∙ at) dead))
      (cases_eq j k));
}

swept_alive : (x : Option Cell) → is_dead (swept x) ≡ false
swept_alive None = refl
swept_alive (Some cell) = grind arith

-- an emptied cell holds nothing, so a marked list with no keys serves
pub Marked-swept : (old new : Slab Cell) (marked more : Vec ℕ) → Marked old marked → ((k : ℕ) → get new k ≡ swept (get old k)) → slab_len new ≤ slab_len old → vec_len more ≡ 0 → vec_capacity more ≡ vec_capacity marked → Marked new more
Marked-swept old new marked more m e len none capacity =
    let alive : (k : ℕ) → is_dead (get new k) ≡ false = λ k. ap is_dead (e k) ∙ swept_alive (get old k) in
    record {
      count = none ∙ sym (count_none is_dead new.slots alive);
      room = omega (arith, m.room, capacity, len);
      covers = λ k cell at dead. absurd (false≢true (sym (alive k) ∙ ap is_dead at ∙ ap not dead));
    }

-- a new connection that is not removed
pub Marked-added : (old new : Slab Cell) (key : ℕ) (c : Connection) (marked : Vec ℕ) → Adds old new key c → slab_len new ≡ slab_len old + 1 → slab_len old + 1 ≤ vec_capacity marked → Marked old marked → Marked new marked
Marked-added old new key c marked a len room m = record {
  count = m.count ∙ sym (count_same is_dead is_dead old.slots new.slots refl refl (λ k. ⊎_elim
      (λ (same : k ≡ key). ap (λ j. is_dead (get new j)) same ∙ ap is_dead a.updates.changed ∙ sym (ap (λ j. is_dead (get old j)) same ∙ ap is_dead a.vacant))
      (λ (other : k ≢ key). ap is_dead (a.updates.others k other))
      (cases_eq k key)));
  room = omega (arith, len, room);
  covers = λ k cell at dead. ⊎_elim
      (λ (same : k ≡ key).
      let now : Some cell ≡ Some (record { connection = c; live = true }) = sym at ∙ ap (get new) same ∙ a.updates.changed in
      absurd (false≢true (sym dead ∙ ap (λ (x : Cell). x.live) (same_Some _ _ now))))
      (λ (other : k ≢ key). m.covers k cell (sym (a.updates.others k other) ∙ at) dead)
      (cases_eq k key);
}

-- a cell's connection is removed afterwards where it was before, or is one of those to be removed
abbrev dead_or : Removal → Option Cell → Bool
dead_or removal x = is_dead x || counted (fits removal) x

dead-retired : (removal : Removal) (x : Option Cell) → is_dead (option_map (retired removal) x) ≡ dead_or removal x
dead-retired removal None = refl
dead-retired removal (Some cell) = by_live cell.live (fits removal cell.connection)
  where
    by_live : (a f : Bool) → not (a && not f) ≡ (not a || (a && f))
    by_live true true = refl
    by_live true false = refl
    by_live false f = refl

count_either : (removal : Removal) (xs : List (Option Cell)) → count_by (dead_or removal) xs ≡ count_by is_dead xs + count_by (counted (fits removal)) xs
count_either removal [] = refl
count_either removal (x ∷ xs) = omega (arith, one x, sum_by-cons (λ z. cond (dead_or removal z) 1 0) x xs, sum_by-cons (λ z. cond (is_dead z) 1 0) x xs, sum_by-cons (λ z. cond (counted (fits removal) z) 1 0) x xs, count_either removal xs)
  where
    of_live : (a f : Bool) → cond {A = ℕ} (not a || (a && f)) 1 0 ≡ cond {A = ℕ} (not a) 1 0 + cond {A = ℕ} (a && f) 1 0
    of_live true true = refl
    of_live true false = refl
    of_live false f = refl

    one : (y : Option Cell) → cond {A = ℕ} (dead_or removal y) 1 0 ≡ cond {A = ℕ} (is_dead y) 1 0 + cond {A = ℕ} (counted (fits removal) y) 1 0
    one None = refl
    one (Some cell) = of_live cell.live (fits removal cell.connection)

-- as many more are marked as are removed
pub more_marked : (old new : Slab Cell) (lists : Lists) (removal : Removal) → Retires removal old new → (marked more : Vec ℕ) (last : ℕ) → Tied old lists marked last → Marked new more → vec_len more ≡ vec_len marked + count_by (fits removal) (shown_in old lists)
more_marked old new lists removal e marked more last t m =
    let dead : count_by is_dead new.slots ≡ count_by (dead_or removal) old.slots = count_same is_dead (dead_or removal) old.slots new.slots refl refl (λ k. ap is_dead (e k) ∙ dead-retired removal (get old k)) in
    omega (arith, m.count, dead, count_either removal old.slots, t.marks.count, t.many (fits removal))

-- a cell is taken by a connection that is there or by one that was removed
pub cells-taken : (cells : Slab Cell) (lists : Lists) (marked : Vec ℕ) (last : ℕ) → Tied cells lists marked last → slab_len cells ≡ vec_len marked + length (shown_in cells lists)
cells-taken cells lists marked last t = omega (arith, taken cells.slots, t.marks.count, t.many (λ _. true), count-all (shown_in cells lists))
  where
    one : (y : Option Cell) → cond {A = ℕ} (is_some y) 1 0 ≡ cond {A = ℕ} (is_dead y) 1 0 + cond {A = ℕ} (counted (λ _. true) y) 1 0
    one None = refl
    one (Some cell) = of_live cell.live
      where
        of_live : (a : Bool) → 1 ≡ cond {A = ℕ} (not a) 1 0 + cond {A = ℕ} (a && true) 1 0
        of_live true = refl
        of_live false = refl

    taken : (xs : List (Option Cell)) → count_by is_some xs ≡ count_by is_dead xs + count_by (counted (λ _. true)) xs
    taken [] = refl
    taken (x ∷ xs) = omega (arith, one x, sum_by-cons (λ z. cond (is_some z) 1 0) x xs, sum_by-cons (λ z. cond (is_dead z) 1 0) x xs, sum_by-cons (λ z. cond (counted (λ _. true) z) 1 0) x xs, taken xs)

    count-all : (cs : List Connection) → count_by (λ (_ : Connection). true) cs ≡ length cs
    count-all [] = refl
    count-all (c ∷ cs) = omega (arith, sum_by-cons (λ (_ : Connection). 1) c cs, count-all cs)

pub many-added : (old new : Slab Cell) (lists lists' : Lists) (key : ℕ) (c : Connection) → Adds old new key c → shown_in new lists' ≡ shown_in old lists ++ c ∷ [] → ((test : Connection → Bool) → count_by (counted test) old.slots ≡ count_by test (shown_in old lists)) → (test : Connection → Bool) → count_by (counted test) new.slots ≡ count_by test (shown_in new lists')
many-added old new lists lists' key c a whole many test =
    let more : count_by test (shown_in old lists ++ c ∷ []) ≡ count_by test (shown_in old lists) + cond {A = ℕ} (test c) 1 0 = sum_by_push (λ d. cond (test d) 1 0) (shown_in old lists) c in
    let cells : count_by (counted test) new.slots ≡ count_by (counted test) old.slots + cond {A = ℕ} (test c) 1 0 = count_more (counted test) old.slots new.slots key (record { connection = c; live = true }) refl a.vacant a.updates.changed (λ k o. a.updates.others k o) in
    let both : count_by (counted test) new.slots ≡ count_by test (shown_in old lists ++ c ∷ []) = omega (arith, more, cells, many test) in
    both ∙ ap (count_by test) (sym whole)
