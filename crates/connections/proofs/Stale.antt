-- A list without the places that lead nowhere leads to the same connections.
use Rattle.std.proofs.Common.{◌≡◌, ⊎_elim, inr, ℕ, zero, suc, ◌≤◌, Bool, true, false, cond, List, [], ◌∷◌, Option, None, Some, is_some, refl, arith, ap, sym, ◌∙◌, filter, count_by, ◌&&◌}
use Rattle.std.specs.List.{Contains, cons_option}
use Rattle.std.specs.Global.{Vec}
use Rattle.std.proofs.Math.Bool.{and_self}
use Rattle.std.proofs.lemmas.Bool.{eq-eqb, false≢true}
use Rattle.std.proofs.lemmas.List.Elements.{filter_agree}
use Rattle.slab.specs.Slab.{Slab}
use Rattle.connections.specs.declared.connection.Connection.{Connection}
use Rattle.connections.specs.declared.cell.Cell.{Cell}
use Rattle.connections.specs.declared.place.CellPlace.{CellPlace}
use Rattle.connections.specs.declared.lists.Lists.{Lists}
use Rattle.connections.specs.Connected.{is_of, touches}
use Rattle.connections.specs.code.CellPlaces.{connection_in, live_at, live, Rising, Indexes, leads, Tidies}
use Rattle.connections.specs.code.Lists.{all_of, any_connection, shown_in, ListsLead, Tied, TidiesLists}

-- what passes the one test, of what passes the other
pub filter-filter : {X : Type 0} (p q : X → Bool) (xs : List X) → filter p (filter q xs) ≡ filter (λ x. q x && p x) xs
filter-filter p q [] = refl
filter-filter p q (x ∷ xs) = by_test (q x) (filter-filter p q xs)
  where
    by_test : (b : Bool) → filter p (filter q xs) ≡ filter (λ y. q y && p y) xs → filter p (cond b (x ∷ filter q xs) (filter q xs)) ≡ cond (b && p x) (x ∷ filter (λ y. q y && p y) xs) (filter (λ y. q y && p y) xs)
    by_test true h = ap (λ ys. cond (p x) (x ∷ ys) ys) h
    by_test false h = h

none-there : {X : Type 0} (x : Option X) → is_some x ≡ false → x ≡ None
none-there None h = refl
none-there (Some x) h = absurd (false≢true (sym h))

live-leading : (cells : Slab Cell) (places : List CellPlace) → live cells (filter (leads cells) places) ≡ live cells places
live-leading cells [] = refl
live-leading cells (p ∷ places) = by_test (leads cells p) refl (live-leading cells places)
  where
    by_test : (b : Bool) → leads cells p ≡ b → live cells (filter (leads cells) places) ≡ live cells places → live cells (cond b (p ∷ filter (leads cells) places) (filter (leads cells) places)) ≡ live cells (p ∷ places)
    by_test true e h = ap (cons_option (live_at cells p)) h
    by_test false e h = h ∙ sym (ap (λ c. cons_option c (live cells places)) (none-there (live_at cells p) e))

Rising-lower : (low less last : ℕ) (places : List CellPlace) → less ≤ low → Rising low places last → Rising less places last
Rising-lower low less last [] h r = omega (arith, h, r)
Rising-lower low less last (p ∷ places) h r = (omega (arith, h, r.0), r.1)

Rising-filter : (test : CellPlace → Bool) (low last : ℕ) (places : List CellPlace) → Rising low places last → Rising low (filter test places) last
Rising-filter test low last [] r = r
Rising-filter test low last (p ∷ places) r = by_test (test p) (Rising-filter test p.number last places r.1)
  where
    by_test : (b : Bool) → Rising p.number (filter test places) last → Rising low (cond b (p ∷ filter test places) (filter test places)) last
    by_test true h = (r.0, h)
    by_test false h = Rising-lower p.number low last (filter test places) (omega (arith, r.0)) h

Contains-kept : (test : CellPlace → Bool) (places : List CellPlace) (x : CellPlace) → Contains places x → test x ≡ true → Contains (filter test places) x
Contains-kept test [] x (k, w, e) t = absurd (omega (arith, w))
Contains-kept test (p ∷ places) x (zero, w, e) t =
    let here : test p ≡ true = ap test e ∙ t in
    rw here (0, omega arith, e)
Contains-kept test (p ∷ places) x (suc k, w, e) t = by_test (test p) (Contains-kept test places x (k, omega (arith, w), e) t)
  where
    by_test : (b : Bool) → Contains (filter test places) x → Contains (cond b (p ∷ filter test places) (filter test places)) x
    by_test true (j, v, f) = (suc j, omega (arith, v), f)
    by_test false c = c

-- a cell whose connection is there is led to by the place of its number
leads-live : (cell : Cell) → cell.live ≡ true → is_some (connection_in cell.connection.number (Some cell)) ≡ true
leads-live cell alive = rw (alive, eq-eqb cell.connection.number cell.connection.number refl) refl

module _ (cells : Slab Cell) where
  Indexes-leading : (whole : List Connection) (last : ℕ) (test : Connection → Bool) (places : List CellPlace) → Indexes cells whole last test places → Indexes cells whole last test (filter (leads cells) places)
  Indexes-leading whole last test places i = record {
    rising = Rising-filter (leads cells) 0 last places i.rising;
    exact = live-leading cells places ∙ i.exact;
    covers = record { place = λ k cell at alive passes. Contains-kept (leads cells) places _ (i.covers.place k cell at alive passes) (ap (λ x. is_some (connection_in cell.connection.number x)) at ∙ leads-live cell alive) };
  }

  live-tidied : (old new : List CellPlace) → Tidies cells old new → live cells new ≡ live cells old
  live-tidied old new t = ⊎_elim
      (λ (same : new ≡ old). ap (live cells) same)
      (λ (kept : new ≡ _). ap (live cells) kept ∙ live-leading cells old)
      t

  Indexes-tidied : (whole : List Connection) (last : ℕ) (test : Connection → Bool) (old new : List CellPlace) → Tidies cells old new → Indexes cells whole last test old → Indexes cells whole last test new
  Indexes-tidied whole last test old new t i = ⊎_elim
      (λ (same : new ≡ old). rw same i)
      (λ (kept : new ≡ _). rw kept (Indexes-leading whole last test old i))
      t

  module _ (lists lists' : Lists) (t : TidiesLists cells lists lists') where
    pub shown-tidied : shown_in cells lists' ≡ shown_in cells lists
    shown-tidied = live-tidied (all_of lists) (all_of lists') t.all

    pub ListsLead-tidied : (last : ℕ) → ListsLead cells lists last → ListsLead cells lists' last
    ListsLead-tidied last l = record {
      all = rw shown-tidied (Indexes-tidied (shown_in cells lists) last any_connection _ _ t.all l.all);
      by_signal = λ s g. rw shown-tidied (Indexes-tidied (shown_in cells lists) last (is_of s g) _ _ (t.by_signal s g) (l.by_signal s g));
      by_object = λ o. rw shown-tidied (Indexes-tidied (shown_in cells lists) last (touches o) _ _ (t.by_object o) (l.by_object o));
    }

  filter-again : (test : CellPlace → Bool) (xs : List CellPlace) → filter test (filter test xs) ≡ filter test xs
  filter-again test xs = filter-filter test test xs ∙ filter_agree (λ x. test x && test x) test (λ x. and_self (test x)) xs

  -- dropping such places twice
  pub Tidies-again : (a b c : List CellPlace) → Tidies cells a b → Tidies cells b c → Tidies cells a c
  Tidies-again a b c s t = ⊎_elim
      (λ (first : b ≡ a). rw (sym first) t)
      (λ (first : b ≡ filter (leads cells) a). ⊎_elim
      (λ (second : c ≡ b). inr (second ∙ first))
      (λ (second : c ≡ filter (leads cells) b). inr (second ∙ ap (filter (leads cells)) first ∙ filter-again (leads cells) a))
      t)
      s

  pub TidiesLists-again : (a b c : Lists) → TidiesLists cells a b → TidiesLists cells b c → TidiesLists cells a c
  TidiesLists-again a b c s t = record {
    all = Tidies-again _ _ _ s.all t.all;
    by_signal = λ x g. Tidies-again _ _ _ (s.by_signal x g) (t.by_signal x g);
    by_object = λ o. Tidies-again _ _ _ (s.by_object o) (t.by_object o);
  }

pub Tied-tidied : (cells : Slab Cell) (lists lists' : Lists) (marked : Vec ℕ) (last : ℕ) → TidiesLists cells lists lists' → Tied cells lists marked last → Tied cells lists' marked last
Tied-tidied cells lists lists' marked last t h = record {
  leads = ListsLead-tidied cells lists lists' t last h.leads;
  marks = h.marks;
  many = λ test. h.many test ∙ ap (count_by test) (sym (shown-tidied cells lists lists' t));
}
