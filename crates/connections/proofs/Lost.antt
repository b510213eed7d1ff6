-- What is left of the connections, where some are gone.
use Rattle.std.proofs.Common.{◌≡◌, ℕ, Bool, true, false, cond, List, [], ◌∷◌, Option, None, Some, option_map, refl, arith, ◌&&◌, ap, sym, ◌∙◌, not, eqb, filter, count_by, length}
use Rattle.std.specs.List.{cons_option}
use Rattle.std.specs.Global.{Vec}
use Rattle.std.proofs.Math.Bool.{and_comm}
use Rattle.std.proofs.lemmas.List.Elements.{filter_agree}
use Rattle.std.proofs.lemmas.List.Sums.{length-filter}
use Rattle.slab.specs.Slab.{Slab, get}
use Rattle.connections.specs.declared.connection.Connection.{Connection}
use Rattle.connections.specs.declared.cell.Cell.{Cell}
use Rattle.connections.specs.declared.place.CellPlace.{CellPlace}
use Rattle.connections.specs.declared.lists.Lists.{Lists}
use Rattle.connections.specs.declared.removing.Removal.{Removal}
use Rattle.connections.specs.Connected.{without, is_of, touches}
use Rattle.connections.specs.code.Cells.{fits, retired, swept, counted, Retires, Sweeps, Marked}
use Rattle.connections.specs.code.CellPlaces.{connection_in, live_at, live, Indexes}
use Rattle.connections.specs.code.Lists.{all_of, of_signal, of_object, any_connection, shown_in, Tied}
use Rattle.connections.proofs.Counts.{count_same}
use Rattle.connections.proofs.Stale.{filter-filter}

-- a connection, unless it passes a test
abbrev pub kept : (Connection → Bool) → Option Connection → Option Connection
kept test None = None
kept test (Some c) = cond (test c) None (Some c)

kept-cons : (test : Connection → Bool) (c : Option Connection) (cs : List Connection) → cons_option (kept test c) (without test cs) ≡ without test (cons_option c cs)
kept-cons test None cs = refl
kept-cons test (Some c) cs = by_test (test c)
  where
    by_test : (b : Bool) → cons_option (cond b None (Some c)) (without test cs) ≡ cond (not b) (c ∷ without test cs) (without test cs)
    by_test true = refl
    by_test false = refl

-- two filters commute
filter_both : (p q : Connection → Bool) (cs : List Connection) → filter p (filter q cs) ≡ filter q (filter p cs)
filter_both p q cs = filter-filter p q cs ∙ filter_agree (λ c. q c && p c) (λ c. p c && q c) (λ c. and_comm (q c) (p c)) cs ∙ sym (filter-filter q p cs)

count_filter : (p q : Connection → Bool) (cs : List Connection) → count_by p (filter q cs) ≡ count_by (λ c. q c && p c) cs
count_filter p q cs = sym (length-filter p (filter q cs)) ∙ ap length (filter-filter p q cs) ∙ length-filter (λ c. q c && p c) cs

-- each cell shows what it showed, unless that is gone
pub record Loses (gone : Connection → Bool) (old new : Slab Cell) : Type 0 where
  pub shows : (k number : ℕ) → connection_in number (get new k) ≡ kept gone (connection_in number (get old k))
  pub was : (k : ℕ) (cell : Cell) → get new k ≡ Some cell → cell.live ≡ true → get old k ≡ Some cell
  pub counts : (test : Connection → Bool) (k : ℕ) → counted test (get new k) ≡ counted (λ c. not (gone c) && test c) (get old k)

module _ (gone : Connection → Bool) (old new : Slab Cell) (h : Loses gone old new) where
  live-lost : (places : List CellPlace) → live new places ≡ without gone (live old places)
  live-lost [] = refl
  live-lost (p ∷ places) =
      ap (λ c. cons_option c (live new places)) (h.shows p.key p.number)
      ∙ ap (cons_option (kept gone (live_at old p))) (live-lost places)
      ∙ kept-cons gone (live_at old p) (live old places)

  Indexes-lost : (whole : List Connection) (last : ℕ) (test : Connection → Bool) (places : List CellPlace) → Indexes old whole last test places → Indexes new (without gone whole) last test places
  Indexes-lost whole last test places i = record {
    rising = i.rising;
    exact = live-lost places ∙ ap (without gone) i.exact ∙ filter_both (λ c. not (gone c)) test whole;
    covers = record { place = λ k cell at alive passes. i.covers.place k cell (h.was k cell at alive) alive passes };
  }

  module _ (lists : Lists) where
    pub shown-lost : shown_in new lists ≡ without gone (shown_in old lists)
    shown-lost = live-lost (all_of lists)

    pub Tied-lost : (marked more : Vec ℕ) (last : ℕ) → Marked new more → Tied old lists marked last → Tied new lists more last
    Tied-lost marked more last m t = record {
      leads = record {
        all = rw shown-lost (Indexes-lost (shown_in old lists) last any_connection (all_of lists) t.leads.all);
        by_signal = λ s g. rw shown-lost (Indexes-lost (shown_in old lists) last (is_of s g) (of_signal lists s g) (t.leads.by_signal s g));
        by_object = λ o. rw shown-lost (Indexes-lost (shown_in old lists) last (touches o) (of_object lists o) (t.leads.by_object o));
      };
      marks = m;
      many = λ test.
          count_same (counted test) (counted (λ c. not (gone c) && test c)) old.slots new.slots refl refl (h.counts test)
          ∙ t.many (λ c. not (gone c) && test c)
          ∙ sym (count_filter test (λ c. not (gone c)) (shown_in old lists))
          ∙ ap (count_by test) (sym shown-lost);
    }

-- a cell that was retired shows what it showed, unless it was to be removed
shown-retired : (removal : Removal) (number : ℕ) (x : Option Cell) → connection_in number (option_map (retired removal) x) ≡ kept (fits removal) (connection_in number x)
shown-retired removal number None = refl
shown-retired removal number (Some cell) = by_tests cell.live (eqb cell.connection.number number)
  where
    by_fit : (f : Bool) → cond (not f && true) (Some cell.connection) None ≡ cond f None (Some cell.connection)
    by_fit true = refl
    by_fit false = refl

    by_fit_no : (f : Bool) → cond (not f && false) (Some cell.connection) None ≡ None
    by_fit_no true = refl
    by_fit_no false = refl

    by_tests : (a b : Bool) → cond ((a && not (fits removal cell.connection)) && b) (Some cell.connection) None ≡ kept (fits removal) (cond (a && b) (Some cell.connection) None)
    by_tests true true = by_fit (fits removal cell.connection)
    by_tests true false = by_fit_no (fits removal cell.connection)
    by_tests false b = refl

-- what a retired cell was
retired-was : (removal : Removal) (x : Option Cell) (cell : Cell) → option_map (retired removal) x ≡ Some cell → cell.live ≡ true → x ≡ Some cell
retired-was removal None cell e h = grind arith
retired-was removal (Some old) cell e h = by_live old.live (fits removal old.connection) refl refl
  where
    by_live : (a f : Bool) → old.live ≡ a → fits removal old.connection ≡ f → Some old ≡ Some cell
    by_live true false i j = grind (arith, retired)
    by_live true true i j = grind (arith, retired)
    by_live false f i j = grind (arith, retired)

counted-retired : (removal : Removal) (test : Connection → Bool) (x : Option Cell) → counted test (option_map (retired removal) x) ≡ counted (λ c. not (fits removal c) && test c) x
counted-retired removal test None = refl
counted-retired removal test (Some cell) = by_live cell.live
  where
    by_live : (a : Bool) → ((a && not (fits removal cell.connection)) && test cell.connection) ≡ (a && (not (fits removal cell.connection) && test cell.connection))
    by_live true = refl
    by_live false = refl

pub Loses-retired : (removal : Removal) (old new : Slab Cell) → Retires removal old new → Loses (fits removal) old new
Loses-retired removal old new e = record {
  shows = λ k number. ap (connection_in number) (e k) ∙ shown-retired removal number (get old k);
  was = λ k cell at alive. retired-was removal (get old k) cell (sym (e k) ∙ at) alive;
  counts = λ test k. ap (counted test) (e k) ∙ counted-retired removal test (get old k);
}

kept-none : (c : Option Connection) → kept (λ _. false) c ≡ c
kept-none None = refl
kept-none (Some c) = refl

pub without-none : (cs : List Connection) → without (λ _. false) cs ≡ cs
without-none [] = refl
without-none (c ∷ cs) = ap (λ ys. c ∷ ys) (without-none cs)

shown-swept : (number : ℕ) (x : Option Cell) → connection_in number (swept x) ≡ connection_in number x
shown-swept number None = refl
shown-swept number (Some cell) = by_live cell.live refl
  where
    by_live : (a : Bool) → cell.live ≡ a → connection_in number (swept (Some cell)) ≡ connection_in number (Some cell)
    by_live true h = rw h refl
    by_live false h = rw h refl

swept-was : (x : Option Cell) (cell : Cell) → swept x ≡ Some cell → x ≡ Some cell
swept-was None cell e = e
swept-was (Some old) cell e = by_live old.live refl
  where
    by_live : (a : Bool) → old.live ≡ a → Some old ≡ Some cell
    by_live true h = grind (arith, swept)
    by_live false h = grind (arith, swept)

counted-swept : (test : Connection → Bool) (x : Option Cell) → counted test (swept x) ≡ counted test x
counted-swept test None = refl
counted-swept test (Some cell) = by_live cell.live refl
  where
    by_live : (a : Bool) → cell.live ≡ a → counted test (swept (Some cell)) ≡ counted test (Some cell)
    by_live true h = rw h refl
    by_live false h = rw h refl

pub Loses-swept : (old new : Slab Cell) → Sweeps old new → Loses (λ _. false) old new
Loses-swept old new e = record {
  shows = λ k number. ap (connection_in number) (e k) ∙ shown-swept number (get old k) ∙ sym (kept-none (connection_in number (get old k)));
  was = λ k cell at alive. swept-was (get old k) cell (sym (e k) ∙ at);
  counts = λ test k. ap (counted test) (e k) ∙ counted-swept test (get old k);
}
