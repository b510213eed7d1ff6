-- What lists lead to after a new connection.
use Rattle.std.proofs.Common.{◌≡◌, ◌≢◌, ⊎_elim, ℕ, ◌<◌, ◌≤◌, Bool, true, false, cond, List, [], ◌∷◌, ◌++◌, None, Some, refl, arith, ◌&&◌, ap, sym, ◌∙◌, eqb, filter, append-nil, ◌+◌, subst}
use Rattle.std.specs.List.{Contains, cons_option}
use Rattle.std.proofs.lemmas.List.Elements.{Contains-append_left, Contains-push, filter_map-append, filter-append}
use Rattle.std.proofs.lemmas.Bool.{cases_eq, false≢true, eqb-true, eq-eqb}
use Rattle.std.proofs.lemmas.Option.{same_Some}
use Rattle.slab.specs.Slab.{Slab, get, slab_len}
use Rattle.std.specs.Global.{Vec}
use Rattle.std.specs.Vec.{vec_capacity}
use Rattle.connections.specs.declared.connection.Connection.{Connection}
use Rattle.connections.specs.declared.cell.Cell.{Cell}
use Rattle.connections.specs.declared.place.CellPlace.{CellPlace}
use Rattle.connections.specs.Connected.{is_of, touches}
use Rattle.connections.specs.code.Rooms.{Adds, placed_at, PushesBySignal, PushesByObject, IsKept}
use Rattle.connections.specs.code.CellPlaces.{connection_in, live_at, live, Rising, Indexes}
use Rattle.connections.specs.declared.lists.Lists.{Lists}
use Rattle.connections.specs.code.Lists.{all_of, of_signal, of_object, any_connection, shown_in, ListsLead, Tied}
use Rattle.connections.proofs.Counts.{Marked-added, many-added}
use Rattle.connections.proofs.Stale.{shown-tidied, Tied-tidied}

shown-other : (number : ℕ) (cell : Cell) → cell.connection.number ≢ number → connection_in number (Some cell) ≡ None
shown-other number cell h = by_same (eqb cell.connection.number number) cell.live refl
  where
    by_same : (b a : Bool) → eqb cell.connection.number number ≡ b → cond (a && b) (Some cell.connection) None ≡ None
    by_same true a e = absurd (h (eqb-true _ _ e))
    by_same false true e = refl
    by_same false false e = refl

-- places of lower numbers show what they showed
live_at-added : (old new : Slab Cell) (key : ℕ) (c : Connection) (p : CellPlace) → Adds old new key c → p.number < c.number → live_at new p ≡ live_at old p
live_at-added old new key c p a h = ⊎_elim
    (λ (same : p.key ≡ key).
    let there : get new p.key ≡ Some (record { connection = c; live = true }) = rw same a.updates.changed in
    let gone : get old p.key ≡ None = rw same a.vacant in
    ap (connection_in p.number) there ∙ shown-other p.number (record { connection = c; live = true }) (λ e. absurd (omega (arith, e, h))) ∙ sym (ap (connection_in p.number) gone))
    (λ (other : p.key ≢ key). ap (connection_in p.number) (a.updates.others p.key other))
    (cases_eq p.key key)

live_at-place : (old new : Slab Cell) (key : ℕ) (c : Connection) → Adds old new key c → live_at new (placed_at c key) ≡ Some c
live_at-place old new key c a = ap (connection_in c.number) a.updates.changed ∙ ap (λ b. cond b (Some c) None) (eq-eqb c.number c.number refl)

Rising-below : (low : ℕ) (places : List CellPlace) (last : ℕ) → Rising low places last → low ≤ last
Rising-below low [] last r = r
Rising-below low (p ∷ places) last r = omega (arith, r.0, Rising-below p.number places last r.1)

live-added : (old new : Slab Cell) (key : ℕ) (c : Connection) (low last : ℕ) (places : List CellPlace) → Adds old new key c → last < c.number → Rising low places last → live new places ≡ live old places
live-added old new key c low last [] a h r = refl
live-added old new key c low last (p ∷ places) a h r =
    ap (λ x. cons_option x (live new places)) (live_at-added old new key c p a (omega (arith, h, Rising-below p.number places last r.1)))
    ∙ ap (cons_option (live_at old p)) (live-added old new key c p.number last places a h r.1)

Rising-push : (low last : ℕ) (places : List CellPlace) (p : CellPlace) → Rising low places last → last < p.number → Rising low (places ++ p ∷ []) p.number
Rising-push low last [] p r h = (omega arith, omega arith)
Rising-push low last (q ∷ places) p r h = (r.0, Rising-push q.number last places p r.1 h)

Rising-later : (low last more : ℕ) (places : List CellPlace) → Rising low places last → last ≤ more → Rising low places more
Rising-later low last more [] r h = omega (arith, r)
Rising-later low last more (q ∷ places) r h = (r.0, Rising-later q.number last more places r.1 h)

-- one more place leads to the new connection
pub live-pushed : (old new : Slab Cell) (key : ℕ) (c : Connection) (last : ℕ) (places : List CellPlace) → Adds old new key c → last < c.number → Rising 0 places last → live new (places ++ placed_at c key ∷ []) ≡ live old places ++ c ∷ []
live-pushed old new key c last places a h r =
    filter_map-append (live_at new) places (placed_at c key ∷ [])
    ∙ ap (λ cs. cs ++ live new (placed_at c key ∷ [])) (live-added old new key c 0 last places a h r)
    ∙ ap (λ x. live old places ++ cons_option x []) (live_at-place old new key c a)

-- a list after a new connection, whose place it has if that passes the test
pub Indexes-put : (old new : Slab Cell) (key : ℕ) (c : Connection) (whole : List Connection) (last : ℕ) (test : Connection → Bool) (places : List CellPlace) → Adds old new key c → last < c.number → Indexes old whole last test places → Indexes new (whole ++ c ∷ []) c.number test (cond (test c) (places ++ placed_at c key ∷ []) places)
Indexes-put old new key c whole last test places a h i = record {
  rising = rises (test c);
  exact = leads (test c) refl;
  covers = record {
    place = λ k cell at alive passes. ⊎_elim
        (λ (same : k ≡ key).
        let this : cell ≡ record { connection = c; live = true } = same_Some _ _ (sym at ∙ ap (get new) same ∙ a.updates.changed) in
        rw (this, same) (added (test c) (ap (λ (x : Cell). test x.connection) (sym this) ∙ passes)))
        (λ (other : k ≢ key). kept_in (test c) _ (i.covers.place k cell (sym (a.updates.others k other) ∙ at) alive passes))
        (cases_eq k key);
  };
}
  where
    more : Bool → List CellPlace
    more b = cond b (places ++ placed_at c key ∷ []) places

    rises : (b : Bool) → Rising 0 (more b) c.number
    rises true = Rising-push 0 last places (placed_at c key) i.rising h
    rises false = Rising-later 0 last c.number places i.rising (omega (arith, h))

    leads : (b : Bool) → test c ≡ b → live new (more b) ≡ filter test (whole ++ c ∷ [])
    leads true t = live-pushed old new key c last places a h i.rising ∙ ap (λ cs. cs ++ c ∷ []) i.exact ∙ sym (filter-append test whole (c ∷ []) ∙ ap (λ b. filter test whole ++ cond b (c ∷ []) []) t)
    leads false t = live-added old new key c 0 last places a h i.rising ∙ i.exact ∙ sym (filter-append test whole (c ∷ []) ∙ ap (λ b. filter test whole ++ cond b (c ∷ []) []) t ∙ append-nil (filter test whole))

    added : (b : Bool) → b ≡ true → Contains (more b) (placed_at c key)
    added true t = Contains-push places (placed_at c key)
    added false t = absurd (false≢true t)

    kept_in : (b : Bool) (p : CellPlace) → Contains places p → Contains (more b) p
    kept_in true p m = Contains-append_left places _ p m
    kept_in false p m = m

module _ (old new : Slab Cell) (lists lists' : Lists) (last key : ℕ) (c : Connection) (a : Adds old new key c) (above : last < c.number) (every : all_of lists' ≡ all_of lists ++ placed_at c key ∷ []) (by_signal : PushesBySignal lists lists' c (placed_at c key)) (by_object : PushesByObject lists lists' c (placed_at c key)) (l : ListsLead old lists last) where
  pub shown-put : shown_in new lists' ≡ shown_in old lists ++ c ∷ []
  shown-put = ap (live new) every ∙ live-pushed old new key c last (all_of lists) a above l.all.rising

  pub ListsLead-put : ListsLead new lists' c.number
  ListsLead-put = record {
    all = rw (shown-put, every) (Indexes-put old new key c (shown_in old lists) last any_connection (all_of lists) a above l.all);
    by_signal = λ s g. rw (shown-put, by_signal (s, g)) (Indexes-put old new key c (shown_in old lists) last (is_of s g) (of_signal lists s g) a above (l.by_signal s g));
    by_object = λ o. rw (shown-put, by_object o) (Indexes-put old new key c (shown_in old lists) last (touches o) (of_object lists o) a above (l.by_object o));
  }

  pub Tied-put : (marked : Vec ℕ) → slab_len new ≡ slab_len old + 1 → slab_len old + 1 ≤ vec_capacity marked → Tied old lists marked last → Tied new lists' marked c.number
  Tied-put marked len room t = record {
    leads = ListsLead-put;
    marks = Marked-added old new key c marked a len room t.marks;
    many = many-added old new lists lists' key c a shown-put t.many;
  }

module _ (old new : Slab Cell) (lists lists' : Lists) (marked marked' : Vec ℕ) (k : IsKept old lists marked new lists' marked') where
  shown-same : shown_in new lists ≡ shown_in old lists
  shown-same = ap (λ s. shown_in s lists) k.in_cells

  pub shown-kept : shown_in new lists' ≡ shown_in old lists
  shown-kept = shown-tidied new lists lists' k.in_lists ∙ shown-same

  Indexes-kept : (n last : ℕ) (whole : List Connection) (test : Connection → Bool) (places : List CellPlace) → Indexes old whole last test places → Indexes (record old { capacity = n }) whole last test places
  Indexes-kept n last whole test places i = record { rising = i.rising; exact = i.exact; covers = record { place = i.covers.place } }

  pub Tied-kept : (last : ℕ) → Tied old lists marked last → Tied new lists' marked' last
  Tied-kept last t =
      let P : Slab Cell → Type 0 = λ s. Tied s lists marked' last in
      Tied-tidied new lists lists' marked' last k.in_lists (subst P (sym k.in_cells) (record {
        leads = record {
          all = Indexes-kept new.capacity last (shown_in old lists) any_connection (all_of lists) t.leads.all;
          by_signal = λ s g. Indexes-kept new.capacity last (shown_in old lists) (is_of s g) (of_signal lists s g) (t.leads.by_signal s g);
          by_object = λ o. Indexes-kept new.capacity last (shown_in old lists) (touches o) (of_object lists o) (t.leads.by_object o);
        };
        marks = record {
          count = k.many_marked ∙ t.marks.count;
          room = omega (arith, t.marks.room, k.room);
          covers = λ j cell at dead. rw k.in_marked (t.marks.covers j cell at dead);
        };
        many = t.many;
      }))
