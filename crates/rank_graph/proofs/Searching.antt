-- The steps of a search in depth.
use Rattle.std.proofs.Common.{◌≡◌, ◌≢◌, ℕ, zero, suc, ◌+◌, ◌-◌, ◌≤◌, ◌<◌, max, true, ◌||◌, ◌⊎◌, inl, inr, List, [], ◌∷◌, ◌++◌, length, take, reverse, set, get_or, slice_get, Some, refl, sym, ap, ◌∙◌, subst, arith}
use Rattle.std.specs.List.{Contains}
use Rattle.std.proofs.lemmas.Bool.{cases_eq, cases_lt, or_cases, or_left, or_right}
use Rattle.std.proofs.lemmas.List.{get_or-set_same, get_or-set_other, take_more, take_all, length-set, reverse-append}
use Rattle.std.proofs.lemmas.List.Elements.{Contains-push, Contains-push_cases, Contains-append_left, Contains-get_or}
use Rattle.rank_graph.specs.Bits.{has}
use Rattle.effect_scan.specs.Rows.{row, Edge, AreAlike}
use Rattle.rank_graph.specs.Graphs.{InRange}
use Rattle.rank_graph.specs.Walks.{LeadsBy, AreDistinct}
use Rattle.rank_graph.specs.Entries.{owns}
use Rattle.rank_graph.specs.Searching.{state_of, Joins, room, Finished, NoneOpen, OnPath, AreOnce, Visiting, Held, Searching, Grows, Visited, Since, IsKnown, IsBegun, PassesDone, left, left_below, Climbs, LeadsRound}
use Rattle.rank_graph.specs.declared.bits.Bits.{Bits}
use Rattle.rank_graph.specs.declared.path.NodeRank.{NodeRank}
use Rattle.rank_graph.specs.declared.path.VisitState.{VisitState}
use Rattle.rank_graph.specs.declared.path.VisitState.TheVariants.{New, Open, Done}
use Rattle.rank_graph.specs.declared.path.Visit.{Visit}
use Rattle.rank_graph.proofs.Distinct.{cons_cases}

-- ---- the state of a node after a write
pub state-set_same : (states : List VisitState) (a : ℕ) (s : VisitState) → a < length states → state_of (set states a s) a ≡ s
unfolding state_of
state-set_same states a s h = get_or-set_same states a s New h

pub state-set_other : (states : List VisitState) (a b : ℕ) (s : VisitState) → b ≢ a → state_of (set states a s) b ≡ state_of states b
unfolding state_of
state-set_other states a b s h = get_or-set_other states a b s New h

pub grows_set : (states : List VisitState) (a : ℕ) (s : VisitState) → ((d : NodeRank) → state_of states a ≡ Done d → ⊥) → Grows states (set states a s)
grows_set states a s h = λ b d is.
    elim (cases_eq b a) [
      | inl e ↦ absurd (h d (subst (λ (x : ℕ). state_of states x ≡ Done d) e is))
      | inr ne ↦ state-set_other states a b s ne ∙ is
    ]

pub room-set_open : (states : List VisitState) (a : ℕ) → a < length states → state_of states a ≡ New → room (set states a Open) ≡ room states
unfolding state_of
room-set_open [] a h e = absurd (omega arith)
room-set_open (New ∷ ss) zero h e = refl
room-set_open (Open ∷ ss) zero h e = cc
room-set_open (Done d ∷ ss) zero h e = cc
room-set_open (New ∷ ss) (suc a) h e = ap suc (room-set_open ss a (omega arith) e)
room-set_open (Open ∷ ss) (suc a) h e = ap suc (room-set_open ss a (omega arith) e)
room-set_open (Done d ∷ ss) (suc a) h e = room-set_open ss a (omega arith) e

pub room-set_done : (states : List VisitState) (a : ℕ) (x : NodeRank) → a < length states → state_of states a ≡ Open → suc (room (set states a (Done x))) ≡ room states
unfolding state_of
room-set_done [] a x h e = absurd (omega arith)
room-set_done (New ∷ ss) zero x h e = cc
room-set_done (Open ∷ ss) zero x h e = refl
room-set_done (Done d ∷ ss) zero x h e = cc
room-set_done (New ∷ ss) (suc a) x h e = ap suc (room-set_done ss a x (omega arith) e)
room-set_done (Open ∷ ss) (suc a) x h e = ap suc (room-set_done ss a x (omega arith) e)
room-set_done (Done d ∷ ss) (suc a) x h e = room-set_done ss a x (omega arith) e

pub room_le : (states : List VisitState) → room states ≤ length states
room_le [] = omega arith
room_le (New ∷ ss) = let h = room_le ss in omega arith
room_le (Open ∷ ss) = let h = room_le ss in omega arith
room_le (Done d ∷ ss) = let h = room_le ss in omega arith

pub left-set_open : (rows : List (List ℕ)) (states : List VisitState) (a : ℕ) → length states ≡ length rows → a < length rows → state_of states a ≡ New → left rows (set states a Open) + (length (row rows a) + 2) ≡ left rows states
unfolding state_of row
left-set_open [] states a l h e = absurd (omega arith)
left-set_open (r ∷ rs) [] a l h e = absurd (omega arith)
left-set_open (r ∷ rs) (New ∷ ss) zero l h e = omega arith
left-set_open (r ∷ rs) (Open ∷ ss) zero l h e = cc
left-set_open (r ∷ rs) (Done d ∷ ss) zero l h e = cc
left-set_open (r ∷ rs) (New ∷ ss) (suc a) l h e = let i = left-set_open rs ss a (omega arith) (omega arith) e in omega arith
left-set_open (r ∷ rs) (Open ∷ ss) (suc a) l h e = left-set_open rs ss a (omega arith) (omega arith) e
left-set_open (r ∷ rs) (Done d ∷ ss) (suc a) l h e = left-set_open rs ss a (omega arith) (omega arith) e

pub left-set_done : (rows : List (List ℕ)) (states : List VisitState) (a : ℕ) (x : NodeRank) → state_of states a ≡ Open → left rows (set states a (Done x)) ≡ left rows states
unfolding state_of
left-set_done rows [] a x e = refl
left-set_done [] (s ∷ ss) zero x e = refl
left-set_done [] (s ∷ ss) (suc a) x e = refl
left-set_done (r ∷ rs) (New ∷ ss) zero x e = cc
left-set_done (r ∷ rs) (Open ∷ ss) zero x e = refl
left-set_done (r ∷ rs) (Done d ∷ ss) zero x e = cc
left-set_done (r ∷ rs) (New ∷ ss) (suc a) x e = ap (λ n. length r + 2 + n) (left-set_done rs ss a x e)
left-set_done (r ∷ rs) (Open ∷ ss) (suc a) x e = left-set_done rs ss a x e
left-set_done (r ∷ rs) (Done d ∷ ss) (suc a) x e = left-set_done rs ss a x e

-- ---- what is known of a node stays when others are done
pub joins_grow : (own : List Bits) (states after : List VisitState) (a : ℕ) (seen : List ℕ) (e : NodeRank) → Grows states after → Joins own states a seen e → Joins own after a seen e
joins_grow own states after a seen e grows j = record {
  falls = λ b h. let x = j.falls b h in (x.0, grows b x.0 x.1, x.2, x.3);
  tight = elim j.tight [ inl z ↦ inl z | inr x ↦ inr (x.0, x.1, x.2, grows x.0 x.1 x.3, x.4) ];
  itself = j.itself;
  source = λ c h. elim (j.source c h) [ inl z ↦ inl z | inr x ↦ inr (x.0, x.1, x.2, grows x.0 x.1 x.3, x.4) ];
}

-- one more edge
pub joins_more : (own : List Bits) (states : List VisitState) (a : ℕ) (seen : List ℕ) (e d f : NodeRank) (t : ℕ) → state_of states t ≡ Done d → f.rank ≡ max e.rank (d.rank + 1) → ((c : ℕ) → has f.classes c ≡ (has e.classes c || has d.classes c)) → Joins own states a seen e → Joins own states a (seen ++ t ∷ []) f
joins_more own states a seen e d f t is rank both j = record {
  falls = λ b h.
      elim (Contains-push_cases seen t b h) [
        | inl old ↦ let x = j.falls b old in (x.0, x.1, omega (arith, x.2), λ c has_it. both c ∙ or_left (has e.classes c) (has d.classes c) (x.3 c has_it))
        | inr same ↦ (d, subst (λ (y : ℕ). state_of states y ≡ Done d) same is, omega arith, λ c has_it. both c ∙ or_right (has e.classes c) (has d.classes c) has_it)
      ];
  tight = elim (cases_lt e.rank (d.rank + 1)) [
    | inl l ↦ inr (t, d, Contains-push seen t, is, omega arith)
    | inr m ↦ elim j.tight [ inl z ↦ absurd (omega arith) | inr x ↦ inr (x.0, x.1, Contains-append_left seen (t ∷ []) x.0 x.2, x.3, omega (arith, x.4)) ]
  ];
  itself = λ c h. both c ∙ or_left (has e.classes c) (has d.classes c) (j.itself c h);
  source = λ c h.
      elim (or_cases (has e.classes c) (has d.classes c) (sym (both c) ∙ h)) [
        | inl old ↦ elim (j.source c old) [ inl z ↦ inl z | inr x ↦ inr (x.0, x.1, Contains-append_left seen (t ∷ []) x.0 x.2, x.3, x.4) ]
        | inr new ↦ inr (t, d, Contains-push seen t, is, new)
      ];
}

-- no edge yet
pub joins_none : (own : List Bits) (states : List VisitState) (a : ℕ) (s : Bits) → slice_get own a ≡ Some s → Joins own states a [] (record { rank = 0; classes = s })
unfolding owns
joins_none own states a s is = record {
  falls = λ b h. absurd (omega (arith, h.1));
  tight = inl refl;
  itself = λ c h. let same : h.0 ≡ s = cc (h.1, is) in subst (λ (x : Bits). has x c ≡ true) same h.2;
  source = λ c h. inl (s, is, h);
}

-- what the edges of a node that is done give is what those of one with the same edges give, with its own classes
pub joins_twin : (own : List Bits) (states : List VisitState) (a t : ℕ) (seen : List ℕ) (s : Bits) (e f : NodeRank) → Joins own states t seen e → ((c : ℕ) → owns own t c → owns own a c) → slice_get own a ≡ Some s → f.rank ≡ e.rank → ((c : ℕ) → has f.classes c ≡ (has s c || has e.classes c)) → Joins own states a seen f
unfolding owns
joins_twin own states a t seen s e f j within is rank both = record {
  falls = λ b h. let x = j.falls b h in (x.0, x.1, omega (arith, x.2, rank), λ c has_it. both c ∙ or_right (has s c) (has e.classes c) (x.3 c has_it));
  tight = elim j.tight [ inl z ↦ inl (rank ∙ z) | inr x ↦ inr (x.0, x.1, x.2, x.3, x.4 ∙ sym rank) ];
  itself = λ c h. let same : h.0 ≡ s = cc (h.1, is) in both c ∙ or_left (has s c) (has e.classes c) (subst (λ (x : Bits). has x c ≡ true) same h.2);
  source = λ c h.
      elim (or_cases (has s c) (has e.classes c) (sym (both c) ∙ h)) [
        | inl mine ↦ inl (s, is, mine)
        | inr theirs ↦ elim (j.source c theirs) [ inl z ↦ inl (within c z) | inr x ↦ inr x ]
      ];
}

-- a node is entered with what is known of one that is told to be alike
pub begun_known : (rows : List (List ℕ)) (alike : List ℕ) (own : List Bits) (states : List VisitState) (a : ℕ) (s : Bits) (e f : NodeRank) (r : List ℕ) → AreAlike rows alike → Finished rows own states → IsKnown alike own states a e → r ≡ row rows a → slice_get own a ≡ Some s → f.rank ≡ e.rank → ((c : ℕ) → has f.classes c ≡ (has s c || has e.classes c))
    → IsBegun rows own states a (record { node = a; next = length r; entry = f })
begun_known rows alike own states a s e f r are finished known row_is is rank both =
    let same = are.each a known.twin known.is in
    let joins = joins_twin own states a known.twin (row rows a) s e f (subst (λ (seen : List ℕ). Joins own states known.twin seen e) same (finished.joins known.twin e known.done)) known.within is rank both in
    let count : length r ≡ length (row rows a) = ap (λ (l : List ℕ). length l) row_is in
    record {
      node = refl;
      joins = subst (λ (seen : List ℕ). Joins own states a seen f) (sym (take_all (length r) (row rows a) (omega (arith, count)))) joins;
      ranked = omega (arith, rank, finished.ranked known.twin e known.done);
      placed = omega (arith, count);
    }

-- .. or with none of its edges followed
pub begun_none : (rows : List (List ℕ)) (own : List Bits) (states : List VisitState) (a : ℕ) (s : Bits) → length states ≡ length rows → slice_get own a ≡ Some s → IsBegun rows own states a (record { node = a; next = 0; entry = record { rank = 0; classes = s } })
begun_none rows own states a s len is = record {
  node = refl;
  joins = joins_none own states a s is;
  ranked = omega (arith, room_le states, len);
  placed = omega arith;
}

-- of two sets one of which adds nothing to the other, that one is within it
pub owns_within : (own : List Bits) (a t : ℕ) (mine theirs both : Bits) → slice_get own a ≡ Some mine → slice_get own t ≡ Some theirs → both ≡ mine → ((c : ℕ) → has both c ≡ (has theirs c || has mine c)) → (c : ℕ) → owns own t c → owns own a c
unfolding owns
owns_within own a t mine theirs both is_mine is_theirs same union c h =
    let there : h.0 ≡ theirs = cc (h.1, is_theirs) in
    let held : has theirs c ≡ true = subst (λ (x : Bits). has x c ≡ true) there h.2 in
    let all : has both c ≡ true = union c ∙ or_left (has theirs c) (has mine c) held in
    (mine, is_mine, subst (λ (x : Bits). has x c ≡ true) same all)

pub visiting_grows : (rows : List (List ℕ)) (own : List Bits) (states after : List VisitState) (v : Visit) → Grows states after → room after ≤ room states → state_of after v.node ≡ Open → Visiting rows own states v → Visiting rows own after v
visiting_grows rows own states after v grows less opened x = record {
  joins = joins_grow own states after v.node (take v.next (row rows v.node)) v.entry grows x.joins;
  ranked = omega (arith, x.ranked);
  placed = x.placed;
  opened = opened;
  inside = x.inside;
}

pub held_grows : (rows : List (List ℕ)) (own : List Bits) (states after : List VisitState) (child : ℕ) (path : List Visit) → Grows states after → room after ≤ room states → ((a : ℕ) → OnPath a path → state_of states a ≡ Open → state_of after a ≡ Open) → Held rows own states child path → Held rows own after child path
held_grows rows own states after child [] grows less still h = tt
held_grows rows own states after child (v ∷ vs) grows less still h = (
  record {
    visiting = visiting_grows rows own states after v grows less (still v.node (inl refl) h.0.visiting.opened) h.0.visiting;
    more = h.0.more;
    leads = h.0.leads;
    once = h.0.once;
  },
  held_grows rows own states after v.node vs grows less (λ a on. still a (inr on)) h.1,
)

pub held_open : (rows : List (List ℕ)) (own : List Bits) (states : List VisitState) (child : ℕ) (path : List Visit) (a : ℕ) → Held rows own states child path → OnPath a path → state_of states a ≡ Open
held_open rows own states child [] a h on = absurd on
held_open rows own states child (v ∷ vs) a h on =
    elim on [
      | inl same ↦ subst (λ (x : ℕ). state_of states x ≡ Open) (sym same) h.0.visiting.opened
      | inr below ↦ held_open rows own states v.node vs a h.1 below
    ]

pub finished_open : (rows : List (List ℕ)) (own : List Bits) (states : List VisitState) (a : ℕ) → a < length states → state_of states a ≡ New → Finished rows own states → Finished rows own (set states a Open)
finished_open rows own states a inside fresh f =
    let grows : Grows states (set states a Open) = grows_set states a Open (λ d is. let no : New ≡ Done d = sym fresh ∙ is in cc) in
    let same : room (set states a Open) ≡ room states = room-set_open states a inside fresh in
    let old : (b : ℕ) (e : NodeRank) → state_of (set states a Open) b ≡ Done e → state_of states b ≡ Done e = λ b e is.
    elim (cases_eq b a) [
      | inl x ↦ let no : Open ≡ Done e = sym (state-set_same states a Open inside) ∙ subst (λ (y : ℕ). state_of (set states a Open) y ≡ Done e) x is in cc
      | inr ne ↦ sym (state-set_other states a b Open ne) ∙ is
    ] in
    record {
      joins = λ b e is. joins_grow own states (set states a Open) b (row rows b) e grows (f.joins b e (old b e is));
      ranked = λ b e is. omega (arith, f.ranked b e (old b e is));
    }

pub finished_done : (rows : List (List ℕ)) (own : List Bits) (states : List VisitState) (a : ℕ) (e : NodeRank) → a < length states → state_of states a ≡ Open → Joins own states a (row rows a) e → e.rank + room states ≤ length rows → Finished rows own states → Finished rows own (set states a (Done e))
finished_done rows own states a e inside opened j ranked f =
    let grows : Grows states (set states a (Done e)) = grows_set states a (Done e) (λ d is. let no : Open ≡ Done d = sym opened ∙ is in cc) in
    let less : suc (room (set states a (Done e))) ≡ room states = room-set_done states a e inside opened in
    let old : (b : ℕ) (x : NodeRank) → b ≢ a → state_of (set states a (Done e)) b ≡ Done x → state_of states b ≡ Done x = λ b x ne is.
    sym (state-set_other states a b (Done e) ne) ∙ is in
    let here : (b : ℕ) (x : NodeRank) → b ≡ a → state_of (set states a (Done e)) b ≡ Done x → e ≡ x = λ b x same is.
    let both : Done e ≡ Done x = sym (state-set_same states a (Done e) inside) ∙ subst (λ (y : ℕ). state_of (set states a (Done e)) y ≡ Done x) same is in cc in
    record {
      joins = λ b x is.
          elim (cases_eq b a) [
            | inl same ↦ subst (λ (y : ℕ). Joins own (set states a (Done e)) y (row rows y) x) (sym same) (subst (λ (y : NodeRank). Joins own (set states a (Done e)) a (row rows a) y) (here b x same is) (joins_grow own states (set states a (Done e)) a (row rows a) e grows j))
            | inr ne ↦ joins_grow own states (set states a (Done e)) b (row rows b) x grows (f.joins b x (old b x ne is))
          ];
      ranked = λ b x is.
          elim (cases_eq b a) [
            | inl same ↦ let r : e.rank ≡ x.rank = ap (λ (y : NodeRank). y.rank) (here b x same is) in omega arith
            | inr ne ↦ omega (arith, f.ranked b x (old b x ne is))
          ];
    }

-- ---- the steps
pub step_over : (rows : List (List ℕ)) (own : List Bits) (states : List VisitState) (path : List Visit) (at : Visit) (d f : NodeRank) (t : ℕ) → Searching rows own states path at → at.next < length (row rows at.node) → get_or (row rows at.node) at.next 0 ≡ t → state_of states t ≡ Done d → f.rank ≡ max at.entry.rank (d.rank + 1) → ((c : ℕ) → has f.classes c ≡ (has at.entry.classes c || has d.classes c)) → Searching rows own states path (record { node = at.node; next = at.next + 1; entry = f })
step_over rows own states path at d f t s more reads is rank both =
    let e : take (at.next + 1) (row rows at.node) ≡ take at.next (row rows at.node) ++ t ∷ [] = subst (λ (x : ℕ). take (at.next + 1) (row rows at.node) ≡ take at.next (row rows at.node) ++ x ∷ []) reads (take_more (row rows at.node) at.next 0 more) in
    record {
      finished = s.finished;
      visiting = record {
        joins = subst (λ (seen : List ℕ). Joins own states at.node seen f) (sym e) (joins_more own states at.node (take at.next (row rows at.node)) at.entry d f t is rank both s.visiting.joins);
        ranked = omega (arith, s.visiting.ranked, s.finished.ranked t d is);
        placed = omega arith;
        opened = s.visiting.opened;
        inside = s.visiting.inside;
      };
      held = s.held;
      once = s.once;
      only = s.only;
    }

-- a node is entered
begun_visiting : (rows : List (List ℕ)) (own : List Bits) (states after : List VisitState) (t : ℕ) (v : Visit) → Grows states after → room after ≡ room states → state_of after t ≡ Open → t < length rows → IsBegun rows own states t v → Visiting rows own after v
begun_visiting rows own states after t v grows same opened inside b = record {
  joins = subst (λ (n : ℕ). Joins own after n (take v.next (row rows n)) v.entry) (sym b.node) (joins_grow own states after t (take v.next (row rows t)) v.entry grows b.joins);
  ranked = omega (arith, b.ranked, same);
  placed = subst (λ (n : ℕ). v.next ≤ length (row rows n)) (sym b.node) b.placed;
  opened = subst (λ (n : ℕ). state_of after n ≡ Open) (sym b.node) opened;
  inside = omega (arith, b.node, inside);
}

pub step_into : (rows : List (List ℕ)) (own : List Bits) (states : List VisitState) (path : List Visit) (at : Visit) (t : ℕ) (v : Visit) → Searching rows own states path at → length states ≡ length rows → at.next < length (row rows at.node) → get_or (row rows at.node) at.next 0 ≡ t → t < length rows → state_of states t ≡ New → IsBegun rows own states t v → Searching rows own (set states t Open) (at ∷ path) v
step_into rows own states path at t v s len more reads inside fresh begun =
    let within : t < length states = omega arith in
    let after : List VisitState = set states t Open in
    let grows : Grows states after = grows_set states t Open (λ d is. let no : New ≡ Done d = sym fresh ∙ is in cc) in
    let same : room after ≡ room states = room-set_open states t within fresh in
    let still : (a : ℕ) → state_of states a ≡ Open → state_of after a ≡ Open = λ a is.
    elim (cases_eq a t) [
      | inl e ↦ subst (λ (y : ℕ). state_of after y ≡ Open) (sym e) (state-set_same states t Open within)
      | inr ne ↦ state-set_other states t a Open ne ∙ is
    ] in
    let off : ¬ OnPath t (at ∷ path) = λ on.
    elim on [
      | inl e ↦ let no : New ≡ Open = sym fresh ∙ subst (λ (y : ℕ). state_of states y ≡ Open) (sym e) s.visiting.opened in cc
      | inr below ↦ let no : New ≡ Open = sym fresh ∙ held_open rows own states at.node path t s.held below in cc
    ] in
    record {
      finished = finished_open rows own states t within fresh s.finished;
      visiting = begun_visiting rows own states after t v grows same (state-set_same states t Open within) inside begun;
      held = (
        record {
          visiting = visiting_grows rows own states after at grows (omega arith) (still at.node s.visiting.opened) s.visiting;
          more = more;
          leads = reads ∙ sym begun.node;
          once = s.once;
        },
        held_grows rows own states after at.node path grows (omega arith) (λ a on. still a) s.held,
      );
      once = λ on. off (subst (λ (n : ℕ). OnPath n (at ∷ path)) begun.node on);
      only = λ a is. elim (cases_eq a t) [
        | inl e ↦ inl (e ∙ sym begun.node)
        | inr ne ↦ inr (s.only a (sym (state-set_other states t a Open ne) ∙ is))
      ];
    }

pub done_here : (rows : List (List ℕ)) (own : List Bits) (states : List VisitState) (path : List Visit) (at : Visit) → Searching rows own states path at → length states ≡ length rows → length (row rows at.node) ≤ at.next → Finished rows own (set states at.node (Done at.entry))
done_here rows own states path at s len all =
    let within : at.node < length states = omega (arith, s.visiting.inside) in
    finished_done rows own states at.node at.entry within s.visiting.opened (subst (λ (seen : List ℕ). Joins own states at.node seen at.entry) (take_all at.next (row rows at.node) all) s.visiting.joins) s.visiting.ranked s.finished

pub grows_here : (rows : List (List ℕ)) (own : List Bits) (states : List VisitState) (path : List Visit) (at : Visit) → Searching rows own states path at → Grows states (set states at.node (Done at.entry))
grows_here rows own states path at s = grows_set states at.node (Done at.entry) (λ d is. let no : Open ≡ Done d = sym s.visiting.opened ∙ is in cc)

pub only_here : (rows : List (List ℕ)) (own : List Bits) (states : List VisitState) (path : List Visit) (at : Visit) → Searching rows own states path at → length states ≡ length rows → (a : ℕ) → state_of (set states at.node (Done at.entry)) a ≡ Open → OnPath a path
only_here rows own states path at s len a is =
    let within : at.node < length states = omega (arith, s.visiting.inside) in
    elim (cases_eq a at.node) [
      | inl e ↦ let no : Done at.entry ≡ Open = sym (state-set_same states at.node (Done at.entry) within) ∙ subst (λ (y : ℕ). state_of (set states at.node (Done at.entry)) y ≡ Open) e is in cc
      | inr ne ↦ elim (s.only a (sym (state-set_other states at.node a (Done at.entry) ne) ∙ is)) [ inl e ↦ absurd (ne e) | inr on ↦ on ]
    ]

pub step_out : (rows : List (List ℕ)) (own : List Bits) (states : List VisitState) (v : Visit) (path : List Visit) (at : Visit) → Searching rows own states (v ∷ path) at → length states ≡ length rows → length (row rows at.node) ≤ at.next → Searching rows own (set states at.node (Done at.entry)) path v
step_out rows own states v path at s len all =
    let within : at.node < length states = omega (arith, s.visiting.inside) in
    let after : List VisitState = set states at.node (Done at.entry) in
    let grows : Grows states after = grows_here rows own states (v ∷ path) at s in
    let less : suc (room after) ≡ room states = room-set_done states at.node at.entry within s.visiting.opened in
    let still : (a : ℕ) → OnPath a (v ∷ path) → state_of states a ≡ Open → state_of after a ≡ Open = λ a on is.
    elim (cases_eq a at.node) [
      | inl e ↦ absurd (s.once (subst (λ (y : ℕ). OnPath y (v ∷ path)) e on))
      | inr ne ↦ state-set_other states at.node a (Done at.entry) ne ∙ is
    ] in
    record {
      finished = done_here rows own states (v ∷ path) at s len all;
      visiting = visiting_grows rows own states after v grows (omega arith) (still v.node (inl refl) s.held.0.visiting.opened) s.held.0.visiting;
      held = held_grows rows own states after v.node path grows (omega arith) (λ a on. still a (inr on)) s.held.1;
      once = s.held.0.once;
      only = only_here rows own states (v ∷ path) at s len;
    }

-- ---- what the loop of a search asks
pub target_inside : (rows : List (List ℕ)) (a i : ℕ) (r : List ℕ) → r ≡ row rows a → InRange rows → i < length r → get_or r i 0 < length rows
target_inside rows a i r e inside h = inside a (get_or r i 0) (subst (λ (x : List ℕ). Contains x (get_or r i 0)) e (Contains-get_or r i 0 h))

pub since_set : (before states : List VisitState) (root t : ℕ) (x : VisitState) → t < length states → (x ≡ New → ⊥) → ((d : NodeRank) → state_of states t ≡ Done d → ⊥) → Since before root states → Since before root (set states t x)
since_set before states root t x within begun not_done s = record {
  grows = λ a d is. grows_set states t x not_done a d (s.grows a d is);
  begun = λ is.
      elim (cases_eq root t) [
        | inl e ↦ begun (sym (state-set_same states t x within) ∙ subst (λ (y : ℕ). state_of (set states t x) y ≡ New) e is)
        | inr ne ↦ s.begun (sym (state-set_other states t root x ne) ∙ is)
      ];
  len = length-set states t x ∙ s.len;
}

pub not_done_new : (states : List VisitState) (t : ℕ) → state_of states t ≡ New → (d : NodeRank) → state_of states t ≡ Done d → ⊥
not_done_new states t fresh d is = let no : New ≡ Done d = sym fresh ∙ is in cc

pub not_done_open : (states : List VisitState) (t : ℕ) → state_of states t ≡ Open → (d : NodeRank) → state_of states t ≡ Done d → ⊥
not_done_open states t opened d is = let no : Open ≡ Done d = sym opened ∙ is in cc

pub begins : (rows : List (List ℕ)) (own : List Bits) (states : List VisitState) (root : ℕ) (path : List Visit) (v : Visit) → path ≡ [] → length states ≡ length rows → root < length rows → state_of states root ≡ New → Finished rows own states → NoneOpen states → IsBegun rows own states root v
    → Searching rows own (set states root Open) path v × Since states root (set states root Open)
begins rows own states root path v none len inside fresh f closed begun =
    let within : root < length states = omega arith in
    let less : room (set states root Open) ≡ room states = room-set_open states root within fresh in (
      record {
        finished = finished_open rows own states root within fresh f;
        visiting = begun_visiting rows own states (set states root Open) root v (grows_set states root Open (not_done_new states root fresh)) less (state-set_same states root Open within) inside begun;
        held = subst (λ (p : List Visit). Held rows own (set states root Open) v.node p) (sym none) tt;
        once = λ on. subst (λ (p : List Visit). OnPath v.node p) none on;
        only = λ a is. elim (cases_eq a root) [
          | inl e ↦ inl (e ∙ sym begun.node)
          | inr ne ↦ absurd (closed a (sym (state-set_other states root a Open ne) ∙ is))
        ];
      },
      record {
        grows = grows_set states root Open (not_done_new states root fresh);
        begun = λ is. let no : Open ≡ New = sym (state-set_same states root Open within) ∙ is in cc;
        len = length-set states root Open;
      },
    )

pub over_step : (rows : List (List ℕ)) (own : List Bits) (before states : List VisitState) (root : ℕ) (path : List Visit) (at : Visit) (r : List ℕ) (d f : NodeRank) → Searching rows own states path at × Since before root states → r ≡ row rows at.node → at.next < length r → state_of states (get_or r at.next 0) ≡ Done d → f.rank ≡ max at.entry.rank (d.rank + 1) → ((c : ℕ) → has f.classes c ≡ (has at.entry.classes c || has d.classes c))
    → Searching rows own states path (record { node = at.node; next = at.next + 1; entry = f }) × Since before root states
over_step rows own before states root path at r d f s e more is rank both =
    (step_over rows own states path at d f (get_or r at.next 0) s.0 (subst (λ (x : List ℕ). at.next < length x) e more) (subst (λ (x : List ℕ). get_or x at.next 0 ≡ get_or r at.next 0) e refl) is rank both, s.1)

-- edges are followed that lead to nodes that are done
pub passes_none : (rows : List (List ℕ)) (states : List VisitState) (v : Visit) → PassesDone rows states v v
passes_none rows states v = record { node = refl; onward = omega arith; keeps = λ own path s. s }

pub passes_more : (rows : List (List ℕ)) (states : List VisitState) (before at : Visit) (r : List ℕ) (d f : NodeRank) → PassesDone rows states before at → r ≡ row rows before.node → at.next < length r → state_of states (get_or r at.next 0) ≡ Done d → f.rank ≡ max at.entry.rank (d.rank + 1) → ((c : ℕ) → has f.classes c ≡ (has at.entry.classes c || has d.classes c))
    → PassesDone rows states before (record { node = at.node; next = at.next + 1; entry = f })
passes_more rows states before at r d f p e more is rank both = record {
  node = p.node;
  onward = omega (arith, p.onward);
  keeps = λ own path s. step_over rows own states path at d f (get_or r at.next 0) (p.keeps own path s) (subst (λ (x : List ℕ). at.next < length x) here more) (subst (λ (x : List ℕ). get_or x at.next 0 ≡ get_or r at.next 0) here refl) is rank both;
}
  where
    here : r ≡ row rows at.node
    here = e ∙ ap (λ (a : ℕ). row rows a) (sym p.node)

pub passed : (rows : List (List ℕ)) (own : List Bits) (begun states : List VisitState) (root : ℕ) (path : List Visit) (before after : Visit) → PassesDone rows states before after → Searching rows own states path before × Since begun root states → Searching rows own states path after × Since begun root states
passed rows own begun states root path before after p s = (p.keeps own path s.0, s.1)

-- as many are left as before, or fewer
pub passes_left : (rows : List (List ℕ)) (states : List VisitState) (before after : Visit) → PassesDone rows states before after → length (row rows after.node) - after.next ≤ length (row rows before.node) - before.next
passes_left rows states before after p =
    let same : length (row rows after.node) ≡ length (row rows before.node) = ap (λ (a : ℕ). length (row rows a)) p.node in
    omega (arith, same, p.onward)

pub less_more : (x a b m n : ℕ) → m ≤ n → x < a + b + m → x < a + b + n
less_more x a b m n h k = omega (arith, h, k)

pub into_step : (rows : List (List ℕ)) (own : List Bits) (before states : List VisitState) (root : ℕ) (path after : List Visit) (at v : Visit) (r : List ℕ) → Searching rows own states path at × Since before root states → length before ≡ length rows → InRange rows → r ≡ row rows at.node → at.next < length r → state_of states (get_or r at.next 0) ≡ New → IsBegun rows own states (get_or r at.next 0) v → after ≡ at ∷ path
    → Searching rows own (set states (get_or r at.next 0) Open) after v × Since before root (set states (get_or r at.next 0) Open)
into_step rows own before states root path after at v r s len range e more fresh begun pushed =
    let inside : get_or r at.next 0 < length rows = target_inside rows at.node at.next r e range more in
    let same : length states ≡ length rows = s.1.len ∙ len in (
      subst (λ (p : List Visit). Searching rows own (set states (get_or r at.next 0) Open) p v) (sym pushed)
          (step_into rows own states path at (get_or r at.next 0) v s.0 same (subst (λ (y : List ℕ). at.next < length y) e more) (subst (λ (y : List ℕ). get_or y at.next 0 ≡ get_or r at.next 0) e refl) inside fresh begun),
      since_set before states root (get_or r at.next 0) Open (omega arith) (λ is. let no : Open ≡ New = is in cc) (not_done_new states (get_or r at.next 0) fresh) s.1,
    )

pub out_step : (rows : List (List ℕ)) (own : List Bits) (before states : List VisitState) (root : ℕ) (path after : List Visit) (at v : Visit) (r : List ℕ) → Searching rows own states path at × Since before root states → length before ≡ length rows → r ≡ row rows at.node → length r ≤ at.next → path ≡ v ∷ after
    → Searching rows own (set states at.node (Done at.entry)) after v × Since before root (set states at.node (Done at.entry))
out_step rows own before states root path after at v r s len e all popped =
    let same : length states ≡ length rows = s.1.len ∙ len in
    let here : Searching rows own states (v ∷ after) at = subst (λ (p : List Visit). Searching rows own states p at) popped s.0 in (
      step_out rows own states v after at here same (subst (λ (y : List ℕ). length y ≤ at.next) e all),
      since_set before states root at.node (Done at.entry) (omega (arith, s.0.visiting.inside)) (λ is. let no : Done at.entry ≡ New = is in cc) (not_done_open states at.node s.0.visiting.opened) s.1,
    )

pub done_from : (states : List VisitState) (a : ℕ) (s : VisitState) → state_of states a ≡ s → (s ≡ New → ⊥) → (s ≡ Open → ⊥) → (d : NodeRank) × (state_of states a ≡ Done d)
done_from states a New is begun none = absurd (begun refl)
done_from states a Open is begun none = absurd (none refl)
done_from states a (Done d) is begun none = (d, is)

pub ends : (rows : List (List ℕ)) (own : List Bits) (before states : List VisitState) (root : ℕ) (path : List Visit) (at : Visit) (r : List ℕ) → Searching rows own states path at × Since before root states → length before ≡ length rows → r ≡ row rows at.node → length r ≤ at.next → path ≡ [] → Visited rows own before root (set states at.node (Done at.entry))
ends rows own before states root path at r s len e all none =
    let same : length states ≡ length rows = s.1.len ∙ len in
    let after : List VisitState = set states at.node (Done at.entry) in
    let since : Since before root after = since_set before states root at.node (Done at.entry) (omega (arith, s.0.visiting.inside)) (λ is. let no : Done at.entry ≡ New = is in cc) (not_done_open states at.node s.0.visiting.opened) s.1 in
    let closed : NoneOpen after = λ a is. subst (λ (p : List Visit). OnPath a p) none (only_here rows own states path at s.0 same a is) in
    record {
      finished = done_here rows own states path at s.0 same (subst (λ (y : List ℕ). length y ≤ at.next) e all);
      closed = closed;
      grows = since.grows;
      done = done_from after root (state_of after root) refl since.begun (closed root);
      len = since.len;
    }

pub into_smaller : (rows : List (List ℕ)) (own : List Bits) (before states : List VisitState) (root : ℕ) (path after : List Visit) (at v : Visit) (r : List ℕ) → Searching rows own states path at × Since before root states → length before ≡ length rows → InRange rows → r ≡ row rows at.node → at.next < length r → state_of states (get_or r at.next 0) ≡ New → v.node ≡ get_or r at.next 0 → after ≡ at ∷ path
    → left rows (set states (get_or r at.next 0) Open) + left_below rows after + (length (row rows v.node) - v.next) < left rows states + left_below rows path + (length (row rows at.node) - at.next)
into_smaller rows own before states root path after at v r s len range e more fresh node pushed =
    let inside : get_or r at.next 0 < length rows = target_inside rows at.node at.next r e range more in
    let less = left-set_open rows states (get_or r at.next 0) (s.1.len ∙ len) inside fresh in
    let long : at.next < length (row rows at.node) = subst (λ (x : List ℕ). at.next < length x) e more in
    let rest : length (row rows v.node) ≡ length (row rows (get_or r at.next 0)) = ap (λ (n : ℕ). length (row rows n)) node in
    let below : left_below rows after ≡ (length (row rows at.node) - at.next) + 1 + left_below rows path = ap (left_below rows) pushed in
    omega arith

pub out_smaller : (rows : List (List ℕ)) (own : List Bits) (before states : List VisitState) (root : ℕ) (path after : List Visit) (at v : Visit) → Searching rows own states path at × Since before root states → path ≡ v ∷ after
    → left rows (set states at.node (Done at.entry)) + left_below rows after + (length (row rows v.node) - v.next) < left rows states + left_below rows path + (length (row rows at.node) - at.next)
out_smaller rows own before states root path after at v s popped =
    let same = left-set_done rows states at.node at.entry s.0.visiting.opened in
    let below : left_below rows path ≡ (length (row rows v.node) - v.next) + 1 + left_below rows after = ap (left_below rows) popped in
    omega arith

-- ---- the path is a walk
pub held_climbs : (rows : List (List ℕ)) (own : List Bits) (states : List VisitState) (child : ℕ) (path : List Visit) → Held rows own states child path → Climbs rows child path
held_climbs rows own states child [] h = tt
held_climbs rows own states child (v ∷ vs) h =
    (subst (λ (x : ℕ). Contains (row rows v.node) x) h.0.leads (Contains-get_or (row rows v.node) v.next 0 h.0.more), held_climbs rows own states v.node vs h.1)

pub leads_push : (rows : List (List ℕ)) (a : ℕ) (ws : List ℕ) (b c : ℕ) → LeadsBy (Edge rows) a ws b → Edge rows b c → LeadsBy (Edge rows) a (ws ++ c ∷ []) c
leads_push rows a [] b c l e = (subst (λ (x : ℕ). Edge rows x c) (sym l) e, refl)
leads_push rows a (w ∷ ws) b c l e = (l.0, leads_push rows w ws b c l.1 e)

pub climb_on : (target current : ℕ) (path after : List Visit) (v : Visit) → (target ≡ current) ⊎ OnPath target path → current ≢ target → path ≡ v ∷ after → (target ≡ v.node) ⊎ OnPath target after
climb_on target current path after v on ne popped =
    elim on [ inl e ↦ absurd (ne (sym e)) | inr below ↦ subst (λ (p : List Visit). OnPath target p) popped below ]

pub climb_step : (rows : List (List ℕ)) (current top : ℕ) (path after : List Visit) (v : Visit) (nodes more : List ℕ) → path ≡ v ∷ after → more ≡ nodes ++ v.node ∷ [] → Climbs rows current path × ((ws : List ℕ) × (reverse nodes ≡ current ∷ ws) × LeadsBy (Edge rows) current ws top)
    → Climbs rows v.node after × ((ws : List ℕ) × (reverse more ≡ v.node ∷ ws) × LeadsBy (Edge rows) v.node ws top)
climb_step rows current top path after v nodes more popped pushed x =
    let climbs : Climbs rows current (v ∷ after) = subst (λ (p : List Visit). Climbs rows current p) popped x.0 in
    (climbs.1, (current ∷ x.1.0, ap reverse pushed ∙ reverse-append nodes (v.node ∷ []) ∙ ap (λ (l : List ℕ). v.node ∷ l) x.1.1, (climbs.0, x.1.2)))

pub climbed : (rows : List (List ℕ)) (target current top : ℕ) (nodes all : List ℕ) → current ≡ target → all ≡ reverse nodes → Edge rows top target → (ws : List ℕ) × (reverse nodes ≡ current ∷ ws) × LeadsBy (Edge rows) current ws top → LeadsRound rows all
climbed rows target current top nodes all same turned edge x =
    let first : all ≡ current ∷ x.0 = turned ∙ x.1 in
    subst (λ (l : List ℕ). LeadsRound rows l) (sym first) (leads_push rows current x.0 top current x.2 (subst (λ (y : ℕ). Edge rows top y) (sym same) edge))

-- ---- each node is on the path once
pub held_once : (rows : List (List ℕ)) (own : List Bits) (states : List VisitState) (child : ℕ) (path : List Visit) → Held rows own states child path → ¬ OnPath child path → AreOnce child path
held_once rows own states child [] h off = tt
held_once rows own states child (v ∷ vs) h off = (off, held_once rows own states v.node vs h.1 h.0.once)

once_top : (child : ℕ) (path : List Visit) → AreOnce child path → ¬ OnPath child path
once_top child [] h on = on
once_top child (v ∷ vs) h on = h.0 on

-- of the nodes so far, the last one first, none appears twice, and none is on the path that is left
pub record AreSoFar (current : ℕ) (path : List Visit) (nodes : List ℕ) : Type 0 where
  pub once : AreOnce current path
  pub distinct : AreDistinct (reverse nodes)
  pub apart : (a : ℕ) → Contains (reverse nodes) a → ¬ OnPath a path

pub one_reversed : (top : ℕ) (none nodes : List ℕ) → none ≡ [] → nodes ≡ none ++ top ∷ [] → reverse nodes ≡ top ∷ []
one_reversed top none nodes begun pushed = ap reverse pushed ∙ ap (λ (l : List ℕ). reverse (l ++ top ∷ [])) begun

pub top_alone : (top : ℕ) (path : List Visit) (none nodes : List ℕ) → none ≡ [] → nodes ≡ none ++ top ∷ [] → AreOnce top path → AreSoFar top path nodes
top_alone top path none nodes begun pushed once =
    let alone = one_reversed top none nodes begun pushed in
    record {
      once = once;
      distinct = subst AreDistinct (sym alone) (λ held. omega (arith, held.1), tt);
      apart = λ a held on.
          elim (cons_cases top [] a (subst (λ (l : List ℕ). Contains l a) alone held)) [
            | inl e ↦ once_top top path once (subst (λ (x : ℕ). OnPath x path) (sym e) on)
            | inr none ↦ omega (arith, none.1)
          ];
    }

pub once_step : (current : ℕ) (path after : List Visit) (v : Visit) (nodes more : List ℕ) → path ≡ v ∷ after → more ≡ nodes ++ v.node ∷ [] → AreSoFar current path nodes → AreSoFar v.node after more
once_step current path after v nodes more popped pushed x =
    let turned : reverse more ≡ v.node ∷ reverse nodes = ap reverse pushed ∙ reverse-append nodes (v.node ∷ []) in
    let once : AreOnce current (v ∷ after) = subst (AreOnce current) popped x.once in
    let apart : (a : ℕ) → Contains (reverse nodes) a → ¬ OnPath a (v ∷ after) = subst (λ (p : List Visit). (a : ℕ) → Contains (reverse nodes) a → ¬ OnPath a p) popped x.apart in
    record {
      once = once.1;
      distinct = subst AreDistinct (sym turned) (λ held. apart v.node held (inl refl), x.distinct);
      apart = λ a held on.
          elim (cons_cases v.node (reverse nodes) a (subst (λ (l : List ℕ). Contains l a) turned held)) [
            | inl e ↦ once_top v.node after once.1 (subst (λ (y : ℕ). OnPath y after) (sym e) on)
            | inr old ↦ apart a old (inr on)
          ];
    }
