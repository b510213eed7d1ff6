-- The steps of a search for components.
use Rattle.std.proofs.Common.{◌≡◌, ◌≢◌, ℕ, ◌+◌, ◌≤◌, ◌<◌, ◌⊎◌, inl, inr, List, [], ◌∷◌, ◌++◌, length, take, set, get_or, refl, sym, ap, ◌∙◌, subst, arith}
use Rattle.std.specs.List.{Contains}
use Rattle.std.proofs.lemmas.Bool.{cases_eq, cases_lt}
use Rattle.std.proofs.lemmas.List.{length-set, length_push, get_or_append_left, get_or_push, take_more, take_all}
use Rattle.std.proofs.lemmas.List.Elements.{Contains-push, Contains-push_cases, Contains-append_left}
use Rattle.effect_scan.specs.Rows.{row, Edge}
use Rattle.rank_graph.specs.Graphs.{InRange}
use Rattle.rank_graph.proofs.Driving.{edge_inside}
use Rattle.settling_make.specs.Components.{Leads}
use Rattle.settling_make.specs.Searching.{state_of, IsDone, IsJoined, room, Enters, Leaves, AreLeft, Between, IsGroup, OnPath, IsAfter, Held, Searching, Since, Visited, left_of, left_below}
use Rattle.settling_make.specs.declared.groups.SearchState.{SearchState}
use Rattle.settling_make.specs.declared.groups.SearchState.TheVariants.{New, Open, Done}
use Rattle.settling_make.specs.declared.groups.OpenComponent.{OpenComponent}
use Rattle.settling_make.specs.declared.search.ComponentSearch.{ComponentSearch}
use Rattle.settling_make.proofs.States.{state-set_same, state-set_other, open_inside, room-set_open, room_some, room_less, left-set_open, left_less}
use Rattle.settling_make.proofs.Grouping.{leads_edge, leads_itself, only_one, both_length, held_keeps, held_open, with, with_same, group_passes, waits_last, member_above, member_below, joined_group, joined_stands}

open_done : (states : List SearchState) (a t k : ℕ) → state_of states a ≡ Open t → state_of states a ≡ Done k → ⊥
open_done states a t k o d = let bad : Open t ≡ Done k = sym o ∙ d in cc

open_new : (states : List SearchState) (a t : ℕ) → state_of states a ≡ Open t → state_of states a ≡ New → ⊥
open_new states a t o d = let bad : Open t ≡ New = sym o ∙ d in cc

done_new : (states : List SearchState) (a k : ℕ) → state_of states a ≡ Done k → state_of states a ≡ New → ⊥
done_new states a k o d = let bad : Done k ≡ New = sym o ∙ d in cc

one_time : (states : List SearchState) (a t u : ℕ) → state_of states a ≡ Open t → state_of states a ≡ Open u → t ≡ u
one_time states a t u x y = let same : Open t ≡ Open u = sym x ∙ y in cc

one_number : (states : List SearchState) (a j k : ℕ) → state_of states a ≡ Done j → state_of states a ≡ Done k → j ≡ k
one_number states a j k x y = let same : Done j ≡ Done k = sym x ∙ y in cc

-- ---- a node is entered
module _ (rows : List (List ℕ)) (node : ℕ) (before after : ComponentSearch) (group : OpenComponent) (enters : Enters rows node before after group) (inside : node < length before.states) (fresh : state_of before.states node ≡ New) where
  here : state_of after.states node ≡ Open before.entered
  here = ap (λ (l : List SearchState). state_of l node) enters.states ∙ state-set_same before.states node (Open before.entered) inside

  other : (a : ℕ) → a ≢ node → state_of after.states a ≡ state_of before.states a
  other a ne = ap (λ (l : List SearchState). state_of l a) enters.states ∙ state-set_other before.states node a (Open before.entered) ne

  same_open : (a t : ℕ) → state_of before.states a ≡ Open t → state_of after.states a ≡ state_of before.states a
  same_open a t is = other a (λ e. open_new before.states a t is (subst (λ (x : ℕ). state_of before.states x ≡ New) (sym e) fresh))

  grows_in : (a k : ℕ) → state_of before.states a ≡ Done k → state_of after.states a ≡ Done k
  grows_in a k is = other a (λ e. done_new before.states a k is (subst (λ (x : ℕ). state_of before.states x ≡ New) (sym e) fresh)) ∙ is

  back_in : (a k : ℕ) → state_of after.states a ≡ Done k → state_of before.states a ≡ Done k
  back_in a k is =
      elim (cases_eq a node) [
        | inl e ↦ absurd (open_done after.states node before.entered k here (subst (λ (x : ℕ). state_of after.states x ≡ Done k) e is))
        | inr ne ↦ sym (other a ne) ∙ is
      ]

  enters_left : AreLeft rows before → AreLeft rows after
  enters_left left = record {
    count = ap (λ (l : List SearchState). length l) enters.states ∙ length-set before.states node (Open before.entered) ∙ left.count;
    falls = λ a b k is e. let x = left.falls a b k (back_in a k is) e in (x.0, grows_in b x.0 x.1, x.2);
    together = λ a b k x y. left.together a b k (back_in a k x) (back_in b k y);
    members = λ a k. (
      λ e. grows_in a k ((left.members a k).0 (subst (λ (l : List (List ℕ)). Edge l k a) enters.sets e)),
      λ is. subst (λ (l : List (List ℕ)). Edge l k a) (sym enters.sets) ((left.members a k).1 (back_in a k is)),
    );
    early = λ a t is.
        elim (cases_eq a node) [
          | inl e ↦ let now = one_time after.states node t before.entered (subst (λ (x : ℕ). state_of after.states x ≡ Open t) e is) here in omega (arith, enters.entered)
          | inr ne ↦ let low = left.early a t (sym (other a ne) ∙ is) in omega (arith, enters.entered)
        ];
    few =
        let less = room-set_open before.states node before.entered inside fresh in
        let same : room after.states ≡ room (set before.states node (Open before.entered)) = ap (λ (l : List SearchState). room l) enters.states in
        omega (arith, enters.entered, left.few);
  }

  alone : IsGroup rows after.states group
  alone = record {
    opened = λ a h.
        let same = only_one node a (subst (λ (l : List ℕ). Contains l a) enters.members h) in
        (before.entered, subst (λ (x : ℕ). state_of after.states x ≡ Open before.entered) same here, omega (arith, enters.first));
    together = λ a b h k.
        let x = only_one node a (subst (λ (l : List ℕ). Contains l a) enters.members h) in
        let y = only_one node b (subst (λ (l : List ℕ). Contains l b) enters.members k) in
        subst (λ (z : ℕ). Leads rows a z) (sym x ∙ y) (leads_itself rows a);
    edges = λ a b h e.
        let same = only_one node a (subst (λ (l : List ℕ). Contains l a) enters.members h) in
        let edge : Edge rows node b = subst (λ (x : ℕ). Edge rows x b) (sym same) e in
        inr (inr (subst (λ (l : List ℕ). Contains l b) (sym enters.pending) edge));
    source = λ b h. (node, itself, subst (λ (l : List ℕ). Contains l b) enters.pending h);
  }
    where
      itself : Contains group.members node
      itself = subst (λ (l : List ℕ). Contains l node) (sym enters.members) (Contains-push [] node)

  among : Contains group.members node
  among = subst (λ (l : List ℕ). Contains l node) (sym enters.members) (Contains-push [] node)

  member_is : (b : ℕ) → Contains group.members b → node ≡ b
  member_is b h = only_one node b (subst (λ (l : List ℕ). Contains l b) enters.members h)

  -- with nothing on the path
  pub begins : (path : List OpenComponent) → path ≡ [] → Between rows before → Searching rows after path group
  begins path none between = subst (λ (p : List OpenComponent). Searching rows after p group) (sym none) (record {
    left = enters_left between.left;
    group = alone;
    stands = record { leads = λ a b on h. absurd on; before = λ a t on is. absurd on; after = tt };
    held = tt;
    only = λ a t is.
        elim (cases_eq a node) [
          | inl e ↦ inl (subst (λ (x : ℕ). Contains group.members x) (sym e) among)
          | inr ne ↦ absurd (between.closed a t (sym (other a ne) ∙ is))
        ];
  })

  -- at the end of an edge from the group on top
  pub into : (path : List OpenComponent) (at : OpenComponent) → Contains at.pending node → Searching rows before path at → Searching rows after (at ∷ path) group
  into path at waits s = record {
    left = enters_left s.left;
    group = alone;
    stands = record {
      leads = λ a b on h. subst (λ (x : ℕ). Leads rows a x) (member_is b h) (reaches a on);
      before = λ a t on is.
          let was = held_open rows before.states (at ∷ path) a below on in
          let same = one_time after.states a was.0 t (same_open a was.0 was.1 ∙ was.1) is in
          let low = s.left.early a was.0 was.1 in
          omega (arith, enters.first);
      after =
          let source = s.group.source node waits in
          let time = s.group.opened source.0 source.1 in
          let low = s.left.early source.0 time.0 time.1 in
          omega (arith, enters.first, time.2);
    };
    held = held_keeps rows before.states after.states (at ∷ path) (λ a on. let was = held_open rows before.states (at ∷ path) a below on in same_open a was.0 was.1) grows_in below;
    only = λ a t is.
        elim (cases_eq a node) [
          | inl e ↦ inl (subst (λ (x : ℕ). Contains group.members x) (sym e) among)
          | inr ne ↦ inr (s.only a t (sym (other a ne) ∙ is))
        ];
  }
    where
      below : Held rows before.states (at ∷ path)
      below = (s.group, s.stands, s.held)

      reaches : (a : ℕ) → OnPath a (at ∷ path) → Leads rows a node
      reaches a on =
          let source = s.group.source node waits in
          let up : Leads rows a source.0 = elim on [ inl x ↦ s.group.together a source.0 x source.1 | inr x ↦ s.stands.leads a source.0 x source.1 ] in
          leads_edge rows a source.0 node up source.2

  pub since_in : (start : ComponentSearch) (root : ℕ) → Since start root before → Since start root after
  since_in start root since = record {
    grows = λ a k is. grows_in a k (since.grows a k is);
    begun = λ is.
        elim (cases_eq root node) [
          | inl e ↦ open_new after.states node before.entered here (subst (λ (x : ℕ). state_of after.states x ≡ New) e is)
          | inr ne ↦ since.begun (sym (other root ne) ∙ is)
        ];
  }

  pub since_begins : Since before node after
  since_begins = record { grows = grows_in; begun = λ is. open_new after.states node before.entered here is }

  pub into_smaller : (at : OpenComponent) (path : List OpenComponent) → AreLeft rows before → left_of rows after.states + left_below (group ∷ at ∷ path) < left_of rows before.states + left_below (at ∷ path)
  into_smaller at path left =
      let less = left-set_open rows before.states node before.entered left.count (omega (arith, left.count)) fresh in
      let same : left_of rows after.states ≡ left_of rows (set before.states node (Open before.entered)) = ap (λ (l : List SearchState). left_of rows l) enters.states in
      let count : length group.pending ≡ length (row rows node) = ap (λ (l : List ℕ). length l) enters.pending in
      omega arith

-- ---- an end of an edge was looked at
module _ (rows : List (List ℕ)) (found : ComponentSearch) (path : List OpenComponent) (at : OpenComponent) (rest : List ℕ) (t : ℕ) (popped : at.pending ≡ rest ++ t ∷ []) (s : Searching rows found path at) where
  pub passes : IsDone found.states t ⊎ Contains at.members t → Searching rows found path (with at rest)
  passes known = record {
    left = s.left;
    group = group_passes rows found.states at rest t popped known s.group;
    stands = record { leads = s.stands.leads; before = s.stands.before; after = rest_after path s.stands.after };
    held = s.held;
    only = s.only;
  }
    where
      rest_after : (p : List OpenComponent) → IsAfter at p → IsAfter (with at rest) p
      rest_after [] h = h
      rest_after (g ∷ gs) h = h

  pub target_inside : InRange rows → t < length found.states
  target_inside range =
      let source = s.group.source t (waits_last at rest t popped) in
      let low = range source.0 t source.2 in
      omega (arith, s.left.count)

  -- an open node that was entered after the first one of the group on top is in it
  pub in_group : (time : ℕ) → state_of found.states t ≡ Open time → at.first ≤ time → Contains at.members t
  in_group time is late =
      elim (s.only t time is) [
        | inl x ↦ x
        | inr on ↦ let low = s.stands.before t time on is in absurd (omega arith)
      ]

  -- else it is below
  pub below_group : (time : ℕ) → state_of found.states t ≡ Open time → time < at.first → OnPath t path
  below_group time is early =
      elim (s.only t time is) [
        | inl x ↦ let o = s.group.opened t x in let same = one_time found.states t o.0 time o.1 is in let late = o.2 in absurd (omega arith)
        | inr on ↦ on
      ]

-- ---- two groups become one
pub merges : (rows : List (List ℕ)) (found : ComponentSearch) (path gs : List OpenComponent) (g at m : OpenComponent) (t : ℕ) → path ≡ g ∷ gs → IsJoined g at m → Contains at.pending t → OnPath t path → Searching rows found path at → Searching rows found gs m
merges rows found path gs g at m t popped joined waits on searching =
    let s : Searching rows found (g ∷ gs) at = subst (λ (p : List OpenComponent). Searching rows found p at) popped searching in
    let deep : OnPath t (g ∷ gs) = subst (λ (p : List OpenComponent). OnPath t p) popped on in
    record {
      left = s.left;
      group = joined_group rows found.states g at m gs joined s.held.0 s.held.1 s.group s.stands t waits deep;
      stands = joined_stands rows found.states g at m gs joined s.held.0 s.held.1 s.group s.stands t waits deep;
      held = s.held.2;
      only = λ a u is.
          elim (s.only a u is) [
            | inl x ↦ inl (member_above rows found.states g at m gs joined s.held.0 s.held.1 s.group s.stands a x)
            | inr lower ↦ elim lower [
              | inl x ↦ inl (member_below rows found.states g at m gs joined s.held.0 s.held.1 s.group s.stands a x)
              | inr x ↦ inr x
            ]
          ];
    }

pub merges_smaller : (left : ℕ) (path gs : List OpenComponent) (g at m : OpenComponent) → path ≡ g ∷ gs → IsJoined g at m → left + left_below (m ∷ gs) < left + left_below (at ∷ path)
merges_smaller left path gs g at m popped joined =
    let count = both_length g.pending at.pending m.pending joined.pending in
    let below : left_below path ≡ left_below (g ∷ gs) = ap (λ (p : List OpenComponent). left_below p) popped in
    omega arith

-- ---- a component is left
-- the first of its nodes were left
pub record LeavesTo (members : List ℕ) (number : ℕ) (before : List SearchState) (end : ℕ) (states : List SearchState) : Type 0 where
  pub count : length states ≡ length before
  pub done : (a : ℕ) → Contains (take end members) a → state_of states a ≡ Done number
  pub others : (a : ℕ) → Contains (take end members) a ⊎ (state_of states a ≡ state_of before a)

pub leaves_none : (members : List ℕ) (number : ℕ) (before : List SearchState) → LeavesTo members number before 0 before
leaves_none members number before = record { count = refl; done = λ a h. absurd (omega (arith, h.1)); others = λ a. inr refl }

pub leaves_more : (members : List ℕ) (number : ℕ) (before : List SearchState) (end : ℕ) (states after : List SearchState) (m : ℕ) → end < length members → get_or members end 0 ≡ m → m < length states → after ≡ set states m (Done number) → LeavesTo members number before end states → LeavesTo members number before (end + 1) after
leaves_more members number before end states after m more is inside written to =
    let longer : take (end + 1) members ≡ take end members ++ m ∷ [] = take_more members end 0 more ∙ ap (λ (x : ℕ). take end members ++ x ∷ []) is in
    let here : state_of after m ≡ Done number = ap (λ (l : List SearchState). state_of l m) written ∙ state-set_same states m (Done number) inside in
    let other : (a : ℕ) → a ≢ m → state_of after a ≡ state_of states a = λ a ne. ap (λ (l : List SearchState). state_of l a) written ∙ state-set_other states m a (Done number) ne in
    record {
      count = ap (λ (l : List SearchState). length l) written ∙ length-set states m (Done number) ∙ to.count;
      done = λ a h.
          elim (cases_eq a m) [
            | inl e ↦ subst (λ (x : ℕ). state_of after x ≡ Done number) (sym e) here
            | inr ne ↦ elim (Contains-push_cases (take end members) m a (subst (λ (l : List ℕ). Contains l a) longer h)) [
              | inl old ↦ other a ne ∙ to.done a old
              | inr same ↦ absurd (ne (sym same))
            ]
          ];
      others = λ a.
          elim (cases_eq a m) [
            | inl e ↦ inl (subst (λ (l : List ℕ). Contains l a) (sym longer) (subst (λ (x : ℕ). Contains (take end members ++ m ∷ []) x) (sym e) (Contains-push (take end members) m)))
            | inr ne ↦ elim (to.others a) [
              | inl old ↦ inl (subst (λ (l : List ℕ). Contains l a) (sym longer) (Contains-append_left (take end members) (m ∷ []) a old))
              | inr same ↦ inr (other a ne ∙ same)
            ]
          ];
    }

pub leaves_all : (members given : List ℕ) (number : ℕ) (before after : ComponentSearch) (states : List SearchState) (end : ℕ) → number ≡ length before.sets → given ≡ members → length given ≤ end → LeavesTo given number before.states end states → after.states ≡ states → after.sets ≡ before.sets ++ members ∷ [] → after.entered ≡ before.entered → Leaves members before after
leaves_all members given number before after states end count same past to is sets entered =
    let whole : take end given ≡ members = take_all end given past ∙ same in
    record {
      count = ap (λ (l : List SearchState). length l) is ∙ to.count;
      done = λ a h. ap (λ (l : List SearchState). state_of l a) is ∙ to.done a (subst (λ (l : List ℕ). Contains l a) (sym whole) h) ∙ ap (λ (k : ℕ). Done k) count;
      others = λ a. elim (to.others a) [ inl h ↦ inl (subst (λ (l : List ℕ). Contains l a) whole h) | inr e ↦ inr (ap (λ (l : List SearchState). state_of l a) is ∙ e) ];
      sets = sets;
      entered = entered;
    }

push_row : (sets : List (List ℕ)) (members : List ℕ) (k a : ℕ) → Edge (sets ++ members ∷ []) k a → Edge sets k a ⊎ ((k ≡ length sets) × Contains members a)
unfolding row
push_row sets members k a e =
    elim (cases_lt k (length sets)) [
      | inl l ↦ inl (subst (λ (r : List ℕ). Contains r a) (get_or_append_left sets (members ∷ []) [] k l) e)
      | inr m ↦ elim (cases_eq k (length sets)) [
        | inl same ↦ inr (same, subst (λ (r : List ℕ). Contains r a) (get_or_push sets members [] k (sym same)) e)
        | inr ne ↦ let inside = edge_inside (sets ++ members ∷ []) k a e in let count = length_push sets members in absurd (omega arith)
      ]
    ]

row_old : (sets : List (List ℕ)) (members : List ℕ) (k a : ℕ) → Edge sets k a → Edge (sets ++ members ∷ []) k a
unfolding row
row_old sets members k a e =
    let inside = edge_inside sets k a e in
    subst (λ (r : List ℕ). Contains r a) (sym (get_or_append_left sets (members ∷ []) [] k inside)) e

row_new : (sets : List (List ℕ)) (members : List ℕ) (a : ℕ) → Contains members a → Edge (sets ++ members ∷ []) (length sets) a
unfolding row
row_new sets members a h = subst (λ (r : List ℕ). Contains r a) (sym (get_or_push sets members [] (length sets) refl)) h

module _ (rows : List (List ℕ)) (before after : ComponentSearch) (path : List OpenComponent) (at : OpenComponent) (s : Searching rows before path at) (leaves : Leaves at.members before after) (empty : at.pending ≡ []) where
  number : ℕ
  number = length before.sets

  stays : (a t : ℕ) → state_of after.states a ≡ Open t → state_of before.states a ≡ Open t
  stays a t is =
      elim (leaves.others a) [
        | inl x ↦ absurd (open_done after.states a t (length before.sets) is (leaves.done a x))
        | inr same ↦ sym same ∙ is
      ]

  grows_out : (a k : ℕ) → state_of before.states a ≡ Done k → state_of after.states a ≡ Done k
  grows_out a k is =
      elim (leaves.others a) [
        | inl x ↦ let o = s.group.opened a x in absurd (open_done before.states a o.0 k o.1 is)
        | inr same ↦ same ∙ is
      ]

  back_new : (a : ℕ) → state_of after.states a ≡ New → state_of before.states a ≡ New
  back_new a is =
      elim (leaves.others a) [
        | inl x ↦ absurd (done_new after.states a (length before.sets) (leaves.done a x) is)
        | inr same ↦ sym same ∙ is
      ]

  -- what is left now was left before, or is of the group
  back_out : (a k : ℕ) → state_of after.states a ≡ Done k → ((k ≡ length before.sets) × Contains at.members a) ⊎ (state_of before.states a ≡ Done k)
  back_out a k is =
      elim (leaves.others a) [
        | inl x ↦ inl (one_number after.states a k (length before.sets) is (leaves.done a x), x)
        | inr same ↦ inr (sym same ∙ is)
      ]

  low : (a k : ℕ) → state_of before.states a ≡ Done k → k < length before.sets
  low a k is = edge_inside before.sets k a ((s.left.members a k).1 is)

  none_waits : (b : ℕ) → ¬ Contains at.pending b
  none_waits b h = let bad : Contains [] b = subst (λ (l : List ℕ). Contains l b) empty h in omega (arith, bad.1)

  falls_out : (a b k : ℕ) → state_of after.states a ≡ Done k → Edge rows a b → (j : ℕ) × (state_of after.states b ≡ Done j) × (j ≤ k)
  falls_out a b k is e =
      elim (back_out a k is) [
        | inl new ↦ elim (s.group.edges a b new.1 e) [
          | inl done ↦ let small = low b done.0 done.1 in (done.0, grows_out b done.0 done.1, omega (arith, new.0))
          | inr more ↦ elim more [
            | inl x ↦ (length before.sets, leaves.done b x, omega (arith, new.0))
            | inr x ↦ absurd (none_waits b x)
          ]
        ]
        | inr old ↦ let x = s.left.falls a b k old e in (x.0, grows_out b x.0 x.1, x.2)
      ]

  together_out : (a b k : ℕ) → state_of after.states a ≡ Done k → state_of after.states b ≡ Done k → Leads rows a b
  together_out a b k x y =
      elim (back_out a k x) [
        | inl new ↦ elim (back_out b k y) [
          | inl also ↦ s.group.together a b new.1 also.1
          | inr old ↦ let small = low b k old in absurd (omega (arith, new.0))
        ]
        | inr old ↦ elim (back_out b k y) [
          | inl new ↦ let small = low a k old in absurd (omega (arith, new.0))
          | inr also ↦ s.left.together a b k old also
        ]
      ]

  leaves_left : AreLeft rows after
  leaves_left = record {
    count = leaves.count ∙ s.left.count;
    falls = falls_out;
    together = together_out;
    members = λ a k. (
      λ e.
          elim (push_row before.sets at.members k a (subst (λ (l : List (List ℕ)). Edge l k a) leaves.sets e)) [
            | inl old ↦ grows_out a k ((s.left.members a k).0 old)
            | inr new ↦ subst (λ (n : ℕ). state_of after.states a ≡ Done n) (sym new.0) (leaves.done a new.1)
          ],
      λ is.
          subst (λ (l : List (List ℕ)). Edge l k a) (sym leaves.sets)
          (elim (back_out a k is) [
            | inl new ↦ subst (λ (n : ℕ). Edge (before.sets ++ at.members ∷ []) n a) (sym new.0) (row_new before.sets at.members a new.1)
            | inr old ↦ row_old before.sets at.members k a ((s.left.members a k).1 old)
          ]),
    );
    early = λ a t is. let small = s.left.early a t (stays a t is) in omega (arith, leaves.entered);
    few = let less = room_less before.states after.states leaves.count back_new in omega (arith, leaves.entered, s.left.few);
  }

  still : (a : ℕ) → OnPath a path → state_of after.states a ≡ state_of before.states a
  still a on =
      elim (leaves.others a) [
        | inl x ↦
            let o = s.group.opened a x in
            let small = s.stands.before a o.0 on o.1 in
            let late = o.2 in
            absurd (omega arith)
        | inr same ↦ same
      ]

  pub out : (gs : List OpenComponent) (g : OpenComponent) → path ≡ g ∷ gs → Searching rows after gs g
  out gs g popped =
      let held : Held rows after.states (g ∷ gs) = subst (λ (p : List OpenComponent). Held rows after.states p) popped (held_keeps rows before.states after.states path still grows_out s.held) in
      record {
        left = leaves_left;
        group = held.0;
        stands = held.1;
        held = held.2;
        only = λ a t is.
            elim (s.only a t (stays a t is)) [
              | inl x ↦ absurd (open_done after.states a t (length before.sets) is (leaves.done a x))
              | inr on ↦ subst (λ (p : List OpenComponent). OnPath a p) popped on
            ];
      }

  pub ends : path ≡ [] → Between rows after
  ends none = record {
    left = leaves_left;
    closed = λ a t is.
        elim (s.only a t (stays a t is)) [
          | inl x ↦ open_done after.states a t (length before.sets) is (leaves.done a x)
          | inr on ↦ subst (λ (p : List OpenComponent). OnPath a p) none on
        ];
  }

  pub since_out : (start : ComponentSearch) (root : ℕ) → Since start root before → Since start root after
  since_out start root since = record { grows = λ a k is. grows_out a k (since.grows a k is); begun = λ is. since.begun (back_new root is) }

  pub out_smaller : (gs : List OpenComponent) (g : OpenComponent) → path ≡ g ∷ gs → left_of rows after.states + left_below (g ∷ gs) < left_of rows before.states + left_below (at ∷ path)
  out_smaller gs g popped =
      let less = left_less rows before.states after.states leaves.count back_new in
      let below : left_below path ≡ left_below (g ∷ gs) = ap (λ (p : List OpenComponent). left_below p) popped in
      omega arith

-- ---- the steps as the loop takes them
module _ (rows : List (List ℕ)) (start before : ComponentSearch) (root : ℕ) (path : List OpenComponent) (at : OpenComponent) (s : Searching rows before path at × Since start root before) where
  -- there is an end of an edge to look at
  module _ (rest : List ℕ) (t : ℕ) (popped : at.pending ≡ rest ++ t ∷ []) where
    pub step_inside : InRange rows → t < length before.states
    step_inside range = target_inside rows before path at rest t popped s.0 range

    pub done_step : (k : ℕ) → state_of before.states t ≡ Done k → Searching rows before path (with at rest) × Since start root before
    done_step k is = (passes rows before path at rest t popped s.0 (inl (k, is)), s.1)

    pub open_step : (time : ℕ) → state_of before.states t ≡ Open time → at.first ≤ time → Searching rows before path (with at rest) × Since start root before
    open_step time is late = (passes rows before path at rest t popped s.0 (inr (in_group rows before path at rest t popped s.0 time is late)), s.1)

    pub pass_smaller : left_of rows before.states + left_below (with at rest ∷ path) < left_of rows before.states + left_below (at ∷ path)
    pass_smaller = let count = ap (λ (l : List ℕ). length l) popped in let sum = length_push rest t in omega arith

    pub few_left : state_of before.states t ≡ New → InRange rows → before.entered < length rows
    few_left fresh range = let some = room_some before.states t (step_inside range) fresh in omega (arith, s.0.left.few)

    -- .. which is put back
    module _ (pending : List ℕ) (pushed : pending ≡ rest ++ t ∷ []) where
      again : with at pending ≡ at
      again = with_same at pending rest t popped pushed

      pub new_step : (after : ComponentSearch) (group : OpenComponent) (on : List OpenComponent) → on ≡ with at pending ∷ path → state_of before.states t ≡ New → InRange rows → Enters rows t before after group → Searching rows after on group × Since start root after
      new_step after group on is fresh range enters =
          let same : on ≡ at ∷ path = is ∙ ap (λ (g : OpenComponent). g ∷ path) again in
          let inside = step_inside range in (
            subst (λ (p : List OpenComponent). Searching rows after p group) (sym same) (into rows t before after group enters inside fresh path at (waits_last at rest t popped) s.0),
            since_in rows t before after group enters inside fresh start root s.1,
          )

      pub new_smaller : (after : ComponentSearch) (group : OpenComponent) (on : List OpenComponent) → on ≡ with at pending ∷ path → state_of before.states t ≡ New → InRange rows → Enters rows t before after group → left_of rows after.states + left_below (group ∷ on) < left_of rows before.states + left_below (at ∷ path)
      new_smaller after group on is fresh range enters =
          let same : left_below on ≡ left_below (at ∷ path) = ap (λ (p : List OpenComponent). left_below p) (is ∙ ap (λ (g : OpenComponent). g ∷ path) again) in
          let less = into_smaller rows t before after group enters (step_inside range) fresh at path s.0.left in
          omega arith

      pub none_below : (time : ℕ) → state_of before.states t ≡ Open time → time < at.first → path ≡ [] → ⊥
      none_below time is early none = subst (λ (p : List OpenComponent). OnPath t p) none (below_group rows before path at rest t popped s.0 time is early)

      pub merge_step : (time : ℕ) (below m : OpenComponent) (on : List OpenComponent) → state_of before.states t ≡ Open time → time < at.first → path ≡ below ∷ on → IsJoined below (with at pending) m → Searching rows before on m × Since start root before
      merge_step time below m on is early taken joined =
          let whole : IsJoined below at m = subst (λ (g : OpenComponent). IsJoined below g m) again joined in
          (merges rows before path on below at m t taken whole (waits_last at rest t popped) (below_group rows before path at rest t popped s.0 time is early) s.0, s.1)

      pub merge_smaller : (below m : OpenComponent) (on : List OpenComponent) → path ≡ below ∷ on → IsJoined below (with at pending) m → left_of rows before.states + left_below (m ∷ on) < left_of rows before.states + left_below (at ∷ path)
      merge_smaller below m on taken joined =
          merges_smaller (left_of rows before.states) path on below at m taken (subst (λ (g : OpenComponent). IsJoined below g m) again joined)

  -- there is none
  module _ (members : List ℕ) (are : members ≡ at.members) (empty : at.pending ≡ []) where
    pub leave_inside : (a : ℕ) → Contains members a → a < length before.states
    leave_inside a h = let o = s.0.group.opened a (subst (λ (l : List ℕ). Contains l a) are h) in open_inside before.states a o.0 o.1

    module _ (after : ComponentSearch) (leaves : Leaves members before after) where
      all : Leaves at.members before after
      all = subst (λ (l : List ℕ). Leaves l before after) are leaves

      pub out_step : (below : OpenComponent) (on : List OpenComponent) → path ≡ below ∷ on → Searching rows after on below × Since start root after
      out_step below on taken = (out rows before after path at s.0 all empty on below taken, since_out rows before after path at s.0 all empty start root s.1)

      pub out_less : (below : OpenComponent) (on : List OpenComponent) → path ≡ below ∷ on → left_of rows after.states + left_below (below ∷ on) < left_of rows before.states + left_below (at ∷ path)
      out_less below on taken = out_smaller rows before after path at s.0 all empty on below taken

      pub end_step : path ≡ [] → Visited rows start root after
      end_step none = record { between = ends rows before after path at s.0 all empty none; since = since_out rows before after path at s.0 all empty start root s.1 }
