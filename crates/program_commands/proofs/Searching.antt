-- A search for a way: what it keeps.
use Rattle.std.proofs.Common.{◌≡◌, ◌≢◌, ◌⊎◌, inl, inr, ℕ, zero, suc, ◌+◌, ◌<◌, ◌≤◌, Bool, true, false, List, [], ◌∷◌, ◌++◌, length, get_or, set, reverse, refl, sym, ap, ◌∙◌, subst, arith}
use Rattle.std.specs.List.{Contains}
use Rattle.std.proofs.lemmas.Bool.{cases_lt, cases_eq}
use Rattle.std.proofs.lemmas.List.{get_or-set_same, get_or-set_other, length-set, length_push, reverse-append}
use Rattle.std.proofs.lemmas.Grind.{get_or_default_zero}
use Rattle.std.proofs.lemmas.List.Elements.{Contains-get_or}
use Rattle.effect_scan.specs.Rows.{row, Edge}
use Rattle.rank_graph.specs.Graphs.{InRange}
use Rattle.rank_graph.specs.Walks.{LeadsBy, IsWalk}
use Rattle.program_commands.specs.declared.ways.Met.{Met}
use Rattle.program_commands.specs.declared.ways.WaySearch.{WaySearch}
use Rattle.program_commands.specs.Ways.{flag_of, met_at, OpenEdge, IsTree, IsMet, Meets, NoWayTo}

-- ---- flags and places
pub flag_read : (read flags : List Bool) (a : ℕ) (v : Bool) → read ≡ flags → get_or read a false ≡ v → flag_of flags a ≡ v
unfolding flag_of
flag_read read flags a v same is = ap (λ (l : List Bool). get_or l a false) (sym same) ∙ is

flag-set_same : (flags : List Bool) (a : ℕ) → a < length flags → flag_of (set flags a true) a ≡ true
unfolding flag_of
flag-set_same flags a h = get_or-set_same flags a true false h

flag-set_other : (flags : List Bool) (a b : ℕ) → b ≢ a → flag_of (set flags a true) b ≡ flag_of flags b
unfolding flag_of
flag-set_other flags a b h = get_or-set_other flags a b true false h

-- how many have no flag
abbrev room : List Bool → ℕ
room [] = 0
room (false ∷ fs) = suc (room fs)
room (true ∷ fs) = room fs

room_most : (flags : List Bool) → room flags ≤ length flags
room_most [] = omega arith
room_most (false ∷ fs) = let h = room_most fs in omega arith
room_most (true ∷ fs) = let h = room_most fs in omega arith

room-set : (flags : List Bool) (a : ℕ) → a < length flags → flag_of flags a ≡ false → suc (room (set flags a true)) ≡ room flags
unfolding flag_of
room-set [] a h e = absurd (omega arith)
room-set (false ∷ fs) zero h e = refl
room-set (true ∷ fs) zero h e = cc
room-set (false ∷ fs) (suc a) h e = ap suc (room-set fs a (omega arith) e)
room-set (true ∷ fs) (suc a) h e = room-set fs a (omega arith) e

met_front : (found : List Met) (m : Met) (k : ℕ) → k < length found → met_at (found ++ m ∷ []) k ≡ met_at found k
unfolding met_at
met_front [] m k h = absurd (omega arith)
met_front (x ∷ xs) m zero h = refl
met_front (x ∷ xs) m (suc k) h = met_front xs m k (omega arith)

met_last : (found : List Met) (m : Met) → met_at (found ++ m ∷ []) (length found) ≡ m
unfolding met_at
met_last [] m = refl
met_last (x ∷ xs) m = met_last xs m

abbrev met : ℕ → ℕ → Met
met a k = record { node = a; back = k }

-- ---- what is kept
abbrev pub IsFound : List Met → ℕ → Type 0
IsFound found b = (k : ℕ) × (k < length found) × ((met_at found k).node ≡ b)

pub record IsSearch (rows : List (List ℕ)) (closed ends : List Bool) (from : ℕ) (search : WaySearch) : Type 0 where
  pub count : length search.passed ≡ length rows
  pub first : (met_at search.found 0).node ≡ from
  pub some : 0 < length search.found
  pub tree : IsTree rows closed search.found
  pub kept : (b : ℕ) → flag_of search.passed b ≡ false → flag_of closed b ≡ false
  pub passed : (b : ℕ) → flag_of search.passed b ≡ true → (flag_of closed b ≡ true) ⊎ (IsFound search.found b × (flag_of ends b ≡ false))
  pub few : length search.found + room search.passed ≤ length rows + 1

-- all edges from the first places were followed
abbrev pub Followed : List (List ℕ) → List Bool → List Bool → WaySearch → ℕ → Type 0
Followed rows closed ends search at =
    (k b : ℕ) → k < at → OpenEdge rows closed (met_at search.found k).node b → IsFound search.found b × (flag_of ends b ≡ false)

-- .. and the first of these
abbrev pub FollowedSome : List Bool → List Bool → WaySearch → List ℕ → ℕ → Type 0
FollowedSome closed ends search items i =
    (j : ℕ) → j < i → flag_of closed (get_or items j 0) ≡ false → IsFound search.found (get_or items j 0) × (flag_of ends (get_or items j 0) ≡ false)

pub search_begun : (rows : List (List ℕ)) (closed ends : List Bool) (from : ℕ) (none found : List Met) → none ≡ [] → found ≡ none ++ met from 0 ∷ [] → length closed ≡ length rows → IsSearch rows closed ends from (record { found = found; passed = closed })
unfolding met_at
search_begun rows closed ends from none found is pushed count =
    let alone : found ≡ met from 0 ∷ [] = pushed ∙ ap (λ (l : List Met). l ++ met from 0 ∷ []) is in
    let few = room_most closed in
    subst (λ (l : List Met). IsSearch rows closed ends from (record { found = l; passed = closed })) (sym alone) (record {
      count = count;
      first = refl;
      some = omega arith;
      tree = record { before = λ k some low. absurd (omega (arith, some, low)); edges = λ k some low. absurd (omega (arith, some, low)) };
      kept = λ b h. h;
      passed = λ b h. inl h;
      few = omega (arith, few, count);
    })

-- ---- a node is met
module _ (rows : List (List ℕ)) (closed ends : List Bool) (from : ℕ) (at target : ℕ) (before after : WaySearch) (so : IsSearch rows closed ends from before) (is_met : IsMet at target before after) where
  longer : length after.found ≡ length before.found + 1
  longer = ap length is_met.found ∙ length_push before.found (met target at)

  front : (k : ℕ) → k < length before.found → met_at after.found k ≡ met_at before.found k
  front k low = ap (λ (l : List Met). met_at l k) is_met.found ∙ met_front before.found (met target at) k low

  last : met_at after.found (length before.found) ≡ met target at
  last = ap (λ (l : List Met). met_at l (length before.found)) is_met.found ∙ met_last before.found (met target at)

  pub found_grows : (b : ℕ) → IsFound before.found b → IsFound after.found b
  found_grows b (k, low, is) = (k, omega (arith, low, longer), ap (λ (m : Met). m.node) (front k low) ∙ is)

  target_found : IsFound after.found target
  target_found = (length before.found, omega (arith, longer), ap (λ (m : Met). m.node) last)

  pub followed_grows : at < length before.found → Followed rows closed ends before at → Followed rows closed ends after at
  followed_grows low followed k b h edge =
      let inside : k < length before.found = omega (arith, h, low) in
      let old = followed k b h (subst (λ (m : Met). OpenEdge rows closed m.node b) (front k inside) edge) in
      (found_grows b old.0, old.1)

  tree_before : at < length before.found → (k : ℕ) → 0 < k → k < length after.found → (met_at after.found k).back < k
  tree_before low k some inside =
      elim (cases_lt k (length before.found)) [
        | inl old ↦ subst (λ (m : Met). m.back < k) (sym (front k old)) (so.tree.before k some old)
        | inr new ↦
            let is : k ≡ length before.found = omega (arith, new, inside, longer) in
            subst (λ (j : ℕ). (met_at after.found j).back < j) (sym is) (subst (λ (m : Met). m.back < length before.found) (sym last) low)
      ]

  tree_edges : at < length before.found → OpenEdge rows closed (met_at before.found at).node target → (k : ℕ) → 0 < k → k < length after.found →
      OpenEdge rows closed (met_at after.found ((met_at after.found k).back)).node (met_at after.found k).node
  tree_edges low edge k some inside =
      elim (cases_lt k (length before.found)) [
        | inl old ↦
            let back : (met_at before.found k).back < length before.found = omega (arith, so.tree.before k some old, old) in
            let at_back = subst (λ (m : Met). OpenEdge rows closed m.node (met_at before.found k).node) (sym (front _ back)) (so.tree.edges k some old) in
            subst (λ (m : Met). OpenEdge rows closed (met_at after.found m.back).node m.node) (sym (front k old)) at_back
        | inr new ↦
            let is : k ≡ length before.found = omega (arith, new, inside, longer) in
            let at_last = subst (λ (m : Met). OpenEdge rows closed m.node target) (sym (front at low)) edge in
            let told = subst (λ (m : Met). OpenEdge rows closed (met_at after.found m.back).node m.node) (sym last) at_last in
            subst (λ (j : ℕ). OpenEdge rows closed (met_at after.found ((met_at after.found j).back)).node (met_at after.found j).node) (sym is) told
      ]

  kept_more : target < length before.passed → (b : ℕ) → flag_of after.passed b ≡ false → flag_of closed b ≡ false
  kept_more low b none =
      let read : flag_of (set before.passed target true) b ≡ false = ap (λ (l : List Bool). flag_of l b) (sym is_met.passed) ∙ none in
      elim (cases_eq b target) [
        | inl same ↦ let bad : true ≡ false = sym (flag-set_same before.passed target low) ∙ subst (λ (a : ℕ). flag_of (set before.passed target true) a ≡ false) same read in absurd (cc bad)
        | inr other ↦ so.kept b (sym (flag-set_other before.passed target b other) ∙ read)
      ]

  passed_more : flag_of ends target ≡ false → (b : ℕ) → flag_of after.passed b ≡ true → (flag_of closed b ≡ true) ⊎ (IsFound after.found b × (flag_of ends b ≡ false))
  passed_more no_end b some =
      elim (cases_eq b target) [
        | inl same ↦ inr (subst (λ (a : ℕ). IsFound after.found a) (sym same) target_found, ap (flag_of ends) same ∙ no_end)
        | inr other ↦
            let read : flag_of (set before.passed target true) b ≡ true = ap (λ (l : List Bool). flag_of l b) (sym is_met.passed) ∙ some in
            elim (so.passed b (sym (flag-set_other before.passed target b other) ∙ read)) [
              | inl is ↦ inl is
              | inr old ↦ inr (found_grows b old.0, old.1)
            ]
      ]

  pub search_more : at < length before.found → OpenEdge rows closed (met_at before.found at).node target → target < length before.passed → flag_of ends target ≡ false → IsSearch rows closed ends from after
  search_more low edge inside no_end =
      let less : suc (room (set before.passed target true)) ≡ room before.passed = room-set before.passed target inside is_met.new in
      let left : room after.passed ≡ room (set before.passed target true) = ap room is_met.passed in
      record {
        count = ap length is_met.passed ∙ (length-set before.passed target true ∙ so.count);
        first = ap (λ (m : Met). m.node) (front 0 so.some) ∙ so.first;
        some = omega (arith, longer);
        tree = record { before = tree_before low; edges = tree_edges low edge };
        kept = kept_more inside;
        passed = passed_more no_end;
        few = omega (arith, so.few, longer, less, left);
      }

  pub some_more : (items : List ℕ) (i : ℕ) → get_or items i 0 ≡ target → flag_of ends target ≡ false → FollowedSome closed ends before items i → FollowedSome closed ends after items (i + 1)
  some_more items i is no_end followed j low opened =
      elim (cases_lt j i) [
        | inl old ↦ let h = followed j old opened in (found_grows (get_or items j 0) h.0, h.1)
        | inr new ↦
            let same : j ≡ i = omega (arith, new, low) in
            let read : get_or items j 0 ≡ target = ap (λ (k : ℕ). get_or items k 0) same ∙ is in
            (subst (λ (a : ℕ). IsFound after.found a) (sym read) target_found, ap (flag_of ends) read ∙ no_end)
      ]

-- ---- or it was passed before
some_passed : (rows : List (List ℕ)) (closed ends : List Bool) (from : ℕ) (search : WaySearch) → IsSearch rows closed ends from search → (items : List ℕ) (i target : ℕ) → get_or items i 0 ≡ target → flag_of search.passed target ≡ true →
    FollowedSome closed ends search items i → FollowedSome closed ends search items (i + 1)
some_passed rows closed ends from search so items i target is passed followed j low opened =
    elim (cases_lt j i) [
      | inl old ↦ followed j old opened
      | inr new ↦
          let same : j ≡ i = omega (arith, new, low) in
          let read : get_or items j 0 ≡ target = ap (λ (k : ℕ). get_or items k 0) same ∙ is in
          elim (so.passed (get_or items j 0) (ap (flag_of search.passed) read ∙ passed)) [
            | inl bad ↦ let no : true ≡ false = sym bad ∙ opened in absurd (cc no)
            | inr found ↦ found
          ]
    ]

-- ---- the loops
pub record AtPlace (rows : List (List ℕ)) (closed ends : List Bool) (from : ℕ) (search : WaySearch) (at : ℕ) : Type 0 where
  pub so : IsSearch rows closed ends from search
  pub followed : Followed rows closed ends search at
  pub low : at ≤ length search.found

pub record AtEdge (rows : List (List ℕ)) (closed ends : List Bool) (from : ℕ) (search : WaySearch) (at node : ℕ) (items : List ℕ) (i : ℕ) : Type 0 where
  pub so : IsSearch rows closed ends from search
  pub followed : Followed rows closed ends search at
  pub low : at < length search.found
  pub node_is : (met_at search.found at).node ≡ node
  pub followed_some : FollowedSome closed ends search items i

-- an edge was followed that doesn't lead to an end
pub edge_followed : (rows : List (List ℕ)) (closed ends : List Bool) (from : ℕ) (before after : WaySearch) (at node : ℕ) (items : List ℕ) (i target : ℕ) → AtEdge rows closed ends from before at node items i → items ≡ row rows node → Contains items target → get_or items i 0 ≡ target → target < length rows →
    Meets ends at target before after false → AtEdge rows closed ends from after at node items (i + 1)
edge_followed rows closed ends from before after at node items i target is row_is has read inside (inl same) =
    subst (λ (s : WaySearch). AtEdge rows closed ends from s at node items (i + 1)) (sym same.1) (record {
      so = is.so;
      followed = is.followed;
      low = is.low;
      node_is = is.node_is;
      followed_some = some_passed rows closed ends from before is.so items i target read same.0 is.followed_some;
    })
edge_followed rows closed ends from before after at node items i target is row_is has read inside (inr (no_end, is_met)) =
    let edge : Edge rows (met_at before.found at).node target = subst (λ (a : ℕ). Contains (row rows a) target) (sym is.node_is) (subst (λ (l : List ℕ). Contains l target) row_is has) in
    let opened : flag_of closed target ≡ false = is.so.kept target is_met.new in
    let within : target < length before.passed = omega (arith, inside, is.so.count) in
    let same = front rows closed ends from at target before after is.so is_met at is.low in
    record {
      so = search_more rows closed ends from at target before after is.so is_met is.low (edge, opened) within no_end;
      followed = followed_grows rows closed ends from at target before after is.so is_met is.low is.followed;
      low = omega (arith, is.low, longer rows closed ends from at target before after is.so is_met);
      node_is = ap (λ (m : Met). m.node) same ∙ is.node_is;
      followed_some = some_more rows closed ends from at target before after is.so is_met items i read no_end is.followed_some;
    }

-- all edges from a node were followed
pub node_followed : (rows : List (List ℕ)) (closed ends : List Bool) (from : ℕ) (search : WaySearch) (at node : ℕ) (items : List ℕ) (i : ℕ) → AtEdge rows closed ends from search at node items i → items ≡ row rows node → length items ≤ i → AtPlace rows closed ends from search (at + 1)
node_followed rows closed ends from search at node items i is row_is past = record {
  so = is.so;
  low = omega (arith, is.low);
  followed = λ k b h edge. elim (cases_lt k at) [
    | inl old ↦ is.followed k b old edge
    | inr new ↦
        let same : k ≡ at = omega (arith, new, h) in
        let in_row : Contains (row rows node) b = subst (λ (a : ℕ). Contains (row rows a) b) (ap (λ (j : ℕ). (met_at search.found j).node) same ∙ is.node_is) edge.0 in
        let held : Contains items b = subst (λ (l : List ℕ). Contains l b) (sym row_is) in_row in
        let read : get_or items held.0 0 ≡ b = sym (get_or_default_zero items held.0 b held.1) ∙ held.2 in
        let opened : flag_of closed (get_or items held.0 0) ≡ false = ap (flag_of closed) read ∙ edge.1 in
        subst (λ (a : ℕ). IsFound search.found a × (flag_of ends a ≡ false)) read (is.followed_some held.0 (omega (arith, held.1, past)) opened)
  ];
}

-- no way leads to an end
pub no_way : (rows : List (List ℕ)) (closed ends : List Bool) (from : ℕ) (search : WaySearch) (at : ℕ) → AtPlace rows closed ends from search at → length search.found ≤ at → NoWayTo (OpenEdge rows closed) ends from
no_way rows closed ends from search at is past along to leads some flagged = goes along from (0, is.so.some, is.so.first) leads some
  where
    goes : (along : List ℕ) (a : ℕ) → IsFound search.found a → LeadsBy (OpenEdge rows closed) a along to → 0 < length along → ⊥
    goes [] a found leads some = absurd (omega (arith, some))
    goes (x ∷ []) a (k, low, node_is) leads some =
        let next = is.followed k x (omega (arith, low, past)) (subst (λ (n : ℕ). OpenEdge rows closed n x) (sym node_is) leads.0) in
        let at_end : flag_of ends x ≡ true = ap (flag_of ends) leads.1 ∙ flagged in
        let no : true ≡ false = sym at_end ∙ next.1 in
        cc no
    goes (x ∷ y ∷ xs) a (k, low, node_is) leads some =
        let next = is.followed k x (omega (arith, low, past)) (subst (λ (n : ℕ). OpenEdge rows closed n x) (sym node_is) leads.0) in
        goes (y ∷ xs) x next.0 leads.1 (omega arith)

-- ---- the way back
pub walk_begun : (E : ℕ → ℕ → Type 0) (a b : ℕ) (none one two : List ℕ) → none ≡ [] → one ≡ none ++ b ∷ [] → two ≡ one ++ a ∷ [] → E a b → IsWalk E a b (reverse two)
walk_begun E a b none one two is_none is_one is_two edge =
    let all : two ≡ b ∷ a ∷ [] = is_two ∙ ap (λ (l : List ℕ). l ++ a ∷ []) (is_one ∙ ap (λ (l : List ℕ). l ++ b ∷ []) is_none) in
    subst (λ (l : List ℕ). IsWalk E a b (reverse l)) (sym all) (record { after = b ∷ []; nodes_are = refl; leads = (edge, refl) })

pub walk_more : (E : ℕ → ℕ → Type 0) (a b to : ℕ) (nodes more : List ℕ) → more ≡ nodes ++ a ∷ [] → IsWalk E b to (reverse nodes) → E a b → IsWalk E a to (reverse more)
walk_more E a b to nodes more is walk edge = record {
  after = b ∷ walk.after;
  nodes_are = ap reverse is ∙ (reverse-append nodes (a ∷ []) ∙ ap (λ (l : List ℕ). a ∷ l) walk.nodes_are);
  leads = (edge, walk.leads);
}

-- ---- what is read
pub node_read : (read found : List Met) (k : ℕ) → read ≡ found → (met_at found k).node ≡ (get_or read k (met 0 0)).node
unfolding met_at
node_read read found k same = ap (λ (l : List Met). (get_or l k (met 0 0)).node) (sym same)

pub target_inside : (rows : List (List ℕ)) → InRange rows → (node : ℕ) (items : List ℕ) → items ≡ row rows node → (i : ℕ) → i < length items → get_or items i 0 < length rows
target_inside rows ranged node items is i low = ranged node (get_or items i 0) (subst (λ (l : List ℕ). Contains l (get_or items i 0)) is (Contains-get_or items i 0 low))
