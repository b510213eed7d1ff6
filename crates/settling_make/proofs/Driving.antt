-- A search of all nodes.
use Rattle.std.proofs.Common.{◌≡◌, ℕ, zero, suc, ◌+◌, ◌≤◌, ◌<◌, inl, inr, List, [], length, map, replicate, get_or, slice_get, unwrap_or, Option, None, Some, refl, sym, ap, ◌∙◌, subst, arith}
use Rattle.std.proofs.lemmas.Bool.{cases_eq, cases_lt}
use Rattle.std.proofs.lemmas.List.{get_or_past, length-map, get_or-map, get_or-replicate, length-replicate}
use Rattle.std.proofs.lemmas.Option.{get_or_from_slice_get, unwrap_or-slice_get}
use Rattle.effect_scan.specs.Rows.{row, Edge}
use Rattle.rank_graph.proofs.Driving.{edge_inside}
use Rattle.settling_make.specs.Components.{number_of, AreComponents}
use Rattle.settling_make.specs.Searching.{state_of, IsDone, AllDone, room, AreLeft, Between, Visited}
use Rattle.settling_make.specs.declared.groups.SearchState.{SearchState}
use Rattle.settling_make.specs.declared.groups.SearchState.TheVariants.{New, Open, Done}
use Rattle.settling_make.specs.declared.components.Components.{Components}
use Rattle.settling_make.specs.declared.search.ComponentSearch.{ComponentSearch}
use Rattle.settling_make.proofs.States.{done_inside}

-- nothing was entered yet
all_new : (count a : ℕ) → state_of (replicate count New) a ≡ New
unfolding state_of
all_new count a =
    elim (cases_lt a count) [
      | inl l ↦ get_or-replicate count a New New l
      | inr m ↦ get_or_past (replicate count New) a New (let long = length-replicate {A = SearchState} count New in omega arith)
    ]

room_all : (count : ℕ) → room (replicate count New) ≡ count
room_all zero = refl
room_all (suc n) = ap suc (room_all n)

pub fresh_between : (rows : List (List ℕ)) (found : ComponentSearch) → found.states ≡ replicate (length rows) New → found.sets ≡ [] → found.entered ≡ 0 → Between rows found
unfolding row
fresh_between rows found states sets entered = record {
  left = record {
    count = ap (λ (l : List SearchState). length l) states ∙ length-replicate (length rows) New;
    falls = λ a b k is e. absurd (none a (Done k) is (λ bad. cc));
    together = λ a b k is e. absurd (none a (Done k) is (λ bad. cc));
    members = λ a k. (λ e. let inside = edge_inside found.sets k a e in let count = ap (λ (l : List (List ℕ)). length l) sets in absurd (omega arith), λ is. absurd (none a (Done k) is (λ bad. cc)));
    early = λ a t is. absurd (none a (Open t) is (λ bad. cc));
    few = let all = ap (λ (l : List SearchState). room l) states ∙ room_all (length rows) in omega arith;
  };
  closed = λ a t is. none a (Open t) is (λ bad. cc);
}
  where
    none : (a : ℕ) (s : SearchState) → state_of found.states a ≡ s → (New ≡ s → ⊥) → ⊥
    none a s is ne = ne (sym (ap (λ (l : List SearchState). state_of l a) states ∙ all_new (length rows) a) ∙ is)

-- ---- one root after another
pub record Come (rows : List (List ℕ)) (root : ℕ) (found : ComponentSearch) : Type 0 where
  pub between : Between rows found
  pub done : (a : ℕ) → a < root → IsDone found.states a

done_from : (states : List SearchState) (a : ℕ) (s : SearchState) → state_of states a ≡ s → (s ≡ New → ⊥) → ((t : ℕ) → s ≡ Open t → ⊥) → IsDone states a
done_from states a New is begun closed = absurd (begun refl)
done_from states a (Open t) is begun closed = absurd (closed t refl)
done_from states a (Done k) is begun closed = (k, is)

pub come_visit : (rows : List (List ℕ)) (root : ℕ) (before after : ComponentSearch) → Come rows root before → Visited rows before root after → Come rows (root + 1) after
come_visit rows root before after c v = record {
  between = v.between;
  done = λ a h.
      elim (cases_eq a root) [
        | inl e ↦ subst (λ (x : ℕ). IsDone after.states x) (sym e) (done_from after.states root (state_of after.states root) refl v.since.begun (λ t is. v.between.closed root t is))
        | inr ne ↦ let d = c.done a (omega arith) in (d.0, v.since.grows a d.0 d.1)
      ];
}

pub come_past : (rows : List (List ℕ)) (root : ℕ) (found : ComponentSearch) → Come rows root found → (state_of found.states root ≡ New → ⊥) → Come rows (root + 1) found
come_past rows root found c old = record {
  between = c.between;
  done = λ a h.
      elim (cases_eq a root) [
        | inl e ↦ subst (λ (x : ℕ). IsDone found.states x) (sym e) (done_from found.states root (state_of found.states root) refl old (λ t is. c.between.closed root t is))
        | inr ne ↦ c.done a (omega arith)
      ];
}

pub come_none : (rows : List (List ℕ)) (found : ComponentSearch) → found.states ≡ replicate (length rows) New → found.sets ≡ [] → found.entered ≡ 0 → Come rows 0 found
come_none rows found states sets entered = record { between = fresh_between rows found states sets entered; done = λ a h. absurd (omega arith) }

pub come_all : (rows : List (List ℕ)) (root : ℕ) (found : ComponentSearch) → length rows ≤ root → Come rows root found → Between rows found × AllDone found.states
come_all rows root found past c = (c.between, λ a h. c.done a (omega (arith, c.between.left.count)))

-- ---- the number that is read
pub number_here : (numbers given : List ℕ) (a k : ℕ) → given ≡ numbers → Some k ≡ slice_get given a → k ≡ number_of numbers a
unfolding number_of
number_here numbers given a k same there = sym (get_or_from_slice_get numbers a k 0 (ap (λ (l : List ℕ). slice_get l a) (sym same) ∙ sym there))

pub number_past : (numbers given : List ℕ) (a : ℕ) → given ≡ numbers → None ≡ slice_get given a → 0 ≡ number_of numbers a
unfolding number_of
number_past numbers given a same there =
    let none : slice_get numbers a ≡ None = ap (λ (l : List ℕ). slice_get l a) (sym same) ∙ sym there in
    sym (sym (unwrap_or-slice_get numbers a 0) ∙ ap (λ (o : Option ℕ). unwrap_or o 0) none)

-- ---- all nodes were left
module _ (rows : List (List ℕ)) (walked : ComponentSearch) (found : Components) (left : AreLeft rows walked) (all : AllDone walked.states) (numbers : map Done found.numbers ≡ walked.states) (sets : found.sets ≡ walked.sets) where
  count : length found.numbers ≡ length rows
  count = sym (length-map found.numbers Done) ∙ ap (λ (l : List SearchState). length l) numbers ∙ left.count

  state_is : (a : ℕ) → a < length rows → state_of walked.states a ≡ Done (number_of found.numbers a)
  unfolding state_of number_of
  state_is a inside = ap (λ (l : List SearchState). get_or l a New) (sym numbers) ∙ get_or-map Done found.numbers a 0 New (omega (arith, count))

  state_number : (a k : ℕ) → state_of walked.states a ≡ Done k → (a < length rows) × (number_of found.numbers a ≡ k)
  state_number a k is =
      let inside : a < length rows = let low = done_inside walked.states a k is in omega (arith, left.count) in
      let same : Done (number_of found.numbers a) ≡ Done k = sym (state_is a inside) ∙ is in
      (inside, cc)

  pub found_components : AreComponents rows found
  found_components = record {
    count = count;
    falls = λ a b e.
        let inside = edge_inside rows a b e in
        let x = left.falls a b (number_of found.numbers a) (state_is a inside) e in
        let same = (state_number b x.0 x.1).1 in
        let less = x.2 in
        omega arith;
    together = λ a b x y same. left.together a b (number_of found.numbers a) (state_is a x) (state_is b y ∙ ap (λ (k : ℕ). Done k) (sym same));
    members = λ a k. (
      λ e. state_number a k ((left.members a k).0 (subst (λ (l : List (List ℕ)). Edge l k a) sets e)),
      λ is. subst (λ (l : List (List ℕ)). Edge l k a) (sym sets) ((left.members a k).1 (state_is a is.0 ∙ ap (λ (n : ℕ). Done n) is.1)),
    );
  }
