-- What the nodes of components give together, one after another.
use Rattle.std.proofs.Common.{◌≡◌, ◌≢◌, ℕ, ◌+◌, ◌<◌, ◌≤◌, ◌⊎◌, inl, inr, List, [], ◌∷◌, ◌++◌, length, take, get_or, slice_get, Some, None, sym, ap, ◌∙◌, subst, arith}
use Rattle.std.specs.List.{Contains}
use Rattle.std.specs.Option.{option_map}
use Rattle.std.proofs.lemmas.Bool.{cases_eq}
use Rattle.std.proofs.lemmas.List.{take_more, take_all, length_push, length-map, get_or_append_left, get_or_push}
use Rattle.std.proofs.lemmas.List.Elements.{Contains-push, Contains-push_cases, Contains-append_left, Contains-append_right, Contains-append_cases}
use Rattle.std.proofs.lemmas.Option.{none-some, slice_get-get_or, slice_get-map, get_or_from_slice_get}
use Rattle.effect_scan.specs.declared.node.Node.{Node}
use Rattle.effect_scan.specs.declared.node.Member.TheVariants.{Destruction}
use Rattle.effect_scan.specs.Rows.{row, Edge}
use Rattle.effect_scan.specs.Scans.{Scanned}
use Rattle.effect_scan.proofs.Adding.{row_found}
use Rattle.rank_graph.proofs.Driving.{edge_inside}
use Rattle.rank_make.specs.Solved.{own_of, own_rows}
use Rattle.settling_make.specs.Components.{number_of}
use Rattle.settling_make.specs.Collected.{LeadsOut, Adds, IsCollected, AreCollected}

-- ---- what one node gives
-- by the first of its edges
pub record AddsTo (numbers : List ℕ) (k : ℕ) (targets before : List ℕ) (end : ℕ) (now : List ℕ) : Type 0 where
  pub kept : (j : ℕ) → Contains before j → Contains now j
  pub added : (to : ℕ) → Contains (take end targets) to → number_of numbers to ≢ k → Contains now (number_of numbers to)
  pub only : (j : ℕ) → Contains now j → Contains before j ⊎ ((to : ℕ) × Contains targets to × (number_of numbers to ≡ j) × (j ≢ k))

pub adds_none : (numbers : List ℕ) (k : ℕ) (targets before : List ℕ) → AddsTo numbers k targets before 0 before
adds_none numbers k targets before = record { kept = λ j h. h; added = λ to h other. absurd (omega (arith, h.1)); only = λ j h. inl h }

module _ (numbers : List ℕ) (k : ℕ) (targets before : List ℕ) (end t : ℕ) (more : end < length targets) (is : get_or targets end 0 ≡ t) where
  longer : take (end + 1) targets ≡ take end targets ++ t ∷ []
  longer = take_more targets end 0 more ∙ ap (λ (n : ℕ). take end targets ++ n ∷ []) is

  target : Contains targets t
  target = (end, more, get_or_from_slice_get targets end t t (slice_get-get_or targets end 0 more ∙ ap (λ (n : ℕ). Some n) is))

  pub adds_yes : (j : ℕ) (now after : List ℕ) → j ≡ number_of numbers t → j ≢ k → after ≡ now ++ j ∷ [] → AddsTo numbers k targets before end now → AddsTo numbers k targets before (end + 1) after
  adds_yes j now after number other pushed to = record {
    kept = λ i h. subst (λ (l : List ℕ). Contains l i) (sym pushed) (Contains-append_left now (j ∷ []) i (to.kept i h));
    added = λ b h apart.
        subst (λ (l : List ℕ). Contains l (number_of numbers b)) (sym pushed)
        (elim (Contains-push_cases (take end targets) t b (subst (λ (l : List ℕ). Contains l b) longer h)) [
          | inl old ↦ Contains-append_left now (j ∷ []) (number_of numbers b) (to.added b old apart)
          | inr same ↦ subst (λ (i : ℕ). Contains (now ++ j ∷ []) i) (number ∙ ap (number_of numbers) same) (Contains-push now j)
        ]);
    only = λ i h.
        elim (Contains-push_cases now j i (subst (λ (l : List ℕ). Contains l i) pushed h)) [
          | inl old ↦ to.only i old
          | inr same ↦ inr (t, target, sym number ∙ same, λ e. other (same ∙ e))
        ];
  }

  pub adds_no : (now : List ℕ) → number_of numbers t ≡ k → AddsTo numbers k targets before end now → AddsTo numbers k targets before (end + 1) now
  adds_no now inside to = record {
    kept = to.kept;
    added = λ b h apart.
        elim (Contains-push_cases (take end targets) t b (subst (λ (l : List ℕ). Contains l b) longer h)) [
          | inl old ↦ to.added b old apart
          | inr same ↦ absurd (apart (ap (number_of numbers) (sym same) ∙ inside))
        ];
    only = to.only;
  }

pub adds_all : (rows : List (List ℕ)) (numbers : List ℕ) (k a : ℕ) (targets before : List ℕ) (end : ℕ) (now : List ℕ) → targets ≡ row rows a → length targets ≤ end → AddsTo numbers k targets before end now → Adds (LeadsOut rows numbers k) a before now
adds_all rows numbers k a targets before end now same past to =
    let whole : take end targets ≡ row rows a = take_all end targets past ∙ same in
    record {
      kept = to.kept;
      added = λ j out.
          subst (λ (i : ℕ). Contains now i) out.is
          (to.added out.to (subst (λ (l : List ℕ). Contains l out.to) (sym whole) out.edge) (λ e. out.other (sym out.is ∙ e)));
      only = λ j h.
          elim (to.only j h) [
            | inl old ↦ inl old
            | inr new ↦ inr (record { to = new.0; edge = subst (λ (l : List ℕ). Contains l new.0) same new.1; is = new.2; other = new.3 })
          ];
    }

-- ---- what several nodes give
module _ (P : ℕ → ℕ → Type 0) where
  pub collected_none : (members none : List ℕ) → none ≡ [] → IsCollected P (take 0 members) none
  collected_none members none empty = record {
    given = λ j h. let bad : Contains [] j = subst (λ (l : List ℕ). Contains l j) empty h in absurd (omega (arith, bad.1));
    each = λ a j h gives. absurd (omega (arith, h.1));
  }

  pub collected_more : (members : List ℕ) (end a : ℕ) (found after : List ℕ) → end < length members → get_or members end 0 ≡ a → Adds P a found after → IsCollected P (take end members) found → IsCollected P (take (end + 1) members) after
  collected_more members end a found after more is adds to =
      let longer : take (end + 1) members ≡ take end members ++ a ∷ [] = take_more members end 0 more ∙ ap (λ (n : ℕ). take end members ++ n ∷ []) is in
      record {
        given = λ j h.
            elim (adds.only j h) [
              | inl old ↦
                  let x = to.given j old in
                  (x.0, subst (λ (l : List ℕ). Contains l x.0) (sym longer) (Contains-append_left (take end members) (a ∷ []) x.0 x.1), x.2)
              | inr new ↦ (a, subst (λ (l : List ℕ). Contains l a) (sym longer) (Contains-push (take end members) a), new)
            ];
        each = λ b j h gives.
            elim (Contains-push_cases (take end members) a b (subst (λ (l : List ℕ). Contains l b) longer h)) [
              | inl old ↦ adds.kept j (to.each b j old gives)
              | inr same ↦ adds.added j (subst (λ (n : ℕ). P n j) (sym same) gives)
            ];
      }

  pub collected_all : (members given : List ℕ) (end : ℕ) (found : List ℕ) → given ≡ members → length given ≤ end → IsCollected P (take end given) found → IsCollected P members found
  collected_all members given end found same past to = subst (λ (l : List ℕ). IsCollected P l found) (take_all end given past ∙ same) to

-- ---- what each component gives
pub record CollectedTo (P : ℕ → ℕ → ℕ → Type 0) (sets : List (List ℕ)) (end : ℕ) (found : List (List ℕ)) : Type 0 where
  pub count : length found ≡ end
  pub each : (k : ℕ) → k < end → IsCollected (P k) (row sets k) (row found k)

module _ (P : ℕ → ℕ → ℕ → Type 0) (sets : List (List ℕ)) where
  pub sets_none : (none : List (List ℕ)) → none ≡ [] → CollectedTo P sets 0 none
  sets_none none empty = record { count = ap (λ (l : List (List ℕ)). length l) empty; each = λ k low. absurd (omega arith) }

  pub sets_more : (end : ℕ) (found after : List (List ℕ)) (now : List ℕ) → after ≡ found ++ now ∷ [] → IsCollected (P end) (row sets end) now → CollectedTo P sets end found → CollectedTo P sets (end + 1) after
  unfolding row
  sets_more end found after now pushed gives to = record {
    count = let sum = length_push found now in let count = ap (λ (l : List (List ℕ)). length l) pushed in let before = to.count in omega arith;
    each = λ k low.
        elim (cases_eq k end) [
          | inl same ↦
              let here : get_or after k [] ≡ now = ap (λ (l : List (List ℕ)). get_or l k []) pushed ∙ get_or_push found now [] k (to.count ∙ sym same) in
              subst (λ (r : List ℕ). IsCollected (P k) (row sets k) r) (sym here) (subst (λ (n : ℕ). IsCollected (P n) (row sets n) now) (sym same) gives)
          | inr ne ↦
              let inside : k < length found = let before = to.count in omega arith in
              let here : get_or after k [] ≡ get_or found k [] = ap (λ (l : List (List ℕ)). get_or l k []) pushed ∙ get_or_append_left found (now ∷ []) [] k inside in
              subst (λ (r : List ℕ). IsCollected (P k) (row sets k) r) (sym here) (to.each k (omega arith))
        ];
  }

  pub sets_all : (end : ℕ) (found : List (List ℕ)) → end ≡ length sets → CollectedTo P sets end found → AreCollected P sets found
  sets_all end found is to = record { count = to.count ∙ is; each = λ k low. to.each k (omega arith) }

-- ---- what a node destroys itself
module _ (scan : Scanned) (nodes : List Node) (a : ℕ) (same : nodes ≡ scan.nodes) where
  own_here : (x : Node) → Some x ≡ slice_get nodes a → row (own_rows scan) a ≡ own_of scan.closures x
  own_here x there =
      let at : slice_get scan.nodes a ≡ Some x = ap (λ (ns : List Node). slice_get ns a) (sym same) ∙ sym there in
      sym (row_found (own_rows scan) a (own_of scan.closures x) (slice_get-map (own_of scan.closures) scan.nodes a ∙ ap (option_map (own_of scan.closures)) at))

  pub own_added : (x : Node) (own before after : List ℕ) → Some x ≡ slice_get nodes a → own ≡ own_of scan.closures x → after ≡ before ++ own → Adds (Edge (own_rows scan)) a before after
  own_added x own before after there is joined =
      let mine : row (own_rows scan) a ≡ own = own_here x there ∙ sym is in
      record {
        kept = λ j h. subst (λ (l : List ℕ). Contains l j) (sym joined) (Contains-append_left before own j h);
        added = λ j gives. subst (λ (l : List ℕ). Contains l j) (sym joined) (Contains-append_right before own j (subst (λ (l : List ℕ). Contains l j) mine gives));
        only = λ j h.
            elim (Contains-append_cases before own j (subst (λ (l : List ℕ). Contains l j) joined h)) [
              | inl old ↦ inl old
              | inr new ↦ inr (subst (λ (l : List ℕ). Contains l j) (sym mine) new)
            ];
      }

  pub own_past : (before after : List ℕ) → None ≡ slice_get nodes a → after ≡ before → Adds (Edge (own_rows scan)) a before after
  own_past before after there joined = record {
    kept = λ j h. subst (λ (l : List ℕ). Contains l j) (sym joined) h;
    added = λ j gives. absurd (none j gives);
    only = λ j h. inl (subst (λ (l : List ℕ). Contains l j) joined h);
  }
    where
      none : (j : ℕ) → ¬ Edge (own_rows scan) a j
      none j gives =
          let low = edge_inside (own_rows scan) a j gives in
          let count = length-map scan.nodes (own_of scan.closures) in
          let same_count = ap (λ (ns : List Node). length ns) same in
          let inside : a < length nodes = omega arith in
          let d : Node = record { class = 0; member = Destruction } in
          none-some (get_or nodes a d) (there ∙ slice_get-get_or nodes a d inside)
