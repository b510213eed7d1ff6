-- A cycle from another of its nodes on.
use Rattle.std.proofs.Common.{◌≡◌, ℕ, ◌+◌, ◌-◌, ◌<◌, ◌≤◌, inl, inr, List, [], ◌∷◌, ◌++◌, length, get_or, take, drop, refl, sym, ap, ◌∙◌, subst, arith}
use Rattle.std.specs.List.{Contains}
use Rattle.std.proofs.lemmas.List.{append-nil, append_assoc, take-append-drop, get_or_append_left, get_or-drop, length-append, length-drop, take_more, get_or_default, take_rest}
use Rattle.std.proofs.lemmas.List.Elements.{Contains-append_left, Contains-append_right, Contains-append_cases}
use Rattle.effect_scan.specs.Rows.{Edge}
use Rattle.rank_graph.specs.Graphs.{IsToldCycle}
use Rattle.rank_graph.specs.Searching.{LeadsRound}
use Rattle.rank_graph.specs.Walks.{LeadsBy, AreDistinct}
use Rattle.rank_graph.proofs.Distinct.{swapped}

pub leads_split : (rows : List (List ℕ)) (a : ℕ) (xs : List ℕ) (b : ℕ) (ys : List ℕ) (c : ℕ) → LeadsBy (Edge rows) a (xs ++ b ∷ ys) c → LeadsBy (Edge rows) a (xs ++ b ∷ []) b × LeadsBy (Edge rows) b ys c
leads_split rows a [] b ys c l = ((l.0, refl), l.1)
leads_split rows a (x ∷ xs) b ys c l = let r = leads_split rows x xs b ys c l.1 in ((l.0, r.0), r.1)

pub leads_join : (rows : List (List ℕ)) (a : ℕ) (xs : List ℕ) (b : ℕ) (ys : List ℕ) (c : ℕ) → LeadsBy (Edge rows) a (xs ++ b ∷ []) b → LeadsBy (Edge rows) b ys c → LeadsBy (Edge rows) a (xs ++ b ∷ ys) c
leads_join rows a [] b ys c l m = (l.0, m)
leads_join rows a (x ∷ xs) b ys c l m = (l.0, leads_join rows x xs b ys c l.1 m)

pub turned : (rows : List (List ℕ)) (xs ys : List ℕ) → LeadsRound rows (xs ++ ys) → LeadsRound rows (ys ++ xs)
turned rows [] ys h = subst (LeadsRound rows) (sym (append-nil ys)) h
turned rows (a ∷ xs) [] h = subst (LeadsRound rows) (append-nil (a ∷ xs)) h
turned rows (a ∷ xs) (b ∷ ys) h =
    let l : LeadsBy (Edge rows) a (xs ++ b ∷ (ys ++ a ∷ [])) a = subst (λ (w : List ℕ). LeadsBy (Edge rows) a w a) (append_assoc xs (b ∷ ys) (a ∷ [])) h in
    let r = leads_split rows a xs b (ys ++ a ∷ []) a l in
    subst (λ (w : List ℕ). LeadsBy (Edge rows) b w b) (sym (append_assoc ys (a ∷ xs) (b ∷ []))) (leads_join rows b ys a (xs ++ b ∷ []) b r.1 r.0)

turned_at : (rows : List (List ℕ)) (nodes all : List ℕ) (p : ℕ) → all ≡ drop p nodes ++ take p nodes → LeadsRound rows nodes → LeadsRound rows all
turned_at rows nodes all p e h =
    let split : LeadsRound rows (take p nodes ++ drop p nodes) = subst (LeadsRound rows) (sym (take-append-drop p nodes)) h in
    subst (LeadsRound rows) (sym e) (turned rows (take p nodes) (drop p nodes) split)

once_at : (nodes all : List ℕ) (p : ℕ) → all ≡ drop p nodes ++ take p nodes → AreDistinct nodes → AreDistinct all
once_at nodes all p e h =
    let split : AreDistinct (take p nodes ++ drop p nodes) = subst AreDistinct (sym (take-append-drop p nodes)) h in
    subst AreDistinct (sym e) (swapped (take p nodes) (drop p nodes) split)

-- the first of the nodes after turning
first_at : (nodes : List ℕ) (p : ℕ) → p < length nodes → get_or (drop p nodes ++ take p nodes) 0 0 ≡ get_or nodes p 0
first_at nodes p inside =
    get_or_append_left (drop p nodes) (take p nodes) 0 0 (rw length-drop (omega arith)) ∙ get_or-drop p nodes 0 0 ∙ ap (λ (i : ℕ). get_or nodes i 0) (omega arith)

begins_least : (nodes all : List ℕ) (p : ℕ) → all ≡ drop p nodes ++ take p nodes → p < length nodes → ((k : ℕ) → k < length nodes → get_or nodes p 0 ≤ get_or nodes k 0) → (b : ℕ) → Contains all b → get_or all 0 0 ≤ b
begins_least nodes all p e inside least = λ b has.
    let back : Contains (take p nodes ++ drop p nodes) b =
    elim (Contains-append_cases (drop p nodes) (take p nodes) b (subst (λ (l : List ℕ). Contains l b) e has)) [
      | inl x ↦ Contains-append_right (take p nodes) (drop p nodes) b x
      | inr x ↦ Contains-append_left (take p nodes) (drop p nodes) b x
    ] in
    let there : Contains nodes b = subst (λ (l : List ℕ). Contains l b) (take-append-drop p nodes) back in
    let low : get_or nodes p 0 ≤ get_or nodes there.0 0 = least there.0 there.1 in
    let same : get_or nodes there.0 0 ≡ b = get_or_default nodes there.0 0 b there.1 ∙ there.2 in
    let head : get_or all 0 0 ≡ get_or nodes p 0 = ap (λ (l : List ℕ). get_or l 0 0) e ∙ first_at nodes p inside in
    omega arith

-- with its first node again at the end it is reported whole
closed : (rows : List (List ℕ)) (all told : List ℕ) → told ≡ all ++ get_or all 0 0 ∷ [] → LeadsRound rows all → AreDistinct all → ((b : ℕ) → Contains all b → get_or all 0 0 ≤ b) → IsToldCycle rows told
closed rows [] told e round once least = absurd round
closed rows (a ∷ xs) told e round once least =
    let count = length-append xs (a ∷ []) in
    subst (IsToldCycle rows) (sym e) (record {
      first = a;
      cycle = record {
        comes_back = record { walk = record { after = xs ++ a ∷ []; nodes_are = refl; leads = round }; some = omega arith };
        once = swapped (a ∷ []) xs once;
      };
      earliest = λ b held.
          elim (Contains-append_cases (a ∷ xs) (a ∷ []) b held) [
            | inl old ↦ least b old
            | inr last ↦ least b (Contains-append_left (a ∷ []) xs b last)
          ];
    })

-- the second part that is put behind the first one closes it
closing : (nodes : List ℕ) (p : ℕ) (told : List ℕ) → p < length nodes → told ≡ drop p nodes ++ take (p + 1) nodes → told ≡ (drop p nodes ++ take p nodes) ++ get_or (drop p nodes ++ take p nodes) 0 0 ∷ []
closing nodes p told inside e =
    e ∙ ap (λ (l : List ℕ). drop p nodes ++ l) (take_more nodes p 0 inside) ∙ sym (append_assoc (drop p nodes) (take p nodes) (get_or nodes p 0 ∷ []))
    ∙ ap (λ (n : ℕ). (drop p nodes ++ take p nodes) ++ n ∷ []) (sym (first_at nodes p inside))

pub told_from : (rows : List (List ℕ)) (nodes told : List ℕ) (p : ℕ) → p < length nodes → ((k : ℕ) → k < length nodes → get_or nodes p 0 ≤ get_or nodes k 0) → told ≡ drop p nodes ++ take (p + 1) nodes → LeadsRound rows nodes → AreDistinct nodes → IsToldCycle rows told
told_from rows nodes told p inside least e round once =
    closed rows (drop p nodes ++ take p nodes) told (closing nodes p told inside e) (turned_at rows nodes (drop p nodes ++ take p nodes) p refl round) (once_at nodes (drop p nodes ++ take p nodes) p refl once)
    (begins_least nodes (drop p nodes ++ take p nodes) p refl inside least)

pub joined : (nodes : List ℕ) (p : ℕ) {b c d : List ℕ} → d ≡ c ++ take (p + 1) nodes → c ≡ b ++ take (length nodes - p) (drop p nodes) → b ≡ [] → d ≡ drop p nodes ++ take (p + 1) nodes
joined nodes p e f rows = e ∙ ap (λ (l : List ℕ). l ++ take (p + 1) nodes) (f ∙ ap (λ (l : List ℕ). l ++ take (length nodes - p) (drop p nodes)) rows ∙ take_rest nodes p)
