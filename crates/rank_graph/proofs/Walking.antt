-- Walks along edges.
use Rattle.std.proofs.Common.{◌≡◌, ℕ, suc, ◌+◌, ◌*◌, ◌-◌, ◌/◌, ◌%◌, ◌≤◌, ◌<◌, eqb, Bool, true, false, inl, inr, List, [], ◌∷◌, ◌++◌, length, get_or, slice_get, unwrap_or, Option, None, Some, refl, sym, ap, ◌∙◌, subst, arith}
use Rattle.std.specs.List.{Contains, list_any}
use Rattle.std.proofs.lemmas.Bool.{false≢true, cases_lt}
use Rattle.std.proofs.lemmas.List.{get_or_past}
use Rattle.std.proofs.lemmas.Option.{get_or_from_slice_get, unwrap_or-slice_get}
use Rattle.effect_scan.specs.Rows.{row, Edge}
use Rattle.effect_scan.proofs.Containing.{any_has}
use Rattle.rank_graph.specs.declared.bits.TheConstants.{SIZE}
use Rattle.rank_graph.specs.declared.path.NodeRank.{NodeRank}
use Rattle.rank_graph.specs.declared.solution.Solution.{Solution}
use Rattle.rank_graph.specs.Walks.{LeadsBy, IsWalk, AreDistinct}
use Rattle.rank_graph.specs.Entries.{leads_at}
use Rattle.rank_graph.specs.Solutions.{AreRanks, AreClasses, entries_of, leads_of}
use Rattle.rank_graph.proofs.Distinct.{cons_cases}
use Rattle.rank_graph.proofs.Searching.{leads_push}

-- ---- what a solution tells of a node
pub entry_found : (s : Solution) (g a : ℕ) (gs : List (List NodeRank)) (es seen : List NodeRank) (o : Option NodeRank) → gs ≡ s.groups → Some es ≡ slice_get gs g → seen ≡ es → o ≡ slice_get seen a → o ≡ slice_get (entries_of s g) a
unfolding entries_of
entry_found s g a gs es seen o whole is same found =
    let there : slice_get s.groups g ≡ Some es = sym (is ∙ ap (λ (l : List (List NodeRank)). slice_get l g) whole) in
    found ∙ ap (λ (l : List NodeRank). slice_get l a) (same ∙ sym (get_or_from_slice_get s.groups g es [] there))

pub entry_none : (s : Solution) (g a : ℕ) (gs : List (List NodeRank)) (o : Option NodeRank) → o ≡ None → gs ≡ s.groups → None ≡ slice_get gs g → o ≡ slice_get (entries_of s g) a
unfolding entries_of
entry_none s g a gs o e whole is =
    let there : slice_get s.groups g ≡ None = sym (is ∙ ap (λ (l : List (List NodeRank)). slice_get l g) whole) in
    let none : get_or s.groups g [] ≡ [] = sym (unwrap_or-slice_get s.groups g []) ∙ ap (λ (x : Option (List NodeRank)). unwrap_or x []) there in
    e ∙ sym (ap (λ (l : List NodeRank). slice_get l a) none)

-- ---- a row
pub edge_of : (rows : List (List ℕ)) (a b : ℕ) (r : List ℕ) → r ≡ row rows a → Contains r b → Edge rows a b
edge_of rows a b r e h = subst (λ (x : List ℕ). Contains x b) e h

pub row_has : (rows : List (List ℕ)) (a b : ℕ) (r : List ℕ) → r ≡ row rows a → Edge rows a b → Contains r b
row_has rows a b r e h = subst (λ (x : List ℕ). Contains x b) (sym e) h

-- ---- walks
-- one more node of a walk
pub walk_step : (rows : List (List ℕ)) (from at b : ℕ) (r nodes more : List ℕ) → r ≡ row rows at → Contains r b → more ≡ nodes ++ b ∷ [] → IsWalk (Edge rows) from at nodes → IsWalk (Edge rows) from b more
walk_step rows from at b r nodes more e has pushed w =
    record {
      after = w.after ++ b ∷ [];
      nodes_are = pushed ∙ ap (λ (l : List ℕ). l ++ b ∷ []) w.nodes_are;
      leads = leads_push rows from w.after at b w.leads (edge_of rows at b r e has);
    }

-- ranks fall along edges
pub rank_falls : (rows : List (List ℕ)) (rank : ℕ → ℕ) (a b : ℕ) (r : List ℕ) → AreRanks rows rank → r ≡ row rows a → Contains r b → rank b < rank a
rank_falls rows rank a b r ranks e has =
    let chain = ranks.chains b in
    let h : length (b ∷ chain.0) ≤ rank a = ranks.longest a (b ∷ chain.0) chain.1 (edge_of rows a b r e has, chain.2) in
    omega (arith, chain.3)

-- so they are lower behind a walk's first node
low_behind : (rows : List (List ℕ)) (rank : ℕ → ℕ) → AreRanks rows rank → (a : ℕ) (ws : List ℕ) (b : ℕ) → LeadsBy (Edge rows) a ws b → (c : ℕ) → Contains ws c → rank c < rank a
low_behind rows rank ranks a [] b l c held = omega (arith, held.1)
low_behind rows rank ranks a (w ∷ ws) b l c held =
    let low = rank_falls rows rank a w (row rows a) ranks refl l.0 in
    elim (cons_cases w ws c held) [
      | inl e ↦ subst (λ (x : ℕ). rank x < rank a) e low
      | inr behind ↦ let lower = low_behind rows rank ranks w ws b l.1 c behind in omega arith
    ]

-- and it comes to no node twice
walk_once : (rows : List (List ℕ)) (rank : ℕ → ℕ) → AreRanks rows rank → (a : ℕ) (ws : List ℕ) (b : ℕ) → LeadsBy (Edge rows) a ws b → AreDistinct (a ∷ ws)
walk_once rows rank ranks a [] b l = (λ held. omega (arith, held.1), tt)
walk_once rows rank ranks a (w ∷ ws) b l =
    (λ held. let low = low_behind rows rank ranks a (w ∷ ws) b l a held in omega arith, walk_once rows rank ranks w ws b l.1)

pub walked_once : (rows : List (List ℕ)) (rank : ℕ → ℕ) (from at : ℕ) (nodes : List ℕ) → AreRanks rows rank → IsWalk (Edge rows) from at nodes → AreDistinct nodes
walked_once rows rank from at nodes ranks w = subst AreDistinct (sym w.nodes_are) (walk_once rows rank ranks from w.after at w.leads)

-- from a node without the class some edge leads on
pub leads_on : (rows own : List (List ℕ)) (leads : ℕ → ℕ → Bool) (a c : ℕ) → AreClasses rows own leads → (along : List ℕ) (to : ℕ) → LeadsBy (Edge rows) a along to → Edge own to c → (Edge own a c → ⊥) → ((b : ℕ) → Edge rows a b → leads b c ≡ false) → ⊥
leads_on rows own leads a c classes [] to l has lacks none = lacks (subst (λ (x : ℕ). Edge own x c) (sym l) has)
leads_on rows own leads a c classes (x ∷ along) to l has lacks none =
    let further : leads x c ≡ true = (classes x c).1 (record { along = along; to = to; leads = l.1; has = has }) in
    false≢true (sym (none x l.0) ∙ further)

pub not_at_end : (rows own : List (List ℕ)) (leads : ℕ → ℕ → Bool) (a c : ℕ) (r mine : List ℕ) → AreClasses rows own leads → leads a c ≡ true → mine ≡ row own a → false ≡ list_any (λ y. eqb y c) mine → r ≡ row rows a → ((b : ℕ) → Contains r b → leads b c ≡ false) → ⊥
not_at_end rows own leads a c r mine classes holds here lacks e none =
    let to = (classes a c).0 holds in
    leads_on rows own leads a c classes to.along to.to to.leads to.has
    (λ has. false≢true (lacks ∙ any_has c mine (row_has own a c mine here has)))
    (λ b edge. none b (row_has rows a b r e edge))

-- ---- chains
-- from a node of rank above 0 some edge leads to one of the rank below
pub next_there : (rows : List (List ℕ)) (rank : ℕ → ℕ) (a n : ℕ) (r : List ℕ) → AreRanks rows rank → rank a ≡ suc n → r ≡ row rows a → ((b : ℕ) → Contains r b → rank b ≡ n → ⊥) → ⊥
next_there rows rank a n r ranks is e none = let chain = ranks.chains a in from chain.0 chain.1 chain.2 (chain.3 ∙ is)
  where
    from : (along : List ℕ) (to : ℕ) → LeadsBy (Edge rows) a along to → length along ≡ suc n → ⊥
    from [] to l long = omega (arith, long)
    from (b ∷ along) to l long =
        let held = row_has rows a b r e l.0 in
        let high : length along ≤ rank b = ranks.longest b along to l.1 in
        let low = rank_falls rows rank a b r ranks e held in
        none b held (omega arith)

pub no_next : (rows : List (List ℕ)) (rank : ℕ → ℕ) (a m : ℕ) (r : List ℕ) → AreRanks rows rank → m ≡ rank a → 0 < rank a → r ≡ row rows a → ((b : ℕ) → Contains r b → rank b ≡ m - 1 → ⊥) → ⊥
no_next rows rank a m r ranks is some e none =
    next_there rows rank a (rank a - 1) r ranks (omega arith) e (λ b has same. none b has (omega arith))

-- ---- the classes of a group
pub leads_in_group : (s : Solution) (a g c : ℕ) → c < SIZE → leads_of s a (SIZE * g + c) ≡ leads_at (entries_of s g) a c
unfolding leads_of
leads_in_group s a g c low =
    let group : (SIZE * g + c) / SIZE ≡ g = omega arith in
    let place : (SIZE * g + c) % SIZE ≡ c = omega arith in
    ap (λ (k : ℕ). leads_at (entries_of s k) a ((SIZE * g + c) % SIZE)) group ∙ ap (λ (k : ℕ). leads_at (entries_of s g) a k) place

pub leads_in_none : (s : Solution) (a n : ℕ) → length s.groups ≤ n → ((k : ℕ) → k < n → (c : ℕ) → c < SIZE → leads_at (entries_of s k) a c ≡ false) → (c : ℕ) → leads_of s a c ≡ false
unfolding leads_of entries_of
leads_in_none s a n all none c =
    elim (cases_lt (c / SIZE) n) [
      | inl l ↦ none (c / SIZE) l (c % SIZE) (omega arith)
      | inr past ↦ ap (λ (es : List NodeRank). leads_at es a (c % SIZE)) (get_or_past s.groups (c / SIZE) [] (omega (arith, all, past)))
    ]
