-- Ways between nodes and between their numbers.
use Rattle.std.{proofs.Common.{◌≡◌, ◌≢◌, ◌↔◌, ◌⊎◌, inl, inr, ℕ, zero, suc, ◌+◌, ◌<◌, ◌≤◌, Bool, true, false, List, [], ◌∷◌, ◌++◌, length, set, get_or, take, replicate, slice_get, Some, Result, Ok, Err, refl, sym, ap, ◌∙◌, subst, arith}, specs.List.{Contains, AllZip}, specs.Prelude.{IfOk}, proofs.lemmas.Bool.{cases_eq}, proofs.lemmas.List.{get_or-set_same, get_or-set_other, length-replicate, take_more}, proofs.lemmas.Option.{slice_get_within, get_or_from_slice_get, none-some, same_Some}}
use Rattle.meta_model.specs.Loaded.{Loaded}
use Rattle.effect_scan.{specs.declared.node.Node.{Node}, specs.Nodes.{nodes_of, IsAt}, specs.Rows.{Edge}, specs.Edges.{MayLead}, specs.Laws.{EdgesJoinNodes}, specs.Scans.{Scanned, IsScan}, proofs.Relating.{zip_length}}
use Rattle.rank_check.proofs.Conditions.{edges_inside}
use Rattle.rank_graph.{specs.Graphs.{InRange}, specs.Walks.{LeadsBy, IsWalk}, proofs.Distinct.{cons_cases}}
use Rattle.rank_make.proofs.{Numbers.{edge_leads, edge_of}, Placed.{one_number, one_at}}
use Rattle.program_commands.specs.{Ways.{flag_of, OpenEdge, IsWayTo, NoWayTo}, NodeWays.{AreFlags, HasWay, IsEnd, IsWay, MayPass}}

module _ (p : Loaded) (scan : Scanned) (is : IsScan p scan) where
  pub ranged : InRange scan.rows
  ranged a b edge = edges_inside p scan is (length scan.rows) is.edges.count a b edge

  pub rows_count : length scan.nodes ≡ length scan.rows
  rows_count = ap (λ (ns : List Node). length ns) is.nodes ∙ sym is.edges.count

  module _ (closed : List Bool) where
    -- a way by numbers is one between the nodes of these numbers
    lift : (a : ℕ) (ws : List ℕ) (b : ℕ) (x : Node) (zs : List Node) → LeadsBy (OpenEdge scan.rows closed) a ws b → IsAt (nodes_of p) x a → AllZip (λ n z. IsAt (nodes_of p) z n) ws zs
        → (y : Node) × IsAt (nodes_of p) y b × LeadsBy (MayPass p closed) x zs y
    lift a [] b x [] leads at zip = let same : a ≡ b = leads in (x, subst (λ (n : ℕ). IsAt (nodes_of p) x n) same at, refl)
    lift a [] b x (z ∷ zs) leads at zip = absurd zip
    lift a (w ∷ ws) b x [] leads at zip = absurd zip
    lift a (w ∷ ws) b x (z ∷ zs) leads at zip =
        let edge = edge_leads p scan is a w x leads.0.0 at in
        let same : edge.0 ≡ z = one_at p edge.0 z w edge.1 zip.0 in
        let rest = lift w ws b z zs leads.1 zip.0 zip.1 in
        let passes : (n : ℕ) → IsAt (nodes_of p) z n → flag_of closed n ≡ false = λ n there. subst (λ (k : ℕ). flag_of closed k ≡ false) (one_number p z w n zip.0 there) leads.0.1 in
        (rest.0, rest.1, ((subst (λ (n : Node). MayLead p x n) same edge.2, passes), rest.2))

    -- a way between nodes is one between their numbers
    lower : EdgesJoinNodes p → (x : Node) (zs : List Node) (y : Node) (a : ℕ) → LeadsBy (MayPass p closed) x zs y → IsAt (nodes_of p) x a
        → (ws : List ℕ) × (b : ℕ) × LeadsBy (OpenEdge scan.rows closed) a ws b × IsAt (nodes_of p) y b × (length ws ≡ length zs)
    lower join x [] y a leads at = let same : x ≡ y = leads in ([], a, refl, subst (λ (n : Node). IsAt (nodes_of p) n a) same at, refl)
    lower join x (z ∷ zs) y a leads at =
        let node = (join x z leads.0.0).1 in
        let rest = lower join z zs y node.0 leads.1 node.1 in
        (node.0 ∷ rest.0, rest.1, ((edge_of p scan is x z a node.0 at node.1 leads.0.0, leads.0.1 node.0 node.1), rest.2), rest.3, ap (λ (n : ℕ). suc n) rest.4)

    -- the numbers of a way are those of nodes
    behind_inside : (a : ℕ) (ws : List ℕ) (b : ℕ) → LeadsBy (OpenEdge scan.rows closed) a ws b → (n : ℕ) → Contains ws n → n < length scan.nodes
    behind_inside a [] b leads n held = absurd (omega (arith, held.1))
    behind_inside a (w ∷ ws) b leads n held =
        elim (cons_cases w ws n held) [
          | inl same ↦ let low = ranged a w leads.0.0 in subst (λ (m : ℕ). m < length scan.nodes) same (omega (arith, low, rows_count))
          | inr later ↦ behind_inside w ws b leads.1 n later
        ]

    pub way_inside : (ends : List Bool) (a : ℕ) (x : Node) (numbers : List ℕ) → IsAt (nodes_of p) x a → IsWayTo (OpenEdge scan.rows closed) ends a numbers → (shown : List ℕ) → shown ≡ numbers → (n : ℕ) → Contains shown n → n < length scan.nodes
    way_inside ends a x numbers at way shown same n held =
        let low : a < length (nodes_of p) = slice_get_within (nodes_of p) a x at in
        let count = ap (λ (ns : List Node). length ns) is.nodes in
        let first : a < length scan.nodes = omega (arith, low, count) in
        elim (cons_cases a way.walk.after n (subst (λ (l : List ℕ). Contains l n) (same ∙ way.walk.nodes_are) held)) [
          | inl is_first ↦ subst (λ (m : ℕ). m < length scan.nodes) is_first first
          | inr later ↦ behind_inside a way.walk.after way.to way.walk.leads n later
        ]

    pub way_told : (ends : List Bool) (a : ℕ) (x : Node) (numbers shown : List ℕ) (nodes : List Node) → IsAt (nodes_of p) x a → IsWayTo (OpenEdge scan.rows closed) ends a numbers → shown ≡ numbers → AllZip (λ n z. IsAt scan.nodes z n) shown nodes → IsWay p closed ends x nodes
    way_told ends a x numbers shown nodes at way same zip =
        told nodes
        (subst (λ (l : List ℕ). AllZip (λ n z. IsAt (nodes_of p) z n) l nodes) (same ∙ way.walk.nodes_are) (subst (λ (ns : List Node). AllZip (λ n z. IsAt ns z n) shown nodes) is.nodes zip))
      where
        told : (nodes : List Node) → AllZip (λ n z. IsAt (nodes_of p) z n) (a ∷ way.walk.after) nodes → IsWay p closed ends x nodes
        told [] h = absurd h
        told (z ∷ rest) h =
            let begun : z ≡ x = one_at p z x a h.0 at in
            let walk = lift a way.walk.after way.to x rest way.walk.leads at h.1 in
            let count = zip_length (λ n z. IsAt (nodes_of p) z n) way.walk.after rest h.1 in
            let whole = ap (λ (l : List ℕ). length l) way.walk.nodes_are in
            let long = way.some in
            record {
              to = walk.0;
              walk = record { after = rest; nodes_are = ap (λ (n : Node). n ∷ rest) begun; leads = walk.2 };
              some = omega (arith, count, whole, long);
              flagged = (way.to, walk.1, way.flagged);
            }

    pub way_there : EdgesJoinNodes p → (ends : List Bool) (a : ℕ) (x : Node) → IsAt (nodes_of p) x a → HasWay p closed ends x → NoWayTo (OpenEdge scan.rows closed) ends a → ⊥
    way_there join ends a x at way none =
        let low = lower join x way.along way.to a way.leads at in
        let same : low.1 ≡ way.flagged.0 = one_number p way.to low.1 way.flagged.0 low.3 way.flagged.1 in
        let count = low.4 in
        let long = way.some in
        none low.0 low.1 low.2 (omega (arith, count, long)) (ap (flag_of ends) same ∙ way.flagged.2)

    pub begins : EdgesJoinNodes p → (ends : List Bool) (x : Node) → HasWay p closed ends x → (n : ℕ) × IsAt (nodes_of p) x n
    begins join ends x way = from way.along way.leads way.some
      where
        from : (along : List Node) → LeadsBy (MayPass p closed) x along way.to → 0 < length along → (n : ℕ) × IsAt (nodes_of p) x n
        from [] leads some = absurd (omega (arith, some))
        from (z ∷ zs) leads some = (join x z leads.0.0).0

-- ---- walks that pass what they may, and others
module _ (p : Loaded) (closed : List Bool) where
  pub plain_walk : (x : Node) (zs : List Node) (y : Node) → LeadsBy (MayPass p closed) x zs y → LeadsBy (MayLead p) x zs y
  plain_walk x [] y leads = leads
  plain_walk x (z ∷ zs) y leads = (leads.0.0, plain_walk z zs y leads.1)

  pub passing : ((z : Node) (n : ℕ) → IsAt (nodes_of p) z n → flag_of closed n ≡ false) → (x : Node) (zs : List Node) (y : Node) → LeadsBy (MayLead p) x zs y → LeadsBy (MayPass p closed) x zs y
  passing none x [] y leads = leads
  passing none x (z ∷ zs) y leads = ((leads.0, none z), passing none z zs y leads.1)

-- ---- flags
pub no_flag : (count n : ℕ) → flag_of (replicate count false) n ≡ false
unfolding flag_of
no_flag zero n = refl
no_flag (suc k) zero = refl
no_flag (suc k) (suc n) = no_flag k n

-- one alone has a flag
flag_other : (flags : List Bool) (a b : ℕ) → b ≢ a → flag_of (set flags a true) b ≡ flag_of flags b
unfolding flag_of
flag_other flags a b h = get_or-set_other flags a b true false h

pub one_flagged : (flags : List Bool) (count a n : ℕ) → flags ≡ set (replicate count false) a true → flag_of flags n ≡ true → a ≡ n
one_flagged flags count a n is flagged =
    elim (cases_eq n a) [
      | inl same ↦ sym same
      | inr other ↦
          let read : flag_of (set (replicate count false) a true) n ≡ true = ap (λ (l : List Bool). flag_of l n) (sym is) ∙ flagged in
          let none : true ≡ false = sym read ∙ (flag_other (replicate count false) a n other ∙ no_flag count n) in
          absurd (cc none)
    ]

pub one_has : (flags : List Bool) (count a : ℕ) → flags ≡ set (replicate count false) a true → a < count → flag_of flags a ≡ true
unfolding flag_of
one_has flags count a is low = ap (λ (l : List Bool). get_or l a false) is ∙ get_or-set_same (replicate count false) a true false (omega (arith, low, length-replicate count false))

pub flagged_at : (Has : Node → Type 0) (nodes : List Node) (flags : List Bool) → AreFlags Has nodes flags → (n : ℕ) (x : Node) → slice_get nodes n ≡ Some x → (flag_of flags n ≡ true) ↔ Has x
unfolding flag_of
flagged_at Has [] flags are n x at = absurd (none-some x at)
flagged_at Has (y ∷ ys) [] are n x at = absurd are
flagged_at Has (y ∷ ys) (f ∷ fs) are zero x at = let same : y ≡ x = same_Some y x at in subst (λ (z : Node). (f ≡ true) ↔ Has z) same are.0
flagged_at Has (y ∷ ys) (f ∷ fs) are (suc n) x at = flagged_at Has ys fs are.1 n x at

zip_push : {A B : Type 0} (R : A → B → Type 0) (xs : List A) (ys : List B) (x : A) (y : B) → AllZip R xs ys → R x y → AllZip R (xs ++ x ∷ []) (ys ++ y ∷ [])
zip_push R [] [] x y zip r = (r, tt)
zip_push R [] (b ∷ ys) x y zip r = absurd zip
zip_push R (a ∷ xs) [] x y zip r = absurd zip
zip_push R (a ∷ xs) (b ∷ ys) x y zip r = (zip.0, zip_push R xs ys x y zip.1 r)

pub flags_more : (Has : Node → Type 0) (nodes : List Node) (i : ℕ) (d : Node) (flags more : List Bool) (flag : Bool) → i < length nodes → AreFlags Has (take i nodes) flags → ((flag ≡ true) ↔ Has (get_or nodes i d)) → more ≡ flags ++ flag ∷ [] → AreFlags Has (take (i + 1) nodes) more
flags_more Has nodes i d flags more flag low are is pushed =
    let grown = zip_push (λ x f. (f ≡ true) ↔ Has x) (take i nodes) flags (get_or nodes i d) flag are is in
    subst (λ (l : List Bool). AreFlags Has (take (i + 1) nodes) l) (sym pushed)
    (subst (λ (ns : List Node). AreFlags Has ns (flags ++ flag ∷ [])) (sym (take_more nodes i d low)) grown)

-- ---- one end
pub if_ok : {A E : Type 0} (P Q : A → Type 0) (r : Result A E) → ((x : A) → P x → Q x) → IfOk r P → IfOk r Q
if_ok P Q (Ok x) go h = go x h
if_ok P Q (Err e) go h = tt

module _ (p : Loaded) (closed ends : List Bool) (count last : ℕ) (to : Node) (at : IsAt (nodes_of p) to last) (alone : ends ≡ set (replicate count false) last true) where
  pub ends_there : (from : Node) (along : List Node) → LeadsBy (MayPass p closed) from along to → 0 < length along → last < count → HasWay p closed ends from
  ends_there from along leads some low = record { along = along; to = to; leads = leads; some = some; flagged = (last, at, one_has ends count last alone low) }

  pub ends_only : (from : Node) (nodes : List Node) → IsWay p closed ends from nodes → IsWalk (MayPass p closed) from to nodes × (1 < length nodes)
  ends_only from nodes way =
      let same : last ≡ way.flagged.0 = one_flagged ends count last way.flagged.0 alone way.flagged.2 in
      let is : way.to ≡ to = one_at p way.to to last (subst (λ (n : ℕ). IsAt (nodes_of p) way.to n) (sym same) way.flagged.1) at in
      (subst (λ (x : Node). IsWalk (MayPass p closed) from x nodes) is way.walk, way.some)
