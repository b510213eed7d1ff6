-- Walks as they are reported, from their numbers.
use Rattle.std.{proofs.Common.{◌≡◌, ℕ, zero, suc, ◌<◌, ◌≤◌, List, [], ◌∷◌, length, get_or, slice_get, drop, Some, refl, sym, ap, ◌∙◌, subst, arith}, specs.List.{Contains, AllZip}, proofs.lemmas.Option.{slice_get_within, get_or_from_slice_get, same_Some, none-some}}
use Rattle.meta_model.{specs.Loaded.{Loaded}, proofs.Zips.{zip_right}}
use Rattle.effect_scan.{specs.declared.node.Node.{Node}, specs.Nodes.{nodes_of, IsAt}, specs.Rows.{Edge}, specs.Destroying.{Closure}, specs.Edges.{MayLead}, specs.Scans.{Scanned, IsScan}, proofs.Adding.{edge_inside}, proofs.Relating.{zip_length}}
use Rattle.rank_check.{specs.Valid.{HasBody, most_bound}, proofs.Conditions.{edges_inside}, proofs.Elements.{some_inside, place_of, element_at}}
use Rattle.rank_graph.specs.{Graphs.{IsToldCycle as IsToldByNumber, IsPathTo}, Walks.{LeadsBy, IsWalk, AreDistinct, IsChain}}
use Rattle.rank_make.{specs.Walks.{IsToldCycle, IsDestroyPath, IsHighChain}, specs.Solved.{own_rows}, proofs.Placed.{one_number, one_at}, proofs.Numbers.{lift, own_is}}

-- the nodes of these numbers
abbrev AreAt : List Node → List ℕ → List Node → Type 0
AreAt nodes numbers zs = AllZip (λ n x. IsAt nodes x n) numbers zs

-- the class of the node that is read at its number
pub class_read : (p : Loaded) (items : List Node) (n : ℕ) (x d : Node) → items ≡ nodes_of p → IsAt (nodes_of p) x n → (get_or items n d).class ≡ x.class
class_read p items n x d same at =
    ap (λ (y : Node). y.class) (get_or_from_slice_get items n x d (subst (λ (ns : List Node). IsAt ns x n) (sym same) at))

module _ (p : Loaded) (scan : Scanned) (is : IsScan p scan) where
  count_is : length scan.nodes ≡ length (nodes_of p)
  count_is = ap (λ (ns : List Node). length ns) is.nodes

  -- ---- all numbers of a walk are those of nodes
  walk_inside : (a : ℕ) (ws : List ℕ) (b : ℕ) → LeadsBy (Edge scan.rows) a ws b → a < length scan.nodes → (k n : ℕ) → slice_get (a ∷ ws) k ≡ Some n → n < length scan.nodes
  walk_inside a ws b leads low zero n e = subst (λ (m : ℕ). m < length scan.nodes) (same_Some a n e) low
  walk_inside a [] b leads low (suc k) n e = absurd (none-some n e)
  walk_inside a (w ∷ ws) b leads low (suc k) n e = walk_inside w ws b leads.1 (edges_inside p scan is (length scan.nodes) count_is a w leads.0) k n e

  all_inside : (a : ℕ) (ws : List ℕ) (b : ℕ) (numbers : List ℕ) → numbers ≡ a ∷ ws → LeadsBy (Edge scan.rows) a ws b → a < length scan.nodes → (n : ℕ) → Contains numbers n → n < length scan.nodes
  all_inside a ws b numbers e leads low n held =
      let at = place_of numbers n held in
      walk_inside a ws b leads low at.0 n (subst (λ (l : List ℕ). slice_get l at.0 ≡ Some n) e at.1)

  -- a walk by numbers is given by the nodes of these numbers
  walk_told : (a : ℕ) (ws : List ℕ) (b : ℕ) (numbers : List ℕ) (zs : List Node) (x : Node) → numbers ≡ a ∷ ws → LeadsBy (Edge scan.rows) a ws b → AreAt scan.nodes numbers zs → IsAt (nodes_of p) x a
      → (y : Node) × IsAt (nodes_of p) y b × IsWalk (MayLead p) x y zs
  walk_told a ws b numbers zs x e leads zip at =
      told zs (subst (λ (l : List ℕ). AreAt (nodes_of p) l zs) e (subst (λ (ns : List Node). AreAt ns numbers zs) is.nodes zip))
    where
      told : (zs : List Node) → AreAt (nodes_of p) (a ∷ ws) zs → (y : Node) × IsAt (nodes_of p) y b × IsWalk (MayLead p) x y zs
      told [] h = absurd h
      told (z ∷ rest) h =
          let same : z ≡ x = one_at p z x a h.0 at in
          let walk = lift p scan is a ws b x rest leads at h.1 in
          (walk.0, walk.1, record { after = rest; nodes_are = ap (λ (n : Node). n ∷ rest) same; leads = walk.2 })

  -- numbers that are distinct are those of distinct nodes
  once_told : (numbers : List ℕ) (zs : List Node) → AreAt (nodes_of p) numbers zs → AreDistinct numbers → AreDistinct zs
  once_told [] [] zip h = tt
  once_told [] (z ∷ zs) zip h = absurd zip
  once_told (n ∷ ns) [] zip h = absurd zip
  once_told (n ∷ ns) (z ∷ zs) zip h = (
    λ held.
        let place = place_of zs z held in
        let pair = zip_right (λ m y. IsAt (nodes_of p) y m) ns zs zip.1 place.0 z place.1 in
        let same : pair.0 ≡ n = one_number p z pair.0 n pair.2 zip.0 in
        h.0 (subst (λ (m : ℕ). Contains ns m) same (element_at ns place.0 pair.0 pair.1)),
    once_told ns zs zip.1 h.1,
  )

  walk_once : (numbers shown : List ℕ) (zs : List Node) → shown ≡ numbers → AreAt scan.nodes shown zs → AreDistinct numbers → AreDistinct zs
  walk_once numbers shown zs show zip h =
      once_told numbers zs (subst (λ (l : List ℕ). AreAt (nodes_of p) l zs) show (subst (λ (ns : List Node). AreAt ns shown zs) is.nodes zip)) h

  -- .. behind the first one
  behind_once : (a : ℕ) (ws : List ℕ) (zs : List Node) → AreAt scan.nodes (a ∷ ws) zs → AreDistinct ws → AreDistinct (drop 1 zs)
  behind_once a ws [] zip h = absurd zip
  behind_once a ws (z ∷ zs) zip h = walk_once ws ws zs refl zip.1 h

  -- ---- a path to a destruction
  pub path_inside : (rows own : List (List ℕ)) (from c : ℕ) (numbers shown : List ℕ) (x : Node) → rows ≡ scan.rows → IsAt (nodes_of p) x from → IsPathTo rows own c from numbers → shown ≡ numbers → (n : ℕ) → Contains shown n → n < length scan.nodes
  path_inside rows own from c numbers shown x same at path show n held =
      let low = slice_get_low x from at in
      let walk = path.path.walk in
      all_inside from walk.after path.to numbers walk.nodes_are (subst (λ (g : List (List ℕ)). LeadsBy (Edge g) from walk.after path.to) same walk.leads) low n (subst (λ (l : List ℕ). Contains l n) show held)
    where
      slice_get_low : (x : Node) (from : ℕ) → IsAt (nodes_of p) x from → from < length scan.nodes
      slice_get_low x from at = let low = slice_get_within (nodes_of p) from x at in let count = count_is in omega arith

  pub path_told : (rows own : List (List ℕ)) (from c : ℕ) (numbers shown : List ℕ) (zs : List Node) (x : Node) → rows ≡ scan.rows → own ≡ own_rows scan → IsAt (nodes_of p) x from → HasBody p x → c ≡ x.class → IsPathTo rows own c from numbers → shown ≡ numbers
      → AreAt scan.nodes shown zs → IsDestroyPath p zs
  path_told rows own from c numbers shown zs x same same_own at body class path show zip =
      let by_number = path.path.walk in
      let leads = subst (λ (g : List (List ℕ)). LeadsBy (Edge g) from by_number.after path.to) same by_number.leads in
      let walk = walk_told from by_number.after path.to numbers zs x by_number.nodes_are leads (subst (λ (l : List ℕ). AreAt scan.nodes l zs) show zip) at in
      let has : Edge (own_rows scan) path.to x.class = subst (λ (d : ℕ). Edge (own_rows scan) path.to d) class (subst (λ (o : List (List ℕ)). Edge o path.to c) same_own path.has) in
      let end = own_is p scan is path.to x.class has in
      let node : end.0 ≡ walk.0 = one_at p end.0 walk.0 path.to end.1 walk.1 in
      record {
        leads = record {
          from = x;
          to = walk.0;
          walk = walk.2;
          body = body;
          destruction = sym (ap (λ (y : Node). y.member) node) ∙ end.2;
          holds = subst (λ (y : Node). Closure p y.class x.class) node end.3;
        };
        once = walk_once numbers shown zs show zip path.path.once;
      }

  -- ---- a chain
  pub chain_inside : (rows : List (List ℕ)) (count from : ℕ) (numbers shown : List ℕ) → rows ≡ scan.rows → from < length scan.nodes → IsChain (Edge rows) count from numbers → shown ≡ numbers → (n : ℕ) → Contains shown n → n < length scan.nodes
  chain_inside rows count from numbers shown same low chain show n held =
      let walk = chain.path.walk in
      all_inside from walk.after chain.to numbers walk.nodes_are (subst (λ (g : List (List ℕ)). LeadsBy (Edge g) from walk.after chain.to) same walk.leads) low n (subst (λ (l : List ℕ). Contains l n) show held)

  pub chain_told : (rows : List (List ℕ)) (from : ℕ) (numbers shown : List ℕ) (zs : List Node) → rows ≡ scan.rows → from < length scan.nodes → IsChain (Edge rows) most_bound from numbers → shown ≡ numbers → AreAt scan.nodes shown zs → IsHighChain p zs
  chain_told rows from numbers shown zs same low chain show zip =
      let count = count_is in
      let inside : from < length (nodes_of p) = omega arith in
      let x = some_inside (nodes_of p) from inside in
      let by_number = chain.path.walk in
      let leads = subst (λ (g : List (List ℕ)). LeadsBy (Edge g) from by_number.after chain.to) same by_number.leads in
      let at = subst (λ (l : List ℕ). AreAt scan.nodes l zs) show zip in
      let walk = walk_told from by_number.after chain.to numbers zs x.0 by_number.nodes_are leads at x.1 in
      let both = zip_length (λ n y. IsAt scan.nodes y n) numbers zs at in
      let edges = chain.edges in
      (x.0, record { to = walk.0; path = record { walk = walk.2; once = walk_once numbers shown zs show zip chain.path.once }; edges = omega arith })

  -- ---- a cycle
  first_inside : (a : ℕ) (ws : List ℕ) (b : ℕ) → LeadsBy (Edge scan.rows) a ws b → 0 < length ws → a < length scan.nodes
  first_inside a [] b leads some = absurd (omega arith)
  first_inside a (w ∷ ws) b leads some = let low = edge_inside scan.rows a w leads.0 in let count = is.edges.count in let nodes = count_is in omega arith

  module _ (numbers : List ℕ) (told : IsToldByNumber scan.rows numbers) where
    first_low : told.first < length scan.nodes
    first_low =
        let walk = told.cycle.comes_back.walk in
        let count = ap (λ (l : List ℕ). length l) walk.nodes_are in
        let more = told.cycle.comes_back.some in
        first_inside told.first walk.after told.first walk.leads (omega arith)

    pub cycle_inside : (shown : List ℕ) → shown ≡ numbers → (n : ℕ) → Contains shown n → n < length scan.nodes
    cycle_inside shown show n held =
        let walk = told.cycle.comes_back.walk in
        all_inside told.first walk.after told.first numbers walk.nodes_are walk.leads first_low n (subst (λ (l : List ℕ). Contains l n) show held)

    pub cycle_told : (shown : List ℕ) (zs : List Node) → shown ≡ numbers → AreAt scan.nodes shown zs → IsToldCycle p zs
    cycle_told shown zs show zip =
        let low = first_low in
        let count = count_is in
        let a = told.first in
        let by_number = told.cycle.comes_back.walk in
        let inside : a < length (nodes_of p) = omega arith in
        let x = some_inside (nodes_of p) a inside in
        let all = subst (λ (l : List ℕ). AreAt scan.nodes l zs) show zip in
        let at = subst (λ (l : List ℕ). AreAt scan.nodes l zs) by_number.nodes_are all in
        let walk = walk_told a by_number.after a numbers zs x.0 by_number.nodes_are by_number.leads all x.1 in
        let same : walk.0 ≡ x.0 = one_at p walk.0 x.0 a walk.1 x.1 in
        let both = zip_length (λ n y. IsAt scan.nodes y n) numbers zs all in
        let more = told.cycle.comes_back.some in
        record {
          first = x.0;
          cycle = record {
            comes_back = record { walk = subst (λ (y : Node). IsWalk (MayLead p) x.0 y zs) same walk.2; some = omega arith };
            once = behind_once a by_number.after zs at (subst (λ (l : List ℕ). AreDistinct (drop 1 l)) by_number.nodes_are told.cycle.once);
          };
          earliest = λ y held n m at_x at_y.
              let place = place_of zs y held in
              let pair = zip_right (λ n z. IsAt scan.nodes z n) numbers zs all place.0 y place.1 in
              let there : IsAt (nodes_of p) y pair.0 = subst (λ (ns : List Node). IsAt ns y pair.0) is.nodes pair.2 in
              let number : m ≡ pair.0 = one_number p y m pair.0 at_y there in
              let first : n ≡ a = one_number p x.0 n a at_x x.1 in
              let least : a ≤ pair.0 = told.earliest pair.0 (element_at numbers place.0 pair.0 pair.1) in
              omega arith;
        }
