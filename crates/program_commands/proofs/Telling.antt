-- Why no settling certificate is made, with the nodes that show it.
use Rattle.std.{proofs.Common.{◌≡◌, ◌↔◌, ◌⊎◌, inl, inr, ℕ, suc, ◌+◌, ◌<◌, Bool, true, false, List, [], ◌∷◌, ◌++◌, length, replicate, Some, slice_get, refl, sym, ap, ◌∙◌, subst, arith}, specs.List.{Contains}, proofs.lemmas.List.{length-replicate}}
use Rattle.meta_model.specs.Loaded.{Loaded}
use Rattle.effect_scan.{specs.declared.node.Node.{Node}, specs.declared.node.Member.TheVariants.{Destruction}, specs.Nodes.{nodes_of, IsAt}, specs.Edges.{MayLead}, specs.Destroying.{Closure}, specs.Laws.{EdgesJoinNodes, IsNode}, specs.Scans.{Scanned, IsScan}}
use Rattle.rank_graph.{specs.Walks.{LeadsBy, IsWalk, ComesBack}, proofs.Distinct.{cons_cases}}
use Rattle.rank_check.specs.Valid.{HasBody}
use Rattle.rank_make.specs.Walks.{LeadsToDestruction}
use Rattle.settling.specs.{Settles.{Carries, IsProperty}, Hands.{HandOn}}
use Rattle.settling_make.specs.Circles.{LeadsRound, LeadsToEnd}
use Rattle.program_commands.{specs.NodeWays.{AreFlags, HasWay, IsDestructionOf, IsWay, MayPass}, specs.Settling.{GoesBy, IsUnsettled}, specs.Ways.{flag_of}, proofs.NodeWays.{flagged_at, plain_walk, passing, no_flag}}

-- a way that comes back is a circle
pub round_of : (p : Loaded) (closed : List Bool) (x : Node) (nodes : List Node) → IsWalk (MayPass p closed) x x nodes × (1 < length nodes) → ComesBack (MayLead p) x nodes
round_of p closed x nodes way = record { walk = record { after = way.0.after; nodes_are = way.0.nodes_are; leads = plain_walk p closed x way.0.after x way.0.leads }; some = way.1 }

-- where no node is closed all edges may be passed
pub all_open : (p : Loaded) (closed : List Bool) (count : ℕ) → closed ≡ replicate count false → (z : Node) (n : ℕ) → IsAt (nodes_of p) z n → flag_of closed n ≡ false
all_open p closed count none z n at = ap (λ (l : List Bool). flag_of l n) none ∙ no_flag count n

pub way_round : (p : Loaded) (closed : List Bool) (count : ℕ) → closed ≡ replicate count false → (x y : Node) → LeadsRound p x y → (along : List Node) × LeadsBy (MayPass p closed) x along x × (0 < length along)
way_round p closed count none x y round =
    let opened = all_open p closed count none in
    (y ∷ round.along, ((round.leads, opened y), passing p closed opened y round.along x round.back), omega arith)

-- ---- circles without a property
module _ (p : Loaded) (closed : List Bool) (nodes : List Node) (are_nodes : nodes ≡ nodes_of p) (are : AreFlags IsProperty nodes closed) where
  not_flagged : (b : Bool) → (b ≡ true → ⊥) → b ≡ false
  not_flagged true no_flag = absurd (no_flag refl)
  not_flagged false no_flag = refl

  open_at : (z : Node) → ¬ IsProperty z → (n : ℕ) → IsAt (nodes_of p) z n → flag_of closed n ≡ false
  open_at z other n at = not_flagged (flag_of closed n) (λ flagged. other ((flagged_at IsProperty nodes closed are n z (subst (λ (ns : List Node). slice_get ns n ≡ Some z) (sym are_nodes) at)).0 flagged))

  open_is : (z : Node) (n : ℕ) → IsAt (nodes_of p) z n → flag_of closed n ≡ false → ¬ IsProperty z
  open_is z n at opened property =
      let flagged : flag_of closed n ≡ true = (flagged_at IsProperty nodes closed are n z (subst (λ (ns : List Node). slice_get ns n ≡ Some z) (sym are_nodes) at)).1 property in
      let bad : true ≡ false = sym flagged ∙ opened in
      cc bad

  pub silent_way : (x : Node) (along : List Node) (y : Node) → LeadsBy (MayLead p) x along y → ((z : Node) → Contains along z → ¬ IsProperty z) → LeadsBy (MayPass p closed) x along y
  silent_way x [] y leads none = leads
  silent_way x (z ∷ zs) y leads none =
      ((leads.0, open_at z (none z (0, omega arith, refl))), silent_way z zs y leads.1 (λ w held. none w (later z zs w held)))
    where
      later : (z : Node) (zs : List Node) (w : Node) → Contains zs w → Contains (z ∷ zs) w
      later z zs w (k, low, is) = (suc k, omega arith, is)

  pub silent_nodes : EdgesJoinNodes p → (x : Node) (along : List Node) (y : Node) → LeadsBy (MayPass p closed) x along y → (z : Node) → Contains along z → ¬ IsProperty z
  silent_nodes join x [] y leads z held = absurd (omega (arith, held.1))
  silent_nodes join x (w ∷ zs) y leads z held =
      elim (cons_cases w zs z held) [
        | inl same ↦
            let node = (join x w leads.0.0).1 in
            subst (λ (n : Node). ¬ IsProperty n) same (open_is w node.0 node.1 (leads.0.1 node.0 node.1))
        | inr later ↦ silent_nodes join w zs y leads.1 z later
      ]

-- a circle without a property
pub quiet_circle : (p : Loaded) (x : Node) (nodes : List Node) → ComesBack (MayLead p) x nodes → ((z : Node) → Contains nodes z → ¬ IsProperty z) → (along : List Node) × LeadsBy (MayLead p) x along x × (0 < length along) × ((z : Node) → Contains along z → ¬ IsProperty z)
quiet_circle p x nodes circle none =
    let count = ap (λ (l : List Node). length l) circle.walk.nodes_are in
    let long = circle.some in
    (circle.walk.after, circle.walk.leads, omega (arith, count, long), λ z held. none z (subst (λ (l : List Node). Contains l z) (sym circle.walk.nodes_are) (behind z held)))
  where
    behind : (z : Node) → Contains circle.walk.after z → Contains (x ∷ circle.walk.after) z
    behind z (k, low, is) = (suc k, omega arith, is)

-- a way round along no property has none
pub none_quiet : (p : Loaded) (closed : List Bool) (all : List Node) → all ≡ nodes_of p → AreFlags IsProperty all closed → EdgesJoinNodes p → (x : Node) (nodes : List Node) → IsWalk (MayPass p closed) x x nodes × (1 < length nodes) → (z : Node) → Contains nodes z → ¬ IsProperty z
none_quiet p closed all are_all are join x nodes way z held =
    let count = ap (λ (l : List Node). length l) way.0.nodes_are in
    let behind = silent_nodes p closed all are_all are join x way.0.after x way.0.leads in
    let last = ends way.0.after x way.0.leads (omega (arith, count, way.1)) in
    elim (cons_cases x way.0.after z (subst (λ (l : List Node). Contains l z) way.0.nodes_are held)) [
      | inl same ↦ subst (λ (n : Node). ¬ IsProperty n) same (behind x last)
      | inr later ↦ behind z later
    ]
  where
    ends : (along : List Node) (from : Node) → LeadsBy (MayPass p closed) from along x → 0 < length along → Contains along x
    ends [] from leads some = absurd (omega arith)
    ends (w ∷ []) from leads some = let same : w ≡ x = leads.1 in subst (λ (n : Node). Contains (w ∷ []) n) same (0, omega arith, refl)
    ends (w ∷ v ∷ vs) from leads some = let later = ends (v ∷ vs) w leads.1 (omega arith) in (suc later.0, omega (arith, later.1), later.2)

-- ---- by an edge
pub goes_by : (p : Loaded) (closed : List Bool) (x y : Node) (nodes rest : List Node) → MayLead p x y → nodes ≡ (x ∷ []) ++ rest → IsWalk (MayPass p closed) y x rest × (1 < length rest) → GoesBy p x y nodes
goes_by p closed x y nodes rest edge are way =
    let whole : nodes ≡ x ∷ y ∷ way.0.after = are ∙ ap (λ (l : List Node). x ∷ l) way.0.nodes_are in
    let count = ap (λ (l : List Node). length l) whole in
    record {
      comes_back = record { walk = record { after = y ∷ way.0.after; nodes_are = whole; leads = (edge, plain_walk p closed y way.0.after x way.0.leads) }; some = omega (arith, count) };
      next = (way.0.after, whole);
    }

pub goes_at_once : (p : Loaded) (x y : Node) (nodes : List Node) → MayLead p x y → x ≡ y → nodes ≡ x ∷ y ∷ [] → GoesBy p x y nodes
goes_at_once p x y nodes edge same are =
    let count = ap (λ (l : List Node). length l) are in
    record {
      comes_back = record { walk = record { after = y ∷ []; nodes_are = are; leads = (edge, sym same) }; some = omega (arith, count) };
      next = ([], are);
    }

-- ---- a way to a deletion
pub ends_itself : (p : Loaded) (scan : Scanned) → IsScan p scan → (closed ends : List Bool) (count : ℕ) → closed ≡ replicate count false → (x : Node) → LeadsToEnd p x → AreFlags (IsDestructionOf scan.closures x.class) scan.nodes ends → EdgesJoinNodes p → HasWay p closed ends x
ends_itself p scan is closed ends count none x end are join =
    let opened = all_open p closed count none in
    let node = last end.along x end.leads (some end.along end.leads) in
    record {
      along = end.along;
      to = end.to;
      leads = passing p closed opened x end.along end.to end.leads;
      some = some end.along end.leads;
      flagged = (
        node.0,
        node.1,
        (flagged_at (IsDestructionOf scan.closures x.class) scan.nodes ends are node.0 end.to (subst (λ (ns : List Node). slice_get ns node.0 ≡ Some end.to) (sym is.nodes) node.1)).1
            (end.destruction, (is.closures.members end.to.class x.class).1 end.holds),
      );
    }
  where
    -- a slot or native is no destruction
    some : (along : List Node) → LeadsBy (MayLead p) x along end.to → 0 < length along
    some [] leads =
        let same : x ≡ end.to = leads in
        absurd (let bad = sym (ap (λ (n : Node). n.member) same ∙ end.destruction) ∙ end.body.from in cc bad)
    some (z ∷ zs) leads = omega arith

    last : (along : List Node) (from : Node) → LeadsBy (MayLead p) from along end.to → 0 < length along → IsNode p end.to
    last [] from leads more = absurd (omega arith)
    last (z ∷ []) from leads more = let same : z ≡ end.to = leads.1 in subst (λ (n : Node). IsNode p n) same (join from z leads.0).1
    last (z ∷ w ∷ ws) from leads more = last (w ∷ ws) z leads.1 (omega arith)

pub end_told : (p : Loaded) (scan : Scanned) → IsScan p scan → (closed ends : List Bool) (x : Node) (nodes : List Node) → LeadsToEnd p x → AreFlags (IsDestructionOf scan.closures x.class) scan.nodes ends → IsWay p closed ends x nodes → LeadsToDestruction p nodes
end_told p scan is closed ends x nodes end are way =
    let at : slice_get scan.nodes way.flagged.0 ≡ Some way.to = subst (λ (ns : List Node). slice_get ns way.flagged.0 ≡ Some way.to) (sym is.nodes) way.flagged.1 in
    let kind = (flagged_at (IsDestructionOf scan.closures x.class) scan.nodes ends are way.flagged.0 way.to at).0 way.flagged.2 in
    record {
      from = x;
      to = way.to;
      walk = record { after = way.walk.after; nodes_are = way.walk.nodes_are; leads = plain_walk p closed x way.walk.after way.to way.walk.leads };
      body = end.body;
      destruction = kind.0;
      holds = (is.closures.members way.to.class x.class).0 kind.1;
    }

-- ---- in between
pub node_begins : (p : Loaded) → EdgesJoinNodes p → (x : Node) (along : List Node) (y : Node) → LeadsBy (MayLead p) x along y → 0 < length along → IsNode p x
node_begins p join x [] y leads some = absurd (omega (arith, some))
node_begins p join x (z ∷ zs) y leads some = (join x z leads.0).0

pub none_counted : (closed : List Bool) (count : ℕ) (nodes : List Node) → closed ≡ replicate count false → count ≡ length nodes → length closed ≡ length nodes
none_counted closed count nodes none is = ap (λ (l : List Bool). length l) none ∙ (length-replicate count false ∙ is)

-- the way back of a circle, along one edge at least
pub way_back : (p : Loaded) (closed : List Bool) (count : ℕ) → closed ≡ replicate count false → (x y : Node) (along : List Node) → MayLead p x y → LeadsBy (MayLead p) y along x
    → (zs : List Node) × LeadsBy (MayPass p closed) y zs x × (0 < length zs)
way_back p closed count none x y [] edge leads =
    let same : y ≡ x = leads in
    (y ∷ [], ((subst (λ (n : Node). MayLead p n y) (sym same) edge, all_open p closed count none y), same), omega arith)
way_back p closed count none x y (z ∷ zs) edge leads = (z ∷ zs, passing p closed (all_open p closed count none) y (z ∷ zs) x leads, omega arith)
