-- The conditions on sets that come to rest, of nodes and by their numbers.
use Rattle.std.proofs.{Common.{◌≡◌, ◌≢◌, ℕ, zero, suc, ◌*◌, ◌<◌, ◌≤◌, inl, inr, Bool, true, false, MatchBool, List, length, slice_get, Some, sym, ap, ◌∙◌, subst, arith}, lemmas.Option.{slice_get_within, same_Some}}
use Rattle.meta_model.specs.Loaded.{Loaded}
use Rattle.effect_scan.specs.{declared.node.Node.{Node}, declared.node.Member.TheVariants.{Property}, Nodes.{node, nodes_of, IsAt}, Laws.{EdgesJoinNodes}, Rows.{row}, Edges.{MayLead}, Scans.{Scanned, IsScan}}
use Rattle.rank_check.proofs.Elements.{some_inside, place_of, element_at}
use Rattle.settling.{specs.declared.certificate.SettlingLine.{SettlingLine}, specs.declared.certificate.SettlingSet.{SettlingSet}, specs.declared.certificate.SettlingCertificate.{SettlingCertificate}, specs.declared.standings.Standing.{Standing}, specs.declared.spans.Span.{Span}, specs.Settles.{Carries}, specs.Sets.{IsMember, HasAtMost}, specs.Valid.{IsLineOf, HasNothingElse, IsRound, AreRounds}, specs.code.Standings.{AreStandings}, specs.code.Spans.{OfSet, HasProperty, AreAmong, IsSpan, AreSpans, cost, IsWithin, StepsFall, MemberHolds, NodeHolds, HaveRounds, MembersHold}, proofs.OfNodes.{StandsFor, standing_of, line_of, edge_of, lead_in}}

-- ---- products
mul_some : (a b : ℕ) → 0 < a → 0 < b → 0 < a * b
mul_some zero b pos also = absurd (omega (arith, pos))
mul_some (suc a) zero pos also = absurd (omega (arith, also))
mul_some (suc a) (suc b) pos also = omega arith

left_some : (a b : ℕ) → 0 < a * b → 0 < a
left_some zero b pos = absurd (omega (arith, pos))
left_some (suc a) b pos = omega arith

right_some : (a b : ℕ) → 0 < a * b → 0 < b
right_some zero b pos = absurd (omega (arith, pos))
right_some (suc a) zero pos = absurd (let none = mul_zero (suc a) in omega (arith, pos, none))
  where
    mul_zero : (n : ℕ) → n * 0 ≡ 0
    mul_zero n = omega arith
right_some (suc a) (suc b) pos = omega arith

mul_up : (a b c : ℕ) → b ≤ c → a * b ≤ a * c
mul_up zero b c low = omega arith
mul_up (suc a) b c low = let rest = mul_up a b c low in omega (arith, rest, low)

module _ (p : Loaded) (certificate : SettlingCertificate) (scan : Scanned) (is : IsScan p scan) (rest : HasNothingElse p certificate)
    (standings : List Standing) (are : AreStandings p certificate standings) (spans : List Span) (made : AreSpans certificate.sets standings spans) where
  -- ---- a set, at its place
  module _ (k : ℕ) (set : SettlingSet) (at_set : slice_get certificate.sets k ≡ Some set) where
    of_set : (n : ℕ) (s : Standing) → slice_get standings n ≡ Some s → IsMember p set s.node → s.set ≡ Some k
    of_set n s at member = ((are.each n s at).set k).1 (record { set = set; stands = at_set; member = member })

    member_of : (n : ℕ) (s : Standing) → slice_get standings n ≡ Some s → s.set ≡ Some k → IsMember p set s.node
    member_of n s at in_set =
        let in_k = ((are.each n s at).set k).0 in_set in
        subst (λ (other : SettlingSet). IsMember p other s.node) (same_Some _ _ (sym in_k.stands ∙ at_set)) in_k.member

    -- a member, by its number
    record Known (x : Node) : Type 0 where
      pub stands : StandsFor p certificate scan is rest standings are x
      pub of : OfSet standings (length standings) k stands.number stands.standing

    known : (x : Node) → IsMember p set x → Known x
    known x member =
        let s = standing_of p certificate scan is rest standings are x member.named.node in
        record {
          stands = s;
          of = record {
            low = slice_get_within standings s.number s.standing s.at;
            is = s.at;
            set = of_set s.number s.standing s.at (subst (λ (z : Node). IsMember p set z) (sym s.node) member);
          };
        }

    line_at : (x : Node) (s : StandsFor p certificate scan is rest standings are x) (line : SettlingLine) → IsLineOf p certificate x line → (s.standing.rank ≡ line.rank) × (s.standing.step ≡ line.step)
    line_at x s line is_line = line_of p certificate scan is rest standings are s.number s.standing s.at line (subst (λ (z : Node). IsLineOf p certificate z line) (sym s.node) is_line)

    module _ (span : Span) (at_span : slice_get spans k ≡ Some span) where
      round_is : span.round ≡ set.round
      round_is = made.rounds k set span at_set at_span

      shared : IsSpan standings (length standings) k span
      shared = made.each k span at_span

      cost_is : cost span ≡ set.round * span.most
      cost_is = ap (λ (r : ℕ). r * span.most) round_is

      property_of : (c : ℕ) (q : ℕ) → IsMember p set (node c (Property q)) → HasProperty standings (length standings) k c q
      property_of c q member = let known_at = known (node c (Property q)) member in record { number = known_at.stands.number; standing = known_at.stands.standing; of = known_at.of; is = known_at.stands.node }

      of_property : (c : ℕ) (q : ℕ) → HasProperty standings (length standings) k c q → IsMember p set (node c (Property q))
      of_property c q has = subst (λ (z : Node). IsMember p set z) has.is (member_of has.number has.standing has.of.is has.of.set)

      pub at_most : HasAtMost p set span.most
      at_most c qs properties = shared.few c qs (record { each = λ q in_qs. property_of c q (properties.each q in_qs); once = properties.once })

      -- .. no other number that no class exceeds is lower
      least_most : (most : ℕ) → 0 < most → HasAtMost p set most → span.most ≤ most
      least_most most some few =
          elim shared.many [
            | inl one ↦ omega (arith, one, some)
            | inr w ↦
                let among : AreAmong standings (length standings) k w.0 w.1 = w.2 in
                let short = few w.0 w.1 (record { each = λ q in_qs. of_property w.0 q (among.each q in_qs); once = among.once }) in
                let long : length w.1 ≡ span.most = w.3 in
                omega (arith, short, long)
          ]

      -- ---- from numbers to nodes
      module _ (some : 0 < span.round) (holds : (n : ℕ) (s : Standing) → slice_get standings n ≡ Some s → s.set ≡ Some k → MemberHolds p standings (row scan.rows n) k span s) where
        holds_at : (x : Node) (m : Known x) → MemberHolds p standings (row scan.rows m.stands.number) k span m.stands.standing
        holds_at x m = holds m.stands.number m.stands.standing m.stands.at m.of.set

        pub round_of_nodes : EdgesJoinNodes p → IsRound p certificate set
        round_of_nodes join = record {
          carries = λ x member. let m = known x member in subst (λ (z : Node). Carries p z) m.stands.node (holds_at x m).within.carries;
          above = λ x a member line.
              let m = known x member in
              let own = line_at x m.stands a line in
              let high = (holds_at x m).within.above in
              omega (arith, own.0, high);
          close = λ x y a b member_x member_y line_a line_b.
              let m = known x member_x in
              let n = known y member_y in
              let first = line_at x m.stands a line_a in
              let second = line_at y n.stands b line_b in
              let low = shared.rank m.stands.number m.stands.standing m.of in
              let high = (holds_at y n).within.close in
              omega (arith, first.0, second.0, low, high, round_is);
          one_step = λ x y a b member_x member_y line_a line_b.
              let m = known x member_x in
              let n = known y member_y in
              sym (line_at x m.stands a line_a).1 ∙ (holds_at x m).within.one_step ∙ sym (holds_at y n).within.one_step ∙ (line_at y n.stands b line_b).1;
          most = span.most;
          at_most = at_most;
          some = mul_some set.round span.most (omega (arith, some, round_is)) shared.some;
          enough = λ x a member line.
              let m = known x member in
              let own = line_at x m.stands a line in
              let high = (holds_at x m).within.enough in
              omega (arith, own.1, high, cost_is);
          leaves = λ x y a b leads member other line_a line_b.
              let m = known x member in
              let t = standing_of p certificate scan is rest standings are y (join x y leads).1 in
              let at_x = subst (λ (z : Node). IsAt (nodes_of p) z m.stands.number) m.stands.node (are.each m.stands.number m.stands.standing m.stands.at).at in
              let at_y = subst (λ (z : Node). IsAt (nodes_of p) z t.number) t.node (are.each t.number t.standing t.at).at in
              let edge = edge_of p certificate scan is rest x y m.stands.number t.number at_x at_y leads in
              let outside : t.standing.set ≢ Some k = λ in_set. other (subst (λ (z : Node). IsMember p set z) t.node (member_of t.number t.standing t.at in_set)) in
              let fall = (holds_at x m).leaves t.number t.standing edge t.at outside in
              let first = line_at x m.stands a line_a in
              let second = line_at y t b line_b in
              omega (arith, fall, first.1, second.1, cost_is);
        }

      -- ---- from nodes to numbers
      module _ (round : IsRound p certificate set) where
        pub round_some : 0 < span.round
        round_some = let some = left_some set.round round.most round.some in omega (arith, some, round_is)

        cost_low : cost span ≤ set.round * round.most
        cost_low =
            let less = least_most round.most (right_some set.round round.most round.some) round.at_most in
            let up = mul_up set.round span.most round.most less in
            omega (arith, up, cost_is)

        pub member_by_number : (n : ℕ) (s : Standing) → slice_get standings n ≡ Some s → s.set ≡ Some k → MemberHolds p standings (row scan.rows n) k span s
        member_by_number n s at in_set =
            let own = are.each n s at in
            let member = member_of n s at in_set in
            let of : OfSet standings (length standings) k n s = record { low = slice_get_within standings n s at; is = at; set = in_set } in
            let lowest = shared.rank_met n s of in
            let least = shared.step_met n s of in
            let low = are.each lowest.number lowest.standing lowest.of.is in
            let same = are.each least.number least.standing least.of.is in
            record {
              within = record {
                carries = round.carries s.node member;
                above = let high = round.above s.node own.line member own.is in omega (arith, high, own.rank);
                close =
                    let near = round.close lowest.standing.node s.node low.line own.line (member_of lowest.number lowest.standing lowest.of.is lowest.of.set) member low.is own.is in
                    let equal : lowest.standing.rank ≡ span.rank = lowest.has in
                    omega (arith, near, own.rank, low.rank, equal, round_is);
                one_step =
                    let equal = round.one_step s.node least.standing.node own.line same.line member (member_of least.number least.standing least.of.is least.of.set) own.is same.is in
                    let lower : least.standing.step ≡ span.step = least.has in
                    omega (arith, equal, own.step, same.step, lower);
                enough = let high = round.enough s.node own.line member own.is in omega (arith, high, own.step, cost_low);
              };
              leaves = λ b t edge at_b outside.
                  let found = lead_in p certificate scan is rest standings are n s at b edge in
                  let leads = subst (λ (z : Standing). MayLead p s.node z.node) (same_Some found.0 t (sym found.1 ∙ at_b)) found.2 in
                  let to = are.each b t at_b in
                  let fall = round.leaves s.node t.node own.line to.line leads member (λ in_set. outside (of_set b t at_b in_set)) own.is to.is in
                  omega (arith, fall, own.step, to.step, cost_low);
            }

  -- ---- all sets
  set_at : (k : ℕ) (span : Span) → slice_get spans k ≡ Some span → (set : SettlingSet) × (slice_get certificate.sets k ≡ Some set)
  set_at k span at = let low = slice_get_within spans k span at in some_inside certificate.sets k (omega (arith, low, made.count))

  pub rounds_of_nodes : EdgesJoinNodes p → HaveRounds spans → MembersHold p scan.rows standings spans → AreRounds p certificate
  rounds_of_nodes join rounds members set there =
      let at = place_of certificate.sets set there in
      let low = slice_get_within certificate.sets at.0 set at.1 in
      let span = some_inside spans at.0 (omega (arith, low, made.count)) in
      round_of_nodes at.0 set at.1 span.0 span.1 (rounds at.0 span.0 span.1) (λ n s at_n in_set. members n s at_n at.0 span.0 in_set span.1) join

  pub rounds_some : AreRounds p certificate → HaveRounds spans
  rounds_some all k span at = let set = set_at k span at in round_some k set.0 set.1 span at (all set.0 (element_at certificate.sets k set.0 set.1))

  pub members_by_numbers : AreRounds p certificate → MembersHold p scan.rows standings spans
  members_by_numbers all n s at k span in_set at_span =
      let set = set_at k span at_span in
      member_by_number k set.0 set.1 span at_span (all set.0 (element_at certificate.sets k set.0 set.1)) n s at in_set

-- ---- one node
module _ (p : Loaded) (standings : List Standing) (targets : List ℕ) (s : Standing) where
  -- what is found of its steps, where all else holds
  pub member_told : (k : ℕ) (span : Span) → IsWithin p span s → (found : ℕ) → found ≡ cost span → (r : Bool) → MatchBool r (StepsFall standings targets k found s.step) (¬ StepsFall standings targets k found s.step)
      → MatchBool r (MemberHolds p standings targets k span s) (¬ MemberHolds p standings targets k span s)
  member_told k span within found same true falls = record { within = within; leaves = subst (λ (c : ℕ). StepsFall standings targets k c s.step) same falls }
  member_told k span within found same false fails = λ h. fails (subst (λ (c : ℕ). StepsFall standings targets k c s.step) (sym same) h.leaves)

  -- .. of the node in its set
  pub node_told : (spans : List Span) (k : ℕ) (span : Span) → s.set ≡ Some k → slice_get spans k ≡ Some span → (r : Bool) → MatchBool r (MemberHolds p standings targets k span s) (¬ MemberHolds p standings targets k span s)
      → MatchBool r (NodeHolds p standings targets spans s) (¬ NodeHolds p standings targets spans s)
  node_told spans k span of there true holds = λ j other of_j at_j.
      let here : k ≡ j = same_Some k j (sym of ∙ of_j) in
      let same : span ≡ other = same_Some span other (sym there ∙ ap (λ (n : ℕ). slice_get spans n) here ∙ at_j) in
      subst (λ (n : ℕ). MemberHolds p standings targets n other s) here (subst (λ (x : Span). MemberHolds p standings targets k x s) same holds)
  node_told spans k span of there false fails = λ all. fails (all k span of there)
