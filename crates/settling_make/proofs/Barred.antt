-- Why no settling certificate is valid where a circle doesn't settle or has too long a chain, or where a body may destroy its own object.
use Rattle.std.{proofs.Common.{◌≡◌, ℕ, ◌+◌, ◌*◌, ◌<◌, ◌≤◌, inl, inr, List, [], ◌∷◌, ◌++◌, length, slice_get, Some, refl, sym, ap, ◌∙◌, subst, arith}, specs.List.{Contains}, proofs.lemmas.Bool.{cases_lt}, proofs.lemmas.Option.{same_Some}, proofs.lemmas.List.Elements.{Contains-append_left, Contains-append_right}}
use Rattle.meta_model.specs.Loaded.{Loaded}
use Rattle.effect_scan.specs.{declared.node.Node.{Node}, Edges.{MayLead}, Laws.{IsNode, EdgesJoinNodes}}
use Rattle.effect_scan.specs.declared.node.Member.TheVariants as member
use Rattle.rank_check.{specs.Valid.{HasBody}, proofs.Elements.{place_of, element_at}}
use Rattle.rank_graph.specs.Walks.{LeadsBy, ComesBack}
use Rattle.settling.specs.{Hands.{HandOn}, Settles.{Carries, IsProperty}, declared.certificate.SettlingLine.{SettlingLine}, declared.certificate.SettlingSet.{SettlingSet}, declared.certificate.SettlingCertificate.{SettlingCertificate}, Sets.{IsMember, AreTogether}, Valid.{IsLineOf, Destroys, IsValid}}
use Rattle.settling_make.{specs.declared.circles.Circle.{Circle}, specs.declared.circles.Circle.TheVariants.{NoValue, OtherValue, NoProperty}, specs.Circles.{NoneIsValid, LeadsRound, DoesNotSettle, IsSilentEdge, LeadsToEnd}, specs.Makes.{IsLong}, proofs.Walks.{walk_join}}

no_step : (cost low high : ℕ) → 0 < cost → low + cost ≤ high → high ≤ low → ⊥
no_step cost low high some leaves level = omega arith

module _ (p : Loaded) (join : EdgesJoinNodes p) (certificate : SettlingCertificate) (valid : IsValid p certificate) where
  -- a node has one line
  pub one_line : (x : Node) (a b : SettlingLine) → IsLineOf p certificate x a → IsLineOf p certificate x b → a ≡ b
  one_line x a b h g =
      let i = place_of certificate.lines a h.stands in
      let j = place_of certificate.lines b g.stands in
      let same : i.0 ≡ j.0 = valid.nothing_else.once i.0 j.0 a b x i.1 j.1 h.named g.named in
      same_Some a b (sym i.1 ∙ ap (slice_get certificate.lines) same ∙ j.1)

  -- a walk of an edge or more begins at a node
  begins : (x : Node) (zs : List Node) (y : Node) → LeadsBy (MayLead p) x zs y → 0 < length zs → IsNode p x
  begins x [] y leads some = absurd (omega arith)
  begins x (z ∷ zs) y leads some = (join x z leads.0).0

  line_after : (x y : Node) → MayLead p x y → (line : SettlingLine) × IsLineOf p certificate y line
  line_after x y leads = valid.each_node y ((join x y leads).1)

  -- ---- along a walk the step doesn't rise
  step_falls : (x : Node) (zs : List Node) (y : Node) (a b : SettlingLine) → LeadsBy (MayLead p) x zs y → IsLineOf p certificate x a → IsLineOf p certificate y b → b.step ≤ a.step
  step_falls x [] y a b leads h g =
      let same : x ≡ y = leads in
      let one = ap (λ (l : SettlingLine). l.step) (one_line y a b (subst (λ (n : Node). IsLineOf p certificate n a) same h) g) in
      omega arith
  step_falls x (z ∷ zs) y a b leads h g =
      let line = line_after x z leads.0 in
      let first = valid.edges.steps x z a line.0 leads.0 h line.1 in
      let rest = step_falls z zs y line.0 b leads.1 line.1 g in
      omega arith

  -- so a walk at one step stays in the set where it begins
  stays : (set : SettlingSet) → Contains certificate.sets set → (x : Node) (zs : List Node) (y : Node) (a b : SettlingLine) → LeadsBy (MayLead p) x zs y → IsLineOf p certificate x a → IsLineOf p certificate y b → a.step ≤ b.step → IsMember p set x → ¬ IsMember p set y → ⊥
  stays set among x [] y a b leads h g level member none = let same : x ≡ y = leads in none (subst (λ (n : Node). IsMember p set n) same member)
  stays set among x (z ∷ zs) y a b leads h g level member none =
      let line = line_after x z leads.0 in
      let first = valid.edges.steps x z a line.0 leads.0 h line.1 in
      let rest = step_falls z zs y line.0 b leads.1 line.1 g in
      let round = valid.rounds set among in
      let outside : ¬ IsMember p set z = λ inside. stays set among z zs y line.0 b leads.1 line.1 g (omega arith) inside none in
      no_step (set.round * round.most) (line.0).step a.step round.some (round.leaves x z a line.0 leads.0 member outside h line.1) (omega arith)

  -- no edge of the walk is within a set
  abbrev NoneTogether : Node → List Node → Type 0
  NoneTogether x [] = Unit {0}
  NoneTogether x (z ∷ zs) = (¬ AreTogether p certificate x z) × NoneTogether z zs

  rank_falls : (x : Node) (zs : List Node) (y : Node) (a b : SettlingLine) → LeadsBy (MayLead p) x zs y → IsLineOf p certificate x a → IsLineOf p certificate y b → NoneTogether x zs → b.rank + length zs ≤ a.rank
  rank_falls x [] y a b leads h g none =
      let same : x ≡ y = leads in
      let one = ap (λ (l : SettlingLine). l.rank) (one_line y a b (subst (λ (n : Node). IsLineOf p certificate n a) same h) g) in
      omega arith
  rank_falls x (z ∷ zs) y a b leads h g none =
      let line = line_after x z leads.0 in
      let low = valid.edges.falls x z a line.0 leads.0 h line.1 none.0 in
      let rest = rank_falls z zs y line.0 b leads.1 line.1 g none.1 in
      omega arith

  -- ---- a circle lies in one set
  module _ (x y : Node) (round : LeadsRound p x y) (apart : ¬ AreTogether p certificate x y) where
    here : (line : SettlingLine) × IsLineOf p certificate x line
    here = valid.each_node x ((join x y round.leads).0)

    next : (line : SettlingLine) × IsLineOf p certificate y line
    next = line_after x y round.leads

    -- the set of one of its nodes has x, and then y too
    in_none : (k : ℕ) (set : SettlingSet) → slice_get certificate.sets k ≡ Some set → ¬ IsMember p set x
    in_none k set stands inside =
        let among = element_at certificate.sets k set stands in
        let level = step_falls y round.along x next.0 here.0 round.back next.1 here.1 in
        stays set among x (y ∷ []) y here.0 next.0 (round.leads, refl) here.1 next.1 level inside
        (λ also. apart (k, record { set = set; stands = stands; member = inside }, record { set = set; stands = stands; member = also }))

    none_within : (u : Node) (zs : List Node) (c : SettlingLine) → LeadsBy (MayLead p) u zs x → IsLineOf p certificate u c → c.step ≤ (here.0).step → NoneTogether u zs
    none_within u [] c leads h low = tt
    none_within u (v ∷ vs) c leads h low =
        let line = line_after u v leads.0 in
        let falls = valid.edges.steps u v c line.0 leads.0 h line.1 in (
          λ both.
              let second = both.2 in
              stays second.set (element_at certificate.sets both.0 second.set second.stands) v vs x line.0 here.0 leads.1 line.1 here.1 (omega arith) second.member (in_none both.0 second.set second.stands),
          none_within v vs line.0 leads.1 line.1 (omega arith),
        )

    not_apart : ⊥
    not_apart =
        let falls = valid.edges.steps x y here.0 next.0 round.leads here.1 next.1 in
        let none : NoneTogether x (y ∷ round.along) = (apart, none_within y round.along next.0 round.back next.1 falls) in
        let low = rank_falls x (y ∷ round.along) x here.0 here.0 (round.leads, round.back) here.1 here.1 none in
        omega arith

  value_bars : (x y : Node) → LeadsRound p x y → ¬ Carries p x → ⊥
  value_bars x y round none =
      not_apart x y round (λ both.
      let first = both.1 in
      none ((valid.rounds first.set (element_at certificate.sets both.0 first.set first.stands)).carries x first.member))

  way_bars : (x y : Node) → LeadsRound p x y → ¬ HandOn p x y → ⊥
  way_bars x y round none = not_apart x y round (λ both. none (valid.edges.within x y both round.leads))

  -- along a walk that leads back the rank falls, where no property is written
  silent_falls : (x : Node) (zs : List Node) (y : Node) (back : List Node) (a b : SettlingLine) → LeadsBy (MayLead p) x zs y → LeadsBy (MayLead p) y back x → ((z : Node) → Contains zs z → ¬ IsProperty z) → IsLineOf p certificate x a → IsLineOf p certificate y b → b.rank + length zs ≤ a.rank
  silent_falls x [] y back a b leads home silent h g = rank_falls x [] y a b leads h g tt
  silent_falls x (z ∷ zs) y back a b leads home silent h g =
      let line = line_after x z leads.0 in
      let whole = walk_join (MayLead p) z zs y back x leads.1 home in
      let there = walk_join (MayLead p) y back x (z ∷ []) z home (leads.0, refl) in
      let rest = silent_falls z zs y (back ++ z ∷ []) line.0 b leads.1 there (λ w held. silent w (Contains-append_right (z ∷ []) zs w held)) line.1 g in
      let round : LeadsRound p x z = record { leads = leads.0; along = zs ++ back; back = whole } in
      let low : (line.0).rank < a.rank = elim (cases_lt (line.0).rank a.rank) [
        | inl l ↦ l
        | inr m ↦ absurd (not_apart x z round (λ both.
            let falls = valid.edges.falls_within x z a line.0 leads.0 h line.1 both (silent z (Contains-append_left (z ∷ []) zs z (0, omega arith, refl))) in
            omega arith))
      ] in
      omega arith

  cycle_bars : (first : Node) (nodes : List Node) → ComesBack (MayLead p) first nodes → ((x : Node) → Contains nodes x → ¬ IsProperty x) → ⊥
  cycle_bars first nodes cycle silent =
      let walk = cycle.walk in
      let count = ap (λ (ns : List Node). length ns) walk.nodes_are in
      let more = cycle.some in
      let some : 0 < length walk.after = omega arith in
      let line = valid.each_node first (begins first walk.after first walk.leads some) in
      let none : (z : Node) → Contains walk.after z → ¬ IsProperty z = λ z held.
      silent z (subst (λ (ns : List Node). Contains ns z) (sym walk.nodes_are) (Contains-append_right (first ∷ []) walk.after z held)) in
      let low = silent_falls first walk.after first [] line.0 line.0 walk.leads refl none line.1 line.1 in
      omega arith

  -- ---- a body may destroy its own object
  walk_carries : (x : Node) (zs : List Node) (y : Node) (a b : SettlingLine) (d : ℕ) → LeadsBy (MayLead p) x zs y → IsLineOf p certificate x a → IsLineOf p certificate y b → Destroys p b d → Destroys p a d
  walk_carries x [] y a b d leads h g destroys =
      let same : y ≡ x = sym leads in
      let line : b ≡ a = one_line x b a (subst (λ (n : Node). IsLineOf p certificate n b) same g) h in
      subst (λ (l : SettlingLine). Destroys p l d) line destroys
  walk_carries x (z ∷ zs) y a b d leads h g destroys =
      let line = line_after x z leads.0 in
      valid.sets.passed_on x z a line.0 d leads.0 h line.1 (walk_carries z zs y line.0 b d leads.1 line.1 g destroys)

  end_invalid : (x : Node) → LeadsToEnd p x → ⊥
  end_invalid x ends =
      let line = valid.each_node x (begins x ends.along ends.to ends.leads (some x ends.along ends.to ends.leads ends.body ends.destruction)) in
      let end = last x ends.along ends.to ends.leads line.0 line.1 in
      let destroys = valid.sets.closures ends.to end.0 x.class ends.destruction end.1 ends.holds in
      valid.sets.spared x line.0 ends.body line.1 (walk_carries x ends.along ends.to line.0 end.0 x.class ends.leads line.1 end.1 destroys)
    where
      last : (x : Node) (zs : List Node) (y : Node) → LeadsBy (MayLead p) x zs y → (a : SettlingLine) → IsLineOf p certificate x a → (b : SettlingLine) × IsLineOf p certificate y b
      last x [] y leads a h = let same : x ≡ y = leads in (a, subst (λ (n : Node). IsLineOf p certificate n a) same h)
      last x (z ∷ zs) y leads a h = let line = line_after x z leads.0 in last z zs y leads.1 line.0 line.1

      -- a slot or native is no destruction
      some : (x : Node) (zs : List Node) (y : Node) → LeadsBy (MayLead p) x zs y → HasBody p x → y.member ≡ member.Destruction → 0 < length zs
      some x [] y leads body destruction = let same : x ≡ y = leads in let from = body.from in let e = ap (λ (n : Node). n.member) same in absurd (cc)
      some x (z ∷ zs) y leads body destruction = omega arith

  -- along edges of circles into no property the rank falls
  chain_falls : (x : Node) (zs : List Node) (y : Node) (a b : SettlingLine) → LeadsBy (IsSilentEdge p) x zs y → IsLineOf p certificate x a → IsLineOf p certificate y b → b.rank + length zs ≤ a.rank
  chain_falls x [] y a b leads h g = rank_falls x [] y a b leads h g tt
  chain_falls x (z ∷ zs) y a b leads h g =
      let round = leads.0.round in
      let line = line_after x z round.leads in
      let rest = chain_falls z zs y line.0 b leads.1 line.1 g in
      let low : (line.0).rank < a.rank = elim (cases_lt (line.0).rank a.rank) [
        | inl l ↦ l
        | inr m ↦ absurd (not_apart x z round (λ both.
            let falls = valid.edges.falls_within x z a line.0 round.leads h line.1 both leads.0.silent in
            omega arith))
      ] in
      omega arith

  long_invalid : (x : Node) → IsLong p x → ⊥
  long_invalid x long =
      let line = valid.each_node x (starts long.0 long.1 long.2 (omega (arith, long.3))) in
      let end = last x long.0 long.1 long.2 line.0 line.1 in
      let low = chain_falls x long.0 long.1 line.0 end.0 long.2 line.1 end.1 in
      let below = valid.bounded.ranks line.0 (line.1).stands in
      let most = valid.bounded.bound in
      let much = long.3 in
      omega (arith, low, below, most, much)
    where
      starts : (zs : List Node) (y : Node) → LeadsBy (IsSilentEdge p) x zs y → 0 < length zs → IsNode p x
      starts [] y leads some = absurd (omega arith)
      starts (z ∷ zs) y leads some = (join x z leads.0.round.leads).0

      last : (x : Node) (zs : List Node) (y : Node) → LeadsBy (IsSilentEdge p) x zs y → (a : SettlingLine) → IsLineOf p certificate x a → (b : SettlingLine) × IsLineOf p certificate y b
      last x [] y leads a h = let same : x ≡ y = leads in (a, subst (λ (n : Node). IsLineOf p certificate n a) same h)
      last x (z ∷ zs) y leads a h = let line = line_after x z leads.0.round.leads in last z zs y leads.1 line.0 line.1

  circle_invalid : (circle : Circle) → DoesNotSettle p circle → ⊥
  circle_invalid (NoValue x y) stands = value_bars x y stands.0 stands.1
  circle_invalid (OtherValue x y) stands = way_bars x y stands.0 stands.1
  circle_invalid (NoProperty x) stands = cycle_bars x stands.0 stands.1 stands.2

pub circle_bars : (p : Loaded) → EdgesJoinNodes p → (circle : Circle) → DoesNotSettle p circle → NoneIsValid p
circle_bars p join circle stands certificate valid = circle_invalid p join certificate valid circle stands

pub end_bars : (p : Loaded) → EdgesJoinNodes p → (x : Node) → LeadsToEnd p x → NoneIsValid p
end_bars p join x ends certificate valid = end_invalid p join certificate valid x ends

pub long_bars : (p : Loaded) → EdgesJoinNodes p → (x : Node) → IsLong p x → NoneIsValid p
long_bars p join x long certificate valid = long_invalid p join certificate valid x long
