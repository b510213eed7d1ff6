-- What isn't written keeps its value, where nothing that it follows changes (docs/settling-proof.md, "A write").
use Rattle.std.{proofs.Common.{◌≡◌, ◌≢◌, ◌⊎◌, inl, inr, ℕ, zero, suc, ◌+◌, ◌*◌, ◌<◌, ◌≤◌, List, [], ◌∷◌, Option, None, Some, refl, sym, ◌∙◌, subst, arith}, specs.List.{Contains}, proofs.lemmas.Bool.{cases_lt}}
use Rattle.basic_types.specs.declared.value.Value.{Value}
use Rattle.meta_model.specs.{Loaded.{Loaded}, Sound.{IsSound}}
use Rattle.effect_scan.specs.{declared.node.Node.{Node}, Edges.{by_site, BySite}}
use Rattle.binding_graph.{specs.declared.binding.Binding.{Binding}, specs.declared.place.Place.{Place}, specs.Bindings.{Reads}, specs.Places.{In}, proofs.Naming.{value-agree}, proofs.Places.{decide_in}}
use Rattle.settling.specs.{declared.certificate.SettlingLine.{SettlingLine}, declared.certificate.SettlingSet.{SettlingSet}, declared.certificate.SettlingCertificate.{SettlingCertificate}, Sets.{IsMember}, Valid.{IsLineOf, Destroys, IsRound, IsValid}}
use Rattle.settled_runs.{specs.Writes.{IsAtNode, IsLineAt, IsDrawn, AreWritten, IsNoHigher}, proofs.Edges.{one-node, line-at, site-apart, site-falls, leaves-set, line-before, line-after}}

module _ {p : Loaded} {certificate : SettlingCertificate} (sound : IsSound p) (valid : IsValid p certificate) {classes : ℕ → Option ℕ}
    {before after : Place → Option Binding} {old new : Place → Option Value} {written : List Place} (are : AreWritten p classes before after old new written) where
  -- no binding reads it
  abbrev pub IsUnread : Place → Type 0
  IsUnread w = (q : Place) (b : Binding) → after q ≡ Some b → ¬ Reads b w

  -- ---- by what is read

  module _ (P : Place → Type 0) (closed : (q m : Place) (b : Binding) → P q → after q ≡ Some b → Reads b m → P m)
      (stays : (w : Place) → In w written → P w → (new w ≡ old w) ⊎ IsUnread w) where
    -- its rank leaves so much
    abbrev Fuel : ℕ → Place → Type 0
    Fuel n q = (line : SettlingLine) → IsLineAt p certificate classes q line → certificate.bound ≤ line.rank + n

    fuel-read : (n : ℕ) (q m : Place) → IsDrawn p classes m q → Fuel (suc n) q → Fuel n m
    fuel-read n q m drawn fuel above is =
        let below = line-after valid sound (by_site drawn.site) in
        let left = fuel below.0 (record { node = drawn.to; at = drawn.is_to; is = below.1 }) in
        let falls = site-falls valid drawn.site (line-at valid is drawn.is_from) below.1 in
        omega (arith, left, falls)

    no-fuel : (q m : Place) → ¬ (IsDrawn p classes m q × Fuel zero q)
    no-fuel q m h =
        let drawn = h.0 in
        let below = line-after valid sound (by_site drawn.site) in
        let left = h.1 below.0 (record { node = drawn.to; at = drawn.is_to; is = below.1 }) in
        let low = valid.bounded.ranks below.0 below.1.stands in
        omega (arith, left, low)

    by-read : (q : Place) → ¬ In q written → P q → ((b : Binding) (m : Place) → after q ≡ Some b → Reads b m → ¬ In m written → new m ≡ old m) → new q ≡ old q
    by-read q other has more = by_binding (after q) refl
      where
        read : (b : Binding) (m : Place) → after q ≡ Some b → Reads b m → new m ≡ old m
        read b m is reads = elim (decide_in m written) [
          | inl here ↦ elim (stays m here (closed q m b has is reads)) [ inl same ↦ same | inr unread ↦ absurd (unread q b is reads) ]
          | inr out ↦ more b m is reads out
        ]

        by_binding : (found : Option Binding) → after q ≡ found → new q ≡ old q
        by_binding None is = are.kept q other is
        by_binding (Some b) is =
            are.settled_new q b is ∙ value-agree b new old (λ m reads. read b m is reads) ∙ sym (are.settled_old q b (are.same q b other is))

    unwritten : (n : ℕ) (q : Place) → Fuel n q → ¬ In q written → P q → new q ≡ old q
    unwritten zero q fuel other has = by-read q other has (λ b m is reads out. absurd (no-fuel q m (are.drawn q m b is reads, fuel)))
    unwritten (suc n) q fuel other has =
        by-read q other has (λ b m is reads out. unwritten n m (fuel-read n q m (are.drawn q m b is reads) fuel) out (closed q m b has is reads))

    -- P leads from a place to those that its binding reads, and what is written doesn't tell there
    pub unchanged : (q : Place) → ¬ In q written → P q → new q ≡ old q
    unchanged q other has = unwritten certificate.bound q (λ line is. omega arith) other has

  -- ---- by lines

  module _ (Q : SettlingLine → Type 0) (up : (x y : Node) (a b : SettlingLine) → BySite p x y → IsLineOf p certificate x a → IsLineOf p certificate y b → Q b → Q a)
      (none : (w : Place) (other : SettlingLine) → In w written → IsLineAt p certificate classes w other → ¬ Q other) where
    pub high-stays : (q : Place) (line : SettlingLine) → IsLineAt p certificate classes q line → Q line → new q ≡ old q
    high-stays q line is high = elim (decide_in q written) [
      | inl here ↦ absurd (none q line here is high)
      | inr out ↦
          unchanged (λ z. (l : SettlingLine) × IsLineAt p certificate classes z l × Q l)
          (λ z m b has at reads.
          let drawn = are.drawn z m b at reads in
          let above = line-before valid sound (by_site drawn.site) in
          (above.0, record { node = drawn.from; at = drawn.is_from; is = above.1 }, up drawn.from drawn.to above.0 has.0 drawn.site above.1 (line-at valid has.1 drawn.is_to) has.2))
          (λ w here has. absurd (none w has.0 here has.1 has.2)) q out (line, is, high)
    ]

  -- what changes is no higher than what no written place is above
  pub followers-low : (line : SettlingLine) → ((w : Place) (other : SettlingLine) → In w written → IsLineAt p certificate classes w other → IsNoHigher p line other)
      → (q : Place) (upper : SettlingLine) → IsLineAt p certificate classes q upper → new q ≢ old q → IsNoHigher p line upper
  followers-low line low q upper is changed = record {
    rank = elim (cases_lt line.rank upper.rank) [
      | inl high ↦ absurd (changed (high-stays (λ l. line.rank < l.rank)
          (λ x y a b site from to more. let falls = site-falls valid site from to in omega (arith, falls, more))
          (λ w other here at more. let most = (low w other here at).rank in omega (arith, most, more)) q upper is high))
      | inr fits ↦ fits
    ];
    step = elim (cases_lt line.step upper.step) [
      | inl high ↦ absurd (changed (high-stays (λ l. line.step < l.step)
          (λ x y a b site from to more. let steps = valid.edges.steps x y a b (by_site site) from to in omega (arith, steps, more))
          (λ w other here at more. let most = (low w other here at).step in omega (arith, most, more)) q upper is high))
      | inr fits ↦ fits
    ];
    set = λ d out held. changed (high-stays (λ l. Destroys p l d)
        (λ x y a b site from to more. valid.sets.passed_on x y a b d (by_site site) from to more)
        (λ w other here at more. (low w other here at).set d out more) q upper is held);
  }

  -- nothing follows from what doesn't tell
  pub nothing-follows : ((w : Place) → In w written → (new w ≡ old w) ⊎ IsUnread w) → (q : Place) → ¬ In q written → new q ≡ old q
  nothing-follows still q other = unchanged (λ z. Unit {0}) (λ z m b has is reads. tt) (λ w here has. still w here) q other tt

module _ {p : Loaded} {certificate : SettlingCertificate} (sound : IsSound p) (valid : IsValid p certificate) {classes : ℕ → Option ℕ}
    {before after : Place → Option Binding} {old new : Place → Option Value} {written : Place} (are : AreWritten p classes before after old new (written ∷ []))
    (set : SettlingSet) (round : IsRound p certificate set) {x : Node} {line : SettlingLine} (at : IsAtNode classes written x) (member : IsMember p set x)
    (there : Contains certificate.sets set) (is : IsLineOf p certificate x line) where
  -- the step is above that of what leaves the set
  abbrev IsHigh : SettlingLine → Type 0
  IsHigh l = line.step < l.step + set.round * round.most

  read-high : (z m : Place) (l : SettlingLine) → IsDrawn p classes m z → IsLineAt p certificate classes z l → IsHigh l → (m ≢ written) × ((a : SettlingLine) × IsLineAt p certificate classes m a × IsHigh a)
  read-high z m l drawn low high =
      let site = drawn.site in
      let to = line-at valid low drawn.is_to in
      let above = line-before valid sound (by_site site) in
      let steps = valid.edges.steps drawn.from drawn.to above.0 l (by_site site) above.1 to in (
        λ same.
            let here = subst (λ (w : Place). IsLineAt p certificate classes w line) (sym same) (record { node = x; at = at; is = is }) in
            let of = subst (λ (w : Place). IsAtNode classes w drawn.from) same drawn.is_from in
            let from = line-at valid here drawn.is_from in
            let left = leaves-set valid set round there (member-at of) (by_site site) (site-apart valid site) from to in
            omega (arith, left, high),
        (above.0, record { node = drawn.from; at = drawn.is_from; is = above.1 }, omega (arith, steps, high)),
      )
    where
      member-at : {y : Node} → IsAtNode classes written y → IsMember p set y
      member-at {y} of = subst (λ (z : Node). IsMember p set z) (one-node at of) member

  -- so what isn't so low stays as it is
  pub stays-high : (q : Place) (upper : SettlingLine) → IsLineAt p certificate classes q upper → q ≢ written → IsHigh upper → new q ≡ old q
  stays-high q upper low other high =
      unchanged sound valid are
      (λ z. (z ≢ written) × ((l : SettlingLine) × IsLineAt p certificate classes z l × IsHigh l))
      (λ z m b has bound reads. read-high z m has.1.0 (are.drawn z m b bound reads) has.1.1 has.1.2)
      (λ w here has. absurd (alone w here has.0)) q (λ here. alone q here other) (other, (upper, low, high))
    where
      alone : (w : Place) → In w (written ∷ []) → (w ≢ written) → ⊥
      alone w (inl e) differs = differs (sym e)
      alone w (inr none) differs = none

  -- what else changes has left the set
  pub followers-leave : (q : Place) (upper : SettlingLine) → IsLineAt p certificate classes q upper → q ≢ written → new q ≢ old q → upper.step + set.round * round.most ≤ line.step
  followers-leave q upper low other changed = elim (cases_lt line.step (upper.step + set.round * round.most)) [
    | inl high ↦ absurd (changed (stays-high q upper low other high))
    | inr fits ↦ fits
  ]
