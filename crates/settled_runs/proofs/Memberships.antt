-- Whether a node is in a set, and what an edge does to levels (docs/settling-proof.md, "Edges").
use Rattle.std.{proofs.Common.{◌≡◌, ◌≢◌, ◌⊎◌, inl, inr, ℕ, zero, suc, ◌+◌, ◌*◌, ◌<◌, ◌≤◌, List, [], ◌∷◌, Some, slice_get, refl, sym, ap, ◌∙◌, subst, arith}, specs.List.{Contains}, proofs.lemmas.Bool.{cases_eq}, proofs.lemmas.Option.{same_Some, none-some}}
use Rattle.meta_model.{specs.Loaded.{Loaded}, specs.Sound.{IsSound}, proofs.OneAnswer.{one_class}}
use Rattle.effect_scan.specs.{declared.node.Node.{Node}, declared.node.Member.{Member}, declared.node.Member.TheVariants.{Method, Property, Destruction}, Edges.{MayLead}, Nodes.{node}}
use Rattle.certificate_lang.specs.declared.certificate.NodeName.{NodeName}
use Rattle.rank_check.{specs.Names.{IsMemberNamed, IsNodeNamed}, proofs.Elements.{place_of, element_at}, proofs.Named.{one_member}}
use Rattle.settling.specs.{declared.certificate.SettlingLine.{SettlingLine}, declared.certificate.SettlingSet.{SettlingSet}, declared.certificate.SettlingCertificate.{SettlingCertificate}, Sets.{IsMember, IsIn, AreTogether}, Settles.{IsProperty}, Hands.{HandOn}, Valid.{IsLineOf, Destroys, IsRound, IsValid}}

-- ---- whether they are one

decide-member : (a b : Member) → (a ≡ b) ⊎ (a ≢ b)
decide-member (Method m) (Method n) = elim (cases_eq m n) [ inl e ↦ inl (ap Method e) | inr differs ↦ inr (λ h. differs (cc h)) ]
decide-member (Method m) (Property q) = inr (λ h. cc h)
decide-member (Method m) Destruction = inr (λ h. cc h)
decide-member (Property q) (Method m) = inr (λ h. cc h)
decide-member (Property q) (Property r) = elim (cases_eq q r) [ inl e ↦ inl (ap Property e) | inr differs ↦ inr (λ h. differs (cc h)) ]
decide-member (Property q) Destruction = inr (λ h. cc h)
decide-member Destruction (Method m) = inr (λ h. cc h)
decide-member Destruction (Property q) = inr (λ h. cc h)
decide-member Destruction Destruction = inl refl

decide-node : (x y : Node) → (x ≡ y) ⊎ (x ≢ y)
decide-node x y = elim (cases_eq x.class y.class) [
  | inl class ↦ elim (decide-member x.member y.member) [
    | inl member ↦ inl (ap (λ (c : ℕ). node c x.member) class ∙ ap (λ (m : Member). node y.class m) member)
    | inr differs ↦ inr (λ h. differs (ap (λ (z : Node). z.member) h))
  ]
  | inr differs ↦ inr (λ h. differs (ap (λ (z : Node). z.class) h))
]

in-cases : {X : Type 0} (x y : X) (xs : List X) → Contains (x ∷ xs) y → (x ≡ y) ⊎ Contains xs y
in-cases x y xs h = let at = place_of (x ∷ xs) y h in by_place at.0 at.1
  where
    by_place : (k : ℕ) → slice_get (x ∷ xs) k ≡ Some y → (x ≡ y) ⊎ Contains xs y
    by_place zero e = inl (same_Some x y e)
    by_place (suc k) e = inr (element_at xs k y e)

in-rest : {X : Type 0} (x y : X) (xs : List X) → Contains xs y → Contains (x ∷ xs) y
in-rest x y xs h = let at = place_of xs y h in element_at (x ∷ xs) (suc at.0) y at.1

module _ {p : Loaded} (sound : IsSound p) where
  one-name : (name : NodeName) (x y : Node) → IsNodeNamed p name x → IsNodeNamed p name y → x ≡ y
  one-name name x y h g =
      let class : y.class ≡ x.class = one_class p sound name.class x.class y.class h.class g.class in
      let member : x.member ≡ y.member = one_member p sound x.class name.member x.member y.member h.member (subst (λ (c : ℕ). IsMemberNamed p c name.member y.member) class g.member) in
      ap (λ (m : Member). node x.class m) member ∙ ap (λ (c : ℕ). node c y.member) (sym class)

  module _ {certificate : SettlingCertificate} (valid : IsValid p certificate) (x : Node) where
    abbrev IsAmong : List NodeName → Type 0
    IsAmong names = (name : NodeName) × Contains names name × IsNodeNamed p name x

    decide-among : (names : List NodeName) → ((name : NodeName) → Contains names name → (y : Node) × IsNodeNamed p name y) → IsAmong names ⊎ (¬ IsAmong names)
    decide-among [] each = inr (λ h. let at = place_of [] h.0 h.1 in none-some h.0 at.1)
    decide-among (name ∷ names) each =
        let own = each name (element_at (name ∷ names) 0 name refl) in
        elim (decide-node own.0 x) [
          | inl same ↦ inl (name, element_at (name ∷ names) 0 name refl, subst (λ (y : Node). IsNodeNamed p name y) same own.1)
          | inr differs ↦ elim (decide-among names (λ other h. each other (in-rest name other names h))) [
            | inl rest ↦ inl (rest.0, in-rest name rest.0 names rest.1, rest.2)
            | inr none ↦ inr (λ h. elim (in-cases name h.0 names h.1) [
              | inl e ↦ differs (one-name name own.0 x own.1 (subst (λ (n : NodeName). IsNodeNamed p n x) (sym e) h.2))
              | inr more ↦ none (h.0, more, h.2)
            ])
          ]
        ]

    abbrev IsInOne : List SettlingSet → Type 0
    IsInOne sets = (k : ℕ) × (set : SettlingSet) × (slice_get sets k ≡ Some set) × IsMember p set x

    decide-sets : (sets : List SettlingSet) → ((set : SettlingSet) → Contains sets set → Contains certificate.sets set) → IsInOne sets ⊎ (¬ IsInOne sets)
    decide-sets [] each = inr (λ h. none-some h.1 h.2)
    decide-sets (set ∷ sets) each =
        let there = each set (element_at (set ∷ sets) 0 set refl) in
        elim (decide-among set.members (λ name h. valid.nothing_else.members set name there h)) [
          | inl own ↦ inl (0, set, refl, record { name = own.0; among = own.1; named = own.2 })
          | inr other ↦ elim (decide-sets sets (λ s h. each s (in-rest set s sets h))) [
            | inl rest ↦ inl (suc rest.0, rest.1, rest.2, rest.3)
            | inr none ↦ inr (λ h. by_place h.0 h.1 h.2 h.3 other none)
          ]
        ]
      where
        by_place : (k : ℕ) (s : SettlingSet) → slice_get (set ∷ sets) k ≡ Some s → IsMember p s x → (¬ IsAmong set.members) → (¬ IsInOne sets) → ⊥
        by_place zero s e member other none =
            let own = subst (λ (t : SettlingSet). IsMember p t x) (sym (same_Some set s e)) member in
            other (own.name, own.among, own.named)
        by_place (suc k) s e member other none = none (k, s, e, member)

    -- a node is in a set, or in none
    pub decide-in : ((k : ℕ) × IsIn p certificate k x) ⊎ ((k : ℕ) → ¬ IsIn p certificate k x)
    decide-in = elim (decide-sets certificate.sets (λ set h. h)) [
      | inl found ↦ inl (found.0, record { set = found.1; stands = found.2; member = found.3 })
      | inr none ↦ inr (λ k is. none (k, is.set, is.stands, is.member))
    ]

  module _ {certificate : SettlingCertificate} (valid : IsValid p certificate) where
    -- .. so in one set or not
    pub decide-here : (k : ℕ) (x : Node) → IsIn p certificate k x ⊎ (¬ IsIn p certificate k x)
    decide-here k x = elim (decide-in valid x) [
      | inl found ↦ elim (cases_eq found.0 k) [
        | inl same ↦ inl (subst (λ (j : ℕ). IsIn p certificate j x) same found.1)
        | inr differs ↦ inr (λ is. differs (valid.nothing_else.apart found.0 k x found.1 is))
      ]
      | inr none ↦ inr (none k)
    ]

-- ---- edges

module _ (p : Loaded) (certificate : SettlingCertificate) where
  -- within a set
  pub record Turn (k : ℕ) (x y : Node) (a b : SettlingLine) : Type 0 where
    pub from : IsIn p certificate k x
    pub to : IsIn p certificate k y
    pub hands : HandOn p x y
    pub step : b.step ≡ a.step
    pub falls : (¬ IsProperty y) → b.rank < a.rank
    pub rises : b.rank < a.rank + from.set.round
    pub above : 0 < a.rank

  -- from one set to another, or outside of sets
  pub record Exit (x y : Node) (a b : SettlingLine) : Type 0 where
    pub apart : ¬ AreTogether p certificate x y
    pub falls : b.rank < a.rank
    pub step : b.step ≤ a.step
    pub leaves : (k : ℕ) (set : SettlingSet) (round : IsRound p certificate set) → slice_get certificate.sets k ≡ Some set → IsMember p set x → b.step + set.round * round.most ≤ a.step

module _ {p : Loaded} {certificate : SettlingCertificate} (sound : IsSound p) (valid : IsValid p certificate) {x y : Node} {a b : SettlingLine}
    (leads : MayLead p x y) (from : IsLineOf p certificate x a) (to : IsLineOf p certificate y b) where
  pub destroy-falls : (d : ℕ) → ¬ Destroys p a d → ¬ Destroys p b d
  destroy-falls d none held = none (valid.sets.passed_on x y a b d leads from to held)

  pub exits : (¬ AreTogether p certificate x y) → Exit p certificate x y a b
  exits apart = record {
    apart = apart;
    falls = valid.edges.falls x y a b leads from to apart;
    step = valid.edges.steps x y a b leads from to;
    leaves = λ k set round stands member. round.leaves x y a b leads member
        (λ other. apart (k, record { set = set; stands = stands; member = member }, record { set = set; stands = stands; member = other })) from to;
  }

  pub turns : (k : ℕ) → IsIn p certificate k x → IsIn p certificate k y → Turn p certificate k x y a b
  turns k is_from is_to =
      let together : AreTogether p certificate x y = (k, is_from, is_to) in
      let round = valid.rounds is_from.set (element_at certificate.sets k is_from.set is_from.stands) in
      let same : is_to.set ≡ is_from.set = same_Some _ _ (sym is_to.stands ∙ is_from.stands) in
      let member = subst (λ (s : SettlingSet). IsMember p s y) same is_to.member in
      record {
        from = is_from;
        to = is_to;
        hands = valid.edges.within x y together leads;
        step = sym (round.one_step x y a b is_from.member member from to);
        falls = λ other. valid.edges.falls_within x y a b leads from to together other;
        rises = round.close x y a b is_from.member member from to;
        above = round.above x a is_from.member from;
      }

  -- an edge turns within a set, or exits
  pub edge-cases : ((k : ℕ) × Turn p certificate k x y a b) ⊎ Exit p certificate x y a b
  edge-cases = elim (decide-in sound valid x) [
    | inl here ↦ elim (decide-here sound valid here.0 y) [
      | inl there ↦ inl (here.0, turns here.0 here.1 there)
      | inr out ↦ inr (exits (λ together. out (subst (λ (k : ℕ). IsIn p certificate k y) (valid.nothing_else.apart together.0 here.0 x together.1 here.1) together.2)))
    ]
    | inr none ↦ inr (exits (λ together. none together.0 together.1))
  ]

  -- what an edge begins at has a rank above 0
  pub source-above : 0 < a.rank
  source-above = elim edge-cases [
    | inl turn ↦ (turn.1).above
    | inr exit ↦ let fall = exit.falls in omega (arith, fall)
  ]
