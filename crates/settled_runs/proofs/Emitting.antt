-- Emissions and updates keep what a run keeps (docs/settling-proof.md, "Each rule keeps it").
use Rattle.std.{proofs.Common.{◌≡◌, inl, inr, ℕ, zero, suc, Bool, true, false, List, [], ◌∷◌, take, length, slice_get, Option, Some, None, refl, sym, ap, ◌∙◌, subst, arith}, specs.Option.{option_map}, proofs.lemmas.Option.{same_Some, none-some}}
use Rattle.basic_types.specs.{declared.value.Value.{Value}}
use Rattle.meta_model.specs.{Loaded.{Loaded}, Members.{Below}, Sound.{IsSound}}
use Rattle.connections.specs.declared.connection.Connection.{Connection}
use Rattle.object_tree.specs.{declared.life.Life.{Life}, Objects.{life_of}, Seen.{seen}}
use Rattle.binding_graph.specs.declared.place.Place.{Place}
use Rattle.effect_scan.specs.{declared.node.Node.{Node}, declared.node.Member.TheVariants.{Method, Property}, Nodes.{node, named}, Edges.{MayLead, by_wire, by_notify}}
use Rattle.machine_state.{specs.Connections.{next_used}, specs.State.{State, Activation, Emit, Update}, specs.Turns.{running, reaches_at_once}, proofs.Due.{all-used, used-due, used-among}}
use Rattle.machine_rules.{specs.Good.{IsWell as IsGiven}, specs.Rules.{EmitRule, UpdateRule, NotifiesIf, Arrives, with_used}, proofs.Dying.{lives-not-dead}, proofs.Keeps.{class-of-lives}}
use Rattle.settling.specs.{declared.certificate.SettlingLine.{SettlingLine}, declared.certificate.SettlingCertificate.{SettlingCertificate}, Sets.{IsIn}, Valid.{IsLineOf, IsValid}}
use Rattle.object_machine.proofs.CheckedRuns.{Invariant.{EmitStands, IsWired}, Nodes.{late-named, named-again}}
use Rattle.object_machine.proofs.CheckedRuns.Staying.{not-queued}
use Rattle.settled_runs.{specs.Writes.{IsAtNode}, specs.Levels.{Carried, Level, AreCosts, FallsTo, IsWell}, specs.Written.{HaveWritten}, proofs.Edges.{line-before, line-after, one-node}, proofs.Pushing.{bound, CarriesFirst, Begins, begins-over, begins-apart}, proofs.Invariant.{MethodStands, IsFollower, IsWrittenIn, UpdateStands, outside, wrote, Stacked}, proofs.Begun.{Covered, Held, fits-begun, signal-held, begun-held}}

-- the first of some that are taken is the first
first-taken : (n : ℕ) (given : List Value) (a : Value) → slice_get (take n given) 0 ≡ Some a → slice_get given 0 ≡ Some a
first-taken zero given a is = absurd (none-some a is)
first-taken (suc n) [] a is = absurd (none-some a is)
first-taken (suc n) (v ∷ given) a is = is

module _ {p : Loaded} {certificate : SettlingCertificate} (sound : IsSound p) (valid : IsValid p certificate) (cost : ℕ → ℕ) (costs : AreCosts p certificate cost) (classes : ℕ → Option ℕ) where
  -- a connection is used at once, or its call is posted; with none left the emission ends
  pub emission-held : (s t : State) (below : List Activation) (level : Level certificate) (levels : List (Level certificate)) (o g : ℕ) (arguments : List Value) (used last : ℕ) → Covered sound valid cost classes s → IsGiven p s t → length s.stack ≡ suc (length below)
      → MethodStands p s.objects arguments level (EmitStands classes o g) → IsWell p classes level → FallsTo p cost s.objects levels level → Stacked p cost classes s.objects below levels → HaveWritten s.objects (level ∷ levels)
      → (found : Option Connection) → next_used s.objects s.connected.connections o g used last ≡ found → EmitRule p s o g arguments last below t found → Held sound valid cost classes t
  emission-held s t below level levels o g arguments used last covered given high emits well falls st written None is e =
      let Family : State → Type 0 = λ v. Held sound valid cost classes v in
      subst Family (sym e) (record { covered = covered; levels = levels; stacked = st; written = written.1 })
  emission-held s t below level levels o g arguments used last covered given high emits well falls st written (Some c) is u =
      by_way (reaches_at_once c.kind u.home (running s.turn)) refl u.arrives
    where
      after_it : State
      after_it = with_used s c

      covered_used : Covered sound valid cost classes after_it
      covered_used = record { known = covered.known; owned = covered.owned; wired = all-used (IsWired p classes) c s.connected covered.wired; sited = covered.sited }

      wired : IsWired p classes c
      wired = used-among (IsWired p classes) s.objects s.connected.connections o g used last c covered.wired is

      due : (c.sender ≡ o) × (c.signal ≡ g)
      due = (used-due s.objects s.connected.connections o g used last c is).0

      stack : List Activation
      stack = Emit o g arguments c.number last ∷ below

      passed : List Value
      passed = take (length (u.method).types) arguments

      stands : Stacked p cost classes s.objects (Emit o g arguments c.number last ∷ below) (level ∷ levels)
      stands = (emits, well, falls, st)

      target : Node
      target = node (u.is).life.class (Method (named c.method))

      late : named c.method ≡ c.method
      late = subst (λ (m : ℕ). named m ≡ m) (sym wired.method) (late-named (wired.wire).method ((sound.wires wired.wire wired.declared).called))

      leads : reaches_at_once c.kind u.home (running s.turn) ≡ true → MayLead p emits.node target
      leads once =
          let receiver : wired.receiver ≡ (u.is).life.class = same_Some _ _ (sym wired.is_receiver ∙ (covered.known).lives c.receiver (u.is).life.class (class-of-lives s.objects c.receiver (u.is).lives)) in
          let sender : wired.sender ≡ (emits.stands).class = same_Some _ _ (sym wired.is_sender ∙ ap classes due.0 ∙ (emits.stands).is) in
          let signal : named g ≡ named (wired.wire).signal = ap named (sym due.1 ∙ wired.signal) ∙ named-again (wired.wire).signal in
          subst (λ (z : Node). MayLead p z target) (sym (emits.stands).at) (by_wire (record {
            wire = wired.wire;
            declared = wired.declared;
            at_once = λ queued. not-queued c.kind u.home (running s.turn) once (wired.kind ∙ queued);
            from = record { below = subst (λ (k : ℕ). Below p k (wired.wire).sender) sender wired.above_sender; is = ap Method signal };
            to = record { below = subst (λ (k : ℕ). Below p k (wired.wire).receiver) receiver wired.above_receiver; is = ap Method (late ∙ wired.method) };
          }))

      handed : (carried : Carried) → level.within ≡ Some carried → CarriesFirst s.objects carried passed
      handed carried within = λ a first. emits.carries carried within a (first-taken (length (u.method).types) arguments a first)

      by_way : (b : Bool) → reaches_at_once c.kind u.home (running s.turn) ≡ b → Arrives after_it stack u.home c.receiver u.receiver c.method u.method passed t b → Held sound valid cost classes t
      by_way false later x =
          let Family : State → Type 0 = λ v. Held sound valid cost classes v in
          subst Family (sym x.gives) (record { covered = covered_used; levels = level ∷ levels; stacked = stands; written = written })
      by_way true once x =
          let line = line-after valid sound (leads once) in
          let typed = fits-begun sound valid cost classes after_it t (length s.stack) stack c.receiver u.receiver c.method u.method passed (u.method).work u.is (omega (arith, high)) given.arguments x in
          begun-held sound valid cost classes after_it t stack c.receiver u.receiver c.method u.method passed (u.method).work (level ∷ levels) covered_used u.is refl refl line.1
          (begins-over sound valid cost costs classes s.objects level levels passed (leads once) emits.is line.1 (λ h. absurd (cc h.is)) emits.is_inside (λ carried within member hands. handed carried within)) typed stands written x

  -- the next property is notified, if its object lives; with none left the update ends
  pub update-held : (s t : State) (below : List Activation) (level : Level certificate) (levels : List (Level certificate)) (places : List Place) → Covered sound valid cost classes s → UpdateStands p cost classes places level → IsWell p classes level
      → FallsTo p cost s.objects levels level → Stacked p cost classes s.objects below levels → HaveWritten s.objects (level ∷ levels) → UpdateRule p s below t places → Held sound valid cost classes t
  update-held s t below level levels [] covered up well falls st written e =
      let Family : State → Type 0 = λ v. Held sound valid cost classes v in
      subst Family (sym e) (record { covered = covered; levels = levels; stacked = st; written = written.1 })
  update-held s t below level levels (place ∷ places) covered up well falls st written rule = by_life (life_of s.objects place.object) rule
    where
      rest : UpdateStands p cost classes (place ∷ places) level → UpdateStands p cost classes places level
      rest (outside alone all) = outside alone all.1
      rest (wrote within is there all) = wrote within is there all.1

      by_life : (life : Option Life) → NotifiesIf p s (Update places ∷ below) place t life → Held sound valid cost classes t
      by_life None e =
          let Family : State → Type 0 = λ v. Held sound valid cost classes v in
          subst Family (sym e) (record { covered = covered; levels = level ∷ levels; stacked = (rest up, well, falls, st); written = written })
      by_life (Some l) n =
          signal-held sound valid cost classes s t (Update places ∷ below) place.object n.object n.signal class n.method passed (level ∷ levels) covered known refl line.1 (by_standing up) (rest up, well, falls, st) written n.gives
        where
          class : ℕ
          class = (n.is).life.class

          known : classes place.object ≡ Some class
          known = (covered.known).lives place.object class (class-of-lives s.objects place.object (n.is).lives)

          passed : List Value
          passed = take (length (n.method).types) (n.present ∷ [])

          source : Node
          source = node class (Property place.property)

          at_source : IsAtNode classes place source
          at_source = record { class = class; is = known; at = refl }

          target : Node
          target = node class (Method (named n.signal))

          leads : MayLead p source target
          leads = by_notify (record { number = place.property; property = n.property; is = record { class = (n.is).class; is_class = (n.is).is_class; is = (n.is).is_property }; from = refl; signal = n.signal; notifies = n.is_signal; to = refl })

          line : (a : SettlingLine) × IsLineOf p certificate target a
          line = line-after valid sound leads

          above : (a : SettlingLine) × IsLineOf p certificate source a
          above = line-before valid sound leads

          following : IsFollower p cost classes level place → Begins p cost classes s.objects (level ∷ levels) target line.0 passed
          following f =
              let own = subst (λ (z : Node). IsLineOf p certificate z above.0) (one-node at_source f.at) above.1 in
              begins-apart sound valid cost costs classes s.objects level levels passed leads above.1 line.1 (λ h. absurd (cc h.is)) (f.low above.0 own) (f.leaves above.0 own)

          present : (carried : Carried) → level.within ≡ Some carried → level.wrote ≡ Some place → seen s.objects n.present ≡ seen s.objects carried.value
          present carried within is = elim (written.0 carried place within is) [
            | inl over ↦ absurd (lives-not-dead (n.is).lives over)
            | inr has ↦ same_Some _ _ (ap (option_map (seen s.objects)) (sym n.is_present) ∙ has)
          ]

          written_now : {carried : Carried} {written_place : Place} → level.within ≡ Some carried → level.wrote ≡ Some written_place → IsWrittenIn p classes level carried written_place → place ≡ written_place → Begins p cost classes s.objects (level ∷ levels) target line.0 passed
          written_now {carried} within is there same =
              let here = subst (λ (q : Place). IsAtNode classes q (there.there).node) (sym same) (there.there).at in
              let one = one-node here at_source in
              let from = subst (λ (z : Node). IsLineOf p certificate z level.line) one there.is in
              let member = subst (λ (z : Node). IsIn p certificate carried.set z) one (there.there).is in
              begins-over sound valid cost costs classes s.objects level levels passed leads from line.1 (λ h. absurd (cc h.is)) (bound member within)
              (λ c within_c target_in hands. λ a first.
              ap (seen s.objects) (sym (same_Some n.present a (first-taken (length (n.method).types) (n.present ∷ []) a first))) ∙ present c within_c (is ∙ ap Some (sym same)))

          by_standing : UpdateStands p cost classes (place ∷ places) level → Begins p cost classes s.objects (level ∷ levels) target line.0 passed
          by_standing (outside alone all) = following all.0
          by_standing (wrote within is there all) = elim all.0 [
            | inl same ↦ written_now within is there same
            | inr f ↦ following f
          ]
