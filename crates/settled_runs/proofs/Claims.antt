-- What holds of every run of a program with a valid settling certificate (docs/settling-proof.md, "The claims").
use Rattle.std.proofs.Common.{◌≡◌, ◌⊎◌, inl, inr, ℕ, zero, suc, ◌+◌, ◌*◌, ◌<◌, List, [], ◌∷◌, length, Option, Some, slice_get, refl, sym, ap, ◌∙◌, subst, arith}
use Rattle.std.proofs.lemmas.Option.{same_Some, none-some}
use Rattle.std.specs.List.{Contains}
use Rattle.std.specs.Option.{option_map}
use Rattle.basic_types.specs.declared.value.Value.{Value}
use Rattle.script_lang.specs.declared.event.Event.{Event}
use Rattle.meta_model.specs.{Loaded.{Loaded}, Sound.{IsSound}}
use Rattle.object_tree.specs.{Seen.{seen}, Typed.{AreTyped}}
use Rattle.effect_scan.specs.{declared.node.Node.{Node}, declared.node.Member.TheVariants.{Method, Property}, Nodes.{node, named}}
use Rattle.rank_check.proofs.Elements.{place_of}
use Rattle.trace_entries.specs.{declared.fault.Fault.{Fault}}
use Rattle.machine_state.specs.State.{State, Activation, Body, Emit, Update, Destroy}
use Rattle.machine_rules.{specs.Good.{IsWell}, specs.Natives.{NativeAnswers}, specs.Operations.{Write}, specs.Faults.{WritesDeep}, proofs.Doing.{Doing, doing}, proofs.Dying.{lives-not-dead}, proofs.Keeps.{lives-of-class}}
use Rattle.settling.specs.{declared.certificate.SettlingCertificate.{SettlingCertificate}, Levels.{StacksAreShallow}, Sets.{IsIn}, Valid.{IsValid}}
use Rattle.object_machine.{specs.Causes.{Brings, StopsFor, spent, short as of_memory, brings, lacks_value, writes_ill, binds_ill, goes_ill, goes_fatal, binds_loop, writes_deep, goes_deep}, specs.Checked.{no_rule, no_memory}, specs.Runs.{Follows}, proofs.CheckedRuns.{Invariant.{AreClasses}, Nodes.{body-named}, Kept.{loops-none}}}
use Rattle.object_machine.proofs.CheckedRuns.Leading.{leads-drawn, does-led}
use Rattle.object_machine.proofs.CheckedRuns.Staying.{Covered}
use Rattle.settled_runs.{specs.Levels.{Carried, Level, AreCosts, AreLevels, IsPlaceIn}, specs.Claims.{most_deep, EachIsShallow, MayStop, limit, ill, too_deep, StopsForFew, IsActive, CarriesOne, EachCarriesOne, ChangesToCarried, EachChangesToCarried}, proofs.Chains.{chains-end}, proofs.Depth.{levels-shallow}, proofs.Edges.{set-costs, line-after}, proofs.Invariant.{MethodStands, Stands, Stacked, Holds}, proofs.Memberships.{source-above}, proofs.OneValue.{carry-one}, proofs.Pushing.{StandsIn, free, bound, update-outside}, proofs.Stacks.{levels-of, as-many, no-deeper}, proofs.Carrying.{KeepsPlaces}, proofs.Steps.{Kept, followed, places-kept, run-kept}}

module _ {p : Loaded} {certificate : SettlingCertificate} (sound : IsSound p) (valid : IsValid p certificate) (cost : ℕ → ℕ) (costs : AreCosts p certificate cost) where
  -- ---- the depth

  -- a body on top that writes leaves room for one more
  pub writes-room : StacksAreShallow → {d : ℕ} {s : State} {classes : ℕ → Option ℕ} → Holds p cost certificate classes s → AreTyped p s.objects → WritesDeep p d s → length s.stack < most_deep certificate s
  writes-room shallow {s = s} {classes = classes} held typed w =
      on-top held.levels (subst (λ (l : List Activation). Stacked p cost classes s.objects l held.levels) n.is_next held.stacked)
    where
      n : Doing s (Write w.what)
      n = doing s w.next

      on-top : (levels : List (Level certificate)) → Stacked p cost classes s.objects (Body n.object n.method n.arguments (n.step ∷ n.rest) ∷ n.below) levels → length s.stack < most_deep certificate s
      on-top [] st = absurd st
      on-top (level ∷ levels) st =
          let b = (st.0).stands in
          let led = does-led (valid.typed) sound typed b n.step (Write w.what) (b.steps).0 n.does in
          let leads = leads-drawn b led.0.1 in
          let above = source-above sound valid leads (st.0).is (line-after valid sound leads).1 in
          let up = update-outside sound valid cost costs classes s.objects level levels st.1 above in
          let are : AreLevels p cost classes s.objects (up.level ∷ level ∷ levels) = (up.well, up.falls_to, levels-of p cost classes s.objects (Body n.object n.method n.arguments (n.step ∷ n.rest) ∷ n.below) (level ∷ levels) st) in
          let low = levels-shallow p cost classes s.objects costs (held.covered.known).inside shallow (up.level ∷ level ∷ levels) are in
          let many = as-many p cost classes s.objects (Body n.object n.method n.arguments (n.step ∷ n.rest) ∷ n.below) (level ∷ levels) st in
          let count = ap (λ (l : List Activation). length l) n.is_next in
          omega (arith, low, many, count)

  -- ---- values

  module _ (s : State) (classes : ℕ → Option ℕ) (known : AreClasses p classes s.objects) where
    -- an activation of a set is at a level of it, which carries its value
    record IsAtLevel (levels : List (Level certificate)) (k : ℕ) (v : Value) : Type 0 where
      number : ℕ
      level : Level certificate
      at : slice_get levels number ≡ Some level
      carried : Carried
      within : level.within ≡ Some carried
      same : carried.set ≡ k
      reads : seen s.objects v ≡ seen s.objects carried.value

    -- where the method is of the set
    strict : {P : Node → Type 0} {arguments : List Value} (k : ℕ) (v : Value) (level : Level certificate) → (ms : MethodStands p s.objects arguments level P) → IsIn p certificate k ms.node → arguments ≡ v ∷ [] → IsAtLevel (level ∷ []) k v
    strict k v level ms member passes =
        let first = ap (λ (l : List Value). slice_get l 0) passes in
        let own = ms.is_strict v first k member in
        record { number = 0; level = level; at = refl; carried = own.0; within = own.1; same = by_inside own.0 own.1 ms.is_inside; reads = ms.carries own.0 own.1 v first }
      where
        by_inside : (c : Carried) → level.within ≡ Some c → StandsIn p ms.node level → c.set ≡ k
        by_inside c within (free none) = absurd (none-some c (sym none ∙ within))
        by_inside c within (bound {carried = d} there is) = ap (λ (e : Carried). e.set) (same_Some _ _ (sym within ∙ is)) ∙ valid.nothing_else.apart d.set k ms.node there member

    active-one : (k : ℕ) (v : Value) (a : Activation) (level : Level certificate) → Stands p cost classes s.objects a level → IsActive p certificate k s.objects a v → IsAtLevel (level ∷ []) k v
    active-one k v (Body o m arguments left) level ms is =
        let b = ms.stands in
        let class : is.class ≡ b.class = same_Some _ _ (sym is.lives ∙ b.lives) in
        let name = body-named sound b.class m b.method b.is b.bodied in
        let here : node is.class (Method (named m)) ≡ ms.node = ap (λ (c : ℕ). node c (Method (named m))) class ∙ ap (λ (n : ℕ). node b.class (Method n)) name ∙ sym b.at in
        strict k v level ms (subst (λ (x : Node). IsIn p certificate k x) here is.is) is.passes
    active-one k v (Emit o g arguments used last) level ms is =
        let e = ms.stands in
        let class : is.class ≡ e.class = same_Some _ _ (sym (known.lives o is.class is.lives) ∙ e.is) in
        let here : node is.class (Method (named g)) ≡ ms.node = ap (λ (c : ℕ). node c (Method (named g))) class ∙ sym e.at in
        strict k v level ms (subst (λ (x : Node). IsIn p certificate k x) here is.is) is.passes
    active-one k v (Update places) level st is = absurd is
    active-one k v (Destroy next torn) level st is = absurd is

    active-at : (k : ℕ) (v : Value) (stack : List Activation) (levels : List (Level certificate)) (i : ℕ) (a : Activation) → slice_get stack i ≡ Some a → Stacked p cost classes s.objects stack levels → IsActive p certificate k s.objects a v → IsAtLevel levels k v
    active-at k v [] levels i a at st is = absurd (none-some a at)
    active-at k v (b ∷ stack) [] i a at st is = absurd st
    active-at k v (b ∷ stack) (level ∷ levels) zero a at st is =
        let one = active-one k v b level st.0 (subst (λ (c : Activation). IsActive p certificate k s.objects c v) (sym (same_Some b a at)) is) in
        record { number = 0; level = level; at = refl; carried = one.carried; within = ap (λ (l : Level certificate). l.within) (same_level one.number one.level one.at) ∙ one.within; same = one.same; reads = one.reads }
      where
        same_level : (n : ℕ) (l : Level certificate) → slice_get (level ∷ []) n ≡ Some l → level ≡ l
        same_level zero l e = same_Some level l e
        same_level (suc n) l e = absurd (none-some l e)
    active-at k v (b ∷ stack) (level ∷ levels) (suc i) a at st is =
        let more = active-at k v stack levels i a at st.3 is in
        record { number = suc more.number; level = more.level; at = more.at; carried = more.carried; within = more.within; same = more.same; reads = more.reads }

  pub carries-one : {s : State} (classes : ℕ → Option ℕ) → Holds p cost certificate classes s → CarriesOne p certificate s
  carries-one {s} classes held k a b v w in_a in_b is_a is_b =
      let known = held.covered.known in
      let i = place_of s.stack a in_a in
      let j = place_of s.stack b in_b in
      let x = active-at s classes known k v s.stack held.levels i.0 a i.1 held.stacked is_a in
      let y = active-at s classes known k w s.stack held.levels j.0 b j.1 held.stacked is_b in
      x.reads
      ∙ carry-one p cost classes s.objects costs held.levels (levels-of p cost classes s.objects s.stack held.levels held.stacked) x.number y.number x.level y.level x.carried y.carried x.at y.at x.within y.within (x.same ∙ sym y.same)
      ∙ sym y.reads

  pub changes-to : {s : State} (t : State) (classes : ℕ → Option ℕ) → (held : Holds p cost certificate classes s) → Covered p classes t → KeepsPlaces p classes s.objects t.objects held.levels → ChangesToCarried p certificate s t
  changes-to {s} t classes held covered keeps k a v place in_a is_a there other =
      let i = place_of s.stack a in_a in
      let x = active-at s classes (held.covered.known) k v s.stack held.levels i.0 a i.1 held.stacked is_a in
      let at : IsPlaceIn p certificate classes (x.carried).set place = record {
        node = node there.class (Property place.property);
        at = record { class = there.class; is = (covered.known).lives place.object there.class there.lives; at = refl };
        is = subst (λ (n : ℕ). IsIn p certificate n (node there.class (Property place.property))) (sym x.same) there.is;
      } in
      elim (keeps x.number x.level x.carried place x.at x.within at) [
        | inl over ↦ absurd (lives-not-dead (lives-of-class t.objects place.object there.class there.lives).2 over)
        | inr kept ↦ elim kept [
          | inl same ↦ absurd (other (ap (option_map (seen t.objects)) (sym same)))
          | inr carried ↦ carried.has ∙ ap Some (sym x.reads ∙ sym (carried.alike v))
        ]
      ]

  -- what follows changes places of active sets to what these carry
  pub changes-followed : (natives : NativeAnswers) {s t : State} {next : List Event} → Kept p cost certificate s → IsWell p s t → Follows p natives s t next → ChangesToCarried p certificate s t
  changes-followed natives {s} {t} kept well follows =
      elim (places-kept sound valid cost costs natives kept well follows) [
        | inl empty ↦ λ k a v place in_a is_a there other. let none = place_of [] a (subst (λ (l : List Activation). Contains l a) empty in_a) in absurd (none-some a none.1)
        | inr keeps ↦ changes-to t kept.classes kept.held keeps.1 keeps.0
      ]

-- ---- every run

module _ (shallow : StacksAreShallow) (natives : NativeAnswers) {p : Loaded} {certificate : SettlingCertificate} (sound : IsSound p) (valid : IsValid p certificate) (cost : ℕ → ℕ) (costs : AreCosts p certificate cost) {s : State} (kept : Kept p cost certificate s) where
  -- what is brought is a value of a wrong type, or the depth is less
  by-brought : {depth : ℕ} {next : List Event} {f : Fault} → Brings p natives depth s next f → MayStop depth (most_deep certificate s) f
  by-brought (lacks_value x) = ill refl
  by-brought (writes_ill x) = ill refl
  by-brought (binds_ill x) = ill refl
  by-brought (goes_ill x) = ill refl
  by-brought (goes_fatal g) = absurd (g.fatal (followed sound valid cost costs natives {s = s} {t = g.t} kept g.well g.follows).spared)
  by-brought (binds_loop loop) = absurd (loops-none sound (chains-end sound valid) s kept.classes (kept.held).covered ((kept.up).sound).agree loop)
  by-brought (writes_deep w) =
      let room = writes-room sound valid cost costs shallow kept.held ((kept.up).sound).agree.typed w in
      let deep = w.deep in
      too_deep refl (omega (arith, room, deep))
  by-brought {depth} (goes_deep g) =
      let f = followed sound valid cost costs natives {s = s} {t = g.t} kept g.well g.follows in
      let deep = g.deep in
      let low = no-deeper shallow costs f.held in
      too_deep refl (elim f.count [
        | inl same ↦ let most = ap (λ (n : ℕ). certificate.bound + certificate.step * n) same in omega (arith, deep, low, most)
        | inr empty ↦ let none = ap (λ (l : List Activation). length l) empty in absurd (omega (arith, deep, none))
      ])

  pub by-fault : {depth rules : ℕ} {next : List Event} {f : Fault} → StopsFor p natives depth s rules next f → MayStop depth (most_deep certificate s) f
  by-fault (spent none due) = limit no_rule
  by-fault (of_memory some due) = limit no_memory
  by-fault (brings some x) = by-brought x

pub each_is_shallow : StacksAreShallow → (natives : NativeAnswers) → EachIsShallow natives
each_is_shallow shallow natives p certificate s depth steps left taken answers sound valid run =
    let costs = set-costs valid in
    no-deeper shallow costs.1 (run-kept sound valid costs.0 costs.1 natives run).held

pub stops_for_few : StacksAreShallow → (natives : NativeAnswers) → StopsForFew natives
stops_for_few shallow natives p certificate s depth steps left taken answers sound valid run next fault stops =
    let costs = set-costs valid in
    by-fault shallow natives sound valid costs.0 costs.1 (run-kept sound valid costs.0 costs.1 natives run) stops

pub each_carries_one : (natives : NativeAnswers) → EachCarriesOne natives
each_carries_one natives p certificate s depth steps left taken answers sound valid run =
    let costs = set-costs valid in
    let kept = run-kept sound valid costs.0 costs.1 natives run in
    carries-one sound valid costs.0 costs.1 kept.classes kept.held

pub each_changes_to_carried : (natives : NativeAnswers) → EachChangesToCarried natives
each_changes_to_carried natives p certificate s depth steps left taken answers sound valid run t next follows well =
    let costs = set-costs valid in
    changes-followed sound valid costs.0 costs.1 natives (run-kept sound valid costs.0 costs.1 natives run) well follows
