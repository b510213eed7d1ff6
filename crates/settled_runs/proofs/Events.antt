-- Each event keeps what a run keeps: nothing is active then (docs/settling-proof.md, "Each rule keeps it").
use Rattle.std.proofs.Common.{◌≡◌, ◌⊎◌, inl, inr, ℕ, List, [], ◌∷◌, map, length, Option, Some, None, refl, sym, ap, ◌∙◌, subst, arith}
use Rattle.std.proofs.lemmas.Option.{none-some}
use Rattle.script_lang.specs.declared.event.Event.{Event}
use Rattle.basic_types.specs.declared.value.Value.{Value}
use Rattle.meta_model.specs.{Loaded.{Loaded}, Sound.{IsSound}}
use Rattle.binding_graph.{specs.declared.binding.Binding.{Binding}, specs.declared.place.Place.{Place}, specs.Bindings.{binding_at, without, without_all, replaced}, specs.Places.{In}, proofs.Replaced.{installed-is}, proofs.Places.{decide_place}, proofs.Walks.{bound-other}}
use Rattle.prop_bindings.specs.{Changes.{once}, Fits.{Agree}}
use Rattle.effect_scan.specs.{declared.node.Node.{Node}, declared.node.Member.TheVariants.{Method, Property, Destruction}, Nodes.{node, named}, Destroying.{itself}}
use Rattle.trace_entries.specs.declared.fault.Answer.{Answer}
use Rattle.machine_state.specs.{Accepting.{accepted}, State.{State, IsIdle, Activation}, Telling.{Alone}}
use Rattle.machine_rules.{specs.Good.{IsWell as IsGiven}, specs.Destroying.{deleting}, specs.Rules.{Begins}, specs.Settling.{Writes, Installs}, specs.There.{HasField}, proofs.Keeps.{class-of-lives}, proofs.Lists.{all-append, all-filtered, all-snoc}}
use Rattle.settling.specs.{declared.certificate.SettlingLine.{SettlingLine}, declared.certificate.SettlingCertificate.{SettlingCertificate}, Valid.{IsLineOf, IsValid}}
use Rattle.object_machine.{specs.Takes.{Takes, accepts, refuses}, proofs.CheckedRuns.{Invariant.{IsSited}, Followers.{IsKnown}, Nodes.{named-node, property-node, end-node}}}
use Rattle.object_machine.proofs.CheckedRuns.Events.{Comes, rests, sets, binds, begins, deletes, event-comes}
use Rattle.object_machine.proofs.CheckedRuns.Staying.{still-sited, known-targets, same-count}
use Rattle.settled_runs.{specs.Writes.{IsAtNode, IsLineAt, IsNoHigher}, specs.Levels.{Level, AreCosts}, proofs.Edges.{one-line, line-at}, proofs.Pushing.{begins-first}, proofs.Invariant.{Stacked, Holds}, proofs.Begun.{Covered, Held, fits-begun, begun-held}, proofs.Settling.{outside-held}, proofs.Writing.{known-once, first-write-held}}

module _ {p : Loaded} {certificate : SettlingCertificate} (sound : IsSound p) (valid : IsValid p certificate) (cost : ℕ → ℕ) (costs : AreCosts p certificate cost) where
  -- it is kept, with some classes
  abbrev pub HoldsSome : State → Type 0
  HoldsSome s = (classes : ℕ → Option ℕ) × Holds p cost certificate classes s

  -- the level of a node, in no set
  abbrev free-level : {line : SettlingLine} {x : Node} → IsLineOf p certificate x line → Level certificate
  free-level {line} is = record { line = line; low = valid.bounded.ranks line is.stands; small = valid.bounded.steps line is.stands; within = None; wrote = None }

  module _ (s : State) (idle : IsIdle s) (classes : ℕ → Option ℕ) (covered : Covered sound valid cost classes s) (agree : Agree p s.objects s.bindings) where
    -- a property of a living object has a line
    record IsOnLine (place : Place) : Type 0 where
      node : Node
      at : IsAtNode classes place node
      line : SettlingLine
      is : IsLineOf p certificate node line

    line-of : (place : Place) → HasField p s.objects place → IsOnLine place
    line-of place there =
        let field = there.is in
        let class = field.life.class in
        let line = valid.each_node (node class (Property place.property)) (property-node sound class place.property there.property (record { class = field.class; is_class = field.is_class; is = field.is_property })) in
        record {
          node = node class (Property place.property);
          at = record { class = class; is = (covered.known).lives place.object class (class-of-lives s.objects place.object field.lives); at = refl };
          line = line.0;
          is = line.1;
        }

    written-held : (t : State) (place : Place) (v : Value) → Writes p (accepted s) s.stack (Alone place v) t → Held sound valid cost classes t
    written-held t place v w =
        let on = line-of place w.there.0 in
        let Family : List Activation → Type 0 = λ below. Writes p (accepted s) below (Alone place v) t in
        first-write-held sound valid cost classes {s = accepted s} (Alone place v) place refl on.at on.is covered agree (subst Family idle.empty w)

    bound-held : (t : State) (b : Binding) → IsSited p classes b → Installs p (accepted s) s.stack b t → Held sound valid cost classes t
    bound-held t b sited installs = by_stack (let Family : List Activation → Type 0 = λ below. Installs p (accepted s) below b t in subst Family idle.empty installs)
      where
        low : (on : IsOnLine b.target) (w : Place) (other : SettlingLine) → In w (b.target ∷ []) → IsLineAt p certificate classes w other → IsNoHigher p on.line other
        low on w other (inl e) there =
            let own = line-at valid there (subst (λ (q : Place). IsAtNode classes q on.node) e on.at) in
            subst (λ (l : SettlingLine). IsNoHigher p on.line l) (one-line valid on.node on.line other on.is own) (record { rank = omega arith; step = omega arith; set = λ d none. none })
        low on w other (inr none) there = absurd none

        same-elsewhere : (q : Place) (z : Binding) → ¬ (b.target ≡ q) → binding_at (replaced s.bindings b) q ≡ Some z → binding_at s.bindings q ≡ Some z
        same-elsewhere q z other e = elim (decide_place b.target q) [
          | inl same ↦ absurd (other same)
          | inr apart ↦ sym (bound-other (binding_at s.bindings) b.target b q apart) ∙ ap (λ (F : Place → Option Binding). F q) (sym (installed-is s.bindings b)) ∙ e
        ]

        by_stack : Installs p (accepted s) [] b t → Held sound valid cost classes t
        by_stack x =
            let on = line-of b.target x.there in
            let all = all-snoc (IsSited p classes) (without b.target s.bindings) b (all-filtered (IsSited p classes) _ s.bindings covered.sited) sited in
            outside-held sound valid cost classes {s = accepted s} [] [] (free-level on.is) (b.target ∷ []) x.objects (replaced s.bindings b) x.changed refl refl tt (low on) covered agree tt tt (x.installed).objects all (x.installed).settled
            (λ q z other e. same-elsewhere q z (λ same. other (inl same)) e) (λ q other none. (x.installed).kept q none)
            (all-append (IsKnown classes) (once (b.target ∷ [])) (map (λ (z : Binding). z.target) (without_all (b.target ∷ []) s.bindings)) (known-once sound valid cost classes s.objects (covered.known).lives (b.target ∷ []) (x.there, tt)) (known-targets p classes (without_all (b.target ∷ []) s.bindings) (still-sited p classes (b.target ∷ []) s.bindings covered.sited)))
            (x.installed).changes x.settles

    invoked-held : (t : State) (o m : ℕ) (given : List Value) → IsGiven p s t → Begins p (accepted s) s.stack o m given t → Held sound valid cost classes t
    invoked-held t o m given well begun = by_stack (let Family : List Activation → Type 0 = λ below. Begins p (accepted s) below o m given t in subst Family idle.empty begun)
      where
        by_stack : Begins p (accepted s) [] o m given t → Held sound valid cost classes t
        by_stack b =
            let class = (b.is).life.class in
            let line = valid.each_node (node class (Method (named m))) (named-node sound class m b.method (b.is).is_method) in
            let low = ap (λ (l : List Activation). length l) idle.empty in
            let typed = fits-begun sound valid cost classes (accepted s) t (length s.stack) [] o b.object m b.method given (b.method).work b.is (omega (arith, low)) well.arguments b.gives in
            begun-held sound valid cost classes (accepted s) t [] o b.object m b.method given (b.method).work [] covered b.is refl refl line.1
            (begins-first sound valid cost costs classes s.objects (node class (Method (named m))) line.0 given line.1) typed tt tt b.gives

    -- as many objects as before, unless nothing is active then
    abbrev HoldsNext : State → Type 0
    HoldsNext t = HoldsSome t × ((length t.objects ≡ length s.objects) ⊎ (t.stack ≡ []))

    of-many : (t : State) → Held sound valid cost classes t → HoldsNext t
    of-many t held = ((classes, held), inl (same-count p classes t.objects s.objects (held.covered).known covered.known))

    came-held : {t : State} → IsGiven p s t → Comes p classes s t → HoldsNext t
    came-held {t} well (rests now is empty) =
        ((now, record { covered = is; levels = []; stacked = subst (λ (l : List Activation). Stacked p cost now t.objects {certificate = certificate} l []) (sym empty) tt; written = tt }), inr empty)
    came-held {t} well (sets place v w) = of-many t (written-held t place v w)
    came-held {t} well (binds b sited x) = of-many t (bound-held t b sited x)
    came-held {t} well (begins o m given b) = of-many t (invoked-held t o m given well b)
    came-held {t} well (deletes x class is c is_class e) =
        let line = valid.each_node (node class Destruction) (end-node sound class c is_class) in
        let Family : List Activation → Type 0 = λ below. Held sound valid cost classes (deleting (accepted s) below x) in
        let Kept : State → Type 0 = λ u. Held sound valid cost classes u in
        of-many t (
        subst Kept (sym e) (subst Family (sym idle.empty) (record {
          covered = covered;
          levels = free-level line.1 ∷ [];
          stacked = (
            record {
              node = node class Destruction;
              is = line.1;
              stands = record { class = class; at = refl; coming = record { class = class; is = is; closed = itself is_class }; gone = tt };
              free = refl;
              alone = refl;
            },
            λ k within. absurd (none-some k within),
            tt,
            tt,
          );
          written = (λ k q within wrote. absurd (none-some q wrote), tt);
        }))
        )

  -- the taking of an event keeps it
  pub takes-held : (s t : State) (e : Event) {a : Answer} → HoldsSome s → Agree p s.objects s.bindings → IsGiven p s t → Takes p e a s t → HoldsSome t × ((length t.objects ≡ length s.objects) ⊎ (t.stack ≡ []))
  takes-held s t e held agree given (accepts idle x) = came-held s idle held.0 (held.1).covered agree given (event-comes sound s idle held.0 (held.1).covered agree e x)
  takes-held s t e held agree given (refuses k idle x) = ((held.0, record { covered = (held.1).covered; levels = (held.1).levels; stacked = (held.1).stacked; written = (held.1).written }), inl refl)
