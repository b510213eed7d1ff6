-- Each event keeps what a run of a checked program keeps.
use Rattle.std.{proofs.Common.{◌≡◌, inl, inr, ℕ, List, [], ◌∷◌, length, Option, Some, refl, sym, ap, ◌∙◌, subst, arith}}
use Rattle.script_lang.specs.declared.event.Event.{Event}
use Rattle.meta_model.specs.{Loaded.{Loaded}, Sound.{IsSound}}
use Rattle.object_tree.specs.declared.object.Object.{Object}
use Rattle.binding_graph.{specs.declared.binding.Binding.{Binding}, specs.declared.place.Place.{Place}, specs.Bindings.{binding_at, without, replaced}, proofs.Replaced.{installed-is}, proofs.Places.{decide_place}, proofs.Walks.{bound-other}}
use Rattle.prop_bindings.specs.Fits.{Agree}
use Rattle.effect_scan.specs.{declared.node.Member.TheVariants.{Method, Property, Destruction}, Nodes.{node, named}, Destroying.{itself}}
use Rattle.certificate_lang.specs.declared.certificate.Certificate.{Certificate}
use Rattle.rank_check.specs.Valid.{IsValid}
use Rattle.trace_entries.specs.declared.fault.Answer.{Answer}
use Rattle.machine_state.specs.{Accepting.{accepted}, State.{State, IsIdle, Activation}, Telling.{Alone}}
use Rattle.machine_rules.{specs.Good.{IsWell}, specs.Settling.{Installs}, proofs.Keeps.{class-of-lives}, proofs.Lists.{all-filtered, all-snoc}}
use Rattle.object_machine.{specs.Takes.{Takes, accepts, refuses}, proofs.CheckedRuns.Invariant.{Stacked, IsSited, IsCovered, Holds}, proofs.CheckedRuns.Nodes.{named-node, property-node, end-node}, proofs.CheckedRuns.Ladder.{level-at, level-of}, proofs.CheckedRuns.Rules.{writes-held, settles-held, alone-low, begun-held, deletes-held}, proofs.CheckedRuns.Events.{Comes, rests, sets, binds, begins, deletes, event-comes}}

module _ {p : Loaded} {certificate : Certificate} (valid : IsValid p certificate) (sound : IsSound p) where
  -- it is kept, with some classes
  abbrev pub HoldsSome : State → Type 0
  HoldsSome s = (classes : ℕ → Option ℕ) × Holds p certificate classes s

  idle-stacked : (classes : ℕ → Option ℕ) (objects : List Object) (stack : List Activation) → stack ≡ [] → Stacked p {certificate = certificate} classes objects stack []
  idle-stacked classes objects stack e = subst (λ (l : List Activation). Stacked p {certificate = certificate} classes objects l []) (sym e) tt

  module _ (s : State) (idle : IsIdle s) (classes : ℕ → Option ℕ) (covered : IsCovered p classes s.objects s.connected.connections s.bindings) (agree : Agree p s.objects s.bindings) where
    stands : Stacked p {certificate = certificate} classes s.objects s.stack []
    stands = idle-stacked classes s.objects s.stack idle.empty

    bound-held : (t : State) (b : Binding) → IsSited p classes b → Installs p (accepted s) s.stack b t → Holds p certificate classes t
    bound-held t b sited x =
        let field = (x.there).is in
        let life = field.life in
        let class_is : classes b.target.object ≡ Some life.class = (covered.known).lives b.target.object life.class (class-of-lives s.objects b.target.object field.lives) in
        let r = level-at valid (node life.class (Property b.target.property)) (property-node sound life.class b.target.property (x.there).property (record { class = field.class; is_class = field.is_class; is = field.is_property })) in
        let all = all-snoc (IsSited p classes) (filter_kept b) b (all-filtered (IsSited p classes) _ s.bindings covered.sited) sited in
        settles-held valid sound classes {s = accepted s} s.stack [] (level-of valid r.0) (b.target ∷ []) x.objects (replaced s.bindings b) x.changed covered agree stands tt (alone-low valid sound classes b.target life.class r.0 class_is r.1) (x.installed).objects all (x.installed).settled
        (λ q z other e. same-elsewhere q z (λ same. other (inl same)) e) (λ q other none. (x.installed).kept q none) (x.installed).changes x.settles
      where
        filter_kept : Binding → List Binding
        filter_kept z = without z.target s.bindings

        same-elsewhere : (q : Place) (z : Binding) → ¬ (b.target ≡ q) → binding_at (replaced s.bindings b) q ≡ Some z → binding_at s.bindings q ≡ Some z
        same-elsewhere q z other e = elim (decide_place b.target q) [
          | inl same ↦ absurd (other same)
          | inr apart ↦ sym (bound-other (binding_at s.bindings) b.target b q apart) ∙ ap (λ (F : Place → Option Binding). F q) (sym (installed-is s.bindings b)) ∙ e
        ]

    came-held : {t : State} → IsWell p s t → Comes p classes s t → HoldsSome t
    came-held {t} well (rests now is empty) = (now, record { covered = is; levels = []; stacked = idle-stacked now t.objects t.stack empty })
    came-held well (sets place v w) =
        let field = (w.there).0 in
        let life = (field.is).life in
        let class_is : classes place.object ≡ Some life.class = (covered.known).lives place.object life.class (class-of-lives s.objects place.object (field.is).lives) in
        let r = level-at valid (node life.class (Property place.property)) (property-node sound life.class place.property field.property (record { class = (field.is).class; is_class = (field.is).is_class; is = (field.is).is_property })) in
        (classes, writes-held valid sound classes {s = accepted s} s.stack [] (level-of valid r.0) (Alone place v) covered agree stands tt (alone-low valid sound classes place life.class r.0 class_is r.1) w)
    came-held {t} well (binds b sited x) = (classes, bound-held t b sited x)
    came-held {t} well (begins o m given b) =
        let life = (b.is).life in
        let r = level-at valid (node life.class (Method (named m))) (named-node sound life.class m b.method (b.is).is_method) in
        (classes, begun-held valid sound classes (accepted s) t (length s.stack) s.stack o b.object m b.method given (b.method).work [] r.0 covered b.is refl r.1 tt stands (omega arith) well.arguments b.gives)
    came-held {t} well (deletes x class is c is_class e) =
        let r = level-at valid (node class Destruction) (end-node sound class c is_class) in
        (classes, (deletes-held valid sound classes (accepted s) t s.stack [] r.0 x class covered stands tt r.1 is (itself is_class) e).0)

  -- the taking of an event keeps it
  pub takes-held : (s t : State) (e : Event) {a : Answer} → HoldsSome s → Agree p s.objects s.bindings → IsWell p s t → Takes p e a s t → HoldsSome t
  takes-held s t e held agree well (accepts idle x) = came-held s idle held.0 (held.1).covered agree well (event-comes sound s idle held.0 (held.1).covered agree e x)
  takes-held s t e held agree well (refuses k idle x) = (held.0, record { covered = (held.1).covered; levels = (held.1).levels; stacked = (held.1).stacked })
