use Rattle.std.proofs.Common.{◌≡◌, ◌∙◌, ◌-◌, ◌∷◌, [], ◌⊎◌, Option, Some, false, suc, List, length, take, drop, ap, sym, subst, arith}
use Rattle.basic_types.specs.declared.value.Value.{Value}
use Rattle.binding_graph.{specs.declared.place.Place.{Place}, specs.declared.binding.Binding.{Binding}, specs.Places.{Distinct, In}, specs.Bindings.{binding_at, Loop, replaced, reads_any, without}, specs.code.Graph.{bindings_of}, specs.code.Orders.{AreBound, IsAffected, IsLater, bound, pass, update}, proofs.Replaced.{installed-is}}
use Rattle.prop_bindings.{specs.declared.plans.fault.BindFault.TheVariants.{BindingLoop}, specs.Values.{values_in}, specs.Changes.{in_order, one, IsInstalled}, specs.Counts.{Kept, CountsFrom}, specs.Fits.{Agree}, specs.Plans.{after}, specs.code.Parts.{IsNotInstalled, IsSoundBySome, ahead, loops}, proofs.Calling.{tail-is, install_loops, is_moved, is_installed, is_later, closes_none, agree_installed, fits-of}, proofs.Counting.{changed-among, counts-later}, proofs.Evaluating.{rest-alike}, proofs.Giving.{given-only, given-update, sound-ahead}, proofs.Settling.{affected-away, affected-bound}, proofs.Short.{installs-short}}
use Rattle.prop_bindings.proofs.bindings.Bindings.plan_install.Goals as goal

pub returns-in_err-reader-clause-value : goal.returns-in_err-reader-clause-value
returns-in_err-reader-clause-value c = installs-short c.args.prepared.binding c.args.self.now.installed c.args.tree.now c.from_residual.result c.from_residual.ensures.1

pub returns-in_err-values-clause-value : goal.returns-in_err-values-clause-value
returns-in_err-values-clause-value c = installs-short c.args.prepared.binding c.args.self.now.installed c.args.tree.now c.from_residual-in_err-values.result c.from_residual-in_err-values.ensures.1

pub returns-in_err-followers-clause-value : goal.returns-in_err-followers-clause-value
returns-in_err-followers-clause-value c = installs-short c.args.prepared.binding c.args.self.now.installed c.args.tree.now c.from_residual-in_err-followers.result c.from_residual-in_err-followers.ensures.1

pub returns-in_err-moved-clause-value : goal.returns-in_err-moved-clause-value
returns-in_err-moved-clause-value c = installs-short c.args.prepared.binding c.args.self.now.installed c.args.tree.now c.from_residual-in_err-moved.result c.from_residual-in_err-moved.ensures.1

pub returns-in_err-planned-clause-value : goal.returns-in_err-planned-clause-value
returns-in_err-planned-clause-value c = installs-short c.args.prepared.binding c.args.self.now.installed c.args.tree.now c.from_residual-in_err-planned.result c.from_residual-in_err-planned.ensures.1

pub returns-then-reads_any-clause-value : goal.returns-then-reads_any-clause-value
returns-then-reads_any-clause-value c =
    let b : Binding = c.args.prepared.binding in
    let bs : List Binding = bindings_of c.self.inside.graph in
    let reached : List Place = c.in_ok-followers.followers.items in
    let later : List Place = c.in_ok-moved.moved.items in
    let same : c.in_ok-reader.reader ≡ b = c.in_ok-reader.ensures in
    let affected : IsAffected (binding_at (without b.target bs)) (b.target ∷ []) reached = c.in_ok-followers.ensures in
    let all : later ≡ b.target ∷ reached = c.in_ok-moved.ensures ∙ ap (λ (xs : List Place). b.target ∷ xs) c.deref.ensures.value in
    let view : bs ≡ c.args.self.now.installed = ap (λ (k : Kept). k.installed) c.self.view_is in
    let chain = install_loops bs b reached later affected all (ap (λ (xs : List Place). reads_any b xs) (sym c.deref-2.ensures.value) ∙ ap (λ (z : Binding). reads_any z c.deref-2.result.now) (sym same) ∙ sym c.reads_any.ensures ∙ c.if-reads_any.true) in
    subst (λ (xs : List Binding). IsNotInstalled xs b BindingLoop) view (loops chain)

pub plan-requires-clause-apart : goal.plan-requires-clause-apart
plan-requires-clause-apart c = c.self.invariant.apart

pub followers-requires-clause-given : goal.followers-requires-clause-given
followers-requires-clause-given c = c.in_ok-values.ensures.keyed

pub plan-requires-clause-given : goal.plan-requires-clause-given
plan-requires-clause-given c = given-only c.in_ok-values.values (one c.args.prepared.binding.target c.args.prepared.value) (c.args.prepared.binding.target ∷ []) c.in_ok-values.ensures c.args.tree.now

pub plan-requires-clause-sound : goal.plan-requires-clause-sound
plan-requires-clause-sound c =
    let agree = c.requires.agree in
    let b : Binding = c.args.prepared.binding in
    subst (λ (xs : List Binding). IsSoundBySome (ahead c.in_ok-values.values c.args.tree.now) xs) (sym (ap (λ (k : Kept). k.installed) c.self.view_is)) (
      agree.0,
      sound-ahead c.in_ok-values.values agree.0 c.args.tree.now c.args.self.now.installed (one b.target c.args.prepared.value) (b.target ∷ []) c.in_ok-values.ensures
          (fits-of agree.0 c.args.tree.now b c.args.prepared.value agree.2 agree.4, tt) (agree.1.typed, agree.1.fit),
    )

pub plan-requires-clause-bound : goal.plan-requires-clause-bound
plan-requires-clause-bound c =
    let b : Binding = c.args.prepared.binding in
    let bs : List Binding = bindings_of c.self.inside.graph in
    let reached : List Place = c.in_ok-followers.followers.items in
    let later : List Place = c.in_ok-moved.moved.items in
    let same : c.in_ok-reader.reader ≡ b = c.in_ok-reader.ensures in
    let affected : IsAffected (binding_at (without b.target bs)) (b.target ∷ []) reached = c.in_ok-followers.ensures in
    let all : later ≡ b.target ∷ reached = c.in_ok-moved.ensures ∙ ap (λ (xs : List Place). b.target ∷ xs) c.deref.ensures.value in
    let followers : List Place = take (length c.deref-3.result.now - 1) (drop 1 c.deref-3.result.now) in
    let rest : followers ≡ reached = tail-is c.deref-3.result.now later reached b.target c.deref-3.ensures.value all in
    subst (λ (ps : List Place). AreBound (binding_at bs) ps) (sym rest) (affected-bound bs (b.target ∷ []) reached affected)

pub plan-requires-clause-distinct : goal.plan-requires-clause-distinct
plan-requires-clause-distinct c =
    let b : Binding = c.args.prepared.binding in
    let bs : List Binding = bindings_of c.self.inside.graph in
    let reached : List Place = c.in_ok-followers.followers.items in
    let later : List Place = c.in_ok-moved.moved.items in
    let affected : IsAffected (binding_at (without b.target bs)) (b.target ∷ []) reached = c.in_ok-followers.ensures in
    let all : later ≡ b.target ∷ reached = c.in_ok-moved.ensures ∙ ap (λ (xs : List Place). b.target ∷ xs) c.deref.ensures.value in
    let followers : List Place = take (length c.deref-3.result.now - 1) (drop 1 c.deref-3.result.now) in
    let rest : followers ≡ reached = tail-is c.deref-3.result.now later reached b.target c.deref-3.ensures.value all in
    subst Distinct (sym rest) affected.distinct

pub plan-requires-clause-others : goal.plan-requires-clause-others
plan-requires-clause-others c =
    let b : Binding = c.args.prepared.binding in
    let bs : List Binding = bindings_of c.self.inside.graph in
    let reached : List Place = c.in_ok-followers.followers.items in
    let later : List Place = c.in_ok-moved.moved.items in
    let same : c.in_ok-reader.reader ≡ b = c.in_ok-reader.ensures in
    let affected : IsAffected (binding_at (without b.target bs)) (b.target ∷ []) reached = c.in_ok-followers.ensures in
    let all : later ≡ b.target ∷ reached = c.in_ok-moved.ensures ∙ ap (λ (xs : List Place). b.target ∷ xs) c.deref.ensures.value in
    let followers : List Place = take (length c.deref-3.result.now - 1) (drop 1 c.deref-3.result.now) in
    let rest : followers ≡ reached = tail-is c.deref-3.result.now later reached b.target c.deref-3.ensures.value all in
    λ q i j. affected-away bs (b.target ∷ []) reached affected q i (subst (λ (ps : List Place). In q ps) rest j)

pub returns-clause-value : goal.returns-clause-value
returns-clause-value c =
    let b : Binding = c.args.prepared.binding in
    let bs : List Binding = bindings_of c.self.inside.graph in
    let reached : List Place = c.in_ok-followers.followers.items in
    let later : List Place = c.in_ok-moved.moved.items in
    let same : c.in_ok-reader.reader ≡ b = c.in_ok-reader.ensures in
    let affected : IsAffected (binding_at (without b.target bs)) (b.target ∷ []) reached = c.in_ok-followers.ensures in
    let all : later ≡ b.target ∷ reached = c.in_ok-moved.ensures ∙ ap (λ (xs : List Place). b.target ∷ xs) c.deref.ensures.value in
    let free : reads_any b later ≡ false = ap (λ (xs : List Place). reads_any b xs) (sym c.deref-2.ensures.value) ∙ ap (λ (z : Binding). reads_any z c.deref-2.result.now) (sym same) ∙ sym c.reads_any.ensures ∙ c.if-reads_any.false in
    let followers : List Place = take (length c.deref-3.result.now - 1) (drop 1 c.deref-3.result.now) in
    let rest : followers ≡ reached = tail-is c.deref-3.result.now later reached b.target c.deref-3.ensures.value all in
    let view : bs ≡ c.args.self.now.installed = ap (λ (k : Kept). k.installed) c.self.view_is in
    let agree = subst (λ (xs : List Binding). Agree c.requires.agree.0 c.args.tree.now xs) (sym view) c.requires.agree.1 in
    let plan = c.in_ok-planned.planned in
    let begun = given-update c.requires.agree.0 c.args.tree.now b.target c.args.prepared.value c.in_ok-values.values c.requires.agree.1.typed
    (fits-of c.requires.agree.0 c.args.tree.now b c.args.prepared.value c.requires.agree.2 c.requires.agree.4) c.in_ok-values.ensures in
    let follows : (q : Place) → values_in (after plan c.args.tree.now) q ≡ pass (binding_at bs) reached (update (values_in c.args.tree.now) b.target (Some c.args.prepared.value)) q = λ q. c.in_ok-planned.ensures.values q
    ∙ ap (λ (e : Place → Option Value). pass (binding_at bs) followers e q) begun
    ∙ ap (λ (xs : List Place). pass (binding_at bs) xs (update (values_in c.args.tree.now) b.target (Some c.args.prepared.value)) q) rest in
    let done = is_installed bs b reached later affected all free c.args.tree.now (after plan c.args.tree.now) c.args.prepared.value agree.settled agree.acyclic c.requires.agree.4 follows
    (replaced bs c.in_ok-reader.reader) plan.changed (ap (λ (z : Binding). replaced bs z) same) c.in_ok-planned.ensures.objects c.in_ok-planned.ensures.changed in
    record {
      binding = same;
      installs = subst (λ (xs : List Binding). IsInstalled xs (replaced xs c.in_ok-reader.reader) c.args.tree.now (after plan c.args.tree.now) b plan.changed) view done;
      acyclic = subst (λ (xs : List Binding). ¬ Loop (binding_at (replaced xs c.in_ok-reader.reader))) view
          (subst (λ (z : Binding). ¬ Loop (binding_at (replaced bs z))) (sym same) (closes_none bs b reached later affected all free agree.acyclic));
    }

pub returns-clause-may : goal.returns-clause-may
returns-clause-may c =
    let b : Binding = c.args.prepared.binding in
    let bs : List Binding = bindings_of c.self.inside.graph in
    let reached : List Place = c.in_ok-followers.followers.items in
    let later : List Place = c.in_ok-moved.moved.items in
    let same : c.in_ok-reader.reader ≡ b = c.in_ok-reader.ensures in
    let affected : IsAffected (binding_at (without b.target bs)) (b.target ∷ []) reached = c.in_ok-followers.ensures in
    let all : later ≡ b.target ∷ reached = c.in_ok-moved.ensures ∙ ap (λ (xs : List Place). b.target ∷ xs) c.deref.ensures.value in
    let free : reads_any b later ≡ false = ap (λ (xs : List Place). reads_any b xs) (sym c.deref-2.ensures.value) ∙ ap (λ (z : Binding). reads_any z c.deref-2.result.now) (sym same) ∙ sym c.reads_any.ensures ∙ c.if-reads_any.false in
    let view : bs ≡ c.args.self.now.installed = ap (λ (k : Kept). k.installed) c.self.view_is in
    record {
      later = subst (λ (xs : List Binding). IsLater (binding_at xs) (binding_at (replaced xs c.in_ok-reader.reader)) c.in_ok-reader.reader.target later) view
          (subst (λ (z : Binding). IsLater (binding_at bs) (binding_at (replaced bs z)) z.target later) (sym same) (is_moved bs b reached later affected all free));
    }

pub returns-clause-agree : goal.returns-clause-agree
returns-clause-agree c = λ p agree fit joined.
    let b : Binding = c.args.prepared.binding in
    let bs : List Binding = bindings_of c.self.inside.graph in
    let reached : List Place = c.in_ok-followers.followers.items in
    let later : List Place = c.in_ok-moved.moved.items in
    let same : c.in_ok-reader.reader ≡ b = c.in_ok-reader.ensures in
    let affected : IsAffected (binding_at (without b.target bs)) (b.target ∷ []) reached = c.in_ok-followers.ensures in
    let all : later ≡ b.target ∷ reached = c.in_ok-moved.ensures ∙ ap (λ (xs : List Place). b.target ∷ xs) c.deref.ensures.value in
    let free : reads_any b later ≡ false = ap (λ (xs : List Place). reads_any b xs) (sym c.deref-2.ensures.value) ∙ ap (λ (z : Binding). reads_any z c.deref-2.result.now) (sym same) ∙ sym c.reads_any.ensures ∙ c.if-reads_any.false in
    let followers : List Place = take (length c.deref-3.result.now - 1) (drop 1 c.deref-3.result.now) in
    let rest : followers ≡ reached = tail-is c.deref-3.result.now later reached b.target c.deref-3.ensures.value all in
    let view : bs ≡ c.args.self.now.installed = ap (λ (k : Kept). k.installed) c.self.view_is in
    let old = subst (λ (xs : List Binding). Agree p c.args.tree.now xs) (sym view) agree in
    let plan = c.in_ok-planned.planned in
    let begun = given-update c.requires.agree.0 c.args.tree.now b.target c.args.prepared.value c.in_ok-values.values c.requires.agree.1.typed
    (fits-of c.requires.agree.0 c.args.tree.now b c.args.prepared.value c.requires.agree.2 c.requires.agree.4) c.in_ok-values.ensures in
    let follows : (q : Place) → values_in (after plan c.args.tree.now) q ≡ pass (binding_at bs) reached (update (values_in c.args.tree.now) b.target (Some c.args.prepared.value)) q = λ q. c.in_ok-planned.ensures.values q
    ∙ ap (λ (e : Place → Option Value). pass (binding_at bs) followers e q) begun
    ∙ ap (λ (xs : List Place). pass (binding_at bs) xs (update (values_in c.args.tree.now) b.target (Some c.args.prepared.value)) q) rest in
    let done = agree_installed bs b reached later affected all free c.args.tree.now (after plan c.args.tree.now) c.args.prepared.value old.settled old.acyclic c.requires.agree.4 follows
    p (replaced bs c.in_ok-reader.reader) (ap (λ (z : Binding). replaced bs z) same) c.in_ok-planned.ensures.objects old fit joined
    (c.in_ok-planned.ensures.sound p (sound-ahead c.in_ok-values.values p c.args.tree.now bs (one b.target c.args.prepared.value) (b.target ∷ []) c.in_ok-values.ensures
    (fits-of p c.args.tree.now b c.args.prepared.value fit c.requires.agree.4, tt) (old.typed, old.fit))) in
    subst (λ (xs : List Binding). Agree p (after plan c.args.tree.now) (replaced xs c.in_ok-reader.reader)) view done

pub returns-clause-counted : goal.returns-clause-counted
returns-clause-counted c =
    let b : Binding = c.args.prepared.binding in
    let bs : List Binding = bindings_of c.self.inside.graph in
    let reached : List Place = c.in_ok-followers.followers.items in
    let later : List Place = c.in_ok-moved.moved.items in
    let same : c.in_ok-reader.reader ≡ b = c.in_ok-reader.ensures in
    let affected : IsAffected (binding_at (without b.target bs)) (b.target ∷ []) reached = c.in_ok-followers.ensures in
    let all : later ≡ b.target ∷ reached = c.in_ok-moved.ensures ∙ ap (λ (xs : List Place). b.target ∷ xs) c.deref.ensures.value in
    let free : reads_any b later ≡ false = ap (λ (xs : List Place). reads_any b xs) (sym c.deref-2.ensures.value) ∙ ap (λ (z : Binding). reads_any z c.deref-2.result.now) (sym same) ∙ sym c.reads_any.ensures ∙ c.if-reads_any.false in
    let followers : List Place = take (length c.deref-3.result.now - 1) (drop 1 c.deref-3.result.now) in
    let rest : followers ≡ reached = tail-is c.deref-3.result.now later reached b.target c.deref-3.ensures.value all in
    let view : bs ≡ c.args.self.now.installed = ap (λ (k : Kept). k.installed) c.self.view_is in
    let agree = subst (λ (xs : List Binding). Agree c.requires.agree.0 c.args.tree.now xs) (sym view) c.requires.agree.1 in
    let plan = c.in_ok-planned.planned in
    let new = after plan c.args.tree.now in
    let values = c.in_ok-planned.ensures.values in
    let F = binding_at bs in
    let later-is = is_later bs b reached later affected all free in
    let acyclic = closes_none bs b reached later affected all free agree.acyclic in
    let only = given-only c.in_ok-values.values (one b.target c.args.prepared.value) (b.target ∷ []) c.in_ok-values.ensures c.args.tree.now in
    let alike = rest-alike c.args.tree.now (ahead c.in_ok-values.values c.args.tree.now) new bs (b.target ∷ []) followers only values c.in_ok-planned.ensures.objects in
    let among = changed-among c.args.tree.now new (in_order (b.target ∷ []) bs) plan.changed (b.target ∷ []) followers c.in_ok-planned.ensures.changed alike in
    let count : plan.evaluated ≡ suc (length followers) = omega (arith, c.in_ok-planned.ensures.counted, c.requires.once) in
    let counts : CountsFrom (bound F b.target b) b.target plan.changed plan.evaluated =
    subst (λ (fs : List Place). plan.evaluated ≡ suc (length fs) → ((q : Place) → In q plan.changed → In q (b.target ∷ []) ⊎ In q fs) → CountsFrom (bound F b.target b) b.target plan.changed plan.evaluated) (sym rest)
    (λ n some. counts-later F (bound F b.target b) b.target reached plan.changed plan.evaluated later-is (subst (λ (G : Place → Option Binding). ¬ Loop G) (installed-is bs b) acyclic) some n) count among in
    subst (λ (z : Binding). CountsFrom (binding_at (replaced c.args.self.now.installed z)) z.target plan.changed plan.evaluated) (sym same)
    (subst (λ (xs : List Binding). CountsFrom (binding_at (replaced xs b)) b.target plan.changed plan.evaluated) view
    (subst (λ (G : Place → Option Binding). CountsFrom G b.target plan.changed plan.evaluated) (sym (installed-is bs b)) counts))
