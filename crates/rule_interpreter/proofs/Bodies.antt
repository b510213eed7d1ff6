-- What a body's steps do.
use Rattle.machine_state.specs.{Telling.{Assigning}, declared.world.World.{World}, State.{Step, Run, Ask, Act, State, Activation, Body}, declared.endpoints.Endpoints.{Endpoints}, Worlds.{at}, code.Changing.{noted, Ticks, GoesTo}}
use Rattle.std.{proofs.Common.{◌≡◌, ◌≢◌, ℕ, suc, ◌+◌, ◌-◌, ◌<◌, List, [], ◌∷◌, ◌++◌, length, map, Result, Ok, Err, MatchResult, inl, inr, Option, Some, None, refl, sym, ap, ◌∙◌, subst, arith, append-nil}, specs.Result.{IsErrAnd}, proofs.lemmas.List.{map-append}}
use Rattle.basic_types.specs.declared.value.Value.{Value}
use Rattle.meta_model.specs.{declared.object.Statement.{Statement}, declared.object.Statement.TheViews.{out-Statement}, Loaded.{Loaded}, declared.effects.MetaEffects.{MetaEffects}}
use Rattle.meta_model.specs.declared.object.Statement.TheOpen as layer
use Rattle.expressions.specs.declared.evaluation.EvalFault.{EvalFault}
use Rattle.expressions.specs.declared.evaluation.EvalFault.TheVariants as eval
use Rattle.trace_entries.specs.{declared.entry.Entry.{Entry}, declared.entry.Entry.TheVariants.{At}, declared.entry.EntryKind.TheVariants.{OnNull, Answered}, declared.fault.Fault.{Fault}, Faults.{IsFaultOf}, declared.fault.Fault.TheVariants.{BadType}}
use Rattle.native_slots.specs.declared.action.Action.{Action}
use Rattle.object_tree.specs.{declared.object.Object.{Object}, Objects.{life_of}}
use Rattle.syntax_trees.specs.declared.connection.ConnectionType.{ConnectionType}
use Rattle.machine_rules.{specs.Operations.{Operation, Write, Begin, Choose, Connect, Disconnect, Delete, Schedule, TakeAnswer, Nothing, operation, operation_of_step}, specs.Rules.{Rule, StepRule, Does, told, Connects, Disconnects}, specs.Destroying.{Schedules}, specs.code.Sound.{AgreeIn}, specs.code.Going.{GoodRules, done, then}, specs.Reaches.{StopsIn, RunsTo, Advances, Calls, OnlyCalls, Sets, Deletes}, proofs.Doing.{step-of, step-rule}, proofs.ReachedStates.{not-idle, reaches-low, stops-as, stops-memory, stops-faulted, stops-stuck, ends-noted, ends-ticked}, proofs.Stacks.{high}, proofs.Keeps.{some-stack, rules-kept}, specs.Natives.{NativeAnswers, MayAnswer}, specs.code.Answering.{TellsAnswer}}
use Rattle.run_context.specs.code.Statements.{Went, Stalls, ConnectsIn, DisconnectsIn, SchedulesIn}

-- ---- the rule of a body whose next step does this

-- the state in which it is
abbrev next : World → ℕ → ℕ → List Value → Step → List Step → List Activation → State
next w o m arguments x rest below = at w (Body o m arguments (x ∷ rest) ∷ below)

does-rule : (p : Loaded) (natives : NativeAnswers) (w : World) (o m : ℕ) (arguments : List Value) (x : Step) (rest : List Step) (d : Operation) (below : List Activation) (t : State) → operation_of_step w.store.tree o arguments x ≡ Some d → Does p natives (next w o m arguments x rest below) o m arguments rest below d t → Rule p natives (next w o m arguments x rest below) t
does-rule p natives w o m arguments x rest d below t is does =
    let r : StepRule p natives (next w o m arguments x rest below) o m arguments x rest below t = record { what = d; is = is; does = does } in
    step-rule p natives (next w o m arguments x rest below) o m arguments x rest below t r

rule-does : (p : Loaded) (natives : NativeAnswers) (w : World) (o m : ℕ) (arguments : List Value) (x : Step) (rest : List Step) (d : Operation) (below : List Activation) (t : State) → operation_of_step w.store.tree o arguments x ≡ Some d → Rule p natives (next w o m arguments x rest below) t → Does p natives (next w o m arguments x rest below) o m arguments rest below d t
rule-does p natives w o m arguments x rest d below t is rule =
    let r : StepRule p natives (next w o m arguments x rest below) o m arguments x rest below t = step-of p natives (next w o m arguments x rest below) o m arguments x rest below t rule in
    let both : Some r.what ≡ Some d = sym r.is ∙ is in
    let same : r.what ≡ d = cc both in
    let Done : Operation → Type 0 = λ e. Does p natives (next w o m arguments x rest below) o m arguments rest below e t in
    subst Done same r.does

-- a method begins
pub does-call : {p : Loaded} {natives : NativeAnswers} {w : World} {o : ℕ} {arguments : List Value} {x : Step} (m : ℕ) (rest : List Step) {y n : ℕ} {given : List Value} → operation_of_step w.store.tree o arguments x ≡ Some (Begin y n given) → Calls p natives w (Body o m arguments (x ∷ rest) ∷ []) (Body o m arguments rest ∷ []) y n given
does-call {p} {natives} {w} {o} {arguments} {x} m rest {y} {n} {given} is = record { no_lower = omega arith; objects = refl; goes_on = λ below. not-idle w _ below; gives = λ below t b. does-rule p natives w o m arguments x rest (Begin y n given) below t is b }

pub does-call-alone : {p : Loaded} {natives : NativeAnswers} {w : World} {o : ℕ} {arguments : List Value} {x : Step} (m : ℕ) (rest : List Step) {y n : ℕ} {given : List Value} → operation_of_step w.store.tree o arguments x ≡ Some (Begin y n given) → OnlyCalls p natives w (Body o m arguments (x ∷ rest) ∷ []) (Body o m arguments rest ∷ []) y n given
does-call-alone {p} {natives} {w} {o} {arguments} {x} m rest {y} {n} {given} is = record { next = λ below what does. let both : Some what ≡ Some (Begin y n given) = sym does ∙ is in cc both; begins = λ below t r. rule-does p natives w o m arguments x rest (Begin y n given) below t is r }

-- this is written
pub does-set : {p : Loaded} {natives : NativeAnswers} {w : World} {o : ℕ} {arguments : List Value} {x : Step} (m : ℕ) (rest : List Step) {what : Assigning} → operation_of_step w.store.tree o arguments x ≡ Some (Write what) → Sets p natives w (Body o m arguments (x ∷ rest) ∷ []) (Body o m arguments rest ∷ []) what
does-set {p} {natives} {w} {o} {arguments} {x} m rest {what} is = record {
  as_high = refl;
  next = λ below. is;
  goes_on = λ below. not-idle w _ below;
  gives = λ below t b. does-rule p natives w o m arguments x rest (Write what) below t is b;
  only = λ below t r. rule-does p natives w o m arguments x rest (Write what) below t is r;
}

-- nothing is done
pub does-nothing : {p : Loaded} {natives : NativeAnswers} {w : World} {o : ℕ} {arguments : List Value} {x : Step} (m : ℕ) (rest : List Step) {d : ℕ} {h : List (Option ℕ)} {v : World} (n : ℕ) (r : Result (Unit {0}) Fault) → operation_of_step w.store.tree o arguments x ≡ Some Nothing → length h < d → AgreeIn p w → 0 < w.left → n ≡ length h + 1 → GoesTo w (noted w (At n OnNull ∷ [])) v r → RunsTo p natives d h w (Body o m arguments (x ∷ rest) ∷ []) v (Body o m arguments rest ∷ []) r
does-nothing {p} {natives} {w} {o} {arguments} {x} m rest {d} {h} {v} n r is room agree some n_is notes =
    ends-noted (noted w (At n OnNull ∷ [])) r
    (λ below k.
    let t : State = at (noted w (At n OnNull ∷ [])) (Body o m arguments rest ∷ below) in
    let depth_is : n ≡ suc (length below) = omega (arith, n_is, high below k) in
    let null_is : t ≡ told (next w o m arguments x rest below) (Body o m arguments rest ∷ below) OnNull = ap (λ (i : ℕ). at (noted w (At i OnNull ∷ [])) (Body o m arguments rest ∷ below)) depth_is in
    does-rule p natives w o m arguments x rest Nothing below t is null_is)
    (λ k gone. gone) room agree refl some notes

-- a native's answer is taken and written down, and its actions come next
pub does-answer : {p : Loaded} {natives : NativeAnswers} {w v : World} {o m : ℕ} {arguments : List Value} {d : ℕ} {h : List (Option ℕ)} (effects : MetaEffects) (actions : List Action) (n : ℕ) (line : Entry) (r : Result (Unit {0}) Fault) → MayAnswer p natives w.store.tree o m arguments effects actions → TellsAnswer p w.store.tree n o effects actions line → length h < d → AgreeIn p w → 0 < w.left → n ≡ length h + 1 → GoesTo w (noted w (line ∷ [])) v r → RunsTo p natives d h w (Body o m arguments (Ask effects ∷ []) ∷ []) v (Body o m arguments (map (Act effects) actions) ∷ []) r
does-answer {p} {natives} {w} {o = o} {m = m} {arguments = arguments} effects actions n line r may tells room agree some n_is notes =
    let lines = tells.lines in
    let top = Body o m arguments (map (Act effects) actions) in
    ends-noted (noted w (line ∷ [])) r
    (λ below k.
    let s : State = next w o m arguments (Ask effects) [] below in
    let t : State = at (noted w (line ∷ [])) (top ∷ below) in
    let depth_is : n ≡ suc (length below) = omega (arith, n_is, high below k) in
    let line_is : line ≡ At (suc (length below)) (Answered lines) = tells.is ∙ ap (λ (i : ℕ). At i (Answered lines)) depth_is in
    let told_is : t ≡ told s (top ∷ below) (Answered lines) = ap (λ (l : Entry). at (noted w (l ∷ [])) (top ∷ below)) line_is in
    let rest_is : told s (top ∷ below) (Answered lines) ≡ told s (Body o m arguments (map (Act effects) actions ++ []) ∷ below) (Answered lines) =
    ap (λ (l : List Step). told s (Body o m arguments l ∷ below) (Answered lines)) (sym (append-nil (map (Act effects) actions))) in
    does-rule p natives w o m arguments (Ask effects) [] (TakeAnswer effects) below t refl
    (record { actions = actions; may = may; lines = lines; are_shown = tells.are; gives = told_is ∙ rest_is }))
    (λ k gone. gone) room agree refl some notes

-- what this relation tells of is done, and nothing is pushed
does-told : {p : Loaded} {natives : NativeAnswers} {w v : World} {o : ℕ} {arguments : List Value} {x : Step} (m : ℕ) (rest : List Step) {d : ℕ} {h : List (Option ℕ)} (what : Operation) (What : State → List Activation → State → Type 0) (n : ℕ) (r : Result (Unit {0}) Fault) → operation_of_step w.store.tree o arguments x ≡ Some what →
    ((other : Assigning) → what ≢ Write other) → ((effects : MetaEffects) → what ≢ TakeAnswer effects) →
    ((below : List Activation) (t : State) → What (next w o m arguments x rest below) (Body o m arguments rest ∷ below) t → Does p natives (next w o m arguments x rest below) o m arguments rest below what t) →
    ((below : List Activation) (t : State) → Does p natives (next w o m arguments x rest below) o m arguments rest below what t → What (next w o m arguments x rest below) (Body o m arguments rest ∷ below) t) →
    length h < d → AgreeIn p w → 0 < w.left → n ≡ length h + 1 → MatchResult r (λ _. Went What w n v) (Stalls What w v) → RunsTo p natives d h w (Body o m arguments (x ∷ rest) ∷ []) v (Body o m arguments rest ∷ []) r
does-told {p} {natives} {w} {v} {o} {arguments} {x} m rest {d} {h} what What n (Ok _) is other unasked does told_by room agree some n_is went =
    record {
      cases = reaches-low {b = Body o m arguments rest ∷ []} (λ below k. does-rule p natives w o m arguments x rest what below _ is (does below _ (went.tells (Body o m arguments (x ∷ rest) ∷ below) (Body o m arguments rest ∷ below) (omega (arith, n_is, high below k)))))
          went.spared (omega arith) (omega (arith, room)) (went.agree p agree) went.left some;
    }
does-told {p} {natives} {w} {v} {o} {arguments} {x} m rest {d} {h} what What n (Err f) is other unasked does told_by room agree some n_is stays =
    let At : World → Type 0 = λ u. StopsIn p natives d h w (Body o m arguments (x ∷ rest) ∷ []) u f in
    let stops : StopsIn p natives d h w (Body o m arguments (x ∷ rest) ∷ []) w f = elim stays.why [
      | inl none ↦ stops-as none.1 (stops-stuck (not-idle w (Body o m arguments (x ∷ rest))) some (λ below t rule. none.0 (Body o m arguments (x ∷ rest) ∷ below) (Body o m arguments rest ∷ below) t (told_by below t (rule-does p natives w o m arguments x rest what below t is rule))) (λ below written writes. let both : Some what ≡ Some (Write written) = sym is ∙ writes in let same : what ≡ Write written = cc both in absurd (other written same)) (λ below effects asks. let both : Some what ≡ Some (TakeAnswer effects) = sym is ∙ asks in let same : what ≡ TakeAnswer effects = cc both in absurd (unasked effects same)))
      | inr short ↦ stops-as short (stops-memory (not-idle w (Body o m arguments (x ∷ rest))) some)
    ] in
    record { cases = subst At (sym stays.same) stops }

-- a connection is made
pub does-connect : {p : Loaded} {natives : NativeAnswers} {w v : World} {o : ℕ} {arguments : List Value} {x : Step} (m : ℕ) (rest : List Step) {d : ℕ} {h : List (Option ℕ)} (ends : Endpoints) (how : ConnectionType) (n : ℕ) (r : Result (Unit {0}) Fault) → operation_of_step w.store.tree o arguments x ≡ Some (Connect ends how) → length h < d → AgreeIn p w → 0 < w.left → n ≡ length h + 1 → ConnectsIn p w n ends how v r → RunsTo p natives d h w (Body o m arguments (x ∷ rest) ∷ []) v (Body o m arguments rest ∷ []) r
does-connect {p} {natives} m rest ends how n r is room agree some n_is went =
    does-told m rest (Connect ends how) (λ s stack t. Connects p s stack ends how t) n r is (λ other e. absurd (cc e)) (λ effects e. absurd (cc e)) (λ below t does. does) (λ below t does. does) room agree some n_is went

-- .. or removed
pub does-disconnect : {p : Loaded} {natives : NativeAnswers} {w v : World} {o : ℕ} {arguments : List Value} {x : Step} (m : ℕ) (rest : List Step) {d : ℕ} {h : List (Option ℕ)} (ends : Endpoints) (n : ℕ) (r : Result (Unit {0}) Fault) → operation_of_step w.store.tree o arguments x ≡ Some (Disconnect ends) → length h < d → AgreeIn p w → 0 < w.left → n ≡ length h + 1 → DisconnectsIn p w n ends v r → RunsTo p natives d h w (Body o m arguments (x ∷ rest) ∷ []) v (Body o m arguments rest ∷ []) r
does-disconnect {p} {natives} m rest ends n r is room agree some n_is went =
    does-told m rest (Disconnect ends) (λ s stack t. Disconnects p s stack ends t) n r is (λ other e. absurd (cc e)) (λ effects e. absurd (cc e)) (λ below t does. does) (λ below t does. does) room agree some n_is went

-- an object is scheduled for deletion
pub does-schedule : {p : Loaded} {natives : NativeAnswers} {w v : World} {o : ℕ} {arguments : List Value} {x : Step} (m : ℕ) (rest : List Step) {d : ℕ} {h : List (Option ℕ)} (y : ℕ) (n : ℕ) (r : Result (Unit {0}) Fault) → operation_of_step w.store.tree o arguments x ≡ Some (Schedule y) → length h < d → AgreeIn p w → 0 < w.left → n ≡ length h + 1 → SchedulesIn w n y v r → RunsTo p natives d h w (Body o m arguments (x ∷ rest) ∷ []) v (Body o m arguments rest ∷ []) r
does-schedule m rest y n r is room agree some n_is went =
    does-told m rest (Schedule y) (λ s stack t. Schedules s stack y t (life_of s.objects y)) n r is (λ other e. absurd (cc e)) (λ effects e. absurd (cc e)) (λ below t does. does) (λ below t does. does) room agree some n_is went

-- .. or deleted
pub does-delete : {p : Loaded} {natives : NativeAnswers} {w : World} {o : ℕ} {arguments : List Value} {x : Step} (m : ℕ) (rest : List Step) {y : ℕ} → operation_of_step w.store.tree o arguments x ≡ Some (Delete y) → Deletes p natives w (Body o m arguments (x ∷ rest) ∷ []) (Body o m arguments rest ∷ []) y
does-delete {p} {natives} {w} {o} {arguments} {x} m rest {y} is = record { gives = λ below. does-rule p natives w o m arguments x rest (Delete y) below _ is refl }

-- a block comes next
pub does-choose : {p : Loaded} {natives : NativeAnswers} {w : World} {o : ℕ} {arguments : List Value} {x : Step} (m : ℕ) (rest : List Statement) {d : ℕ} {h : List (Option ℕ)} {v : World} (r : Result (Unit {0}) Fault) (block : List Statement) → operation_of_step w.store.tree o arguments x ≡ Some (Choose block) → length h < d → AgreeIn p w → Ticks w v r → RunsTo p natives d h w (Body o m arguments (x ∷ map Run rest) ∷ []) v (Body o m arguments (map Run (block ++ rest)) ∷ []) r
does-choose {p} {natives} {w} {o} {arguments} {x} m rest {d} {h} {v} r block is room agree ticks =
    let To : List Step → Type 0 = λ l. RunsTo p natives d h w (Body o m arguments (x ∷ map Run rest) ∷ []) v (Body o m arguments l ∷ []) r in
    subst To (sym (map-append Run block rest))
    (ends-ticked {b = Body o m arguments (map Run block ++ map Run rest) ∷ []} r (λ below k. does-rule p natives w o m arguments x (map Run rest) (Choose block) below _ is refl) (omega arith) room agree ticks)

-- what a statement does is what its one layer does
pub of-layer : (objects : List Object) (o : ℕ) (arguments : List Value) (s : Statement) {x : layer.Statement-F Statement} {d : Option Operation} → out-Statement s ≡ x → operation objects o arguments x ≡ d → operation_of_step objects o arguments (Run s) ≡ d
of-layer objects o arguments s is does = ap (operation objects o arguments) is ∙ does

-- a step that lacks a value has no rule
lacks-rule : {p : Loaded} {natives : NativeAnswers} {w : World} {o : ℕ} {arguments : List Value} {x : Step} (m : ℕ) (rest : List Step) {d : ℕ} {h : List (Option ℕ)} → 0 < w.left → operation_of_step w.store.tree o arguments x ≡ None → StopsIn p natives d h w (Body o m arguments (x ∷ rest) ∷ []) w BadType
lacks-rule {p} {natives} {w} {o} {arguments} {x} m rest some none =
    stops-stuck (not-idle w (Body o m arguments (x ∷ rest))) some (λ below t rule.
    let r : StepRule p natives (next w o m arguments x rest below) o m arguments x rest below t = step-of p natives (next w o m arguments x rest below) o m arguments x rest below t rule in
    let both : None ≡ Some r.what = sym none ∙ r.is in
    absurd (cc both))
    (λ below what writes. let both : None ≡ Some (Write what) = sym none ∙ writes in absurd (cc both))
    (λ below effects asks. let both : None ≡ Some (TakeAnswer effects) = sym none ∙ asks in absurd (cc both))

-- ---- a step uses a rule

rules-fewer : {p : Loaded} {natives : NativeAnswers} {d : ℕ} {s t : State} {n k : ℕ} → GoodRules p natives d s n t k → s ≢ t → k < n
rules-fewer done other = absurd (other refl)
rules-fewer (then r good rest) other = let more = rules-kept rest in omega (arith, more.fewer)

-- what follows a step isn't the step with what follows it
longer : (o m : ℕ) (arguments : List Value) (x : Step) (rest : List Step) (w v : World) (below : List Activation) → at w (Body o m arguments (x ∷ rest) ∷ below) ≡ at v (Body o m arguments rest ∷ below) → ⊥
longer o m arguments x rest w v below e =
    let stacks : (Body o m arguments (x ∷ rest) ∷ below) ≡ (Body o m arguments rest ∷ below) = ap (λ (s : State). s.stack) e in
    let left : (x ∷ rest) ≡ rest = cc stacks in
    let lengths : suc (length rest) ≡ length rest = ap length left in
    absurd (omega (arith, lengths))

pub advances-one : {p : Loaded} {natives : NativeAnswers} {d o m : ℕ} {h : List (Option ℕ)} {w v : World} {arguments : List Value} {x : Step} {rest : List Step} (r : Result (Unit {0}) Fault) → RunsTo p natives d h w (Body o m arguments (x ∷ rest) ∷ []) v (Body o m arguments rest ∷ []) r → Advances p natives d h w (Body o m arguments (x ∷ rest) ∷ []) v (Body o m arguments rest ∷ []) r
advances-one {o = o} {m = m} {h = h} {w = w} {v = v} {arguments = arguments} {x = x} {rest = rest} (Ok _) ends =
    let q = some-stack h in
    record { cases = (ends.cases, rules-fewer (ends.cases.runs q.0 q.1) (longer o m arguments x rest w v q.0)) }
advances-one (Err f) ends = record { cases = ends.cases }

pub advances-ticked : {p : Loaded} {natives : NativeAnswers} {d : ℕ} {h : List (Option ℕ)} {w v : World} {a b : List Activation} (r : Result (Unit {0}) Fault) → Ticks w v r → RunsTo p natives d h w a v b r → Advances p natives d h w a v b r
advances-ticked {w = w} {v = v} (Ok _) ticks ends =
    let less : v.left ≡ w.left - 1 = ap (λ (u : World). u.left) ticks.1 in
    record { cases = (ends.cases, omega (arith, less, ticks.0)) }
advances-ticked (Err f) ticks ends = record { cases = ends.cases }

-- memory was refused
pub advances-left : {p : Loaded} {natives : NativeAnswers} {d : ℕ} {h : List (Option ℕ)} {w v : World} {a b : List Activation} (f : Fault) (r : Result (Unit {0}) Fault) → RunsTo p natives d h w a v b r → IsErrAnd r (λ y. y ≡ f) → Advances p natives d h w a v b r
advances-left f (Ok _) ends is = absurd is
advances-left f (Err g) ends is = record { cases = ends.cases }

-- a statement lacks a value that it needs, or memory was refused
pub lacks-value : {p : Loaded} {natives : NativeAnswers} {d o m : ℕ} {h : List (Option ℕ)} {w : World} {arguments : List Value} {s : Statement} {x : layer.Statement-F Statement} {f : EvalFault} {b : List Activation} (rest : List Step) (r : Result (Unit {0}) Fault) → 0 < w.left → out-Statement s ≡ x → (f ≡ eval.BadType → operation w.store.tree o arguments x ≡ None) → IsErrAnd r (λ y. IsFaultOf f y) → Advances p natives d h w (Body o m arguments (Run s ∷ rest) ∷ []) w b r
lacks-value rest (Ok _) some is lacks left = absurd left
lacks-value {m = m} {f = f} rest (Err y) some is lacks left = record { cases = stops-faulted f some (λ bad. lacks-rule m rest some (of-layer _ _ _ _ is (lacks bad))) left }
