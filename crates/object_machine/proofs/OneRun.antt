-- For one list of events there is one run: of two of them one goes on where the other ends.
use Rattle.std.proofs.{Common.{◌≡◌, ◌⊎◌, inl, inr, ℕ, List, [], ◌∷◌, ◌++◌, Option, refl, sym, ap, ◌∙◌, subst}, lemmas.List.{append-nil}}
use Rattle.script_lang.specs.declared.event.Event.{Event}
use Rattle.meta_model.specs.{Loaded.{Loaded}, Sound.{IsSound}}
use Rattle.trace_entries.specs.declared.fault.Answer.{Answer}
use Rattle.machine_state.specs.{State.{State, IsIdle, Activation}, declared.turn.Turn.{Turn}}
use Rattle.machine_rules.{specs.Natives.{NativeAnswers, AnswersOnce}, specs.Rules.{Rule, RuleAt, TurnRule}, proofs.Agreeing.{rule-agrees}, proofs.OneRule.{rule-one}, specs.Good.{IsGood}}
use Rattle.prop_bindings.specs.Fits.{Agree}
use Rattle.native_slots.specs.declared.action.Action.{Action}
use Rattle.object_machine.{specs.Laws.{OneRun, OneRunOfAnswers, OnePrefix, OnePrefixOfAnswers, IsPrefix}, specs.Runs.{Run, done, goes, takes, Each, EachRule, GoodRun, RunsWhole, RunsPrefix}, specs.Takes.{Takes, accepts, refuses}, proofs.Keeping.{runs-pay}, proofs.OneTaking.{one_taking}, proofs.Settling.{takes-agree}}

-- nothing follows by a rule where nothing is going on
pub no-rule : (p : Loaded) (natives : NativeAnswers) (s t : State) → IsIdle s → Rule p natives s t → ⊥
no-rule p natives s t idle x =
    let At : List Activation → Type 0 = λ stack. RuleAt p natives s t stack in
    let Next : Option Turn → Type 0 = λ turn. TurnRule p s t turn in
    subst Next idle.no_turn (subst At idle.empty x)

-- .. and an event is taken only there
pub taken-idle : {p : Loaded} {e : Event} {a : Answer} {s t : State} → Takes p e a s t → IsIdle s
taken-idle (accepts idle x) = idle
taken-idle (refuses r idle x) = idle

-- .. so a run that takes an event from there begins with it
pub first-taken : {p : Loaded} {natives : NativeAnswers} {s t : State} {n k : ℕ} {e : Event} {a : Answer} {es : List Event} {xs : List Answer} → IsIdle s → Run p natives s n (e ∷ es) (a ∷ xs) t k → (m : State) × Takes p e a s m
first-taken {p} {natives} idle (goes {s = s} {m = m} x rest) = absurd (no-rule p natives s m idle x)
first-taken idle (takes x rest) = (_, x)

-- ---- fronts

-- a list with nothing but itself in front has nothing more
nothing-more : {X : Type 0} (es more : List X) → es ≡ es ++ more → more ≡ []
nothing-more [] more e = sym e
nothing-more (x ∷ es) more e = let rest : es ≡ es ++ more = cc e in nothing-more es more rest

-- one run goes on where another ends
record GoesOn (p : Loaded) (natives : NativeAnswers) (d : ℕ) (first : List Event) (said : List Answer) (t : State) (j : ℕ) (second : List Event) (answered : List Answer) (u : State) (k : ℕ) : Type 0 where
  pub more : List Event
  pub taken : second ≡ first ++ more
  pub added : List Answer
  pub answers : answered ≡ said ++ added
  pub runs : GoodRun p natives d t j more added u k

goes-on-by : {p : Loaded} {natives : NativeAnswers} {d : ℕ} {first second : List Event} {said answered : List Answer} {t u : State} {j k : ℕ} {e f : Event} {a b : Answer} → e ≡ f → a ≡ b → GoesOn p natives d first said t j second answered u k → GoesOn p natives d (e ∷ first) (a ∷ said) t j (f ∷ second) (b ∷ answered) u k
goes-on-by {first = first} {said = said} {f = f} {b = b} same one x = record {
  more = x.more;
  taken = ap (λ (l : List Event). f ∷ l) x.taken ∙ ap (λ (y : Event). y ∷ first ++ x.more) (sym same);
  added = x.added;
  answers = ap (λ (l : List Answer). b ∷ l) x.answers ∙ ap (λ (y : Answer). y ∷ said ++ x.added) (sym one);
  runs = x.runs;
}

-- rules of which at most one leads on from a state where properties and bindings agree
abbrev IsOnce : Loaded → (ℕ → State → State → Type 0) → Type 0
IsOnce p Once = (n : ℕ) (s t u : State) → Agree p s.objects s.bindings → Once n s t → Once n s u → t ≡ u

fronts : {p : Loaded} {natives : NativeAnswers} {d : ℕ} {s t u : State} {n j k : ℕ} {a b : List Event} {v w : List Answer} (Once : ℕ → State → State → Type 0) (x y : List Event) → IsOnce p Once → IsSound p → Agree p s.objects s.bindings → a ++ x ≡ b ++ y → (f : Run p natives s n a v t j) (g : Run p natives s n b w u k) → Each (IsGood p d) f → Each (IsGood p d) g → EachRule Once f → EachRule Once g →
    GoesOn p natives d a v t j b w u k ⊎ GoesOn p natives d b w u k a v t j
fronts {b = b} {w = w} Once x y once sound agree same done g ok fine of also = inl (record { more = b; taken = refl; added = w; answers = refl; runs = record { run = g; good = fine } })
fronts {a = a} {v = v} Once x y once sound agree same (goes r f) done ok fine of also = inr (record { more = a; taken = refl; added = v; answers = refl; runs = record { run = goes r f; good = ok } })
fronts {a = a} {v = v} Once x y once sound agree same (takes r f) done ok fine of also = inr (record { more = a; taken = refl; added = v; answers = refl; runs = record { run = takes r f; good = ok } })
fronts {p} {natives} {d} {s} {t} {u} {j = j} {k = k} {a = a} {b = b} {v = v} {w = w} Once x y once sound agree same (goes {m = l} {n = n} r f) (goes {m = m} q g) ok fine of also =
    let one : l ≡ m = once n s l m agree of.0 also.0 in
    let After : State → Type 0 = λ z. (h : Run p natives z n b w u k) → Each (IsGood p d) h → EachRule Once h → GoesOn p natives d a v t j b w u k ⊎ GoesOn p natives d b w u k a v t j in
    let after : After l = λ h good all. fronts Once x y once sound (rule-agrees agree ok.0.well natives s.stack r) same f h ok.1 good of.1 all in
    subst After one after g fine.1 also.1
fronts {p} {natives} {d} {s} Once x y once sound agree same (goes {m = l} r f) (takes q g) ok fine of also = absurd (no-rule p natives s l (taken-idle q) r)
fronts {p} {natives} {d} {s} Once x y once sound agree same (takes r f) (goes {m = m} q g) ok fine of also = absurd (no-rule p natives s m (taken-idle r) q)
fronts {p} {natives} {d} {s} {t} {u} {j = j} {k = k} Once x y once sound agree same (takes {m = l} {n = n} {e = e} {a = a} {events = es} {answers = vs} r f) (takes {m = m} {e = i} {a = b} {events = is} {answers = ws} q g) ok fine of also =
    let first : e ≡ i = cc same in
    let others : es ++ x ≡ is ++ y = cc same in
    let At : Event → Type 0 = λ z. Takes p z b s m in
    let one = one_taking p e a b s l m sound agree r (subst At (sym first) q) ok.0.acyclic in
    let After : State → Type 0 = λ z. (h : Run p natives z n is ws u k) → Each (IsGood p d) h → EachRule Once h → GoesOn p natives d es vs t j is ws u k ⊎ GoesOn p natives d is ws u k es vs t j in
    let after : After l = λ h good all. fronts Once x y once sound (takes-agree sound agree r ok.0.well ok.0.acyclic) others f h ok.1 good of all in
    elim (subst After one.1 after g fine.1 also) [
      | inl leads ↦ inl (goes-on-by first one.0 leads)
      | inr leads ↦ inr (goes-on-by (sym first) (sym one.0) leads)
    ]

-- ---- by natives that have one answer

abbrev by-natives : Loaded → NativeAnswers → ℕ → State → State → Type 0
by-natives p natives n s t = Rule p natives s t

natives-once : (p : Loaded) (natives : NativeAnswers) → AnswersOnce natives → IsOnce p (by-natives p natives)
natives-once p natives once n s t u agree a b = rule-one p natives once s t u agree a b

each-own : {p : Loaded} {natives : NativeAnswers} {s t : State} {n k : ℕ} {es : List Event} {xs : List Answer} (r : Run p natives s n es xs t k) → EachRule (by-natives p natives) r
each-own done = tt
each-own (goes x rest) = (x, each-own rest)
each-own (takes x rest) = each-own rest

-- one of two runs of fronts is a front of the other
front-one : {p : Loaded} {natives : NativeAnswers} {d : ℕ} {s t u : State} {n j k : ℕ} {es : List Event} (Once : ℕ → State → State → Type 0) → IsOnce p Once → IsSound p → Agree p s.objects s.bindings → (a : RunsPrefix p natives d s n es t j) (b : RunsPrefix p natives d s n es u k) → EachRule Once a.runs.run → EachRule Once b.runs.run → IsPrefix a b ⊎ IsPrefix b a
front-one Once once sound agree a b of also =
    elim (fronts Once a.rest b.rest once sound agree (sym a.split ∙ b.split) a.runs.run b.runs.run a.runs.good b.runs.good of also) [
      | inl leads ↦ inl (record { more = leads.more; taken = leads.taken; said = leads.added; answers = leads.answers; runs = leads.runs; grows = (runs-pay leads.runs.run).grows })
      | inr leads ↦ inr (record { more = leads.more; taken = leads.taken; said = leads.added; answers = leads.answers; runs = leads.runs; grows = (runs-pay leads.runs.run).grows })
    ]

pub one_prefix : (natives : NativeAnswers) → OnePrefix natives
one_prefix natives once p depth s n events t u j k sound agree a b =
    front-one (by-natives p natives) (natives-once p natives once) sound agree a b (each-own a.runs.run) (each-own b.runs.run)

-- ---- whole runs

-- nothing leads on from where nothing is going on and no event is left
stays : {p : Loaded} {natives : NativeAnswers} {t u : State} {j k : ℕ} {es : List Event} {xs : List Answer} → es ≡ [] → IsIdle t → Run p natives t j es xs u k → (xs ≡ []) × (t ≡ u) × (j ≡ k)
stays none idle done = (refl, refl, refl)
stays {p} {natives} {t = t} none idle (goes {m = m} r rest) = absurd (no-rule p natives t m idle r)
stays none idle (takes r rest) = absurd (cc none)

-- .. so both give the same answers
append-none : {X : Type 0} (xs more : List X) → more ≡ [] → xs ++ more ≡ xs
append-none {X} xs more none = ap (λ (l : List X). xs ++ l) none ∙ append-nil xs

one-end : {p : Loaded} {natives : NativeAnswers} {d : ℕ} {t u : State} {j k : ℕ} {es : List Event} {xs ys : List Answer} → GoesOn p natives d es xs t j es ys u k → IsIdle t → (xs ≡ ys) × (t ≡ u) × (j ≡ k)
one-end {es = es} {xs = xs} x idle =
    let ends = stays (nothing-more es x.more x.taken) idle x.runs.run in
    (sym (append-none xs x.added ends.0) ∙ sym x.answers, ends.1, ends.2)

whole-one : {p : Loaded} {natives : NativeAnswers} {d : ℕ} {s t u : State} {n j k : ℕ} {es : List Event} {xs ys : List Answer} (Once : ℕ → State → State → Type 0) → IsOnce p Once → IsSound p → Agree p s.objects s.bindings → (a : RunsWhole p natives d s n es xs t j) (b : RunsWhole p natives d s n es ys u k) → EachRule Once a.runs.run → EachRule Once b.runs.run → (xs ≡ ys) × (t ≡ u) × (j ≡ k)
whole-one Once once sound agree a b of also =
    elim (fronts Once [] [] once sound agree refl a.runs.run b.runs.run a.runs.good b.runs.good of also) [
      | inl leads ↦ one-end leads a.ends
      | inr leads ↦ (let back = one-end leads b.ends in (sym back.0, sym back.1, sym back.2))
    ]

pub one_run : (natives : NativeAnswers) → OneRun natives
one_run natives once p depth s n events x y t u j k sound agree a b =
    whole-one (by-natives p natives) (natives-once p natives once) sound agree a b (each-own a.runs.run) (each-own b.runs.run)

-- ---- by equal answers of natives

-- natives that answer this and nothing else
abbrev only : List Action → NativeAnswers
only said class sig arguments reads actions = actions ≡ said

only-once : (said : List Action) → AnswersOnce (only said)
only-once said class sig arguments reads a b x y = x ∙ sym y

-- .. are asked for just one
abbrev by-answers : Loaded → (ℕ → List Action) → ℕ → State → State → Type 0
by-answers p said left s t = Rule p (only (said left)) s t

answers-once : (p : Loaded) (said : ℕ → List Action) → IsOnce p (by-answers p said)
answers-once p said left s t u agree x y = rule-one p (only (said left)) (only-once (said left)) s t u agree x y

pub one_run_of_answers : (natives : NativeAnswers) → OneRunOfAnswers natives
one_run_of_answers natives said p depth s n events x y t u j k sound agree a b of also = whole-one (by-answers p said) (answers-once p said) sound agree a b of also

pub one_prefix_of_answers : (natives : NativeAnswers) → OnePrefixOfAnswers natives
one_prefix_of_answers natives said p depth s n events t u j k sound agree a b of also = front-one (by-answers p said) (answers-once p said) sound agree a b of also
