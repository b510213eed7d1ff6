-- Events that are applied one after the other.
use Rattle.std.proofs.Common.{◌≡◌, ℕ, ◌⊎◌, true, false, List, [], ◌∷◌, ◌++◌, None, Result, Ok, Err, refl, sym, ap, ◌∙◌, subst, inl, inr, append_assoc}
use Rattle.std.specs.Prelude.{IfErr}
use Rattle.std.specs.Result.{IsErrAnd}
use Rattle.script_lang.specs.declared.event.Event.{Event}
use Rattle.meta_model.specs.Loaded.{Loaded}
use Rattle.trace_entries.specs.declared.fault.Fault.{Fault}
use Rattle.machine_state.specs.State.{State}
use Rattle.machine_rules.specs.Natives.{NativeAnswers}
use Rattle.binding_graph.specs.declared.binding.Binding.{Binding}
use Rattle.trace_entries.specs.declared.fault.Answer.{Answer}
use Rattle.object_machine.specs.Runs.{done, Follows, by_rule, by_event, IsDue, goes_on, is_next}
use Rattle.object_machine.specs.Causes.{BindsNext, Brings, StopsFor, spent, short, brings, lacks_value, writes_ill, binds_ill, goes_ill, goes_fatal, binds_loop, writes_deep, goes_deep}
use Rattle.object_machine.specs.Checked.{IsLimit, StopsAtLimit}
use Rattle.object_machine.specs.Seen.{Seen, Completes, Halts, Stays, RunsAll}
use Rattle.object_machine.proofs.Running.{runs-trans}

pub completes-none : {N : Type 0} {gives : N → NativeAnswers} {a : Seen N} → a.stopped ≡ false → a.world.turn ≡ None → Completes gives a [] [] a
completes-none went none = record { went = went; same = refl; runs = record { run = done; good = tt }; ends = record { empty = refl; no_turn = none } }

-- a run goes on where another came
pub completes-then : {N : Type 0} {gives : N → NativeAnswers} {a b c : Seen N} {es fs : List Event} {xs ys : List Answer} → Completes gives a es xs b → Completes gives b fs ys c → Completes gives a (es ++ fs) (xs ++ ys) c
completes-then {N} {gives} {a} {b} {c} {es} {fs} {xs} {ys} x y =
    let Family : Seen N → Type 0 = λ s. Completes gives s fs ys c in
    let z : Completes gives (record a { world = b.world }) fs ys c = subst Family x.same y in
    record { went = x.went; same = z.same; runs = runs-trans x.runs z.runs; ends = z.ends }

pub halts-after : {N : Type 0} {gives : N → NativeAnswers} {a b c : Seen N} {f : Fault} {es fs : List Event} {xs : List Answer} → Completes gives a es xs b → Halts gives b fs f c → Halts gives a (es ++ fs) f c
halts-after {N} {gives} {a} {b} {c} {f} {es} {fs} {xs} x y =
    let Family : Seen N → Type 0 = λ s. Halts gives s fs f c in
    let z : Halts gives (record a { world = b.world }) fs f c = subst Family x.same y in
    record {
      went = x.went;
      same = z.same;
      stack = z.stack;
      front = record {
        taken = es ++ z.front.taken;
        rest = z.front.rest;
        split = ap (λ (l : List Event). es ++ l) z.front.split ∙ sym (append_assoc es z.front.taken z.front.rest);
        answers = xs ++ z.front.answers;
        runs = runs-trans x.runs z.front.runs;
      };
      cause = z.cause;
    }

-- a rule that is due stays due, and one that follows still follows, whatever events come after
due-more : {s : State} {es : List Event} (more : List Event) → IsDue s es → IsDue s (es ++ more)
due-more more (goes_on x) = goes_on x
due-more more (is_next x) = is_next x

follows-more : {p : Loaded} {natives : NativeAnswers} {s t : State} {es : List Event} (more : List Event) → Follows p natives s t es → Follows p natives s t (es ++ more)
follows-more more (by_rule x) = by_rule x
follows-more more (by_event x) = by_event x

-- .. and a bind that is next still is
next-more : {p : Loaded} {s : State} {es : List Event} {b : Binding} (more : List Event) → BindsNext p s es b → BindsNext p s (es ++ more) b
next-more more x = record { idle = x.idle; site = x.site; target = x.target; sources = x.sources; rest = x.rest ++ more; is_next = ap (λ (l : List Event). l ++ more) x.is_next; may = x.may }

-- .. and what comes next brings the same fault
brings-more : {p : Loaded} {natives : NativeAnswers} {d : ℕ} {s : State} {es : List Event} {f : Fault} (more : List Event) → Brings p natives d s es f → Brings p natives d s (es ++ more) f
brings-more more (lacks_value x) = lacks_value x
brings-more more (writes_ill x) = writes_ill x
brings-more more (binds_ill x) = binds_ill (record { binding = x.binding; next = next-more more x.next; ill = x.ill })
brings-more more (goes_ill x) = goes_ill (record { t = x.t; follows = follows-more more x.follows; acyclic = x.acyclic; ill = x.ill })
brings-more more (goes_fatal x) = goes_fatal (record { t = x.t; follows = follows-more more x.follows; well = x.well; fatal = x.fatal })
brings-more more (binds_loop x) = binds_loop (record { binding = x.binding; next = next-more more x.next; fit = x.fit; closes = x.closes })
brings-more more (writes_deep x) = writes_deep x
brings-more more (goes_deep x) = goes_deep (record { t = x.t; follows = follows-more more x.follows; well = x.well; spared = x.spared; acyclic = x.acyclic; fits = x.fits; deep = x.deep })

stops-more : {p : Loaded} {natives : NativeAnswers} {d : ℕ} {s : State} {left : ℕ} {es : List Event} {f : Fault} (more : List Event) → StopsFor p natives d s left es f → StopsFor p natives d s left (es ++ more) f
stops-more more (spent none due) = spent none (due-more more due)
stops-more more (short some due) = short some (due-more more due)
stops-more more (brings some x) = brings some (brings-more more x)

-- a run that stopped takes no further event
pub halts-more : {N : Type 0} {gives : N → NativeAnswers} {a c : Seen N} {f : Fault} {es : List Event} (more : List Event) → Halts gives a es f c → Halts gives a (es ++ more) f c
halts-more {N} {gives} {a} {c} {f} {es} more x = record {
  went = x.went;
  same = x.same;
  stack = x.stack;
  front = record {
    taken = x.front.taken;
    rest = x.front.rest ++ more;
    split = ap (λ (l : List Event). l ++ more) x.front.split ∙ append_assoc x.front.taken x.front.rest more;
    answers = x.front.answers;
    runs = x.front.runs;
  };
  cause = stops-more more x.cause;
}

-- where a run completed the machine has not stopped
pub still-goes : {N : Type 0} {gives : N → NativeAnswers} {a b : Seen N} {es : List Event} {xs : List Answer} → Completes gives a es xs b → b.stopped ≡ false
still-goes {N} x = ap (λ (s : Seen N). s.stopped) x.same ∙ x.went

-- the events so far were taken, and the next one stopped the machine, behind a `?`
pub run-stops : {N : Type 0} {gives : N → NativeAnswers} {a b c : Seen N} {f : Fault} {es : List Event} {xs : List Answer} {e : Event} (more : List Event) (r : Result (Unit {0}) Fault) → Completes gives a es xs b → Halts gives b (e ∷ []) f c ⊎ Stays b f c → IsErrAnd r (λ y. y ≡ f) → RunsAll gives a (es ++ e ∷ more) r c
run-stops more (Ok _) x y is = absurd is
run-stops {N} {gives} {a} {b} {c} {f} {es} {e = e} more (Err g) x y is =
    let split : (es ++ e ∷ []) ++ more ≡ es ++ e ∷ more = append_assoc es (e ∷ []) more in
    let Events : List Event → Type 0 = λ l. Halts gives a l f c in
    let Named : Fault → Type 0 = λ h. Halts gives a (es ++ e ∷ more) h c ⊎ Stays a h c in
    elim y [
      | inl halts ↦ subst Named (sym is) (inl (subst Events split (halts-more more (halts-after x halts))))
      | inr stays ↦ let no : true ≡ false = sym stays.stopped ∙ still-goes x in absurd (cc no)
    ]

-- where a machine stops that had taken events before, behind a `?`
pub limit-behind : {N : Type 0} {gives : N → NativeAnswers} {a b : Seen N} {es : List Event} {xs : List Answer} {f : Fault} (r : Result (Unit {0}) Fault) → Completes gives a es xs b → StopsAtLimit b f → IsErrAnd r (λ y. y ≡ f) → IfErr r (StopsAtLimit a)
limit-behind (Ok _) x stops is = tt
limit-behind {f = f} (Err g) x stops is =
    let limit : IsLimit f = elim stops [
      | inl limit ↦ limit
      | inr stopped ↦ let no : true ≡ false = sym stopped ∙ still-goes x in absurd (cc no)
    ] in
    inl (subst IsLimit (sym is) limit)
