-- What a run and an input come to.
use Rattle.std.proofs.Common.{◌≡◌, ℕ, inl, inr, true, false, List, [], ◌∷◌, length, Result, Ok, Err, sym, ap, ◌∙◌, subst, arith}
use Rattle.std.specs.Prelude.{IfErr}
use Rattle.meta_model.specs.Loaded.{Loaded}
use Rattle.machine_rules.specs.Natives.{NativeAnswers}
use Rattle.object_machine.specs.Checked.{IsLimit, StopsAtLimit}
use Rattle.object_machine.specs.Claims.{Claims}
use Rattle.object_machine.specs.Seen.{Seen, RunsAll, begun}
use Rattle.script_lang.specs.declared.event.Event.{Event}
use Rattle.settling.specs.declared.certificate.SettlingCertificate.{SettlingCertificate}
use Rattle.machine_state.specs.Worlds.{at}
use Rattle.settled_runs.specs.{Claims.{IsLimitAt}, Machine.{StopsAtLimitAlone}}
use Rattle.trace_entries.specs.declared.fault.Fault.{Fault}
use Rattle.command_lines.specs.Cut.{AreTexts}

-- a run of a machine that had done nothing ends for no other reason than a limit
pub ends_at_limit : {N : Type 0} {before : Seen N} {loaded : Loaded} {natives : N} {depth steps : ℕ} (ended : Result (Unit {0}) Fault) →
    before ≡ begun loaded natives depth steps → IfErr ended (StopsAtLimit before) → IfErr ended IsLimit
ends_at_limit (Ok done) is stops = tt
ends_at_limit {N} {before = before} (Err fault) is stops =
    elim stops [
      | inl limit ↦ limit
      | inr stopped ↦ let no : true ≡ false = sym stopped ∙ ap (λ (m : Seen N). m.stopped) is in absurd (cc no)
    ]

-- .. and one of a program with a settling certificate for no other than that, or its depth
pub ends_settling : {N : Type 0} (gives : N → NativeAnswers) (certificate : SettlingCertificate) (loaded : Loaded) (natives : N) (depth steps : ℕ) (events : List Event) (ended : Result (Unit {0}) Fault) (after : Seen N) →
    RunsAll gives (begun loaded natives depth steps) events ended after → StopsAtLimitAlone gives certificate (begun loaded natives depth steps) → IfErr ended (IsLimitAt certificate depth (at after.world []))
ends_settling gives certificate loaded natives depth steps events (Ok done) after all stops = tt
ends_settling gives certificate loaded natives depth steps events (Err fault) after all stops =
    elim all [
      | inl halts ↦ stops events fault after halts
      | inr stays ↦ let no : false ≡ true = stays.stopped in absurd (cc no)
    ]

-- the claims on a machine that is known
pub claims_of : {N : Type 0} {gives : N → NativeAnswers} {before machine : Seen N} → before ≡ machine → Claims gives before → Claims gives machine
claims_of {N} {gives} is claims = subst (λ (m : Seen N). Claims gives m) is claims

-- ---- another number of texts

pub one_only : (input : List ℕ) → ((text : List ℕ) → AreTexts input (text ∷ []) → ⊥) → (texts : List (List ℕ)) → AreTexts input texts → length texts ≡ 1 → ⊥
one_only input h [] are e = are
one_only input h (text ∷ []) are e = h text are
one_only input h (text ∷ next ∷ texts) are e = omega (arith, e)

pub two_only : (input : List ℕ) → ((first second : List ℕ) → AreTexts input (first ∷ second ∷ []) → ⊥) → (texts : List (List ℕ)) → AreTexts input texts → length texts ≡ 2 → ⊥
two_only input h [] are e = are
two_only input h (text ∷ []) are e = omega (arith, e)
two_only input h (first ∷ second ∷ []) are e = h first second are
two_only input h (first ∷ second ∷ next ∷ texts) are e = omega (arith, e)

pub three_only : (input : List ℕ) → ((first second third : List ℕ) → AreTexts input (first ∷ second ∷ third ∷ []) → ⊥) → (texts : List (List ℕ)) → AreTexts input texts → length texts ≡ 3 → ⊥
three_only input h [] are e = are
three_only input h (text ∷ []) are e = omega (arith, e)
three_only input h (first ∷ second ∷ []) are e = omega (arith, e)
three_only input h (first ∷ second ∷ third ∷ []) are e = h first second third are
three_only input h (first ∷ second ∷ third ∷ next ∷ texts) are e = omega (arith, e)
