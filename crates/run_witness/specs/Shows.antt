-- What a script shows of a program (docs/witness.md).
use Rattle.std.specs.Prelude.{ℕ, Bool, true, false, IsTrue, List, Ok, Err, Result, string_bytes}
use Rattle.class_lang.specs.declared.size.Limits.{Limits}
use Rattle.certificate_lang.specs.declared.certificate.Certificate.{Certificate}
use Rattle.meta_model.specs.Loaded.{Loaded}
use Rattle.native_slots.specs.declared.head.NativeHead.{NativeHead}
use Rattle.rank_check.specs.Valid.{IsValid}
use Rattle.settling.specs.declared.certificate.SettlingCertificate.{SettlingCertificate}
use Rattle.settling.specs.Valid as settling
use Rattle.script_lang.specs.declared.event.Event.{Event}
use Rattle.trace_entries.specs.{declared.fault.Fault.{Fault}, declared.fault.Fault.TheVariants.{TooDeep, BindingLoop, InUse}}
use Rattle.machine_state.specs.{declared.world.World.{World}, Worlds.{untouched}}
use Rattle.machine_rules.specs.Natives.{NativeAnswers}
use Rattle.object_machine.specs.Causes.{Halts}
use Rattle.texts.specs.Limits.{most_depth}
use Rattle.program_commands.specs.Loading.{LoadsProgram}
use Rattle.trace_tool.specs.{Commands.{MayRun}, declared.any_machine.outcome.Outcome.{Outcome}, declared.any_machine.outcome.Outcome.TheVariants.{Ran}}
use Rattle.run_witness.specs.{declared.search.SearchOutcome.{SearchOutcome}, declared.search.SearchOutcome.TheVariants.{Found, NotFound, Certified, Settles}}

-- activations nest too deep (61), bindings form a loop (62), or an object dies in a body of its own (63)
abbrev pub is_shown : Fault → Bool
is_shown TooDeep = true
is_shown BindingLoop = true
is_shown InUse = true
is_shown _ = false

-- The program of this text, read by these limits, runs unchecked on the events of this script, with these natives, to the
-- greatest depth: within so many rules one of these faults stops its machine.
pub record Shows (limits : Limits) (heads : List NativeHead) (natives : NativeAnswers) (program script : List ℕ) (steps : ℕ) : Type 0 where
  pub loaded : Loaded
  pub events : List Event
  pub may : MayRun limits heads program script (Ok (loaded, events))
  pub fault : Fault
  pub shown : IsTrue (is_shown fault)
  pub after : World
  pub halts : Halts loaded natives most_depth (untouched steps) events fault after

-- the program of this text, read by these limits, has a certificate
pub record IsCertified (limits : Limits) (program : List ℕ) : Type 0 where
  pub loaded : Loaded
  pub loads : LoadsProgram limits program (Ok loaded)
  pub certificate : Certificate
  pub valid : IsValid loaded certificate

-- the program of this text, read by these limits, has a settling certificate
pub record IsSettling (limits : Limits) (program : List ℕ) : Type 0 where
  pub loaded : Loaded
  pub loads : LoadsProgram limits program (Ok loaded)
  pub certificate : SettlingCertificate
  pub valid : settling.IsValid loaded certificate

-- a script that is found shows this, and a program that is certified, or settles, is so; that none is found says nothing
abbrev pub IsSearchOutcome : (List ℕ → Type 0) → Type 0 → Type 0 → SearchOutcome → Type 0
IsSearchOutcome Shown Known Resting (Found script) = Shown (string_bytes script)
IsSearchOutcome Shown Known Resting NotFound = Unit {0}
IsSearchOutcome Shown Known Resting Certified = Known
IsSearchOutcome Shown Known Resting Settles = Resting

-- a run, and one of these faults ended it
abbrev pub ends_shown : Result (Unit {0}) Fault → Bool
ends_shown (Ok _) = false
ends_shown (Err fault) = is_shown fault

abbrev pub shows_fault : {M : Type 0} → Outcome M → Bool
shows_fault (Ran ran) = ends_shown ran.ended
shows_fault _ = false
