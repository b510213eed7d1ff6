-- `disconnect`, where both ends are found.
use Rattle.std.proofs.Common.{ℕ, IsTrue, List, Ok, Err}
use Rattle.syntax_trees.specs.declared.connection.Endpoints.{Endpoints as Named}
use Rattle.meta_model.specs.Loaded.{Loaded}
use Rattle.script_lang.specs.declared.event.Event.TheVariants.{Disconnect}
use Rattle.trace_entries.specs.declared.refusal.Refusal.TheVariants.{NoConnection}
use Rattle.machine_state.specs.Accepting.{accepted}
use Rattle.machine_state.specs.Connections.{are_joined}
use Rattle.machine_state.specs.State.{State}
use Rattle.machine_state.specs.Worlds.{without_connections}
use Rattle.machine_rules.specs.declared.ends.FoundEnds.{FoundEnds}
use Rattle.machine_rules.specs.Judgement.{holds, fails, gives, goes_on, ends}
use Rattle.object_machine.specs.Events.{judged}
use Rattle.object_machine.specs.code.Judgement.{FindsEnds}

module _ (p : Loaded) (s : State) (e : Named (List ℕ)) (f : FoundEnds) (finds : FindsEnds p s.objects e f) where
  pub no-connection : (¬ IsTrue (are_joined f.ends s.connected)) → judged p s (Disconnect e) (Err NoConnection)
  no-connection none = goes_on f finds (ends (fails none))

  pub disconnects : IsTrue (are_joined f.ends s.connected) → judged p s (Disconnect e) (Ok (without_connections (accepted s) f.ends))
  disconnects is = goes_on f finds (goes_on tt (holds is) gives)
