-- `block` and `unblock`.
use Rattle.std.proofs.Common.{ℕ, List, Bool, true, false, [], Result, Ok}
use Rattle.meta_model.specs.Loaded.{Loaded}
use Rattle.object_tree.specs.declared.life.Life.{Life}
use Rattle.object_tree.specs.Objects.{change_life, blocked}
use Rattle.trace_entries.specs.declared.refusal.Refusal.{Refusal}
use Rattle.machine_state.specs.declared.world.World.{World}
use Rattle.machine_state.specs.Accepting.{accepted}
use Rattle.machine_state.specs.State.{State}
use Rattle.machine_state.specs.Worlds.{at}
use Rattle.object_machine.specs.declared.not_accepted.NotAccepted.{NotAccepted}
use Rattle.machine_rules.specs.Judgement.{Numbered, gives, goes_on, ends}
use Rattle.object_machine.specs.code.Judgement.{IsNotAccepted, refused, short, IsLiving}
use Rattle.qt_runtime.specs.code.Quiet.{blocking}
use Rattle.object_machine.specs.Events.{judged, block, living}
use Rattle.object_machine.proofs.Judging.Naming.{living-ok}

judged-blocking : (p : Loaded) (s : State) {r : Result State Refusal} (name : List ℕ) (on : Bool) → block s name on r → judged p s (blocking on name) r
judged-blocking p s name true x = x
judged-blocking p s name false x = x

-- the name isn't accepted
pub not-blocking : (p : Loaded) (w : World) {n : NotAccepted} (name : List ℕ) (on : Bool) → IsNotAccepted (living w.store.tree name) n → IsNotAccepted (judged p (at w []) (blocking on name)) n
not-blocking p w name on (refused x) = refused (judged-blocking p (at w []) name on (ends x))
not-blocking p w name on short = short

pub blocks : (p : Loaded) (w : World) (name : List ℕ) (on : Bool) (o : Numbered Life) → IsLiving w.store.tree name o → judged p (at w []) (blocking on name) (Ok (record (accepted (at w [])) { objects = change_life o.number (blocked on) w.store.tree }))
blocks p w name on o lives = judged-blocking p (at w []) name on (goes_on o (living-ok o lives) gives)
