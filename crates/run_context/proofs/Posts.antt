-- Calls that are posted.
use Rattle.std.proofs.Common.{◌≡◌, ℕ, List, Result, Ok, Err, Option, None, Some, refl, ap, ◌∙◌}
use Rattle.std.specs.Option.{option_map}
use Rattle.std.specs.Result.{IsErrAnd}
use Rattle.meta_model.specs.declared.object.MetaMethod.{MetaMethod}
use Rattle.meta_model.specs.Loaded.{Loaded}
use Rattle.object_tree.specs.declared.life.Life.{Life}
use Rattle.object_tree.specs.declared.object.Object.{Object}
use Rattle.object_tree.specs.Objects.{home_of}
use Rattle.object_tree.proofs.Changing.{life-of-lives}
use Rattle.trace_entries.specs.declared.fault.Fault.{Fault}
use Rattle.trace_entries.specs.declared.fault.Fault.TheVariants.{Memory}
use Rattle.machine_state.specs.declared.world.World.{World}
use Rattle.machine_state.specs.code.Changing.{GoesTo}
use Rattle.machine_rules.specs.There.{IsMember}

-- memory was refused, behind a `?`
pub becomes-short : (w target : World) (r : Result (Unit {0}) Fault) → IsErrAnd r (λ y. y ≡ Memory) → GoesTo w target w r
becomes-short w target (Ok _) is = absurd is
becomes-short w target (Err f) is = (is, refl)

-- an object with a method lives in a loop
pub no-home : {p : Loaded} {objects : List Object} {o m : ℕ} {x : Object} {method : MetaMethod} → IsMember p objects o m x method → None ≡ home_of objects o → ⊥
no-home {objects = objects} {o = o} is none =
    let lives : home_of objects o ≡ Some is.life.home = ap (λ (there : Option Life). option_map (λ (l : Life). l.home) there) (life-of-lives is.lives) in
    let no : None ≡ Some is.life.home = none ∙ lives in
    absurd (cc no)
