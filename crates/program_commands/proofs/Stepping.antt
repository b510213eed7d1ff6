-- Steps one after another, backwards from what they come to.
use Rattle.std.proofs.Common.{◌≡◌, ℕ, List, Result, Ok, refl, sym, subst}
use Rattle.class_lang.specs.Reads.{ReadsWithin}
use Rattle.class_lang.specs.declared.size.Limits.{Limits}
use Rattle.meta_model.specs.Loaded.{Loaded}
use Rattle.meta_objects.specs.Builds.{Builds}
use Rattle.syntax_trees.specs.declared.program.Program.{Program}
use Rattle.program_commands.specs.Loading.{LoadsProgram}
use Rattle.program_commands.specs.Steps.{First, fails, goes_on}

-- where all comes to what no fault is, the first step found something, and the next ones came to it
pub went : {X F R : Type 0} {Finds : Result X F → Type 0} {fault_of : F → R} {Next : X → R → Type 0} {end : R} →
    First Finds fault_of Next end → ((fault : F) → end ≡ fault_of fault → ⊥) → (found : X) × Finds (Ok found) × Next found end
went (fails fault finds) other = absurd (other fault refl)
went (goes_on found end finds next) other = (found, finds, next)

-- what is loaded of a text
pub record Loads (limits : Limits) (text : List ℕ) (loaded : Loaded) : Type 0 where
  pub program : Program
  pub reads : ReadsWithin limits text (Ok program)
  pub builds : Builds program (Ok loaded)

pub loads_of : {limits : Limits} {text : List ℕ} {loaded : Loaded} → LoadsProgram limits text (Ok loaded) → Loads limits text loaded
loads_of {limits} {text} {loaded} steps =
    let read = went steps (λ fault is. cc is) in
    let built = went read.2 (λ fault is. cc is) in
    let same : loaded ≡ built.0 = cc built.2 in
    record { program = read.0; reads = read.1; builds = subst (λ (l : Loaded). Builds read.0 (Ok l)) (sym same) built.1 }
