-- What is answered of a program's text (docs/graph.md): a graph where the program loads, and else what refuses it, which is
-- what refuses it to the command `meta` with the same limits (docs/commands.md, "Refusals").
use Rattle.std.specs.Prelude.{◌≡◌, ℕ, List, Ok, Err, Some, ⊤}
use Rattle.meta_model.specs.Loaded.{Loaded}
use Rattle.class_lang.specs.declared.size.Limits.{Limits}
use Rattle.program_commands.specs.Loading.{LoadsProgram}
use Rattle.program_commands.specs.Refusals.{refusal_number}
use Rattle.program_commands.specs.declared.refusal.Refusal.{Refusal}
use Rattle.class_graph.specs.declared.fault.GraphFault.{GraphFault}
use Rattle.class_graph.specs.declared.fault.GraphFault.TheVariants.{Refused, Unknown, TooLarge, Memory}

-- the text is a program that loads
pub record Loads (limits : Limits) (text : List ℕ) : Type 0 where
  pub loaded : Loaded
  pub loads : LoadsProgram limits text (Ok loaded)

-- the text is refused, or the program that it is, with this number
pub record IsRefused (limits : Limits) (text : List ℕ) (number : ℕ) : Type 0 where
  pub refusal : Refusal
  pub refused : LoadsProgram limits text (Err refusal)
  pub numbered : refusal_number refusal ≡ Some number

-- why there is no graph: a part that isn't there is asked of a program that loads, and one that loads has too many edges
abbrev pub Lacks : Limits → List ℕ → GraphFault → Type 0
Lacks limits text (Refused number) = IsRefused limits text number
Lacks limits text (Unknown sentence) = Loads limits text
Lacks limits text TooLarge = Loads limits text
Lacks limits text Memory = ⊤
