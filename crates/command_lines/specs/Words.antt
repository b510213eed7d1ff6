-- The words of a command line (docs/commands.md, "The command line").
use Rattle.std.specs.Prelude.{◌≡◌, ◌≢◌, ℕ, ◌-◌, ◌^◌, ◌<◌, ◌≤◌, ◌⊎◌, Bool, true, false, List, [], ◌∷◌, codes}
use Rattle.texts.specs.Limits.{most_depth}
use Rattle.texts.specs.Numerals.{IsNumeral}
use Rattle.command_lines.specs.declared.words.Command.{Command}
use Rattle.command_lines.specs.declared.words.Command.TheVariants.{Meta, Certify, Check, CertifySettling, CheckSettling, Run, RunSettling, RunUnchecked}
use Rattle.command_lines.specs.declared.words.CommandLine.{CommandLine}

-- decimal digits that write a number from 1 to the largest one
pub record IsNumber (largest : ℕ) (word : List ℕ) (n : ℕ) : Type 0 where
  pub written : IsNumeral word n
  pub least : 1 ≤ n
  pub most : n ≤ largest

-- `--steps M`, or nothing for the limit of 1,000,000 steps
abbrev pub IsLimit : List (List ℕ) → ℕ → Type 0
IsLimit words steps = ((words ≡ []) × (steps ≡ 1000000))
    ⊎ ((word : List ℕ) × (words ≡ codes "--steps" ∷ word ∷ []) × IsNumber (2 ^ 63 - 1) word steps)

-- `run`, and then the limit
pub record IsRun (words : List (List ℕ)) (steps : ℕ) : Type 0 where
  pub options : List (List ℕ)
  pub are : words ≡ codes "run" ∷ options
  pub limited : IsLimit options steps

-- `run --settling`, and then the limit
pub record IsSettlingRun (words : List (List ℕ)) (steps : ℕ) : Type 0 where
  pub options : List (List ℕ)
  pub are : words ≡ codes "run" ∷ codes "--settling" ∷ options
  pub limited : IsLimit options steps

-- `run --unchecked N`, and then the limit
pub record IsUncheckedRun (words : List (List ℕ)) (depth steps : ℕ) : Type 0 where
  pub word : List ℕ
  pub options : List (List ℕ)
  pub are : words ≡ codes "run" ∷ codes "--unchecked" ∷ word ∷ options
  pub deep : IsNumber most_depth word depth
  pub limited : IsLimit options steps

-- the first of the words writes this number, and the rest come after it
pub record IsFirstNumber (largest : ℕ) (words : List (List ℕ)) (n : ℕ) (rest : List (List ℕ)) : Type 0 where
  pub word : List ℕ
  pub are : words ≡ word ∷ rest
  pub is : IsNumber largest word n

-- the words are this command's
abbrev pub IsCommand : List (List ℕ) → Command → Type 0
IsCommand words Meta = words ≡ codes "meta" ∷ []
IsCommand words Certify = words ≡ codes "certify" ∷ []
IsCommand words Check = words ≡ codes "check" ∷ []
IsCommand words CertifySettling = words ≡ codes "certify" ∷ codes "--settling" ∷ []
IsCommand words CheckSettling = words ≡ codes "check" ∷ codes "--settling" ∷ []
IsCommand words (Run steps) = IsRun words steps
IsCommand words (RunSettling steps) = IsSettlingRun words steps
IsCommand words (RunUnchecked options) = IsUncheckedRun words options.depth options.steps

-- `--wide`, and then the words of this command
pub record IsWide (words : List (List ℕ)) (command : Command) : Type 0 where
  pub rest : List (List ℕ)
  pub are : words ≡ codes "--wide" ∷ rest
  pub is : IsCommand rest command

-- the words are this command line's: a command's, with `--wide` in front or without it
abbrev pub IsLineOf : List (List ℕ) → Command → Bool → Type 0
IsLineOf words command true = IsWide words command
IsLineOf words command false = IsCommand words command

abbrev pub IsLine : List (List ℕ) → CommandLine → Type 0
IsLine words line = IsLineOf words line.command line.is_wide

-- the numbers of steps from 1 to the largest
abbrev pub AreSteps : ℕ → Type 0
AreSteps steps = (1 ≤ steps) × (steps < 2 ^ 63)

-- a command's numbers are within their limits
abbrev pub IsWithinLimits : Command → Type 0
IsWithinLimits Meta = Unit {0}
IsWithinLimits Certify = Unit {0}
IsWithinLimits Check = Unit {0}
IsWithinLimits CertifySettling = Unit {0}
IsWithinLimits CheckSettling = Unit {0}
IsWithinLimits (Run steps) = AreSteps steps
IsWithinLimits (RunSettling steps) = AreSteps steps
IsWithinLimits (RunUnchecked options) = (1 ≤ options.depth) × (options.depth ≤ most_depth) × AreSteps options.steps

-- what the words don't say
abbrev pub IsNoNumber : ℕ → List ℕ → Type 0
IsNoNumber largest word = (n : ℕ) → IsNumber largest word n → ⊥

abbrev pub IsNoLimit : List (List ℕ) → Type 0
IsNoLimit words = (steps : ℕ) → IsLimit words steps → ⊥

abbrev pub IsNoRun : List (List ℕ) → Type 0
IsNoRun words = (steps : ℕ) → IsRun words steps → ⊥

abbrev pub IsNoSettlingRun : List (List ℕ) → Type 0
IsNoSettlingRun words = (steps : ℕ) → IsSettlingRun words steps → ⊥

abbrev pub IsNoUncheckedRun : List (List ℕ) → Type 0
IsNoUncheckedRun words = (depth steps : ℕ) → IsUncheckedRun words depth steps → ⊥

abbrev pub IsNoCommand : List (List ℕ) → Type 0
IsNoCommand words = (command : Command) → IsCommand words command → ⊥

abbrev pub IsNoLine : List (List ℕ) → Type 0
IsNoLine words = (line : CommandLine) → IsLine words line → ⊥

-- the first word isn't this one
abbrev pub BeginsOtherwise : List ℕ → List (List ℕ) → Type 0
BeginsOtherwise word words = (rest : List (List ℕ)) → words ≢ word ∷ rest

-- the first word writes no number
abbrev pub BeginsWithNoNumber : ℕ → List (List ℕ) → Type 0
BeginsWithNoNumber largest words =
    (word : List ℕ) (rest : List (List ℕ)) (n : ℕ) → words ≡ word ∷ rest → IsNumber largest word n → ⊥
