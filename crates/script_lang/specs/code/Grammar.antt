-- What the readers of an event do.
use Rattle.std.specs.Prelude.{ℕ, ◌≡◌, ◌≢◌, List, map, Option, Some, None, Result}
use Rattle.token_reading.specs.Lists.{spell_each}
use Rattle.token_reading.specs.code.Reading.{Reads, IsAtEnd}
use Rattle.token_reading.specs.Reading.{spell_name}
use Rattle.token_reading.specs.declared.fault.ParseFault.{ParseFault}
use Rattle.texts.specs.declared.token.Token.{Token}
use Rattle.script_lang.specs.declared.event.Event.{Event}
use Rattle.script_lang.specs.declared.event.Input.{Input}
use Rattle.script_lang.specs.declared.verb.Verb.{Verb}
use Rattle.script_lang.specs.Grammar.{tree_of_input, verb_token, Invocation, spell_follow, tree_of_follow, spell_event, tree_of_event}

-- the verb that the token is, if it is one
abbrev pub IsVerbOf : Token → Option Verb → Type 0
IsVerbOf t (Some verb) = t ≡ verb_token verb
IsVerbOf t None = (verb : Verb) → t ≢ verb_token verb

abbrev pub tree_of_invocation : Invocation → List ℕ × List ℕ × List Input
tree_of_invocation i = (i.member.0, i.member.1, map tree_of_input i.arguments)

abbrev pub ReadsNames : List Token → Result (List (List ℕ)) ParseFault → List Token → Type 0
ReadsNames before result after = Reads (spell_each spell_name) (λ names. names) IsAtEnd before result after

abbrev pub ReadsFollow : Verb → List Token → Result Event ParseFault → List Token → Type 0
ReadsFollow v before result after = Reads (spell_follow v) (tree_of_follow v) IsAtEnd before result after

abbrev pub ReadsEvent : List Token → Result Event ParseFault → List Token → Type 0
ReadsEvent before result after = Reads spell_event tree_of_event IsAtEnd before result after
