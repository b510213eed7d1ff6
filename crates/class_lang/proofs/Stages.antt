-- What each stage of the reader settles.
use Rattle.std.proofs.Common.{◌≡◌, ◌⊎◌, ℕ, List, inr, Err, refl, IsTrue, false, ◌↔◌}
use Rattle.texts.specs.Nesting.{IsTooDeep}
use Rattle.texts.specs.Pieces.{AreTokens}
use Rattle.token_reading.specs.Signatures.{HasPlainReference}
use Rattle.token_reading.specs.declared.fault.ParseFault.{ParseFault}
use Rattle.token_reading.specs.declared.fault.ParseFault.TheVariants as parse
use Rattle.texts.specs.declared.lexer.LexFault.{LexFault}
use Rattle.texts.specs.declared.lexer.LexFault.TheVariants as lex
use Rattle.texts.specs.declared.token.Token.{Token}
use Rattle.class_lang.specs.Declarations.{IsProgram}
use Rattle.class_lang.specs.Limits.{HasFewParameters, IsWithinLimits}
use Rattle.class_lang.specs.code.Faults.{fault_of_cutting, fault_of_parsing}
use Rattle.class_lang.specs.Reads.{IsShortText, IsProgramText, HasTooManyParameters, IsLargeProgram, IsLongText, ReadsWithin}
use Rattle.class_lang.specs.declared.size.Limits.{Limits}
use Rattle.syntax_trees.specs.declared.program.Program.{Program}

-- what a test that fails tests for doesn't hold
pub not_true : {P : Type 0} → (IsTrue false ↔ P) → ¬ P
not_true h p = let e = h.1 p in cc

pub not_cut : (limits : Limits) (bytes : List ℕ) (fault : LexFault) → IsShortText limits bytes → (fault ≡ lex.BadByte → (tokens : List Token) → AreTokens bytes tokens → ⊥) → ReadsWithin limits bytes (Err (fault_of_cutting fault))
not_cut limits bytes lex.BadByte short refused = record { short = short; uncut = refused refl }
not_cut limits bytes lex.Memory short refused = tt

pub not_parsed : (limits : Limits) (bytes : List ℕ) (tokens : List Token) (fault : ParseFault) → IsShortText limits bytes → AreTokens bytes tokens → ¬ IsTooDeep tokens → (fault ≡ parse.Syntax → (program : Program) → IsProgram tokens program → ⊥) → ReadsWithin limits bytes (Err (fault_of_parsing fault))
not_parsed limits bytes tokens parse.Syntax short cut flat refused = record { short = short; tokens = tokens; cut = cut; flat = flat; none = refused refl }
not_parsed limits bytes tokens parse.Memory short cut flat refused = tt

module _ (limits : Limits) (bytes : List ℕ) (tokens : List Token) (program : Program) (short : IsShortText limits bytes) (cut : AreTokens bytes tokens) (flat : ¬ IsTooDeep tokens) (reads : IsProgram tokens program) (constant : ¬ HasPlainReference tokens) where
  text : IsProgramText limits bytes program
  text = record { short = short; tokens = tokens; cut = cut; flat = flat; reads = reads; constant = constant }

  pub too_many : ¬ HasFewParameters program → HasTooManyParameters limits bytes
  too_many many = record { program = program; text = text; many = many }

  pub too_large : HasFewParameters program → ¬ IsWithinLimits limits program → IsLongText limits bytes ⊎ IsLargeProgram limits bytes
  too_large few large = inr (record { program = program; text = text; few = few; large = large })
