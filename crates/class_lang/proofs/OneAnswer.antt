-- A text has one answer.
use Rattle.std.proofs.Common.{◌≡◌, ◌⊎◌, ℕ, List, Result, Ok, Err, refl, ap, arith, inl, inr}
use Rattle.texts.specs.Nesting.{IsTooDeep}
use Rattle.texts.specs.Pieces.{AreTokens}
use Rattle.texts.specs.declared.token.Token.{Token}
use Rattle.texts.proofs.Cut.{same_tokens}
use Rattle.class_lang.specs.Declarations.{IsProgram}
use Rattle.class_lang.specs.Limits.{HasFewParameters, IsWithinLimits}
use Rattle.class_lang.specs.Reads.{IsShortText, IsLongText, IsDeepText, IsOutsideGrammar, HasBadType, IsProgramText, HasTooManyParameters, IsLargeProgram, ReadsWithin}
use Rattle.class_lang.specs.declared.fault.TextFault.{TextFault}
use Rattle.class_lang.specs.declared.fault.TextFault.TheVariants.{TooLarge, BadByte, TooDeepText, Syntax, BadType, TooMany, Memory}
use Rattle.class_lang.specs.declared.size.Limits.{Limits}
use Rattle.syntax_trees.specs.declared.program.Program.{Program}
use Rattle.class_lang.proofs.OneTree.{one_program}

pub one_program_text : (limits : Limits) (bytes : List ℕ) (p q : Program) → IsProgramText limits bytes p → IsProgramText limits bytes q → p ≡ q
one_program_text limits bytes p q h k =
    let same = same_tokens bytes h.tokens k.tokens h.cut k.cut in
    one_program k.tokens p q (rw same at h.reads) k.reads

-- ---- no two refusals, and no refusal beside a program

module _ (limits : Limits) (bytes : List ℕ) where
  long_short : IsLongText limits bytes → IsShortText limits bytes → ⊥
  long_short h k = absurd (omega arith)

  deep_flat : IsDeepText limits bytes → (tokens : List Token) → AreTokens bytes tokens → ¬ IsTooDeep tokens → ⊥
  deep_flat h tokens cut flat =
      let same = same_tokens bytes h.tokens tokens h.cut cut in flat (rw same at h.deep)

  outside_program : IsOutsideGrammar limits bytes → {p : Program} (tokens : List Token) → AreTokens bytes tokens → IsProgram tokens p → ⊥
  outside_program h {p} tokens cut reads =
      let same = same_tokens bytes tokens h.tokens cut h.cut in h.none p (rw same at reads)

  plain_constant : HasBadType limits bytes → {p : Program} → IsProgramText limits bytes p → ⊥
  plain_constant h {p} k =
      let same = same_tokens bytes h.tokens k.tokens h.cut k.cut in k.constant (rw same at h.plain)

  many_few : HasTooManyParameters limits bytes → {p : Program} → IsProgramText limits bytes p → HasFewParameters p → ⊥
  many_few h {p} k few =
      let same = one_program_text limits bytes p h.program k h.text in h.many (rw same at few)

  large_within : IsLargeProgram limits bytes → {p : Program} → IsProgramText limits bytes p → IsWithinLimits limits p → ⊥
  large_within h {p} k within =
      let same = one_program_text limits bytes p h.program k h.text in h.large (rw same at within)

  pub one_answer : (a b : Result Program TextFault) → ReadsWithin limits bytes a → ReadsWithin limits bytes b → (a ≡ Err Memory) ⊎ (b ≡ Err Memory) ⊎ (a ≡ b)
  one_answer (Err Memory) b h k = inl refl
  one_answer (Err TooLarge) (Err Memory) (inl h) k = inr (inl refl)
  one_answer (Err TooLarge) (Err TooLarge) (inl h) (inl k) = inr (inr refl)
  one_answer (Err TooLarge) (Err BadByte) (inl h) k = absurd (long_short h k.short)
  one_answer (Err TooLarge) (Err TooDeepText) (inl h) k = absurd (long_short h k.short)
  one_answer (Err TooLarge) (Err Syntax) (inl h) k = absurd (long_short h k.short)
  one_answer (Err TooLarge) (Err BadType) (inl h) k = absurd (long_short h k.short)
  one_answer (Err TooLarge) (Err TooMany) (inl h) k = absurd (long_short h k.text.short)
  one_answer (Err TooLarge) (Err TooLarge) (inl h) (inr k) = inr (inr refl)
  one_answer (Err TooLarge) (Ok q) (inl h) k = absurd (long_short h k.text.short)
  one_answer (Err BadByte) (Err Memory) h k = inr (inl refl)
  one_answer (Err BadByte) (Err TooLarge) h (inl k) = absurd (long_short k h.short)
  one_answer (Err BadByte) (Err BadByte) h k = inr (inr refl)
  one_answer (Err BadByte) (Err TooDeepText) h k = absurd (h.uncut k.tokens k.cut)
  one_answer (Err BadByte) (Err Syntax) h k = absurd (h.uncut k.tokens k.cut)
  one_answer (Err BadByte) (Err BadType) h k = absurd (h.uncut k.tokens k.cut)
  one_answer (Err BadByte) (Err TooMany) h k = absurd (h.uncut k.text.tokens k.text.cut)
  one_answer (Err BadByte) (Err TooLarge) h (inr k) = absurd (h.uncut k.text.tokens k.text.cut)
  one_answer (Err BadByte) (Ok q) h k = absurd (h.uncut k.text.tokens k.text.cut)
  one_answer (Err TooDeepText) (Err Memory) h k = inr (inl refl)
  one_answer (Err TooDeepText) (Err TooLarge) h (inl k) = absurd (long_short k h.short)
  one_answer (Err TooDeepText) (Err BadByte) h k = absurd (k.uncut h.tokens h.cut)
  one_answer (Err TooDeepText) (Err TooDeepText) h k = inr (inr refl)
  one_answer (Err TooDeepText) (Err Syntax) h k = absurd (deep_flat h k.tokens k.cut k.flat)
  one_answer (Err TooDeepText) (Err BadType) h k = absurd (deep_flat h k.tokens k.cut k.flat)
  one_answer (Err TooDeepText) (Err TooMany) h k = absurd (deep_flat h k.text.tokens k.text.cut k.text.flat)
  one_answer (Err TooDeepText) (Err TooLarge) h (inr k) = absurd (deep_flat h k.text.tokens k.text.cut k.text.flat)
  one_answer (Err TooDeepText) (Ok q) h k = absurd (deep_flat h k.text.tokens k.text.cut k.text.flat)
  one_answer (Err Syntax) (Err Memory) h k = inr (inl refl)
  one_answer (Err Syntax) (Err TooLarge) h (inl k) = absurd (long_short k h.short)
  one_answer (Err Syntax) (Err BadByte) h k = absurd (k.uncut h.tokens h.cut)
  one_answer (Err Syntax) (Err TooDeepText) h k = absurd (deep_flat k h.tokens h.cut h.flat)
  one_answer (Err Syntax) (Err Syntax) h k = inr (inr refl)
  one_answer (Err Syntax) (Err BadType) h k = absurd (outside_program h k.tokens k.cut k.reads)
  one_answer (Err Syntax) (Err TooMany) h k = absurd (outside_program h k.text.tokens k.text.cut k.text.reads)
  one_answer (Err Syntax) (Err TooLarge) h (inr k) = absurd (outside_program h k.text.tokens k.text.cut k.text.reads)
  one_answer (Err Syntax) (Ok q) h k = absurd (outside_program h k.text.tokens k.text.cut k.text.reads)
  one_answer (Err BadType) (Err Memory) h k = inr (inl refl)
  one_answer (Err BadType) (Err TooLarge) h (inl k) = absurd (long_short k h.short)
  one_answer (Err BadType) (Err BadByte) h k = absurd (k.uncut h.tokens h.cut)
  one_answer (Err BadType) (Err TooDeepText) h k = absurd (deep_flat k h.tokens h.cut h.flat)
  one_answer (Err BadType) (Err Syntax) h k = absurd (outside_program k h.tokens h.cut h.reads)
  one_answer (Err BadType) (Err BadType) h k = inr (inr refl)
  one_answer (Err BadType) (Err TooMany) h k = absurd (plain_constant h k.text)
  one_answer (Err BadType) (Err TooLarge) h (inr k) = absurd (plain_constant h k.text)
  one_answer (Err BadType) (Ok q) h k = absurd (plain_constant h k.text)
  one_answer (Err TooMany) (Err Memory) h k = inr (inl refl)
  one_answer (Err TooMany) (Err TooLarge) h (inl k) = absurd (long_short k h.text.short)
  one_answer (Err TooMany) (Err BadByte) h k = absurd (k.uncut h.text.tokens h.text.cut)
  one_answer (Err TooMany) (Err TooDeepText) h k = absurd (deep_flat k h.text.tokens h.text.cut h.text.flat)
  one_answer (Err TooMany) (Err Syntax) h k = absurd (outside_program k h.text.tokens h.text.cut h.text.reads)
  one_answer (Err TooMany) (Err BadType) h k = absurd (plain_constant k h.text)
  one_answer (Err TooMany) (Err TooMany) h k = inr (inr refl)
  one_answer (Err TooMany) (Err TooLarge) h (inr k) = absurd (many_few h k.text k.few)
  one_answer (Err TooMany) (Ok q) h k = absurd (many_few h k.text k.few)
  one_answer (Err TooLarge) (Err Memory) (inr h) k = inr (inl refl)
  one_answer (Err TooLarge) (Err TooLarge) (inr h) (inl k) = inr (inr refl)
  one_answer (Err TooLarge) (Err BadByte) (inr h) k = absurd (k.uncut h.text.tokens h.text.cut)
  one_answer (Err TooLarge) (Err TooDeepText) (inr h) k = absurd (deep_flat k h.text.tokens h.text.cut h.text.flat)
  one_answer (Err TooLarge) (Err Syntax) (inr h) k = absurd (outside_program k h.text.tokens h.text.cut h.text.reads)
  one_answer (Err TooLarge) (Err BadType) (inr h) k = absurd (plain_constant k h.text)
  one_answer (Err TooLarge) (Err TooMany) (inr h) k = absurd (many_few k h.text h.few)
  one_answer (Err TooLarge) (Err TooLarge) (inr h) (inr k) = inr (inr refl)
  one_answer (Err TooLarge) (Ok q) (inr h) k = absurd (large_within h k.text k.within)
  one_answer (Ok p) (Err Memory) h k = inr (inl refl)
  one_answer (Ok p) (Err TooLarge) h (inl k) = absurd (long_short k h.text.short)
  one_answer (Ok p) (Err BadByte) h k = absurd (k.uncut h.text.tokens h.text.cut)
  one_answer (Ok p) (Err TooDeepText) h k = absurd (deep_flat k h.text.tokens h.text.cut h.text.flat)
  one_answer (Ok p) (Err Syntax) h k = absurd (outside_program k h.text.tokens h.text.cut h.text.reads)
  one_answer (Ok p) (Err BadType) h k = absurd (plain_constant k h.text)
  one_answer (Ok p) (Err TooMany) h k = absurd (many_few k h.text h.few)
  one_answer (Ok p) (Err TooLarge) h (inr k) = absurd (large_within k h.text h.within)
  one_answer (Ok p) (Ok q) h k = inr (inr (ap Ok (one_program_text limits bytes p q h.text k.text)))
