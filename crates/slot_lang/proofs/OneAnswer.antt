-- Tokens have one answer as a body.
use Rattle.std.proofs.Common.{◌≡◌, ◌⊎◌, List, Result, Ok, Err, All, IsTrue, false, ◌↔◌, refl, ap, inl, inr}
use Rattle.slot_lang.specs.Bodies.{signatures_in}
use Rattle.slot_lang.specs.Grammar.{IsBody}
use Rattle.slot_lang.specs.code.Faults.{fault_of_parsing}
use Rattle.slot_lang.specs.Reads.{HasTooManyParameters, IsNormalBody, ReadsBody}
use Rattle.slot_lang.specs.declared.fault.BodyFault.{BodyFault}
use Rattle.slot_lang.specs.declared.fault.BodyFault.TheVariants.{Syntax, BadType, TooMany, Memory}
use Rattle.syntax_trees.specs.Connections.{HasFewTypes}
use Rattle.token_reading.specs.declared.fault.ParseFault.{ParseFault}
use Rattle.token_reading.specs.declared.fault.ParseFault.TheVariants as parse
use Rattle.syntax_trees.specs.declared.syntax.Stmt.{Stmt}
use Rattle.texts.specs.declared.token.Token.{Token}
use Rattle.slot_lang.proofs.Unique.{one_body_tree}

-- what a test that fails tests for doesn't hold
pub not_true : {P : Type 0} → (IsTrue false ↔ P) → ¬ P
not_true h p = let e = h.1 p in cc

pub not_parsed : (tokens : List Token) (fault : ParseFault) → (fault ≡ parse.Syntax → (body : List Stmt) → IsBody tokens body → ⊥) → ReadsBody tokens (Err (fault_of_parsing fault))
not_parsed tokens parse.Syntax refused = refused refl
not_parsed tokens parse.Memory refused = tt

module _ (tokens : List Token) where
  many_few : HasTooManyParameters tokens → (b : List Stmt) → IsNormalBody tokens b → All HasFewTypes (signatures_in b) → ⊥
  many_few h b k few = let same = one_body_tree tokens b h.body k.reads h.normal.reads in h.many (rw same at few)

  pub one_answer : (a b : Result (List Stmt) BodyFault) → ReadsBody tokens a → ReadsBody tokens b → (a ≡ Err Memory) ⊎ (b ≡ Err Memory) ⊎ (a ≡ b)
  one_answer (Err Memory) b h k = inl refl
  one_answer (Err Syntax) (Err Memory) h k = inr (inl refl)
  one_answer (Err Syntax) (Err Syntax) h k = inr (inr refl)
  one_answer (Err Syntax) (Err BadType) h k = absurd (h k.body k.reads)
  one_answer (Err Syntax) (Err TooMany) h k = absurd (h k.body k.normal.reads)
  one_answer (Err Syntax) (Ok b) h k = absurd (h b k.normal.reads)
  one_answer (Err BadType) (Err Memory) h k = inr (inl refl)
  one_answer (Err BadType) (Err Syntax) h k = absurd (k h.body h.reads)
  one_answer (Err BadType) (Err BadType) h k = inr (inr refl)
  one_answer (Err BadType) (Err TooMany) h k = absurd (k.normal.constant h.plain)
  one_answer (Err BadType) (Ok b) h k = absurd (k.normal.constant h.plain)
  one_answer (Err TooMany) (Err Memory) h k = inr (inl refl)
  one_answer (Err TooMany) (Err Syntax) h k = absurd (k h.body h.normal.reads)
  one_answer (Err TooMany) (Err BadType) h k = absurd (h.normal.constant k.plain)
  one_answer (Err TooMany) (Err TooMany) h k = inr (inr refl)
  one_answer (Err TooMany) (Ok b) h k = absurd (many_few h b k.normal k.few)
  one_answer (Ok a) (Err Memory) h k = inr (inl refl)
  one_answer (Ok a) (Err Syntax) h k = absurd (k a h.normal.reads)
  one_answer (Ok a) (Err BadType) h k = absurd (h.normal.constant k.plain)
  one_answer (Ok a) (Err TooMany) h k = absurd (many_few k a h.normal h.few)
  one_answer (Ok a) (Ok b) h k = inr (inr (ap Ok (one_body_tree tokens a b h.normal.reads k.normal.reads)))
