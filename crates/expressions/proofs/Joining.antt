-- Texts that are compared and joined.
use Rattle.std.proofs.Common.{ℕ, List, ◌++◌, take, length-take, arith}
use Rattle.std.proofs.lemmas.List.Elements.{All-take, All-append}
use Rattle.basic_types.specs.Text.{longest_text, IsText, IsTextByte}

-- the bytes that are kept of two texts are a text
pub joined_text : (a b : List ℕ) → IsText a → IsText b → IsText (take longest_text (a ++ b))
joined_text a b left right = (simp length-take (omega arith), All-take IsTextByte longest_text (a ++ b) (All-append IsTextByte a b left.1 right.1))
