-- What the operators of expressions do (docs/language.md, "Expressions").
use Rattle.std.specs.Prelude.{◌≡◌, Result, Ok, Err, ℕ, ℤ, ◌+ℤ◌, ◌-ℤ◌, ◌*ℤ◌, neg_ℤ, Bool, not, ◌&&◌, ◌||◌, nat_eq, int_lt, List, ◌++◌, take, Option, Some, None}
use Rattle.std.specs.Cmp.Lexicographic.{pointwise}
use Rattle.std.specs.Option.{option_eq, option_map}
use Rattle.std.specs.Ordering.{int_eq}
use Rattle.std.specs.Int.{saturate_signed, w32}
use Rattle.basic_types.specs.Text.{longest_text}
use Rattle.basic_types.specs.declared.value.Value.{Value}
use Rattle.basic_types.specs.declared.value.Value.TheVariants.{Int, Bool as Truth, Text, Ref}
use Rattle.syntax_trees.specs.declared.syntax.Unary.{Unary}
use Rattle.syntax_trees.specs.declared.syntax.Unary.TheVariants.{Not, Minus}
use Rattle.syntax_trees.specs.declared.syntax.Binary.{Binary}
use Rattle.syntax_trees.specs.declared.syntax.Binary.TheVariants.{Add, Subtract, Multiply, Less, AtMost, Greater, AtLeast, Equal, Different, And, Or}

-- a number of 32 bits; one that is too large becomes the greatest, one that is too small the least
abbrev pub number : ℤ → Option Value
number z = Some (Int (saturate_signed w32 z))

abbrev pub unary : Unary → Value → Option Value
unary Not (Truth b) = Some (Truth (not b))
unary Minus (Int z) = number (neg_ℤ z)
unary op v = None

-- whether two values of one sort are the same: texts byte by byte; references that are both null, or both to one object
abbrev pub equal : Value → Value → Option Bool
equal (Int a) (Int b) = Some (int_eq a b)
equal (Truth a) (Truth b) = Some ((a && b) || (not a && not b))
equal (Text a) (Text b) = Some (pointwise nat_eq a b)
equal (Ref a) (Ref b) = Some (option_eq nat_eq a b)
equal a b = None

-- texts are joined, and as many bytes of the front kept as a text may have
abbrev pub binary : Binary → Value → Value → Option Value
binary Add (Int a) (Int b) = number (a +ℤ b)
binary Add (Text a) (Text b) = Some (Text (take longest_text (a ++ b)))
binary Subtract (Int a) (Int b) = number (a -ℤ b)
binary Multiply (Int a) (Int b) = number (a *ℤ b)
binary Less (Int a) (Int b) = Some (Truth (int_lt a b))
binary AtMost (Int a) (Int b) = Some (Truth (not (int_lt b a)))
binary Greater (Int a) (Int b) = Some (Truth (int_lt b a))
binary AtLeast (Int a) (Int b) = Some (Truth (not (int_lt a b)))
binary Equal v w = option_map (λ b. Truth b) (equal v w)
binary Different v w = option_map (λ b. Truth (not b)) (equal v w)
binary And (Truth a) (Truth b) = Some (Truth (a && b))
binary Or (Truth a) (Truth b) = Some (Truth (a || b))
binary op v w = None

-- what the operator makes of two texts; only joining them takes memory, which may be refused
abbrev pub AnswersTexts : {E : Type 0} → Binary → List ℕ → List ℕ → Result (Option Value) E → Type 0
AnswersTexts op a b (Ok answer) = answer ≡ binary op (Text a) (Text b)
AnswersTexts op a b (Err _) = op ≡ Add

-- ---- a part of these, of which the types of expressions speak too
abbrev pub same_text : List ℕ → List ℕ → Bool
same_text = pointwise nat_eq
