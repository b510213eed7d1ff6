use Rattle.std.proofs.Common.{length}
use Rattle.std.specs.Prelude.{◌≢◌}
use Rattle.std.specs.List.{AllByRecursion}
use Rattle.basic_types.specs.Words.{word_spelling}
use Rattle.basic_types.proofs.word.Word.among.Given as goal

-- where none of the words that are left has these letters, none of those that were given has
abbrev pub invariant-loop-word : goal.invariant-loop-word
invariant-loop-word l = AllByRecursion (λ word. l.letters ≢ word_spelling word) l.left → AllByRecursion (λ word. l.letters ≢ word_spelling word) l.initial.left

abbrev pub decreases-loop-word : goal.decreases-loop-word
decreases-loop-word l = length l.left
