-- Reserved words by their letters.
use Rattle.std.proofs.Common.{◌≡◌, ℕ, List, [], ◌∷◌, Option, Some, None, cond, nat_eq, sum, length, refl, sym, ap, get_or}
use Rattle.std.specs.Prelude.{◌≢◌, codes}
use Rattle.std.specs.List.{AllByRecursion}
use Rattle.basic_types.specs.Words.{word_spelling, IsFree}
use Rattle.basic_types.specs.declared.word.Word.{Word}
use Rattle.basic_types.specs.declared.word.Word.TheVariants as w
use Rattle.basic_types.specs.code.Words.{words_like}

-- the words that are looked at, where these are the letters
abbrev looked_at : List ℕ → List Word
looked_at letters = words_like (get_or letters 0 0) (length letters)

-- a word with these letters would be among the words that are looked at for them
lacks : (letters other : List ℕ) → letters ≡ other → AllByRecursion (λ word. letters ≢ word_spelling word) (looked_at letters) → AllByRecursion (λ word. letters ≢ word_spelling word) (looked_at other)
lacks letters other e h = rw (sym (ap looked_at e)) h

-- each word is among those that are looked at for its letters
pub free : (letters : List ℕ) → AllByRecursion (λ word. letters ≢ word_spelling word) (words_like (get_or letters 0 0) (length letters)) → IsFree letters
free letters h w.Class e = (lacks letters (codes "class") e h).0 e
free letters h w.Property e = (lacks letters (codes "property") e h).0 e
free letters h w.Signal e = (lacks letters (codes "signal") e h).0 e
free letters h w.Slot e = (lacks letters (codes "slot") e h).0 e
free letters h w.Native e = (lacks letters (codes "native") e h).0 e
free letters h w.Wire e = (lacks letters (codes "wire") e h).0 e
free letters h w.Owns e = (lacks letters (codes "owns") e h).0 e
free letters h w.Binding e = (lacks letters (codes "binding") e h).0 e
free letters h w.Notify e = (lacks letters (codes "notify") e h).1.0 e
free letters h w.Reads e = (lacks letters (codes "reads") e h).0 e
free letters h w.Emits e = (lacks letters (codes "emits") e h).0 e
free letters h w.Sets e = (lacks letters (codes "sets") e h).1.0 e
free letters h w.Set e = (lacks letters (codes "set") e h).0 e
free letters h w.Emit e = (lacks letters (codes "emit") e h).0 e
free letters h w.Call e = (lacks letters (codes "call") e h).0 e
free letters h w.If e = (lacks letters (codes "if") e h).0 e
free letters h w.Else e = (lacks letters (codes "else") e h).1.0 e
free letters h w.Connect e = (lacks letters (codes "connect") e h).0 e
free letters h w.Disconnect e = (lacks letters (codes "disconnect") e h).0 e
free letters h w.Delete e = (lacks letters (codes "delete") e h).0 e
free letters h w.Later e = (lacks letters (codes "later") e h).0 e
free letters h w.This e = (lacks letters (codes "this") e h).0 e
free letters h w.True e = (lacks letters (codes "true") e h).1.0 e
free letters h w.False e = (lacks letters (codes "false") e h).0 e
free letters h w.Null e = (lacks letters (codes "null") e h).0 e
free letters h w.Const e = (lacks letters (codes "const") e h).1.0 e
free letters h w.Auto e = (lacks letters (codes "auto") e h).0 e
free letters h w.Direct e = (lacks letters (codes "direct") e h).1.0 e
free letters h w.Queued e = (lacks letters (codes "queued") e h).0 e
free letters h w.Unique e = (lacks letters (codes "unique") e h).0 e
free letters h w.Single e = (lacks letters (codes "single") e h).1.0 e

-- the word whose letters have this sum
abbrev word_with : ℕ → List Word → Option Word
word_with n [] = None
word_with n (word ∷ more) = cond (nat_eq n (sum (word_spelling word))) (Some word) (word_with n more)

-- the sums of the letters differ among the words that are looked at together
found_again : (word : Word) → word_with (sum (word_spelling word)) (looked_at (word_spelling word)) ≡ Some word
found_again w.Class = refl
found_again _ = refl

-- no two words have the same letters
pub one_word : (a b : Word) → word_spelling a ≡ word_spelling b → a ≡ b
one_word a b e =
    let same = ap (λ letters. word_with (sum letters) (looked_at letters)) e in
    let p = found_again a in
    let q = found_again b in
    cc
