-- How reserved words are spelled (docs/language.md, "Tokens").
use Rattle.std.specs.Prelude.{ℕ, List, codes, ◌≡◌, ◌≢◌, Option, Some, None}
use Rattle.basic_types.specs.declared.word.Word.{Word}
use Rattle.basic_types.specs.declared.word.Word.TheVariants as w

abbrev pub word_spelling : Word → List ℕ
word_spelling w.Class = codes "class"
word_spelling w.Property = codes "property"
word_spelling w.Signal = codes "signal"
word_spelling w.Slot = codes "slot"
word_spelling w.Native = codes "native"
word_spelling w.Wire = codes "wire"
word_spelling w.Owns = codes "owns"
word_spelling w.Binding = codes "binding"
word_spelling w.Notify = codes "notify"
word_spelling w.Reads = codes "reads"
word_spelling w.Emits = codes "emits"
word_spelling w.Sets = codes "sets"
word_spelling w.Set = codes "set"
word_spelling w.Emit = codes "emit"
word_spelling w.Call = codes "call"
word_spelling w.If = codes "if"
word_spelling w.Else = codes "else"
word_spelling w.Connect = codes "connect"
word_spelling w.Disconnect = codes "disconnect"
word_spelling w.Delete = codes "delete"
word_spelling w.Later = codes "later"
word_spelling w.This = codes "this"
word_spelling w.True = codes "true"
word_spelling w.False = codes "false"
word_spelling w.Null = codes "null"
word_spelling w.Const = codes "const"
word_spelling w.Auto = codes "auto"
word_spelling w.Direct = codes "direct"
word_spelling w.Queued = codes "queued"
word_spelling w.Unique = codes "unique"
word_spelling w.Single = codes "single"

-- the letters aren't those of a reserved word
abbrev pub IsFree : List ℕ → Type 0
IsFree letters = (word : Word) → letters ≢ word_spelling word

-- the reserved word with these letters, or none where they aren't those of one
abbrev pub FindsWord : List ℕ → Option Word → Type 0
FindsWord letters None = IsFree letters
FindsWord letters (Some word) = letters ≡ word_spelling word
