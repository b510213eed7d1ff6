-- Where the reserved words with some letters are looked for.
use Rattle.std.specs.Prelude.{ℕ, nat_eq, List, [], ◌∷◌, if◌then◌else◌, ◌≡◌, ◌≢◌, Option, Some, None}
use Rattle.std.specs.List.{AllByRecursion}
use Rattle.basic_types.specs.Words.{word_spelling}
use Rattle.basic_types.specs.declared.word.Word.{Word}
use Rattle.basic_types.specs.declared.word.Word.TheVariants.{Class, Property, Signal, Slot, Native, Wire, Owns, Binding, Notify, Reads, Emits, Sets, Set, Emit, Call, If, Else, Connect, Disconnect, Delete, Later, This, True, False, Null, Const, Auto, Direct, Queued, Unique, Single}

-- the reserved words of four letters that begin with this one, by its code
abbrev pub words_of_four : ℕ → List Word
words_of_four letter =
    if nat_eq letter 97 then Auto ∷ [] else (
    if nat_eq letter 99 then Call ∷ [] else (
    if nat_eq letter 101 then Emit ∷ Else ∷ [] else (
    if nat_eq letter 110 then Null ∷ [] else (
    if nat_eq letter 111 then Owns ∷ [] else (
    if nat_eq letter 115 then Slot ∷ Sets ∷ [] else (
    if nat_eq letter 116 then This ∷ True ∷ [] else (
    if nat_eq letter 119 then Wire ∷ [] else (
    []))))))))

-- the reserved words of five letters that begin with this one
abbrev pub words_of_five : ℕ → List Word
words_of_five letter =
    if nat_eq letter 99 then Class ∷ Const ∷ [] else (
    if nat_eq letter 101 then Emits ∷ [] else (
    if nat_eq letter 102 then False ∷ [] else (
    if nat_eq letter 108 then Later ∷ [] else (
    if nat_eq letter 114 then Reads ∷ [] else (
    [])))))

-- the reserved words of six letters that begin with this one
abbrev pub words_of_six : ℕ → List Word
words_of_six letter =
    if nat_eq letter 100 then Delete ∷ Direct ∷ [] else (
    if nat_eq letter 110 then Native ∷ Notify ∷ [] else (
    if nat_eq letter 113 then Queued ∷ [] else (
    if nat_eq letter 115 then Signal ∷ Single ∷ [] else (
    if nat_eq letter 117 then Unique ∷ [] else (
    [])))))

-- the words, if the letter is this one
abbrev begun_with : ℕ → ℕ → List Word → List Word
begun_with code letter words = if nat_eq letter code then words else []

-- the reserved words that begin with the letter and have so many
abbrev pub words_like : ℕ → ℕ → List Word
words_like letter count =
    if nat_eq count 2 then begun_with 105 letter (If ∷ []) else (
    if nat_eq count 3 then begun_with 115 letter (Set ∷ []) else (
    if nat_eq count 4 then words_of_four letter else (
    if nat_eq count 5 then words_of_five letter else (
    if nat_eq count 6 then words_of_six letter else (
    if nat_eq count 7 then (if nat_eq letter 98 then Binding ∷ [] else begun_with 99 letter (Connect ∷ [])) else (
    if nat_eq count 8 then begun_with 112 letter (Property ∷ []) else (
    if nat_eq count 10 then begun_with 100 letter (Disconnect ∷ []) else (
    []))))))))

-- the one of the words that has these letters, or none where none does
abbrev pub FindsAmong : List Word → List ℕ → Option Word → Type 0
FindsAmong words letters None = AllByRecursion (λ word. letters ≢ word_spelling word) words
FindsAmong words letters (Some word) = letters ≡ word_spelling word
