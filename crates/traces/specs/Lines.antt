-- The lines of a trace, as far as they are told apart (docs/commands.md, "The trace").
use Rattle.std.specs.Prelude.{ℕ, ◌≡◌, ◌<◌, ◌^◌, ◌↔◌, List, ◌∷◌, ◌++◌, codes, ◌⊎◌, Option, Some}
use Rattle.texts.specs.Numerals.{IsNumeral}
use Rattle.traces.specs.declared.reading.line.LineKind.{LineKind}
use Rattle.traces.specs.declared.reading.line.LineKind.TheVariants as kind
use Rattle.traces.specs.declared.reading.line.TraceLine.{TraceLine}
use Rattle.traces.specs.declared.reading.line.TraceLine.TheVariants as line

-- the word with which an entry begins
abbrev pub kind_word : LineKind → List ℕ
kind_word kind.Emit = codes "emit"
kind_word kind.Call = codes "call"
kind_word kind.Native = codes "native"
kind_word kind.Post = codes "post"
kind_word kind.Dead = codes "dead"
kind_word kind.Set = codes "set"
kind_word kind.Bind = codes "bind"
kind_word kind.Follow = codes "follow"
kind_word kind.Connect = codes "connect"
kind_word kind.Disconnect = codes "disconnect"
kind_word (kind.Refused reason) = codes "refused"
kind_word kind.Null = codes "null"
kind_word kind.Group = codes "group"

-- whatever may follow the word
abbrev pub IsPlain : LineKind → Type 0
IsPlain (kind.Refused reason) = ⊥
IsPlain kind.Null = ⊥
IsPlain kind.Group = ⊥
IsPlain _ = Unit {0}

-- the word, a blank, and whatever follows
abbrev pub GoesOn : List ℕ → List ℕ → Type 0
GoesOn text word = (rest : List ℕ) × (text ≡ word ++ 32 ∷ rest)

-- the word and a number
abbrev pub GivesNumber : List ℕ → List ℕ → ℕ → Type 0
GivesNumber text word n = (digits : List ℕ) × IsNumeral digits n × (text ≡ word ++ 32 ∷ digits)

-- the text begins as an entry of this kind, whose depth stands before it
abbrev pub BeginsAsKind : List ℕ → LineKind → Type 0
BeginsAsKind text kind.Emit = GoesOn text (kind_word kind.Emit)
BeginsAsKind text kind.Call = GoesOn text (kind_word kind.Call)
BeginsAsKind text kind.Native = (text ≡ kind_word kind.Native) ⊎ GoesOn text (kind_word kind.Native)
BeginsAsKind text kind.Post = GoesOn text (kind_word kind.Post)
BeginsAsKind text kind.Dead = GoesOn text (kind_word kind.Dead)
BeginsAsKind text kind.Set = GoesOn text (kind_word kind.Set)
BeginsAsKind text kind.Bind = GoesOn text (kind_word kind.Bind)
BeginsAsKind text kind.Follow = GoesOn text (kind_word kind.Follow)
BeginsAsKind text kind.Connect = GoesOn text (kind_word kind.Connect)
BeginsAsKind text kind.Disconnect = GoesOn text (kind_word kind.Disconnect)
BeginsAsKind text (kind.Refused reason) = GivesNumber text (codes "refused") reason
BeginsAsKind text kind.Null = text ≡ kind_word kind.Null
BeginsAsKind text kind.Group = text ≡ kind_word kind.Group

-- what follows the word `event` and a blank
abbrev pub EndsEvent : List ℕ → TraceLine → Type 0
EndsEvent text (line.Accepted event) = IsNumeral text event
EndsEvent text (line.Refused event reason) =
    (digits rest : List ℕ) × IsNumeral digits event × BeginsAsKind rest (kind.Refused reason) × (text ≡ digits ++ 32 ∷ rest)
EndsEvent text (line.At depth what) = ⊥
EndsEvent text (line.Fault fault) = ⊥

-- the line begins as one that tells this
abbrev pub IsTraceLine : List ℕ → TraceLine → Type 0
IsTraceLine text (line.Accepted event) = (rest : List ℕ) × EndsEvent rest (line.Accepted event) × (text ≡ codes "event" ++ 32 ∷ rest)
IsTraceLine text (line.Refused event reason) =
    (rest : List ℕ) × EndsEvent rest (line.Refused event reason) × (text ≡ codes "event" ++ 32 ∷ rest)
IsTraceLine text (line.At depth what) =
    (digits rest : List ℕ) × IsNumeral digits depth × BeginsAsKind rest what × (text ≡ digits ++ 32 ∷ rest)
IsTraceLine text (line.Fault fault) = GivesNumber text (codes "fault") fault

-- ---- as in a run, whose numbers have bounds: of an event and a depth 64 bits at most, of a reason and a fault 8

abbrev pub IsWide : ℕ → Type 0
IsWide number = number < 2 ^ 64

abbrev pub IsSmall : ℕ → Type 0
IsSmall number = number < 2 ^ 8

abbrev pub KindHasBounds : LineKind → Type 0
KindHasBounds (kind.Refused reason) = IsSmall reason
KindHasBounds _ = Unit {0}

abbrev pub HasBounds : TraceLine → Type 0
HasBounds (line.Accepted event) = IsWide event
HasBounds (line.Refused event reason) = IsWide event × IsSmall reason
HasBounds (line.At depth what) = IsWide depth × KindHasBounds what
HasBounds (line.Fault fault) = IsSmall fault

-- the line tells this
abbrev pub IsLine : List ℕ → TraceLine → Type 0
IsLine text told = HasBounds told × IsTraceLine text told

-- what follows the word `event` and a blank in a line that tells this
abbrev pub EndsLine : List ℕ → TraceLine → Type 0
EndsLine text told = HasBounds told × EndsEvent text told

-- what follows the depth and a blank in a line that tells this
abbrev pub IsEntry : List ℕ → LineKind → Type 0
IsEntry text what = KindHasBounds what × BeginsAsKind text what

-- ---- what is found is what the text tells, and nothing is found just where it tells nothing

abbrev pub TellsLine : List ℕ → Option TraceLine → Type 0
TellsLine text found = (told : TraceLine) → IsLine text told ↔ (found ≡ Some told)

abbrev pub TellsEnd : List ℕ → Option TraceLine → Type 0
TellsEnd text found = (told : TraceLine) → EndsLine text told ↔ (found ≡ Some told)

abbrev pub TellsEntry : List ℕ → Option LineKind → Type 0
TellsEntry text found = (what : LineKind) → IsEntry text what ↔ (found ≡ Some what)

-- .. of a word that something follows
abbrev pub TellsPlain : List ℕ → Option LineKind → Type 0
TellsPlain word found = (what : LineKind) → (IsPlain what × (word ≡ kind_word what)) ↔ (found ≡ Some what)

-- .. of the word `refused` and the number of a reason
abbrev pub TellsReason : List ℕ → Option ℕ → Type 0
TellsReason text found = (reason : ℕ) → IsEntry text (kind.Refused reason) ↔ (found ≡ Some reason)

-- .. of the number of a reason or of a fault
abbrev pub TellsNumber : List ℕ → Option ℕ → Type 0
TellsNumber digits found = (number : ℕ) → (IsSmall number × IsNumeral digits number) ↔ (found ≡ Some number)
