-- Names that are alike (docs/explanations.md, "Places"): one may have been written for the other.
use Rattle.std.specs.Prelude.{ℕ, ◌≡◌, ◌≤◌, ◌/◌, List, length, Option, Some, None, Contains, All}
use Rattle.std.specs.Int.{abs_diff}
use Rattle.std.specs.Str.{chars, IsUtf8}
use Rattle.strsim.specs.Edits.{osa_table}

-- how many letters have to be put in, left out or exchanged, or to change places with the next one, until a name is the other
abbrev pub edits_between : List ℕ → List ℕ → ℕ
edits_between name other = (osa_table (chars name) (chars other)).last_row (length (chars other))

-- the other name differs in at least so many letters, if its length doesn't say so already
abbrev pub IsNoNearer : List ℕ → ℕ → List ℕ → Type 0
IsNoNearer name edits other = IsUtf8 other → abs_diff (length other) (length name) ≤ edits → edits ≤ edits_between name other

-- the word is one of those that could stand, and differs from the name in at most a third of the name's letters; no other one
-- is nearer
pub record IsLikely (name : List ℕ) (words : List (List ℕ)) (word : List ℕ) : Type 0 where
  pub one_of : Contains words word
  pub near : edits_between name word ≤ length name / 3
  pub nearest : All (IsNoNearer name (edits_between name word)) words

-- so many letters differ, if they are at most `most`
abbrev pub FindsEdits : List ℕ → List ℕ → ℕ → Option ℕ → Type 0
FindsEdits name other most None = IsNoNearer name most other
FindsEdits name other most (Some edits) = (edits ≡ edits_between name other) × (edits ≤ most)
