-- Properties by key, each once.
use Rattle.std.specs.Prelude.{◌≡◌, ℕ, Bool, true, false, cond, List, [], ◌∷◌, Option, Some, None, if◌then◌else◌}
use Rattle.std.specs.List.{list_any}
use Rattle.indexmap.specs.IndexMap.{IndexMap, get}
use Rattle.binding_graph.specs.declared.place.Place.{Place}
use Rattle.binding_graph.specs.declared.lists.Places.{Places}
use Rattle.binding_graph.specs.declared.lists.Places.TheVariants.{Nothing, One, Many}
use Rattle.binding_graph.specs.Places.{property_of}
use Rattle.binding_graph.specs.code.Keys.{same_key}

-- the property with these numbers
abbrev pub place_at : ℕ × ℕ → Place
place_at k = property_of k.0 k.1

abbrev pub keys_held : Places → List (ℕ × ℕ)
keys_held Nothing = []
keys_held (One k) = k ∷ []
keys_held (Many ks) = ks.keys

abbrev pub keys_in : Option Places → List (ℕ × ℕ)
keys_in None = []
keys_in (Some places) = keys_held places

-- the property with these numbers is among them
abbrev pub is_key_in : ℕ × ℕ → List (ℕ × ℕ) → Bool
is_key_in k ks = list_any (same_key k) ks

module _ {K S : Type 0} (eq : K → K → Bool) where
  abbrev pub keys_under : IndexMap K Places S → K → List (ℕ × ℕ)
  keys_under lists q = keys_in (get eq lists q)

  -- the property with these numbers is under the key
  abbrev pub has : IndexMap K Places S → K → ℕ × ℕ → Bool
  has lists q k = is_key_in k (keys_under lists q)

  -- what is seen stays, under each key
  abbrev pub SameLists : IndexMap K Places S → IndexMap K Places S → Type 0
  SameLists old new = (q : K) → keys_under new q ≡ keys_under old q

  -- Each of these says what is under a key q, which may be the key in another form.

  -- the property is under the key, where it may have been before
  abbrev pub Adds : IndexMap K Places S → IndexMap K Places S → K → ℕ × ℕ → Type 0
  Adds old new key place = (q : K) (k : ℕ × ℕ) → has new q k ≡ (if eq key q then cond (same_key place k) true (has old key k) else has old q k)

  -- the property isn't under the key any more
  abbrev pub Forgets : IndexMap K Places S → IndexMap K Places S → K → ℕ × ℕ → Type 0
  Forgets old new key place = (q : K) (k : ℕ × ℕ) → has new q k ≡ (if eq key q then cond (same_key place k) false (has old key k) else has old q k)

  -- nothing is under the key any more
  abbrev pub Clears : IndexMap K Places S → IndexMap K Places S → K → Type 0
  Clears old new key = (q : K) (k : ℕ × ℕ) → has new q k ≡ (if eq key q then false else has old q k)
