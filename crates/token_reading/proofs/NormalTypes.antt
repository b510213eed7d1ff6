-- The normal form of types in tokens.
use Rattle.std.proofs.Common.{◌≡◌, ◌≢◌, ℕ, List, [], ◌∷◌, ◌++◌, refl, ap}
use Rattle.basic_types.specs.Types.{value_type}
use Rattle.basic_types.specs.declared.normal.ConstPlace.{ConstPlace}
use Rattle.basic_types.specs.declared.normal.ConstPlace.TheVariants.{Nowhere, Before, After}
use Rattle.basic_types.specs.declared.normal.TypeEnding.{TypeEnding}
use Rattle.basic_types.specs.declared.normal.TypeEnding.TheVariants.{Bare, Reference, Pointer}
use Rattle.basic_types.specs.declared.word.Word.TheVariants as word
use Rattle.token_reading.specs.Signatures.{spelled_type, spell_ending, spell_type, tree_of_type, or_value, HasPlainReference, TypesAreNormal, OthersAreRefused}
use Rattle.texts.specs.declared.symbol.Symbol.TheVariants.{Ampersand}
use Rattle.texts.specs.declared.token.Token.{Token}
use Rattle.texts.specs.declared.token.Token.TheVariants as token

-- a reference is read as its type
pub reference_as_value : (place : ConstPlace) (name : List ℕ) → value_type name ≡ tree_of_type (spelled_type place name Reference)
reference_as_value Nowhere name = refl
reference_as_value Before name = refl
reference_as_value After name = refl

pub types_are_normal : TypesAreNormal
types_are_normal place name ending type e = ap (or_value name) e

-- no name and `&` stand among these
alone : (name x : List ℕ) (front after : List Token) → token.Name name ∷ [] ≡ front ++ token.Name x ∷ token.Symbol Ampersand ∷ after → ⊥
alone name x [] after e = cc
alone name x (t ∷ []) after e = cc
alone name x (t ∷ u ∷ front) after e = cc

const_first : (name x : List ℕ) (front after rest : List Token) → token.Word word.Const ∷ token.Name name ∷ rest ≡ front ++ token.Name x ∷ token.Symbol Ampersand ∷ after → ((before : List Token) → front ≢ before ++ token.Word word.Const ∷ []) → (end : List Token) → rest ≡ end → ((front : List Token) → end ≡ front ++ token.Name x ∷ token.Symbol Ampersand ∷ after → ⊥) → ⊥
const_first name x [] after rest e plain end at none = cc
const_first name x (t ∷ []) after rest e plain end at none = plain [] cc
const_first name x (t ∷ u ∷ front) after rest e plain end at none = none front cc

const_behind : (name x : List ℕ) (front after rest : List Token) → token.Name name ∷ token.Word word.Const ∷ rest ≡ front ++ token.Name x ∷ token.Symbol Ampersand ∷ after → ((front : List Token) → rest ≡ front ++ token.Name x ∷ token.Symbol Ampersand ∷ after → ⊥) → ⊥
const_behind name x [] after rest e none = cc
const_behind name x (t ∷ []) after rest e none = cc
const_behind name x (t ∷ u ∷ front) after rest e none = none front cc

-- an ending has no name
nameless : (ending : TypeEnding) (x : List ℕ) (front after : List Token) → spell_ending ending [] ≡ front ++ token.Name x ∷ token.Symbol Ampersand ∷ after → ⊥
nameless Bare x [] after e = cc
nameless Bare x (t ∷ front) after e = cc
nameless Reference x [] after e = cc
nameless Reference x (t ∷ []) after e = cc
nameless Reference x (t ∷ u ∷ front) after e = cc
nameless Pointer x [] after e = cc
nameless Pointer x (t ∷ []) after e = cc
nameless Pointer x (t ∷ u ∷ front) after e = cc

starred : (name x : List ℕ) (front after : List Token) → token.Name name ∷ spell_ending Pointer [] ≡ front ++ token.Name x ∷ token.Symbol Ampersand ∷ after → ⊥
starred name x [] after e = cc
starred name x (t ∷ front) after e = nameless Pointer x front after cc

nothing_before : (before : List Token) → [] ≢ before ++ token.Word word.Const ∷ []
nothing_before [] e = cc
nothing_before (t ∷ before) e = cc

plain : (name : List ℕ) → HasPlainReference (spell_type (spelled_type Nowhere name Reference) [])
plain name = record { front = []; name = name; after = []; is = refl; plain = nothing_before }

before_const : (name : List ℕ) (ending : TypeEnding) → HasPlainReference (spell_type (spelled_type Before name ending) []) → ⊥
before_const name ending h = const_first name h.name h.front h.after (spell_ending ending []) h.is h.plain (spell_ending ending []) refl (λ front e. nameless ending h.name front h.after e)

after_const : (name : List ℕ) (ending : TypeEnding) → HasPlainReference (spell_type (spelled_type After name ending) []) → ⊥
after_const name ending h = const_behind name h.name h.front h.after (spell_ending ending []) h.is (λ front e. nameless ending h.name front h.after e)

pub others_are_refused : OthersAreRefused
others_are_refused Nowhere name Bare = (λ e. cc, λ h. absurd (alone name h.name h.front h.after h.is))
others_are_refused Nowhere name Reference = (λ e. plain name, λ h. refl)
others_are_refused Nowhere name Pointer = (λ e. cc, λ h. absurd (starred name h.name h.front h.after h.is))
others_are_refused Before name Bare = (λ e. cc, λ h. absurd (before_const name Bare h))
others_are_refused Before name Reference = (λ e. cc, λ h. absurd (before_const name Reference h))
others_are_refused Before name Pointer = (λ e. cc, λ h. absurd (before_const name Pointer h))
others_are_refused After name Bare = (λ e. cc, λ h. absurd (after_const name Bare h))
others_are_refused After name Reference = (λ e. cc, λ h. absurd (after_const name Reference h))
others_are_refused After name Pointer = (λ e. cc, λ h. absurd (after_const name Pointer h))
