-- The text of a signature is read as that signature.
use Rattle.std.proofs.Common.{◌≡◌, ℕ, Bool, true, false, List, [], ◌∷◌, ◌++◌, map, refl, ◌∙◌, ap, append_assoc}
use Rattle.std.proofs.lemmas.List.{append-nil}
use Rattle.std.proofs.lemmas.List.Elements.{recursion_from_All}
use Rattle.std.specs.Prelude.{codes, Some}
use Rattle.std.specs.List.{AllByRecursion, AllZip}
use Rattle.basic_types.specs.Laws.{IsNormalType, IsNormalSig}
use Rattle.basic_types.specs.Name.{IsName, is_name_byte}
use Rattle.basic_types.specs.Normal.{normal_of}
use Rattle.basic_types.specs.Signatures.{spell_type, spell_others, spell_list, TypeReading, IsFreeName, IsTypeOf, Normal}
use Rattle.basic_types.specs.Spelling.{const_text, star_text, text_of_type, text_of_others, text_of_types, text_of_sig}
use Rattle.basic_types.specs.Tokens.{word, mark, tokens_of, EndsWord}
use Rattle.basic_types.specs.declared.normal.ConstPlace.{ConstPlace}
use Rattle.basic_types.specs.declared.normal.ConstPlace.TheVariants.{Nowhere, Before, After}
use Rattle.basic_types.specs.declared.normal.TypeEnding.{TypeEnding}
use Rattle.basic_types.specs.declared.normal.TypeEnding.TheVariants.{Bare, Reference, Pointer}
use Rattle.basic_types.specs.declared.qtype.QType.{QType}
use Rattle.basic_types.specs.declared.mark.Mark.TheVariants.{Comma}
use Rattle.basic_types.specs.declared.sig.Sig.{Sig}
use Rattle.basic_types.proofs.Tokens.{taken, stopped}

-- ---- one type

-- a name is the next word
name_next : (name rest : List ℕ) → IsName name → EndsWord rest → tokens_of (name ++ rest) ≡ word name ∷ tokens_of rest
name_next [] rest h stop = absurd h
name_next (b ∷ bs) rest h stop =
    let first : is_name_byte b ≡ true = rw h.0 refl in
    taken (b ∷ bs) [] rest (first, recursion_from_All (λ c. is_name_byte c ≡ true) bs h.1) ∙ stopped (b ∷ bs) rest stop

abbrev place_of : Bool → ConstPlace
place_of true = Before
place_of false = Nowhere

abbrev ending_of : Bool → TypeEnding
ending_of true = Pointer
ending_of false = Bare

abbrev reading_of : QType → TypeReading
reading_of t = record { place = place_of t.constant; name = t.name; ending = ending_of t.pointer }

module _ (name : List ℕ) (named : IsFreeName name) (rest : List ℕ) (stop : EndsWord rest) where
  type_next : (constant pointer : Bool) → (constant ≡ true → pointer ≡ true) → tokens_of ((const_text constant ++ (name ++ star_text pointer)) ++ rest) ≡ spell_type (record { place = place_of constant; name = name; ending = ending_of pointer }) (tokens_of rest)
  type_next true true h = ap (λ x. word (codes "const") ∷ tokens_of x) (append_assoc name (codes "*") rest) ∙ ap (λ ts. word (codes "const") ∷ ts) (name_next name (42 ∷ rest) named.name refl)
  type_next true false h = let e = h refl in cc
  type_next false true h = ap tokens_of (append_assoc name (codes "*") rest) ∙ name_next name (42 ∷ rest) named.name refl
  type_next false false h = ap (λ x. tokens_of (x ++ rest)) (append-nil name) ∙ name_next name rest named.name stop

is_type : (name : List ℕ) (constant pointer : Bool) → (constant ≡ true → pointer ≡ true) → ◌≡◌ (normal_of name (place_of constant) (ending_of pointer)) (Some (record { name = name; constant = constant; pointer = pointer }))
is_type name true true h = refl
is_type name true false h = let e = h refl in cc
is_type name false true h = refl
is_type name false false h = refl

-- ---- lists of types

others_stop : (ts : List QType) → EndsWord (text_of_others ts ++ codes ")")
others_stop [] = refl
others_stop (t ∷ ts) = refl

others_next : (ts : List QType) → AllByRecursion IsNormalType ts → tokens_of (text_of_others ts ++ codes ")") ≡ spell_others (map reading_of ts) []
others_next [] h = refl
others_next (t ∷ ts) h =
    ap (λ x. mark Comma ∷ tokens_of x) (append_assoc (text_of_type t) (text_of_others ts) (codes ")"))
    ∙ ap (λ x. mark Comma ∷ x) (type_next t.name h.0.named (text_of_others ts ++ codes ")") (others_stop ts) t.constant t.pointer h.0.const_pointer ∙ ap (spell_type (reading_of t)) (others_next ts h.1))

list_next : (ts : List QType) → AllByRecursion IsNormalType ts → tokens_of (text_of_types ts ++ codes ")") ≡ spell_list (map reading_of ts) []
list_next [] h = refl
list_next (t ∷ ts) h =
    ap tokens_of (append_assoc (text_of_type t) (text_of_others ts) (codes ")"))
    ∙ (type_next t.name h.0.named (text_of_others ts ++ codes ")") (others_stop ts) t.constant t.pointer h.0.const_pointer ∙ ap (spell_type (reading_of t)) (others_next ts h.1))

each_type : (ts : List QType) → AllByRecursion IsNormalType ts → AllZip IsTypeOf (map reading_of ts) ts
each_type [] h = tt
each_type (t ∷ ts) h = (record { named = h.0.named; normal = is_type t.name t.constant t.pointer h.0.const_pointer }, each_type ts h.1)

-- ---- signatures

pub text_normal : (sig : Sig) → IsNormalSig sig → Normal (text_of_sig sig) sig
text_normal sig h = record {
  typed = record {
    list = tokens_of (text_of_types sig.types ++ codes ")");
    framed = name_next sig.name (40 ∷ (text_of_types sig.types ++ codes ")")) h.named.name refl;
    named = h.named;
    types = record { readings = map reading_of sig.types; spelled = list_next sig.types h.types; each = each_type sig.types h.types };
  };
  few = h.few;
}

normal_type : (name : List ℕ) (place : ConstPlace) (ending : TypeEnding) (t : QType) → IsFreeName name → normal_of name place ending ≡ Some t → IsNormalType t
normal_type name Nowhere Bare t h e = record { named = (let k : name ≡ t.name = cc in rw k at h); const_pointer = λ c. cc }
normal_type name Before Bare t h e = record { named = (let k : name ≡ t.name = cc in rw k at h); const_pointer = λ c. cc }
normal_type name After Bare t h e = record { named = (let k : name ≡ t.name = cc in rw k at h); const_pointer = λ c. cc }
normal_type name Nowhere Reference t h e = cc
normal_type name Before Reference t h e = record { named = (let k : name ≡ t.name = cc in rw k at h); const_pointer = λ c. cc }
normal_type name After Reference t h e = record { named = (let k : name ≡ t.name = cc in rw k at h); const_pointer = λ c. cc }
normal_type name Nowhere Pointer t h e = record { named = (let k : name ≡ t.name = cc in rw k at h); const_pointer = λ c. cc }
normal_type name Before Pointer t h e = record { named = (let k : name ≡ t.name = cc in rw k at h); const_pointer = λ c. cc }
normal_type name After Pointer t h e = record { named = (let k : name ≡ t.name = cc in rw k at h); const_pointer = λ c. cc }

normal_types : (rs : List TypeReading) (ts : List QType) → AllZip IsTypeOf rs ts → AllByRecursion IsNormalType ts
normal_types [] [] h = tt
normal_types [] (t ∷ ts) h = absurd h
normal_types (r ∷ rs) [] h = tt
normal_types (r ∷ rs) (t ∷ ts) h = (normal_type r.name r.place r.ending t h.0.named h.0.normal, normal_types rs ts h.1)

pub normal_sig : (text : List ℕ) (sig : Sig) → Normal text sig → IsNormalSig sig
normal_sig text sig h = record { named = h.typed.named; types = normal_types h.typed.types.readings sig.types h.typed.types.each; few = h.few }
