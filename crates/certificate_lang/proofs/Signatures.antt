-- The text of signatures.
use Rattle.std.proofs.Common.{◌≡◌, ◌∙◌, ℕ, Bool, true, false, List, [], ◌∷◌, ◌++◌, map, codes, refl, sym, ap, subst, append_assoc}
use Rattle.std.specs.List.{AllByRecursion}
use Rattle.std.proofs.lemmas.Bool.{false≢true}
use Rattle.std.proofs.lemmas.List.{append-nil}
use Rattle.basic_types.specs.Laws.{IsNormalType, IsNormalSig}
use Rattle.basic_types.specs.Name.{is_name_byte}
use Rattle.basic_types.specs.Signatures.{IsFreeName}
use Rattle.basic_types.specs.Spelling.{const_text, star_text, text_of_type, text_of_others, text_of_types, text_of_sig}
use Rattle.basic_types.specs.Tokens.{StopsBy}
use Rattle.basic_types.specs.declared.normal.ConstPlace.TheVariants.{Nowhere, Before}
use Rattle.basic_types.specs.declared.normal.TypeEnding.TheVariants.{Bare, Pointer}
use Rattle.basic_types.specs.declared.qtype.QType.{QType}
use Rattle.basic_types.specs.declared.sig.Sig.{Sig}
use Rattle.token_reading.specs.Lists.{spell_others, spell_listed}
use Rattle.token_reading.specs.Signatures.{TypeReading, spelled_type, spell_type, tree_of_type, SigReading, sig, spell_sig, tree_of_sig}
use Rattle.texts.specs.declared.symbol.Symbol.TheVariants as s
use Rattle.texts.specs.declared.token.Token.{Token}
use Rattle.texts.specs.declared.token.Token.TheVariants as token
use Rattle.certificate_lang.proofs.Pieces.{IsWritten, name_then, const_then, open_then, close_then, comma_then, star_then}

-- ---- types
abbrev reading_by : List ℕ → Bool → Bool → TypeReading
reading_by name false false = spelled_type Nowhere name Bare
reading_by name false true = spelled_type Nowhere name Pointer
reading_by name true pointer = spelled_type Before name Pointer

abbrev reading_of : QType → TypeReading
reading_of t = reading_by t.name t.constant t.pointer

pointer_then : (name : List ℕ) → IsFreeName name → (rest : List ℕ) (tokens : List Token) → IsWritten rest tokens → IsWritten ((name ++ codes "*") ++ rest) (token.Name name ∷ token.Symbol s.Star ∷ tokens)
pointer_then name free rest tokens w =
    subst (λ (bytes : List ℕ). IsWritten bytes (token.Name name ∷ token.Symbol s.Star ∷ tokens)) (sym (append_assoc name (codes "*") rest)) (name_then name (42 ∷ rest) (token.Symbol s.Star ∷ tokens) free refl (star_then rest tokens w))

type_by : (name : List ℕ) (constant pointer : Bool) → IsFreeName name → (constant ≡ true → pointer ≡ true) → (rest : List ℕ) (tokens : List Token) → StopsBy is_name_byte rest → IsWritten rest tokens
    → IsWritten ((const_text constant ++ (name ++ star_text pointer)) ++ rest) (spell_type (reading_by name constant pointer) tokens)
type_by name false false free both rest tokens stops w =
    subst (λ (bytes : List ℕ). IsWritten (bytes ++ rest) (token.Name name ∷ tokens)) (sym (append-nil name)) (name_then name rest tokens free stops w)
type_by name false true free both rest tokens stops w = pointer_then name free rest tokens w
type_by name true false free both rest tokens stops w = absurd (false≢true (both refl))
type_by name true true free both rest tokens stops w =
    const_then ((name ++ codes "*") ++ rest) (token.Name name ∷ token.Symbol s.Star ∷ tokens) (pointer_then name free rest tokens w)

tree_by : (name : List ℕ) (constant pointer : Bool) → (constant ≡ true → pointer ≡ true) → tree_of_type (reading_by name constant pointer) ≡ record { name = name; constant = constant; pointer = pointer }
tree_by name false false both = refl
tree_by name false true both = refl
tree_by name true false both = absurd (false≢true (both refl))
tree_by name true true both = refl

type_then : (t : QType) → IsNormalType t → (rest : List ℕ) (tokens : List Token) → StopsBy is_name_byte rest → IsWritten rest tokens → IsWritten (text_of_type t ++ rest) (spell_type (reading_of t) tokens)
type_then t normal rest tokens stops w = type_by t.name t.constant t.pointer normal.named normal.const_pointer rest tokens stops w

-- ---- lists of types
stops_others : (ts : List QType) (rest : List ℕ) → StopsBy is_name_byte (text_of_others ts ++ (41 ∷ rest))
stops_others [] rest = refl
stops_others (t ∷ ts) rest = refl

others_then : (ts : List QType) → AllByRecursion IsNormalType ts → (rest : List ℕ) (tokens : List Token) → IsWritten rest tokens → IsWritten (text_of_others ts ++ (41 ∷ rest)) (spell_others spell_type (map reading_of ts) tokens)
others_then [] normal rest tokens w = close_then rest tokens w
others_then (t ∷ ts) normal rest tokens w =
    let more = others_then ts normal.1 rest tokens w in
    let one = type_then t normal.0 (text_of_others ts ++ (41 ∷ rest)) (spell_others spell_type (map reading_of ts) tokens) (stops_others ts rest) more in
    comma_then ((text_of_type t ++ text_of_others ts) ++ 41 ∷ rest) (spell_type (reading_of t) (spell_others spell_type (map reading_of ts) tokens))
    (subst (λ (bytes : List ℕ). IsWritten bytes (spell_type (reading_of t) (spell_others spell_type (map reading_of ts) tokens))) (sym (append_assoc (text_of_type t) (text_of_others ts) (41 ∷ rest))) one)

list_then : (ts : List QType) → AllByRecursion IsNormalType ts → (rest : List ℕ) (tokens : List Token) → IsWritten rest tokens → IsWritten (40 ∷ (text_of_types ts ++ (41 ∷ rest))) (spell_listed spell_type (map reading_of ts) tokens)
list_then [] normal rest tokens w = open_then (41 ∷ rest) (token.Symbol s.Close ∷ tokens) (close_then rest tokens w)
list_then (t ∷ ts) normal rest tokens w =
    let more = others_then ts normal.1 rest tokens w in
    let one = type_then t normal.0 (text_of_others ts ++ (41 ∷ rest)) (spell_others spell_type (map reading_of ts) tokens) (stops_others ts rest) more in
    open_then ((text_of_type t ++ text_of_others ts) ++ 41 ∷ rest) (spell_type (reading_of t) (spell_others spell_type (map reading_of ts) tokens))
    (subst (λ (bytes : List ℕ). IsWritten bytes (spell_type (reading_of t) (spell_others spell_type (map reading_of ts) tokens))) (sym (append_assoc (text_of_type t) (text_of_others ts) (41 ∷ rest))) one)

trees : (ts : List QType) → AllByRecursion IsNormalType ts → map tree_of_type (map reading_of ts) ≡ ts
trees [] normal = refl
trees (t ∷ ts) normal =
    let one : tree_of_type (reading_of t) ≡ t = tree_by t.name t.constant t.pointer normal.0.const_pointer in
    let more = trees ts normal.1 in
    cc

-- ---- signatures
abbrev pub sig_reading : Sig → SigReading
sig_reading x = sig x.name (map reading_of x.types)

pub sig_tree : (x : Sig) → IsNormalSig x → tree_of_sig (sig_reading x) ≡ x
sig_tree x normal = ap (λ (types : List QType). let y : Sig = record { name = x.name; types = types } in y) (trees x.types normal.types)

sig_bytes : (x : Sig) (rest : List ℕ) → text_of_sig x ++ rest ≡ x.name ++ (40 ∷ (text_of_types x.types ++ (41 ∷ rest)))
sig_bytes x rest =
    append_assoc x.name (40 ∷ (text_of_types x.types ++ codes ")")) rest
    ∙ ap (λ (bytes : List ℕ). x.name ++ (40 ∷ bytes)) (append_assoc (text_of_types x.types) (codes ")") rest)

pub sig_then : (x : Sig) → IsNormalSig x → (rest : List ℕ) (tokens : List Token) → IsWritten rest tokens → IsWritten (text_of_sig x ++ rest) (spell_sig (sig_reading x) tokens)
sig_then x normal rest tokens w =
    let list = list_then x.types normal.types rest tokens w in
    let whole = name_then x.name (40 ∷ (text_of_types x.types ++ (41 ∷ rest))) (spell_listed spell_type (map reading_of x.types) tokens) normal.named refl list in
    subst (λ (bytes : List ℕ). IsWritten bytes (spell_sig (sig_reading x) tokens)) (sym (sig_bytes x rest)) whole
