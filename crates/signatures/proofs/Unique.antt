-- Tokens are read as types in one way.
use Rattle.std.proofs.Common.{◌≡◌, ℕ, Bool, true, false, List, [], ◌∷◌, refl, sym, ◌∙◌}
use Rattle.std.specs.Prelude.{codes}
use Rattle.std.specs.List.{AllZip}
use Rattle.basic_types.specs.Normal.{normal_of}
use Rattle.signatures.specs.code.Reading.{NotAt, const_word, separator}
use Rattle.basic_types.specs.Signatures.{spell_ending, spell_named, spell_type, spell_others, spell_list, TypeReading, IsFreeName, IsTypeOf, AreTypes, IsTyped}
use Rattle.basic_types.specs.Tokens.{Token, word, mark}
use Rattle.basic_types.specs.declared.normal.ConstPlace.{ConstPlace}
use Rattle.basic_types.specs.declared.normal.ConstPlace.TheVariants.{Nowhere, Before, After}
use Rattle.basic_types.specs.declared.normal.TypeEnding.{TypeEnding}
use Rattle.basic_types.specs.declared.normal.TypeEnding.TheVariants.{Bare, Reference, Pointer}
use Rattle.basic_types.specs.declared.qtype.QType.{QType}
use Rattle.basic_types.specs.declared.mark.Mark.{Mark}
use Rattle.basic_types.specs.declared.mark.Mark.TheVariants.{Close, Ampersand, Star}
use Rattle.basic_types.specs.declared.sig.Sig.{Sig}
use Rattle.basic_types.specs.declared.word.Word.TheVariants as reserved

-- ---- one type

pub const_is_reserved : (name : List ℕ) → IsFreeName name → name ≡ codes "const" → ⊥
const_is_reserved name h e = h.free reserved.Const e

-- what may follow a type comes next
pub record AtSeparator (tokens : List Token) : Type 0 where
  pub is_last : Bool
  pub rest : List Token
  pub is : tokens ≡ separator is_last ∷ rest

no_ampersand : (l : Bool) (x ts : List Token) → separator l ∷ x ≡ mark Ampersand ∷ ts → ⊥
no_ampersand true x ts e = cc
no_ampersand false x ts e = cc

no_star : (l : Bool) (x ts : List Token) → separator l ∷ x ≡ mark Star ∷ ts → ⊥
no_star true x ts e = cc
no_star false x ts e = cc

no_word : (l : Bool) (x : List Token) (letters : List ℕ) (ts : List Token) → separator l ∷ x ≡ word letters ∷ ts → ⊥
no_word true x letters ts e = cc
no_word false x letters ts e = cc

pub one_ending : (e f : TypeEnding) (x y : List Token) → AtSeparator x → AtSeparator y → spell_ending e x ≡ spell_ending f y → (e ≡ f) × (x ≡ y)
one_ending Bare Bare x y h k s = (refl, s)
one_ending Bare Reference x y h k s = absurd (no_ampersand h.is_last h.rest y (sym h.is ∙ s))
one_ending Bare Pointer x y h k s = absurd (no_star h.is_last h.rest y (sym h.is ∙ s))
one_ending Reference Bare x y h k s = absurd (no_ampersand k.is_last k.rest x (sym k.is ∙ sym s))
one_ending Reference Reference x y h k s = (refl, (cc))
one_ending Reference Pointer x y h k s = cc
one_ending Pointer Bare x y h k s = absurd (no_star k.is_last k.rest x (sym k.is ∙ sym s))
one_ending Pointer Reference x y h k s = cc
one_ending Pointer Pointer x y h k s = (refl, (cc))

pub no_const_ending : (e : TypeEnding) (x : List Token) → AtSeparator x → NotAt const_word (spell_ending e x)
no_const_ending Bare x h rest s = no_word h.is_last h.rest (codes "const") rest (sym h.is ∙ s)
no_const_ending Reference x h rest s = cc
no_const_ending Pointer x h rest s = cc

pub one_named : (p q : ConstPlace) (n m : List ℕ) (x y : List Token) → IsFreeName n → IsFreeName m → NotAt const_word x → NotAt const_word y → spell_named p n x ≡ spell_named q m y → (p ≡ q) × (n ≡ m) × (x ≡ y)
one_named Nowhere Nowhere n m x y h k i j s = (refl, (cc), (cc))
one_named Nowhere Before n m x y h k i j s = absurd (const_is_reserved n h (cc))
one_named Nowhere After n m x y h k i j s = absurd (i y (cc))
one_named Before Nowhere n m x y h k i j s = absurd (const_is_reserved m k (cc))
one_named Before Before n m x y h k i j s = (refl, (cc), (cc))
one_named Before After n m x y h k i j s = absurd (const_is_reserved m k (cc))
one_named After Nowhere n m x y h k i j s = absurd (j x (cc))
one_named After Before n m x y h k i j s = absurd (const_is_reserved n h (cc))
one_named After After n m x y h k i j s = (refl, (cc), (cc))

pub one_type : (r s : TypeReading) (t u : QType) (x y : List Token) → IsTypeOf r t → IsTypeOf s u → AtSeparator x → AtSeparator y → spell_type r x ≡ spell_type s y → (t ≡ u) × (x ≡ y)
one_type r s t u x y h k i j e =
    let p = one_named r.place s.place r.name s.name (spell_ending r.ending x) (spell_ending s.ending y) h.named k.named (no_const_ending r.ending x i) (no_const_ending s.ending y j) e in
    let q = one_ending r.ending s.ending x y i j p.2 in
    let m = h.normal in
    let n = k.normal in
    let same : normal_of r.name r.place r.ending ≡ normal_of s.name s.place s.ending = rw (p.0, p.1, q.0) refl in
    ((cc), q.1)

-- ---- lists of types

pub others_separator : (rs : List TypeReading) (x : List Token) → AtSeparator (spell_others rs x)
others_separator [] x = record { is_last = true; rest = x; is = refl }
others_separator (r ∷ rs) x = record { is_last = false; rest = spell_type r (spell_others rs x); is = refl }

one_others : (rs ss : List TypeReading) (us vs : List QType) (x y : List Token) → AllZip IsTypeOf rs us → AllZip IsTypeOf ss vs → spell_others rs x ≡ spell_others ss y → (us ≡ vs) × (x ≡ y)
one_others [] [] [] [] x y h k e = (refl, (cc))
one_others [] [] [] (v ∷ vs) x y h k e = absurd k
one_others [] [] (u ∷ us) vs x y h k e = absurd h
one_others [] (s ∷ ss) us vs x y h k e = cc
one_others (r ∷ rs) [] us vs x y h k e = cc
one_others (r ∷ rs) (s ∷ ss) [] vs x y h k e = absurd h
one_others (r ∷ rs) (s ∷ ss) (u ∷ us) [] x y h k e = absurd k
one_others (r ∷ rs) (s ∷ ss) (u ∷ us) (v ∷ vs) x y h k e =
    let p = one_type r s u v (spell_others rs x) (spell_others ss y) h.0 k.0 (others_separator rs x) (others_separator ss y) (cc) in
    let q = one_others rs ss us vs x y h.1 k.1 p.1 in
    ((cc), q.1)

-- a type begins with a word
pub type_word : (p : ConstPlace) (n : List ℕ) (x : List Token) (m : Mark) (ts : List Token) → spell_named p n x ≡ mark m ∷ ts → ⊥
type_word Nowhere n x m ts e = cc
type_word Before n x m ts e = cc
type_word After n x m ts e = cc

one_list : (rs ss : List TypeReading) (us vs : List QType) (x y : List Token) → AllZip IsTypeOf rs us → AllZip IsTypeOf ss vs → spell_list rs x ≡ spell_list ss y → (us ≡ vs) × (x ≡ y)
one_list [] [] [] [] x y h k e = (refl, (cc))
one_list [] [] [] (v ∷ vs) x y h k e = absurd k
one_list [] [] (u ∷ us) vs x y h k e = absurd h
one_list [] (s ∷ ss) us vs x y h k e = absurd (type_word s.place s.name (spell_ending s.ending (spell_others ss y)) Close x (sym e))
one_list (r ∷ rs) [] us vs x y h k e = absurd (type_word r.place r.name (spell_ending r.ending (spell_others rs x)) Close y e)
one_list (r ∷ rs) (s ∷ ss) [] vs x y h k e = absurd h
one_list (r ∷ rs) (s ∷ ss) (u ∷ us) [] x y h k e = absurd k
one_list (r ∷ rs) (s ∷ ss) (u ∷ us) (v ∷ vs) x y h k e =
    let p = one_type r s u v (spell_others rs x) (spell_others ss y) h.0 k.0 (others_separator rs x) (others_separator ss y) e in
    let q = one_others rs ss us vs x y h.1 k.1 p.1 in
    ((cc), q.1)

pub one_types : (tokens : List Token) (us vs : List QType) (x y : List Token) → AreTypes tokens us x → AreTypes tokens vs y → (us ≡ vs) × (x ≡ y)
one_types tokens us vs x y h k = one_list h.readings k.readings us vs x y h.each k.each (sym h.spelled ∙ k.spelled)

-- ---- signatures

same_sig : (n m : List ℕ) (us vs : List QType) → n ≡ m → us ≡ vs → ◌≡◌ {A = Sig} (record { name = n; types = us }) (record { name = m; types = vs })
same_sig n m us vs p q = rw (p, q) refl

pub one_typed : (text : List ℕ) (a b : Sig) → IsTyped text a → IsTyped text b → a ≡ b
one_typed text a b h k =
    let s = sym h.framed ∙ k.framed in
    let lists : h.list ≡ k.list = cc in
    let types = one_types h.list a.types b.types [] [] h.types (rw (sym lists) at k.types) in
    let names : a.name ≡ b.name = cc in
    same_sig a.name b.name a.types b.types names types.0
