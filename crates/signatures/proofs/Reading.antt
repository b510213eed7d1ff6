-- The readers of a signature's tokens, step by step.
use Rattle.std.proofs.Common.{◌≡◌, ℕ, Bool, true, false, List, [], ◌∷◌, ◌++◌, refl, sym, ◌∙◌, ap, append_assoc}
use Rattle.std.proofs.lemmas.List.{append-nil}
use Rattle.std.specs.Prelude.{Err}
use Rattle.std.specs.List.{AllByRecursion, AllZip}
use Rattle.signatures.specs.code.Reading.{NotAt, Eats, const_word, separator, NamedAt, NoNamedAt, TypeAt, ReadsType, ReadsTypes}
use Rattle.basic_types.specs.Signatures.{spell_ending, spell_named, spell_type, spell_others, spell_list, TypeReading, IsFreeName, IsTypeOf, AreTypes, IsPart, IsClosed, IsTyped}
use Rattle.signatures.specs.Normalising.{Normalises}
use Rattle.basic_types.specs.Tokens.{Token, word, mark, tokens_of}
use Rattle.signatures.specs.declared.fault.SigFault.{SigFault}
use Rattle.signatures.specs.declared.fault.SigFault.TheVariants.{BadName, BadType, TooMany, Memory}
use Rattle.basic_types.specs.declared.sig.Sig.{Sig}
use Rattle.basic_types.specs.declared.normal.ConstPlace.{ConstPlace}
use Rattle.basic_types.specs.declared.normal.ConstPlace.TheVariants.{Nowhere, Before, After}
use Rattle.basic_types.specs.declared.normal.TypeEnding.{TypeEnding}
use Rattle.basic_types.specs.declared.normal.TypeEnding.TheVariants.{Bare, Reference, Pointer}
use Rattle.basic_types.specs.declared.qtype.QType.{QType}
use Rattle.basic_types.specs.declared.mark.Mark.TheVariants.{Open, Close, Comma, Ampersand, Star, Other}
use Rattle.signatures.proofs.Unique.{const_is_reserved, one_type, others_separator, type_word}

-- ---- names with their `const`

none_without_name : (b : Bool) (old now : List Token) → Eats const_word old b now → ((name : List ℕ) → IsFreeName name → NotAt (word name) now) → (p : ConstPlace) (n : List ℕ) (rest : List Token) → IsFreeName n → old ≡ spell_named p n rest → ⊥
none_without_name true old now e h Nowhere n rest free s = const_is_reserved n free (cc)
none_without_name true old now e h Before n rest free s = h n free rest (cc)
none_without_name true old now e h After n rest free s = const_is_reserved n free (cc)
none_without_name false old now e h Nowhere n rest free s = h n free rest (e.0 ∙ s)
none_without_name false old now e h Before n rest free s = e.1 (word n ∷ rest) s
none_without_name false old now e h After n rest free s = h n free (const_word ∷ rest) (e.0 ∙ s)

pub no_name : (b : Bool) (old now : List Token) → Eats const_word old b now → ((name : List ℕ) → IsFreeName name → NotAt (word name) now) → NoNamedAt old
no_name b old now e h = record { none = λ p n rest free stop s. none_without_name b old now e h p n rest free s }

two : (old : List Token) (name : List ℕ) (after : List Token) → old ≡ const_word ∷ word name ∷ const_word ∷ after → (p : ConstPlace) (n : List ℕ) (rest : List Token) → IsFreeName n → NotAt const_word rest → old ≡ spell_named p n rest → ⊥
two old name after e Nowhere n rest free stop s = const_is_reserved n free (cc)
two old name after e Before n rest free stop s = stop after (cc)
two old name after e After n rest free stop s = const_is_reserved n free (cc)

pub two_consts : (old : List Token) (name : List ℕ) (after : List Token) → old ≡ const_word ∷ word name ∷ const_word ∷ after → NoNamedAt old
two_consts old name after e = record { none = two old name after e }

one : (old : List Token) (name : List ℕ) (after : List Token) → old ≡ const_word ∷ word name ∷ after → (p : ConstPlace) (n : List ℕ) (rest : List Token) → IsFreeName n → NotAt const_word rest → old ≡ spell_named p n rest → (p ≡ Before) × (n ≡ name) × (rest ≡ after)
one old name after e Nowhere n rest free stop s = absurd (const_is_reserved n free (cc))
one old name after e Before n rest free stop s = (refl, (cc), (cc))
one old name after e After n rest free stop s = absurd (const_is_reserved n free (cc))

pub const_before : (old : List Token) (name : List ℕ) (after : List Token) → IsFreeName name → old ≡ const_word ∷ word name ∷ after → NamedAt old Before name after
const_before old name after free e = record { spelled = e; named = free; only = one old name after e }

-- ---- lists of types

-- what is left of a list: nothing behind its bracket, and else at least one type
pub record SomeTypes (tokens : List Token) (types : List QType) (after : List Token) : Type 0 where
  pub first : TypeReading
  pub others : List TypeReading
  pub spelled : tokens ≡ spell_type first (spell_others others after)
  pub each : AllZip IsTypeOf (first ∷ others) types

abbrev pub LeftTypes : Bool → List Token → List QType → List Token → Type 0
LeftTypes true tokens types after = (types ≡ []) × (tokens ≡ after)
LeftTypes false tokens types after = SomeTypes tokens types after

-- `goes_on`: with what is left from `now` on, they are the types. `all`: all types are read so.
pub record Underway (before : List Token) (found : List QType) (is_last : Bool) (now : List Token) : Type 0 where
  pub goes_on : (types : List QType) (after : List Token) → LeftTypes is_last now types after → AreTypes before (found ++ types) after
  pub all : (types : List QType) (after : List Token) → AreTypes before types after → (more : List QType) × (types ≡ found ++ more) × LeftTypes is_last now more after

-- before the first type
start : (is_last : Bool) (before now : List Token) → Eats (mark Close) before is_last now → (rs : List TypeReading) (types : List QType) (after : List Token) → AllZip IsTypeOf rs types → before ≡ spell_list rs after → LeftTypes is_last now types after
start true before now h [] [] after each s = (refl, (cc))
start true before now h [] (t ∷ ts) after each s = absurd each
start true before now h (r ∷ rs) types after each s = absurd (type_word r.place r.name (spell_ending r.ending (spell_others rs after)) Close now (sym s ∙ h))
start false before now h [] types after each s = absurd (h.1 after s)
start false before now h (r ∷ rs) types after each s = record { first = r; others = rs; spelled = h.0 ∙ s; each = each }

back : (is_last : Bool) (before now : List Token) → Eats (mark Close) before is_last now → (types : List QType) (after : List Token) → LeftTypes is_last now types after → AreTypes before types after
back true before now h [] after k = record { readings = []; spelled = h ∙ ap (λ x. mark Close ∷ x) k.1; each = tt }
back true before now h (t ∷ ts) after k = let e = k.0 in cc
back false before now h types after k = record { readings = k.first ∷ k.others; spelled = sym h.0 ∙ k.spelled; each = k.each }

pub none_found : (is_last : Bool) (before now : List Token) → Eats (mark Close) before is_last now → Underway before [] is_last now
none_found is_last before now h = record {
  goes_on = back is_last before now h;
  all = λ types after k. (types, refl, start is_last before now h k.readings types after k.each k.spelled);
}

-- one type more
some_more : (l : Bool) (now now2 : List Token) (t : QType) → TypeAt now t l now2 → (types : List QType) (after : List Token) → LeftTypes l now2 types after → SomeTypes now (t ∷ types) after
some_more true now now2 t h [] after k = record { first = h.reading; others = []; spelled = h.spelled ∙ ap (λ x. spell_type h.reading (mark Close ∷ x)) k.1; each = (h.normal, tt) }
some_more true now now2 t h (u ∷ us) after k = let e = k.0 in cc
some_more false now now2 t h types after k = record { first = h.reading; others = k.first ∷ k.others; spelled = h.spelled ∙ ap (λ x. spell_type h.reading (mark Comma ∷ x)) k.spelled; each = (h.normal, k.each) }

left_of : (l : Bool) (now2 : List Token) (others : List TypeReading) (types : List QType) (after : List Token) → AllZip IsTypeOf others types → separator l ∷ now2 ≡ spell_others others after → LeftTypes l now2 types after
left_of true now2 [] [] after each e = (refl, (cc))
left_of true now2 [] (t ∷ ts) after each e = absurd each
left_of true now2 (o ∷ os) types after each e = cc
left_of false now2 [] types after each e = cc
left_of false now2 (o ∷ os) types after each e = record { first = o; others = os; spelled = (cc); each = each }

some_less : (l : Bool) (now now2 : List Token) (t : QType) → TypeAt now t l now2 → (more : List QType) (after : List Token) (first : TypeReading) (others : List TypeReading) → now ≡ spell_type first (spell_others others after) → AllZip IsTypeOf (first ∷ others) more → (types : List QType) × (more ≡ t ∷ types) × LeftTypes l now2 types after
some_less l now now2 t h [] after first others s each = absurd each
some_less l now now2 t h (u ∷ us) after first others s each =
    let p = one_type h.reading first t u (separator l ∷ now2) (spell_others others after) h.normal each.0 (record { is_last = l; rest = now2; is = refl }) (others_separator others after) (sym h.spelled ∙ s) in
    (us, ap (λ x. x ∷ us) (sym p.0), left_of l now2 others us after each.1 p.1)

pub found_more : (before now now2 : List Token) (found : List QType) (t : QType) (l : Bool) → Underway before found false now → TypeAt now t l now2 → Underway before (found ++ t ∷ []) l now2
found_more before now now2 found t l h k = record {
  goes_on = λ types after left. rw (append_assoc found (t ∷ []) types) (h.goes_on (t ∷ types) after (some_more l now now2 t k types after left));
  all = λ types after are.
      let m = h.all types after are in
      let n = some_less l now now2 t k m.0 after m.2.first m.2.others m.2.spelled m.2.each in
      (n.0, m.1 ∙ (ap (λ x. found ++ x) n.1 ∙ sym (append_assoc found (t ∷ []) n.0)), n.2);
}

-- no type stands there
first_type : (now : List Token) (more : List QType) (after : List Token) (first : TypeReading) (others : List TypeReading) → now ≡ spell_type first (spell_others others after) → AllZip IsTypeOf (first ∷ others) more → ((type : QType) (is_last : Bool) (rest : List Token) → TypeAt now type is_last rest → ⊥) → ⊥
first_type now [] after first others s each none = each
first_type now (u ∷ us) after first others s each none =
    let a = others_separator others after in
    none u a.is_last a.rest (record { reading = first; spelled = s ∙ ap (spell_type first) a.is; normal = each.0 })

found_none : (before now : List Token) (found : List QType) → Underway before found false now → ((type : QType) (is_last : Bool) (rest : List Token) → TypeAt now type is_last rest → ⊥) → (types : List QType) (after : List Token) → AreTypes before types after → ⊥
found_none before now found h none types after are =
    let m = h.all types after are in
    first_type now m.0 after m.2.first m.2.others m.2.spelled m.2.each none

pub no_types : (before now : List Token) (found : List QType) → Underway before found false now → (fault : SigFault) (after : List Token) → ReadsType now (Err fault) after → ReadsTypes before (Err fault) after
no_types before now found h BadName after k = k
no_types before now found h BadType after k = found_none before now found h k
no_types before now found h TooMany after k = k
no_types before now found h Memory after k = tt

pub found_all : (before now : List Token) (found : List QType) → Underway before found true now → AreTypes before found now
found_all before now found h = rw (append-nil found) at (h.goes_on [] now (refl, refl))

-- ---- signatures

-- what follows the first `)`
abbrev behind : List Token → List Token
behind [] = []
behind (word letters ∷ ts) = behind ts
behind (mark Open ∷ ts) = behind ts
behind (mark Close ∷ ts) = ts
behind (mark Comma ∷ ts) = behind ts
behind (mark Ampersand ∷ ts) = behind ts
behind (mark Star ∷ ts) = behind ts
behind (mark Other ∷ ts) = behind ts

behind_parts : (ps : List Token) → AllByRecursion IsPart ps → behind (ps ++ mark Close ∷ []) ≡ []
behind_parts [] h = refl
behind_parts (word letters ∷ ps) h = behind_parts ps h.1
behind_parts (mark Open ∷ ps) h = absurd h.0
behind_parts (mark Close ∷ ps) h = absurd h.0
behind_parts (mark Comma ∷ ps) h = behind_parts ps h.1
behind_parts (mark Ampersand ∷ ps) h = behind_parts ps h.1
behind_parts (mark Star ∷ ps) h = behind_parts ps h.1
behind_parts (mark Other ∷ ps) h = absurd h.0

behind_ending : (e : TypeEnding) (x : List Token) → behind (spell_ending e x) ≡ behind x
behind_ending Bare x = refl
behind_ending Reference x = refl
behind_ending Pointer x = refl

behind_named : (p : ConstPlace) (n : List ℕ) (x : List Token) → behind (spell_named p n x) ≡ behind x
behind_named Nowhere n x = refl
behind_named Before n x = refl
behind_named After n x = refl

behind_others : (rs : List TypeReading) (x : List Token) → behind (spell_others rs x) ≡ x
behind_others [] x = refl
behind_others (r ∷ rs) x = behind_named r.place r.name (spell_ending r.ending (spell_others rs x)) ∙ (behind_ending r.ending (spell_others rs x) ∙ behind_others rs x)

behind_list : (rs : List TypeReading) (x : List Token) → behind (spell_list rs x) ≡ x
behind_list [] x = refl
behind_list (r ∷ rs) x = behind_others (r ∷ rs) x

closed_types : (list : List Token) (types : List QType) (after : List Token) → IsClosed list → AreTypes list types after → after ≡ []
closed_types list types after h k = sym (behind_list k.readings after) ∙ (ap behind (sym k.spelled ∙ h.is) ∙ behind_parts h.parts h.inside)

module _ (text name : List ℕ) (rest list : List Token) (opened : tokens_of text ≡ word name ∷ rest) (framed : rest ≡ mark Open ∷ list) (named : IsFreeName name) (closed : IsClosed list) where
  pub typed_text : (types : List QType) (after : List Token) → AreTypes list types after → IsTyped text (record { name = name; types = types })
  typed_text types after h =
      let e = closed_types list types after closed h in
      record { list = list; framed = (cc); named = named; types = rw e at h }

  none_typed : ((types : List QType) (after : List Token) → AreTypes list types after → ⊥) → (sig : Sig) → IsTyped text sig → ⊥
  none_typed h sig typed =
      let f = typed.framed in
      let e : typed.list ≡ list = cc in
      h sig.types [] (rw e at typed.types)

  pub refused_types : (fault : SigFault) (after : List Token) → ReadsTypes list (Err fault) after → Normalises text (Err fault)
  refused_types BadName after h = absurd h
  refused_types BadType after h = record { framed = record { name = name; list = list; framed = (cc); named = named; closed = closed }; none = none_typed h }
  refused_types TooMany after h = absurd h
  refused_types Memory after h = tt
