-- Types, signatures and kinds from their parts.
use Rattle.std.proofs.Common.{◌≡◌, ◌∙◌, ℕ, List, ◌∷◌, map, refl, sym}
use Rattle.basic_types.specs.declared.kind.Kind.{Kind}
use Rattle.basic_types.specs.declared.kind.Kind.TheVariants.{Auto, Direct, Queued}
use Rattle.basic_types.specs.declared.normal.ConstPlace.{ConstPlace}
use Rattle.basic_types.specs.declared.normal.ConstPlace.TheVariants.{Nowhere, Before, After}
use Rattle.basic_types.specs.declared.normal.TypeEnding.{TypeEnding}
use Rattle.basic_types.specs.declared.normal.TypeEnding.TheVariants.{Bare, Reference, Pointer}
use Rattle.basic_types.specs.declared.qtype.QType.{QType}
use Rattle.basic_types.specs.declared.word.Word.TheVariants as word
use Rattle.token_reading.specs.code.Cursor.{NotAtWord}
use Rattle.token_reading.specs.code.Lists.{IsPart}
use Rattle.token_reading.specs.Lists.{spell_listed}
use Rattle.token_reading.specs.code.Reading.{EndsAnywhere, Found}
use Rattle.token_reading.specs.Reading.{spell_name}
use Rattle.token_reading.specs.Signatures.{TypeReading, spelled_type, spell_ending, spell_type, tree_of_type, SigReading, sig, spell_sig, tree_of_sig, spell_kind}
use Rattle.token_reading.specs.code.Signatures.{Named, spell_place, EndsNamed, IsEnding, EndsType}
use Rattle.texts.specs.declared.symbol.Symbol.TheVariants.{Close}
use Rattle.texts.specs.declared.token.Token.{Token}
use Rattle.texts.specs.declared.token.Token.TheVariants as token
use Rattle.token_reading.proofs.Underway.{None}

-- ---- a name, with `const` in front of it or behind it

after_const : (r : Named) (before between after rest : List Token) {name : List ℕ} → before ≡ token.Word word.Const ∷ between → Found spell_name (λ n. n) EndsAnywhere between name after → before ≡ spell_place r rest → after ≡ rest
after_const (Nowhere, x) before between after rest e f g = cc
after_const (Before, x) before between after rest e f g = f.only x rest tt cc
after_const (After, x) before between after rest e f g = cc

pub const_before : {before between after : List Token} {name : List ℕ} → before ≡ token.Word word.Const ∷ between → Found spell_name (λ n. n) EndsAnywhere between name after → Found spell_place (λ p. p) EndsNamed before (Before, name) after
const_before {before} {between} {after} {name} e f =
    let s = f.spelled in
    let t = f.tree_is in
    record { reading = (Before, name); spelled = cc; tree_is = refl; only = λ r rest ends g. after_const r before between after rest e f g }

pub no_name_after_const : {before between : List Token} → before ≡ token.Word word.Const ∷ between → None spell_name EndsAnywhere between → None spell_place EndsNamed before
no_name_after_const {before} {between} e none (Nowhere, x) rest ends g = cc
no_name_after_const {before} {between} e none (Before, x) rest ends g = none x rest tt cc
no_name_after_const {before} {between} e none (After, x) rest ends g = cc

pub no_name : {before : List Token} → NotAtWord word.Const before → None spell_name EndsAnywhere before → None spell_place EndsNamed before
no_name {before} other none (Nowhere, x) rest ends g = none x rest tt g
no_name {before} other none (Before, x) rest ends g = other (token.Name x ∷ rest) g
no_name {before} other none (After, x) rest ends g = none x (token.Word word.Const ∷ rest) tt g

const_behind : (r : Named) (before between after rest : List Token) {name : List ℕ} → EndsNamed rest → Found spell_name (λ n. n) EndsAnywhere before name between → between ≡ token.Word word.Const ∷ after → before ≡ spell_place r rest → after ≡ rest
const_behind (Nowhere, x) before between after rest ends f e g = let same = f.only x rest tt g in absurd (ends after cc)
const_behind (Before, x) before between after rest ends f e g = let s = f.spelled in cc
const_behind (After, x) before between after rest ends f e g = let same = f.only x (token.Word word.Const ∷ rest) tt g in cc

pub const_after : {before between after : List Token} {name : List ℕ} → Found spell_name (λ n. n) EndsAnywhere before name between → between ≡ token.Word word.Const ∷ after → Found spell_place (λ p. p) EndsNamed before (After, name) after
const_after {before} {between} {after} {name} f e =
    let s = f.spelled in
    let t = f.tree_is in
    record { reading = (After, name); spelled = cc; tree_is = refl; only = λ r rest ends g. const_behind r before between after rest ends f e g }

no_const_behind : (r : Named) (before after rest : List Token) {name : List ℕ} → Found spell_name (λ n. n) EndsAnywhere before name after → NotAtWord word.Const after → before ≡ spell_place r rest → after ≡ rest
no_const_behind (Nowhere, x) before after rest f none g = f.only x rest tt g
no_const_behind (Before, x) before after rest f none g = let s = f.spelled in cc
no_const_behind (After, x) before after rest f none g = absurd (none rest (f.only x (token.Word word.Const ∷ rest) tt g))

pub const_nowhere : {before after : List Token} {name : List ℕ} → Found spell_name (λ n. n) EndsAnywhere before name after → NotAtWord word.Const after → Found spell_place (λ p. p) EndsNamed before (Nowhere, name) after
const_nowhere {before} {after} {name} f none =
    let s = f.spelled in
    let t = f.tree_is in
    record { reading = (Nowhere, name); spelled = cc; tree_is = refl; only = λ r rest ends g. no_const_behind r before after rest f none g }

-- ---- types

pub ends_at_ending : (ending : TypeEnding) (rest : List Token) → EndsType rest → EndsNamed (spell_ending ending rest)
ends_at_ending Bare rest ends after e = ends.no_const after e
ends_at_ending Reference rest ends after e = cc
ends_at_ending Pointer rest ends after e = cc

same_ending : (a b : TypeEnding) (before after rest : List Token) → IsEnding a before after → EndsType rest → before ≡ spell_ending b rest → after ≡ rest
same_ending Bare Bare before after rest f ends g = let s = f.spelled in cc
same_ending Bare Reference before after rest f ends g = absurd ((f.bare refl).0 rest g)
same_ending Bare Pointer before after rest f ends g = absurd ((f.bare refl).1 rest g)
same_ending Reference Bare before after rest f ends g = let s = f.spelled in absurd (ends.no_reference after cc)
same_ending Pointer Bare before after rest f ends g = let s = f.spelled in absurd (ends.no_pointer after cc)
same_ending Reference b before after rest f ends g = let s = f.spelled in cc
same_ending Pointer b before after rest f ends g = let s = f.spelled in cc

pub type_found : {before between after : List Token} {named : ConstPlace × List ℕ} {ending : TypeEnding} → Found spell_place (λ p. p) EndsNamed before named between → IsEnding ending between after → Found spell_type tree_of_type EndsType before (tree_of_type (spelled_type named.0 named.1 ending)) after
type_found {before} {between} {after} {named} {ending} f k =
    let s = f.spelled in
    let t = f.tree_is in
    let d = k.spelled in
    record {
      reading = spelled_type named.0 named.1 ending;
      spelled = rw (← d, ← t) s;
      tree_is = refl;
      only = λ r rest ends g. type_only r rest ends g;
    }
  where
    type_only : (r : TypeReading) (rest : List Token) → EndsType rest → before ≡ spell_type r rest → after ≡ rest
    type_only (spelled_type place name other) rest ends g =
        same_ending ending other between after rest k ends (f.only (place, name) (spell_ending other rest) (ends_at_ending other rest ends) g)

pub no_type : {before : List Token} → None spell_place EndsNamed before → None spell_type EndsType before
no_type none (spelled_type place name ending) rest ends g = none (place, name) (spell_ending ending rest) (ends_at_ending ending rest ends) g

type_unclosed : (r : TypeReading) (rest after : List Token) → spell_type r rest ≡ token.Symbol Close ∷ after → ⊥
type_unclosed (spelled_type Nowhere name ending) rest after e = cc
type_unclosed (spelled_type Before name ending) rest after e = cc
type_unclosed (spelled_type After name ending) rest after e = cc

pub types_are_parts : IsPart spell_type EndsType
types_are_parts = record {
  at_comma = λ rest. record { no_const = λ after e. cc; no_reference = λ after e. cc; no_pointer = λ after e. cc };
  at_close = λ rest. record { no_const = λ after e. cc; no_reference = λ after e. cc; no_pointer = λ after e. cc };
  unclosed = type_unclosed;
}

-- ---- signatures and kinds

module _ {before between : List Token} {name : List ℕ} (n : Found spell_name (λ n. n) EndsAnywhere before name between) where
  pub no_types : None (spell_listed spell_type) EndsAnywhere between → None spell_sig EndsAnywhere before
  no_types none (sig x ts) rest ends g = none ts rest tt (n.only x (spell_listed spell_type ts rest) tt g)

  sig_only : (r : SigReading) {types : List QType} (after rest : List Token) → Found (spell_listed spell_type) (map tree_of_type) EndsAnywhere between types after → before ≡ spell_sig r rest → after ≡ rest
  sig_only (sig x ts) after rest t g = t.only ts rest tt (n.only x (spell_listed spell_type ts rest) tt g)

  pub sig_found : {types : List QType} {after : List Token} → Found (spell_listed spell_type) (map tree_of_type) EndsAnywhere between types after → Found spell_sig tree_of_sig EndsAnywhere before (record { name = name; types = types }) after
  sig_found {types} {after} t =
      let a = n.spelled in let b = t.spelled in let x = n.tree_is in let y = t.tree_is in
      record { reading = sig n.reading t.reading; spelled = cc; tree_is = cc; only = λ r rest ends g. sig_only r after rest t g }

pub no_sig_name : {before : List Token} → None spell_name EndsAnywhere before → None spell_sig EndsAnywhere before
no_sig_name none (sig x ts) rest ends g = none x (spell_listed spell_type ts rest) tt g

one_kind : (a b : Kind) (after rest : List Token) → spell_kind a after ≡ spell_kind b rest → after ≡ rest
one_kind Auto Auto after rest e = cc
one_kind Direct Direct after rest e = cc
one_kind Queued Queued after rest e = cc
one_kind _ _ after rest e = cc

pub kind_found : {before after : List Token} (kind : Kind) → before ≡ spell_kind kind after → Found spell_kind (λ k. k) EndsAnywhere before kind after
kind_found {before} {after} kind e = record { reading = kind; spelled = e; tree_is = refl; only = λ r rest ends g. one_kind kind r after rest (sym e ∙ g) }

pub no_kind : {before : List Token} → NotAtWord word.Auto before → NotAtWord word.Direct before → NotAtWord word.Queued before → None spell_kind EndsAnywhere before
no_kind a d q Auto rest ends g = a rest g
no_kind a d q Direct rest ends g = d rest g
no_kind a d q Queued rest ends g = q rest g
