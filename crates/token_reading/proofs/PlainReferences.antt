-- References that aren't const, from a place among the tokens on.
use Rattle.std.proofs.Common.{◌≡◌, ◌≢◌, ◌∙◌, ℕ, List, [], ◌∷◌, ◌++◌, Bool, true, false, IsTrue, ◌↔◌, refl, ap}
use Rattle.basic_types.specs.declared.word.Word.TheVariants as word
use Rattle.token_reading.specs.Signatures.{HasPlainReference}
use Rattle.texts.specs.declared.symbol.Symbol.TheVariants.{Ampersand}
use Rattle.texts.specs.declared.token.Token.{Token}
use Rattle.texts.specs.declared.token.Token.TheVariants as token

-- such a reference stands among the tokens, in front of which `const` may stand
pub record PlainFrom (after_const : Bool) (tokens : List Token) : Type 0 where
  pub front : List Token
  pub name : List ℕ
  pub after : List Token
  pub is : tokens ≡ front ++ token.Name name ∷ token.Symbol Ampersand ∷ after
  pub plain : (before : List Token) → front ≢ before ++ token.Word word.Const ∷ []
  pub free : after_const ≡ true → front ≢ []

pub from_start : {tokens : List Token} → HasPlainReference tokens → PlainFrom false tokens
from_start h = record { front = h.front; name = h.name; after = h.after; is = h.is; plain = h.plain; free = λ e. cc }

pub to_start : {tokens : List Token} → PlainFrom false tokens → HasPlainReference tokens
to_start h = record { front = h.front; name = h.name; after = h.after; is = h.is; plain = h.plain }

pub plain_here : (name : List ℕ) (after tokens : List Token) → tokens ≡ token.Name name ∷ token.Symbol Ampersand ∷ after → PlainFrom false tokens
plain_here name after tokens e = record { front = []; name = name; after = after; is = e; plain = none; free = λ k. cc }
  where
    none : (before : List Token) → [] ≢ before ++ token.Word word.Const ∷ []
    none [] k = cc
    none (b ∷ bs) k = cc

pub plain_at_end : (b : Bool) → PlainFrom b [] → ⊥
plain_at_end b h = at_end h.front h.is
  where
    at_end : (front : List Token) → [] ≡ front ++ token.Name h.name ∷ token.Symbol Ampersand ∷ h.after → ⊥
    at_end [] e = cc
    at_end (t ∷ ts) e = cc

module _ (b c : Bool) (t : Token) (after : List Token) (const_here : IsTrue c ↔ (t ≡ token.Word word.Const)) where
  pub plain_earlier : PlainFrom c after → PlainFrom b (t ∷ after)
  plain_earlier h = record {
    front = t ∷ h.front;
    name = h.name;
    after = h.after;
    is = ap (λ ts. t ∷ ts) h.is;
    plain = no_const;
    free = λ e k. cc;
  }
    where
      no_const : (before : List Token) → t ∷ h.front ≢ before ++ token.Word word.Const ∷ []
      no_const [] k = h.free (const_here.1 cc) cc
      no_const (x ∷ before) k = h.plain before cc

  pub plain_later : ((name : List ℕ) (rest : List Token) → b ≡ false → t ∷ after ≡ token.Name name ∷ token.Symbol Ampersand ∷ rest → ⊥) → PlainFrom b (t ∷ after) → PlainFrom c after
  plain_later none h = later b h.front h.is h.plain h.free none
    where
      later : (d : Bool) (front : List Token) → t ∷ after ≡ front ++ token.Name h.name ∷ token.Symbol Ampersand ∷ h.after → ((before : List Token) → front ≢ before ++ token.Word word.Const ∷ []) → (d ≡ true → front ≢ []) → ((name : List ℕ) (rest : List Token) → d ≡ false → t ∷ after ≡ token.Name name ∷ token.Symbol Ampersand ∷ rest → ⊥) → PlainFrom c after
      later true [] e plain free elsewhere = absurd (free refl refl)
      later false [] e plain free elsewhere = absurd (elsewhere h.name h.after refl e)
      later d (x ∷ front) e plain free elsewhere = record {
        front = front;
        name = h.name;
        after = h.after;
        is = cc;
        plain = λ before k. plain (x ∷ before) (ap (λ ts. x ∷ ts) k);
        free = λ k empty. plain [] (let at_const = const_here.0 k in let same : x ≡ t = cc in cc);
      }

  -- one token further
  pub plain_step : {tokens left : List Token} → (HasPlainReference tokens ↔ PlainFrom b left) → left ≡ t ∷ after → ((name : List ℕ) (rest : List Token) → b ≡ false → left ≡ token.Name name ∷ token.Symbol Ampersand ∷ rest → ⊥) → HasPlainReference tokens ↔ PlainFrom c after
  plain_step h e none = (λ k. plain_later (λ name rest f g. none name rest f (e ∙ g)) (rw e at (h.0 k)), λ k. h.1 (rw e (plain_earlier k)))
