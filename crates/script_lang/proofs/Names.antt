-- Names, one after another up to the end of a line.
use Rattle.std.proofs.Common.{◌≡◌, ℕ, List, [], ◌∷◌, ◌++◌, refl, sym, ◌∙◌, ap, append_assoc}
use Rattle.std.proofs.lemmas.List.{append-nil}
use Rattle.token_reading.specs.Lists.{spell_each}
use Rattle.token_reading.specs.code.Reading.{Found, EndsAnywhere, IsAtEnd}
use Rattle.token_reading.specs.Reading.{spell_name}
use Rattle.texts.specs.declared.token.Token.{Token}
use Rattle.token_reading.proofs.Underway.{None, Underway}

abbrev pub NamesSoFar : List Token → List (List ℕ) → List Token → Type 0
NamesSoFar before names now = Underway (spell_each spell_name) (λ names. names) IsAtEnd (spell_each spell_name) (λ more names. names ++ more) before names now

after_name : (ns : List (List ℕ)) (now after rest : List Token) {name : List ℕ} → IsAtEnd rest → Found spell_name (λ n. n) EndsAnywhere now name after → now ≡ spell_each spell_name ns rest → (more : List (List ℕ)) × (after ≡ spell_each spell_name more rest)
after_name [] now after rest at_end f g = let s = f.spelled in cc
after_name (n ∷ ns) now after rest at_end f g = (ns, f.only n (spell_each spell_name ns rest) tt g)

no_name_left : (ns : List (List ℕ)) (now rest : List Token) → IsAtEnd rest → ¬ (now ≡ []) → None spell_name EndsAnywhere now → now ≡ spell_each spell_name ns rest → ⊥
no_name_left [] now rest at_end some none g = some cc
no_name_left (n ∷ ns) now rest at_end some none g = none n (spell_each spell_name ns rest) tt g

pub no_names : (before : List Token) → NamesSoFar before [] before
no_names before = record { goes_on = λ ns rest g. (ns, g, refl); all = λ r rest ends g. (r, g) }

module _ {before : List Token} {names : List (List ℕ)} {now : List Token} (h : NamesSoFar before names now) where
  pub names_step : {name : List ℕ} {after : List Token} → Found spell_name (λ n. n) EndsAnywhere now name after → NamesSoFar before (names ++ name ∷ []) after
  names_step {name} {after} f = record {
    goes_on = λ ns rest g.
        let s = f.spelled in
        let x = f.tree_is in
        let w = h.goes_on (name ∷ ns) rest cc in
        (w.0, w.1, w.2 ∙ sym (append_assoc names (name ∷ []) ns));
    all = λ r rest ends g. let w = h.all r rest ends g in after_name w.0 now after rest ends f w.1;
  }

  pub names_done : now ≡ [] → Found (spell_each spell_name) (λ names. names) IsAtEnd before names now
  names_done e =
      let w = h.goes_on [] now refl in
      record { reading = w.0; spelled = w.1; tree_is = w.2 ∙ append-nil names; only = λ r rest ends g. e ∙ sym ends }

  pub names_stuck : ¬ (now ≡ []) → None spell_name EndsAnywhere now → None (spell_each spell_name) IsAtEnd before
  names_stuck some none r rest ends g = let w = h.all r rest ends g in no_name_left w.0 now rest ends some none w.1
