-- No two readings with the same tokens stand for different trees: lists, types, signatures, kinds and literals.
use Rattle.std.proofs.Common.{◌≡◌, ℕ, List, [], ◌∷◌, true, false, Some, None, pos, ◌-ℤ◌, map, refl, sym, ap}
use Rattle.basic_types.specs.{declared.kind.Kind.TheVariants.{Auto, Direct, Queued}, declared.normal.ConstPlace.{ConstPlace}, declared.normal.ConstPlace.TheVariants.{Nowhere, Before, After}, declared.normal.TypeEnding.{TypeEnding}, declared.normal.TypeEnding.TheVariants.{Bare, Reference, Pointer}, declared.word.Word.{Word}}
use Rattle.syntax_trees.specs.declared.syntax.Literal.TheVariants as literal
use Rattle.token_reading.{specs.code.Lists.{IsPart, EndsAtComma, EndsParts, EndsAfter}, specs.Lists.{spell_further, spell_parts, trees_of_parts, spell_after, spell_others, spell_listed}, specs.Literals.{UnsignedReading, plain, truth, quoted, null, token_of_unsigned, tree_of_unsigned, unsigned, negative, spell_literal, tree_of_literal}, specs.Optional.{spell_optional_name}, specs.code.Optional.{EndsWithoutName}, specs.code.Reading.{EndsAnywhere}, specs.Signatures.{spelled_type, spell_ending, spell_type, tree_of_type, sig, spell_sig, tree_of_sig, spell_kind}, specs.code.Signatures.{Named, spell_place, EndsNamed, EndsType}, proofs.Listed.{ends_further, ends_at_close}, proofs.Literals.{no_symbol}, proofs.Signatures.{types_are_parts, ends_at_ending}}
use Rattle.texts.specs.{Numerals.{value_of}, declared.symbol.Symbol.TheVariants.{Close, Minus}, declared.token.Token.{Token}}
use Rattle.texts.specs.declared.token.Token.TheVariants as token

-- the tokens up to where the rule may end settle its tree, and where it ends
abbrev pub HasOneTree : {R A : Type 0} → (R → List Token → List Token) → (R → A) → (List Token → Type 0) → Type 0
HasOneTree {R} spell tree Ends = (a b : R) (r s : List Token) → Ends r → Ends s → spell a r ≡ spell b s → (tree a ≡ tree b) × (r ≡ s)

-- ---- lists

module _ {R A : Type 0} (spell : R → List Token → List Token) (tree : R → A) (Ends : List Token → Type 0) (at_comma : EndsAtComma Ends) (one : HasOneTree spell tree Ends) where
  one_tree_of_further : HasOneTree (spell_further spell) (map tree) (EndsParts Ends)
  one_tree_of_further [] [] r s er es e = (refl, e)
  one_tree_of_further [] (b ∷ bs) r s er es e = absurd (er.no_comma (spell b (spell_further spell bs s)) e)
  one_tree_of_further (a ∷ as_) [] r s er es e = absurd (es.no_comma (spell a (spell_further spell as_ r)) (sym e))
  one_tree_of_further (a ∷ as_) (b ∷ bs) r s er es e =
      let h : (tree a ≡ tree b) × (spell_further spell as_ r ≡ spell_further spell bs s) = one a b (spell_further spell as_ r) (spell_further spell bs s) (ends_further spell tree Ends at_comma as_ r er) (ends_further spell tree Ends at_comma bs s es) cc in
      let k = one_tree_of_further as_ bs r s er es h.1 in
      (cc, k.1)

  one_tree_of_parts : HasOneTree (spell_parts spell) (trees_of_parts tree) (EndsParts Ends)
  one_tree_of_parts (a, as_) (b, bs) r s er es e =
      let h : (tree a ≡ tree b) × (spell_further spell as_ r ≡ spell_further spell bs s) = one a b (spell_further spell as_ r) (spell_further spell bs s) (ends_further spell tree Ends at_comma as_ r er) (ends_further spell tree Ends at_comma bs s es) e in
      let k = one_tree_of_further as_ bs r s er es h.1 in
      (cc, k.1)

  pub one_tree_of_list_after : (word : Word) → HasOneTree (spell_after word spell) (map tree) (EndsAfter word Ends)
  one_tree_of_list_after word [] [] r s er es e = (refl, e)
  one_tree_of_list_after word [] (b ∷ bs) r s er es e = absurd (er.no_word (spell_parts spell (b, bs) s) e)
  one_tree_of_list_after word (a ∷ as_) [] r s er es e = absurd (es.no_word (spell_parts spell (a, as_) r) (sym e))
  one_tree_of_list_after word (a ∷ as_) (b ∷ bs) r s er es e = one_tree_of_parts (a, as_) (b, bs) r s er.parts es.parts cc

module _ {R A : Type 0} (spell : R → List Token → List Token) (tree : R → A) (Ends : List Token → Type 0) (part : IsPart spell Ends) (one : HasOneTree spell tree Ends) where
  pub one_tree_of_listed : HasOneTree (spell_listed spell) (map tree) EndsAnywhere
  one_tree_of_listed [] [] r s er es e = (refl, cc)
  one_tree_of_listed [] (b ∷ bs) r s er es e = absurd (part.unclosed b (spell_others spell bs s) r cc)
  one_tree_of_listed (a ∷ as_) [] r s er es e = absurd (part.unclosed a (spell_others spell as_ r) s cc)
  one_tree_of_listed (a ∷ as_) (b ∷ bs) r s er es e =
      let h : (trees_of_parts tree (a, as_) ≡ trees_of_parts tree (b, bs)) × (token.Symbol Close ∷ r ≡ token.Symbol Close ∷ s) = one_tree_of_parts spell tree Ends part.at_comma one (a, as_) (b, bs) (token.Symbol Close ∷ r) (token.Symbol Close ∷ s) (ends_at_close spell tree Ends part r) (ends_at_close spell tree Ends part s) cc in
      (h.0, cc)

-- ---- a name that may be missing

pub one_tree_of_optional_name : HasOneTree spell_optional_name (λ name. name) EndsWithoutName
one_tree_of_optional_name None None r s er es e = (refl, e)
one_tree_of_optional_name None (Some y) r s er es e = absurd (er y s e)
one_tree_of_optional_name (Some x) None r s er es e = absurd (es x r (sym e))
one_tree_of_optional_name (Some x) (Some y) r s er es e = (cc, cc)

-- ---- types, signatures and kinds

one_place : (a b : Named) (r s : List Token) → EndsNamed r → EndsNamed s → spell_place a r ≡ spell_place b s → (a ≡ b) × (r ≡ s)
one_place (Nowhere, x) (Nowhere, y) r s er es e = (cc, cc)
one_place (Before, x) (Before, y) r s er es e = (cc, cc)
one_place (After, x) (After, y) r s er es e = (cc, cc)
one_place (Nowhere, x) (After, y) r s er es e = absurd (er s cc)
one_place (After, x) (Nowhere, y) r s er es e = absurd (es r cc)
one_place (Nowhere, x) (Before, y) r s er es e = cc
one_place (Before, x) (Nowhere, y) r s er es e = cc
one_place (After, x) (Before, y) r s er es e = cc
one_place (Before, x) (After, y) r s er es e = cc

one_ending : (a b : TypeEnding) (r s : List Token) → EndsType r → EndsType s → spell_ending a r ≡ spell_ending b s → (a ≡ b) × (r ≡ s)
one_ending Bare Bare r s er es e = (refl, e)
one_ending Reference Reference r s er es e = (refl, cc)
one_ending Pointer Pointer r s er es e = (refl, cc)
one_ending Bare Reference r s er es e = absurd (er.no_reference s e)
one_ending Bare Pointer r s er es e = absurd (er.no_pointer s e)
one_ending Reference Bare r s er es e = absurd (es.no_reference r (sym e))
one_ending Pointer Bare r s er es e = absurd (es.no_pointer r (sym e))
one_ending Reference Pointer r s er es e = cc
one_ending Pointer Reference r s er es e = cc

same_parts : {p q : ConstPlace} {x y : List ℕ} {a b : TypeEnding} → p ≡ q → x ≡ y → a ≡ b → spelled_type p x a ≡ spelled_type q y b
same_parts e f g = cc

pub one_tree_of_type : HasOneTree spell_type tree_of_type EndsType
one_tree_of_type (spelled_type p x a) (spelled_type q y b) r s er es e =
    let h : ((p, x) ≡ (q, y)) × (spell_ending a r ≡ spell_ending b s) = one_place (p, x) (q, y) (spell_ending a r) (spell_ending b s) (ends_at_ending a r er) (ends_at_ending b s es) e in
    let k = one_ending a b r s er es h.1 in
    let same = h.0 in
    let places : p ≡ q = ap (λ n. n.0) same in
    let names : x ≡ y = ap (λ n. n.1) same in
    (ap tree_of_type (same_parts places names k.0), k.1)

pub one_tree_of_sig : HasOneTree spell_sig tree_of_sig EndsAnywhere
one_tree_of_sig (sig x ts) (sig y us) r s er es e =
    let h : (map tree_of_type ts ≡ map tree_of_type us) × (r ≡ s) = one_tree_of_listed spell_type tree_of_type EndsType types_are_parts one_tree_of_type ts us r s tt tt cc in (cc, h.1)

pub one_tree_of_kind : HasOneTree spell_kind (λ kind. kind) EndsAnywhere
one_tree_of_kind Auto Auto r s er es e = (refl, cc)
one_tree_of_kind Direct Direct r s er es e = (refl, cc)
one_tree_of_kind Queued Queued r s er es e = (refl, cc)
one_tree_of_kind _ _ r s er es e = cc

-- ---- literals

pub one_unsigned : (a b : UnsignedReading) → token_of_unsigned a ≡ token_of_unsigned b → tree_of_unsigned a ≡ tree_of_unsigned b
one_unsigned (plain m) (plain n) e = let h : m.digits ≡ n.digits = cc in ap (λ ds. literal.Int (pos (value_of ds))) h
one_unsigned (truth true) (truth true) e = refl
one_unsigned (truth false) (truth false) e = refl
one_unsigned (quoted p) (quoted q) e = let h : p.bytes ≡ q.bytes = cc in ap (λ bytes. literal.Text bytes) h
one_unsigned null null e = refl
one_unsigned (plain m) (truth true) e = cc
one_unsigned (plain m) (truth false) e = cc
one_unsigned (quoted p) (truth true) e = cc
one_unsigned (quoted p) (truth false) e = cc
one_unsigned null (truth true) e = cc
one_unsigned null (truth false) e = cc
one_unsigned (truth true) (truth false) e = cc
one_unsigned (truth false) (truth true) e = cc
one_unsigned (truth true) _ e = cc
one_unsigned (truth false) _ e = cc
one_unsigned _ _ e = cc

pub one_tree_of_literal : HasOneTree spell_literal tree_of_literal EndsAnywhere
one_tree_of_literal (unsigned a) (unsigned b) r s er es e = (one_unsigned a b cc, cc)
one_tree_of_literal (negative m) (negative n) r s er es e =
    let h : m.digits ≡ n.digits = cc in (ap (λ ds. literal.Int (pos 0 -ℤ pos (value_of ds))) h, cc)
one_tree_of_literal (unsigned a) (negative n) r s er es e = absurd (no_symbol a Minus cc)
one_tree_of_literal (negative m) (unsigned b) r s er es e = absurd (no_symbol b Minus cc)
