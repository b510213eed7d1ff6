-- No two readings with the same tokens stand for different events.
use Rattle.std.proofs.Common.{◌≡◌, ℕ, true, false, List, [], ◌∷◌, map, Option, Some, None, cond, nat_eq, sum, refl, sym, ◌∙◌, ap, subst}
use Rattle.basic_types.specs.Words.{word_spelling}
use Rattle.token_reading.{specs.Connections.{spell_connection_type}, specs.code.Connections.{EndsConnectionType}, specs.Literals.{UnsignedReading, plain, truth, quoted, null, token_of_unsigned, LiteralReading, unsigned, negative, spell_literal}, specs.code.Optional.{EndsWithoutName}, specs.code.Reading.{EndsAnywhere, IsAtEnd}, specs.Reading.{spell_name}, specs.code.Lists.{IsPart}, specs.Lists.{spell_each}, proofs.Both.{one_tree_of_both}, proofs.Connections.{one_tree_of_ends, one_tree_of_connection_type}, proofs.OneTree.{HasOneTree, one_tree_of_listed, one_tree_of_literal, one_tree_of_optional_name}}
use Rattle.texts.specs.{declared.symbol.Symbol.TheVariants.{Close}, declared.token.Token.{Token}}
use Rattle.texts.specs.declared.token.Token.TheVariants as token
use Rattle.script_lang.specs.declared.event.Event.TheVariants as tree
use Rattle.script_lang.specs.declared.event.Input.TheVariants as input
use Rattle.script_lang.specs.{declared.verb.Verb.{Verb}, Grammar.{InputReading, literal, named, spell_input, tree_of_input, verb_token, spell_invocation, spell_new, tree_of_new, spell_name_ends, tree_of_name_ends, spell_connect, tree_of_connect, tree_of_disconnect, spell_assignment, tree_of_assignment, spell_bind, tree_of_bind, Follow, spell_follow, tree_of_follow, Reading, spell_event, tree_of_event}, code.Grammar.{tree_of_invocation}}
use Rattle.script_lang.specs.declared.verb.Verb.TheVariants as verb

-- ---- values

no_close : (u : UnsignedReading) → token_of_unsigned u ≡ token.Symbol Close → ⊥
no_close (plain n) e = cc
no_close (truth true) e = cc
no_close (truth false) e = cc
no_close (quoted q) e = cc
no_close null e = cc

no_name : (u : UnsignedReading) (name : List ℕ) → token_of_unsigned u ≡ token.Name name → ⊥
no_name (plain n) name e = cc
no_name (truth true) name e = cc
no_name (truth false) name e = cc
no_name (quoted q) name e = cc
no_name null name e = cc

-- a literal begins with no name
pub literal_unnamed : (l : LiteralReading) (name : List ℕ) (rest after : List Token) → spell_literal l rest ≡ token.Name name ∷ after → ⊥
literal_unnamed (unsigned u) name rest after e = no_name u name cc
literal_unnamed (negative n) name rest after e = cc

input_unclosed : (r : InputReading) (rest after : List Token) → spell_input r rest ≡ token.Symbol Close ∷ after → ⊥
input_unclosed (literal (unsigned u)) rest after e = no_close u cc
input_unclosed (literal (negative n)) rest after e = cc
input_unclosed (named name) rest after e = cc

pub inputs_are_parts : IsPart spell_input EndsAnywhere
inputs_are_parts = record { at_comma = λ rest. tt; at_close = λ rest. tt; unclosed = input_unclosed }

one_tree_of_input : HasOneTree spell_input tree_of_input EndsAnywhere
one_tree_of_input (literal a) (literal b) r s er es e =
    let h = one_tree_of_literal a b r s er es e in
    (ap input.Literal h.0, h.1)
one_tree_of_input (literal a) (named y) r s er es e = absurd (literal_unnamed a y r s e)
one_tree_of_input (named x) (literal b) r s er es e = absurd (literal_unnamed b x s r (sym e))
one_tree_of_input (named x) (named y) r s er es e = (cc, cc)

-- ---- where an event ends

pub no_name_at_end : (rest : List Token) → IsAtEnd rest → EndsWithoutName rest
no_name_at_end rest end name after e = cc

pub how_at_end : (rest : List Token) → IsAtEnd rest → EndsConnectionType None rest
how_at_end rest end = record { not_unique = λ after e. cc; not_single = λ after e. cc }

-- ---- verbs

-- the letters of a verb; 2 stands before those of a reserved word, as `adopt` and `later` have the same sum, and `bind`
-- has one more than `call`
abbrev letters_of : Token → List ℕ
letters_of (token.Name letters) = letters
letters_of (token.Word w) = 2 ∷ word_spelling w
letters_of _ = []

abbrev verbs : List Verb
verbs =
    verb.Loop ∷ verb.Turn ∷ verb.New ∷ verb.Adopt ∷ verb.Move ∷ verb.Connect ∷ verb.Disconnect ∷ verb.Set ∷ verb.Emit ∷ verb.Call ∷ verb.Bind ∷ verb.Block ∷ verb.Unblock ∷ verb.Delete ∷ verb.Later ∷ []

-- the verb whose letters have this sum
abbrev verb_with : ℕ → List Verb → Option Verb
verb_with n [] = None
verb_with n (v ∷ more) = cond (nat_eq n (sum (letters_of (verb_token v)))) (Some v) (verb_with n more)

-- the sums of the verbs' letters differ
found_again : (v : Verb) → verb_with (sum (letters_of (verb_token v))) verbs ≡ Some v
found_again verb.Loop = refl
found_again _ = refl

pub one_verb : (v w : Verb) → verb_token v ≡ verb_token w → v ≡ w
one_verb v w e =
    let same = ap (λ t. verb_with (sum (letters_of t)) verbs) e in
    let p = found_again v in
    let q = found_again w in
    cc

-- ---- what follows a verb

one_tree_of_new : HasOneTree spell_new tree_of_new IsAtEnd
one_tree_of_new a b r s er es e =
    let h : (a.home ≡ b.home) × (r ≡ s) = one_tree_of_optional_name a.home b.home r s (no_name_at_end r er) (no_name_at_end s es) cc in
    (cc, h.1)

one_tree_of_name : HasOneTree spell_name (λ name. name) EndsAnywhere
one_tree_of_name a b r s er es e = (cc, cc)

one_tree_of_name_ends : HasOneTree spell_name_ends tree_of_name_ends EndsAnywhere
one_tree_of_name_ends = one_tree_of_ends spell_name (λ name. name) EndsAnywhere None (λ s rest. tt) one_tree_of_name

one_tree_of_connect : HasOneTree spell_connect tree_of_connect IsAtEnd
one_tree_of_connect a b r s er es e =
    one_tree_of_both spell_name_ends tree_of_name_ends EndsAnywhere (spell_connection_type None) (λ how. how) (EndsConnectionType None) (λ ends how. tree.Connect ends how) (λ how rest ends. tt) one_tree_of_name_ends (one_tree_of_connection_type None) a b r s (how_at_end r er) (how_at_end s es) e

one_tree_of_disconnect : HasOneTree spell_name_ends tree_of_disconnect IsAtEnd
one_tree_of_disconnect a b r s er es e =
    let h = one_tree_of_name_ends a b r s tt tt e in
    (ap (λ ends. tree.Disconnect ends) h.0, h.1)

one_tree_of_assignment : HasOneTree spell_assignment tree_of_assignment IsAtEnd
one_tree_of_assignment a b r s er es e =
    let h : (tree_of_input a.value ≡ tree_of_input b.value) × (r ≡ s) = one_tree_of_input a.value b.value r s tt tt cc in
    (cc, h.1)

one_tree_of_invocation : HasOneTree spell_invocation tree_of_invocation IsAtEnd
one_tree_of_invocation a b r s er es e =
    let h : (map tree_of_input a.arguments ≡ map tree_of_input b.arguments) × (r ≡ s) = one_tree_of_listed spell_input tree_of_input EndsAnywhere inputs_are_parts one_tree_of_input a.arguments b.arguments r s tt tt cc in
    (cc, h.1)

-- names up to the end
one_tree_of_names : HasOneTree (spell_each spell_name) (λ names. names) IsAtEnd
one_tree_of_names [] [] r s er es e = (refl, e)
one_tree_of_names [] (y ∷ ys) r s er es e = cc
one_tree_of_names (x ∷ xs) [] r s er es e = cc
one_tree_of_names (x ∷ xs) (y ∷ ys) r s er es e = let h : (xs ≡ ys) × (r ≡ s) = one_tree_of_names xs ys r s er es cc in (cc, h.1)

one_tree_of_bind : HasOneTree spell_bind tree_of_bind IsAtEnd
one_tree_of_bind a b r s er es e =
    let h : (a.sources ≡ b.sources) × (r ≡ s) = one_tree_of_names a.sources b.sources r s er es cc in
    (cc, h.1)

one_tree_of_follow : (v : Verb) → HasOneTree (spell_follow v) (tree_of_follow v) IsAtEnd
one_tree_of_follow verb.Loop a b r s er es e = (cc, cc)
one_tree_of_follow verb.Turn a b r s er es e = (cc, cc)
one_tree_of_follow verb.New a b r s er es e = one_tree_of_new a b r s er es e
one_tree_of_follow verb.Adopt a b r s er es e = (cc, cc)
one_tree_of_follow verb.Move a b r s er es e = (cc, cc)
one_tree_of_follow verb.Connect a b r s er es e = one_tree_of_connect a b r s er es e
one_tree_of_follow verb.Disconnect a b r s er es e = one_tree_of_disconnect a b r s er es e
one_tree_of_follow verb.Set a b r s er es e = one_tree_of_assignment a b r s er es e
one_tree_of_follow verb.Emit a b r s er es e =
    let h = one_tree_of_invocation a b r s er es e in
    (ap (λ i. tree.Emit i.0 i.1 i.2) h.0, h.1)
one_tree_of_follow verb.Call a b r s er es e =
    let h = one_tree_of_invocation a b r s er es e in
    (ap (λ i. tree.Call i.0 i.1 i.2) h.0, h.1)
one_tree_of_follow verb.Bind a b r s er es e = one_tree_of_bind a b r s er es e
one_tree_of_follow verb.Block a b r s er es e = (cc, cc)
one_tree_of_follow verb.Unblock a b r s er es e = (cc, cc)
one_tree_of_follow verb.Delete a b r s er es e = (cc, cc)
one_tree_of_follow verb.Later a b r s er es e = (cc, cc)

-- ---- events

same_verb : (v w : Verb) → v ≡ w → (a : Follow v) (b : Follow w) (r s : List Token) → IsAtEnd r → IsAtEnd s → spell_follow v a r ≡ spell_follow w b s → (tree_of_follow v a ≡ tree_of_follow w b) × (r ≡ s)
same_verb v w same =
    subst (λ (u : Verb). (a : Follow v) (b : Follow u) (r s : List Token) → IsAtEnd r → IsAtEnd s → spell_follow v a r ≡ spell_follow u b s → (tree_of_follow v a ≡ tree_of_follow u b) × (r ≡ s)) same (one_tree_of_follow v)

one_tree_of_event : HasOneTree spell_event tree_of_event IsAtEnd
one_tree_of_event a b r s er es e = same_verb a.verb b.verb (one_verb a.verb b.verb cc) a.follow b.follow r s er es cc

pub one_event : (tokens : List Token) (a b : Reading) → tokens ≡ spell_event a [] → tokens ≡ spell_event b [] → tree_of_event a ≡ tree_of_event b
one_event tokens a b h k = let same = one_tree_of_event a b [] [] refl refl (sym h ∙ k) in same.0
