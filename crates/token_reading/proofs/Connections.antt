-- The ends of connections, and their types.
use Rattle.std.proofs.Common.{◌≡◌, ◌∙◌, Bool, true, false, List, ◌∷◌, Option, Some, None, refl, sym, ap}
use Rattle.basic_types.specs.declared.kind.Kind.{Kind}
use Rattle.basic_types.specs.declared.sig.Sig.{Sig}
use Rattle.basic_types.specs.declared.word.Word.{Word}
use Rattle.basic_types.specs.declared.word.Word.TheVariants.{Unique, Single}
use Rattle.token_reading.specs.Connections.{spell_separator, spell_end, tree_of_end, spell_ends, tree_of_ends, endpoints_of, spell_flag, spell_connection_type}
use Rattle.token_reading.specs.code.Connections.{EndsAtSig, EndsConnectionType, NotAtFlag}
use Rattle.token_reading.specs.code.Reading.{EndsAnywhere, Found}
use Rattle.token_reading.specs.Signatures.{spell_sig, tree_of_sig}
use Rattle.syntax_trees.specs.declared.connection.ConnectionType.{ConnectionType}
use Rattle.texts.specs.declared.symbol.Symbol.{Symbol}
use Rattle.texts.specs.declared.token.Token.{Token}
use Rattle.texts.specs.declared.token.Token.TheVariants as token
use Rattle.token_reading.proofs.Both.{both_found, one_tree_of_both}
use Rattle.token_reading.proofs.OneTree.{HasOneTree, one_tree_of_sig, one_tree_of_kind}

-- ---- a rule behind a separator

same_rest : (separator : Option Symbol) (a b : List Token) → spell_separator separator a ≡ spell_separator separator b → a ≡ b
same_rest None a b e = e
same_rest (Some symbol) a b e = cc

module _ {R A : Type 0} (spell : R → List Token → List Token) (tree : R → A) (separator : Option Symbol) where
  abbrev pub spell_behind : R → List Token → List Token
  spell_behind r after = spell_separator separator (spell r after)

  found_behind : {before between after : List Token} {a : A} → before ≡ spell_separator separator between → Found spell tree EndsAnywhere between a after → Found spell_behind tree EndsAnywhere before a after
  found_behind {between = between} e f = record {
    reading = f.reading;
    spelled = e ∙ ap (spell_separator separator) f.spelled;
    tree_is = f.tree_is;
    only = λ r rest ends g. f.only r rest tt (same_rest separator between (spell r rest) (sym e ∙ g));
  }

  one_tree_behind : HasOneTree spell tree EndsAnywhere → HasOneTree spell_behind tree EndsAnywhere
  one_tree_behind one a b r s er es e = one a b r s er es (same_rest separator (spell a r) (spell b s) e)

-- ---- the ends

module _ {R O : Type 0} (spell : R → List Token → List Token) (tree : R → O) (Ends : List Token → Type 0) (separator : Option Symbol) where
  module _ (at_sig : EndsAtSig Ends separator) where
    pub end_found : {before between at_sig after : List Token} {object : O} {sig : Sig} → Found spell tree Ends before object between → between ≡ spell_separator separator at_sig → Found spell_sig tree_of_sig EndsAnywhere at_sig sig after → Found (spell_end spell separator) (tree_of_end tree) EndsAnywhere before (object, sig) after
    end_found f e h =
        both_found spell tree Ends (spell_behind spell_sig tree_of_sig separator) tree_of_sig EndsAnywhere (λ o s. (o, s)) (λ s rest ends. at_sig s rest) f (found_behind spell_sig tree_of_sig separator e h)

    one_tree_of_end : HasOneTree spell tree Ends → HasOneTree (spell_end spell separator) (tree_of_end tree) EndsAnywhere
    one_tree_of_end one =
        one_tree_of_both spell tree Ends (spell_behind spell_sig tree_of_sig separator) tree_of_sig EndsAnywhere (λ o s. (o, s)) (λ s rest ends. at_sig s rest) one (one_tree_behind spell_sig tree_of_sig separator one_tree_of_sig)

    pub one_tree_of_ends : HasOneTree spell tree Ends → HasOneTree (spell_ends spell separator) (tree_of_ends tree) EndsAnywhere
    one_tree_of_ends one =
        let end = one_tree_of_end one in
        one_tree_of_both (spell_end spell separator) (tree_of_end tree) EndsAnywhere (spell_behind (spell_end spell separator) (tree_of_end tree) separator) (tree_of_end tree) EndsAnywhere endpoints_of (λ s rest ends. tt) end (one_tree_behind (spell_end spell separator) (tree_of_end tree) separator end)

  pub ends_found : {before between at_end after : List Token} {from to : O × Sig} → Found (spell_end spell separator) (tree_of_end tree) EndsAnywhere before from between → between ≡ spell_separator separator at_end → Found (spell_end spell separator) (tree_of_end tree) EndsAnywhere at_end to after → Found (spell_ends spell separator) (tree_of_ends tree) EndsAnywhere before (endpoints_of from to) after
  ends_found f e h =
      both_found (spell_end spell separator) (tree_of_end tree) EndsAnywhere (spell_behind (spell_end spell separator) (tree_of_end tree) separator) (tree_of_end tree) EndsAnywhere endpoints_of (λ s rest ends. tt) f (found_behind (spell_end spell separator) (tree_of_end tree) separator e h)

-- ---- their types

one_flag : (separator : Option Symbol) (word : Word) (a b : Bool) (r s : List Token) → NotAtFlag separator word r → NotAtFlag separator word s → spell_flag separator word a r ≡ spell_flag separator word b s → (a ≡ b) × (r ≡ s)
one_flag separator word true true r s er es e = let same = same_rest separator (token.Word word ∷ r) (token.Word word ∷ s) e in (refl, cc)
one_flag separator word true false r s er es e = absurd (es r (sym e))
one_flag separator word false true r s er es e = absurd (er s e)
one_flag separator word false false r s er es e = (refl, e)

ends_at_single : (separator : Option Symbol) (single : Bool) (rest : List Token) → EndsConnectionType separator rest → NotAtFlag separator Unique (spell_flag separator Single single rest)
ends_at_single separator true rest ends after e =
    let same = same_rest separator (token.Word Single ∷ rest) (token.Word Unique ∷ after) e in cc
ends_at_single separator false rest ends after e = ends.not_unique after e

pub one_tree_of_connection_type : (separator : Option Symbol) → HasOneTree (spell_connection_type separator) (λ how. how) (EndsConnectionType separator)
one_tree_of_connection_type separator a b r s er es e =
    let a_single : List Token = spell_flag separator Single a.single r in
    let b_single : List Token = spell_flag separator Single b.single s in
    let k = one_tree_of_kind a.kind b.kind (spell_flag separator Unique a.unique a_single) (spell_flag separator Unique b.unique b_single) tt tt e in
    let u = one_flag separator Unique a.unique b.unique a_single b_single (ends_at_single separator a.single r er) (ends_at_single separator b.single s es) k.1 in
    let t = one_flag separator Single a.single b.single r s er.not_single es.not_single u.1 in
    let of = λ (kind : Kind) (unique single : Bool). let t : ConnectionType = record { kind = kind; unique = unique; single = single } in t in
    (ap (λ k. of k a.unique a.single) k.0 ∙ (ap (λ u. of b.kind u a.single) u.0 ∙ ap (of b.kind b.unique) t.0), t.1)
