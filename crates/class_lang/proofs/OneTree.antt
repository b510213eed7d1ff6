-- No two readings with the same tokens stand for different trees.
use Rattle.std.proofs.{Common.{◌≡◌, ◌∙◌, ℕ, List, [], ◌∷◌, refl, sym, ap, map, Option, Some, None, option_map}, lemmas.List.{map-id}}
use Rattle.basic_types.specs.declared.word.Word.TheVariants as word
use Rattle.slot_lang.{specs.Grammar.{spell_block, spell_value}, proofs.Unique.{unique_block, one_value}}
use Rattle.token_reading.{specs.Lists.{spell_each}, specs.Literals.{spell_literal, tree_of_literal}, specs.code.Reading.{EndsAnywhere}, specs.Reading.{spell_name}, specs.Signatures.{spell_sig, tree_of_sig, spell_kind}, proofs.OneTree.{one_tree_of_optional_name, HasOneTree, one_tree_of_listed, one_tree_of_list_after, one_tree_of_type, one_tree_of_sig, one_tree_of_kind, one_tree_of_literal}, specs.Optional.{spell_optional, spell_optional_name}, specs.code.Optional.{EndsWithout}}
use Rattle.texts.specs.{declared.symbol.Symbol.TheVariants.{Semicolon, Arrow, Assign, Colon, OpenBrace}, declared.token.Token.{Token}}
use Rattle.texts.specs.declared.token.Token.TheVariants as token
use Rattle.class_lang.{specs.Parameters.{signal_parameter, spell_signal_parameter, tree_of_signal_parameter, slot_parameter, spell_slot_parameter, tree_of_slot_parameter}, specs.code.Members.{EndsSignalParameter}, specs.Members.{spell_notify, spell_initial, property, spell_property, tree_of_property, signal, spell_signal, tree_of_signal, slot, spell_slot, tree_of_slot, MemberReading, a_property, a_signal, a_slot, a_native, spell_member, tree_of_member}, specs.Natives.{spell_emits, spell_sets, effects, spell_effects, tree_of_effects, native, spell_native, tree_of_native}, specs.Sites.{formal, spell_formal, tree_of_formal, site, spell_site, tree_of_site}, specs.Declarations.{Ending, bare, semicolon, spell_ending, spell_members, class, spell_class, tree_of_class, class_of, end, spell_end, tree_of_end, wire, spell_wire, tree_of_wire, owns, spell_owns, tree_of_owns, DeclarationReading, a_class, a_wire, an_owns, a_site, spell_declaration, tree_of_declaration, tree_of_program, IsProgram}, specs.code.Declarations.{EndsDeclaration}, proofs.DeclarationLists.{ends_next}, proofs.Parts.{type_ends_at_name, type_ends_at_optional_name, signal_parameters_are_parts, slot_parameters_are_parts, formals_are_parts}, proofs.NativeParts.{reads_end, emits_end, sets_end}, proofs.Sequences.{initial_ends_at_notify}}
use Rattle.syntax_trees.specs.declared.program.Program.{Program}

-- ---- optional parts

module _ {R A : Type 0} (first : Token) (spell : R → List Token → List Token) (tree : R → A) (one : HasOneTree spell tree EndsAnywhere) where
  one_tree_of_optional : HasOneTree (spell_optional first spell) (option_map tree) (EndsWithout first)
  one_tree_of_optional None None r s er es e = (refl, e)
  one_tree_of_optional None (Some b) r s er es e = absurd (er (spell b s) e)
  one_tree_of_optional (Some a) None r s er es e = absurd (es (spell a r) (sym e))
  one_tree_of_optional (Some a) (Some b) r s er es e =
      let h : (tree a ≡ tree b) × (r ≡ s) = one a b r s tt tt cc in (ap Some h.0, h.1)

-- ---- parameters

one_tree_of_signal_parameter : HasOneTree spell_signal_parameter tree_of_signal_parameter EndsSignalParameter
one_tree_of_signal_parameter (signal_parameter a x) (signal_parameter b y) r s er es e =
    let h = one_tree_of_type a b (spell_optional_name x r) (spell_optional_name y s) (type_ends_at_optional_name x r er.no_type) (type_ends_at_optional_name y s es.no_type) e in
    let k : (x ≡ y) × (r ≡ s) = one_tree_of_optional_name x y r s er.no_name es.no_name h.1 in
    (cc, k.1)

one_tree_of_slot_parameter : HasOneTree spell_slot_parameter tree_of_slot_parameter EndsAnywhere
one_tree_of_slot_parameter (slot_parameter a x) (slot_parameter b y) r s er es e =
    let h = one_tree_of_type a b (token.Name x ∷ r) (token.Name y ∷ s) (type_ends_at_name x r) (type_ends_at_name y s) e in
    (cc, cc)

-- ---- members

one_tree_of_name : HasOneTree spell_name (λ name. name) EndsAnywhere
one_tree_of_name x y r s er es e = (cc, cc)

one_tree_of_property : HasOneTree spell_property tree_of_property EndsAnywhere
one_tree_of_property (property a x i m) (property b y j n) r s er es e =
    let last : List Token → List Token = λ after. token.Symbol Semicolon ∷ after in
    let h = one_tree_of_type a b (token.Name x ∷ spell_initial i (spell_notify m (last r))) (token.Name y ∷ spell_initial j (spell_notify n (last s))) (type_ends_at_name x (spell_initial i (spell_notify m (last r)))) (type_ends_at_name y (spell_initial j (spell_notify n (last s)))) e in
    let k : (option_map tree_of_literal i ≡ option_map tree_of_literal j) × (spell_notify m (last r) ≡ spell_notify n (last s)) = one_tree_of_optional (token.Symbol Assign) spell_literal tree_of_literal one_tree_of_literal i j (spell_notify m (last r)) (spell_notify n (last s)) (initial_ends_at_notify m r) (initial_ends_at_notify n s) cc in
    let l = one_tree_of_optional (token.Word word.Notify) spell_sig tree_of_sig one_tree_of_sig m n (last r) (last s) (λ after f. cc) (λ after f. cc) k.1 in
    (cc, cc)

one_tree_of_signal : HasOneTree spell_signal tree_of_signal EndsAnywhere
one_tree_of_signal (signal x ps) (signal y qs) r s er es e =
    let h : (map tree_of_signal_parameter ps ≡ map tree_of_signal_parameter qs) × (token.Symbol Semicolon ∷ r ≡ token.Symbol Semicolon ∷ s) = one_tree_of_listed spell_signal_parameter tree_of_signal_parameter EndsSignalParameter signal_parameters_are_parts one_tree_of_signal_parameter ps qs (token.Symbol Semicolon ∷ r) (token.Symbol Semicolon ∷ s) tt tt cc in (cc, cc)

one_tree_of_slot : HasOneTree spell_slot tree_of_slot EndsAnywhere
one_tree_of_slot (slot x ps b) (slot y qs d) r s er es e =
    let h : (map tree_of_slot_parameter ps ≡ map tree_of_slot_parameter qs) × (spell_block b r ≡ spell_block d s) = one_tree_of_listed spell_slot_parameter tree_of_slot_parameter EndsAnywhere slot_parameters_are_parts one_tree_of_slot_parameter ps qs (spell_block b r) (spell_block d s) tt tt cc in
    let k = unique_block b d r s h.1 in
    (cc, k.1)

same_names : (as_ bs : List (List ℕ)) → map (λ (n : List ℕ). n) as_ ≡ map (λ n. n) bs → as_ ≡ bs
same_names as_ bs e = sym (map-id as_) ∙ (e ∙ map-id bs)

one_tree_of_effects : HasOneTree spell_effects tree_of_effects EndsAnywhere
one_tree_of_effects (effects ps ss qs) (effects vs ts ws) r s er es e =
    let last : List Token → List Token = λ after. token.Symbol Semicolon ∷ after in
    let h = one_tree_of_list_after spell_name (λ n. n) EndsAnywhere (λ rest. tt) one_tree_of_name word.Reads ps vs (spell_emits ss (spell_sets qs (last r))) (spell_emits ts (spell_sets ws (last s))) (reads_end ss qs r) (reads_end ts ws s) e in
    let k = one_tree_of_list_after spell_sig tree_of_sig EndsAnywhere (λ rest. tt) one_tree_of_sig word.Emits ss ts (spell_sets qs (last r)) (spell_sets ws (last s)) (emits_end qs r) (emits_end ws s) h.1 in
    let l = one_tree_of_list_after spell_name (λ n. n) EndsAnywhere (λ rest. tt) one_tree_of_name word.Sets qs ws (last r) (last s) (sets_end r) (sets_end s) k.1 in
    let x = same_names ps vs h.0 in
    let y = same_names qs ws l.0 in
    (cc, cc)

one_tree_of_native : HasOneTree spell_native tree_of_native EndsAnywhere
one_tree_of_native (native x ps f) (native y qs g) r s er es e =
    let h : (map tree_of_signal_parameter ps ≡ map tree_of_signal_parameter qs) × (spell_effects f r ≡ spell_effects g s) = one_tree_of_listed spell_signal_parameter tree_of_signal_parameter EndsSignalParameter signal_parameters_are_parts one_tree_of_signal_parameter ps qs (spell_effects f r) (spell_effects g s) tt tt cc in
    let k : (tree_of_effects f ≡ tree_of_effects g) × (r ≡ s) = one_tree_of_effects f g r s tt tt h.1 in
    (cc, k.1)

one_tree_of_member : HasOneTree spell_member tree_of_member EndsAnywhere
one_tree_of_member (a_property p) (a_property q) r s er es e =
    let h : (tree_of_property p ≡ tree_of_property q) × (r ≡ s) = one_tree_of_property p q r s tt tt cc in (cc, h.1)
one_tree_of_member (a_signal p) (a_signal q) r s er es e =
    let h : (tree_of_signal p ≡ tree_of_signal q) × (r ≡ s) = one_tree_of_signal p q r s tt tt cc in (cc, h.1)
one_tree_of_member (a_slot p) (a_slot q) r s er es e =
    let h : (tree_of_slot p ≡ tree_of_slot q) × (r ≡ s) = one_tree_of_slot p q r s tt tt cc in (cc, h.1)
one_tree_of_member (a_native m) (a_native n) r s er es e =
    let h : (tree_of_native m ≡ tree_of_native n) × (r ≡ s) = one_tree_of_native m n r s tt tt cc in (cc, h.1)
one_tree_of_member _ _ r s er es e = cc

one_tree_of_members : HasOneTree spell_members (map tree_of_member) EndsAnywhere
one_tree_of_members [] [] r s er es e = (refl, cc)
one_tree_of_members [] (a_property q ∷ ms) r s er es e = cc
one_tree_of_members [] (a_signal q ∷ ms) r s er es e = cc
one_tree_of_members [] (a_slot q ∷ ms) r s er es e = cc
one_tree_of_members [] (a_native q ∷ ms) r s er es e = cc
one_tree_of_members (a_property p ∷ ms) [] r s er es e = cc
one_tree_of_members (a_signal p ∷ ms) [] r s er es e = cc
one_tree_of_members (a_slot p ∷ ms) [] r s er es e = cc
one_tree_of_members (a_native p ∷ ms) [] r s er es e = cc
one_tree_of_members (a ∷ as_) (b ∷ bs) r s er es e =
    let h = one_tree_of_member a b (spell_members as_ r) (spell_members bs s) tt tt e in
    let k = one_tree_of_members as_ bs r s tt tt h.1 in
    (cc, k.1)

-- ---- declarations

one_ending : (a b : Ending) (r s : List Token) → EndsDeclaration r → EndsDeclaration s → spell_ending a r ≡ spell_ending b s → r ≡ s
one_ending bare bare r s er es e = e
one_ending bare semicolon r s er es e = absurd (er s e)
one_ending semicolon bare r s er es e = absurd (es r (sym e))
one_ending semicolon semicolon r s er es e = cc

same_base : (a b : Option (List ℕ)) → option_map (λ (n : List ℕ). n) a ≡ option_map (λ n. n) b → a ≡ b
same_base None None e = refl
same_base None (Some y) e = cc
same_base (Some x) None e = cc
same_base (Some x) (Some y) e = e

same_class : (x y : List ℕ) (b c : Option (List ℕ)) (as_ bs : List MemberReading) → x ≡ y → b ≡ c → map tree_of_member as_ ≡ map tree_of_member bs → class_of x b as_ ≡ class_of y c bs
same_class x y b c as_ bs d e f = rw (d, e, f) refl

one_tree_of_class : HasOneTree spell_class tree_of_class EndsDeclaration
one_tree_of_class (class x b as_ i) (class y c bs j) r s er es e =
    let u = token.Symbol OpenBrace ∷ spell_members as_ (spell_ending i r) in
    let v = token.Symbol OpenBrace ∷ spell_members bs (spell_ending j s) in
    let h : (option_map (λ n. n) b ≡ option_map (λ n. n) c) × (u ≡ v) = one_tree_of_optional (token.Symbol Colon) spell_name (λ n. n) one_tree_of_name b c u v (λ after f. cc) (λ after f. cc) cc in
    let k = one_tree_of_members as_ bs (spell_ending i r) (spell_ending j s) tt tt cc in
    (same_class x y b c as_ bs (cc) (same_base b c h.0) k.0, one_ending i j r s er es k.1)

one_tree_of_end : HasOneTree spell_end tree_of_end EndsAnywhere
one_tree_of_end (end x a) (end y b) r s er es e =
    let h : (tree_of_sig a ≡ tree_of_sig b) × (r ≡ s) = one_tree_of_sig a b r s tt tt cc in (cc, h.1)

one_tree_of_wire : HasOneTree spell_wire tree_of_wire EndsAnywhere
one_tree_of_wire (wire a b i) (wire c d j) r s er es e =
    let u = spell_kind i (token.Symbol Semicolon ∷ r) in
    let v = spell_kind j (token.Symbol Semicolon ∷ s) in
    let h : (tree_of_end a ≡ tree_of_end c) × (token.Symbol Arrow ∷ spell_end b u ≡ token.Symbol Arrow ∷ spell_end d v) = one_tree_of_end a c (token.Symbol Arrow ∷ spell_end b u) (token.Symbol Arrow ∷ spell_end d v) tt tt e in
    let k : (tree_of_end b ≡ tree_of_end d) × (u ≡ v) = one_tree_of_end b d u v tt tt cc in
    let l = one_tree_of_kind i j (token.Symbol Semicolon ∷ r) (token.Symbol Semicolon ∷ s) tt tt k.1 in
    (cc, cc)

one_tree_of_owns : HasOneTree spell_owns tree_of_owns EndsAnywhere
one_tree_of_owns (owns x y) (owns v w) r s er es e = (cc, cc)

one_tree_of_formal : HasOneTree spell_formal tree_of_formal EndsAnywhere
one_tree_of_formal (formal c x) (formal d y) r s er es e = (cc, cc)

one_tree_of_site : HasOneTree spell_site tree_of_site EndsAnywhere
one_tree_of_site (site x c p fs a i) (site y d q gs b j) r s er es e =
    let h : (map tree_of_formal fs ≡ map tree_of_formal gs) × (spell_value a r ≡ spell_value b s) = one_tree_of_listed spell_formal tree_of_formal EndsAnywhere formals_are_parts one_tree_of_formal fs gs (spell_value a r) (spell_value b s) tt tt cc in
    let k = one_value a b r s h.1 in
    (cc, k.1)

one_tree_of_declaration : HasOneTree spell_declaration tree_of_declaration EndsDeclaration
one_tree_of_declaration (a_class c) (a_class d) r s er es e =
    let h : (tree_of_class c ≡ tree_of_class d) × (r ≡ s) = one_tree_of_class c d r s er es cc in (cc, h.1)
one_tree_of_declaration (a_wire v) (a_wire w) r s er es e =
    let h : (tree_of_wire v ≡ tree_of_wire w) × (r ≡ s) = one_tree_of_wire v w r s tt tt cc in (cc, h.1)
one_tree_of_declaration (an_owns v) (an_owns w) r s er es e =
    let h : (tree_of_owns v ≡ tree_of_owns w) × (r ≡ s) = one_tree_of_owns v w r s tt tt cc in (cc, h.1)
one_tree_of_declaration (a_site v) (a_site w) r s er es e =
    let h : (tree_of_site v ≡ tree_of_site w) × (r ≡ s) = one_tree_of_site v w r s tt tt cc in (cc, h.1)
one_tree_of_declaration _ _ r s er es e = cc

one_tree_of_declarations : (as_ bs : List DeclarationReading) → spell_each spell_declaration as_ [] ≡ spell_each spell_declaration bs [] → map tree_of_declaration as_ ≡ map tree_of_declaration bs
one_tree_of_declarations [] [] e = refl
one_tree_of_declarations [] (a_class d ∷ bs) e = cc
one_tree_of_declarations [] (a_wire w ∷ bs) e = cc
one_tree_of_declarations [] (an_owns o ∷ bs) e = cc
one_tree_of_declarations [] (a_site w ∷ bs) e = cc
one_tree_of_declarations (a_class c ∷ as_) [] e = cc
one_tree_of_declarations (a_wire v ∷ as_) [] e = cc
one_tree_of_declarations (an_owns o ∷ as_) [] e = cc
one_tree_of_declarations (a_site v ∷ as_) [] e = cc
one_tree_of_declarations (a ∷ as_) (b ∷ bs) e =
    let h = one_tree_of_declaration a b (spell_each spell_declaration as_ []) (spell_each spell_declaration bs []) (ends_next as_ [] refl) (ends_next bs [] refl) e in
    let k = one_tree_of_declarations as_ bs h.1 in
    cc

same_program : (as_ bs : List DeclarationReading) → map tree_of_declaration as_ ≡ map tree_of_declaration bs → tree_of_program as_ ≡ tree_of_program bs
same_program as_ bs e = rw e refl

pub one_program : (tokens : List Token) (p q : Program) → IsProgram tokens p → IsProgram tokens q → p ≡ q
one_program tokens p q h k =
    sym h.tree ∙ (same_program h.reading k.reading (one_tree_of_declarations h.reading k.reading (sym h.spelled ∙ k.spelled)) ∙ k.tree)
