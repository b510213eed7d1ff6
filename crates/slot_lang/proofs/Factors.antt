-- Factors.
use Rattle.std.proofs.Common.{◌≡◌, ◌∙◌, ℕ, List, [], ◌∷◌, Result, Ok, Err, MatchResult, true, false, refl, sym, ap}
use Rattle.basic_types.specs.declared.word.Word.TheVariants as word
use Rattle.token_reading.{specs.code.Cursor.{NotAt, NotAtWord}, specs.Literals.{UnsignedReading, plain, truth, quoted, null, token_of_unsigned}, specs.code.Literals.{IsUnsigned}, specs.code.Reading.{EndsAnywhere, Found, Reads}, specs.declared.fault.ParseFault.{ParseFault}, specs.declared.fault.ParseFault.TheVariants.{Syntax}, proofs.Literals.{no_symbol}, proofs.Underway.{None}}
use Rattle.slot_lang.{specs.Expressions.{Expression, Factor, prefixed, literal, path, grouped, spell_expression, spell_factor, spell_group, spell_names, spell_root, tree_of_expression, tree_of_factor}, specs.code.Expressions.{EndsExpression, EndsFactor}, specs.Precedence.{prefix_symbol_of}, proofs.Paths.{root_no_symbol, same_root}, proofs.Precedences.{expression_ends}}
use Rattle.syntax_trees.specs.{Literals.{literal_value}, declared.syntax.Expr.{Expr}, declared.syntax.Path.{Path}, declared.syntax.Root.{Root}, declared.syntax.Unary.{Unary}, declared.syntax.Literal.{Literal}}
use Rattle.texts.specs.{declared.symbol.Symbol.{Symbol}, declared.symbol.Symbol.TheVariants.{Not, Minus, Open, Close}, declared.token.Token.{Token}}
use Rattle.syntax_trees.specs.declared.syntax.Expr.TheVariants as tree
use Rattle.syntax_trees.specs.declared.syntax.Root.TheVariants as root
use Rattle.syntax_trees.specs.declared.syntax.Unary.TheVariants as unary
use Rattle.texts.specs.declared.token.Token.TheVariants as token

-- ---- what other tokens than a factor's first one begin no such factor

pub prefix_not_open : (u : Unary) → prefix_symbol_of u ≡ Open → ⊥
prefix_not_open unary.Not e = cc
prefix_not_open unary.Minus e = cc

pub one_prefix : (u v : Unary) → prefix_symbol_of u ≡ prefix_symbol_of v → u ≡ v
one_prefix unary.Not unary.Not e = refl
one_prefix unary.Minus unary.Minus e = refl
one_prefix unary.Not unary.Minus e = cc
one_prefix unary.Minus unary.Not e = cc

pub unsigned_no_name : (u : UnsignedReading) (name : List ℕ) → token_of_unsigned u ≡ token.Name name → ⊥
unsigned_no_name (plain n) name e = cc
unsigned_no_name (truth true) name e = cc
unsigned_no_name (truth false) name e = cc
unsigned_no_name (quoted q) name e = cc
unsigned_no_name null name e = cc

pub unsigned_no_this : (u : UnsignedReading) → token_of_unsigned u ≡ token.Word word.This → ⊥
unsigned_no_this (plain n) e = cc
unsigned_no_this (truth true) e = cc
unsigned_no_this (truth false) e = cc
unsigned_no_this (quoted q) e = cc
unsigned_no_this null e = cc

-- no root is an unsigned literal
pub root_no_unsigned : (r : Root) (u : UnsignedReading) (after rest : List Token) → spell_root r after ≡ token_of_unsigned u ∷ rest → ⊥
root_no_unsigned root.This u after rest e = unsigned_no_this u cc
root_no_unsigned (root.Name x) u after rest e = unsigned_no_name u x cc

-- ---- a factor by its first token

after_prefix : (f : Factor) (u : Unary) (between rest : List Token) → token.Symbol (prefix_symbol_of u) ∷ between ≡ spell_factor f rest → (d : Factor) × (between ≡ spell_factor d rest)
after_prefix (prefixed v d) u between rest g = (d, cc)
after_prefix (literal l) u between rest g = absurd (no_symbol l (prefix_symbol_of u) cc)
after_prefix (path p) u between rest g = absurd (root_no_symbol p.root (prefix_symbol_of u) (spell_names p.properties rest) between (sym g))
after_prefix (grouped e) u between rest g = absurd (prefix_not_open u cc)

after_open : (f : Factor) (between rest : List Token) → token.Symbol Open ∷ between ≡ spell_factor f rest → (e : Expression) × (between ≡ spell_group e rest)
after_open (prefixed v d) between rest g = absurd (prefix_not_open v cc)
after_open (literal l) between rest g = absurd (no_symbol l Open cc)
after_open (path p) between rest g = absurd (root_no_symbol p.root Open (spell_names p.properties rest) between (sym g))
after_open (grouped e) between rest g = (e, cc)

after_root : (f : Factor) (r : Root) (between rest : List Token) → spell_root r between ≡ spell_factor f rest → (names : List (List ℕ)) × (between ≡ spell_names names rest)
after_root (prefixed v d) r between rest g = absurd (root_no_symbol r (prefix_symbol_of v) between (spell_factor d rest) g)
after_root (literal l) r between rest g = absurd (root_no_unsigned r l between rest g)
after_root (path p) r between rest g = (p.properties, same_root p.root r between (spell_names p.properties rest) g)
after_root (grouped e) r between rest g = absurd (root_no_symbol r Open between (spell_group e rest) g)

after_unsigned : (f : Factor) (u : UnsignedReading) (after rest : List Token) → token_of_unsigned u ∷ after ≡ spell_factor f rest → after ≡ rest
after_unsigned (prefixed v d) u after rest g = absurd (no_symbol u (prefix_symbol_of v) cc)
after_unsigned (literal l) u after rest g = cc
after_unsigned (path p) u after rest g = absurd (root_no_unsigned p.root u (spell_names p.properties rest) after (sym g))
after_unsigned (grouped e) u after rest g = absurd (no_symbol u Open cc)

pub prefix_reads : {before between : List Token} (u : Unary) (after : List Token) (result : Result (Expr Path) ParseFault) → before ≡ token.Symbol (prefix_symbol_of u) ∷ between → Reads spell_factor (λ f. tree.Unary u (tree_of_factor f)) EndsFactor between result after → Reads spell_factor tree_of_factor EndsFactor before result after
prefix_reads {before} {between} u after (Ok e) at h = let s = h.spelled in record {
  reading = prefixed u h.reading;
  spelled = cc;
  tree_is = h.tree_is;
  only = λ r rest ends g. let w = after_prefix r u between rest (sym at ∙ g) in h.only w.0 rest ends w.1;
}
prefix_reads {before} {between} u after (Err e) at h = λ q r rest ends g. let w = after_prefix r u between rest (sym at ∙ g) in h q w.0 rest ends w.1

pub group_reads : {before between : List Token} (after : List Token) (result : Result (Expr Path) ParseFault) → before ≡ token.Symbol Open ∷ between → Reads spell_group tree_of_expression EndsAnywhere between result after → Reads spell_factor tree_of_factor EndsFactor before result after
group_reads {before} {between} after (Ok e) at h = let s = h.spelled in record {
  reading = grouped h.reading;
  spelled = cc;
  tree_is = h.tree_is;
  only = λ r rest ends g. let w = after_open r between rest (sym at ∙ g) in h.only w.0 rest tt w.1;
}
group_reads {before} {between} after (Err e) at h = λ q r rest ends g. let w = after_open r between rest (sym at ∙ g) in h q w.0 rest tt w.1

pub path_reads : {before : List Token} (r : Root) (between after : List Token) (result : Result (Expr Path) ParseFault) → before ≡ spell_root r between → Reads spell_names (λ names. tree.Path (record { root = r; properties = names })) EndsFactor between result after → Reads spell_factor tree_of_factor EndsFactor before result after
path_reads {before} r between after (Ok e) at h = record {
  reading = path (record { root = r; properties = h.reading });
  spelled = at ∙ ap (spell_root r) h.spelled;
  tree_is = h.tree_is;
  only = λ f rest ends g. let w = after_root f r between rest (sym at ∙ g) in h.only w.0 rest ends w.1;
}
path_reads {before} r between after (Err e) at h = λ q f rest ends g. let w = after_root f r between rest (sym at ∙ g) in h q w.0 rest ends w.1

pub literal_found : {before after : List Token} {l : Literal} (t : Token) → before ≡ t ∷ after → IsUnsigned t l → Found spell_factor tree_of_factor EndsFactor before (tree.Literal (literal_value l)) after
literal_found {before} {after} {l} t at h =
    let is = h.is in
    record {
      reading = literal h.reading;
      spelled = cc;
      tree_is = ap (λ x. tree.Literal (literal_value x)) h.tree;
      only = λ r rest ends g. after_unsigned r h.reading after rest cc;
    }

-- a symbol that begins no factor
pub no_factor_at_symbol : {before between : List Token} (s : Symbol) → before ≡ token.Symbol s ∷ between → (s ≡ Not → ⊥) → (s ≡ Minus → ⊥) → (s ≡ Open → ⊥) → None spell_factor EndsFactor before
no_factor_at_symbol {before} {between} s at n m o (prefixed unary.Not d) rest ends g = n cc
no_factor_at_symbol {before} {between} s at n m o (prefixed unary.Minus d) rest ends g = m cc
no_factor_at_symbol {before} {between} s at n m o (literal l) rest ends g = no_symbol l s cc
no_factor_at_symbol {before} {between} s at n m o (path p) rest ends g = root_no_symbol p.root s (spell_names p.properties rest) between (sym g ∙ at)
no_factor_at_symbol {before} {between} s at n m o (grouped e) rest ends g = o cc

-- another token that is no unsigned literal
pub no_factor_at_token : {before between : List Token} (t : Token) → before ≡ t ∷ between → NotAtWord word.This before → ((s : Symbol) → t ≡ token.Symbol s → ⊥) → ((x : List ℕ) → t ≡ token.Name x → ⊥) → ((u : UnsignedReading) → t ≡ token_of_unsigned u → ⊥) → None spell_factor EndsFactor before
no_factor_at_token {before} {between} t at this symbol name other (prefixed v d) rest ends g = symbol (prefix_symbol_of v) cc
no_factor_at_token {before} {between} t at this symbol name other (literal l) rest ends g = other l cc
no_factor_at_token {before} {between} t at this symbol name other (path p) rest ends g = no_root p.root (spell_names p.properties rest) g
  where
    no_root : (r : Root) (after : List Token) → before ≡ spell_root r after → ⊥
    no_root root.This after e = this after e
    no_root (root.Name x) after e = name x cc
no_factor_at_token {before} {between} t at this symbol name other (grouped e) rest ends g = symbol Open cc

pub no_factor_at_end : {before : List Token} → before ≡ [] → None spell_factor EndsFactor before
no_factor_at_end {before} at (prefixed v d) rest ends g = cc
no_factor_at_end {before} at (literal l) rest ends g = cc
no_factor_at_end {before} at (path p) rest ends g = no_root p.root (spell_names p.properties rest) g
  where
    no_root : (r : Root) (after : List Token) → before ≡ spell_root r after → ⊥
    no_root root.This after e = cc
    no_root (root.Name x) after e = cc
no_factor_at_end {before} at (grouped e) rest ends g = cc

-- ---- expr ")"

pub ends_at_close : (after : List Token) → EndsExpression (token.Symbol Close ∷ after)
ends_at_close after = expression_ends Close after refl (λ e. cc)

pub no_group : {before : List Token} → None spell_expression EndsExpression before → None spell_group EndsAnywhere before
no_group none e rest ends g = none e (token.Symbol Close ∷ rest) (ends_at_close rest) g

pub close_reads : {before between : List Token} (after : List Token) {inner : Expr Path} (result : Result (Expr Path) ParseFault) → Found spell_expression tree_of_expression EndsExpression before inner between → MatchResult result (λ d. (d ≡ inner) × (between ≡ token.Symbol Close ∷ after)) (λ d. (d ≡ Syntax) × NotAt Close between) → Reads spell_group tree_of_expression EndsAnywhere before result after
close_reads {before} {between} after (Ok d) h k =
    let s = h.spelled in
    let t = h.tree_is in
    let same = k.0 in
    let at = k.1 in
    record {
      reading = h.reading;
      spelled = cc;
      tree_is = cc;
      only = λ r rest ends g. let w : between ≡ token.Symbol Close ∷ rest = h.only r (token.Symbol Close ∷ rest) (ends_at_close rest) g in cc;
    }
close_reads after (Err d) h k = λ q r rest ends g. k.1 rest (h.only r (token.Symbol Close ∷ rest) (ends_at_close rest) g)
