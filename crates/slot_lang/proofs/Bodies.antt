-- Statements and blocks.
use Rattle.std.proofs.Common.{◌≡◌, ◌∙◌, ℕ, codes, List, [], ◌∷◌, ◌++◌, Result, Ok, Err, refl, sym, ap, append_assoc}
use Rattle.std.proofs.lemmas.List.{append-nil}
use Rattle.basic_types.specs.declared.word.Word.{Word}
use Rattle.basic_types.specs.declared.word.Word.TheVariants as word
use Rattle.token_reading.specs.code.Cursor.{NotNext, NotAt, NotAtWord}
use Rattle.slot_lang.specs.Expressions.{Expression, tree_of_expression}
use Rattle.slot_lang.specs.code.Expressions.{EndsFactor}
use Rattle.slot_lang.specs.Grammar.{spell_value, spell_arguments, spell_condition, Assignment, spell_assignment, tree_of_assignment, Emission, spell_emission, tree_of_emission, Call, spell_call, tree_of_call, PathEnds, Connection, spell_connection, tree_of_connection, spell_disconnection, tree_of_disconnection, spell_object, tree_of_deletion, tree_of_later_deletion, Sets, spell_update_group, tree_of_update_group, Body, no_more, more, Statement, set, emit, call, choice, connect, disconnect, delete, later, group, Else, no_else, else_block, spell_statements, spell_statement, spell_else, spell_block, tree_of_block, tree_of_statement, tree_of_else}
use Rattle.slot_lang.specs.code.Grammar.{Choice, spell_choice, tree_of_choice, EndsStatement, ReadsStatement}
use Rattle.token_reading.specs.code.Reading.{EndsAnywhere, Found, Reads}
use Rattle.token_reading.specs.declared.fault.ParseFault.{ParseFault}
use Rattle.texts.specs.declared.symbol.Symbol.{Symbol}
use Rattle.texts.specs.declared.symbol.Symbol.TheVariants.{OpenBrace, CloseBrace}
use Rattle.syntax_trees.specs.declared.syntax.Expr.{Expr}
use Rattle.syntax_trees.specs.declared.syntax.Path.{Path}
use Rattle.syntax_trees.specs.declared.syntax.Stmt.{Stmt}
use Rattle.syntax_trees.specs.declared.syntax.Stmt.TheVariants as stmt
use Rattle.texts.specs.declared.token.Token.{Token}
use Rattle.texts.specs.declared.token.Token.TheVariants as token
use Rattle.token_reading.proofs.Underway.{None, Underway}

-- ---- where one rule ends and the next begins

pub value_meets : (e : Expression) (rest : List Token) → EndsAnywhere rest → EndsFactor (spell_value e rest)
value_meets e rest ends after g = cc

pub arguments_meet : (es : List Expression) (rest : List Token) → EndsAnywhere rest → EndsFactor (spell_arguments es rest)
arguments_meet [] rest ends after g = cc
arguments_meet (e ∷ es) rest ends after g = cc

-- ---- what follows `if`

module _ {before at_body : List Token} {condition : Expr Path} (f : Found spell_condition tree_of_expression EndsAnywhere before condition at_body) where
  module _ {body : List Stmt} {at_else : List Token} (b : Found spell_block tree_of_block EndsAnywhere at_body body at_else) where
    else_at : (c : Choice) (rest : List Token) → before ≡ spell_choice c rest → at_else ≡ spell_else c.2 rest
    else_at c rest g = b.only c.1 (spell_else c.2 rest) tt (f.only c.0 (spell_block c.1 (spell_else c.2 rest)) tt g)

    pub choice_found : {other : List Stmt} {after : List Token} → Found spell_else tree_of_else EndsStatement at_else other after → Found spell_choice tree_of_choice EndsStatement before (stmt.If condition body other) after
    choice_found {other} {after} o =
        let d = f.spelled in
        let e = b.spelled in
        let k = o.spelled in
        let x = f.tree_is in
        let y = b.tree_is in
        let z = o.tree_is in
        record {
          reading = (f.reading, b.reading, o.reading);
          spelled = cc;
          tree_is = cc;
          only = λ c rest ends g. o.only c.2 rest ends (else_at c rest g);
        }

-- ---- ["else" block]

else_only : (o : Else) (before between after rest : List Token) {body : List Stmt} → EndsStatement rest → before ≡ token.Word word.Else ∷ between → Found spell_block tree_of_block EndsAnywhere between body after → before ≡ spell_else o rest → after ≡ rest
else_only no_else before between after rest ends e h g = absurd (ends between cc)
else_only (else_block b) before between after rest ends e h g = h.only b rest tt cc

pub else_found : {before between after : List Token} {body : List Stmt} → before ≡ token.Word word.Else ∷ between → Found spell_block tree_of_block EndsAnywhere between body after → Found spell_else tree_of_else EndsStatement before body after
else_found {before} {between} {after} e h =
    let s = h.spelled in
    record { reading = else_block h.reading; spelled = cc; tree_is = h.tree_is; only = λ r rest ends g. else_only r before between after rest ends e h g }

pub no_else_block : {before between : List Token} → before ≡ token.Word word.Else ∷ between → None spell_block EndsAnywhere between → None spell_else EndsStatement before
no_else_block {before} {between} e none no_else rest ends g = ends between cc
no_else_block {before} {between} e none (else_block b) rest ends g = none b rest tt cc

nothing_only : (o : Else) (before rest : List Token) → NotAtWord word.Else before → before ≡ spell_else o rest → before ≡ rest
nothing_only no_else before rest none g = g
nothing_only (else_block b) before rest none g = absurd (none _ g)

pub nothing_found : {before : List Token} → NotAtWord word.Else before → Found spell_else tree_of_else EndsStatement before [] before
nothing_found {before} none = record { reading = no_else; spelled = refl; tree_is = refl; only = λ r rest ends g. nothing_only r before rest none g }

-- ---- a statement by its first token

-- the statements that begin with the token; R are the readings of what follows it
pub record IsForm {R : Type 0} (first : Token) (spell : R → List Token → List Token) (tree : R → Stmt) (Ends : List Token → Type 0) : Type 0 where
  pub statement : R → Statement
  pub spelled : (r : R) (rest : List Token) → spell_statement (statement r) rest ≡ first ∷ spell r rest
  pub tree_is : (r : R) → tree_of_statement (statement r) ≡ tree r
  pub ends : (rest : List Token) → EndsStatement rest → Ends rest
  pub only : (s : Statement) (between rest : List Token) → first ∷ between ≡ spell_statement s rest → (r : R) × (between ≡ spell r rest)

-- an answer, which is returned as it is
pub form_reads : {R : Type 0} {first : Token} {spell : R → List Token → List Token} {tree : R → Stmt} {Ends : List Token → Type 0} → IsForm first spell tree Ends → {before between : List Token} (after : List Token) (result : Result Stmt ParseFault) → before ≡ first ∷ between → Reads spell tree Ends between result after → ReadsStatement before result after
form_reads {first = first} form {between = between} after (Ok s) at h = record {
  reading = form.statement h.reading;
  spelled = at ∙ (ap (λ ts. first ∷ ts) h.spelled ∙ sym (form.spelled h.reading after));
  tree_is = form.tree_is h.reading ∙ h.tree_is;
  only = λ s rest ends g. let w = form.only s between rest (sym at ∙ g) in h.only w.0 rest (form.ends rest ends) w.1;
}
form_reads form {between = between} after (Err fault) at h = λ k s rest ends g. let w = form.only s between rest (sym at ∙ g) in h k w.0 rest (form.ends rest ends) w.1

after_set : (s : Statement) (between rest : List Token) → token.Word word.Set ∷ between ≡ spell_statement s rest → (a : Assignment) × (between ≡ spell_assignment a rest)
after_set (set a) between rest g = (a, cc)
after_set _ between rest g = cc

pub set_form : IsForm (token.Word word.Set) spell_assignment tree_of_assignment EndsAnywhere
set_form = record { statement = λ a. set a; spelled = λ a rest. refl; tree_is = λ a. refl; ends = λ rest e. tt; only = after_set }

after_emit : (s : Statement) (between rest : List Token) → token.Word word.Emit ∷ between ≡ spell_statement s rest → (e : Emission) × (between ≡ spell_emission e rest)
after_emit (emit e) between rest g = (e, cc)
after_emit _ between rest g = cc

pub emit_form : IsForm (token.Word word.Emit) spell_emission tree_of_emission EndsAnywhere
emit_form = record { statement = λ e. emit e; spelled = λ e rest. refl; tree_is = λ e. refl; ends = λ rest e. tt; only = after_emit }

after_call : (s : Statement) (between rest : List Token) → token.Word word.Call ∷ between ≡ spell_statement s rest → (c : Call) × (between ≡ spell_call c rest)
after_call (call c) between rest g = (c, cc)
after_call _ between rest g = cc

pub call_form : IsForm (token.Word word.Call) spell_call tree_of_call EndsAnywhere
call_form = record { statement = λ c. call c; spelled = λ c rest. refl; tree_is = λ c. refl; ends = λ rest e. tt; only = after_call }

after_if : (s : Statement) (between rest : List Token) → token.Word word.If ∷ between ≡ spell_statement s rest → (c : Choice) × (between ≡ spell_choice c rest)
after_if (choice e b o) between rest g = ((e, b, o), cc)
after_if _ between rest g = cc

pub if_form : IsForm (token.Word word.If) spell_choice tree_of_choice EndsStatement
if_form = record { statement = λ c. choice c.0 c.1 c.2; spelled = λ c rest. refl; tree_is = λ c. refl; ends = λ rest e. e; only = after_if }

after_connect : (s : Statement) (between rest : List Token) → token.Word word.Connect ∷ between ≡ spell_statement s rest → (c : Connection) × (between ≡ spell_connection c rest)
after_connect (connect c) between rest g = (c, cc)
after_connect _ between rest g = cc

pub connect_form : IsForm (token.Word word.Connect) spell_connection tree_of_connection EndsAnywhere
connect_form = record { statement = λ c. connect c; spelled = λ c rest. refl; tree_is = λ c. refl; ends = λ rest e. tt; only = after_connect }

after_disconnect : (s : Statement) (between rest : List Token) → token.Word word.Disconnect ∷ between ≡ spell_statement s rest → (ends : PathEnds) × (between ≡ spell_disconnection ends rest)
after_disconnect (disconnect ends) between rest g = (ends, cc)
after_disconnect _ between rest g = cc

pub disconnect_form : IsForm (token.Word word.Disconnect) spell_disconnection tree_of_disconnection EndsAnywhere
disconnect_form = record { statement = λ ends. disconnect ends; spelled = λ ends rest. refl; tree_is = λ ends. refl; ends = λ rest e. tt; only = after_disconnect }

after_delete : (s : Statement) (between rest : List Token) → token.Word word.Delete ∷ between ≡ spell_statement s rest → (path : Path) × (between ≡ spell_object path rest)
after_delete (delete path) between rest g = (path, cc)
after_delete _ between rest g = cc

pub delete_form : IsForm (token.Word word.Delete) spell_object tree_of_deletion EndsAnywhere
delete_form = record { statement = λ path. delete path; spelled = λ path rest. refl; tree_is = λ path. refl; ends = λ rest e. tt; only = after_delete }

after_later : (s : Statement) (between rest : List Token) → token.Word word.Later ∷ between ≡ spell_statement s rest → (path : Path) × (between ≡ spell_object path rest)
after_later (later path) between rest g = (path, cc)
after_later _ between rest g = cc

pub later_form : IsForm (token.Word word.Later) spell_object tree_of_later_deletion EndsAnywhere
later_form = record { statement = λ path. later path; spelled = λ path rest. refl; tree_is = λ path. refl; ends = λ rest e. tt; only = after_later }

after_group : (s : Statement) (between rest : List Token) → token.Name (codes "group") ∷ between ≡ spell_statement s rest → (sets : Sets) × (between ≡ spell_update_group sets rest)
after_group (group sets) between rest g = (sets, cc)
after_group _ between rest g = cc

pub group_form : IsForm (token.Name (codes "group")) spell_update_group tree_of_update_group EndsAnywhere
group_form = record { statement = λ sets. group sets; spelled = λ sets rest. refl; tree_is = λ sets. refl; ends = λ rest e. tt; only = after_group }

pub same_word : {first other : Word} {between : List Token} → first ≡ other → token.Word first ∷ between ≡ token.Word other ∷ between
same_word {between = between} same = ap (λ word. token.Word word ∷ between) same

-- behind another word there is no statement ..
pub none_by_word : {first : Word} (between : List Token) → (first ≡ word.Set → ⊥) → (first ≡ word.Emit → ⊥) → (first ≡ word.Call → ⊥) → (first ≡ word.If → ⊥) → (first ≡ word.Connect → ⊥) → (first ≡ word.Disconnect → ⊥) → (first ≡ word.Delete → ⊥) → (first ≡ word.Later → ⊥) → None spell_statement EndsStatement (token.Word first ∷ between)
none_by_word between s e c i n d x l (set a) rest ends g = s cc
none_by_word between s e c i n d x l (emit a) rest ends g = e cc
none_by_word between s e c i n d x l (call a) rest ends g = c cc
none_by_word between s e c i n d x l (choice t b o) rest ends g = i cc
none_by_word between s e c i n d x l (connect a) rest ends g = n cc
none_by_word between s e c i n d x l (disconnect a) rest ends g = d cc
none_by_word between s e c i n d x l (delete a) rest ends g = x cc
none_by_word between s e c i n d x l (later a) rest ends g = l cc
none_by_word between s e c i n d x l (group a) rest ends g = cc

-- .. nor behind another name ..
pub none_by_name : {first : List ℕ} (between : List Token) → (first ≡ codes "group" → ⊥) → None spell_statement EndsStatement (token.Name first ∷ between)
none_by_name between differs (group sets) rest ends g = differs cc
none_by_name between differs _ rest ends g = cc

-- .. nor where neither comes next
none_elsewhere : {before : List Token} → ((first : Word) → NotAtWord first before) → ((first : List ℕ) → NotNext (token.Name first) before) → None spell_statement EndsStatement before
none_elsewhere words names (set a) rest ends g = words word.Set _ g
none_elsewhere words names (emit a) rest ends g = words word.Emit _ g
none_elsewhere words names (call a) rest ends g = words word.Call _ g
none_elsewhere words names (choice t b o) rest ends g = words word.If _ g
none_elsewhere words names (connect a) rest ends g = words word.Connect _ g
none_elsewhere words names (disconnect a) rest ends g = words word.Disconnect _ g
none_elsewhere words names (delete a) rest ends g = words word.Delete _ g
none_elsewhere words names (later a) rest ends g = words word.Later _ g
none_elsewhere words names (group a) rest ends g = names (codes "group") _ g

pub none_by_another : {before after : List Token} {first : Token} → before ≡ first ∷ after → ((w : Word) → first ≡ token.Word w → ⊥) → ((name : List ℕ) → first ≡ token.Name name → ⊥) → None spell_statement EndsStatement before
none_by_another at no_word no_name = none_elsewhere (λ w rest e. no_word w cc) (λ name rest e. no_name name cc)

pub none_at_end : {before : List Token} → before ≡ [] → None spell_statement EndsStatement before
none_at_end at = none_elsewhere (λ w rest e. cc) (λ name rest e. cc)

-- a statement begins with a word or a name ..
pub begins_with_no_symbol : (s : Statement) (symbol : Symbol) (after rest : List Token) → spell_statement s after ≡ token.Symbol symbol ∷ rest → ⊥
begins_with_no_symbol (set a) symbol after rest e = cc
begins_with_no_symbol _ symbol after rest e = cc

-- .. that isn't `else`
not_with_else : (s : Statement) (after rest : List Token) → spell_statement s after ≡ token.Word word.Else ∷ rest → ⊥
not_with_else (set a) after rest e = cc
not_with_else _ after rest e = cc

-- ---- blocks

-- what is left of a block
abbrev pub spell_rest : Body → List Token → List Token
spell_rest body after = spell_statements body (token.Symbol CloseBrace ∷ after)

abbrev pub BodySoFar : List Token → List Stmt → List Token → Type 0
BodySoFar before found now = Underway spell_block tree_of_block EndsAnywhere spell_rest (λ body found. found ++ tree_of_block body) before found now

pub body_start : {before now : List Token} → before ≡ token.Symbol OpenBrace ∷ now → BodySoFar before [] now
body_start {before} {now} e = record { goes_on = λ m rest g. (m, cc, refl); all = λ r rest ends g. (r, cc) }

-- a statement may end within a body
pub ends_in_body : (body : Body) (after : List Token) → EndsStatement (spell_rest body after)
ends_in_body no_more after rest e = cc
ends_in_body (more s body) after rest e = not_with_else s (spell_rest body after) rest e

after_statement : (m : Body) (now after rest : List Token) {s : Stmt} → NotAt CloseBrace now → Found spell_statement tree_of_statement EndsStatement now s after → now ≡ spell_rest m rest → (b : Body) × (after ≡ spell_rest b rest)
after_statement no_more now after rest unclosed h g = absurd (unclosed rest g)
after_statement (more s body) now after rest unclosed h g = (body, h.only s (spell_rest body rest) (ends_in_body body rest) g)

no_statement_left : (m : Body) (now rest : List Token) → NotAt CloseBrace now → None spell_statement EndsStatement now → now ≡ spell_rest m rest → ⊥
no_statement_left no_more now rest unclosed none g = unclosed rest g
no_statement_left (more s body) now rest unclosed none g = none s (spell_rest body rest) (ends_in_body body rest) g

closed : (m : Body) (now after rest : List Token) → now ≡ token.Symbol CloseBrace ∷ after → now ≡ spell_rest m rest → after ≡ rest
closed no_more now after rest e g = cc
closed (more s body) now after rest e g = absurd (begins_with_no_symbol s CloseBrace (spell_rest body rest) after (sym g ∙ e))

module _ {before : List Token} {found : List Stmt} {now : List Token} (h : BodySoFar before found now) where
  pub body_step : {s : Stmt} {after : List Token} → NotAt CloseBrace now → Found spell_statement tree_of_statement EndsStatement now s after → BodySoFar before (found ++ s ∷ []) after
  body_step {s} {after} unclosed f = record {
    goes_on = λ m rest g.
        let e = f.spelled in
        let w = h.goes_on (more f.reading m) rest cc in
        (w.0, w.1, w.2 ∙ (ap (λ t. found ++ (t ∷ tree_of_block m)) f.tree_is ∙ sym (append_assoc found (s ∷ []) (tree_of_block m))));
    all = λ r rest ends g. let w = h.all r rest ends g in after_statement w.0 now after rest unclosed f w.1;
  }

  pub body_done : {after : List Token} → now ≡ token.Symbol CloseBrace ∷ after → Found spell_block tree_of_block EndsAnywhere before found after
  body_done {after} e =
      let w = h.goes_on no_more after e in
      record { reading = w.0; spelled = w.1; tree_is = w.2 ∙ append-nil found; only = λ r rest ends g. let v = h.all r rest ends g in closed v.0 now after rest e v.1 }

  pub body_stuck : NotAt CloseBrace now → None spell_statement EndsStatement now → None spell_block EndsAnywhere before
  body_stuck unclosed none r rest ends g = let w = h.all r rest ends g in no_statement_left w.0 now rest unclosed none w.1
