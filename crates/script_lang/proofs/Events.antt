-- Reading events from their parts.
use Rattle.std.proofs.Common.{ℕ, ◌≡◌, Option, None as no_separator, Result, Ok, Err, List, ◌∷◌, map, refl, sym, ◌∙◌, ap, subst}
use Rattle.token_reading.{specs.Connections.{spell_connection_type}, specs.code.Connections.{EndsConnectionType, ReadsConnectionType}, specs.Lists.{spell_each, spell_listed}, specs.Literals.{spell_literal, tree_of_literal}, specs.Optional.{spell_optional_name}, specs.code.Optional.{EndsWithoutName}, specs.code.Reading.{Found, EndsAnywhere, IsAtEnd}, specs.Reading.{spell_name}, specs.declared.fault.ParseFault.{ParseFault}, proofs.Both.{both_found}, proofs.Underway.{None}}
use Rattle.syntax_trees.specs.{declared.connection.ConnectionType.{ConnectionType}, declared.connection.Endpoints.{Endpoints}, declared.syntax.Literal.{Literal}}
use Rattle.texts.specs.declared.token.Token.{Token}
use Rattle.texts.specs.declared.token.Token.TheVariants as token
use Rattle.script_lang.{specs.declared.event.Event.{Event}, specs.declared.event.Input.{Input}, specs.declared.verb.Verb.{Verb}, specs.Grammar.{InputReading, literal, named, spell_input, tree_of_input, spell_verb, Member, spell_member, spell_invocation, spell_new, tree_of_new, spell_adopt, tree_of_adopt, spell_move, tree_of_move, spell_name_ends, tree_of_name_ends, spell_connect, tree_of_connect, spell_assignment, tree_of_assignment, spell_bind, tree_of_bind, Follow, spell_follow, Reading, spell_event}, specs.code.Grammar.{tree_of_invocation, ReadsFollow, ReadsEvent}, proofs.OneTree.{literal_unnamed, no_name_at_end, how_at_end, one_verb}}
use Rattle.script_lang.specs.declared.event.Event.TheVariants as tree
use Rattle.script_lang.specs.declared.event.Input.TheVariants as input

-- the same reading of a whole line, whose tree is in another one
pub within : {R A B : Type 0} {spell : R → List Token → List Token} {tree : R → A} {before after : List Token} {a : A} (outer : A → B) → Found spell tree EndsAnywhere before a after → Found spell (λ r. outer (tree r)) IsAtEnd before (outer a) after
within outer f = record { reading = f.reading; spelled = f.spelled; tree_is = ap outer f.tree_is; only = λ r rest ends g. f.only r rest tt g }

-- ---- values

literal_only : {before after : List Token} (r : InputReading) (rest : List Token) {l : Literal} → Found spell_literal tree_of_literal EndsAnywhere before l after → before ≡ spell_input r rest → after ≡ rest
literal_only (literal l) rest f g = f.only l rest tt g
literal_only {after = after} (named name) rest f g = absurd (literal_unnamed f.reading name after rest (sym f.spelled ∙ g))

pub literal_found : {before after : List Token} {l : Literal} → Found spell_literal tree_of_literal EndsAnywhere before l after → Found spell_input tree_of_input EndsAnywhere before (input.Literal l) after
literal_found f = record {
  reading = literal f.reading;
  spelled = f.spelled;
  tree_is = ap input.Literal f.tree_is;
  only = λ r rest ends g. literal_only r rest f g;
}

object_only : {before after : List Token} {name : List ℕ} (r : InputReading) (rest : List Token) → before ≡ token.Name name ∷ after → before ≡ spell_input r rest → after ≡ rest
object_only {after = after} {name = name} (literal l) rest e g = absurd (literal_unnamed l name rest after (sym g ∙ e))
object_only (named other) rest e g = cc

pub object_found : {before after : List Token} {name : List ℕ} → Found spell_name (λ name. name) EndsAnywhere before name after → Found spell_input tree_of_input EndsAnywhere before (input.Object name) after
object_found f = record {
  reading = named f.reading;
  spelled = f.spelled;
  tree_is = ap input.Object f.tree_is;
  only = λ r rest ends g. object_only r rest f.spelled g;
}

-- ---- what follows the verb of an event

pub invocation_found : {before between after : List Token} {member : Member} {arguments : List Input} → Found spell_member (λ m. m) EndsAnywhere before member between → Found (spell_listed spell_input) (map tree_of_input) EndsAnywhere between arguments after → Found spell_invocation tree_of_invocation EndsAnywhere before (member.0, member.1, arguments) after
invocation_found m a =
    let p = m.spelled in let q = a.spelled in
    let x = m.tree_is in let y = a.tree_is in
    record {
      reading = record { member = m.reading; arguments = a.reading };
      spelled = cc;
      tree_is = cc;
      only = λ i rest ends g. a.only i.arguments rest tt (m.only i.member (spell_listed spell_input i.arguments rest) tt g);
    }

pub new_found : {before between at_home after : List Token} {object class : List ℕ} {home : Option (List ℕ)} → Found spell_name (λ name. name) EndsAnywhere before object between → Found spell_name (λ name. name) EndsAnywhere between class at_home → Found spell_optional_name (λ name. name) EndsWithoutName at_home home after → Found spell_new tree_of_new IsAtEnd before (tree.New object class home) after
new_found {object = object} {class = class} {home = home} o c h =
    let p = o.spelled in let q = c.spelled in let s = h.spelled in
    let x = o.tree_is in let y = c.tree_is in let z = h.tree_is in
    record {
      reading = record { object = object; class = class; home = home };
      spelled = cc;
      tree_is = refl;
      only = λ e rest ends g. h.only e.home rest (no_name_at_end rest ends) cc;
    }

pub adopt_found : {before between after : List Token} {parent child : List ℕ} → Found spell_name (λ name. name) EndsAnywhere before parent between → Found spell_name (λ name. name) EndsAnywhere between child after → Found spell_adopt tree_of_adopt IsAtEnd before (tree.Adopt parent child) after
adopt_found {parent = parent} {child = child} n m =
    let p = n.spelled in let q = m.spelled in
    let x = n.tree_is in let y = m.tree_is in
    record { reading = record { parent = parent; child = child }; spelled = cc; tree_is = refl; only = λ e rest ends g. cc }

pub move_found : {before between after : List Token} {object home : List ℕ} → Found spell_name (λ name. name) EndsAnywhere before object between → Found spell_name (λ name. name) EndsAnywhere between home after → Found spell_move tree_of_move IsAtEnd before (tree.Move object home) after
move_found {object = object} {home = home} n m =
    let p = n.spelled in let q = m.spelled in
    let x = n.tree_is in let y = m.tree_is in
    record { reading = record { object = object; home = home }; spelled = cc; tree_is = refl; only = λ e rest ends g. cc }

pub connect_found : {before between after : List Token} {ends : Endpoints (List ℕ)} {how : ConnectionType} → Found spell_name_ends tree_of_name_ends EndsAnywhere before ends between → ReadsConnectionType no_separator between (Ok how) after → Found spell_connect tree_of_connect IsAtEnd before (tree.Connect ends how) after
connect_found f h =
    let both = both_found spell_name_ends tree_of_name_ends EndsAnywhere (spell_connection_type no_separator) (λ how. how) (EndsConnectionType no_separator) (λ ends how. tree.Connect ends how) (λ how rest ends. tt) f h in
    record { reading = both.reading; spelled = both.spelled; tree_is = both.tree_is; only = λ c rest ends g. both.only c rest (how_at_end rest ends) g }

pub assignment_found : {before between after : List Token} {member : Member} {value : Input} → Found spell_member (λ m. m) EndsAnywhere before member between → Found spell_input tree_of_input EndsAnywhere between value after → Found spell_assignment tree_of_assignment IsAtEnd before (tree.Set member.0 member.1 value) after
assignment_found m v =
    let p = m.spelled in let q = v.spelled in
    let x = m.tree_is in let y = v.tree_is in
    record {
      reading = record { member = m.reading; value = v.reading };
      spelled = cc;
      tree_is = cc;
      only = λ e rest ends g. v.only e.value rest tt (m.only e.member (spell_input e.value rest) tt g);
    }

pub bind_found : {before between at_sources after : List Token} {site target : List ℕ} {sources : List (List ℕ)} → Found spell_name (λ name. name) EndsAnywhere before site between → Found spell_name (λ name. name) EndsAnywhere between target at_sources → Found (spell_each spell_name) (λ names. names) IsAtEnd at_sources sources after → Found spell_bind tree_of_bind IsAtEnd before (tree.Bind site target sources) after
bind_found {site = site} {target = target} {sources = sources} n t s =
    let p = n.spelled in let q = t.spelled in let r = s.spelled in
    let x = n.tree_is in let y = t.tree_is in let z = s.tree_is in
    record {
      reading = record { site = site; target = target; sources = sources };
      spelled = cc;
      tree_is = refl;
      only = λ e rest ends g. s.only e.sources rest ends cc;
    }

-- ---- an event by its verb

module _ {before between : List Token} {v : Verb} (f : Found spell_verb (λ verb. verb) EndsAnywhere before v between) where
  -- the event has this verb, and goes on as it does
  same_follow : (w : Verb) → v ≡ w → (r : Follow w) (rest : List Token) → between ≡ spell_follow w r rest → (q : Follow v) × (between ≡ spell_follow v q rest)
  same_follow w same =
      subst (λ (u : Verb). (r : Follow u) (rest : List Token) → between ≡ spell_follow u r rest → (q : Follow v) × (between ≡ spell_follow v q rest)) same (λ r rest e. (r, e))

  at_verb : before ≡ spell_verb v between
  at_verb = f.spelled ∙ ap (λ u. spell_verb u between) f.tree_is

  after_verb : (e : Reading) (rest : List Token) → before ≡ spell_event e rest → (q : Follow v) × (between ≡ spell_follow v q rest)
  after_verb e rest g =
      let at = at_verb in
      same_follow e.verb (one_verb v e.verb cc) e.follow rest cc

  -- an answer, which is returned as it is
  pub event_reads : (after : List Token) (result : Result Event ParseFault) → ReadsFollow v between result after → ReadsEvent before result after
  event_reads after (Ok event) h = record {
    reading = record { verb = v; follow = h.reading };
    spelled = at_verb ∙ ap (spell_verb v) h.spelled;
    tree_is = h.tree_is;
    only = λ e rest ends g. let w = after_verb e rest g in h.only w.0 rest ends w.1;
  }
  event_reads after (Err fault) h = λ k e rest ends g. let w = after_verb e rest g in h k w.0 rest ends w.1

pub no_verb : {before : List Token} → None spell_verb EndsAnywhere before → None spell_event IsAtEnd before
no_verb none e rest ends g = none e.verb (spell_follow e.verb e.follow rest) tt g
