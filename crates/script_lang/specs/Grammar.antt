-- The grammar of the events of a script. A value of a type below is a way to read tokens by its rule
-- (docs/language.md, "Scripts").
--
--   event = "loop" Name
--         | "turn" Name
--         | "new" Name Name [Name]
--         | "adopt" Name Name
--         | "move" Name Name
--         | "connect" ends how
--         | "disconnect" ends
--         | "set" Name "." Name value
--         | "emit" Name "." Name "(" [value {"," value}] ")"
--         | "call" Name "." Name "(" [value {"," value}] ")"
--         | "bind" Name Name {Name}
--         | "block" Name
--         | "unblock" Name
--         | "delete" Name
--         | "later" Name
--   ends  = Name sig Name sig
--   how   = kind ["unique"] ["single"]
--   value = literal | Name
--
-- `connect`, `disconnect`, `set`, `emit`, `call`, `delete` and `later` are reserved words; the other verbs are names.
use Rattle.std.specs.Prelude.{ℕ, ◌≡◌, List, [], ◌∷◌, map, codes, Option, None, All}
use Rattle.basic_types.specs.declared.sig.Sig.{Sig}
use Rattle.basic_types.specs.declared.word.Word.TheVariants as word
use Rattle.token_reading.specs.{Connections.{BothEnds, spell_ends, tree_of_ends, spell_connection_type}, Lists.{spell_each, spell_listed}, Literals.{LiteralReading, spell_literal, tree_of_literal}, Optional.{spell_optional_name}, Reading.{spell_name}, Signatures.{HasPlainReference}}
use Rattle.syntax_trees.specs.{Connections.{signatures_at, HasFewTypes}, declared.connection.ConnectionType.{ConnectionType}, declared.connection.Endpoints.{Endpoints}}
use Rattle.texts.specs.{declared.symbol.Symbol.TheVariants.{Dot}, declared.token.Token.{Token}}
use Rattle.texts.specs.declared.token.Token.TheVariants as token
use Rattle.script_lang.specs.{declared.event.Event.{Event}, declared.event.Input.{Input}, declared.verb.Verb.{Verb}}
use Rattle.script_lang.specs.declared.event.Event.TheVariants as tree
use Rattle.script_lang.specs.declared.event.Input.TheVariants as input
use Rattle.script_lang.specs.declared.verb.Verb.TheVariants as verb

-- ---- values

pub data InputReading : Type 0 where
  literal : LiteralReading → InputReading
  -- an object's name
  named : List ℕ → InputReading

abbrev pub spell_input : InputReading → List Token → List Token
spell_input (literal l) after = spell_literal l after
spell_input (named name) after = token.Name name ∷ after

abbrev pub tree_of_input : InputReading → Input
tree_of_input (literal l) = input.Literal (tree_of_literal l)
tree_of_input (named name) = input.Object name

-- ---- verbs and members

-- the token of a verb
abbrev pub verb_token : Verb → Token
verb_token verb.Loop = token.Name (codes "loop")
verb_token verb.Turn = token.Name (codes "turn")
verb_token verb.New = token.Name (codes "new")
verb_token verb.Adopt = token.Name (codes "adopt")
verb_token verb.Move = token.Name (codes "move")
verb_token verb.Connect = token.Word word.Connect
verb_token verb.Disconnect = token.Word word.Disconnect
verb_token verb.Set = token.Word word.Set
verb_token verb.Emit = token.Word word.Emit
verb_token verb.Call = token.Word word.Call
verb_token verb.Bind = token.Name (codes "bind")
verb_token verb.Block = token.Name (codes "block")
verb_token verb.Unblock = token.Name (codes "unblock")
verb_token verb.Delete = token.Word word.Delete
verb_token verb.Later = token.Word word.Later

abbrev pub spell_verb : Verb → List Token → List Token
spell_verb v after = verb_token v ∷ after

-- `O.M`: an object's name, and the name of its property or method
abbrev pub Member : Type 0
Member = List ℕ × List ℕ

abbrev pub spell_member : Member → List Token → List Token
spell_member m after = token.Name m.0 ∷ token.Symbol Dot ∷ token.Name m.1 ∷ after

-- `O.M(V,..)`
pub record Invocation : Type 0 where
  pub member : Member
  pub arguments : List InputReading

abbrev pub spell_invocation : Invocation → List Token → List Token
spell_invocation i after = spell_member i.member (spell_listed spell_input i.arguments after)

-- ---- what follows the verb of an event

-- `L`, after `loop`
abbrev pub tree_of_loop : List ℕ → Event
tree_of_loop home = tree.Loop home

-- `L`, after `turn`
abbrev pub tree_of_turn : List ℕ → Event
tree_of_turn home = tree.Turn home

-- `O C [L]`, after `new`
pub record New : Type 0 where
  pub object : List ℕ
  pub class : List ℕ
  pub home : Option (List ℕ)

abbrev pub spell_new : New → List Token → List Token
spell_new e after = token.Name e.object ∷ token.Name e.class ∷ spell_optional_name e.home after

abbrev pub tree_of_new : New → Event
tree_of_new e = tree.New e.object e.class e.home

-- `P O`, after `adopt`
pub record Adopt : Type 0 where
  pub parent : List ℕ
  pub child : List ℕ

abbrev pub spell_adopt : Adopt → List Token → List Token
spell_adopt e after = token.Name e.parent ∷ token.Name e.child ∷ after

abbrev pub tree_of_adopt : Adopt → Event
tree_of_adopt e = tree.Adopt e.parent e.child

-- `O L`, after `move`
pub record Move : Type 0 where
  pub object : List ℕ
  pub home : List ℕ

abbrev pub spell_move : Move → List Token → List Token
spell_move e after = token.Name e.object ∷ token.Name e.home ∷ after

abbrev pub tree_of_move : Move → Event
tree_of_move e = tree.Move e.object e.home

-- `A S B M`
abbrev pub NameEnds : Type 0
NameEnds = BothEnds (List ℕ)

abbrev pub spell_name_ends : NameEnds → List Token → List Token
spell_name_ends ends after = spell_ends spell_name None ends after

abbrev pub tree_of_name_ends : NameEnds → Endpoints (List ℕ)
tree_of_name_ends ends = tree_of_ends (λ name. name) ends

-- `A S B M kind [unique] [single]`, after `connect`
abbrev pub Connect : Type 0
Connect = NameEnds × ConnectionType

abbrev pub spell_connect : Connect → List Token → List Token
spell_connect c after = spell_name_ends c.0 (spell_connection_type None c.1 after)

abbrev pub tree_of_connect : Connect → Event
tree_of_connect c = tree.Connect (tree_of_name_ends c.0) c.1

-- `A S B M`, after `disconnect`
abbrev pub tree_of_disconnect : NameEnds → Event
tree_of_disconnect ends = tree.Disconnect (tree_of_name_ends ends)

-- `O.P V`, after `set`
pub record Assignment : Type 0 where
  pub member : Member
  pub value : InputReading

abbrev pub spell_assignment : Assignment → List Token → List Token
spell_assignment e after = spell_member e.member (spell_input e.value after)

abbrev pub tree_of_assignment : Assignment → Event
tree_of_assignment e = tree.Set e.member.0 e.member.1 (tree_of_input e.value)

-- after `emit`
abbrev pub tree_of_emit : Invocation → Event
tree_of_emit i = tree.Emit i.member.0 i.member.1 (map tree_of_input i.arguments)

-- after `call`
abbrev pub tree_of_call : Invocation → Event
tree_of_call i = tree.Call i.member.0 i.member.1 (map tree_of_input i.arguments)

-- `N O X ..`, after `bind`
pub record Bind : Type 0 where
  pub site : List ℕ
  pub target : List ℕ
  pub sources : List (List ℕ)

abbrev pub spell_bind : Bind → List Token → List Token
spell_bind e after = token.Name e.site ∷ token.Name e.target ∷ spell_each spell_name e.sources after

abbrev pub tree_of_bind : Bind → Event
tree_of_bind e = tree.Bind e.site e.target e.sources

-- `O`, after `block`
abbrev pub tree_of_block : List ℕ → Event
tree_of_block object = tree.Block object

-- `O`, after `unblock`
abbrev pub tree_of_unblock : List ℕ → Event
tree_of_unblock object = tree.Unblock object

-- `O`, after `delete`
abbrev pub tree_of_delete : List ℕ → Event
tree_of_delete object = tree.Delete object

-- `O`, after `later`
abbrev pub tree_of_later : List ℕ → Event
tree_of_later object = tree.Later object

-- ---- events

-- what follows each verb
abbrev pub Follow : Verb → Type 0
Follow verb.Loop = List ℕ
Follow verb.Turn = List ℕ
Follow verb.New = New
Follow verb.Adopt = Adopt
Follow verb.Move = Move
Follow verb.Connect = Connect
Follow verb.Disconnect = NameEnds
Follow verb.Set = Assignment
Follow verb.Emit = Invocation
Follow verb.Call = Invocation
Follow verb.Bind = Bind
Follow verb.Block = List ℕ
Follow verb.Unblock = List ℕ
Follow verb.Delete = List ℕ
Follow verb.Later = List ℕ

abbrev pub spell_follow : (v : Verb) → Follow v → List Token → List Token
spell_follow verb.Loop = spell_name
spell_follow verb.Turn = spell_name
spell_follow verb.New = spell_new
spell_follow verb.Adopt = spell_adopt
spell_follow verb.Move = spell_move
spell_follow verb.Connect = spell_connect
spell_follow verb.Disconnect = spell_name_ends
spell_follow verb.Set = spell_assignment
spell_follow verb.Emit = spell_invocation
spell_follow verb.Call = spell_invocation
spell_follow verb.Bind = spell_bind
spell_follow verb.Block = spell_name
spell_follow verb.Unblock = spell_name
spell_follow verb.Delete = spell_name
spell_follow verb.Later = spell_name

abbrev pub tree_of_follow : (v : Verb) → Follow v → Event
tree_of_follow verb.Loop = tree_of_loop
tree_of_follow verb.Turn = tree_of_turn
tree_of_follow verb.New = tree_of_new
tree_of_follow verb.Adopt = tree_of_adopt
tree_of_follow verb.Move = tree_of_move
tree_of_follow verb.Connect = tree_of_connect
tree_of_follow verb.Disconnect = tree_of_disconnect
tree_of_follow verb.Set = tree_of_assignment
tree_of_follow verb.Emit = tree_of_emit
tree_of_follow verb.Call = tree_of_call
tree_of_follow verb.Bind = tree_of_bind
tree_of_follow verb.Block = tree_of_block
tree_of_follow verb.Unblock = tree_of_unblock
tree_of_follow verb.Delete = tree_of_delete
tree_of_follow verb.Later = tree_of_later

pub record Reading : Type 0 where
  pub verb : Verb
  pub follow : Follow verb

abbrev pub spell_event : Reading → List Token → List Token
spell_event e after = spell_verb e.verb (spell_follow e.verb e.follow after)

abbrev pub tree_of_event : Reading → Event
tree_of_event e = tree_of_follow e.verb e.follow

-- ---- limits

-- the signatures in an event
abbrev pub signatures_in : Event → List Sig
signatures_in (tree.Loop l) = []
signatures_in (tree.Turn l) = []
signatures_in (tree.New object class l) = []
signatures_in (tree.Adopt parent child) = []
signatures_in (tree.Move object l) = []
signatures_in (tree.Connect ends how) = signatures_at ends
signatures_in (tree.Disconnect ends) = signatures_at ends
signatures_in (tree.Set object property value) = []
signatures_in (tree.Emit object signal arguments) = []
signatures_in (tree.Call object method arguments) = []
signatures_in (tree.Bind site target sources) = []
signatures_in (tree.Block object) = []
signatures_in (tree.Unblock object) = []
signatures_in (tree.Delete object) = []
signatures_in (tree.Later object) = []

-- the tokens are this event
pub record IsEvent (tokens : List Token) (event : Event) : Type 0 where
  pub reading : Reading
  pub spelled : tokens ≡ spell_event reading []
  pub tree : tree_of_event reading ≡ event
  pub few_types : All HasFewTypes (signatures_in event)
  -- signatures have a normal form
  pub normal : ¬ HasPlainReference tokens
