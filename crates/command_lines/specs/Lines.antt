-- The text of the trace, line by line (docs/commands.md, "The trace").
use Rattle.std.specs.Prelude.{ℕ, Bool, List, [], ◌∷◌, ◌++◌, codes, decimal, if◌then◌else◌}
use Rattle.std.specs.Fmt.{signed_decimal}
use Rattle.std.specs.List.{flat_map, join_by}
use Rattle.basic_types.specs.declared.kind.Kind.{Kind}
use Rattle.basic_types.specs.declared.kind.Kind.TheVariants.{Auto, Direct, Queued}
use Rattle.basic_types.specs.declared.sig.Sig.{Sig}
use Rattle.basic_types.specs.Spelling.{text_of_sig}
use Rattle.syntax_trees.specs.declared.connection.ConnectionType.{ConnectionType}
use Rattle.syntax_trees.specs.declared.connection.Endpoints.{Endpoints}
use Rattle.trace_entries.specs.declared.entry.Shown.{Shown}
use Rattle.trace_entries.specs.declared.entry.Shown.TheVariants as show
use Rattle.trace_entries.specs.declared.entry.ShownAction.{ShownAction}
use Rattle.trace_entries.specs.declared.entry.ShownAction.TheVariants as action
use Rattle.trace_entries.specs.declared.entry.Entry.{Entry}
use Rattle.trace_entries.specs.declared.entry.Entry.TheVariants.{Accepted, Refused, At}
use Rattle.trace_entries.specs.declared.entry.EntryKind.{EntryKind}
use Rattle.trace_entries.specs.declared.entry.EntryKind.TheVariants.{Emitted, Called, Answered, Written, Bound, Followed, OnNull, Grouped, Connected, Disconnected, Refused as RefusedStatement, Posted, Scheduled, Died}

abbrev pub newline : List ℕ
newline = codes "\n"

-- a text in quotes, and an object by its name
abbrev pub value_text : Shown → List ℕ
value_text (show.Int n) = signed_decimal n
value_text (show.Bool b) = if b then codes "true" else codes "false"
value_text (show.Text t) = codes "\"" ++ t ++ codes "\""
value_text (show.Object name) = name
value_text show.Null = codes "null"

-- `o.m`
abbrev pub member_text : List ℕ → List ℕ → List ℕ
member_text object member = object ++ codes "." ++ member

-- `m(args)`, the arguments separated by `,` without blanks
abbrev pub call_text : List ℕ → List Shown → List ℕ
call_text method arguments = method ++ codes "(" ++ join_by value_text (codes ",") arguments ++ codes ")"

-- a word after a blank, where it is given
abbrev pub given_text : Bool → List ℕ → List ℕ
given_text given word = if given then codes " " ++ word else []

-- `o.p v`: a property and its new value
abbrev pub property_text : List ℕ → List ℕ → Shown → List ℕ
property_text object property value = member_text object property ++ codes " " ++ value_text value

abbrev pub kind_text : Kind → List ℕ
kind_text Auto = codes "auto"
kind_text Direct = codes "direct"
kind_text Queued = codes "queued"

-- the kind, and ` unique` and ` single` where they are given
abbrev pub type_text : ConnectionType → List ℕ
type_text how = kind_text how.kind ++ (given_text how.unique (codes "unique") ++ given_text how.single (codes "single"))

-- `a S`
abbrev pub end_text : List ℕ → Sig → List ℕ
end_text object sig = object ++ (codes " " ++ text_of_sig sig)

-- `a S b M`
abbrev pub ends_text : Endpoints (List ℕ) → List ℕ
ends_text ends = end_text ends.sender ends.signal ++ (codes " " ++ end_text ends.receiver ends.method)

-- `set p v` or `emit s(args)`
abbrev pub action_text : ShownAction → List ℕ
action_text (action.Set property value) = codes "set " ++ property ++ codes " " ++ value_text value
action_text (action.Emit signal arguments) = codes "emit " ++ call_text signal arguments

-- a blank and the actions, separated by `, `; nothing where there is none
abbrev pub actions_text : List ShownAction → List ℕ
actions_text [] = []
actions_text (a ∷ more) = codes " " ++ join_by action_text (codes ", ") (a ∷ more)

-- What happens. An emission of a blocked object calls nothing. What is posted to an event loop is a call, or the deletion of
-- an object, `~o`. A property is written, is bound, or follows others.
abbrev pub entry_kind_text : EntryKind → List ℕ
entry_kind_text (Emitted object signal arguments blocked) =
    codes "emit " ++ call_text (member_text object signal) arguments ++ given_text blocked (codes "blocked")
entry_kind_text (Called object slot arguments) = codes "call " ++ call_text (member_text object slot) arguments
entry_kind_text (Answered actions) = codes "native" ++ actions_text actions
entry_kind_text (Posted event_loop object method arguments) =
    codes "post " ++ event_loop ++ codes " " ++ call_text (member_text object method) arguments
entry_kind_text (Scheduled event_loop object) = codes "post " ++ event_loop ++ codes " ~" ++ object
entry_kind_text (Died object) = codes "dead " ++ object
entry_kind_text (Written object property value) = codes "set " ++ property_text object property value
entry_kind_text (Bound object property value) = codes "bind " ++ property_text object property value
entry_kind_text (Followed object property value) = codes "follow " ++ property_text object property value
entry_kind_text OnNull = codes "null"
entry_kind_text Grouped = codes "group"
entry_kind_text (Connected ends how) = codes "connect " ++ (ends_text ends ++ (codes " " ++ type_text how))
entry_kind_text (Disconnected ends) = codes "disconnect " ++ ends_text ends
entry_kind_text (RefusedStatement refusal) = codes "refused " ++ decimal refusal

-- `event n`, `event n refused k`; or the depth, and what happens at it
abbrev pub entry_line : Entry → List ℕ
entry_line (Accepted event) = codes "event " ++ decimal event ++ newline
entry_line (Refused event refusal) = codes "event " ++ decimal event ++ (codes " refused " ++ decimal refusal ++ newline)
entry_line (At depth entry_kind) = decimal depth ++ codes " " ++ entry_kind_text entry_kind ++ newline

-- the lines of the entries, in their order
abbrev pub trace_text : List Entry → List ℕ
trace_text entries = flat_map entry_line entries
