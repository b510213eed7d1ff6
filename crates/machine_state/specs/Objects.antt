-- How values are written down (docs/machine.md, "Objects").
use Rattle.std.specs.Prelude.{ℕ, List, map, Option}
use Rattle.std.specs.Option.{option_and_then, option_map_or}
use Rattle.basic_types.specs.declared.value.Value.{Value}
use Rattle.basic_types.specs.declared.value.Value.TheVariants as value
use Rattle.object_tree.specs.declared.object.Object.{Object}
use Rattle.object_tree.specs.Objects.{name_of}
use Rattle.object_tree.specs.Seen.{seen_reference}
use Rattle.trace_entries.specs.declared.entry.Shown.{Shown}
use Rattle.trace_entries.specs.declared.entry.Shown.TheVariants as show

-- a value is written down as it reads, and a reference as the object's name or as null
abbrev pub shown : List Object → Value → Shown
shown objects (value.Int n) = show.Int n
shown objects (value.Bool b) = show.Bool b
shown objects (value.Text t) = show.Text t
shown objects (value.Ref r) =
    option_map_or show.Object (option_and_then (name_of objects) (seen_reference objects r)) show.Null

abbrev pub all_shown : List Object → List Value → List Shown
all_shown objects values = map (shown objects) values

-- ---- parts of these, as the code does them

-- a name, or null where there is none
abbrev pub shown_name : Option (List ℕ) → Shown
shown_name name = option_map_or show.Object name show.Null

-- a reference that reads so
abbrev pub shown_reference : List Object → Option ℕ → Shown
shown_reference objects reads = shown_name (option_and_then (name_of objects) reads)
