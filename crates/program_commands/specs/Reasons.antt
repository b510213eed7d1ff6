-- Why no certificate is valid, in a line (docs/commands.md, "The command certify").
use Rattle.std.specs.Prelude.{ℕ, suc, List, [], ◌++◌, codes, decimal, Option, None, Some, slice_get}
use Rattle.meta_model.specs.Loaded.{Loaded}
use Rattle.meta_model.specs.declared.site.MetaSite.{MetaSite}
use Rattle.effect_scan.specs.declared.node.Node.{Node}
use Rattle.type_check.specs.declared.spot.Spot.{Spot}
use Rattle.type_check.specs.declared.spot.Spot.TheVariants as spot
use Rattle.rank_make.specs.declared.why.Why.{Why}
use Rattle.rank_make.specs.declared.why.Why.TheVariants.{Wire, BodyType, Cycle, DestroyPath, TooHigh, Memory}
use Rattle.command_lines.specs.Lines.{newline}
use Rattle.command_lines.specs.NodeLines.{text_of_node, text_of_nodes}
use Rattle.program_commands.specs.Refusals.{memory_line}

-- what isn't there has no text
abbrev pub site_text : Option MetaSite → List ℕ
site_text None = []
site_text (Some site) = site.name

-- a node, or `binding N`
abbrev pub spot_text : Loaded → Spot → List ℕ
spot_text p (spot.Node x) = text_of_node p x
spot_text p (spot.Binding number) = codes "binding " ++ site_text (slice_get p.sites number)

-- what was found, and the nodes that show it
abbrev pub shown_by : List ℕ → Loaded → List Node → List ℕ
shown_by word p nodes = codes "no " ++ word ++ text_of_nodes p nodes ++ newline

-- a wire counts from 1
abbrev pub reason_line : Loaded → Why → List ℕ
reason_line p (Wire place) = codes "no wire " ++ decimal (suc place) ++ newline
reason_line p (BodyType found) = codes "no type " ++ spot_text p found ++ newline
reason_line p (Cycle nodes) = shown_by (codes "cycle") p nodes
reason_line p (DestroyPath nodes) = shown_by (codes "destroy") p nodes
reason_line p (TooHigh nodes) = shown_by (codes "high") p nodes
reason_line p Memory = memory_line

-- the exit status
abbrev pub reason_status : Why → ℕ
reason_status (Wire place) = 3
reason_status (BodyType found) = 3
reason_status (Cycle nodes) = 3
reason_status (DestroyPath nodes) = 3
reason_status (TooHigh nodes) = 3
reason_status Memory = 1
