-- A settling certificate as a text (docs/settling.md, "The certificate").
use Rattle.std.specs.Prelude.{ℕ, List, ◌++◌, codes, decimal}
use Rattle.std.specs.List.{flat_map}
use Rattle.certificate_lang.specs.declared.certificate.NodeName.{NodeName}
use Rattle.certificate_lang.specs.Texts.{node_text, listed_text}
use Rattle.settling.specs.declared.certificate.SettlingLine.{SettlingLine}
use Rattle.settling.specs.declared.certificate.SettlingSet.{SettlingSet}
use Rattle.settling.specs.declared.certificate.SettlingCertificate.{SettlingCertificate}

-- `bound B S`
abbrev pub depth_line : ℕ → ℕ → List ℕ
depth_line bound step = codes "bound " ++ (decimal bound ++ (codes " " ++ (decimal step ++ codes "\n")))

-- `NODE RANK STEP {ITEM}`
abbrev pub node_line : SettlingLine → List ℕ
node_line line =
    node_text line.node
    ++ (codes " " ++ (decimal line.rank ++ (codes " " ++ (decimal line.step ++ (flat_map listed_text line.destroys ++ codes "\n")))))

-- a node's text with a blank in front
abbrev pub listed_node : NodeName → List ℕ
listed_node node = codes " " ++ node_text node

-- `round R NODE {NODE}`
abbrev pub set_line : SettlingSet → List ℕ
set_line set = codes "round " ++ (decimal set.round ++ (flat_map listed_node set.members ++ codes "\n"))

-- the version, the bound and the step, the lines of the nodes and those of the sets
abbrev pub settling_text : SettlingCertificate → List ℕ
settling_text certificate =
    codes "settling 1\n"
    ++ (depth_line certificate.bound certificate.step ++ (flat_map node_line certificate.lines ++ flat_map set_line certificate.sets))
