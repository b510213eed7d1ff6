-- Why nodes have no ranks (docs/certificate.md, "The maker").
use Rattle.std.specs.Prelude.{ℕ, List}
use Rattle.rank_graph.specs.Graphs.{IsToldCycle}
use Rattle.rank_graph.specs.declared.fault.Unranked.{Unranked}
use Rattle.rank_graph.specs.declared.fault.Unranked.TheVariants.{Cycle, Memory}

-- what is named is a cycle; of memory nothing is said
abbrev pub IsUnranked : List (List ℕ) → Unranked → Type 0
IsUnranked rows (Cycle nodes) = IsToldCycle rows nodes
IsUnranked rows Memory = Unit {0}
