-- How the numbers that the edges from a node lead to are held.
use Rattle.std.specs.Prelude.{ℕ, List, []}
use Rattle.effect_scan.specs.declared.targets.HeldNumbers.{HeldNumbers}
use Rattle.effect_scan.specs.declared.targets.HeldNumbers.TheVariants.{Nothing, One, Common, Own}

-- the numbers
abbrev pub held_list : HeldNumbers → List ℕ
held_list Nothing = []
held_list (One list) = list
held_list (Common list) = list
held_list (Own list) = list
