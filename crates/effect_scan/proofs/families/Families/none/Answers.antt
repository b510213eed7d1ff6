use Rattle.effect_scan.proofs.Gathered.{named_nothing}
use Rattle.effect_scan.proofs.families.Families.none.Goals as goal

pub invariant_of-result : goal.invariant_of-result
invariant_of-result c = named_nothing _ _ _ c.new.ensures.items c.new-2.ensures.items
