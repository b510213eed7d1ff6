use Rattle.effect_scan.proofs.Gathered.{list_known, list_pushed}
use Rattle.effect_scan.proofs.families.number_of.Goals as goal

pub returns-in-Some : goal.returns-in-Some
returns-in-Some c = list_known _ _ _ _ c.as_slice.ensures c.in-Some.ensures

pub returns : goal.returns
returns c = list_pushed _ _ _ _ _ c.len-number.ensures c.in_ok-copy.ensures c.in_ok-push.ensures.ok
