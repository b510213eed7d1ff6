use Rattle.effect_scan.proofs.sharing.order_gathered.Goals as goal

pub settle_all-requires-clause-count : goal.settle_all-requires-clause-count
settle_all-requires-clause-count c = rw c.as_slice.ensures c.in_ok-twins.ensures.count

pub settle_all-requires-clause-twins : goal.settle_all-requires-clause-twins
settle_all-requires-clause-twins c = rw c.as_slice.ensures c.in_ok-twins.ensures

pub returns-clause-alike : goal.returns-clause-alike
returns-clause-alike c = rw c.as_slice.ensures at c.in_ok-settle_all.ensures.alike
