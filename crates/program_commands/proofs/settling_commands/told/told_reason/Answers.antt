use Rattle.std.proofs.Common.{List, inl, inr, refl, sym, subst}
use Rattle.effect_scan.specs.declared.node.Node.{Node}
use Rattle.rank_make.specs.declared.why.Why.TheVariants.{TooHigh}
use Rattle.program_commands.specs.Settling.{IsToldReason}
use Rattle.program_commands.proofs.settling_commands.told.told_reason.Goals as goal

pub circle_nodes-requires : goal.circle_nodes-requires
circle_nodes-requires c = (rw c.in-Circling.is at c.requires).1

pub ending_nodes-requires : goal.ending_nodes-requires
ending_nodes-requires c = (rw c.in-Ending.is at c.requires).1

pub returns-in-Wire-clause-told : goal.returns-in-Wire-clause-told
returns-in-Wire-clause-told c = rw c.in-Wire.is at c.requires

pub returns-in-BodyType-clause-told : goal.returns-in-BodyType-clause-told
returns-in-BodyType-clause-told c = rw c.in-BodyType.is at c.requires

pub returns-in-Ok-clause-told : goal.returns-in-Ok-clause-told
returns-in-Ok-clause-told c = let r = rw c.in-Circling.is at c.requires in (r.0, c.in-Ok.ensures, r.2)

pub returns-in-Ok-ending_nodes-clause-told : goal.returns-in-Ok-ending_nodes-clause-told
returns-in-Ok-ending_nodes-clause-told c = let r = rw c.in-Ending.is at c.requires in (r.0, c.in-Ok-ending_nodes.ensures, r.2)

pub returns-in-Ok-from_slice-clause-told : goal.returns-in-Ok-from_slice-clause-told
returns-in-Ok-from_slice-clause-told c =
    let r = rw c.in-TooLong.is at c.requires in
    subst (λ (ns : List Node). IsToldReason c.args.meta.now (TooHigh ns)) (sym c.in-Ok-from_slice.ensures) (r.0, r.1, refl, r.2)
