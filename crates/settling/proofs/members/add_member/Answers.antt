use Rattle.settling.proofs.Entering.{no_node, met_before, put_now}
use Rattle.settling.proofs.members.add_member.Goals as goal

pub returns-in-NoNode : goal.returns-in-NoNode
returns-in-NoNode c = no_node c.args.meta.now c.args.name.now c.args.place c.args.places.now c.in-NoNode.ensures.1

pub returns-in-First : goal.returns-in-First
returns-in-First c =
    let put = c.in-First.ensures in
    rw put.put (put_now c.args.meta.now c.args.name.now c.args.place c.args.places.now put.number put.named put.only c.requires.count put.none)

pub returns-in-Before : goal.returns-in-Before
returns-in-Before c =
    let had = c.in-Before.ensures.1 in
    rw c.in-Before.ensures.0 (met_before c.args.meta.now c.args.name.now c.args.place c.args.places.now had.number had.named had.only c.in-Before.other had.had)
