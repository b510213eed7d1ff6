use Rattle.std.proofs.Common.{◌∙◌}
use Rattle.settling.proofs.Entering.{none_added, one_added, one_clashes, all_added}
use Rattle.settling.proofs.members.add_members.Goals as goal

pub loop-name-init : goal.loop-name-init
loop-name-init c = none_added c.args.meta.now c.args.members.now c.args.place c.args.places.now

pub add_member-requires-clause-count : goal.add_member-requires-clause-count
add_member-requires-clause-count c = c.loop-name.invariant.puts.count ∙ c.requires.count

pub returns-then-not-add_member : goal.returns-then-not-add_member
returns-then-not-add_member c =
    one_clashes c.args.meta.now c.args.members.now c.args.place c.args.places.now c.loop-name.name-index c.name-item.result c.loop-name-test.true c.name-item.is c.loop-name.places c.loop-name.invariant c.if-not-add_member.ensures

pub loop-name-preserved : goal.loop-name-preserved
loop-name-preserved c =
    one_added c.args.meta.now c.args.members.now c.args.place c.args.places.now c.loop-name.name-index c.name-item.result c.loop-name-test.true c.name-item.is c.loop-name.places c.loop-name.invariant _ c.if-not-add_member.ensures

pub returns : goal.returns
returns c = all_added c.args.meta.now c.args.members.now c.args.place c.args.places.now c.loop-name.name-index c.loop-name.places c.loop-name-test.false c.loop-name.invariant
