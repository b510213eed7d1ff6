use Rattle.std.proofs.Common.{List, length, ap, ◌∙◌, subst, true, false}
use Rattle.effect_scan.specs.declared.node.Node.{Node}
use Rattle.certificate_lang.specs.declared.certificate.NodeName.{NodeName}
use Rattle.rank_check.proofs.Elements.{at_index}
use Rattle.settling.specs.code.Members.{AddsMembers}
use Rattle.settling.proofs.Entering.{no_sets, set_more, set_clashes, sets_placed}
use Rattle.settling.proofs.members.set_places.Goals as goal

pub loop-place-init : goal.loop-place-init
loop-place-init c = rw c.in_ok-places.ensures (no_sets c.args.meta.now c.args.sets.now _ (ap (λ (ns : List Node). length ns) (c.nodes.ensures ∙ c.requires.nodes)))

pub add_members-requires-clause-count : goal.add_members-requires-clause-count
add_members-requires-clause-count c = c.loop-place.invariant.counted

pub returns-then-not-add_members : goal.returns-then-not-add_members
returns-then-not-add_members c =
    set_clashes c.args.meta.now c.args.sets.now c.loop-place.place c.index-sets-place.result (at_index c.args.sets.now c.loop-place.place c.index-sets-place.result c.loop-place-test.true c.index-sets-place.is) c.loop-place.places c.loop-place.invariant c.add_members.new.places
    (subst (λ (ms : List NodeName). AddsMembers c.args.meta.now ms c.loop-place.place c.loop-place.places false c.add_members.new.places) c.as_slice.ensures c.if-not-add_members.ensures)

pub loop-place-preserved : goal.loop-place-preserved
loop-place-preserved c =
    set_more c.args.meta.now c.args.sets.now c.loop-place.place c.index-sets-place.result (at_index c.args.sets.now c.loop-place.place c.index-sets-place.result c.loop-place-test.true c.index-sets-place.is) c.loop-place.places c.loop-place.invariant c.add_members.new.places
    (subst (λ (ms : List NodeName). AddsMembers c.args.meta.now ms c.loop-place.place c.loop-place.places true c.add_members.new.places) c.as_slice.ensures c.if-not-add_members.ensures)

pub returns : goal.returns
returns c = sets_placed c.args.meta.now c.args.sets.now c.loop-place.place c.loop-place.places c.loop-place-test.false c.loop-place.invariant
