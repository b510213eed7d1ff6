use Rattle.std.proofs.Common.{◌≡◌, ◌∙◌, slice_get, Some, Any, arith, rules}
use Rattle.std.proofs.lemmas.Grind.{common_steps}
use Rattle.class_outlines.specs.declared.fault.MetaFault.TheVariants as fault
use Rattle.class_outlines.specs.Clashes.{HasTwoMembers}
use Rattle.class_outlines.specs.Indexed.{IsIndexed, AreIndexed}
use Rattle.class_outlines.proofs.Loading.{stopped}
use Rattle.class_outlines.proofs.OneMember.{none_longer, none_of_all}
use Rattle.class_outlines.proofs.Nexts.{is_next, two_of_all}
use Rattle.class_outlines.proofs.indexed.index_outlines.Goals as goal

pub index_outline-requires : goal.index_outline-requires
index_outline-requires c =
    let first : slice_get c.loop-outline.outline-iterator.rest.items 0 ≡ Some c.in-Some.outline = grind (arith, common_steps) in
    is_next c.args.program.now c.args.outlines.items c.requires c.loop-outline.yielded _ c.loop-outline.invariant.split c.in-Some.outline first c.loop-outline.invariant.each_once
    c.as_slice.result.now (c.as_slice.ensures ∙ c.loop-outline.invariant.same)

pub loop-outline-preserved : goal.loop-outline-preserved
loop-outline-preserved c = record {
  same = search rules;
  each_once = none_longer HasTwoMembers c.loop-outline.yielded c.in-Some.outline c.loop-outline.invariant.each_once c.in_ok-next.ensures.each_once;
  split = grind (arith, common_steps);
}

pub returns-in_err-next : goal.returns-in_err-next
returns-in_err-next c =
    let first : slice_get c.loop-outline.outline-iterator.rest.items 0 ≡ Some c.in-Some.outline = grind (arith, common_steps) in
    stopped c.args.program.now fault.DuplicateMember (HasTwoMembers c.in-Some.outline) (Any HasTwoMembers c.args.outlines.items) (IsIndexed c.in-Some.outline) (AreIndexed c.args.outlines.items) _ c.in_err-next.ensures
    (two_of_all c.loop-outline.yielded _ c.args.outlines.items c.loop-outline.invariant.split c.in-Some.outline first) _ c.from_residual.ensures.0 c.from_residual.ensures.1

pub returns : goal.returns
returns c =
    let all : c.loop-outline.yielded ≡ c.args.outlines.items = grind (arith, common_steps) in
    record { same = c.loop-outline.invariant.same ∙ all; each_once = none_of_all HasTwoMembers c.loop-outline.yielded c.args.outlines.items c.loop-outline.invariant.each_once all }
