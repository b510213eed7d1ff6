use Rattle.std.proofs.Common.{◌∙◌}
use Rattle.rank_make.proofs.Told.{class_read, path_inside, path_told}
use Rattle.rank_make.proofs.reasons.destroy_path.Goals as goal

pub path_to-requires-clause-classes : goal.path_to-requires-clause-classes
path_to-requires-clause-classes c = rw (c.rows.ensures, c.as_slice.ensures, c.in_ok-own.ensures) c.requires.solved.classes

pub nodes_at-requires : goal.nodes_at-requires
nodes_at-requires c =
    path_inside c.args.meta.now c.args.scan.now c.requires.scan c.rows.result.now c.as_slice.result.now c.in-Some.from _ c.in_ok-numbers.numbers _ c.in-Some.ensures.0 c.rows.ensures c.in-Some.ensures.1.at c.in_ok-numbers.ensures c.as_slice-2.ensures

pub returns : goal.returns
returns c =
    let ends = c.in-Some.ensures.1 in
    path_told c.args.meta.now c.args.scan.now c.requires.scan c.rows.result.now c.as_slice.result.now c.in-Some.from _ c.in_ok-numbers.numbers _ c.in_ok-nodes.nodes c.in-Some.ensures.0 c.rows.ensures (c.as_slice.ensures ∙ c.in_ok-own.ensures) ends.at ends.body
    (class_read c.args.meta.now c.nodes.result.now c.in-Some.from c.in-Some.ensures.0 _ (c.nodes.ensures ∙ c.requires.scan.nodes) ends.at) c.in_ok-numbers.ensures c.as_slice-2.ensures c.in_ok-nodes.ensures
