use Rattle.std.proofs.Common.{List, ℕ, ◌∙◌, ap, refl, arith}
use Rattle.effect_scan.specs.Rows.{row}
use Rattle.settling_make.specs.Collected.{LeadsOut}
use Rattle.settling_make.proofs.Collecting.{collected_none, collected_more, collected_all}
use Rattle.settling_make.proofs.outer.outer_row.Goals as goal

pub loop-member-init : goal.loop-member-init
loop-member-init c = collected_none (LeadsOut c.args.scan.now.rows c.args.found.now.numbers c.args.component) c.row_at-member-items.result.now _ c.new-others.ensures

pub loop-member-preserved : goal.loop-member-preserved
loop-member-preserved c = collected_more (LeadsOut c.args.scan.now.rows c.args.found.now.numbers c.args.component) c.row_at-member-items.result.now c.loop-member.member-index _ _ _ c.loop-member-test.true refl c.in_ok-add_outer.ensures c.loop-member.invariant

pub returns : goal.returns
returns c =
    collected_all (LeadsOut c.args.scan.now.rows c.args.found.now.numbers c.args.component) (row c.args.found.now.sets c.args.component) c.row_at-member-items.result.now c.loop-member.member-index _
    (c.row_at-member-items.ensures ∙ ap (λ (l : List (List ℕ)). row l c.args.component) c.as_slice.ensures) (omega arith) c.loop-member.invariant
