use Rattle.std.proofs.Common.{sym, ◌∙◌}
use Rattle.std.proofs.lemmas.Option.{none-some}
use Rattle.rank_make.proofs.Placed.{class_of, has_member}
use Rattle.rank_make.proofs.naming.node_name.Goals as goal

pub unreachable-requires : goal.unreachable-requires
unreachable-requires c = let class = class_of c.args.meta.now c.args.node c.requires in none-some class.0 (c.in_default.ensures.value ∙ class.1.is)

pub member_name-requires : goal.member_name-requires
member_name-requires c = has_member c.args.meta.now c.args.node c.requires c.in-Some.class.now (record { is = sym c.in-Some.ensures.value }) c.in-Some.ensures.sound
