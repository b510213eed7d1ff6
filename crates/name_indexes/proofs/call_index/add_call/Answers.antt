use Rattle.std.proofs.Common.{sym}
use Rattle.name_indexes.proofs.Indexing.{adds_in_front, had_behind}
use Rattle.name_indexes.proofs.call_index.add_call.Goals as goal

pub returns-in-Some-clause-added : goal.returns-in-Some-clause-added
returns-in-Some-clause-added c = had_behind c.args.own.now.items c.args.base.now c.args.name.now c.args.count c.args.place _ (sym c.in-Some.ensures)

pub returns-in_ok-add_own-in-None-clause-added : goal.returns-in_ok-add_own-in-None-clause-added
returns-in_ok-add_own-in-None-clause-added c =
    adds_in_front c.args.own.now.items c.add_own.new.own.items c.args.base.now c.args.name.now c.args.count c.args.place (sym c.in-None.ensures) c.in_ok-add_own-in-None.ensures

pub returns-in_ok-add_own-in-None-clause-others : goal.returns-in_ok-add_own-in-None-clause-others
returns-in_ok-add_own-in-None-clause-others c = λ count other not. c.in_ok-add_own-in-None.ensures.others count other (λ both. not both.0)
