use Rattle.std.proofs.Common.{length, refl}
use Rattle.std.proofs.lemmas.Option.{slice_get_read}
use Rattle.edge_reasons.specs.Order.{with_parts}
use Rattle.edge_reasons.specs.code.Finds.{Finds}
use Rattle.edge_reasons.proofs.Finding.{finds_here}
use Rattle.edge_reasons.proofs.Numbering.{have_numbers}
use Rattle.edge_reasons.proofs.numbered.statement_at.Goals as goal

pub returns-in-Break-clause-numbered : goal.returns-in-Break-clause-numbered
returns-in-Break-clause-numbered c =
    let found : Finds (with_parts c.index-body-place.result) c.loop-place.left c.found_in.result = c.found_in.ensures in
    record {
      is = finds_here c.args.body.now c.loop-place.place c.index-body-place.result c.loop-place-test.true c.index-body-place.is c.args.number c.loop-place.left c.loop-place.invariant c.in-Break.statement c.in-Break.ensures;
      outer = c.index-body-place.result;
      stands = slice_get_read c.args.body.now (length c.args.body.now) c.loop-place.place c.index-body-place.result refl c.loop-place-test.true c.index-body-place.is;
      before = c.loop-place.left;
      counted = c.loop-place.invariant;
      within = c.in-Break.ensures;
      inner = refl;
    }

pub returns-in-Break-clause-order : goal.returns-in-Break-clause-order
returns-in-Break-clause-order c = have_numbers c.args.body.now

pub returns-clause-order : goal.returns-clause-order
returns-clause-order c = have_numbers c.args.body.now
