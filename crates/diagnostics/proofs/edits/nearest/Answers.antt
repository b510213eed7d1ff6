use Rattle.std.proofs.Common.{sym, arith}
use Rattle.diagnostics.proofs.Likely.{few_edits, word_among, word_at, seen_with, likely}
use Rattle.diagnostics.proofs.edits.nearest.Goals.{then-is_none, else-is_none+else-edits-least}
use Rattle.diagnostics.proofs.edits.nearest.Goals as goal

pub loop-word-preserved : goal.loop-word-preserved
loop-word-preserved c =
    let few = few_edits c.args.name.now c.in-Ok.name.now (word_at c.args.words.now c.loop-word.word-index) c.loop-word.least c.in-Some.edits c.in_ok-edits.field-0 c.in-Ok.ensures.cases.0 c.in-Some.is c.in_ok-edits.ensures in
    elim c.if-is_none.branch [
      | then-is_none w ↦ rw (w.found-is, w.least-is) record {
        third = omega (arith, few.1, c.loop-word.invariant.third);
        one_of = word_among c.args.words.now c.loop-word.word-index c.loop-word-test.true;
        least_is = sym few.0;
        seen = seen_with c.args.name.now c.args.words.now c.loop-word.word-index c.loop-word.least c.in-Some.edits c.loop-word-test.true few.1 c.loop-word.invariant.seen (omega (arith, few.0));
      }
      | else-is_none+else-edits-least w ↦ rw (w.found-is, w.least-is) record {
        third = c.loop-word.invariant.third;
        one_of = c.loop-word.invariant.one_of;
        least_is = c.loop-word.invariant.least_is;
        seen = seen_with c.args.name.now c.args.words.now c.loop-word.word-index c.loop-word.least c.loop-word.least c.loop-word-test.true (omega arith) c.loop-word.invariant.seen (omega (arith, few.0, w.if-edits-least.false));
      }
    ]

pub returns : goal.returns
returns c = likely c.args.name.now c.args.words.now c.loop-word.word-index c.loop-word.least c.loop-word.found c.loop-word-test.false c.loop-word.invariant.third c.loop-word.invariant.one_of c.loop-word.invariant.least_is c.loop-word.invariant.seen
