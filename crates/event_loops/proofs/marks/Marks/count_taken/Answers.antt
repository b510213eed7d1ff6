use Rattle.std.proofs.Common.{◌≡◌, ◌∙◌, ℕ, Option, Some, sym, subst}
use Rattle.event_loops.specs.declared.item.Posted.{Posted}
use Rattle.event_loops.specs.code.Marks.{since_of}
use Rattle.event_loops.specs.code.Counts.{CountsFewer, CountsLess}
use Rattle.event_loops.proofs.Counted.{at_number}
use Rattle.event_loops.proofs.marks.Marks.count_taken.Goals as goal

pub returns-in-Some-clause-alike : goal.returns-in-Some-clause-alike
returns-in-Some-clause-alike c = λ q. c.count_less.ensures.kept q ∙ at_number (since_of c.args.self.now) c.object.result q

pub returns-in-Some-clause-counts : goal.returns-in-Some-clause-counts
returns-in-Some-clause-counts c =
    let fewer = subst (λ (o : ℕ). CountsFewer o c.args.self.now c.count_less.new.self) c.object.ensures c.count_less.ensures.counts in
    subst (λ (taken : Option Posted). CountsLess taken c.args.self.now c.count_less.new.self) (sym c.in-Some.is) fewer
