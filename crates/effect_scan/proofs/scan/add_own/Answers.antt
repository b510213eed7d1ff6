use Rattle.std.proofs.lemmas.Result.{IfOk-weaker}
use Rattle.effect_scan.specs.code.Adding.{Adds}
use Rattle.effect_scan.specs.code.Leading.{ClosuresLead, AddsOwn}
use Rattle.effect_scan.proofs.scan.add_own.Goals as goal

pub returns : goal.returns
returns c =
    IfOk-weaker c.add_closures.result (λ _. Adds (ClosuresLead c.args.places.now c.args.closures.now) c.add_notifiers.new.rows c.add_closures.new.rows)
    (λ _. AddsOwn c.args.meta.now c.args.places.now c.args.closures.now c.args.rows.now c.add_closures.new.rows)
    (λ x added.
    let all : AddsOwn c.args.meta.now c.args.places.now c.args.closures.now c.args.rows.now c.add_closures.new.rows = record {
      first = c.add_works.new.rows;
      second = c.add_notifiers.new.rows;
      works = rw c.classes.ensures.value at c.in_ok-add_works.ensures;
      notifiers = rw c.classes-2.ensures.value at c.in_ok-add_notifiers.ensures;
      closures = added;
    } in
    all)
    c.add_closures.ensures
