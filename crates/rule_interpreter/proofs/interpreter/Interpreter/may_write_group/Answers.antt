use Rattle.std.proofs.Common.{◌≡◌, suc, ◌+◌, ◌++◌, [], ◌∷◌, List, Option, Some, take, drop, sym, ap, ◌∙◌, subst, arith}
use Rattle.std.specs.Prelude.{IfSome}
use Rattle.std.proofs.lemmas.List.{take_more, take_all}
use Rattle.std.proofs.lemmas.Option.{slice_get-get_or}
use Rattle.prop_bindings.specs.declared.plans.assignment.Assignment.{Assignment}
use Rattle.prop_bindings.specs.Calls.{AllFit}
use Rattle.prop_bindings.specs.Fits.{FitsAt}
use Rattle.machine_state.specs.Telling.{Grouped, writes_of}
use Rattle.machine_rules.specs.Writing.{unfit}
use Rattle.rule_interpreter.proofs.Writes.{cut-at, fits-one, more-fit, unfit-one, unwritten-deep}
use Rattle.rule_interpreter.proofs.interpreter.Interpreter.may_write_group.Goals.{in-Some+else-not-fits, in_default}
use Rattle.rule_interpreter.proofs.interpreter.Interpreter.may_write_group.Goals as goal

pub returns-then-not-fits-clause-err : goal.returns-then-not-fits-clause-err
returns-then-not-fits-clause-err g c =
    let sets = c.args.sets.now in
    let i = c.loop-set.set-index in
    let stands = slice_get-get_or sets i c.set-item.result c.loop-set-test.true ∙ ap (λ (z : Option Assignment). Some z) (sym c.set-item.is ∙ c.in-Some.is) in
    unfit (record {
      front = writes_of (Grouped (take i sets));
      back = writes_of (Grouped (drop (suc i) sets));
      are = cut-at sets i c.in-Some.set stands;
      fit = c.loop-set.invariant;
    }) (unfit-one c.fits.ensures c.if-not-fits.true)

pub loop-set-preserved : goal.loop-set-preserved
loop-set-preserved g c =
    let meta = c.args.self.now.context.meta in
    let objects = c.args.world.now.store.tree in
    let sets = c.args.sets.now in
    let set = c.set-item.result in
    let passed = take c.loop-set.set-index sets in
    let Fits : Option Assignment → Type 0 = λ z. IfSome z (λ (a : Assignment). FitsAt meta objects a.place a.value) in
    let more : take (c.loop-set.set-index + 1) sets ≡ passed ++ set ∷ [] =
    take_more sets c.loop-set.set-index set c.loop-set-test.true ∙ ap (λ (z : Option Assignment). passed ++ z ∷ []) (sym c.set-item.is) in
    let fits : Fits set = elim c.match-set.branch [
      | in-Some+else-not-fits w ↦ subst Fits (sym w.in-Some.is) (fits-one w.fits.ensures w.if-not-fits.false)
      | in_default w ↦ subst Fits (sym w.in_default.is) tt
    ] in
    subst (λ (zs : List (Option Assignment)). AllFit meta objects (writes_of (Grouped zs))) (sym more) (more-fit meta objects passed set c.loop-set.invariant fits)

pub returns-clause-err : goal.returns-clause-err
returns-clause-err g c =
    let sets = c.args.sets.now in
    let objects = c.args.world.now.store.tree in
    let all : take c.loop-set.set-index sets ≡ sets = take_all c.loop-set.set-index sets (omega (arith, c.loop-set-test.false)) in
    let fit = subst (λ (zs : List (Option Assignment)). AllFit c.args.self.now.context.meta objects (writes_of (Grouped zs))) all c.loop-set.invariant in
    unwritten-deep c.args.self.now.context.meta c.args.self.now.context.depth c.args.active.now objects (writes_of (Grouped sets)) c.may_nest.result fit (rw c.count.ensures at c.may_nest.ensures)
