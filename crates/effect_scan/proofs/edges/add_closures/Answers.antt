use Rattle.std.proofs.Common.{refl, sym, ap, ◌∙◌, Some, List, ℕ}
use Rattle.std.proofs.lemmas.Option.{slice_get_read}
use Rattle.effect_scan.specs.code.Leading.{ClosureLeads}
use Rattle.effect_scan.proofs.Adding.{adds_more, adds_all}
use Rattle.effect_scan.proofs.edges.add_closures.Goals as goal

pub loop-class-preserved : goal.loop-class-preserved
loop-class-preserved c =
    adds_more (ClosureLeads c.args.places.now) c.args.closures.now _ _ _ _ _
    (slice_get_read _ _ _ _ refl c.loop-class-test.true c.index-closures-class.is ∙ ap (λ (l : List ℕ). Some l) (sym c.as_slice.ensures)) c.loop-class.invariant c.in_ok-add_closure.ensures

pub returns : goal.returns
returns c = adds_all (ClosureLeads c.args.places.now) c.args.closures.now _ _ _ c.loop-class-test.false c.loop-class.invariant
