use Rattle.std.proofs.Common.{refl}
use Rattle.std.specs.Prelude.{Any}
use Rattle.basic_types.specs.declared.sig.Sig.{Sig}
use Rattle.class_outlines.specs.Natives.{IsPointer}
use Rattle.class_outlines.proofs.Offending.{none_further, any_met, none_met}
use Rattle.meta_objects.proofs.native_types.emitted_reference.Goals as goal

pub loop-sig-preserved : goal.loop-sig-preserved
loop-sig-preserved c =
    none_further (λ (sig : Sig). Any IsPointer sig.types) c.args.signals.now c.args.signals.now refl c.loop-sig.sig-index c.sig-item.result
    c.loop-sig.invariant c.loop-sig-test.true c.sig-item.is (rw c.as_slice.ensures at c.in_default.ensures)

pub returns-in-Some : goal.returns-in-Some
returns-in-Some c = (any_met (λ (sig : Sig). Any IsPointer sig.types) c.args.signals.now c.args.signals.now refl c.loop-sig.sig-index c.sig-item.result c.loop-sig-test.true c.sig-item.is (rw c.as_slice.ensures at c.in-Some.ensures), rw c.reference.ensures refl)

pub returns : goal.returns
returns c =
    none_met (λ (sig : Sig). Any IsPointer sig.types) c.args.signals.now c.args.signals.now refl c.loop-sig.sig-index c.loop-sig.invariant c.loop-sig-test.false
