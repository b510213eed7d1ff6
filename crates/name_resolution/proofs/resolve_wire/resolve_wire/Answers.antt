use Rattle.std.proofs.Common.{arith}
use Rattle.class_outlines.specs.declared.fault.MetaFault.TheVariants as fault
use Rattle.class_outlines.proofs.Loading.{lacking}
use Rattle.name_resolution.proofs.Ends.{one_end}
use Rattle.name_resolution.proofs.resolve_wire.resolve_wire.Goals as goal

pub returns-in_default : goal.returns-in_default
returns-in_default c = lacking fault.NoMember _ _ c.no_end.ensures (λ loaded is. c.in_default.ensures _ _ is.from)

pub returns-in_default-method_end : goal.returns-in_default-method_end
returns-in_default-method_end c = lacking fault.NoMember _ _ c.no_end-in_default-method_end.ensures (λ loaded is. c.in_default-method_end.ensures _ _ is.to)

pub returns-else-method-gt-OBJECT_NAME_CHANGED : goal.returns-else-method-gt-OBJECT_NAME_CHANGED
returns-else-method-gt-OBJECT_NAME_CHANGED c =
    lacking fault.NoMember _ _ c.no_end-else-method-gt-OBJECT_NAME_CHANGED.ensures
    (λ loaded is.
    let same = one_end _ _ _ _ _ _ _ is.to c.in-Some-method_end.ensures in
    let one = same.1 in
    let called = is.called in
    omega arith)
