use Rattle.std.proofs.Common.{arith}
use Rattle.name_resolution.proofs.Ends.{one_end}
use Rattle.name_resolution.proofs.resolve_native.emitted.Goals as goal

pub returns-in_default : goal.returns-in_default
returns-in_default c = λ m has. c.in_default.ensures _ _ has.is

pub returns-else-signal-gt-OBJECT_NAME_CHANGED : goal.returns-else-signal-gt-OBJECT_NAME_CHANGED
returns-else-signal-gt-OBJECT_NAME_CHANGED c = λ m has.
    let same = one_end _ _ _ _ _ _ _ has.is c.in-Some.ensures in
    let one = same.1 in
    let emitted = has.emitted in
    omega arith
