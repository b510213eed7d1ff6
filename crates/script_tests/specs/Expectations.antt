-- Whether an event went as a script expects (docs/session.md).
use Rattle.std.specs.Prelude.{◌≡◌, ◌⊎◌, Some, None, IfSome, IsSome}
use Rattle.script_tests.specs.declared.expected.Expected.{Expected}
use Rattle.script_tests.specs.declared.happened.Happened.{Happened}

-- It was answered so, or, where the run is to stop, the run ended before it was. The run stopped with the fault that is
-- expected, or went on where none is; and where lines are expected, it wrote these and no others.
pub record WentAsExpected (e : Expected) (h : Happened) : Type 0 where
  pub answered : (h.answer ≡ Some e.answer) ⊎ ((h.answer ≡ None) × IsSome e.fault)
  pub stopped : h.fault ≡ e.fault
  pub wrote : IfSome e.lines (λ lines. lines.items ≡ h.lines.now)
