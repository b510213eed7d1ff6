use Rattle.std.proofs.Common.{◌≡◌, take}
use Rattle.machine_state.specs.Objects.{all_shown}
use Rattle.machine_state.proofs.changes.showing.show_all.Given as goal

abbrev pub invariant-loop-value : goal.invariant-loop-value
invariant-loop-value l = l.texts ≡ all_shown l.objects (take l.value-index l.values)
