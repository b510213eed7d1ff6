use Rattle.std.proofs.Common.{◌≡◌, take, map}
use Rattle.class_outlines.specs.Outlines.{signal_heading}
use Rattle.class_outlines.proofs.outlining.signal_headings.Given as goal

abbrev pub invariant-loop-signal : goal.invariant-loop-signal
invariant-loop-signal l = l.headings ≡ map signal_heading (take l.signal-index l.signals)
