use Rattle.std.proofs.Common.{◌≡◌, ◌+◌, take}
use Rattle.std.specs.Prelude.{sum_by}
use Rattle.class_lang.specs.Limits.{natives_of}
use Rattle.class_lang.proofs.limits.have_few_natives.Given as goal

abbrev pub invariant-loop-class : goal.invariant-loop-class
invariant-loop-class l = l.left + sum_by natives_of (take l.class-index l.classes) ≡ l.most
