use Rattle.std.proofs.Common.{◌<◌}
use Rattle.meta_model.specs.Members.{Below}
use Rattle.effect_scan.specs.code.Adding.{Adds}
use Rattle.effect_scan.proofs.lineage.add_lineage.Given as goal

abbrev pub invariant-loop-class : goal.invariant-loop-class
invariant-loop-class l = Adds (λ c d. (d < l.class) × Below l.meta d c) l.initial.rows l.rows
