use Rattle.std.proofs.Common.{◌↔◌}
use Rattle.meta_model.specs.Members.{Covers}
use Rattle.meta_model.proofs.meta.Meta.covers.Given as goal

-- what holds of the class that was reached holds of the sender's
abbrev pub invariant-classes : goal.invariant-classes
invariant-classes l = Covers l.self l.class l.from.sig.now l.to.class l.to.sig.now l.kind ↔ Covers l.self l.from.class l.from.sig.now l.to.class l.to.sig.now l.kind

abbrev pub decreases-classes : goal.decreases-classes
decreases-classes l = l.class
