use Rattle.std.proofs.Common.{refl}
use Rattle.meta_model.proofs.OneAnswer.{base_smaller}
use Rattle.meta_model.proofs.meta.Meta.base.Goals as goal

pub returns-in-Some-clause-smaller : goal.returns-in-Some-clause-smaller
returns-in-Some-clause-smaller c = base_smaller c.args.self.now c.args.class c.in-Some.found.now c.in-Some.ensures.sound _ refl
