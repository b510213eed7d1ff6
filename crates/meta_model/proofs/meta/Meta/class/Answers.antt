use Rattle.std.proofs.Common.{subst}
use Rattle.meta_model.specs.Indexes.{IsIndexOf}
use Rattle.meta_model.specs.Loaded.{Loaded}
use Rattle.meta_model.specs.Sound.{IsSound}
use Rattle.meta_model.proofs.Indexing.{class_found}
use Rattle.meta_model.proofs.OneAnswer.{one_class, only_of}
use Rattle.meta_model.proofs.meta.Meta.class.Goals as goal

pub returns : goal.returns
returns c =
    let index = subst (λ (p : Loaded). IsIndexOf p.classes c.self.inside.index) c.self.view_is c.self.invariant.1 in
    let found = class_found c.args.self.now c.self.inside.index index c.args.name.now in
    record {
      value = rw c.class.ensures found;
      only = rw c.class.ensures (only_of _ _ (one_class c.args.self.now (subst IsSound c.self.view_is c.self.invariant.0) c.args.name.now) _ found);
    }
