use Rattle.std.proofs.Common.{subst}
use Rattle.meta_model.specs.Indexes.{IsIndexOf}
use Rattle.meta_model.specs.Loaded.{Loaded}
use Rattle.meta_model.specs.Sound.{IsSound}
use Rattle.meta_model.proofs.Indexing.{property_found}
use Rattle.meta_model.proofs.OneAnswer.{one_property, only_of}
use Rattle.meta_model.proofs.meta.Meta.property.Goals as goal

pub returns : goal.returns
returns c =
    let index = subst (λ (p : Loaded). IsIndexOf p.classes c.self.inside.index) c.self.view_is c.self.invariant.1 in
    let found = property_found c.args.self.now c.self.inside.index index c.args.class c.args.name.now in
    record {
      value = rw c.property.ensures found;
      only =
          rw c.property.ensures
          (only_of _ _ (one_property c.args.self.now (subst IsSound c.self.view_is c.self.invariant.0) c.args.class c.args.name.now) _ found);
    }
