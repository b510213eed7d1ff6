use Rattle.std.proofs.Common.{subst}
use Rattle.meta_model.specs.Indexes.{IndexesSites}
use Rattle.meta_model.specs.Loaded.{Loaded}
use Rattle.meta_model.specs.Sound.{IsSound}
use Rattle.meta_model.proofs.Indexing.{site_found}
use Rattle.meta_model.proofs.OneAnswer.{one_site, only_of}
use Rattle.meta_model.proofs.meta.Meta.site.Goals as goal

pub returns : goal.returns
returns c =
    let index = subst (λ (p : Loaded). IndexesSites p.sites c.self.inside.site_names) c.self.view_is c.self.invariant.2 in
    let found = site_found c.args.self.now c.self.inside.site_names index c.args.name.now in
    record {
      value = rw c.find.ensures found;
      only = rw c.find.ensures (only_of _ _ (one_site c.args.self.now (subst IsSound c.self.view_is c.self.invariant.0) c.args.name.now) _ found);
    }
