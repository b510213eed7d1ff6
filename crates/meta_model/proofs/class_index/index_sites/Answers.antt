use Rattle.meta_model.specs.declared.site.MetaSite.{MetaSite}
use Rattle.name_indexes.proofs.Indexing.{names_more, names_all}
use Rattle.meta_model.proofs.class_index.index_sites.Goals as goal

pub loop-number-preserved : goal.loop-number-preserved
loop-number-preserved c =
    names_more (λ (site : MetaSite). site.name) _ _ _ c.loop-number-test.true c.index-sites-number.is _ _ c.in_ok-insert.ensures.ok c.loop-number.invariant

pub returns : goal.returns
returns c = names_all (λ (site : MetaSite). site.name) _ _ c.loop-number-test.false _ c.loop-number.invariant
