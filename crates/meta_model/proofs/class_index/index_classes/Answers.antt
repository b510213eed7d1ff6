use Rattle.meta_model.specs.declared.object.MetaObject.{MetaObject}
use Rattle.name_indexes.proofs.Indexing.{names_more, names_all}
use Rattle.meta_model.proofs.class_index.index_classes.Goals as goal

pub loop-number-preserved : goal.loop-number-preserved
loop-number-preserved c =
    names_more (λ (class : MetaObject). class.name) _ _ _ c.loop-number-test.true c.index-classes-number.is _ _ c.in_ok-insert.ensures.ok c.loop-number.invariant

pub returns : goal.returns
returns c = names_all (λ (class : MetaObject). class.name) _ _ c.loop-number-test.false _ c.loop-number.invariant
