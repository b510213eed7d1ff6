use Rattle.class_outlines.specs.declared.outline.Outline.{Outline}
use Rattle.name_indexes.proofs.Indexing.{names_more, names_all}
use Rattle.class_outlines.proofs.class_table.index_names.Goals as goal

pub loop-number-preserved : goal.loop-number-preserved
loop-number-preserved c =
    names_more (λ (o : Outline). o.name) _ _ _ c.loop-number-test.true c.index-classes-number.is _ _ (rw c.name.ensures at c.in_ok-insert.ensures.ok) c.loop-number.invariant

pub returns : goal.returns
returns c = names_all (λ (o : Outline). o.name) _ _ c.loop-number-test.false _ c.loop-number.invariant
