use Rattle.meta_model.proofs.class_index.ClassIndex.new.Goals as goal

pub returns : goal.returns
returns c = record { names = c.in_ok-names.ensures; members = c.requires }
