use Rattle.class_outlines.proofs.outlining.find_base.Goals as goal

pub returns-in-Some : goal.returns-in-Some
returns-in-Some c = rw c.in-Some.is c.find.ensures

pub returns-in-None : goal.returns-in-None
returns-in-None c = rw c.in-None.is (rw c.requires at c.find-in-None.ensures)
