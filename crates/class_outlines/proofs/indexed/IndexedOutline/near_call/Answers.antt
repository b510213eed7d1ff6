use Rattle.std.proofs.Common.{inl, inr}
use Rattle.class_outlines.proofs.indexed.IndexedOutline.near_call.Goals as goal

pub returns-in-Some : goal.returns-in-Some
returns-in-Some c = inl (_, _, c.in-Some.ensures.value, c.near_of.ensures)

pub returns-in-None : goal.returns-in-None
returns-in-None c = inr (c.in-None.ensures.value, rw c.methods.ensures at c.near_name.ensures)
