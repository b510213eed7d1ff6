use Rattle.name_resolution.proofs.resolve_object.notify_of.Goals as goal

pub returns-in-Some : goal.returns-in-Some
returns-in-Some c = rw c.in-Some.is c.place_of_signal.ensures
