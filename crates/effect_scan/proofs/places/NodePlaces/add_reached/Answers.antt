use Rattle.effect_scan.proofs.places.NodePlaces.add_reached.Goals as goal

pub returns-in-Own : goal.returns-in-Own
returns-in-Own c = rw c.in-Own.is c.add_one.ensures

pub returns-in-Below : goal.returns-in-Below
returns-in-Below c = rw c.in-Below.is c.add_below.ensures
