use Rattle.connections.proofs.removing.remove.Goals as goal

pub places_for-requires : goal.places_for-requires
places_for-requires c = (c.requires.led.0, c.requires.led.1.all.rising)
