use Rattle.effect_scan.specs.code.NodePlaces.{InBelow}
use Rattle.effect_scan.proofs.Gathering.{just_gathered}
use Rattle.effect_scan.proofs.places.NodePlaces.below.Goals as goal

pub returns : goal.returns
returns c = just_gathered (InBelow c.args.self.now c.args.class c.args.member) _ _ c.new-found.ensures c.in_ok-add_below.ensures
