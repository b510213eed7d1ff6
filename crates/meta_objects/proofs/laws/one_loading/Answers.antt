use Rattle.meta_objects.proofs.FoundClasses as found
use Rattle.meta_objects.proofs.laws.one_loading.Goals as goal

pub returns : goal.returns
returns c = found.one_loading
