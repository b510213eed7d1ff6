use Rattle.std.proofs.Common.{refl}
use Rattle.object_tree.specs.Creating.{no_memory}
use Rattle.qt_runtime.proofs.quiet.accepting.accept_creation.Goals as goal

pub returns-in_default-clause-objects : goal.returns-in_default-clause-objects
returns-in_default-clause-objects c = (no_memory, refl)
