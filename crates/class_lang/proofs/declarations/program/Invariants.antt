use Rattle.std.proofs.Common.{length}
use Rattle.class_lang.proofs.DeclarationLists.{ProgramSoFar}
use Rattle.class_lang.proofs.declarations.program.Given as goal

abbrev pub invariant-loop-cursor : goal.invariant-loop-cursor
invariant-loop-cursor l = ProgramSoFar l.fn.cursor l.program l.cursor

abbrev pub decreases-loop-cursor : goal.decreases-loop-cursor
decreases-loop-cursor l = length l.cursor
