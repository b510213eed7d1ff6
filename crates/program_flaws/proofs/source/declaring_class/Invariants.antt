use Rattle.program_flaws.proofs.source.declaring_class.Given as goal

abbrev pub decreases-loop-declaring : goal.decreases-loop-declaring
decreases-loop-declaring l = l.declaring
