use Rattle.run_context.proofs.answers.+declaring.Given as goal

abbrev pub decreases-declaring : goal.decreases-declaring
decreases-declaring l = l.class
