use Rattle.object_machine.proofs.Prefixes as law
use Rattle.object_machine.proofs.laws.run_reads_no_trace.Goals as goal

pub returns : goal.returns
returns g c = law.run-reads-no-trace (g.N.Answering.gives c.args._natives.now)
