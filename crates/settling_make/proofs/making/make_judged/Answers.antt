use Rattle.settling_make.specs.Makes.{IsMadeAlone}
use Rattle.settling_make.proofs.Validating.{made_valid}
use Rattle.settling_make.proofs.making.make_judged.Goals as goal

pub returns-in-Some : goal.returns-in-Some
returns-in-Some c =
    let alone : IsMadeAlone c.args.meta.now c.in-Some.certificate = rw c.in-Some.is at c.in_ok-flat.ensures in
    (made_valid c.args.meta.now c.classes-classes.ensures.sound c.edges_join_nodes.ensures c.in-Some.certificate c.in_ok-judge_program.ensures alone.settle alone.spared alone.made, alone.made)
