use Rattle.std.proofs.Common.{ap}
use Rattle.std.specs.Option.{option_map}
use Rattle.object_tree.specs.declared.life.Life.{Life}
use Rattle.object_tree.proofs.Changing.{life-of-lives}
use Rattle.run_context.proofs.Linking.{schedule-made, schedule-gone, schedule-again}
use Rattle.machine_rules.proofs.Waiting.{no-loop}
use Rattle.run_context.proofs.context.RunContext.schedule.Goals as goal

pub unreachable-requires : goal.unreachable-requires
unreachable-requires c =
    let lives = ap (option_map (λ (l : Life). l.home)) (life-of-lives c.in-Some.ensures.value) in
    no-loop c.args.world.now.store.loops.loops c.in-Some.life.now.home (c.requires.sound.is.housed.each c.args.object c.in-Some.life.now.home lives) (rw c.in_default-name.is at c.name.ensures)

pub schedule-requires-clause-home : goal.schedule-requires-clause-home
schedule-requires-clause-home c = λ life is. c.requires.sound.is.housed.each c.args.object life.home (ap (option_map (λ (l : Life). l.home)) is)

pub schedule-requires-clause-unscheduled : goal.schedule-requires-clause-unscheduled
schedule-requires-clause-unscheduled c = record { life = c.in-Some.life.now; lives = life-of-lives c.in-Some.ensures.value; unmarked = c.if-life.false }

pub returns-in_default : goal.returns-in_default
returns-in_default c = schedule-gone c.args.world.now c.tick.new.self c.args.depth c.args.object c.tick.result c.in_default.ensures.value c.requires.left c.tick.ensures

pub returns-then-life : goal.returns-then-life
returns-then-life c = schedule-again c.args.world.now c.tick-then-life.new.self c.args.depth c.args.object c.tick-then-life.result c.in-Some.ensures.value c.if-life.true c.requires.left c.tick-then-life.ensures

pub returns : goal.returns
returns c =
    schedule-made c.args.world.now c.schedule.new.self c.args.depth c.args.object c.schedule.result c.in-Some.ensures.value c.if-life.false (rw c.in-Some-name.is at c.name.ensures) (rw (c.in_ok-copy.ensures, c.in_ok-copy-2.ensures) at c.schedule.ensures)
