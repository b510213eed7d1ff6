use Rattle.std.proofs.Common.{sym, ap}
use Rattle.std.specs.Option.{option_map}
use Rattle.object_tree.specs.declared.life.Life.{Life}
use Rattle.machine_rules.specs.Judgement.{Numbered}
use Rattle.machine_rules.proofs.Waiting.{no-loop}
use Rattle.qt_runtime.proofs.QuietJudging.Deferring.{not-later, later-again, later-once}
use Rattle.qt_runtime.proofs.QuietWorlds.{quietly-unchanged, quietly-short, quietly-not-accepted}
use Rattle.qt_runtime.proofs.quiet.events.later.later.Goals as goal

pub returns-in-Err : goal.returns-in-Err
returns-in-Err c =
    quietly-not-accepted _ c.refuse.result (not-later c.args.context.now.meta c.args.world.now c.args.name.now c.in-Err.ensures.refused) c.refuse.ensures

pub returns-in_err-accept : goal.returns-in_err-accept
returns-in_err-accept c = quietly-unchanged _ _ c.in_err-accept.ensures c.from_residual.ensures.1

pub returns-then-life : goal.returns-then-life
returns-then-life c =
    let o : Numbered Life = record { number = c.in-Ok.number; it = c.in-Ok.life.now } in
    later-again c.args.context.now.meta c.args.world.now c.args.name.now o c.in-Ok.ensures.found c.if-life.true c.requires.keeps.sound.is.agree c.requires.idle c.in_ok-accept.ensures

pub unreachable-requires : goal.unreachable-requires
unreachable-requires c =
    let lives = ap (option_map (λ (l : Life). l.home)) c.in-Ok.ensures.found.lives in
    no-loop c.args.world.now.store.loops.loops c.in-Ok.life.now.home (c.requires.keeps.sound.is.housed.each c.in-Ok.number c.in-Ok.life.now.home lives) (rw c.in_default.is at c.name.ensures)

pub returns-in_err-copy : goal.returns-in_err-copy
returns-in_err-copy c = quietly-short _ _ c.from_residual-in_err-copy.ensures.1

pub returns-in_err-copy-2 : goal.returns-in_err-copy-2
returns-in_err-copy-2 c = quietly-short _ _ c.from_residual-in_err-copy-2.ensures.1

pub accept_schedule-requires-clause-home : goal.accept_schedule-requires-clause-home
accept_schedule-requires-clause-home c = λ life is. c.requires.keeps.sound.is.housed.each c.new.result life.home (ap (option_map (λ (l : Life). l.home)) is)

pub accept_schedule-requires-clause-unscheduled : goal.accept_schedule-requires-clause-unscheduled
accept_schedule-requires-clause-unscheduled c = rw c.new.ensures (record { life = c.in-Ok.life.now; lives = c.in-Ok.ensures.found.lives; unmarked = c.if-life.false })

pub returns-in_err-accept_schedule : goal.returns-in_err-accept_schedule
returns-in_err-accept_schedule c = quietly-unchanged _ _ c.in_err-accept_schedule.ensures c.from_residual-in_err-accept_schedule.ensures.1

pub returns : goal.returns
returns c =
    let o : Numbered Life = record { number = c.in-Ok.number; it = c.in-Ok.life.now } in
    later-once c.args.context.now.meta c.args.world.now c.args.name.now o c.in-Ok.ensures.found c.in-Some.event_loop.now (sym (rw c.in-Some.is at c.name.ensures)) c.if-life.false c.requires.keeps.sound.is.agree c.requires.idle
    (rw (c.in_ok-copy.ensures, c.in_ok-copy-2.ensures, c.new.ensures) at c.in_ok-accept_schedule.ensures)
