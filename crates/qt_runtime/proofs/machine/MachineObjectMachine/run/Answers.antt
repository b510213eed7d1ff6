use Rattle.std.proofs.Common.{◌≡◌, ◌+◌, ◌++◌, [], ◌∷◌, List, take, drop, sym, ap, ◌∙◌, subst, take-append-drop}
use Rattle.std.proofs.lemmas.List.{take_more, drop_more}
use Rattle.script_lang.specs.declared.event.Event.{Event}
use Rattle.object_machine.specs.Seen.{RunsAll}
use Rattle.object_machine.proofs.Applying.{completes-none, completes-then, limit-behind, run-stops}
use Rattle.qt_runtime.proofs.Checking.{claims-hold, sound-of}
use Rattle.qt_runtime.proofs.machine.MachineObjectMachine.run.Goals as goal

pub loop-event-init : goal.loop-event-init
loop-event-init g c = record { taken = ([], completes-none (sym c.is_stopped.ensures.value ∙ c.if-is_stopped.false) (c.is_stopped.ensures.idle c.if-is_stopped.false)); checked = λ checked. checked; kept = c.requires }

pub loop-event-preserved : goal.loop-event-preserved
loop-event-preserved g c =
    let more = take_more c.args.events.now c.loop-event.event-index c.event-item.result c.loop-event-test.true in
    record { taken = rw (more, ← c.event-item.is) (c.loop-event.invariant.taken.0 ++ c.in_ok-_answer._answer ∷ [], completes-then c.loop-event.invariant.taken.1 c.in_ok-_answer.ensures.taken); checked = λ checked. (c.in_ok-_answer.ensures.checked (c.loop-event.invariant.checked checked)).0; kept = c.in_ok-_answer.ensures.kept }

pub returns-in_err-_answer-clause-ran : goal.returns-in_err-_answer-clause-ran
returns-in_err-_answer-clause-ran g c =
    let more = drop_more c.args.events.now c.loop-event.event-index c.event-item.result c.loop-event-test.true in
    let rest = drop (c.loop-event.event-index + 1) c.args.events.now in
    let split : take c.loop-event.event-index c.args.events.now ++ c.event-item.result ∷ rest ≡ c.args.events.now =
    ap (λ (l : List Event). take c.loop-event.event-index c.args.events.now ++ l) (sym (rw (← c.event-item.is) at more)) ∙ take-append-drop c.loop-event.event-index c.args.events.now in
    subst (λ (l : List Event). RunsAll g.N.Answering.gives c.args.self.now l c.from_residual.result c.apply.new.self) split (run-stops rest _ c.loop-event.invariant.taken.1 c.in_err-_answer.ensures.stopped c.from_residual.ensures.1)

pub returns-in_err-_answer-clause-checked : goal.returns-in_err-_answer-clause-checked
returns-in_err-_answer-clause-checked g c checked =
    let after = c.in_err-_answer.ensures.checked (c.loop-event.invariant.checked checked) in
    (after.0, limit-behind c.from_residual.result c.loop-event.invariant.taken.1 after.1 c.from_residual.ensures.1)

pub returns-clause-checked : goal.returns-clause-checked
returns-clause-checked g c checked = (c.loop-event.invariant.checked checked, tt)

pub returns-then-is_stopped-clause-arguments : goal.returns-then-is_stopped-clause-arguments
returns-then-is_stopped-clause-arguments g c checked = (claims-hold g.N.Answering.takes g.N.Answering.gives (sound-of c.classes.ensures.sound c.self.view_is) c.requires checked).arguments

pub returns-then-is_stopped-clause-acyclic : goal.returns-then-is_stopped-clause-acyclic
returns-then-is_stopped-clause-acyclic g c checked = (claims-hold g.N.Answering.takes g.N.Answering.gives (sound-of c.classes.ensures.sound c.self.view_is) c.requires checked).acyclic

pub returns-then-is_stopped-clause-spared : goal.returns-then-is_stopped-clause-spared
returns-then-is_stopped-clause-spared g c checked = (claims-hold g.N.Answering.takes g.N.Answering.gives (sound-of c.classes.ensures.sound c.self.view_is) c.requires checked).spared

pub returns-then-is_stopped-clause-shallow : goal.returns-then-is_stopped-clause-shallow
returns-then-is_stopped-clause-shallow g c checked = (claims-hold g.N.Answering.takes g.N.Answering.gives (sound-of c.classes.ensures.sound c.self.view_is) c.requires checked).shallow

pub returns-then-is_stopped-clause-typed : goal.returns-then-is_stopped-clause-typed
returns-then-is_stopped-clause-typed g c checked = (claims-hold g.N.Answering.takes g.N.Answering.gives (sound-of c.classes.ensures.sound c.self.view_is) c.requires checked).typed

pub returns-then-is_stopped-clause-settled : goal.returns-then-is_stopped-clause-settled
returns-then-is_stopped-clause-settled g c checked = (claims-hold g.N.Answering.takes g.N.Answering.gives (sound-of c.classes.ensures.sound c.self.view_is) c.requires checked).settled

pub returns-in_err-_answer-clause-arguments : goal.returns-in_err-_answer-clause-arguments
returns-in_err-_answer-clause-arguments g c checked = (claims-hold g.N.Answering.takes g.N.Answering.gives (sound-of c.classes.ensures.sound c.self.view_is) c.requires checked).arguments

pub returns-in_err-_answer-clause-acyclic : goal.returns-in_err-_answer-clause-acyclic
returns-in_err-_answer-clause-acyclic g c checked = (claims-hold g.N.Answering.takes g.N.Answering.gives (sound-of c.classes.ensures.sound c.self.view_is) c.requires checked).acyclic

pub returns-in_err-_answer-clause-spared : goal.returns-in_err-_answer-clause-spared
returns-in_err-_answer-clause-spared g c checked = (claims-hold g.N.Answering.takes g.N.Answering.gives (sound-of c.classes.ensures.sound c.self.view_is) c.requires checked).spared

pub returns-in_err-_answer-clause-shallow : goal.returns-in_err-_answer-clause-shallow
returns-in_err-_answer-clause-shallow g c checked = (claims-hold g.N.Answering.takes g.N.Answering.gives (sound-of c.classes.ensures.sound c.self.view_is) c.requires checked).shallow

pub returns-in_err-_answer-clause-typed : goal.returns-in_err-_answer-clause-typed
returns-in_err-_answer-clause-typed g c checked = (claims-hold g.N.Answering.takes g.N.Answering.gives (sound-of c.classes.ensures.sound c.self.view_is) c.requires checked).typed

pub returns-in_err-_answer-clause-settled : goal.returns-in_err-_answer-clause-settled
returns-in_err-_answer-clause-settled g c checked = (claims-hold g.N.Answering.takes g.N.Answering.gives (sound-of c.classes.ensures.sound c.self.view_is) c.requires checked).settled

pub returns-clause-arguments : goal.returns-clause-arguments
returns-clause-arguments g c checked = (claims-hold g.N.Answering.takes g.N.Answering.gives (sound-of c.classes.ensures.sound c.self.view_is) c.requires checked).arguments

pub returns-clause-acyclic : goal.returns-clause-acyclic
returns-clause-acyclic g c checked = (claims-hold g.N.Answering.takes g.N.Answering.gives (sound-of c.classes.ensures.sound c.self.view_is) c.requires checked).acyclic

pub returns-clause-spared : goal.returns-clause-spared
returns-clause-spared g c checked = (claims-hold g.N.Answering.takes g.N.Answering.gives (sound-of c.classes.ensures.sound c.self.view_is) c.requires checked).spared

pub returns-clause-shallow : goal.returns-clause-shallow
returns-clause-shallow g c checked = (claims-hold g.N.Answering.takes g.N.Answering.gives (sound-of c.classes.ensures.sound c.self.view_is) c.requires checked).shallow

pub returns-clause-typed : goal.returns-clause-typed
returns-clause-typed g c checked = (claims-hold g.N.Answering.takes g.N.Answering.gives (sound-of c.classes.ensures.sound c.self.view_is) c.requires checked).typed

pub returns-clause-settled : goal.returns-clause-settled
returns-clause-settled g c checked = (claims-hold g.N.Answering.takes g.N.Answering.gives (sound-of c.classes.ensures.sound c.self.view_is) c.requires checked).settled
