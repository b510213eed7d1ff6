use Rattle.std.proofs.Common.{subst, sym, ◌∙◌, ◌⊎◌, ◌∷◌, []}
use Rattle.std.specs.Prelude.{IfOk, IfErr}
use Rattle.object_machine.specs.Checked.{IsChecked, StopsAtLimit}
use Rattle.qt_runtime.proofs.Checking.{applied-checked, claims-hold, sound-of}
use Rattle.object_machine.specs.Seen.{Seen, AreKept, Completes, RefusesExactly, Halts, Stays}
use Rattle.qt_runtime.proofs.Halting.{seen, applied-taken, applied-refused, applied-stopped, applied-spent}
use Rattle.qt_runtime.proofs.Keeping.{keeps-took, settled-took, idle-took}
use Rattle.qt_runtime.proofs.machine.MachineObjectMachine.apply.Goals as goal

pub invariant_of-self : goal.invariant_of-self
invariant_of-self g c = record { room = c.self.invariant.room; keeps = λ goes. keeps-took c.take_event-result.result c.classes.ensures.sound (c.self.invariant.keeps c.if-self.false) c.take_event-result.ensures (sym c.is_err-self-inside.ensures.value ∙ goes); idle = λ goes. idle-took c.take_event-result.result c.take_event-result.ensures (sym c.is_err-self-inside.ensures.value ∙ goes) }

-- the natives of the machine are the interpreter's
pub take_event-result-requires : goal.take_event-result-requires
take_event-result-requires g c =
    let Kept : Seen _ → Type 0 = λ m. AreKept g.N.Answering.takes g.N.Answering.gives m in
    record {
      may = record {
        depth = c.self.invariant.room;
        promises = subst Kept (sym c.self.view_is) c.requires;
        idle = c.self.invariant.idle c.if-self.false;
        keeps = c.self.invariant.keeps c.if-self.false;
      };
    }

pub returns-clause-kept : goal.returns-clause-kept
returns-clause-kept g c =
    let Kept : Seen _ → Type 0 = λ m. AreKept g.N.Answering.takes g.N.Answering.gives m in
    subst Kept (sym c.self.view_is) c.requires

pub returns-clause-taken : goal.returns-clause-taken
returns-clause-taken g c =
    let From : Seen _ → Type 0 = λ a. IfOk c.take_event-result.result (λ x. Completes g.N.Answering.gives a (c.args.event.now ∷ []) (x ∷ []) (seen c.self.inside.interpreter.context.meta c.self.inside.interpreter.natives c.self.inside.interpreter.context.depth c.take_event-result.new.world c.is_err-self-inside.result)) in
    subst From c.self.view_is (applied-taken g.N.Answering.gives c.self.inside.interpreter.natives c.take_event-result.result c.take_event-result.ensures c.if-self.false c.is_err-self-inside.ensures.value)

pub returns-clause-refused : goal.returns-clause-refused
returns-clause-refused g c =
    let From : Seen _ → Type 0 = λ a. IfOk c.take_event-result.result (λ x. RefusesExactly a c.args.event.now x (seen c.self.inside.interpreter.context.meta c.self.inside.interpreter.natives c.self.inside.interpreter.context.depth c.take_event-result.new.world c.is_err-self-inside.result)) in
    subst From c.self.view_is (applied-refused g.N.Answering.gives c.self.inside.interpreter.natives _ _ c.take_event-result.result c.classes.ensures.sound (c.self.invariant.keeps c.if-self.false).sound (c.self.invariant.idle c.if-self.false) c.take_event-result.ensures)

pub returns-clause-stopped : goal.returns-clause-stopped
returns-clause-stopped g c =
    let after : Seen _ = seen c.self.inside.interpreter.context.meta c.self.inside.interpreter.natives c.self.inside.interpreter.context.depth c.take_event-result.new.world c.is_err-self-inside.result in
    let From : Seen _ → Type 0 = λ a. IfErr c.take_event-result.result (λ f. Halts g.N.Answering.gives a (c.args.event.now ∷ []) f after ⊎ Stays a f after) in
    subst From c.self.view_is (applied-stopped g.N.Answering.gives c.self.inside.interpreter.natives c.take_event-result.result c.take_event-result.ensures c.if-self.false c.is_err-self-inside.ensures.value)

pub returns-clause-spent : goal.returns-clause-spent
returns-clause-spent g c = λ went. applied-spent g.N.Answering.gives c.self.inside.interpreter.natives c.take_event-result.result c.take_event-result.ensures c.is_err-self-inside.ensures.value

pub returns-clause-left_settled : goal.returns-clause-left_settled
returns-clause-left_settled g c = settled-took c.take_event-result.result c.classes.ensures.sound (c.self.invariant.keeps c.if-self.false) c.take_event-result.ensures

pub returns-clause-checked : goal.returns-clause-checked
returns-clause-checked g c =
    let result = c.take_event-result.result in
    let natives = c.self.inside.interpreter.natives in
    let takes = g.N.Answering.takes in
    let gives = g.N.Answering.gives in
    let took = c.take_event-result.ensures in
    let sound = c.classes.ensures.sound in
    let went = c.if-self.false in
    let is = c.is_err-self-inside.ensures.value in
    let after : Seen _ = seen c.self.inside.interpreter.context.meta natives c.self.inside.interpreter.context.depth c.take_event-result.new.world c.is_err-self-inside.result in
    let Kept : Seen _ → Type 0 = λ m. AreKept takes gives m in
    let From : Seen _ → Type 0 = λ a. IsChecked gives a → IsChecked gives after × IfErr result (StopsAtLimit a) in
    subst From c.self.view_is (applied-checked takes gives c.args.event.now result sound (subst Kept (sym c.self.view_is) c.requires) (applied-taken gives natives result took went is)
    (applied-stopped gives natives result took went is))

pub returns-clause-arguments : goal.returns-clause-arguments
returns-clause-arguments g c checked = (claims-hold g.N.Answering.takes g.N.Answering.gives (sound-of c.classes.ensures.sound c.self.view_is) c.requires checked).arguments

pub returns-clause-acyclic : goal.returns-clause-acyclic
returns-clause-acyclic g c checked = (claims-hold g.N.Answering.takes g.N.Answering.gives (sound-of c.classes.ensures.sound c.self.view_is) c.requires checked).acyclic

pub returns-clause-spared : goal.returns-clause-spared
returns-clause-spared g c checked = (claims-hold g.N.Answering.takes g.N.Answering.gives (sound-of c.classes.ensures.sound c.self.view_is) c.requires checked).spared

pub returns-clause-shallow : goal.returns-clause-shallow
returns-clause-shallow g c checked = (claims-hold g.N.Answering.takes g.N.Answering.gives (sound-of c.classes.ensures.sound c.self.view_is) c.requires checked).shallow

pub returns-clause-typed : goal.returns-clause-typed
returns-clause-typed g c checked = (claims-hold g.N.Answering.takes g.N.Answering.gives (sound-of c.classes.ensures.sound c.self.view_is) c.requires checked).typed

pub returns-clause-settled : goal.returns-clause-settled
returns-clause-settled g c checked = (claims-hold g.N.Answering.takes g.N.Answering.gives (sound-of c.classes.ensures.sound c.self.view_is) c.requires checked).settled
