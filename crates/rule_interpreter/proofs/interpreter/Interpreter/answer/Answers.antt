use Rattle.std.proofs.Common.{List, Result, Ok, Err, sym}
use Rattle.std.specs.Prelude.{IfOk}
use Rattle.meta_model.specs.Members.{IsClass}
use Rattle.native_slots.specs.declared.action.Action.{Action}
use Rattle.machine_rules.specs.Natives.{MayAnswer}
use Rattle.machine_rules.specs.code.Answering.{AreTellable}
use Rattle.machine_rules.proofs.Promised.{declared-of, declaring-there, promised, reads-there, answer-told}
use Rattle.rule_interpreter.proofs.interpreter.Interpreter.answer.Goals as goal

-- what is said of an answer follows from what the native says of it
if_ok-map : {X E : Type 0} (r : Result X E) (P Q : X → Type 0) → IfOk r P → ((x : X) → P x → Q x) → IfOk r Q
if_ok-map (Ok x) P Q said more = more x said
if_ok-map (Err e) P Q said more = tt

pub unreachable-requires-in_default-object : goal.unreachable-requires-in_default-object
unreachable-requires-in_default-object g c =
    let is = c.in-Some.ensures in
    let declared = declared-of is (sym c.in-Some-life.ensures) c.declaring-number.ensures in
    declaring-there c.requires.sound.program declared is.is_method c.in_default-object.ensures.value

pub read-requires : goal.read-requires
read-requires g c =
    let is = c.in-Some.ensures in
    let declared = declared-of is (sym c.in-Some-life.ensures) c.declaring-number.ensures in
    let is_class : IsClass c.args.self.now.context.meta c.declaring-number.result c.in-Some-object.class.now = record { is = sym c.in-Some-object.ensures.value } in
    record { there = rw c.as_slice.ensures (reads-there c.requires.sound.program c.requires.sound.is.agree.typed c.requires.native is declared is_class) }

pub answer-requires : goal.answer-requires
answer-requires g c =
    let is = c.in-Some.ensures in
    let declared = declared-of is (sym c.in-Some-life.ensures) c.declaring-number.ensures in
    let is_class : IsClass c.args.self.now.context.meta c.declaring-number.result c.in-Some-object.class.now = record { is = sym c.in-Some-object.ensures.value } in
    let are = rw c.as_slice.ensures at c.in_ok-reads.ensures in
    let kept = promised (g.N.Answering.takes c.args.self.now.natives) (g.N.Answering.gives c.args.self.now.natives) c.requires.sound.program c.requires.promises c.requires.sound.is.agree.typed c.requires.fit c.requires.native is declared is_class are in
    rw (c.deref.ensures, c.as_slice-2.ensures.value) kept.0

pub returns-clause-may : goal.returns-clause-may
returns-clause-may g c =
    let is = c.in-Some.ensures in
    let declared = declared-of is (sym c.in-Some-life.ensures) c.declaring-number.ensures in
    let is_class : IsClass c.args.self.now.context.meta c.declaring-number.result c.in-Some-object.class.now = record { is = sym c.in-Some-object.ensures.value } in
    let are = rw c.as_slice.ensures at c.in_ok-reads.ensures in
    let Gives : List Action → Type 0 = λ actions. g.N.Answering.gives c.args.self.now.natives c.in-Some-object.class.now.name c.in-Some.declared.now.sig c.args.call.now.arguments.now c.in_ok-reads.reads.items actions in
    let May : List Action → Type 0 = λ actions. MayAnswer c.args.self.now.context.meta (g.N.Answering.gives c.args.self.now.natives) c.args.world.now.store.tree c.args.call.now.object c.args.call.now.method c.args.call.now.arguments.now c.args.effects.now actions in
    if_ok-map c.answer.result (λ actions. Gives actions.items) (λ actions. May actions.items) (rw (c.deref.ensures, c.as_slice-2.ensures.value) at c.answer.ensures) (λ actions gives. record {
      object = c.in-Some.field-0-0.now;
      method = c.in-Some.declared.now;
      is = is;
      number = c.declaring-number.result;
      declared = declared;
      class = c.in-Some-object.class.now;
      is_class = is_class;
      reads = c.in_ok-reads.reads.items;
      are_read = are;
      gives = gives;
    })

pub returns-clause-within : goal.returns-clause-within
returns-clause-within g c =
    let is = c.in-Some.ensures in
    let declared = declared-of is (sym c.in-Some-life.ensures) c.declaring-number.ensures in
    let is_class : IsClass c.args.self.now.context.meta c.declaring-number.result c.in-Some-object.class.now = record { is = sym c.in-Some-object.ensures.value } in
    let are = rw c.as_slice.ensures at c.in_ok-reads.ensures in
    let kept = promised (g.N.Answering.takes c.args.self.now.natives) (g.N.Answering.gives c.args.self.now.natives) c.requires.sound.program c.requires.promises c.requires.sound.is.agree.typed c.requires.fit c.requires.native is declared is_class are in
    let Gives : List Action → Type 0 = λ actions. g.N.Answering.gives c.args.self.now.natives c.in-Some-object.class.now.name c.in-Some.declared.now.sig c.args.call.now.arguments.now c.in_ok-reads.reads.items actions in
    let Told : List Action → Type 0 = λ actions. AreTellable c.args.self.now.context.meta c.args.world.now.store.tree c.args.call.now.object c.args.effects.now actions in
    if_ok-map c.answer.result (λ actions. Gives actions.items) (λ actions. Told actions.items) (rw (c.deref.ensures, c.as_slice-2.ensures.value) at c.answer.ensures) (λ actions gives.
    answer-told c.args.effects.now c.requires.sound.program c.requires.sound.is.agree.typed is declared is_class actions.items (kept.1 actions.items gives))
