use Rattle.std.{proofs.Common.{map, ◌≡◌, ◌∙◌, ℕ, false, List, [], ◌∷◌, length, refl, sym, ap, subst, arith, Option, Some, Ok, inl, inr}, proofs.lemmas.Grind.{common_steps}, specs.Option.{option_map}}
use Rattle.basic_types.specs.declared.value.Value.{Value}
use Rattle.machine_state.specs.{declared.world.World.{World}, Connections.{is_living}, State.{Run, Act}, Telling.{Alone, Grouped}}
use Rattle.machine_rules.{proofs.ReachedStates.{not-idle, reaches-same, reaches-then, stops-after, stops-as, ends-after, ends-lifted, ends-left, ends-undue, ends-short, ends-unchanged, ends-faulted, ends-ticked, stops-ticked, ok-err, ok-map}, specs.Operations.{Write, Begin, Delete, Nothing, operation_of_action, operation_of_set}, specs.Good.{ArgumentsFit}, specs.code.Keeps.{KeepsWorld}, specs.code.Sound.{IsSoundWorld}, proofs.Keeps.{keeps-same, keeps-then, reaches-keeps}, proofs.Declared.{fit-sends}, proofs.Soundness.{emitted-still, reaches-sound, sound-used, sound-noted, sound-set}, proofs.Delivered.{fit-of, next-delivered, delivered-fits}, proofs.Notifying.{no-places, all-notified, all-may-still, announces-signal, dead-rule, announced-member, announced-value, announced-fits, announcement-calls}, proofs.Dying.{copied-living, lives-not-dead}, proofs.Promised.{all-placed}, proofs.Hearing.{heard-top, reaches-heard}}
use Rattle.binding_graph.specs.Places.{property_of}
use Rattle.meta_model.specs.{declared.object.Statement.{Statement}, declared.object.Statement.TheVariants.{outs-Set, outs-Emit, outs-Call, outs-If, outs-Connect, outs-Disconnect, outs-Delete, outs-Later, outs-Group}, declared.object.Statement.TheViews.{out-Statement}}
use Rattle.prop_bindings.specs.declared.plans.assignment.Assignment.{Assignment}
use Rattle.run_context.{specs.code.Scope.{path_in, value_in, values_in}, proofs.Yielding.{obtains-none, evaluates-none, finds-none, truth-none, at-null, at-object, if-chooses}, proofs.Posts.{no-home}, proofs.Linking.{not-true}}
use Rattle.rule_interpreter.proofs.{Beginning.{begun-work, work-at, ends-begun, stops-barred, stops-no-member, stops-ill-typed, delivery-calls, begun-used, ends-posted}, Writes.{ends-written, ends-unplanned, stops-unwritten}, Bodies.{does-call, does-call-alone, does-set, does-answer, does-nothing, does-delete, does-choose, of-layer, lacks-value, advances-one, advances-ticked, advances-left}, Deleting.{ends-deleting, stops-deleting, reaches-died, stops-in-use, stops-announcing, living-name, died-as, died-emits, died-gone, dead-after, kills-first, kills-next, reaches-latest, reaches-next, stops-forgetting, forgets-fewer, nonempty, none-left}}
use Rattle.rule_interpreter.proofs.interpreter.Interpreter.+machine.Goals as goal

-- ---- emissions

pub run_emission-loop-connection-init : goal.run_emission-loop-connection-init
run_emission-loop-connection-init g t c = record { reaches = reaches-same; keeps = keeps-same; fewer = omega arith; sound = c.requires.sound; heard = c.requires.heard }

pub run_emission-deliver-requires : goal.run_emission-deliver-requires
run_emission-deliver-requires g t c = λ κs lives.
    let now = c.loop-connection.world in
    let found = sym c.in-Some.ensures.value in
    let sound = c.loop-connection.invariant.sound in
    let emitted = emitted-still c.loop-connection.invariant.keeps c.requires.emitted in
    let takes = next-delivered now.store.connections.connections c.args.call.now.object c.args.call.now.method c.loop-connection.used c.args.last _ sound.is.joined emitted c.loop-connection.invariant.heard found in
    (omega (arith, c.loop-connection.invariant.fewer), (lives, (c.requires.promises, (c.requires.room, (sound, takes)))))

pub run_emission-loop-connection-preserved : goal.run_emission-loop-connection-preserved
run_emission-loop-connection-preserved g t c =
    let went = c.in_ok-deliver.ensures.ends _ _ _ _ (sym c.in-Some.ensures.value) in
    let keeps = keeps-then c.loop-connection.invariant.keeps (reaches-keeps went.cases) in
    let now = c.loop-connection.world.store in
    let heard = heard-top now.tree now.connections.connections c.args.call.now.object c.args.call.now.method c.loop-connection.invariant.heard in
    record {
      reaches = reaches-then c.loop-connection.invariant.reaches went.cases;
      keeps = keeps;
      fewer = keeps.fewer;
      sound = reaches-sound ((emitted-still c.loop-connection.invariant.keeps c.requires.emitted, tt), (heard, tt)) c.loop-connection.invariant.sound went.cases;
      heard = reaches-heard went.cases c.loop-connection.invariant.heard;
    }

pub run_emission-returns-in_err-deliver-clause-ends : goal.run_emission-returns-in_err-deliver-clause-ends
run_emission-returns-in_err-deliver-clause-ends g t c =
    ends-left _ (stops-after c.loop-connection.invariant.reaches ((c.in_err-deliver.ensures.ends _ _ _ _ (sym c.in-Some.ensures.value)).cases)) c.from_residual.ensures.1

pub run_emission-returns-in_err-deliver-clause-keeps : goal.run_emission-returns-in_err-deliver-clause-keeps
run_emission-returns-in_err-deliver-clause-keeps g t c =
    ok-err (KeepsWorld c.args.self.now.context.meta c.args.world.now c.deliver.new.world) c.from_residual.result (c.in_err-deliver.ensures.ends _ _ _ _ (sym c.in-Some.ensures.value)).cases c.from_residual.ensures.1

pub run_emission-returns-in_err-deliver-clause-sound : goal.run_emission-returns-in_err-deliver-clause-sound
run_emission-returns-in_err-deliver-clause-sound g t c =
    ok-err (IsSoundWorld c.args.self.now.context.meta c.deliver.new.world) c.from_residual.result (c.in_err-deliver.ensures.ends _ _ _ _ (sym c.in-Some.ensures.value)).cases c.from_residual.ensures.1

pub run_emission-returns-clause-ends : goal.run_emission-returns-clause-ends
run_emission-returns-clause-ends g t c =
    let none = sym c.next_used.ensures.value ∙ c.in_default.is in
    ends-after c.loop-connection.invariant.reaches (ends-ticked {b = []} _ (λ below e. rw none refl) (omega arith) c.requires.room c.loop-connection.invariant.sound.is.agree c.tick.ensures)

pub deliver-returns-in_err-require_rule : goal.deliver-returns-in_err-require_rule
deliver-returns-in_err-require_rule g t c = record { ends = λ o g used last found. ends-undue _ c.in_err-require_rule.ensures c.from_residual.ensures.1 }

pub deliver-unreachable-requires : goal.deliver-unreachable-requires
deliver-unreachable-requires g t c = c.in_default.ensures _ _ c.requires.takes.is

pub deliver-unreachable-requires-in_default-home : goal.deliver-unreachable-requires-in_default-home
deliver-unreachable-requires-in_default-home g t c = no-home c.in-Some.ensures c.in_default-home.ensures

pub deliver-begin_used-requires : goal.deliver-begin_used-requires
deliver-begin_used-requires g t c = λ κs lives. (omega arith, (lives, (c.requires.promises, (c.requires.sound, (c.in_ok-require_rule.ensures, (delivered-fits c.requires.takes c.in-Some.ensures c.front-taken.ensures c.len.ensures, rw c.count.ensures at c.in_ok-line.ensures.ok))))))

pub deliver-returns-in_err-line : goal.deliver-returns-in_err-line
deliver-returns-in_err-line g t c =
    let now = rw c.running.ensures at c.reaches_at_once.ensures in
    let fit = delivered-fits c.requires.takes c.in-Some.ensures c.front-taken.ensures c.len.ensures in
    record { ends = λ o g used last found. ends-left _ (stops-barred c.over-over.ensures (delivery-calls o g used last found c.in-Some.ensures c.front-taken.ensures c.len.ensures (sym c.in-Some-home.ensures) (sym now ∙ c.if-reaches_at_once.true)) fit c.requires.sound.is.agree c.in_ok-require_rule.ensures (rw c.count.ensures at c.in_err-line.ensures.err)) c.from_residual-in_err-line.ensures.1 }

pub deliver-post-requires-clause-fit : goal.deliver-post-requires-clause-fit
deliver-post-requires-clause-fit g t c = delivered-fits c.requires.takes c.in-Some.ensures c.front-taken.ensures c.len.ensures

pub deliver-returns-in_ok-line : goal.deliver-returns-in_ok-line
deliver-returns-in_ok-line g t c =
    let now = rw c.running.ensures at c.reaches_at_once.ensures in
    record { ends = λ o g used last found. c.begin_used.ensures.ends _ _ _ c.over-over.ensures (delivery-calls o g used last found c.in-Some.ensures c.front-taken.ensures c.len.ensures (sym c.in-Some-home.ensures) (sym now ∙ c.if-reaches_at_once.true)) }

pub deliver-returns-else-reaches_at_once : goal.deliver-returns-else-reaches_at_once
deliver-returns-else-reaches_at_once g t c =
    let later = rw c.running.ensures at c.reaches_at_once.ensures in
    record {
      ends = λ o g used last found.
          ends-posted o g used last _ _ found c.in-Some.ensures c.front-taken.ensures c.len.ensures (sym c.in-Some-home.ensures) (sym later ∙ c.if-reaches_at_once.false) c.requires.room c.requires.sound.is.agree c.in_ok-require_rule.ensures (omega (arith, c.count-else-reaches_at_once.ensures)) c.post.ensures;
    }

pub begin_used-returns-in_err-use_connection : goal.begin_used-returns-in_err-use_connection
begin_used-returns-in_err-use_connection g t c = record { ends = λ from to shown over calls. ends-unchanged _ calls.goes_on c.requires.left c.in_err-use_connection.ensures c.from_residual.ensures.1 }

pub begin_used-run_callee-requires : goal.begin_used-run_callee-requires
begin_used-run_callee-requires g t c = λ κs lives.
    let went = c.in_ok-use_connection.ensures in
    let Fit : World → Type 0 = λ v. ArgumentsFit c.args.self.now.context.meta v.store.tree c.args.call.now.object c.args.call.now.method c.args.call.now.arguments.now in
    (omega (arith, ap (λ (w : World). w.left) went, c.requires.left), (lives, (c.requires.promises, (c.requires.begun.room, (sound-used c.args.world.now _ c.args.connection.now went c.requires.sound, (subst Fit (sym went) c.requires.fit, work-at (ap (λ (u : World). u.store.tree) went) (begun-work c.requires.begun)))))))

pub begin_used-returns : goal.begin_used-returns
begin_used-returns g t c = record {
  ends = λ from to shown over calls.
      ends-begun over calls (begun-used c.args.connection.now c.requires.begun) c.requires.fit c.requires.sound.is.agree c.requires.left refl c.in_ok-use_connection.ensures c.run_callee.ensures.ends;
}

-- ---- the beginning of methods

pub begin_typed-returns-in_default : goal.begin_typed-returns-in_default
begin_typed-returns-in_default g t c = record { ends = λ from to shown over calls only. record { cases = stops-no-member calls only (c.in_default.ensures) c.requires.left } }

pub begin_typed-returns-then-not-have_types : goal.begin_typed-returns-then-not-have_types
begin_typed-returns-then-not-have_types g t c = record {
  ends = λ from to shown over calls only.
      let typed = rw c.as_slice.ensures at c.have_types.ensures in
      record { cases = stops-ill-typed calls c.in-Some.ensures (λ h. not-true _ c.if-not-have_types.true (typed.1 h)) c.requires.sound.is.agree c.requires.left };
}

pub begin_typed-returns-in_err-line : goal.begin_typed-returns-in_err-line
begin_typed-returns-in_err-line g t c = record {
  ends = λ from to shown over calls only.
      let typed = rw c.as_slice.ensures at c.have_types.ensures in
      ends-left _ (stops-barred over calls (fit-of c.in-Some.ensures (typed.0 c.if-not-have_types.false)) c.requires.sound.is.agree c.requires.left (rw c.count.ensures at c.in_err-line.ensures.err)) c.from_residual.ensures.1;
}

pub begin_typed-begin_found-requires : goal.begin_typed-begin_found-requires
begin_typed-begin_found-requires g t c = λ κs lives. let typed = rw c.as_slice.ensures at c.have_types.ensures in
    (omega arith, (lives, (c.requires.promises, (c.requires.sound, (c.requires.left, (fit-of c.in-Some.ensures (typed.0 c.if-not-have_types.false), rw c.count.ensures at c.in_ok-line.ensures.ok))))))

pub begin_typed-returns : goal.begin_typed-returns
begin_typed-returns g t c = record { ends = λ from to shown over calls only. c.begin_found.ensures.ends from to shown over calls }

pub begin-returns-in_err-line : goal.begin-returns-in_err-line
begin-returns-in_err-line g t c = record {
  ends = λ from to shown over calls. ends-left _ (stops-barred over calls c.requires.fit c.requires.sound.is.agree c.requires.left (rw c.count.ensures at c.in_err-line.ensures.err)) c.from_residual.ensures.1;
}

pub begin-begin_found-requires : goal.begin-begin_found-requires
begin-begin_found-requires g t c = λ κs lives. (omega arith, (lives, (c.requires.promises, (c.requires.sound, (c.requires.left, (c.requires.fit, rw c.count.ensures at c.in_ok-line.ensures.ok))))))

pub begin-returns : goal.begin-returns
begin-returns g t c = record { ends = λ from to shown over calls. c.begin_found.ensures.ends from to shown over calls }

pub begin_found-returns-in_err-note : goal.begin_found-returns-in_err-note
begin_found-returns-in_err-note g t c = record { ends = λ from to shown over calls. ends-unchanged _ calls.goes_on c.requires.left c.in_err-note.ensures c.from_residual.ensures.1 }

pub begin_found-run_callee-requires : goal.begin_found-run_callee-requires
begin_found-run_callee-requires g t c = λ κs lives.
    let went = c.in_ok-note.ensures in
    let Fit : World → Type 0 = λ v. ArgumentsFit c.args.self.now.context.meta v.store.tree c.args.call.now.object c.args.call.now.method c.args.call.now.arguments.now in
    (omega (arith, ap (λ (w : World). w.left) went, c.requires.left), (lives, (c.requires.promises, (c.requires.begun.room, (sound-noted c.args.world.now _ went c.requires.sound, (subst Fit (sym went) c.requires.fit, work-at (ap (λ (u : World). u.store.tree) went) (begun-work c.requires.begun)))))))

pub begin_found-returns : goal.begin_found-returns
begin_found-returns g t c = record {
  ends = λ from to shown over calls.
      ends-begun over calls c.requires.begun c.requires.fit c.requires.sound.is.agree c.requires.left refl c.in_ok-note.ensures c.run_callee.ensures.ends;
}

-- ---- bodies

pub run_body-loop-statement-init : goal.run_body-loop-statement-init
run_body-loop-statement-init g t c = record { reaches = rw c.all-left.ensures reaches-same; keeps = keeps-same; fewer = omega arith; sound = c.requires.sound }

pub run_body-returns-in_err-require_rule : goal.run_body-returns-in_err-require_rule
run_body-returns-in_err-require_rule g t c = record { ends = ends-after c.loop-statement.invariant.reaches (ends-undue _ c.in_err-require_rule.ensures c.from_residual.ensures.1) }

pub run_body-carry_out-requires : goal.run_body-carry_out-requires
run_body-carry_out-requires g t c = λ κs lives. (omega (arith, c.loop-statement.invariant.fewer), (lives, (c.requires.promises, (c.requires.room, (c.loop-statement.invariant.sound, c.in_ok-require_rule.ensures)))))

pub run_body-returns-in_err-carry_out : goal.run_body-returns-in_err-carry_out
run_body-returns-in_err-carry_out g t c =
    let came = rw c.in-Some.ensures at c.loop-statement.invariant.reaches in
    record { ends = ends-left _ (stops-after came ((c.in_err-carry_out.ensures.advances _ refl).cases)) c.from_residual-in_err-carry_out.ensures.1 }

pub run_body-loop-statement-preserved : goal.run_body-loop-statement-preserved
run_body-loop-statement-preserved g t c =
    let came = rw c.in-Some.ensures at c.loop-statement.invariant.reaches in
    let one = (c.in_ok-carry_out.ensures.advances _ refl).cases in
    let keeps = keeps-then c.loop-statement.invariant.keeps (reaches-keeps one.0) in
    record { reaches = reaches-then came one.0; keeps = keeps; fewer = keeps.fewer; sound = reaches-sound ((tt, tt), tt) c.loop-statement.invariant.sound one.0 }

pub run_body-loop-statement-smaller : goal.run_body-loop-statement-smaller
run_body-loop-statement-smaller g t c = (c.in_ok-carry_out.ensures.advances _ refl).cases.1

pub run_body-returns : goal.run_body-returns
run_body-returns g t c =
    let came = rw c.in_default.ensures.0 at c.loop-statement.invariant.reaches in
    record { ends = ends-after came (ends-ticked {b = []} _ (λ below e. refl) (omega arith) c.requires.room c.loop-statement.invariant.sound.is.agree c.tick.ensures) }

-- ---- statements

pub carry_out-returns-in-Emit : goal.carry_out-returns-in-Emit
carry_out-returns-in-Emit g t c = record { advances = λ x is. (rw c.as_slice-in-Emit.ensures at c.emit.ensures.advances) _ x (is ∙ ap out-Statement c.in-Emit.is ∙ outs-Emit _ _) }

pub carry_out-returns-in-Call : goal.carry_out-returns-in-Call
carry_out-returns-in-Call g t c = record { advances = λ x is. (rw c.as_slice-in-Call.ensures at c.call.ensures.advances) _ x (is ∙ ap out-Statement c.in-Call.is ∙ outs-Call _ _ _) }

pub carry_out-returns-in-Connect : goal.carry_out-returns-in-Connect
carry_out-returns-in-Connect g t c = record { advances = λ x is. c.connect.ensures.advances _ x (is ∙ ap out-Statement c.in-Connect.is ∙ outs-Connect _ _) }

pub carry_out-returns-in-Disconnect : goal.carry_out-returns-in-Disconnect
carry_out-returns-in-Disconnect g t c = record { advances = λ x is. c.disconnect.ensures.advances _ x (is ∙ ap out-Statement c.in-Disconnect.is ∙ outs-Disconnect _) }

pub carry_out-returns-in-Later : goal.carry_out-returns-in-Later
carry_out-returns-in-Later g t c = record { advances = λ x is. c.schedule_at.ensures.advances _ x (is ∙ ap out-Statement c.in-Later.is ∙ outs-Later _) }

pub carry_out-returns-in_err-holds-in-If : goal.carry_out-returns-in_err-holds-in-If
carry_out-returns-in_err-holds-in-If g t c = record {
  advances = λ x is.
      let layer = is ∙ ap out-Statement c.in-If.is ∙ outs-If _ _ _ in
      lacks-value _ _ c.requires.due layer (λ bad. (λ (block other : List Statement). rw (c.scope-in-If.ensures.objects, c.scope-in-If.ensures.this, c.scope-in-If.ensures.arguments) at (truth-none block other (value_in c.scope-in-If.result c.in-If.condition) c.in_err-holds-in-If.ensures bad)) _ _) c.from_residual-in_err-holds-in-If.ensures.1;
}

pub carry_out-returns-in_err-put-in-If : goal.carry_out-returns-in_err-put-in-If
carry_out-returns-in_err-put-in-If g t c = record { advances = λ x is. advances-left _ _ (ends-short _ (not-idle c.args.world.now _) c.requires.due c.from_residual-in_err-put-in-If.ensures.1) c.from_residual-in_err-put-in-If.ensures.1 }

pub carry_out-returns-in_ok-put-in-If : goal.carry_out-returns-in_ok-put-in-If
carry_out-returns-in_ok-put-in-If g t c = record {
  advances = λ x is.
      let layer = is ∙ ap out-Statement c.in-If.is ∙ outs-If _ _ _ in
      let holds = rw (c.scope-in-If.ensures.objects, c.scope-in-If.ensures.this, c.scope-in-If.ensures.arguments) at c.in_ok-holds-in-If.ensures in
      let chosen = rw (c.as_slice-in-If.ensures, c.as_slice-in-If-2.ensures) at c.chosen.ensures in
      let chooses = of-layer _ _ _ _ layer (if-chooses c.args.world.now.store.tree c.args.call.now.object c.args.call.now.arguments.now c.in-If.condition _ _ _ holds chosen) in
      rw c.in_ok-put-in-If.ensures.ok (advances-ticked _ c.tick.ensures (does-choose c.args.call.now.method c.args.left.now _ _ chooses c.requires.room c.requires.sound.is.agree c.tick.ensures));
}

pub carry_out-returns-in_err-found-in-Set : goal.carry_out-returns-in_err-found-in-Set
carry_out-returns-in_err-found-in-Set g t c = record {
  advances = λ x is0.
      let is = is0 ∙ ap out-Statement c.in-Set.is ∙ outs-Set _ _ _ in
      lacks-value _ _ c.requires.due is (λ bad. ap (option_map operation_of_set) (rw (c.scope.ensures.objects, c.scope.ensures.this, c.scope.ensures.arguments) at (obtains-none c.in_err-found-in-Set.ensures bad))) c.from_residual.ensures.1;
}

pub carry_out-returns-in_default : goal.carry_out-returns-in_default
carry_out-returns-in_default g t c = record {
  advances = λ x is0.
      let is = is0 ∙ ap out-Statement c.in-Set.is ∙ outs-Set _ _ _ in
      let higher = ap (λ (l : List (Option ℕ)). length l) c.over-over.ensures in
      advances-one _ (does-nothing c.args.call.now.method (map Run c.args.left.now) _ _ (of-layer _ _ _ _ is (ap (option_map operation_of_set) (rw c.in_default.is at (rw (c.scope.ensures.objects, c.scope.ensures.this, c.scope.ensures.arguments) at c.in_ok-found-in-Set.ensures)))) c.requires.room c.requires.sound.is.agree c.requires.due (omega (arith, c.count.ensures, higher)) c.pass_null.ensures);
}

pub carry_out-returns-in-Some : goal.carry_out-returns-in-Some
carry_out-returns-in-Some g t c = record {
  advances = λ x is0.
      let is = is0 ∙ ap out-Statement c.in-Set.is ∙ outs-Set _ _ _ in
      let does = of-layer _ _ _ _ is (ap (option_map operation_of_set) (rw c.in-Some.is at (rw (c.scope.ensures.objects, c.scope.ensures.this, c.scope.ensures.arguments) at c.in_ok-found-in-Set.ensures))) in
      advances-one _ (c.write.ensures.ends _ _ _ c.over-over.ensures (does-set c.args.call.now.method (map Run c.args.left.now) does));
}

pub carry_out-returns-in_err-found-in-Group : goal.carry_out-returns-in_err-found-in-Group
carry_out-returns-in_err-found-in-Group g t c = record {
  advances = λ x is0.
      let is = is0 ∙ ap out-Statement c.in-Group.is ∙ outs-Group _ in
      lacks-value _ _ c.requires.due is (λ bad. ap (option_map (λ (l : List (Option Assignment)). Write (Grouped l))) (rw (c.as_slice.ensures, c.scope-in-Group.ensures.objects, c.scope-in-Group.ensures.this, c.scope-in-Group.ensures.arguments) at (obtains-none c.in_err-found-in-Group.ensures bad))) c.from_residual-in_err-found-in-Group.ensures.1;
}

pub carry_out-returns-in_ok-found-in-Group : goal.carry_out-returns-in_ok-found-in-Group
carry_out-returns-in_ok-found-in-Group g t c = record {
  advances = λ x is0.
      let is = is0 ∙ ap out-Statement c.in-Group.is ∙ outs-Group _ in
      let found = rw (c.as_slice.ensures, c.scope-in-Group.ensures.objects, c.scope-in-Group.ensures.this, c.scope-in-Group.ensures.arguments) at c.in_ok-found-in-Group.ensures in
      let does = of-layer _ _ _ _ is (ap (option_map (λ (l : List (Option Assignment)). Write (Grouped l))) found) in
      advances-one _ (c.write_group.ensures.ends _ _ _ c.over-over.ensures (does-set c.args.call.now.method (map Run c.args.left.now) (rw (← c.as_slice-in-Group.ensures) at does)));
}

pub emit-returns-in_err-values : goal.emit-returns-in_err-values
emit-returns-in_err-values g t c = record {
  advances = λ rest x is.
      lacks-value _ _ c.requires.due is (λ bad. ap (option_map (λ (given : List Value). Begin c.args.call.now.object c.args.signal given)) (rw (c.scope.ensures.objects, c.scope.ensures.this, c.scope.ensures.arguments) at (evaluates-none c.in_err-values.ensures bad))) c.from_residual.ensures.1;
}

pub emit-returns : goal.emit-returns
emit-returns g t c = record {
  advances = λ rest x is.
      let found = rw (c.scope.ensures.objects, c.scope.ensures.this, c.scope.ensures.arguments) at c.in_ok-values.ensures in
      let begins = rw (← c.as_slice.ensures) at (of-layer _ _ _ _ is (ap (option_map (λ (given : List Value). Begin c.args.call.now.object c.args.signal given)) found)) in
      advances-one _ (c.begin_typed.ensures.ends _ _ _ c.over-over.ensures (does-call c.args.call.now.method (map Run rest) begins) (does-call-alone c.args.call.now.method (map Run rest) begins));
}

pub call-returns-in_err-object : goal.call-returns-in_err-object
call-returns-in_err-object g t c = record {
  advances = λ rest x is.
      let act = λ (x : ℕ). option_map (λ (given : List Value). Begin x c.args.method given) (values_in c.scope-scope.result c.args.given.now) in
      lacks-value _ _ c.requires.due is (λ bad. rw (c.scope-scope.ensures.objects, c.scope-scope.ensures.this, c.scope-scope.ensures.arguments) at (finds-none Nothing act (path_in c.scope-scope.result c.args.path.now) c.in_err-object.ensures bad)) c.from_residual.ensures.1;
}

pub call-returns-in_default : goal.call-returns-in_default
call-returns-in_default g t c = record {
  advances = λ rest x is.
      let higher = ap (λ (l : List (Option ℕ)). length l) c.over-over.ensures in
      advances-one _ (does-nothing c.args.call.now.method (map Run rest) _ _ (of-layer _ _ _ _ is (at-null _ _ _ _ c.args.path.now (rw c.in_default.is at (rw (c.scope-scope.ensures.objects, c.scope-scope.ensures.this, c.scope-scope.ensures.arguments) at c.in_ok-object.ensures)))) c.requires.room c.requires.sound.is.agree c.requires.due (omega (arith, c.count.ensures, higher)) c.pass_null.ensures);
}

pub call-returns-in_err-values : goal.call-returns-in_err-values
call-returns-in_err-values g t c = record {
  advances = λ rest x is.
      let there = rw c.in-Some.is at (rw (c.scope-scope.ensures.objects, c.scope-scope.ensures.this, c.scope-scope.ensures.arguments) at c.in_ok-object.ensures) in
      lacks-value _ _ c.requires.due is (λ bad. at-object _ _ _ _ c.args.path.now there (ap (option_map (λ (given : List Value). Begin c.in-Some.object c.args.method given)) (rw (c.scope-scope.ensures.objects, c.scope-scope.ensures.this, c.scope-scope.ensures.arguments) at (evaluates-none c.in_err-values.ensures bad)))) c.from_residual-in_err-values.ensures.1;
}

pub call-returns : goal.call-returns
call-returns g t c = record {
  advances = λ rest x is.
      let there = rw c.in-Some.is at (rw (c.scope-scope.ensures.objects, c.scope-scope.ensures.this, c.scope-scope.ensures.arguments) at c.in_ok-object.ensures) in
      let found = rw (c.scope-scope.ensures.objects, c.scope-scope.ensures.this, c.scope-scope.ensures.arguments) at c.in_ok-values.ensures in
      let begins = rw (← c.as_slice.ensures) at (of-layer _ _ _ _ is (at-object _ _ _ _ c.args.path.now there (ap (option_map (λ (given : List Value). Begin c.in-Some.object c.args.method given)) found))) in
      advances-one _ (c.begin_typed.ensures.ends _ _ _ c.over-over.ensures (does-call c.args.call.now.method (map Run rest) begins) (does-call-alone c.args.call.now.method (map Run rest) begins));
}

pub carry_out-returns-in_err-object-in-Delete : goal.carry_out-returns-in_err-object-in-Delete
carry_out-returns-in_err-object-in-Delete g t c = record {
  advances = λ x is0.
      let is = is0 ∙ ap out-Statement c.in-Delete.is ∙ outs-Delete _ in
      lacks-value _ _ c.requires.due is (λ bad. rw (c.scope-in-Delete.ensures.objects, c.scope-in-Delete.ensures.this, c.scope-in-Delete.ensures.arguments) at (finds-none Nothing (λ (x : ℕ). Some (Delete x)) (path_in c.scope-in-Delete.result c.in-Delete.path) c.in_err-object-in-Delete.ensures bad)) c.from_residual-in_err-object-in-Delete.ensures.1;
}

pub carry_out-returns-in_default-2 : goal.carry_out-returns-in_default-2
carry_out-returns-in_default-2 g t c = record {
  advances = λ x is0.
      let is = is0 ∙ ap out-Statement c.in-Delete.is ∙ outs-Delete _ in
      let higher = ap (λ (l : List (Option ℕ)). length l) c.over-over.ensures in
      advances-one _ (does-nothing c.args.call.now.method (map Run c.args.left.now) _ _ (of-layer _ _ _ _ is (at-null _ _ _ _ c.in-Delete.path (rw c.in_default-2.is at (rw (c.scope-in-Delete.ensures.objects, c.scope-in-Delete.ensures.this, c.scope-in-Delete.ensures.arguments) at c.in_ok-object-in-Delete.ensures)))) c.requires.room c.requires.sound.is.agree c.requires.due (omega (arith, c.count-in_default-2.ensures, higher)) c.pass_null-in_default-2.ensures);
}

pub carry_out-returns-in-Some-2 : goal.carry_out-returns-in-Some-2
carry_out-returns-in-Some-2 g t c = record {
  advances = λ x is0.
      let is = is0 ∙ ap out-Statement c.in-Delete.is ∙ outs-Delete _ in
      let there = rw c.in-Some-2.is at (rw (c.scope-in-Delete.ensures.objects, c.scope-in-Delete.ensures.this, c.scope-in-Delete.ensures.arguments) at c.in_ok-object-in-Delete.ensures) in
      advances-one _ (c.delete.ensures.ends _ _ _ c.over-over.ensures (does-delete c.args.call.now.method (map Run c.args.left.now) (of-layer _ _ _ _ is (at-object _ _ _ _ c.in-Delete.path there refl))));
}

-- ---- writes

pub write-returns-in_err-may_begin_write : goal.write-returns-in_err-may_begin_write
write-returns-in_err-may_begin_write g t c = record {
  ends = λ from to shown over sets. ends-left _ (stops-unwritten over sets c.requires.left c.in_err-may_begin_write.ensures.err) c.from_residual.ensures.1;
}

pub write-returns-in_err-changed : goal.write-returns-in_err-changed
write-returns-in_err-changed g t c = record { ends = λ from to shown over sets. ends-unplanned _ over sets c.requires.left c.in_err-changed.ensures.value c.from_residual-in_err-changed.ensures.1 }

pub write-run_update-requires : goal.write-run_update-requires
write-run_update-requires g t c = λ κs lives.
    let went = c.in_ok-changed.ensures.value.1 in
    (omega (arith, ap (λ (w : World). w.left) went.gives, c.requires.left), (lives, (c.requires.promises, (c.in_ok-may_begin_write.ensures.ok, sound-set c.args.world.now went c.in_ok-changed.ensures.agree c.requires.sound))))

pub write-returns : goal.write-returns
write-returns g t c = record {
  ends = λ from to shown over sets.
      let went = rw c.count.ensures at c.in_ok-changed.ensures.value in
      ends-written over sets c.requires.left (record { fit = (went.0, tt); room = c.in_ok-may_begin_write.ensures.ok }) went.1 c.in_ok-changed.ensures.agree (rw c.as_slice.ensures at c.run_update.ensures.ends);
}

pub write_group-returns-in_err-may_write_group : goal.write_group-returns-in_err-may_write_group
write_group-returns-in_err-may_write_group g t c = record {
  ends = λ from to shown over sets. ends-left _ (stops-unwritten over sets c.requires.left c.in_err-may_write_group.ensures.err) c.from_residual.ensures.1;
}

pub write_group-write_group-requires-clause-fit : goal.write_group-write_group-requires-clause-fit
write_group-write_group-requires-clause-fit g t c = (c.in_ok-may_write_group.ensures.ok).fit

pub write_group-returns-in_err-changed : goal.write_group-returns-in_err-changed
write_group-returns-in_err-changed g t c = record { ends = λ from to shown over sets. ends-unchanged _ sets.goes_on c.requires.left c.in_err-changed.ensures.value c.from_residual-in_err-changed.ensures.1 }

pub write_group-run_update-requires : goal.write_group-run_update-requires
write_group-run_update-requires g t c = λ κs lives.
    let went = c.in_ok-changed.ensures.value in
    (omega (arith, ap (λ (w : World). w.left) went.gives, c.requires.left), (lives, (c.requires.promises, (c.in_ok-may_write_group.ensures.ok.room, sound-set c.args.world.now went c.in_ok-changed.ensures.agree c.requires.sound))))

pub write_group-returns : goal.write_group-returns
write_group-returns g t c = record {
  ends = λ from to shown over sets.
      let went = rw c.count.ensures at c.in_ok-changed.ensures.value in
      ends-written over sets c.requires.left c.in_ok-may_write_group.ensures.ok went c.in_ok-changed.ensures.agree (rw c.as_slice.ensures at c.run_update.ensures.ends);
}

-- ---- updates

pub run_update-returns-in_err-require_rule : goal.run_update-returns-in_err-require_rule
run_update-returns-in_err-require_rule g t c = record { ends = ends-undue _ c.in_err-require_rule.ensures c.from_residual.ensures.1 }

pub run_update-returns-in_err-places : goal.run_update-returns-in_err-places
run_update-returns-in_err-places g t c = record { ends = ends-short _ (not-idle c.args.world.now _) c.in_ok-require_rule.ensures c.from_residual-in_err-places.ensures.1 }

pub run_update-loop-place-init : goal.run_update-loop-place-init
run_update-loop-place-init g t c =
    let places = c.as_slice-left.ensures.value ∙ c.in_ok-places.ensures in
    record { reaches = rw places reaches-same; fewer = omega arith; sound = c.requires.sound; may = rw places (all-notified c.args.self.now.context.meta c.args.world.now.store.tree c.args.changed.now c.requires.sound.program) }

pub run_update-notify-requires : goal.run_update-notify-requires
run_update-notify-requires g t c = λ κs lives.
    let may = rw c.in-Some.ensures.cases.0 at c.loop-place.invariant.may in
    (omega (arith, c.loop-place.invariant.fewer), (lives, (c.requires.promises, (c.requires.room, (c.loop-place.invariant.sound, may.0)))))

pub run_update-returns-in_err-notify : goal.run_update-returns-in_err-notify
run_update-returns-in_err-notify g t c =
    let came = rw c.in-Some.ensures.cases.0 at c.loop-place.invariant.reaches in
    record { ends = ends-left _ (stops-after came (c.in_err-notify.ensures.ends c.in-Some.rest.now).cases) c.from_residual-in_err-notify.ensures.1 }

pub run_update-loop-place-preserved : goal.run_update-loop-place-preserved
run_update-loop-place-preserved g t c =
    let came = rw c.in-Some.ensures.cases.0 at c.loop-place.invariant.reaches in
    let may = rw c.in-Some.ensures.cases.0 at c.loop-place.invariant.may in
    let one = (c.in_ok-notify.ensures.ends c.in-Some.rest.now).cases in
    let went = reaches-then came one in
    record {
      reaches = went;
      fewer = (reaches-keeps went).fewer;
      sound = reaches-sound ((tt, tt), tt) c.loop-place.invariant.sound one;
      may = all-may-still c.args.self.now.context.meta c.loop-place.world.store.tree c.notify.new.world.store.tree c.in-Some.rest.now (reaches-keeps one).objects may.1;
    }

pub run_update-returns : goal.run_update-returns
run_update-returns g t c =
    let came = rw (no-places _ c.in_default.ensures.cases) at c.loop-place.invariant.reaches in
    record { ends = ends-after came (ends-ticked {b = []} _ (λ below e. refl) (omega arith) c.requires.room c.loop-place.invariant.sound.is.agree c.tick.ensures) }

pub notify-emit_change-requires : goal.notify-emit_change-requires
notify-emit_change-requires g t c = λ κs lives. (omega arith, (lives, (c.requires.promises, (c.requires.room, (c.requires.sound, announces-signal c.requires.sound.program c.signal_at.ensures c.in-Some.is)))))

pub notify-returns-in-Some : goal.notify-returns-in-Some
notify-returns-in-Some g t c = record { ends = c.emit_change.ensures.ends }

pub notify-returns-in-None : goal.notify-returns-in-None
notify-returns-in-None g t c = record {
  ends = λ rest. ends-ticked _ (λ below e. dead-rule c.args.world.now c.args.place.now rest below c.requires.notifies c.signal_at.ensures c.in-None.is) (omega arith) c.requires.room c.requires.sound.is.agree c.tick.ensures;
}

pub emit_change-returns-in_err-require_rule : goal.emit_change-returns-in_err-require_rule
emit_change-returns-in_err-require_rule g t c = record { ends = λ rest. ends-undue _ c.in_err-require_rule.ensures c.from_residual.ensures.1 }

pub emit_change-unreachable-requires : goal.emit_change-unreachable-requires
emit_change-unreachable-requires g t c = c.in_default.ensures _ _ (announced-member c.requires.announces)

pub emit_change-unreachable-requires-in_default-value : goal.emit_change-unreachable-requires-in_default-value
emit_change-unreachable-requires-in_default-value g t c =
    let there = announced-value c.requires.announces c.requires.sound.is.agree.typed in
    let none = c.in_default-value.ensures ∙ there.1 in
    absurd (cc none)

pub emit_change-returns-in_err-copy : goal.emit_change-returns-in_err-copy
emit_change-returns-in_err-copy g t c = record { ends = λ rest. ends-short _ (not-idle c.args.world.now _) c.in_ok-require_rule.ensures c.from_residual-in_err-copy.ensures.1 }

pub emit_change-begin-requires : goal.emit_change-begin-requires
emit_change-begin-requires g t c = λ κs lives.
    let present = sym c.in-Some-value.ensures ∙ ap (λ (v : Value). Some v) (sym c.in_ok-copy.ensures) in
    let cut = rw c.as_slice.ensures at c.front-taken.ensures in
    (omega arith, (lives, (c.requires.promises, (c.requires.sound, (c.in_ok-require_rule.ensures, announced-fits c.requires.announces c.requires.sound.is.agree.typed c.in-Some.ensures present cut c.len.ensures)))))

pub emit_change-returns : goal.emit_change-returns
emit_change-returns g t c =
    let present = sym c.in-Some-value.ensures ∙ ap (λ (v : Value). Some v) (sym c.in_ok-copy.ensures) in
    let cut = rw c.as_slice.ensures at c.front-taken.ensures in
    record { ends = λ rest. c.begin.ensures.ends _ _ _ c.over-over.ensures (announcement-calls rest c.requires.announces c.in-Some.ensures present cut c.len.ensures) }

-- ---- deletions

pub delete-returns-in_err-may_nest : goal.delete-returns-in_err-may_nest
delete-returns-in_err-may_nest g t c = record {
  ends = λ from to shown over deletes. ends-left _ (stops-as c.in_err-may_nest.ensures.1 (stops-deleting over deletes c.requires.sound.is.agree c.requires.left (omega (arith, c.in_err-may_nest.ensures.0, c.count.ensures)))) c.from_residual.ensures.1;
}

pub delete-returns : goal.delete-returns
delete-returns g t c = record {
  ends = λ from to shown over deletes. ends-deleting over deletes (omega (arith, c.in_ok-may_nest.ensures, c.count.ensures)) c.requires.sound.is.agree c.in_ok-tick.ensures c.run_deletion.ensures.ends;
}

pub run_callee-run_emission-requires : goal.run_callee-run_emission-requires
run_callee-run_emission-requires g t c = λ κs lives. (omega arith, (lives, (c.requires.promises, (c.requires.room, (c.requires.sound, (fit-sends c.requires.sound.program c.requires.fit, inr (λ gone. absurd (lives-not-dead c.requires.fit.is.lives gone))))))))

pub announce-returns-in_err-require_rule-clause-ends : goal.announce-returns-in_err-require_rule-clause-ends
announce-returns-in_err-require_rule-clause-ends g t c = λ next before torn kills. ends-undue _ c.in_err-require_rule.ensures c.from_residual.ensures.1

pub announce-returns-then-has_body-clause-ends : goal.announce-returns-then-has_body-clause-ends
announce-returns-then-has_body-clause-ends g t c = λ next before torn kills.
    let named = living-name c.args.world.now.store.tree c.args.object c.requires.lives in
    record { cases = stops-in-use kills named.1 c.requires.sound.is.agree c.in_ok-require_rule.ensures c.requires.lives (sym c.has_body.ensures ∙ c.if-has_body.true) }

pub announce-returns-in_err-may_nest-clause-ends : goal.announce-returns-in_err-may_nest-clause-ends
announce-returns-in_err-may_nest-clause-ends g t c = λ next before torn kills.
    let named = living-name c.args.world.now.store.tree c.args.object c.requires.lives in
    let higher = ap (λ (l : List (Option ℕ)). length l) c.over-over.ensures in
    ends-left _ (stops-as c.in_err-may_nest.ensures.1 (stops-announcing kills named.1 c.requires.sound.is.agree c.in_ok-require_rule.ensures (sym c.has_body.ensures ∙ c.if-has_body.false) (omega (arith, c.in_err-may_nest.ensures.0, c.count-depth.ensures, higher)))) c.from_residual-in_err-may_nest.ensures.1

pub announce-returns-in_err-copy-clause-ends : goal.announce-returns-in_err-copy-clause-ends
announce-returns-in_err-copy-clause-ends g t c = λ next before torn kills. ends-short _ (not-idle c.args.world.now _) c.in_ok-require_rule.ensures c.from_residual-in_err-copy.ensures.1

pub announce-returns-in_err-emitted-clause-ends : goal.announce-returns-in_err-emitted-clause-ends
announce-returns-in_err-emitted-clause-ends g t c = λ next before torn kills. ends-short _ (not-idle c.args.world.now _) c.in_ok-require_rule.ensures c.from_residual-in_err-emitted.ensures.1

pub announce-returns-in_err-mark_dead-clause-ends : goal.announce-returns-in_err-mark_dead-clause-ends
announce-returns-in_err-mark_dead-clause-ends g t c = λ next before torn kills. ends-unchanged _ (not-idle c.args.world.now _) c.in_ok-require_rule.ensures c.in_err-mark_dead.ensures c.from_residual-in_err-mark_dead.ensures.1

pub announce-run_emission-requires : goal.announce-run_emission-requires
announce-run_emission-requires g t c = λ κs lives.
    let w = c.args.world.now in
    let named = sym c.in-Some.ensures in
    let came = died-as c.args.world.now c.args.object c.in_ok-mark_dead.ensures c.in_ok-copy.ensures c.in_ok-emitted.ensures c.count-depth.ensures in
    let higher = ap (λ (l : List (Option ℕ)). length l) c.over-over.ensures in
    let went = reaches-died {natives = g.N.Answering.gives c.args.self.now.natives} {d = c.args.self.now.context.depth} {active = c.args.active.now} {torn = []} (kills-first w c.args.object [] c.requires.lives) named c.requires.sound.is.agree c.in_ok-require_rule.ensures (sym c.has_body.ensures ∙ c.if-has_body.false) (omega (arith, c.in_ok-may_nest.ensures, c.count-depth.ensures, higher)) (omega (arith, higher)) c.last-last.ensures came in
    (omega (arith, ap (λ (u : World). u.left) c.in_ok-mark_dead.ensures, c.in_ok-require_rule.ensures), (lives, (c.requires.promises, (omega (arith, c.in_ok-may_nest.ensures, c.count-depth.ensures), (reaches-sound ((tt, tt), tt) c.requires.sound went, (died-emits w _ c.args.object c.requires.sound.program named came, inl refl))))))

pub announce-returns-clause-ends : goal.announce-returns-clause-ends
announce-returns-clause-ends g t c = λ next before torn kills.
    let named = sym c.in-Some.ensures in
    let came = died-as c.args.world.now c.args.object c.in_ok-mark_dead.ensures c.in_ok-copy.ensures c.in_ok-emitted.ensures c.count-depth.ensures in
    let higher = ap (λ (l : List (Option ℕ)). length l) c.over-over.ensures in
    let went = reaches-died kills named c.requires.sound.is.agree c.in_ok-require_rule.ensures (sym c.has_body.ensures ∙ c.if-has_body.false) (omega (arith, c.in_ok-may_nest.ensures, c.count-depth.ensures, higher)) (omega (arith, higher)) c.last-last.ensures came in
    ends-after went (ends-lifted c.over-over.ensures c.run_emission.ensures.ends)

pub announce-returns-clause-dead : goal.announce-returns-clause-dead
announce-returns-clause-dead g t c =
    let named = sym c.in-Some.ensures in
    let came = died-as c.args.world.now c.args.object c.in_ok-mark_dead.ensures c.in_ok-copy.ensures c.in_ok-emitted.ensures c.count-depth.ensures in
    ok-map (KeepsWorld c.args.self.now.context.meta c.mark_dead.new.self c.run_emission.new.world) (is_living c.run_emission.new.world.store.tree c.args.object ≡ false) c.run_emission.result c.run_emission.ensures.keeps (λ keeps. dead-after c.args.object (died-gone c.args.world.now _ c.args.object named came) keeps)

pub announce_living-returns-then-is_some-clause-ends : goal.announce_living-returns-then-is_some-clause-ends
announce_living-returns-then-is_some-clause-ends g t c =
    let lives = copied-living c.args.world.now.store.tree c.args.object _ _ c.is_some.ensures c.if-is_some.true c.life.ensures in
    c.announce.ensures.ends _ _ _ (kills-first c.args.world.now c.args.object [] lives)

pub announce_living-returns-else-is_some-clause-ends : goal.announce_living-returns-else-is_some-clause-ends
announce_living-returns-else-is_some-clause-ends g t c = record { cases = reaches-same }

pub run_deletion-loop-world-init : goal.run_deletion-loop-world-init
run_deletion-loop-world-init g t c =
    let died = c.in_ok-announce_living.ensures.ends.cases in
    let sound = reaches-sound ((tt, tt), tt) c.requires.sound died in
    let forgets = rw c.new-torn.ensures.items at c.in_ok-forget.ensures in
    let went = reaches-latest c.args.object [] c.forget.new.torn.items c.requires.room sound.is.agree c.in_ok-announce_living.ensures.dead forgets in
    record { reaches = reaches-then died went; fewer = (reaches-keeps (reaches-then died went)).fewer; sound = reaches-sound ((tt, tt), tt) sound went }

pub run_deletion-returns-in_err-announce-in-Some : goal.run_deletion-returns-in_err-announce-in-Some
run_deletion-returns-in_err-announce-in-Some g t c =
    let now = c.loop-world.world in
    let some = nonempty _ _ c.loop-world.torn.items c.is_empty.ensures c.loop-world-test.true c.loop-world.torn.ok.0 in
    let next = rw c.as_slice.ensures.value at c.next_to_end.ensures.next in
    let lives = rw c.as_slice.ensures.value at c.next_to_end.ensures.lives in
    let kills = kills-next now c.loop-world.torn.items some c.next_to_end.result next lives c.in-Some.child c.in-Some.is in
    record { ends = ends-left _ (stops-after c.loop-world.invariant.reaches (c.in_err-announce-in-Some.ensures.ends _ _ _ kills).cases) c.from_residual-in_err-announce-in-Some.ensures.1 }

pub run_deletion-loop-world-smaller-in-Continue-branch-4 : goal.run_deletion-loop-world-smaller-in-Continue-branch-4
run_deletion-loop-world-smaller-in-Continue-branch-4 g t c =
    let now = c.loop-world.world in
    let some = nonempty _ _ c.loop-world.torn.items c.is_empty.ensures c.loop-world-test.true c.loop-world.torn.ok.0 in
    let next = rw c.as_slice.ensures.value at c.next_to_end.ensures.next in
    let lives = rw c.as_slice.ensures.value at c.next_to_end.ensures.lives in
    let kills = kills-next now c.loop-world.torn.items some c.next_to_end.result next lives c.in-Some.child c.in-Some.is in
    let died = (c.in_ok-announce-in-Some.ensures.ends _ _ _ kills).cases in
    omega (arith, (reaches-keeps died).fewer, forgets-fewer c.announce.new.world c.in-Some.child c.loop-world.torn.items c.forget-in-Some.new.torn.items c.in_ok-forget-in-Some.ensures)

pub run_deletion-loop-world-preserved-in-Continue-branch-4 : goal.run_deletion-loop-world-preserved-in-Continue-branch-4
run_deletion-loop-world-preserved-in-Continue-branch-4 g t c =
    let now = c.loop-world.world in
    let some = nonempty _ _ c.loop-world.torn.items c.is_empty.ensures c.loop-world-test.true c.loop-world.torn.ok.0 in
    let next = rw c.as_slice.ensures.value at c.next_to_end.ensures.next in
    let lives = rw c.as_slice.ensures.value at c.next_to_end.ensures.lives in
    let kills = kills-next now c.loop-world.torn.items some c.next_to_end.result next lives c.in-Some.child c.in-Some.is in
    let died = (c.in_ok-announce-in-Some.ensures.ends _ _ _ kills).cases in
    let sound = reaches-sound ((tt, tt), tt) c.loop-world.invariant.sound died in
    let went = reaches-latest c.in-Some.child c.loop-world.torn.items c.forget-in-Some.new.torn.items c.requires.room sound.is.agree c.in_ok-announce-in-Some.ensures.dead c.in_ok-forget-in-Some.ensures in
    let came = reaches-then c.loop-world.invariant.reaches (reaches-then died went) in
    record { reaches = came; fewer = (reaches-keeps came).fewer; sound = reaches-sound ((tt, tt), tt) sound went }

pub run_deletion-returns-in_err-forget-in-Some : goal.run_deletion-returns-in_err-forget-in-Some
run_deletion-returns-in_err-forget-in-Some g t c =
    let now = c.loop-world.world in
    let some = nonempty _ _ c.loop-world.torn.items c.is_empty.ensures c.loop-world-test.true c.loop-world.torn.ok.0 in
    let next = rw c.as_slice.ensures.value at c.next_to_end.ensures.next in
    let lives = rw c.as_slice.ensures.value at c.next_to_end.ensures.lives in
    let kills = kills-next now c.loop-world.torn.items some c.next_to_end.result next lives c.in-Some.child c.in-Some.is in
    let died = (c.in_ok-announce-in-Some.ensures.ends _ _ _ kills).cases in
    record { ends = ends-left _ (stops-after (reaches-then c.loop-world.invariant.reaches died) (stops-forgetting c.in-Some.child c.loop-world.torn.items c.forget-in-Some.new.torn.items _ c.in_err-forget-in-Some.ensures)) c.from_residual-in_err-forget-in-Some.ensures.1 }

pub run_deletion-loop-world-preserved : goal.run_deletion-loop-world-preserved
run_deletion-loop-world-preserved g t c =
    let now = c.loop-world.world in
    let some = nonempty _ _ c.loop-world.torn.items c.is_empty.ensures c.loop-world-test.true c.loop-world.torn.ok.0 in
    let next = rw c.as_slice.ensures.value at c.next_to_end.ensures.next in
    let lives = rw c.as_slice.ensures.value at c.next_to_end.ensures.lives in
    let shorter = rw c.loop-world.torn.ok.0 at c.pop.ensures.rest in
    let went = reaches-next now c.loop-world.torn.items some c.next_to_end.result next lives c.pop.new.self.items c.requires.room c.loop-world.invariant.sound.is.agree c.in-None.is shorter c.in_ok-tick-in-None.ensures in
    let came = reaches-then c.loop-world.invariant.reaches went in
    record { reaches = came; fewer = (reaches-keeps came).fewer; sound = reaches-sound ((tt, tt), tt) c.loop-world.invariant.sound went }

pub run_deletion-returns-in_err-tick-in-None : goal.run_deletion-returns-in_err-tick-in-None
run_deletion-returns-in_err-tick-in-None g t c = record { ends = ends-left _ (stops-after c.loop-world.invariant.reaches (stops-ticked c.in_err-tick-in-None.ensures)) c.from_residual-in_err-tick-in-None.ensures.1 }

pub run_deletion-returns : goal.run_deletion-returns
run_deletion-returns g t c =
    let empty = none-left _ _ c.loop-world.torn.items c.is_empty.ensures c.loop-world-test.false c.loop-world.torn.ok.0 in
    let came = rw empty at c.loop-world.invariant.reaches in
    record { ends = ends-after came (ends-ticked {b = []} _ (λ below e. refl) (omega arith) c.requires.room c.loop-world.invariant.sound.is.agree c.tick-2.ensures) }

-- ---- natives

pub run_native-returns-in_err-require_rule : goal.run_native-returns-in_err-require_rule
run_native-returns-in_err-require_rule g t c = record { ends = ends-undue _ c.in_err-require_rule.ensures c.from_residual.ensures.1 }

pub run_native-returns-in_err-actions : goal.run_native-returns-in_err-actions
run_native-returns-in_err-actions g t c = record { ends = ends-short _ (not-idle c.args.world.now _) c.in_ok-require_rule.ensures c.from_residual-in_err-actions.ensures.1 }

pub run_native-returns-in_err-line : goal.run_native-returns-in_err-line
run_native-returns-in_err-line g t c = record { ends = ends-short _ (not-idle c.args.world.now _) c.in_ok-require_rule.ensures c.from_residual-in_err-line.ensures.1 }

pub run_native-returns-in_err-note : goal.run_native-returns-in_err-note
run_native-returns-in_err-note g t c = record { ends = ends-unchanged _ (not-idle c.args.world.now _) c.in_ok-require_rule.ensures c.in_err-note.ensures c.from_residual-in_err-note.ensures.1 }

pub run_callee-run_native-requires : goal.run_callee-run_native-requires
run_callee-run_native-requires g t c = λ κs lives. (omega arith, (lives, (c.requires.promises, (c.requires.room, (c.requires.sound, (c.requires.fit, rw c.in-Native.is at c.requires.work))))))

pub carry_out_action-returns-in-Some : goal.carry_out_action-returns-in-Some
carry_out_action-returns-in-Some g t c = record {
  advances = λ m arguments rest.
      let is = ap (operation_of_action c.args.object c.args.effects.now) c.in-Set.is ∙ ap (option_map (λ (q : ℕ). Write (Alone (property_of c.args.object q) c.in-Set.value))) (sym c.in-Some.ensures.value) in
      advances-one _ (c.write.ensures.ends _ _ _ c.over-over.ensures (does-set m rest is));
}

pub carry_out_action-returns-in-Some-get : goal.carry_out_action-returns-in-Some-get
carry_out_action-returns-in-Some-get g t c = record {
  advances = λ m arguments rest.
      let is = ap (operation_of_action c.args.object c.args.effects.now) c.in-Emit.is ∙ ap (option_map (λ (s : ℕ). Begin c.args.object s c.in-Emit.arguments)) (sym c.in-Some-get.ensures.value) in
      let begins = rw (← c.as_slice.ensures) at is in
      advances-one _ (c.begin_typed.ensures.ends _ _ _ c.over-over.ensures (does-call m rest begins) (does-call-alone m rest begins));
}

pub run_native-loop-action-init : goal.run_native-loop-action-init
run_native-loop-action-init g t c =
    let w = c.args.world.now in
    let effects = c.args.effects.now in
    let actions = c.in_ok-actions.actions.items in
    let rest : c.into_iter-action-iterator.result.rest.items ≡ actions = c.into_iter-action-iterator.ensures.into_iter_gives.0 in
    let tells = rw c.as_slice.ensures.value at c.in_ok-line.ensures in
    let went = (does-answer {d = c.args.self.now.context.depth} {h = c.args.active.now} effects actions _ _ (Ok tt) c.in_ok-actions.ensures.may tells c.requires.room c.requires.sound.is.agree c.in_ok-require_rule.ensures (omega (arith, c.count-depth.ensures)) c.in_ok-note.ensures).cases in
    record {
      reaches = rw rest went;
      within = rw rest (all-placed c.args.self.now.context.meta w.store.tree c.args.call.now.object effects actions c.in_ok-actions.ensures.within);
      fewer = omega (arith, ap (λ (u : World). u.left) c.in_ok-note.ensures);
      sound = sound-noted w _ c.in_ok-note.ensures c.requires.sound;
    }

pub run_native-loop-action-preserved : goal.run_native-loop-action-preserved
run_native-loop-action-preserved g t c =
    let was = c.loop-action.invariant in
    let left = map (Act c.args.effects.now) c.next.new.self.rest.items in
    let steps : c.loop-action.action-iterator.rest.items ≡ c.in-Some.action ∷ c.next.new.self.rest.items = c.in-Some.ensures.steps.0 in
    let came = rw steps at was.reaches in
    let one = (c.in_ok-carry_out_action.ensures.advances c.args.call.now.method c.args.call.now.arguments.now left).cases in
    let went = reaches-then came one.0 in
    record { reaches = went; within = (rw steps at was.within).1; fewer = (reaches-keeps went).fewer; sound = reaches-sound ((tt, tt), tt) was.sound one.0 }

pub run_native-returns-in_err-carry_out_action : goal.run_native-returns-in_err-carry_out_action
run_native-returns-in_err-carry_out_action g t c =
    let left = map (Act c.args.effects.now) c.next.new.self.rest.items in
    let steps : c.loop-action.action-iterator.rest.items ≡ c.in-Some.action ∷ c.next.new.self.rest.items = c.in-Some.ensures.steps.0 in
    let came = rw steps at c.loop-action.invariant.reaches in
    let stopped = (c.in_err-carry_out_action.ensures.advances c.args.call.now.method c.args.call.now.arguments.now left).cases in
    record { ends = ends-left _ (stops-after came stopped) c.from_residual-in_err-carry_out_action.ensures.1 }

pub run_native-returns : goal.run_native-returns
run_native-returns g t c =
    let none : c.loop-action.action-iterator.rest.items ≡ [] = grind (arith, common_steps) in
    let came = rw none at c.loop-action.invariant.reaches in
    record { ends = ends-after came (ends-ticked {b = []} _ (λ below e. refl) (omega arith) c.requires.room c.loop-action.invariant.sound.is.agree c.tick.ensures) }
