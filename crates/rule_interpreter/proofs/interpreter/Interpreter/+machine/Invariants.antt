use Rattle.std.proofs.Common.{◌≤◌, ◌+◌, ◌-◌, ◌*◌, [], ◌∷◌, length, map, reverse, Some, None}
use Rattle.std.specs.List.{AllByRecursion}
use Rattle.machine_state.specs.State.{Run, Ask, Act, Body, Emit, Update, Destroy}
use Rattle.std.specs.Prelude.{IsTrue, is_some}
use Rattle.native_slots.specs.declared.action.Action.{Action}
use Rattle.machine_rules.specs.code.Answering.{member_of_action}
use Rattle.machine_rules.specs.Settling.{notified}
use Rattle.machine_rules.specs.Writing.{MayNotify}
use Rattle.machine_rules.specs.code.Sound.{IsSoundWorld, MayBeHeardIn}
use Rattle.machine_rules.specs.Reaches.{Reaches}
use Rattle.machine_rules.specs.code.Keeps.{KeepsWorld}
use Rattle.rule_interpreter.proofs.interpreter.Interpreter.+machine.Given as goal

abbrev pub decreases-run_emission : goal.decreases-run_emission
decreases-run_emission g l = 6 * l.world.now.left + 2

abbrev pub decreases-deliver : goal.decreases-deliver
decreases-deliver g l = 6 * l.world.now.left + 1

abbrev pub decreases-begin_used : goal.decreases-begin_used
decreases-begin_used g l = 6 * l.world.now.left + 0

abbrev pub decreases-begin_typed : goal.decreases-begin_typed
decreases-begin_typed g l = 6 * l.world.now.left + 1

abbrev pub decreases-begin : goal.decreases-begin
decreases-begin g l = 6 * l.world.now.left + 1

abbrev pub decreases-begin_found : goal.decreases-begin_found
decreases-begin_found g l = 6 * l.world.now.left + 0

abbrev pub decreases-run_callee : goal.decreases-run_callee
decreases-run_callee g l = 6 * l.world.now.left + 5

abbrev pub decreases-run_body : goal.decreases-run_body
decreases-run_body g l = 6 * l.world.now.left + 4

abbrev pub decreases-carry_out : goal.decreases-carry_out
decreases-carry_out g l = 6 * l.world.now.left + 3

abbrev pub decreases-emit : goal.decreases-emit
decreases-emit g l = 6 * l.world.now.left + 2

abbrev pub decreases-call : goal.decreases-call
decreases-call g l = 6 * l.world.now.left + 2

abbrev pub decreases-run_native : goal.decreases-run_native
decreases-run_native g l = 6 * l.world.now.left + 4

abbrev pub decreases-carry_out_action : goal.decreases-carry_out_action
decreases-carry_out_action g l = 6 * l.world.now.left + 2

abbrev pub decreases-write : goal.decreases-write
decreases-write g l = 6 * l.world.now.left + 0

abbrev pub decreases-write_group : goal.decreases-write_group
decreases-write_group g l = 6 * l.world.now.left + 0

abbrev pub decreases-run_update : goal.decreases-run_update
decreases-run_update g l = 6 * l.world.now.left + 4

abbrev pub decreases-notify : goal.decreases-notify
decreases-notify g l = 6 * l.world.now.left + 3

abbrev pub decreases-emit_change : goal.decreases-emit_change
decreases-emit_change g l = 6 * l.world.now.left + 2

abbrev pub decreases-delete : goal.decreases-delete
decreases-delete g l = 6 * l.world.now.left + 0

abbrev pub decreases-run_deletion : goal.decreases-run_deletion
decreases-run_deletion g l = 6 * l.world.now.left + 2

abbrev pub decreases-announce_living : goal.decreases-announce_living
decreases-announce_living g l = 6 * l.world.now.left + 1

abbrev pub decreases-announce : goal.decreases-announce
decreases-announce g l = 6 * l.world.now.left + 0

abbrev pub invariant-run_deletion-loop-world : goal.invariant-run_deletion-loop-world
invariant-run_deletion-loop-world g l =
    record {
      reaches : Reaches l.self.context.meta (g.N.Answering.gives l.self.natives) l.self.context.depth l.active l.fn.world (Destroy (Some l.fn.object) [] ∷ []) l.world (Destroy None (reverse l.torn.items) ∷ []);
      fewer : l.world.left ≤ l.fn.world.left;
      sound : IsSoundWorld l.self.context.meta l.world;
    }

abbrev pub decreases-run_deletion-loop-world : goal.decreases-run_deletion-loop-world
decreases-run_deletion-loop-world g l = l.world.left

abbrev pub invariant-run_body-loop-statement : goal.invariant-run_body-loop-statement
invariant-run_body-loop-statement g l =
    record {
      reaches : Reaches l.self.context.meta (g.N.Answering.gives l.self.natives) l.self.context.depth l.active l.fn.world (Body l.call.object l.call.method l.call.arguments.now (map Run l.statements) ∷ []) l.world (Body l.call.object l.call.method l.call.arguments.now (map Run l.left) ∷ []);
      keeps : KeepsWorld l.self.context.meta l.fn.world l.world;
      fewer : l.world.left ≤ l.fn.world.left;
      sound : IsSoundWorld l.self.context.meta l.world;
    }

abbrev pub decreases-run_body-loop-statement : goal.decreases-run_body-loop-statement
decreases-run_body-loop-statement g l = l.world.left

abbrev pub invariant-run_emission-loop-connection : goal.invariant-run_emission-loop-connection
invariant-run_emission-loop-connection g l =
    record {
      reaches : Reaches l.self.context.meta (g.N.Answering.gives l.self.natives) l.self.context.depth l.active l.fn.world (Emit l.call.object l.call.method l.call.arguments.now 0 l.last ∷ []) l.world (Emit l.call.object l.call.method l.call.arguments.now l.used l.last ∷ []);
      keeps : KeepsWorld l.self.context.meta l.fn.world l.world;
      fewer : l.world.left ≤ l.fn.world.left;
      sound : IsSoundWorld l.self.context.meta l.world;
      heard : MayBeHeardIn l.world l.call.object l.call.method;
    }

abbrev pub decreases-run_emission-loop-connection : goal.decreases-run_emission-loop-connection
decreases-run_emission-loop-connection g l = l.last - l.used

abbrev pub invariant-run_update-loop-place : goal.invariant-run_update-loop-place
invariant-run_update-loop-place g l =
    record {
      reaches : Reaches l.self.context.meta (g.N.Answering.gives l.self.natives) l.self.context.depth l.active l.fn.world (Update (notified l.self.context.meta l.fn.world.store.tree l.changed) ∷ []) l.world (Update l.left ∷ []);
      fewer : l.world.left ≤ l.fn.world.left;
      sound : IsSoundWorld l.self.context.meta l.world;
      may : AllByRecursion (MayNotify l.self.context.meta l.world.store.tree) l.left;
    }

abbrev pub decreases-run_update-loop-place : goal.decreases-run_update-loop-place
decreases-run_update-loop-place g l = length l.left

-- what is left of the answer is left of the body
abbrev pub invariant-run_native-loop-action : goal.invariant-run_native-loop-action
invariant-run_native-loop-action g l =
    record {
      reaches : Reaches l.self.context.meta (g.N.Answering.gives l.self.natives) l.self.context.depth l.active l.fn.world (Body l.call.object l.call.method l.call.arguments.now (Ask l.effects ∷ []) ∷ []) l.world (Body l.call.object l.call.method l.call.arguments.now (map (Act l.effects) l.action-iterator.rest.items) ∷ []);
      within : AllByRecursion (λ (a : Action). IsTrue (is_some (member_of_action l.effects a))) l.action-iterator.rest.items;
      fewer : l.world.left ≤ l.fn.world.left;
      sound : IsSoundWorld l.self.context.meta l.world;
    }
