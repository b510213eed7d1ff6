use Rattle.meta_model.specs.declared.object.Statement.TheVariants as whole
use Rattle.type_check.proofs.Statements.{told, told_bool, told_emit, told_call}
use Rattle.type_check.proofs.scope.BodyScope.is_typed.Goals as goal

pub returns-in-Set : goal.returns-in-Set
returns-in-Set c =
    told c.args.self.now.meta.now c.args.self.now.class c.args.self.now.types.now c.may_set.result _ _ _ c.in-Set.is (whole.outs-Set _ _ _) c.may_set.ensures

pub returns-in-Emit : goal.returns-in-Emit
returns-in-Emit c =
    told c.args.self.now.meta.now c.args.self.now.class c.args.self.now.types.now c.accepts.result _ _ _ c.in-Emit.is (whole.outs-Emit _ _)
    (told_emit c.args.self.now.meta.now c.args.self.now.class c.args.self.now.types.now c.accepts.result _ _ _ c.as_slice.ensures c.accepts.ensures)

pub returns-in-Call : goal.returns-in-Call
returns-in-Call c =
    told c.args.self.now.meta.now c.args.self.now.class c.args.self.now.types.now c.may_call.result _ _ _ c.in-Call.is (whole.outs-Call _ _ _)
    (told_call c.args.self.now.meta.now c.args.self.now.class c.args.self.now.types.now c.may_call.result _ _ _ _ c.as_slice-in-Call.ensures c.may_call.ensures)

pub returns-in-If : goal.returns-in-If
returns-in-If c =
    told c.args.self.now.meta.now c.args.self.now.class c.args.self.now.types.now c.is_given.result _ _ _ c.in-If.is (whole.outs-If _ _ _) c.is_given.ensures

pub returns-in-Delete : goal.returns-in-Delete
returns-in-Delete c =
    told_bool c.args.self.now.meta.now c.args.self.now.class c.args.self.now.types.now c.is_mutable.result _ _ _ c.in-Delete.is (whole.outs-Delete _) c.is_mutable.ensures

pub returns-in-Later : goal.returns-in-Later
returns-in-Later c =
    told_bool c.args.self.now.meta.now c.args.self.now.class c.args.self.now.types.now c.is_mutable-in-Later.result _ _ _ c.in-Later.is (whole.outs-Later _) c.is_mutable-in-Later.ensures
