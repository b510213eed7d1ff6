use Rattle.std.proofs.Common.{inr, refl, sym, subst}
use Rattle.std.proofs.lemmas.Option.{slice_get_read}
use Rattle.meta_model.specs.declared.object.MetaEndpoints.{MetaEndpoints}
use Rattle.meta_model.specs.declared.object.MetaPath.{MetaPath}
use Rattle.meta_model.specs.declared.object.Statement.{Statement}
use Rattle.class_outlines.specs.declared.fault.MetaFault.TheVariants as fault
use Rattle.meta_model.specs.Sound.{AreSets}
use Rattle.name_resolution.specs.code.Bodies.{AreEnds, IsReferencePath, IsStatementOf, AreStatements, LacksInBody}
use Rattle.name_resolution.specs.code.Resolving.{scope}
use Rattle.class_outlines.proofs.Loading.{failed}
use Rattle.name_resolution.proofs.BodyPieces.{block_left, block_only, block_stuck, block_end, if_piece, no_other, no_group, no_sets, group_piece}
use Rattle.name_resolution.proofs.BodyEnds.{no_connect, connect_piece, no_disconnect, disconnect_piece}
use Rattle.name_resolution.proofs.BodyReferences.{no_delete, delete_piece, no_later, later_piece}
use Rattle.name_resolution.proofs.body_resolution.scope.Scope.+blocks.Goals as goal

pub resolve_block-loop-statement-preserved : goal.resolve_block-loop-statement-preserved
resolve_block-loop-statement-preserved t c =
    let at = slice_get_read _ _ _ _ refl c.loop-statement-test.true c.statement-item.is in
    record {
      left = block_left _ _ _ _ _ _ _ at c.in_ok-statement.ensures c.in_ok-push.ensures.ok c.loop-statement.invariant.left;
      only = block_only _ _ _ _ at c.loop-statement.invariant.only;
    }

pub resolve_block-returns-in_err-statement : goal.resolve_block-returns-in_err-statement
resolve_block-returns-in_err-statement t c =
    let s = scope c.args.self.now in
    let at = slice_get_read _ _ _ _ refl c.loop-statement-test.true c.statement-item.is in
    failed fault.NoMember ((y : Statement) → ¬ IsStatementOf s c.statement-item.result y) (LacksInBody s c.args.body.now)
    (λ y. IsStatementOf s c.statement-item.result y) (λ ys. AreStatements s c.args.body.now ys) _ c.in_err-statement.ensures
    (λ lacks. block_stuck s _ _ _ at c.loop-statement.invariant.only lacks) _ c.from_residual-in_err-statement.ensures.0 c.from_residual-in_err-statement.ensures.1

pub resolve_block-returns : goal.resolve_block-returns
resolve_block-returns t c = block_end _ _ _ _ c.loop-statement-test.false c.loop-statement.invariant.left

pub resolve_statement-returns-in_err-other-in-If : goal.resolve_statement-returns-in_err-other-in-If
resolve_statement-returns-in_err-other-in-If t c =
    let s = scope c.args.self.now in
    failed fault.NoMember (LacksInBody s c.as_slice-in-If-2.result.now) ((y : Statement) → ¬ IsStatementOf s c.args.statement.now y)
    (λ ys. AreStatements s c.as_slice-in-If-2.result.now ys) (λ y. IsStatementOf s c.args.statement.now y) _ c.in_err-other-in-If.ensures
    (λ lacks. rw c.in-If.is (no_other s _ _ _ (rw c.as_slice-in-If-2.ensures at lacks))) _ c.from_residual-in_err-other-in-If.ensures.0 c.from_residual-in_err-other-in-If.ensures.1

pub resolve_statement-returns-in_ok-other-in-If : goal.resolve_statement-returns-in_ok-other-in-If
resolve_statement-returns-in_ok-other-in-If t c =
    rw c.in-If.is
    (if_piece _ _ _ _ _ _ _ c.in_ok-test-in-If.ensures (rw c.as_slice-in-If.ensures at c.in_ok-chosen-in-If.ensures) (rw c.as_slice-in-If-2.ensures at c.in_ok-other-in-If.ensures))

pub resolve_statement-returns-in_err-ends-in-Connect : goal.resolve_statement-returns-in_err-ends-in-Connect
resolve_statement-returns-in_err-ends-in-Connect t c =
    let s = scope c.args.self.now in
    failed fault.NoMember ((found : MetaEndpoints) → ¬ AreEnds s c.in-Connect.ends found) ((y : Statement) → ¬ IsStatementOf s c.args.statement.now y)
    (λ found. AreEnds s c.in-Connect.ends found) (λ y. IsStatementOf s c.args.statement.now y) _ c.in_err-ends-in-Connect.ensures
    (λ lacks. rw c.in-Connect.is (no_connect s _ _ lacks)) _ c.from_residual-in_err-ends-in-Connect.ensures.0 c.from_residual-in_err-ends-in-Connect.ensures.1

pub resolve_statement-returns-in_ok-ends-in-Connect : goal.resolve_statement-returns-in_ok-ends-in-Connect
resolve_statement-returns-in_ok-ends-in-Connect t c = rw c.in-Connect.is (connect_piece _ _ _ _ c.in_ok-ends-in-Connect.ensures)

pub resolve_statement-returns-in_err-ends-in-Disconnect : goal.resolve_statement-returns-in_err-ends-in-Disconnect
resolve_statement-returns-in_err-ends-in-Disconnect t c =
    let s = scope c.args.self.now in
    failed fault.NoMember ((found : MetaEndpoints) → ¬ AreEnds s c.in-Disconnect.ends found) ((y : Statement) → ¬ IsStatementOf s c.args.statement.now y)
    (λ found. AreEnds s c.in-Disconnect.ends found) (λ y. IsStatementOf s c.args.statement.now y) _ c.in_err-ends-in-Disconnect.ensures
    (λ lacks. rw c.in-Disconnect.is (no_disconnect s _ lacks)) _ c.from_residual-in_err-ends-in-Disconnect.ensures.0 c.from_residual-in_err-ends-in-Disconnect.ensures.1

pub resolve_statement-returns-in_ok-ends-in-Disconnect : goal.resolve_statement-returns-in_ok-ends-in-Disconnect
resolve_statement-returns-in_ok-ends-in-Disconnect t c = rw c.in-Disconnect.is (disconnect_piece _ _ _ c.in_ok-ends-in-Disconnect.ensures)

pub resolve_statement-returns-in_err-path-in-Delete : goal.resolve_statement-returns-in_err-path-in-Delete
resolve_statement-returns-in_err-path-in-Delete t c =
    let s = scope c.args.self.now in
    failed fault.NoMember ((found : MetaPath) → ¬ IsReferencePath s c.in-Delete.path found) ((y : Statement) → ¬ IsStatementOf s c.args.statement.now y)
    (λ found. IsReferencePath s c.in-Delete.path found) (λ y. IsStatementOf s c.args.statement.now y) _ c.in_err-path-in-Delete.ensures
    (λ lacks. rw c.in-Delete.is (no_delete s _ lacks)) _ c.from_residual-in_err-path-in-Delete.ensures.0 c.from_residual-in_err-path-in-Delete.ensures.1

pub resolve_statement-returns-in_ok-path-in-Delete : goal.resolve_statement-returns-in_ok-path-in-Delete
resolve_statement-returns-in_ok-path-in-Delete t c = rw c.in-Delete.is (delete_piece _ _ _ c.in_ok-path-in-Delete.ensures)

pub resolve_statement-returns-in_err-path-in-Later : goal.resolve_statement-returns-in_err-path-in-Later
resolve_statement-returns-in_err-path-in-Later t c =
    let s = scope c.args.self.now in
    failed fault.NoMember ((found : MetaPath) → ¬ IsReferencePath s c.in-Later.path found) ((y : Statement) → ¬ IsStatementOf s c.args.statement.now y)
    (λ found. IsReferencePath s c.in-Later.path found) (λ y. IsStatementOf s c.args.statement.now y) _ c.in_err-path-in-Later.ensures
    (λ lacks. rw c.in-Later.is (no_later s _ lacks)) _ c.from_residual-in_err-path-in-Later.ensures.0 c.from_residual-in_err-path-in-Later.ensures.1

pub resolve_statement-returns-in_ok-path-in-Later : goal.resolve_statement-returns-in_ok-path-in-Later
resolve_statement-returns-in_ok-path-in-Later t c = rw c.in-Later.is (later_piece _ _ _ c.in_ok-path-in-Later.ensures)

pub resolve_statement-returns-in_err-sets-in-Group : goal.resolve_statement-returns-in_err-sets-in-Group
resolve_statement-returns-in_err-sets-in-Group t c =
    let s = scope c.args.self.now in
    failed fault.NoMember (LacksInBody s c.as_slice-in-Group.result.now) ((y : Statement) → ¬ IsStatementOf s c.args.statement.now y)
    (λ ys. AreStatements s c.as_slice-in-Group.result.now ys) (λ y. IsStatementOf s c.args.statement.now y) _ c.in_err-sets-in-Group.ensures
    (λ lacks. rw c.in-Group.is (no_group s _ (rw c.as_slice-in-Group.ensures at lacks))) _ c.from_residual-in_err-sets-in-Group.ensures.0 c.from_residual-in_err-sets-in-Group.ensures.1

pub resolve_statement-returns-then-not-are_sets : goal.resolve_statement-returns-then-not-are_sets
resolve_statement-returns-then-not-are_sets t c =
    let s = scope c.args.self.now in
    let form = rw c.as_slice-in-Group.ensures at c.in_ok-sets-in-Group.ensures in
    let other : ¬ AreSets c.in_ok-sets-in-Group.sets =
    λ all. let is = c.if-not-are_sets.ensures.1 (subst (λ ys. AreSets ys) (sym c.as_slice-in-Group-2.ensures) all) in cc in
    inr (c.undeclared.ensures, rw c.in-Group.is (no_sets s _ _ form other))

pub resolve_statement-returns-else-not-are_sets : goal.resolve_statement-returns-else-not-are_sets
resolve_statement-returns-else-not-are_sets t c =
    let form = rw c.as_slice-in-Group.ensures at c.in_ok-sets-in-Group.ensures in
    let all = rw c.as_slice-in-Group-2.ensures at (c.if-not-are_sets.ensures.0 refl) in
    rw c.in-Group.is (group_piece (scope c.args.self.now) _ _ form all)
