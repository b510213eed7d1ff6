-- Resolving `delete` and `later`.
use Rattle.std.proofs.Common.{◌≡◌, true, false, sym, ap, ◌∙◌}
use Rattle.basic_types.specs.declared.qtype.QType.{QType}
use Rattle.syntax_trees.specs.declared.syntax.Path.{Path}
use Rattle.syntax_trees.specs.declared.syntax.Stmt.TheVariants as stmt_by
use Rattle.syntax_trees.specs.declared.syntax.Stmt.TheOpen as stmt
use Rattle.meta_model.specs.declared.object.MetaPath.{MetaPath}
use Rattle.meta_model.specs.declared.object.Statement.{Statement}
use Rattle.meta_model.specs.declared.object.Statement.TheVariants as statement_by
use Rattle.meta_model.specs.declared.object.Statement.TheOpen as statement
use Rattle.meta_model.specs.declared.object.Statement.TheViews.{out-Statement}
use Rattle.name_resolution.specs.code.Bodies.{Scope, IsPath, IsReferencePath, IsStatement, delete_is, later_is, IsStatementOf}
use Rattle.name_resolution.proofs.Bodies.{same_path}
use Rattle.name_resolution.proofs.BodyPieces.{by_parts, parts_of}

module _ (s : Scope) where
  module _ (path : Path) where
    -- ---- the path
    pub no_reference : ((found : MetaPath) (T : QType) → ¬ IsPath s path found T) → (found : MetaPath) → ¬ IsReferencePath s path found
    no_reference lacks found h = lacks found h.kind h.leads

    pub no_pointer : (g : MetaPath) (T : QType) → IsPath s path g T → T.pointer ≡ false → (found : MetaPath) → ¬ IsReferencePath s path found
    no_pointer g T to plain found h =
        let same = same_path s path found g h.kind T h.leads to in
        let pointer : T.pointer ≡ true = sym (ap (λ (U : QType). U.pointer) same.1) ∙ h.pointer in
        absurd (cc)

  -- ---- the statements
  deleted_path : (path : Path) (g : statement.Statement-F Statement) → IsStatement s (stmt.Delete path) g → (found : MetaPath) × IsReferencePath s path found
  deleted_path path g (delete_is {found = found} h) = (found, h)

  later_path : (path : Path) (g : statement.Statement-F Statement) → IsStatement s (stmt.Later path) g → (found : MetaPath) × IsReferencePath s path found
  later_path path g (later_is {found = found} h) = (found, h)

  module _ (path : Path) where
    pub no_delete : ((found : MetaPath) → ¬ IsReferencePath s path found) → (y : Statement) → ¬ IsStatementOf s (stmt_by.Delete path) y
    no_delete lacks y is =
        let r = deleted_path path (out-Statement y) (parts_of s _ y _ (stmt_by.outs-Delete path) is) in lacks r.0 r.1

    pub delete_piece : (found : MetaPath) → IsReferencePath s path found → IsStatementOf s (stmt_by.Delete path) (statement_by.Delete found)
    delete_piece found h = by_parts s _ _ _ _ (stmt_by.outs-Delete path) (statement_by.outs-Delete found) (delete_is h)

    pub no_later : ((found : MetaPath) → ¬ IsReferencePath s path found) → (y : Statement) → ¬ IsStatementOf s (stmt_by.Later path) y
    no_later lacks y is =
        let r = later_path path (out-Statement y) (parts_of s _ y _ (stmt_by.outs-Later path) is) in lacks r.0 r.1

    pub later_piece : (found : MetaPath) → IsReferencePath s path found → IsStatementOf s (stmt_by.Later path) (statement_by.Later found)
    later_piece found h = by_parts s _ _ _ _ (stmt_by.outs-Later path) (statement_by.outs-Later found) (later_is h)
