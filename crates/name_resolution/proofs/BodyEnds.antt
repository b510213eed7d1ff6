-- Resolving `connect` and `disconnect`.
use Rattle.std.proofs.Common.{ℕ, ◌≤◌, subst, arith}
use Rattle.syntax_trees.specs.{declared.connection.ConnectionType.{ConnectionType}, declared.connection.Endpoints.{Endpoints}, declared.syntax.Path.{Path}}
use Rattle.syntax_trees.specs.declared.syntax.Stmt.TheVariants as stmt_by
use Rattle.syntax_trees.specs.declared.syntax.Stmt.TheOpen as stmt
use Rattle.meta_model.specs.{declared.object.MetaPath.{MetaPath}, declared.object.MetaEndpoints.{MetaEndpoints}, declared.object.Statement.{Statement}, declared.object.Statement.TheViews.{out-Statement}, declared.qobject.TheConstants.{OBJECT_NAME_CHANGED}}
use Rattle.meta_model.specs.declared.object.Statement.TheVariants as statement_by
use Rattle.meta_model.specs.declared.object.Statement.TheOpen as statement
use Rattle.class_outlines.{specs.declared.outline.Outline.{Outline}, specs.Notifiers.{IsSignalOf}, specs.Ends.{IsSigned}, proofs.Firsts.{same_in}}
use Rattle.name_indexes.specs.Places.{StandsFirst, NoneStands, StandsAt}
use Rattle.name_resolution.{specs.code.Bodies.{Scope, IsObjectPath, AreEnds, IsStatement, connect_is, disconnect_is, IsStatementOf}, proofs.Bodies.{same_object}, proofs.BodyPieces.{by_parts, parts_of}}

module _ (s : Scope) where
  module _ (ends : Endpoints Path) where
    -- ---- the sender
    pub no_sender : ((found : MetaPath) (class : Outline) → ¬ IsObjectPath s ends.sender found class) → (y : MetaEndpoints) → ¬ AreEnds s ends y
    no_sender lacks y h = lacks y.sender h.from_class h.sender

    pub no_signal : (g : MetaPath) (class : Outline) → IsObjectPath s ends.sender g class → NoneStands (IsSignalOf ends.signal) class.methods → (y : MetaEndpoints) → ¬ AreEnds s ends y
    no_signal g class object none y h =
        let same = same_object s ends.sender y.sender g h.from_class class h.sender object in
        none y.signal (subst (λ (o : Outline). StandsAt (IsSignalOf ends.signal) o.methods y.signal) same.1 h.signal.at)

    -- ---- the receiver
    pub no_receiver : ((found : MetaPath) (class : Outline) → ¬ IsObjectPath s ends.receiver found class) → (y : MetaEndpoints) → ¬ AreEnds s ends y
    no_receiver lacks y h = lacks y.receiver h.to_class h.receiver

    module _ (g : MetaPath) (class : Outline) (object : IsObjectPath s ends.receiver g class) where
      pub no_method : NoneStands (IsSigned ends.method) class.methods → (y : MetaEndpoints) → ¬ AreEnds s ends y
      no_method none y h =
          let same = same_object s ends.receiver y.receiver g h.to_class class h.receiver object in
          none y.method (subst (λ (o : Outline). StandsAt (IsSigned ends.method) o.methods y.method) same.1 h.method.at)

      pub no_called : (m : ℕ) → StandsFirst (IsSigned ends.method) class.methods m → m ≤ OBJECT_NAME_CHANGED → (y : MetaEndpoints) → ¬ AreEnds s ends y
      no_called m first early y h =
          let same = same_object s ends.receiver y.receiver g h.to_class class h.receiver object in
          let at = same_in (λ (o : Outline). o.methods) (IsSigned ends.method) h.to_class class same.1 y.method m h.method first in
          let one = at.0 in
          let called = h.called in
          absurd (omega arith)

  -- ---- the statements
  connected_ends : (ends : Endpoints Path) (type : ConnectionType) (g : statement.Statement-F Statement) → IsStatement s (stmt.Connect ends type) g → (found : MetaEndpoints) × AreEnds s ends found
  connected_ends ends type g (connect_is {found = found} h) = (found, h)

  disconnected_ends : (ends : Endpoints Path) (g : statement.Statement-F Statement) → IsStatement s (stmt.Disconnect ends) g → (found : MetaEndpoints) × AreEnds s ends found
  disconnected_ends ends g (disconnect_is {found = found} h) = (found, h)

  module _ (ends : Endpoints Path) where
    pub no_connect : (type : ConnectionType) → ((found : MetaEndpoints) → ¬ AreEnds s ends found) → (y : Statement) → ¬ IsStatementOf s (stmt_by.Connect ends type) y
    no_connect type lacks y is =
        let r = connected_ends ends type (out-Statement y) (parts_of s _ y _ (stmt_by.outs-Connect ends type) is) in lacks r.0 r.1

    pub connect_piece : (type : ConnectionType) (found : MetaEndpoints) → AreEnds s ends found → IsStatementOf s (stmt_by.Connect ends type) (statement_by.Connect found type)
    connect_piece type found h = by_parts s _ _ _ _ (stmt_by.outs-Connect ends type) (statement_by.outs-Connect found type) (connect_is h)

    pub no_disconnect : ((found : MetaEndpoints) → ¬ AreEnds s ends found) → (y : Statement) → ¬ IsStatementOf s (stmt_by.Disconnect ends) y
    no_disconnect lacks y is =
        let r = disconnected_ends ends (out-Statement y) (parts_of s _ y _ (stmt_by.outs-Disconnect ends) is) in lacks r.0 r.1

    pub disconnect_piece : (found : MetaEndpoints) → AreEnds s ends found → IsStatementOf s (stmt_by.Disconnect ends) (statement_by.Disconnect found)
    disconnect_piece found h = by_parts s _ _ _ _ (stmt_by.outs-Disconnect ends) (statement_by.outs-Disconnect found) (disconnect_is h)
