-- Resolving `emit` and `call`.
use Rattle.std.proofs.Common.{◌≡◌, ◌≢◌, ℕ, ◌<◌, List, length, sym, ap, ◌∙◌, subst}
use Rattle.syntax_trees.specs.declared.syntax.Expr.{Expr}
use Rattle.syntax_trees.specs.declared.syntax.Path.{Path}
use Rattle.syntax_trees.specs.declared.syntax.Stmt.TheVariants as stmt_by
use Rattle.syntax_trees.specs.declared.syntax.Stmt.TheOpen as stmt
use Rattle.meta_model.specs.declared.object.MetaPath.{MetaPath}
use Rattle.meta_model.specs.declared.object.Statement.{Statement}
use Rattle.meta_model.specs.declared.object.Statement.TheVariants as statement_by
use Rattle.meta_model.specs.declared.object.Statement.TheOpen as statement
use Rattle.meta_model.specs.declared.object.Statement.TheViews.{out-Statement}
use Rattle.class_outlines.specs.declared.outline.Heading.{Heading}
use Rattle.class_outlines.specs.declared.outline.Outline.{Outline}
use Rattle.class_outlines.specs.declared.outline.Sort.TheVariants as sort
use Rattle.name_indexes.specs.Places.{StandsAt, StandsFirst, Found}
use Rattle.name_resolution.specs.code.Bodies.{Scope, AreExprs, IsObjectPath, IsEmit, IsCall, IsStatement, emit_is, call_is, IsStatementOf}
use Rattle.class_outlines.specs.Indexed.{IsCallOf}
use Rattle.class_outlines.proofs.Firsts.{found_item, same_in}
use Rattle.name_resolution.proofs.Bodies.{same_object}
use Rattle.name_resolution.proofs.BodyPieces.{by_parts, parts_of}

-- what is found in an outline is in an equal one
module _ (P : Heading → Type 0) (u o : Outline) (e : u ≡ o) where
  method_in : (m : ℕ) (h : Heading) → Found P o.methods m h → (place : StandsFirst P u.methods m) × (place.at.item ≡ h)
  method_in m h found =
      let place = subst (λ (v : Outline). StandsFirst P v.methods m) (sym e) found.first in
      (place, (same_in (λ (v : Outline). v.methods) P u o e m m place found.first).1 ∙ found.is)

  method_is : (m k : ℕ) (h : Heading) → Found P o.methods m h → (place : StandsFirst P u.methods k) → (k ≡ m) × (place.at.item ≡ h)
  method_is m k h found place =
      let same = same_in (λ (v : Outline). v.methods) P u o e k m place found.first in
      (same.0, same.1 ∙ found.is)

  method_not : ((k : ℕ) → ¬ StandsAt P o.methods k) → (k : ℕ) → ¬ StandsFirst P u.methods k
  method_not none k place = none k (subst (λ (v : Outline). StandsAt P v.methods k) e place.at)

module _ (s : Scope) where
  -- ---- emit
  emit_of : (n : List ℕ) (es : List (Expr Path)) (g : statement.Statement-F Statement) → IsStatement s (stmt.Emit n es) g → (m : ℕ) × (fs : List (Expr MetaPath)) × IsEmit s n es m fs
  emit_of n es g (emit_is {m = m} {fs = fs} h) = (m, fs, h)

  module _ (n : List ℕ) (es : List (Expr Path)) where
    an_emit : (y : Statement) → IsStatementOf s (stmt_by.Emit n es) y → (m : ℕ) × (fs : List (Expr MetaPath)) × IsEmit s n es m fs
    an_emit y is = emit_of n es (out-Statement y) (parts_of s _ y _ (stmt_by.outs-Emit n es) is)

    pub no_emit_class : ((k : ℕ) → ¬ StandsAt (λ (o : Outline). o.name ≡ s.me) s.outlines k) → (y : Statement) → ¬ IsStatementOf s (stmt_by.Emit n es) y
    no_emit_class none y is = let r = an_emit y is in none r.2.number r.2.class.at

    pub no_emit_values : ((fs : List (Expr MetaPath)) → ¬ AreExprs s es fs) → (y : Statement) → ¬ IsStatementOf s (stmt_by.Emit n es) y
    no_emit_values lacks y is = let r = an_emit y is in lacks r.1 r.2.values

    module _ (c : ℕ) (o : Outline) (found : Found (λ (o : Outline). o.name ≡ s.me) s.outlines c o) where
      pub no_emit_method : ((k : ℕ) → ¬ StandsAt (IsCallOf n (length es)) o.methods k) → (y : Statement) → ¬ IsStatementOf s (stmt_by.Emit n es) y
      no_emit_method none y is =
          let r = an_emit y is in
          let class = found_item (λ (o : Outline). o.name ≡ s.me) s.outlines r.2.number c o r.2.class found in
          method_not (IsCallOf n (length es)) r.2.class.at.item o class none r.0 r.2.method

      module _ (m : ℕ) (h : Heading) (method : Found (IsCallOf n (length es)) o.methods m h) where
        pub no_emit : (h.sort ≡ sort.Signal → ¬ (2 < m)) → (y : Statement) → ¬ IsStatementOf s (stmt_by.Emit n es) y
        no_emit lacks y is =
            let r = an_emit y is in
            let class = found_item (λ (o : Outline). o.name ≡ s.me) s.outlines r.2.number c o r.2.class found in
            let same = method_is (IsCallOf n (length es)) r.2.class.at.item o class m r.0 h method r.2.method in
            lacks (ap (λ (h : Heading). h.sort) (sym same.1) ∙ r.2.signal) (subst (λ k. 2 < k) same.0 r.2.emitted)

        pub emit_piece : (fs : List (Expr MetaPath)) → h.sort ≡ sort.Signal → 2 < m → AreExprs s es fs → IsStatementOf s (stmt_by.Emit n es) (statement_by.Emit m fs)
        emit_piece fs signal emitted values =
            let place = method_in (IsCallOf n (length es)) found.first.at.item o found.is m h method in
            by_parts s _ _ _ _ (stmt_by.outs-Emit n es) (statement_by.outs-Emit m fs)
            (emit_is (record { number = c; class = found.first; method = place.0; signal = ap (λ (h : Heading). h.sort) place.1 ∙ signal; emitted = emitted; values = values }))

  -- ---- call
  call_of : (p : Path) (n : List ℕ) (es : List (Expr Path)) (g : statement.Statement-F Statement) → IsStatement s (stmt.Call p n es) g → (found : MetaPath) × (m : ℕ) × (fs : List (Expr MetaPath)) × IsCall s p n es found m fs
  call_of p n es g (call_is {found = found} {m = m} {fs = fs} h) = (found, m, fs, h)

  module _ (p : Path) (n : List ℕ) (es : List (Expr Path)) where
    a_call : (y : Statement) → IsStatementOf s (stmt_by.Call p n es) y → (found : MetaPath) × (m : ℕ) × (fs : List (Expr MetaPath)) × IsCall s p n es found m fs
    a_call y is = call_of p n es (out-Statement y) (parts_of s _ y _ (stmt_by.outs-Call p n es) is)

    pub no_call_object : ((found : MetaPath) (class : Outline) → ¬ IsObjectPath s p found class) → (y : Statement) → ¬ IsStatementOf s (stmt_by.Call p n es) y
    no_call_object lacks y is = let r = a_call y is in lacks r.0 r.3.class r.3.object

    pub no_call_values : ((fs : List (Expr MetaPath)) → ¬ AreExprs s es fs) → (y : Statement) → ¬ IsStatementOf s (stmt_by.Call p n es) y
    no_call_values lacks y is = let r = a_call y is in lacks r.2 r.3.values

    module _ (g : MetaPath) (class : Outline) (object : IsObjectPath s p g class) where
      -- the class of a resolved call is this one
      called_class : (found : MetaPath) (m : ℕ) (fs : List (Expr MetaPath)) (call : IsCall s p n es found m fs) → call.class ≡ class
      called_class found m fs call = (same_object s p found g call.class class call.object object).1

      pub no_call_method : ((k : ℕ) → ¬ StandsAt (IsCallOf n (length es)) class.methods k) → (y : Statement) → ¬ IsStatementOf s (stmt_by.Call p n es) y
      no_call_method none y is =
          let r = a_call y is in
          method_not (IsCallOf n (length es)) r.3.class class (called_class r.0 r.1 r.2 r.3) none r.1 r.3.method

      module _ (m : ℕ) (h : Heading) (method : Found (IsCallOf n (length es)) class.methods m h) where
        pub no_call : h.sort ≡ sort.Signal → (y : Statement) → ¬ IsStatementOf s (stmt_by.Call p n es) y
        no_call signal y is =
            let r = a_call y is in
            let same = method_is (IsCallOf n (length es)) r.3.class class (called_class r.0 r.1 r.2 r.3) m r.1 h method r.3.method in
            r.3.callable (ap (λ (k : Heading). k.sort) same.1 ∙ signal)

        pub call_piece : (fs : List (Expr MetaPath)) → h.sort ≢ sort.Signal → AreExprs s es fs → IsStatementOf s (stmt_by.Call p n es) (statement_by.Call g m fs)
        call_piece fs callable values =
            by_parts s _ _ _ _ (stmt_by.outs-Call p n es) (statement_by.outs-Call g m fs)
            (call_is (record { class = class; object = object; method = method.first; callable = subst (λ (k : Heading). k.sort ≢ sort.Signal) (sym method.is) callable; values = values }))
