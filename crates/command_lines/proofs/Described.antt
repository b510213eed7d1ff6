-- The lines of methods one by one.
use Rattle.std.proofs.Common.{◌≡◌, ℕ, ◌+◌, ◌<◌, ◌≤◌, List, [], ◌∷◌, ◌++◌, drop, length, get_or, sym, ap, ◌∙◌, arith}
use Rattle.std.proofs.lemmas.List.{drop_more, drop_all}
use Rattle.meta_model.specs.declared.object.MetaMethod.{MetaMethod}
use Rattle.command_lines.specs.MetaLines.{method_line, method_lines}

pub lines_at : (methods : List MetaMethod) (n : ℕ) (m : MetaMethod) → n < length methods → m ≡ get_or methods n m →
    method_lines n (drop n methods) ≡ method_line n m ++ method_lines (n + 1) (drop (n + 1) methods)
lines_at methods n m less is =
    ap (method_lines n) (drop_more methods n m less ∙ ap (λ x. x ∷ drop (n + 1) methods) (sym is))
    ∙ ap (λ k. method_line n m ++ method_lines k (drop (n + 1) methods)) (omega arith)

pub lines_past : (methods : List MetaMethod) (n : ℕ) → length methods ≤ n → method_lines n (drop n methods) ≡ []
lines_past methods n past = ap (method_lines n) (drop_all n methods past)
