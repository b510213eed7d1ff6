use Rattle.std.proofs.Common.{◌∙◌, Bool, true, cond, ap, sym}
use Rattle.std.specs.List.{list_any}
use Rattle.binding_graph.specs.code.Keys.{same_key}
use Rattle.binding_graph.proofs.Held.{one-held, same-alone}
use Rattle.binding_graph.proofs.lists.both.Goals as goal

pub returns-then-is_same_key : goal.returns-then-is_same_key
returns-then-is_same_key c = same-alone c.args.first c.args.second (sym c.is_same_key.ensures ∙ c.if-is_same_key.true)

pub returns : goal.returns
returns c = λ k.
    c.in_ok-insert-2.ensures.updates.0 k
    ∙ ap (λ (b : Bool). cond (same_key c.args.second k) true b)
    (c.in_ok-insert.ensures.updates.0 k ∙ ap (λ (b : Bool). cond (same_key c.args.first k) true b) (ap (list_any (same_key k)) c.in_ok-keys.ensures.empty) ∙ sym (one-held c.args.first k))
