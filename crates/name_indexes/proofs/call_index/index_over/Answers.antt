use Rattle.std.proofs.Common.{◌≡◌, List, ◌∷◌, sym, subst}
use Rattle.std.proofs.lemmas.Result.{IfOk-weaker}
use Rattle.name_indexes.specs.CallPlaces.{Index, Layers, IndexesCalls}
use Rattle.name_indexes.proofs.call_index.index_over.Goals as goal

pub returns-then-is_empty : goal.returns-then-is_empty
returns-then-is_empty g c =
    let base : IndexesCalls g.T.Called.name_of g.T.Called.count_of c.args.items.now c.args.base.now =
    subst (λ (own : List Index). IndexesCalls g.T.Called.name_of g.T.Called.count_of c.args.items.now (own ∷ c.args.base.now))
    (c.is_empty.ensures.0 c.if-is_empty.true) c.in_ok-own.ensures in
    IfOk-weaker c.copy.result (λ (index : Layers). index ≡ c.args.base.now) (IndexesCalls g.T.Called.name_of g.T.Called.count_of c.args.items.now)
    (λ index e. subst (λ (ls : Layers). IndexesCalls g.T.Called.name_of g.T.Called.count_of c.args.items.now ls) (sym e) base)
    c.copy.ensures

pub returns-else-is_empty : goal.returns-else-is_empty
returns-else-is_empty g c =
    IfOk-weaker c.under.result (λ (index : Layers). index ≡ c.in_ok-own.own ∷ c.args.base.now) (IndexesCalls g.T.Called.name_of g.T.Called.count_of c.args.items.now)
    (λ index e. subst (λ (ls : Layers). IndexesCalls g.T.Called.name_of g.T.Called.count_of c.args.items.now ls) (sym e) c.in_ok-own.ensures)
    c.under.ensures
