use Rattle.std.proofs.Common.{◌≡◌, ℕ, length, subst, arith}
use Rattle.meta_model.specs.Indexes.{IndexesFirst}
use Rattle.name_indexes.proofs.Searches.{read_at}
use Rattle.meta_model.proofs.ClassPlaces.{indexes_none, indexes_more}
use Rattle.meta_model.proofs.class_places.index_wires.Goals as goal

pub loop-wire-init : goal.loop-wire-init
loop-wire-init c = indexes_none (λ w. w.sender) c.args.wires.now c.args.classes _ c.in_ok-index.ensures

pub loop-wire-preserved : goal.loop-wire-preserved
loop-wire-preserved c =
    indexes_more (λ w. w.sender) c.args.wires.now _ _ c.loop-wire-test.true (read_at _ _ _ c.loop-wire-test.true) c.args.classes _ _ c.in_ok-push.ensures c.loop-wire.invariant

pub returns : goal.returns
returns c =
    let end : c.loop-wire.wire-index ≡ length c.args.wires.now = let past = c.loop-wire-test.false in let within = c.loop-wire.auto.wire-index-end in omega arith in
    subst (λ (n : ℕ). IndexesFirst (λ w. w.sender) c.args.wires.now c.args.classes n c.loop-wire.index) end c.loop-wire.invariant
