use Rattle.std.proofs.Common.{◌≡◌, ℕ, length, subst, arith}
use Rattle.meta_model.specs.Indexes.{IndexesFirst}
use Rattle.name_indexes.proofs.Searches.{read_at}
use Rattle.meta_model.proofs.ClassPlaces.{indexes_none, indexes_more}
use Rattle.meta_model.proofs.class_places.index_owners.Goals as goal

pub loop-declared-init : goal.loop-declared-init
loop-declared-init c = indexes_none (λ o. o.parent) c.args.owns.now c.args.classes _ c.in_ok-index.ensures

pub loop-declared-preserved : goal.loop-declared-preserved
loop-declared-preserved c =
    indexes_more (λ o. o.parent) c.args.owns.now _ _ c.loop-declared-test.true (read_at _ _ _ c.loop-declared-test.true) c.args.classes _ _ c.in_ok-push.ensures c.loop-declared.invariant

pub returns : goal.returns
returns c =
    let end : c.loop-declared.declared-index ≡ length c.args.owns.now = let past = c.loop-declared-test.false in let within = c.loop-declared.auto.declared-index-end in omega arith in
    subst (λ (n : ℕ). IndexesFirst (λ o. o.parent) c.args.owns.now c.args.classes n c.loop-declared.index) end c.loop-declared.invariant
