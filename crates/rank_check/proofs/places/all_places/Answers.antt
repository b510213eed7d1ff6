use Rattle.std.proofs.Common.{ℕ, Option, None, List, subst}
use Rattle.std.specs.List.{AllZip}
use Rattle.std.proofs.lemmas.List.{take_all}
use Rattle.meta_model.proofs.Zips.{zip_push}
use Rattle.meta_model.proofs.Searches.{read_at}
use Rattle.rank_check.proofs.Placing.{IsThere, place_lacks}
use Rattle.rank_check.proofs.places.all_places.Goals as goal

pub loop-node-preserved : goal.loop-node-preserved
loop-node-preserved c =
    zip_push IsThere c.args.places.now _ _ c.loop-node.node _ c.in-Some.line c.loop-node-test.true (read_at c.args.places.now c.loop-node.node None c.loop-node-test.true) c.in-Some.is c.loop-node.invariant
    c.in_ok-push-in-Some.ensures.ok

pub returns : goal.returns
returns c =
    subst (λ (os : List (Option ℕ)). AllZip IsThere os c.loop-node.all) (take_all c.loop-node.node c.args.places.now c.loop-node-test.false) c.loop-node.invariant

pub returns-in-None : goal.returns-in-None
returns-in-None c = place_lacks c.args.places.now c.loop-node.node c.loop-node-test.true c.in-None.is
