use Rattle.std.proofs.Common.{◌<◌, length, refl, rules}
use Rattle.name_indexes.proofs.Indexing.{puts_call}
use Rattle.name_indexes.proofs.call_index.add_own.Goals as goal

pub returns : goal.returns
returns c =
    let there : c.args.count < length c.args.own.now.items = search rules in
    puts_call _ _ _ _ _ _ _ (λ k n. refl) there c.index_mut.ensures.value c.in_ok-insert.ensures.ok
