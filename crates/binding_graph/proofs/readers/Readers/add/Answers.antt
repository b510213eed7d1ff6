use Rattle.std.proofs.Common.{◌≡◌, ◌∙◌, ℕ, true, ap, subst}
use Rattle.binding_graph.specs.code.Lists.{has, is_key_in}
use Rattle.binding_graph.specs.code.Keys.{key_of, same_key}
use Rattle.binding_graph.proofs.Keyed.{key-refl, key-same}
use Rattle.binding_graph.proofs.Members.{added-here, added-kept}
use Rattle.binding_graph.proofs.readers.Readers.add.Goals as goal

pub returns-in_err-add_place-clause-kept : goal.returns-in_err-add_place-clause-kept
returns-in_err-add_place-clause-kept c = λ m q i. ap (is_key_in (key_of q)) (c.in_err-add_place.ensures.err (key_of m)) ∙ i

pub returns-clause-kept : goal.returns-clause-kept
returns-clause-kept c = λ m q i.
    added-kept same_key key-same (has same_key c.args.self.now.by_source) (has same_key c.add_place.new.lists) c.key.result c.key-2.result c.in_ok-add_place.ensures.added (key_of m) (key_of q) i

pub returns-clause-there : goal.returns-clause-there
returns-clause-there c = subst (λ (k : ℕ × ℕ). has same_key c.add_place.new.lists k (key_of c.args.reader.now) ≡ true) c.key.ensures
    (subst (λ (k : ℕ × ℕ). has same_key c.add_place.new.lists c.key.result k ≡ true) c.key-2.ensures
    (added-here same_key key-same (has same_key c.args.self.now.by_source) (has same_key c.add_place.new.lists) c.key.result c.key-2.result c.in_ok-add_place.ensures.added (key-refl c.key.result)))
