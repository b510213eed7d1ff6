use Rattle.std.proofs.Common.{◌∙◌, inl, inr, ap, sym}
use Rattle.binding_graph.specs.code.Lists.{has, is_key_in}
use Rattle.binding_graph.specs.code.Keys.{key_of, same_key}
use Rattle.binding_graph.proofs.Keyed.{key-places, key-same}
use Rattle.binding_graph.proofs.Members.{forgotten-kept}
use Rattle.binding_graph.proofs.readers.Readers.forget.Goals as goal

pub returns : goal.returns
returns c = λ m q i. elim (forgotten-kept same_key key-same (has same_key c.args.self.now.by_source) (has same_key c.forget_place.new.lists) c.key.result c.key-2.result c.forget_place.ensures (key_of m) (key_of q) i) [
  | inl j ↦ inl (ap (is_key_in (key_of q)) (c.drop_empty.ensures (key_of m)) ∙ j)
  | inr e ↦ inr (key-places c.args.source.now m (sym c.key.ensures ∙ e.0), key-places c.args.reader.now q (sym c.key-2.ensures ∙ e.1))
]
