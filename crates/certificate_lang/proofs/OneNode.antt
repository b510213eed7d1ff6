-- A text names one node.
use Rattle.std.proofs.Common.{[], sym, ◌∙◌}
use Rattle.token_reading.specs.code.Cursor.{NotAt}
use Rattle.texts.specs.declared.symbol.Symbol.TheVariants.{Open}
use Rattle.texts.proofs.Cut.{same_tokens}
use Rattle.certificate_lang.proofs.OneTree.{one_tree_of_node}
use Rattle.certificate_lang.specs.Grammar.{spell_node}
use Rattle.certificate_lang.specs.Written.{OneNode}

none_next : NotAt Open []
none_next rest e = cc

pub one_node : OneNode
one_node text a b h g =
    let tokens = same_tokens text (spell_node h.reading []) (spell_node g.reading []) h.cut g.cut in
    let same = one_tree_of_node h.reading g.reading [] [] none_next none_next tokens in
    sym h.tree ∙ (same.0 ∙ g.tree)
