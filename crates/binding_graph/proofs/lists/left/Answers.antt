use Rattle.std.proofs.Common.{◌∙◌, sym}
use Rattle.binding_graph.proofs.Held.{gone-alone, kept-alone}
use Rattle.binding_graph.proofs.lists.left.Goals as goal

pub returns-then-is_same_key : goal.returns-then-is_same_key
returns-then-is_same_key c = gone-alone c.args.only c.args.key (sym c.is_same_key.ensures ∙ c.if-is_same_key.true)

pub returns : goal.returns
returns c = kept-alone c.args.only c.args.key (sym c.is_same_key.ensures ∙ c.if-is_same_key.false)
