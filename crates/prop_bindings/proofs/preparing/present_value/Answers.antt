use Rattle.std.proofs.Common.{Option, subst}
use Rattle.basic_types.specs.declared.value.Value.{Value}
use Rattle.expressions.specs.Evaluation.{Evaluates}
use Rattle.binding_graph.specs.declared.place.Place.{Place}
use Rattle.binding_graph.specs.Bindings.{value_of}
use Rattle.prop_bindings.proofs.Assigned.{ahead-present}
use Rattle.prop_bindings.proofs.preparing.present_value.Goals as goal

pub returns-clause-value : goal.returns-clause-value
returns-clause-value c = subst (λ (e : Place → Option Value). Evaluates (value_of c.args.binding.now e) c.value_of.result) (ahead-present c.new-none.result c.args.tree.now c.new-none.ensures.empty) c.value_of.ensures.value
