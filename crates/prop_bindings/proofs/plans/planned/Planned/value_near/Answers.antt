use Rattle.std.proofs.Common.{Option, ap, sym, ◌∙◌}
use Rattle.std.specs.Option.{option_map, unwrap_or}
use Rattle.basic_types.specs.declared.value.Value.{Value}
use Rattle.prop_bindings.specs.Values.{values_in}
use Rattle.prop_bindings.proofs.AssignedValues.{assigned-values}
use Rattle.prop_bindings.proofs.plans.planned.Planned.value_near.Goals as goal

pub returns : goal.returns
returns c = λ objects.
    assigned-values c.args.self.now.values.entries objects c.args.place.now
    ∙ ap (λ (o : Option Value). option_map (unwrap_or o) (values_in objects c.args.place.now)) (sym c.value_near.ensures)
