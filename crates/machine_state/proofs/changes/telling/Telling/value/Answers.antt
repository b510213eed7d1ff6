use Rattle.std.proofs.Common.{◌≡◌, ◌∙◌, None, Option, Some, ap, sym}
use Rattle.std.specs.Option.{option_map, unwrap_or}
use Rattle.basic_types.specs.declared.value.Value.{Value}
use Rattle.prop_bindings.specs.Values.{values_in}
use Rattle.machine_state.proofs.Told.{has-stored}
use Rattle.machine_state.proofs.changes.telling.Telling.value.Goals as goal

pub returns-in-Some : goal.returns-in-Some
returns-in-Some c =
    let stored : values_in c.args.self.now.tree.now c.args.place.now ≡ Some c.requires.value = has-stored c.args.self.now.meta.now c.args.self.now.tree.now c.args.place.now c.requires in
    sym (c.in-Some.ensures c.args.self.now.tree.now ∙ ap (option_map (unwrap_or (Some c.in-Some.value.now))) stored)

pub returns-in-None : goal.returns-in-None
returns-in-None c =
    let stored : values_in c.args.self.now.tree.now c.args.place.now ≡ Some c.requires.value = has-stored c.args.self.now.meta.now c.args.self.now.tree.now c.args.place.now c.requires in
    c.value.ensures ∙ stored ∙ sym (c.in-None.ensures c.args.self.now.tree.now ∙ ap (option_map (unwrap_or None)) stored)
