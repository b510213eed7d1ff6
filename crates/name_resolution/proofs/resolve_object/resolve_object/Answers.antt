use Rattle.name_resolution.proofs.Inheriting.{methods_inherited, properties_inherited}
use Rattle.name_resolution.proofs.resolve_object.resolve_object.Goals as goal

pub resolve_methods-requires : goal.resolve_methods-requires
resolve_methods-requires c = methods_inherited c.args.outlines.now c.args.works.now c.args.before.now c.args.outline.now c.requires

pub resolve_properties-requires : goal.resolve_properties-requires
resolve_properties-requires c = properties_inherited c.args.outlines.now c.args.works.now c.args.before.now c.args.outline.now c.requires
