use Rattle.std.proofs.Common.{◌≡◌, List, get_or, true, false, subst, rules}
use Rattle.name_indexes.specs.CallPlaces.{Index}
use Rattle.name_indexes.specs.code.Marks.{name_mark, AreMarked}
use Rattle.name_indexes.proofs.Marks.{not_marked}
use Rattle.name_indexes.proofs.layer.Layer.find.Goals as goal

pub returns-else-may_have : goal.returns-else-may_have
returns-else-may_have c =
    let are = subst (λ (is : List Index). AreMarked c.self.inside.marks is) c.self.view_is c.self.invariant in
    let off : get_or c.self.inside.marks (name_mark c.args.name.now) true ≡ false = search rules in
    not_marked c.self.inside.marks c.args.self.now c.args.count c.args.name.now are off
