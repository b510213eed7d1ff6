use Rattle.std.proofs.Common.{◌≡◌, List, [], ◌∷◌, ◌++◌, length, ap, ◌∙◌, arith}
use Rattle.object_tree.specs.declared.object.Object.{Object}
use Rattle.object_tree.specs.declared.slot.ObjectRecord.{ObjectRecord}
use Rattle.object_tree.proofs.Slots.{length-shown}
use Rattle.object_tree.proofs.Housed.{put-in, adds-as}
use Rattle.object_tree.proofs.objects.Objects.add.Goals as goal

pub invariant_of-self-2 : goal.invariant_of-self-2
invariant_of-self-2 c = (put-in c.self.inside.slots c.reserve-2.new.self c.put.new.slots c.self.inside.entries.items c.reserve.new.self.items c.put.new.entries.items c.put.result c.in_ok-name.name c.args.object c.reserve-2.ensures.rest_kept c.reserve.ensures.items c.put.ensures.vacant c.put.ensures.slot c.put.ensures.len c.put.ensures.entry c.in_ok-name.ensures c.requires c.self.invariant).housed

pub returns-clause-added : goal.returns-clause-added
returns-clause-added c = (put-in c.self.inside.slots c.reserve-2.new.self c.put.new.slots c.self.inside.entries.items c.reserve.new.self.items c.put.new.entries.items c.put.result c.in_ok-name.name c.args.object c.reserve-2.ensures.rest_kept c.reserve.ensures.items c.put.ensures.vacant c.put.ensures.slot c.put.ensures.len c.put.ensures.entry c.in_ok-name.ensures c.requires c.self.invariant).shown ∙ ap (λ (xs : List Object). xs ++ c.args.object ∷ []) c.self.view_is

pub returns-clause-named : goal.returns-clause-named
returns-clause-named c =
    let count : c.len.result ≡ length c.args.self.now = omega (arith, length-shown c.self.inside.slots 0 c.self.inside.entries.items, ap (λ (xs : List Object). length xs) c.self.view_is, ap (λ (es : List ObjectRecord). length es) c.reserve.ensures.items) in
    adds-as c.in_ok-name.name c.args.object.name c.len.result (length c.args.self.now) c.args.names.now c.insert.new.self c.in_ok-name.ensures count c.in_ok-insert.ensures.ok
