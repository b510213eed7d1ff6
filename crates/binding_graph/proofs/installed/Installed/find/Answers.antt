use Rattle.std.proofs.Common.{◌≡◌, ◌∙◌, None, Some, ap, sym}
use Rattle.indexmap.specs.IndexMap.{get}
use Rattle.binding_graph.specs.code.Graph.{slot_of}
use Rattle.binding_graph.specs.code.Keys.{same_key}
use Rattle.binding_graph.proofs.Noted.{reader-none, reader-there}
use Rattle.binding_graph.proofs.installed.Installed.find.Goals as goal

pub returns-in_default-clause-reader : goal.returns-in_default-clause-reader
returns-in_default-clause-reader c =
    let none : slot_of c.args.self.now c.args.place.now ≡ None = sym (c.in_default.ensures.value ∙ ap (get same_key c.args.self.now.by_target) c.key.ensures) in
    sym (reader-none c.args.self.now c.requires c.args.place.now none)

pub returns-in-Some-at-clause-reader : goal.returns-in-Some-at-clause-reader
returns-in-Some-at-clause-reader c =
    let is : slot_of c.args.self.now c.args.place.now ≡ Some c.in-Some.slot.now = sym (c.in-Some.ensures.value ∙ ap (get same_key c.args.self.now.by_target) c.key.ensures) in
    c.in-Some-at.ensures ∙ reader-there c.args.self.now c.requires c.args.place.now c.in-Some.slot.now is

pub returns-in-None-clause-reader : goal.returns-in-None-clause-reader
returns-in-None-clause-reader c =
    let is : slot_of c.args.self.now c.args.place.now ≡ Some c.in-Some.slot.now = sym (c.in-Some.ensures.value ∙ ap (get same_key c.args.self.now.by_target) c.key.ensures) in
    c.in-None.ensures ∙ reader-there c.args.self.now c.requires c.args.place.now c.in-Some.slot.now is
