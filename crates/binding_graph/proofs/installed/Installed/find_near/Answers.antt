use Rattle.std.proofs.Common.{◌≡◌, ◌∙◌, Some, ap, subst, sym}
use Rattle.binding_graph.specs.declared.binding.Binding.{Binding}
use Rattle.binding_graph.specs.declared.place.Place.{Place}
use Rattle.binding_graph.specs.code.Graph.{slot_of}
use Rattle.binding_graph.proofs.Noted.{reader-there}
use Rattle.binding_graph.proofs.Places.{same_place-true}
use Rattle.binding_graph.proofs.installed.Installed.find_near.Goals as goal

pub returns-then-is_same-clause-slot : goal.returns-then-is_same-clause-slot
returns-then-is_same-clause-slot c =
    let target : c.in-Some.reader.now.target ≡ c.args.place.now = ap (λ (b : Binding). b.target) (sym c.binding.ensures) ∙ same_place-true c.binding.result.now.target c.args.place.now (sym c.is_same.ensures ∙ c.if-is_same.true) in
    sym (subst (λ (p : Place). slot_of c.args.self.now p ≡ Some c.args.likely) target (c.requires.found c.in-Some.reader.now c.args.likely (sym c.in-Some.ensures)))

pub returns-then-is_same-clause-reader : goal.returns-then-is_same-clause-reader
returns-then-is_same-clause-reader c =
    let target : c.in-Some.reader.now.target ≡ c.args.place.now = ap (λ (b : Binding). b.target) (sym c.binding.ensures) ∙ same_place-true c.binding.result.now.target c.args.place.now (sym c.is_same.ensures ∙ c.if-is_same.true) in
    let is : slot_of c.args.self.now c.args.place.now ≡ Some c.args.likely = subst (λ (p : Place). slot_of c.args.self.now p ≡ Some c.args.likely) target (c.requires.found c.in-Some.reader.now c.args.likely (sym c.in-Some.ensures)) in
    c.in-Some.ensures ∙ reader-there c.args.self.now c.requires c.args.place.now c.args.likely is
