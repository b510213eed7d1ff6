use Rattle.std.proofs.Common.{◌≡◌, Some, None, ◌∙◌, sym, ap, refl, subst, rules}
use Rattle.syntax_trees.specs.declared.program.Property.{Property}
use Rattle.class_outlines.specs.declared.outline.Outline.{Outline}
use Rattle.name_indexes.specs.CallPlaces.{place_by}
use Rattle.class_outlines.specs.Indexed.{IndexesOutline, IsPropertyOfName}
use Rattle.name_indexes.specs.Places.{Found}
use Rattle.name_indexes.proofs.Indexing.{IsCalled, found_none, found_some}
use Rattle.name_indexes.proofs.Searches.{none_also, found_also}
use Rattle.class_outlines.proofs.indexed.IndexedOutline.find_property.Goals as goal

pub returns-in_err-place : goal.returns-in_err-place
returns-in_err-place c =
    let is = subst (λ (o : Outline). IndexesOutline o c.self.inside.methods c.self.inside.properties) c.self.view_is c.self.invariant in
    let none : place_by c.self.inside.properties 0 c.args.name.now ≡ None = sym c.find.ensures ∙ c.in_err-place.was in
    rw c.from_residual.ensures
    (none_also (IsPropertyOfName c.args.name.now) (IsCalled (λ (p : Property). p.name) (λ (p : Property). 0) c.args.name.now 0) c.args.self.now.properties (λ p e. (e, refl))
    (found_none (λ (p : Property). p.name) (λ (p : Property). 0) c.args.self.now.properties c.self.inside.properties is.properties_by c.args.name.now 0 none))

pub returns : goal.returns
returns c =
    let is = subst (λ (o : Outline). IndexesOutline o c.self.inside.methods c.self.inside.properties) c.self.view_is c.self.invariant in
    let some : place_by c.self.inside.properties 0 c.args.name.now ≡ Some c.in_ok-place.place = sym c.find.ensures ∙ c.in_ok-place.was in
    let found : Found (IsCalled (λ (p : Property). p.name) (λ (p : Property). 0) c.args.name.now 0) c.args.self.now.properties c.in_ok-place.place c.get-property.result.now =
    found_some (λ (p : Property). p.name) (λ (p : Property). 0) c.args.self.now.properties c.self.inside.properties is.properties_by c.args.name.now 0 _ _ some (search rules) in
    found_also (IsPropertyOfName c.args.name.now) (IsCalled (λ (p : Property). p.name) (λ (p : Property). 0) c.args.name.now 0) c.args.self.now.properties (λ p e. (e, refl)) _ _ found
    (sym (ap (λ (p : Property). p.name) found.is) ∙ found.first.at.has.0)
