use Rattle.std.proofs.Common.{◌≡◌, length, Some, None, ◌∙◌, sym, subst, rules}
use Rattle.class_outlines.specs.declared.outline.Heading.{Heading}
use Rattle.class_outlines.specs.declared.outline.Outline.{Outline}
use Rattle.name_indexes.specs.CallPlaces.{place_by}
use Rattle.class_outlines.specs.Indexed.{IndexesOutline, IsCallOf}
use Rattle.name_indexes.specs.Places.{Found}
use Rattle.name_indexes.proofs.Indexing.{found_none, found_some}
use Rattle.class_outlines.proofs.OneMember.{only_call}
use Rattle.class_outlines.proofs.indexed.IndexedOutline.find_call.Goals as goal

pub returns-in_err-place-clause-value : goal.returns-in_err-place-clause-value
returns-in_err-place-clause-value c =
    let is = subst (λ (o : Outline). IndexesOutline o c.self.inside.methods c.self.inside.properties) c.self.view_is c.self.invariant in
    let none : place_by c.self.inside.methods c.args.count c.args.name.now ≡ None = sym c.find.ensures ∙ c.in_err-place.was in
    rw c.from_residual.ensures
    (found_none (λ (h : Heading). h.sig.name) (λ (h : Heading). length h.sig.types) c.args.self.now.methods c.self.inside.methods is.methods_by c.args.name.now c.args.count none)

pub returns : goal.returns
returns c =
    let is = subst (λ (o : Outline). IndexesOutline o c.self.inside.methods c.self.inside.properties) c.self.view_is c.self.invariant in
    let some : place_by c.self.inside.methods c.args.count c.args.name.now ≡ Some c.in_ok-place.place = sym c.find.ensures ∙ c.in_ok-place.was in
    let found : Found (IsCallOf c.args.name.now c.args.count) c.args.self.now.methods c.in_ok-place.place c.get-method.result.now =
    found_some (λ (h : Heading). h.sig.name) (λ (h : Heading). length h.sig.types) c.args.self.now.methods c.self.inside.methods is.methods_by c.args.name.now c.args.count _ _ some (search rules) in
    record { value = found; only = only_call c.args.self.now is.once c.args.name.now c.args.count _ found.first.at }
