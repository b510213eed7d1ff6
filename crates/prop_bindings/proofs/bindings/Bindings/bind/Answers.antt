use Rattle.std.proofs.Common.{◌≡◌, ◌∙◌, ℕ, List, ap, refl, sym, subst}
use Rattle.std.proofs.lemmas.Option.{same_Some}
use Rattle.meta_model.specs.declared.site.MetaSite.{MetaSite}
use Rattle.object_tree.specs.declared.object.Object.{Object}
use Rattle.binding_graph.specs.declared.place.Place.{Place}
use Rattle.binding_graph.specs.declared.binding.Binding.{Binding}
use Rattle.binding_graph.specs.Bindings.{binding_at, replaced}
use Rattle.prop_bindings.specs.Calls.{IsBound, no_memory}
use Rattle.prop_bindings.specs.Counts.{Kept, CountsFrom}
use Rattle.prop_bindings.specs.Fits.{Agree}
use Rattle.binding_graph.specs.Places.{property_of}
use Rattle.prop_bindings.specs.Plans.{after}
use Rattle.prop_bindings.proofs.Short.{on-err, binds-err}
use Rattle.prop_bindings.proofs.bindings.Bindings.bind.Goals as goal

pub returns-in_err-planned-clause-value : goal.returns-in_err-planned-clause-value
returns-in_err-planned-clause-value c = binds-err c.args.meta.now c.args.site c.args.target c.args.sources.now c.args.self.now.installed _ c.args.tree.now _ _ c.from_residual.result c.from_residual.ensures.1 c.in_err-planned.ensures.value

pub returns-in_err-planned-clause-err : goal.returns-in_err-planned-clause-err
returns-in_err-planned-clause-err c = on-err c.from_residual.result (refl, refl)

pub returns-in_err-changed-clause-value : goal.returns-in_err-changed-clause-value
returns-in_err-changed-clause-value c = binds-err c.args.meta.now c.args.site c.args.target c.args.sources.now c.args.self.now.installed _ c.args.tree.now _ _ c.from_residual-in_err-changed.result c.from_residual-in_err-changed.ensures.1 no_memory

pub returns-in_err-changed-clause-agree : goal.returns-in_err-changed-clause-agree
returns-in_err-changed-clause-agree c =
    subst (λ (xs : List Object). Agree c.args.meta.now xs c.carry_out_bind.new.self.installed) (sym c.in_err-changed.ensures.err.1)
    (subst (λ (k : Kept). Agree c.args.meta.now c.args.tree.now k.installed) (sym c.in_err-changed.ensures.err.0) c.requires.agree)

pub returns-in_err-changed-clause-err : goal.returns-in_err-changed-clause-err
returns-in_err-changed-clause-err c = on-err c.from_residual-in_err-changed.result c.in_err-changed.ensures.err

pub returns-clause-value : goal.returns-clause-value
returns-clause-value c =
    let plan = c.in_ok-planned.planned in
    let bs : List Binding = c.args.self.now.installed in
    subst (λ (told : List Place). IsBound c.args.meta.now bs c.args.tree.now c.args.site c.args.target c.args.sources.now c.carry_out_bind.new.self.installed c.carry_out_bind.new.tree told) (sym c.in_ok-changed.ensures.value)
    (subst (λ (xs : List Object). IsBound c.args.meta.now bs c.args.tree.now c.args.site c.args.target c.args.sources.now c.carry_out_bind.new.self.installed xs plan.planned.changed) (sym c.in_ok-changed.ensures.objects)
    (subst (λ (cs : List Binding). IsBound c.args.meta.now bs c.args.tree.now c.args.site c.args.target c.args.sources.now cs (after plan.planned c.args.tree.now) plan.planned.changed) (sym c.in_ok-changed.ensures.installed) c.in_ok-planned.ensures.value.bound))

pub returns-clause-agree : goal.returns-clause-agree
returns-clause-agree c =
    subst (λ (xs : List Object). Agree c.args.meta.now xs c.carry_out_bind.new.self.installed) (sym c.in_ok-changed.ensures.objects)
    (subst (λ (cs : List Binding). Agree c.args.meta.now (after c.in_ok-planned.planned.planned c.args.tree.now) cs) (sym c.in_ok-changed.ensures.installed) c.in_ok-planned.ensures.agree)

pub returns-clause-counted : goal.returns-clause-counted
returns-clause-counted c = λ site is.
    let plan = c.in_ok-planned.planned in
    let made = c.in_ok-planned.ensures.value in
    let one : made.bound.may.sited.site ≡ site = same_Some made.bound.may.sited.site site (sym made.bound.may.sited.is ∙ is) in
    let at : plan.reader.target ≡ property_of c.args.target site.property = ap (λ (z : Binding). z.target) made.binding ∙ ap (λ (s : MetaSite). property_of c.args.target s.property) one in
    subst (λ (n : ℕ). CountsFrom (binding_at c.carry_out_bind.new.self.installed) (property_of c.args.target site.property) c.in_ok-changed.changed n) (sym c.in_ok-changed.ensures.counted)
    (subst (λ (told : List Place). CountsFrom (binding_at c.carry_out_bind.new.self.installed) (property_of c.args.target site.property) told plan.planned.evaluated) (sym c.in_ok-changed.ensures.value)
    (subst (λ (cs : List Binding). CountsFrom (binding_at cs) (property_of c.args.target site.property) plan.planned.changed plan.planned.evaluated) (sym c.in_ok-changed.ensures.installed)
    (subst (λ (q : Place). CountsFrom (binding_at (replaced c.args.self.now.installed plan.reader)) q plan.planned.changed plan.planned.evaluated) at c.in_ok-planned.ensures.counted)))
