use Rattle.std.proofs.Common.{List, ap, sym, subst, ◌∙◌}
use Rattle.std.proofs.lemmas.Bool.{false≢true}
use Rattle.binding_graph.specs.declared.binding.Binding.{Binding}
use Rattle.prop_bindings.specs.Calls.{bad_type}
use Rattle.prop_bindings.specs.Changes.{one}
use Rattle.prop_bindings.specs.Counts.{Kept}
use Rattle.prop_bindings.specs.Fits.{FitsAt}
use Rattle.prop_bindings.specs.code.Parts.{MayWriteOne, PlansOne}
use Rattle.prop_bindings.proofs.Calling.{counts-changed, kept-agrees, kept-counts, kept-plans}
use Rattle.prop_bindings.proofs.Short.{plans-short}
use Rattle.prop_bindings.proofs.bindings.Bindings.plan_write.Goals as goal

pub returns-then-not-fits-clause-value : goal.returns-then-not-fits-clause-value
returns-then-not-fits-clause-value c = bad_type (λ fits. false≢true (sym c.if-not-fits.true ∙ c.fits.ensures.1 fits.0))

pub returns-then-has_value-clause-value : goal.returns-then-has_value-clause-value
returns-then-has_value-clause-value c = (
  (c.fits.ensures.0 c.if-not-fits.false, tt),
  kept-plans c.args.self.now.installed c.args.tree.now (one c.args.place.now c.args.value) c.requires.agree.settled c.nothing.result c.nothing.ensures.values c.nothing.ensures.changed c.nothing.ensures.evaluated
      (c.has_value.ensures.0 c.if-has_value.true, tt),
)

pub returns-then-has_value-clause-agree : goal.returns-then-has_value-clause-agree
returns-then-has_value-clause-agree c =
    kept-agrees c.args.self.now.installed c.args.tree.now (one c.args.place.now c.args.value) c.requires.agree.settled c.nothing.result c.nothing.ensures.values c.nothing.ensures.changed c.nothing.ensures.evaluated
    c.args.meta.now c.requires.agree

pub returns-then-has_value-clause-counted : goal.returns-then-has_value-clause-counted
returns-then-has_value-clause-counted c =
    kept-counts c.args.self.now.installed c.args.tree.now (one c.args.place.now c.args.value) c.requires.agree.settled c.nothing.result c.nothing.ensures.values c.nothing.ensures.changed c.nothing.ensures.evaluated
    (c.has_value.ensures.0 c.if-has_value.true, tt)

pub plan_one-requires-clause-may : goal.plan_one-requires-clause-may
plan_one-requires-clause-may c =
    subst (λ (bs : List Binding). MayWriteOne c.args.tree.now bs c.args.place.now c.args.value) (sym (ap (λ (k : Kept). k.installed) c.self.view_is))
    (c.args.meta.now, c.requires.agree, c.fits.ensures.0 c.if-not-fits.false)

pub returns-in_err-planned-clause-value : goal.returns-in_err-planned-clause-value
returns-in_err-planned-clause-value c = plans-short c.args.meta.now (one c.args.place.now c.args.value) c.args.self.now.installed c.args.tree.now c.from_residual.result c.from_residual.ensures.1

pub returns-clause-value : goal.returns-clause-value
returns-clause-value c =
    let plans = subst (λ (bs : List Binding). PlansOne c.args.tree.now bs c.args.place.now c.args.value c.in_ok-planned.planned) (ap (λ (k : Kept). k.installed) c.self.view_is) c.in_ok-planned.ensures in
    let fits : FitsAt c.args.meta.now c.args.tree.now c.args.place.now c.args.value = c.fits.ensures.0 c.if-not-fits.false in
    ((fits, tt), (plans c.args.meta.now c.requires.agree fits).written)

pub returns-clause-agree : goal.returns-clause-agree
returns-clause-agree c =
    let plans = subst (λ (bs : List Binding). PlansOne c.args.tree.now bs c.args.place.now c.args.value c.in_ok-planned.planned) (ap (λ (k : Kept). k.installed) c.self.view_is) c.in_ok-planned.ensures in
    (plans c.args.meta.now c.requires.agree (c.fits.ensures.0 c.if-not-fits.false)).agree

pub returns-clause-counted : goal.returns-clause-counted
returns-clause-counted c =
    let plans = subst (λ (bs : List Binding). PlansOne c.args.tree.now bs c.args.place.now c.args.value c.in_ok-planned.planned) (ap (λ (k : Kept). k.installed) c.self.view_is) c.in_ok-planned.ensures in
    counts-changed _ c.args.tree.now (one c.args.place.now c.args.value) c.in_ok-planned.planned.changed c.in_ok-planned.planned.evaluated
    (λ have. false≢true (sym c.if-has_value.false ∙ c.has_value.ensures.1 have.0))
    (plans c.args.meta.now c.requires.agree (c.fits.ensures.0 c.if-not-fits.false)).counted
