use Rattle.std.proofs.Common.{◌≡◌, ◌∙◌, Some, List, ap, sym, refl}
use Rattle.std.specs.Prelude.{slice_get}
use Rattle.std.proofs.lemmas.Bool.{false≢true}
use Rattle.std.proofs.lemmas.Option.{slice_get_read}
use Rattle.meta_model.specs.declared.site.MetaSite.{MetaSite}
use Rattle.prop_bindings.specs.Calls.{IsSited, MayBind, other_loop, no_memory}
use Rattle.prop_bindings.specs.FaultNumbers.{fault_of}
use Rattle.prop_bindings.specs.declared.plans.fault.BindFault.TheVariants.{Memory}
use Rattle.prop_bindings.proofs.Sited.{nothing-past, built-is, no-site, not-covered, evaluates-not, other-type, prepared, prepares-err}
use Rattle.prop_bindings.proofs.preparing.prepare.Goals as goal

pub returns-in_default-clause-value : goal.returns-in_default-clause-value
returns-in_default-clause-value c = no-site c.args.meta.now c.args.tree.now c.args.number c.args.target c.args.sources.now (ap (λ (xs : List MetaSite). slice_get xs c.args.number) (sym c.sites.ensures.value) ∙ nothing-past c.sites.result.now c.args.number c.in_default.ensures.lookup.3)

pub returns-then-not-covers-clause-value : goal.returns-then-not-covers-clause-value
returns-then-not-covers-clause-value c =
    let found : slice_get c.args.meta.now.sites c.args.number ≡ Some c.in-Some.site.now = ap (λ (xs : List MetaSite). slice_get xs c.args.number) (sym c.sites.ensures.value) ∙ slice_get_read c.sites.result.now _ c.args.number c.in-Some.site.now refl c.in-Some.ensures.lookup.3.0 c.in-Some.ensures.lookup.1 in
    not-covered c.args.meta.now c.args.tree.now c.args.number c.args.target c.args.sources.now c.in-Some.site.now found (λ covers. false≢true (sym c.if-not-covers.true ∙ c.covers.ensures.1 covers))

pub returns-then-not-in_one_loop-clause-value : goal.returns-then-not-in_one_loop-clause-value
returns-then-not-in_one_loop-clause-value c = λ bs.
    let found : slice_get c.args.meta.now.sites c.args.number ≡ Some c.in-Some.site.now = ap (λ (xs : List MetaSite). slice_get xs c.args.number) (sym c.sites.ensures.value) ∙ slice_get_read c.sites.result.now _ c.args.number c.in-Some.site.now refl c.in-Some.ensures.lookup.3.0 c.in-Some.ensures.lookup.1 in
    let sited : IsSited c.args.meta.now c.args.tree.now c.args.number c.args.target c.args.sources.now = record { site = c.in-Some.site.now; is = found; covers = c.covers.ensures.0 c.if-not-covers.false } in
    other_loop sited (λ all. false≢true (sym c.if-not-in_one_loop.true ∙ c.in_one_loop.ensures.1 all))

pub returns-in_err-from_slice-clause-value : goal.returns-in_err-from_slice-clause-value
returns-in_err-from_slice-clause-value c = prepares-err c.args.meta.now c.args.tree.now c.args.number c.args.target c.args.sources.now Memory c.from_residual.result c.from_residual.ensures.1 (λ bs. no_memory)

pub returns-in_err-copy-clause-value : goal.returns-in_err-copy-clause-value
returns-in_err-copy-clause-value c = prepares-err c.args.meta.now c.args.tree.now c.args.number c.args.target c.args.sources.now Memory c.from_residual-in_err-copy.result c.from_residual-in_err-copy.ensures.1 (λ bs. no_memory)

pub returns-in_err-value-clause-value : goal.returns-in_err-value-clause-value
returns-in_err-value-clause-value c =
    let found : slice_get c.args.meta.now.sites c.args.number ≡ Some c.in-Some.site.now = ap (λ (xs : List MetaSite). slice_get xs c.args.number) (sym c.sites.ensures.value) ∙ slice_get_read c.sites.result.now _ c.args.number c.in-Some.site.now refl c.in-Some.ensures.lookup.3.0 c.in-Some.ensures.lookup.1 in
    let sited : IsSited c.args.meta.now c.args.tree.now c.args.number c.args.target c.args.sources.now = record { site = c.in-Some.site.now; is = found; covers = c.covers.ensures.0 c.if-not-covers.false } in
    let may : MayBind c.args.meta.now c.args.tree.now c.args.number c.args.target c.args.sources.now = record { sited = sited; one_loop = c.in_one_loop.ensures.0 c.if-not-in_one_loop.false } in
    prepares-err c.args.meta.now c.args.tree.now c.args.number c.args.target c.args.sources.now (fault_of c.in_err-value.field-0.0) c.from_residual-in_err-value.result c.from_residual-in_err-value.ensures.1
    (evaluates-not c.args.meta.now c.args.tree.now c.args.number c.args.target c.args.sources.now may _ (built-is c.in-Some.site.now c.args.number c.args.target _ _ _ c.in_ok-from_slice.ensures c.in_ok-copy.ensures) c.in_err-value.field-0.0 c.in_err-value.ensures.value)

pub returns-then-not-fits-clause-value : goal.returns-then-not-fits-clause-value
returns-then-not-fits-clause-value c =
    let found : slice_get c.args.meta.now.sites c.args.number ≡ Some c.in-Some.site.now = ap (λ (xs : List MetaSite). slice_get xs c.args.number) (sym c.sites.ensures.value) ∙ slice_get_read c.sites.result.now _ c.args.number c.in-Some.site.now refl c.in-Some.ensures.lookup.3.0 c.in-Some.ensures.lookup.1 in
    let sited : IsSited c.args.meta.now c.args.tree.now c.args.number c.args.target c.args.sources.now = record { site = c.in-Some.site.now; is = found; covers = c.covers.ensures.0 c.if-not-covers.false } in
    let may : MayBind c.args.meta.now c.args.tree.now c.args.number c.args.target c.args.sources.now = record { sited = sited; one_loop = c.in_one_loop.ensures.0 c.if-not-in_one_loop.false } in
    other-type c.args.meta.now c.args.tree.now c.args.number c.args.target c.args.sources.now may _ (built-is c.in-Some.site.now c.args.number c.args.target _ _ _ c.in_ok-from_slice.ensures c.in_ok-copy.ensures) c.in_ok-value.value c.in_ok-value.ensures.value (λ fits. false≢true (sym c.if-not-fits.true ∙ c.fits.ensures.1 fits))

pub returns-clause-value : goal.returns-clause-value
returns-clause-value c =
    let found : slice_get c.args.meta.now.sites c.args.number ≡ Some c.in-Some.site.now = ap (λ (xs : List MetaSite). slice_get xs c.args.number) (sym c.sites.ensures.value) ∙ slice_get_read c.sites.result.now _ c.args.number c.in-Some.site.now refl c.in-Some.ensures.lookup.3.0 c.in-Some.ensures.lookup.1 in
    let sited : IsSited c.args.meta.now c.args.tree.now c.args.number c.args.target c.args.sources.now = record { site = c.in-Some.site.now; is = found; covers = c.covers.ensures.0 c.if-not-covers.false } in
    let may : MayBind c.args.meta.now c.args.tree.now c.args.number c.args.target c.args.sources.now = record { sited = sited; one_loop = c.in_one_loop.ensures.0 c.if-not-in_one_loop.false } in
    prepared c.args.meta.now c.args.tree.now c.args.number c.args.target c.args.sources.now may _ (built-is c.in-Some.site.now c.args.number c.args.target _ _ _ c.in_ok-from_slice.ensures c.in_ok-copy.ensures) c.sites.ensures.sound (c.sites.ensures.sound.sites c.args.number c.in-Some.site.now found) c.in_ok-value.value c.in_ok-value.ensures.value (c.fits.ensures.0 c.if-not-fits.false)
