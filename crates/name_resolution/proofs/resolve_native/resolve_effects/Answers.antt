use Rattle.std.proofs.Common.{ℕ, Any}
use Rattle.std.specs.List.{AllZip}
use Rattle.meta_model.specs.declared.effects.MetaEffects.{MetaEffects}
use Rattle.class_outlines.specs.declared.fault.MetaFault.TheVariants as fault
use Rattle.name_resolution.specs.code.Natives.{HasPropertyIn, HasSignalIn, AreEffects}
use Rattle.class_outlines.proofs.Loading.{failed}
use Rattle.class_outlines.proofs.Zips.{none_of_zip}
use Rattle.name_resolution.proofs.resolve_native.resolve_effects.Goals as goal

pub returns-in_err-reads : goal.returns-in_err-reads
returns-in_err-reads c =
    failed fault.NoMember (Any (λ x. (n : ℕ) → ¬ HasPropertyIn c.args.outlines.now c.args.class.now x n) c.as_slice.result.now) ((e : MetaEffects) → ¬ AreEffects c.args.outlines.now c.args.class.now c.args.effects.now e)
    (λ numbers. AllZip (HasPropertyIn c.args.outlines.now c.args.class.now) c.as_slice.result.now numbers) (λ e. AreEffects c.args.outlines.now c.args.class.now c.args.effects.now e) _ c.in_err-reads.ensures
    (λ lacks e h. none_of_zip (HasPropertyIn c.args.outlines.now c.args.class.now) (λ x. (n : ℕ) → ¬ HasPropertyIn c.args.outlines.now c.args.class.now x n) c.args.effects.now.reads e.reads h.reads (λ x n has none. none n has) (rw c.as_slice.ensures at lacks))
    _ c.from_residual.ensures.0 c.from_residual.ensures.1

pub returns-in_err-emits : goal.returns-in_err-emits
returns-in_err-emits c =
    failed fault.NoMember (Any (λ x. (n : ℕ) → ¬ HasSignalIn c.args.outlines.now c.args.class.now x n) c.as_slice-2.result.now) ((e : MetaEffects) → ¬ AreEffects c.args.outlines.now c.args.class.now c.args.effects.now e)
    (λ numbers. AllZip (HasSignalIn c.args.outlines.now c.args.class.now) c.as_slice-2.result.now numbers) (λ e. AreEffects c.args.outlines.now c.args.class.now c.args.effects.now e) _ c.in_err-emits.ensures
    (λ lacks e h. none_of_zip (HasSignalIn c.args.outlines.now c.args.class.now) (λ x. (n : ℕ) → ¬ HasSignalIn c.args.outlines.now c.args.class.now x n) c.args.effects.now.emits e.emits h.emits (λ x n has none. none n has) (rw c.as_slice-2.ensures at lacks))
    _ c.from_residual-in_err-emits.ensures.0 c.from_residual-in_err-emits.ensures.1

pub returns-in_err-sets : goal.returns-in_err-sets
returns-in_err-sets c =
    failed fault.NoMember (Any (λ x. (n : ℕ) → ¬ HasPropertyIn c.args.outlines.now c.args.class.now x n) c.as_slice-3.result.now) ((e : MetaEffects) → ¬ AreEffects c.args.outlines.now c.args.class.now c.args.effects.now e)
    (λ numbers. AllZip (HasPropertyIn c.args.outlines.now c.args.class.now) c.as_slice-3.result.now numbers) (λ e. AreEffects c.args.outlines.now c.args.class.now c.args.effects.now e) _ c.in_err-sets.ensures
    (λ lacks e h. none_of_zip (HasPropertyIn c.args.outlines.now c.args.class.now) (λ x. (n : ℕ) → ¬ HasPropertyIn c.args.outlines.now c.args.class.now x n) c.args.effects.now.sets e.sets h.sets (λ x n has none. none n has) (rw c.as_slice-3.ensures at lacks))
    _ c.from_residual-in_err-sets.ensures.0 c.from_residual-in_err-sets.ensures.1
