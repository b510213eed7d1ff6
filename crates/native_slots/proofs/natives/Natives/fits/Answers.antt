use Rattle.std.proofs.Common.{map}
use Rattle.native_slots.proofs.Telling.{told, told_fitting}
use Rattle.native_slots.proofs.natives.Natives.fits.Goals as goal

pub returns-in_err-fitting-clause-exact : goal.returns-in_err-fitting-clause-exact
returns-in_err-fitting-clause-exact g c =
    told (map (λ slot. slot.head) c.args.self.now.slots.items) c.args.meta.now _ c.in_err-fitting.ensures.exact _ c.from_residual.ensures.0 c.from_residual.ensures.1

pub returns-clause-exact : goal.returns-clause-exact
returns-clause-exact g c = told_fitting (map (λ slot. slot.head) c.args.self.now.slots.items) c.args.meta.now c.in_ok-fitting.ensures.exact
