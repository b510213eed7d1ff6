use Rattle.std.proofs.Common.{inl, inr}
use Rattle.name_resolution.specs.declared.uses.Uses.{Uses}
use Rattle.std.specs.List.{AllZip}
use Rattle.name_resolution.specs.code.Bodies.{AllWorks}
use Rattle.name_resolution.specs.code.Wires.{IsWire, IsOwns}
use Rattle.name_resolution.specs.code.Loading.{HasUses}
use Rattle.name_resolution.specs.code.Sites.{IsSite}
use Rattle.class_outlines.proofs.Loading.{stopped}
use Rattle.name_resolution.proofs.uses.resolve_uses.Goals as goal

pub returns-in_err-works : goal.returns-in_err-works
returns-in_err-works c =
    stopped _ _ _ _ (λ works. AllWorks c.args.outlines.now c.args.program.now.classes works) (λ (uses : Uses). HasUses c.args.program.now c.args.outlines.now uses.works uses.wires uses.owns uses.sites) _ c.in_err-works.ensures
    (λ lacks. inl (lacks)) _ c.from_residual.ensures.0 c.from_residual.ensures.1

pub returns-in_err-wires : goal.returns-in_err-wires
returns-in_err-wires c =
    stopped _ _ _ _ (λ wires. AllZip (IsWire c.args.outlines.now) c.args.program.now.wires wires) (λ (uses : Uses). HasUses c.args.program.now c.args.outlines.now uses.works uses.wires uses.owns uses.sites) _ c.in_err-wires.ensures
    (λ lacks. inr (inl (lacks))) _ c.from_residual-in_err-wires.ensures.0 c.from_residual-in_err-wires.ensures.1

pub returns-in_err-owns : goal.returns-in_err-owns
returns-in_err-owns c =
    stopped _ _ _ _ (λ owns. AllZip (IsOwns c.args.outlines.now) c.args.program.now.owns owns) (λ (uses : Uses). HasUses c.args.program.now c.args.outlines.now uses.works uses.wires uses.owns uses.sites) _ c.in_err-owns.ensures
    (λ lacks. inr (inr (inl (lacks)))) _ c.from_residual-in_err-owns.ensures.0 c.from_residual-in_err-owns.ensures.1

pub returns-in_err-sites : goal.returns-in_err-sites
returns-in_err-sites c =
    stopped _ _ _ _ (λ sites. AllZip (IsSite c.args.outlines.now) c.args.program.now.sites sites) (λ (uses : Uses). HasUses c.args.program.now c.args.outlines.now uses.works uses.wires uses.owns uses.sites) _ c.in_err-sites.ensures
    (λ lacks. inr (inr (inr (lacks)))) _ c.from_residual-in_err-sites.ensures.0 c.from_residual-in_err-sites.ensures.1

pub returns : goal.returns
returns c = record {
  are_works = c.in_ok-works.ensures;
  wired = c.in_ok-wires.ensures;
  owned = c.in_ok-owns.ensures;
  sited = c.in_ok-sites.ensures;
}
