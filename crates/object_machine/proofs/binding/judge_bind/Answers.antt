use Rattle.std.proofs.Common.{◌≡◌, ◌∙◌, [], None, Some, sym, arith}
use Rattle.machine_rules.specs.Judgement.{numbered}
use Rattle.machine_state.specs.Worlds.{at}
use Rattle.object_machine.specs.code.Judgement.{refused}
use Rattle.object_machine.specs.Events.{may_bind}
use Rattle.object_machine.proofs.Judged.{err-is}
use Rattle.object_machine.proofs.Judging.Binding.{no-site, other-number, no-target, no-sources, site-found}
use Rattle.object_machine.proofs.binding.judge_bind.Goals as goal

pub returns-in_default-clause-refused : goal.returns-in_default-clause-refused
returns-in_default-clause-refused c = refused (no-site c.args.context.now.meta c.args.world.now c.args.site.now c.args.target.now c.args.sources.now c.in_default.ensures.value)

pub unreachable-requires : goal.unreachable-requires
unreachable-requires c =
    let there = c.in-Some.ensures.value.is in
    let both : None ≡ Some there.item = (rw c.in_default-site_at.is at c.site_at.ensures.value) ∙ there.is in
    absurd (cc both)

pub returns-then-sources-len-clause-refused : goal.returns-then-sources-len-clause-refused
returns-then-sources-len-clause-refused c =
    let is = site-found c.in-Some-site_at.declared.now c.in-Some.ensures.value (sym c.in-Some-site_at.ensures.value) in
    refused (other-number c.args.context.now.meta c.args.world.now c.args.site.now c.args.target.now c.args.sources.now (numbered c.in-Some.number c.in-Some-site_at.declared.now) is
    (λ same. absurd (omega (arith, c.if-sources-len.true, c.len.ensures, same))))

pub returns-in_err-target-clause-refused : goal.returns-in_err-target-clause-refused
returns-in_err-target-clause-refused c =
    let is = site-found c.in-Some-site_at.declared.now c.in-Some.ensures.value (sym c.in-Some-site_at.ensures.value) in
    err-is {Judged = may_bind c.args.context.now.meta (at c.args.world.now []) c.args.site.now c.args.target.now c.args.sources.now} c.from_residual.result
    (no-target c.args.context.now.meta c.args.world.now c.args.site.now c.args.target.now c.args.sources.now (numbered c.in-Some.number c.in-Some-site_at.declared.now) is
    (omega (arith, c.if-sources-len.false, c.len.ensures)) c.in_err-target.ensures.refused) c.from_residual.ensures.1

pub returns-in_err-sources-clause-refused : goal.returns-in_err-sources-clause-refused
returns-in_err-sources-clause-refused c =
    let is = site-found c.in-Some-site_at.declared.now c.in-Some.ensures.value (sym c.in-Some-site_at.ensures.value) in
    err-is {Judged = may_bind c.args.context.now.meta (at c.args.world.now []) c.args.site.now c.args.target.now c.args.sources.now} c.from_residual-in_err-sources.result
    (no-sources c.args.context.now.meta c.args.world.now c.args.site.now c.args.target.now c.args.sources.now (numbered c.in-Some.number c.in-Some-site_at.declared.now) is
    (omega (arith, c.if-sources-len.false, c.len.ensures)) (numbered c.in_ok-target.target c.in_ok-target.field-0-1.now) c.in_ok-target.ensures.found c.in_err-sources.ensures.refused)
    c.from_residual-in_err-sources.ensures.1

pub returns-clause-asked : goal.returns-clause-asked
returns-clause-asked c = rw c.new.ensures (record {
  site = c.in-Some-site_at.declared.now;
  is = site-found c.in-Some-site_at.declared.now c.in-Some.ensures.value (sym c.in-Some-site_at.ensures.value);
  many = omega (arith, c.if-sources-len.false, c.len.ensures);
  life = c.in_ok-target.field-0-1.now;
  lives = c.in_ok-target.ensures.found;
  live = c.in_ok-sources.ensures.found;
})
