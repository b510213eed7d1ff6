use Rattle.std.proofs.Common.{sym, subst}
use Rattle.prop_bindings.specs.Fits.{IsInOneLoop}
use Rattle.prop_bindings.proofs.Short.{if-ok}
use Rattle.prop_bindings.proofs.Sited.{binds-both}
use Rattle.prop_bindings.proofs.bindings.Bindings.plan_bind.Goals as goal

pub plan_install-requires-clause-agree : goal.plan_install-requires-clause-agree
plan_install-requires-clause-agree c =
    let made = c.in_ok-prepared.ensures.value in
    (c.args.meta.now, c.requires.agree, made.fit, subst (IsInOneLoop c.args.tree.now) (sym made.is) made.may.one_loop, made.has)

pub returns-clause-value : goal.returns-clause-value
returns-clause-value c = binds-both c.args.meta.now c.args.tree.now c.args.site c.args.target c.args.sources.now c.args.self.now.installed c.in_ok-prepared.prepared.binding c.in_ok-prepared.prepared.value c.plan_install.result c.in_ok-prepared.ensures.value c.plan_install.ensures.value

pub returns-clause-agree : goal.returns-clause-agree
returns-clause-agree c =
    let made = c.in_ok-prepared.ensures.value in
    if-ok c.plan_install.result (λ plan stay. stay c.args.meta.now c.requires.agree made.fit (subst (IsInOneLoop c.args.tree.now) (sym made.is) made.may.one_loop)) c.plan_install.ensures.agree
