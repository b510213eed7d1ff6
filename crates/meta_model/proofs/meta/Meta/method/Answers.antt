use Rattle.std.proofs.Common.{◌≡◌, None, rules, subst}
use Rattle.meta_model.specs.Members.{HasSig}
use Rattle.name_indexes.proofs.Choices.{fails}
use Rattle.meta_model.proofs.Indexing.{named_of}
use Rattle.name_indexes.proofs.Zips.{lacks}
use Rattle.meta_model.proofs.meta.Meta.method.Goals as goal

pub returns-in_err-found-clause-value : goal.returns-in_err-found-clause-value
returns-in_err-found-clause-value c =
    let none : c.from_residual.result ≡ None = search rules in
    lacks _ _ _ none (λ m h. c.in_err-found.ensures.value m (named_of _ _ _ _ c.len.ensures m h))

pub returns-then-has_sig-clause-only : goal.returns-then-has_sig-clause-only
returns-then-has_sig-clause-only c = λ j h. c.in_ok-found.ensures.only j (named_of _ _ _ _ c.len.ensures j h)

pub returns-else-has_sig-clause-value : goal.returns-else-has_sig-clause-value
returns-else-has_sig-clause-value c =
    λ m h. fails _ c.has_sig.ensures c.if-has_sig.false
    (subst (HasSig c.args.self.now c.args.class c.args.sig.now) (c.in_ok-found.ensures.only m (named_of _ _ _ _ c.len.ensures m h)) h)
