use Rattle.std.proofs.Common.{◌≡◌, ℕ, sym, ◌∙◌, subst}
use Rattle.effect_scan.specs.declared.node.Member.TheVariants.{Method}
use Rattle.rank_check.specs.Valid.{RunsBody}
use Rattle.rank_check.proofs.destroys.has_body.Goals as goal

pub returns-in-Method : goal.returns-in-Method
returns-in-Method c = (
  λ t. record { number = c.in-Method.method; from = c.in-Method.is; body = c.runs_body.ensures.0 t },
  λ h.
      let method : Method h.number ≡ Method c.in-Method.method = sym h.from ∙ c.in-Method.is in
      let same : h.number ≡ c.in-Method.method = cc in
      c.runs_body.ensures.1 (subst (λ (m : ℕ). RunsBody c.args.meta.now c.args.node.class m) same h.body),
)
