use Rattle.std.proofs.Common.{ℕ, codes, subst}
use Rattle.certificate_lang.specs.Grammar.{IsSetting}
use Rattle.certificate_lang.proofs.Certificates.{is_so}
use Rattle.certificate_lang.proofs.Nodes.{setting_whole}
use Rattle.settling_texts.proofs.row.header.Goals as goal

pub returns-then-version-eq-VERSION : goal.returns-then-version-eq-VERSION
returns-then-version-eq-VERSION c =
    let end = is_so c.is_empty.result c.if-not-is_empty.false c.is_empty.ensures in
    subst (λ (n : ℕ). IsSetting (codes "settling") c.args.tokens.now n) c.if-version-eq-VERSION.true (setting_whole (rw c.new-cursor.ensures at c.in_ok-version.ensures) end)
