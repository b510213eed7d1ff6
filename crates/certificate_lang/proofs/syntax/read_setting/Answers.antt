use Rattle.std.proofs.Common.{◌∙◌, ap, sym, ◌∷◌, List, ℕ}
use Rattle.std.specs.Cmp.Lexicographic.{same_text}
use Rattle.texts.specs.declared.token.Token.TheVariants as token
use Rattle.certificate_lang.proofs.Nodes.{setting_reads}
use Rattle.certificate_lang.proofs.syntax.read_setting.Goals as goal

pub returns-in-Name : goal.returns-in-Name
returns-in-Name c =
    let name = same_text c.bytes.result.now c.args.name.now c.if-eq.ensures in
    let is = c.in-Name.is ∙ ap (λ (letters : List ℕ). token.Name letters) (sym c.bytes.ensures.value ∙ name) in
    setting_reads (c.in_ok-found.ensures.found ∙ ap (λ t. t ∷ c.next_of.new.self) is) c.number.new.self c.number.result c.number.ensures.reads
