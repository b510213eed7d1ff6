use Rattle.std.proofs.Common.{◌≡◌, ◌∙◌, ℕ, Some, ap, sym}
use Rattle.indexmap.specs.IndexMap.{get}
use Rattle.binding_graph.specs.declared.binding.Binding.{Binding}
use Rattle.binding_graph.specs.code.Keys.{key_of, same_key}
use Rattle.binding_graph.specs.code.Slots.{filled}
use Rattle.binding_graph.proofs.Noted.{pushed-keyed}
use Rattle.binding_graph.proofs.Slots.{filled-push}
use Rattle.binding_graph.proofs.installed.Installed.push.Goals as goal

pub returns-clause-pushed : goal.returns-clause-pushed
returns-clause-pushed c = ap filled c.in-Ok-push.ensures.items ∙ filled-push c.args.self.now.slots.items c.args.reader

pub returns-clause-keyed : goal.returns-clause-keyed
returns-clause-keyed c =
    let seen : c.reader.inside.binding ≡ c.args.reader = c.reader.view_is in
    let key : c.key-key.result ≡ key_of c.args.reader.target = c.key-key.ensures ∙ ap (λ (z : Binding). key_of z.target) seen in
    pushed-keyed c.args.self.now _ c.args.reader c.requires.keyed c.requires.unbound c.in-Ok-push.ensures.items
    (ap (get same_key c.insert.new.self) (sym key) ∙ c.in-Ok.ensures.updates.1 ∙ ap (λ (n : ℕ). Some n) (c.len-slot.ensures ∙ c.args.self.now.slots.ok.0))
    (λ q f. c.in-Ok.ensures.updates.2 (key_of q) (ap (λ (k : ℕ × ℕ). same_key k (key_of q)) key ∙ f))
