use Rattle.std.proofs.Common.{◌≡◌, ◌||◌, ◌&&◌, not, ℕ, Bool, true, List, sym, ap, ◌∙◌}
use Rattle.std.specs.List.{list_any}
use Rattle.meta_model.specs.Among.{is_among}
use Rattle.binding_graph.proofs.binding.Binding.leads_out.Goals as goal

pub returns-then-is_among : goal.returns-then-is_among
returns-then-is_among c =
    let os = c.args.objects.now in
    let binding = c.args.self.now in
    let inside = list_any (λ o. is_among o os) binding.sources in
    let outside = list_any (λ o. not (is_among o os)) binding.sources in
    let hit : is_among binding.target.object os ≡ true = sym c.is_among.ensures ∙ c.if-is_among.true in
    c.is_one_outside.ensures
    ∙ ap (λ (sources : List ℕ). list_any (λ o. not (is_among o os)) sources) c.as_slice-sources.ensures
    ∙ sym (ap (λ (b : Bool). (b || inside) && (not b || outside)) hit)
