use Rattle.std.proofs.Common.{◌≡◌, ◌||◌, ◌&&◌, eqb, not, ℕ, Bool, true, false, List, sym, ap, ◌∙◌}
use Rattle.std.specs.List.{list_any}
use Rattle.indexmap.specs.IndexSet.{contains}
use Rattle.binding_graph.proofs.Joining.{and-true}
use Rattle.binding_graph.proofs.binding.Binding.leads_out_of.Goals as goal

pub returns-then-contains : goal.returns-then-contains
returns-then-contains c =
    let test : ℕ → Bool = contains eqb c.args.objects.now in
    let binding = c.args.self.now in
    let inside = list_any test binding.sources in
    let outside = list_any (λ o. not (test o)) binding.sources in
    let hit : test binding.target.object ≡ true = ap test (sym c.number.ensures) ∙ sym c.contains.ensures ∙ c.if-contains.true in
    c.is_one_beyond.ensures
    ∙ ap (λ (sources : List ℕ). list_any (λ o. not (test o)) sources) c.as_slice-sources.ensures
    ∙ sym (ap (λ (b : Bool). (b || inside) && (not b || outside)) hit)

pub returns-else-contains : goal.returns-else-contains
returns-else-contains c =
    let test : ℕ → Bool = contains eqb c.args.objects.now in
    let binding = c.args.self.now in
    let inside = list_any test binding.sources in
    let outside = list_any (λ o. not (test o)) binding.sources in
    let miss : test binding.target.object ≡ false = ap test (sym c.number.ensures) ∙ sym c.contains.ensures ∙ c.if-contains.false in
    c.is_one_within.ensures
    ∙ ap (λ (sources : List ℕ). list_any test sources) c.as_slice-sources.ensures
    ∙ sym (and-true inside)
    ∙ sym (ap (λ (b : Bool). (b || inside) && (not b || outside)) miss)
