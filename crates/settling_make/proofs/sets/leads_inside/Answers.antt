use Rattle.std.proofs.Common.{ℕ, List, get_or, inl, inr, subst, sym, ap, ◌∙◌}
use Rattle.std.specs.List.{Contains}
use Rattle.std.proofs.lemmas.List.Elements.{Contains-get_or}
use Rattle.settling_make.specs.Components.{number_of}
use Rattle.settling_make.proofs.Taking.{one_of, none_taken, all_taken}
use Rattle.settling_make.proofs.sets.leads_inside.Goals as goal

pub loop-target-init : goal.loop-target-init
loop-target-init c = λ b h. absurd (none_taken c.targets-target-items.result.now b h)

pub returns-then-other-component : goal.returns-then-other-component
returns-then-other-component c =
    let items = c.targets-target-items.result.now in (
      get_or items c.loop-target.target-index 0,
      subst (λ (l : List ℕ). Contains l (get_or items c.loop-target.target-index 0)) c.targets-target-items.ensures (Contains-get_or items c.loop-target.target-index 0 c.loop-target-test.true),
      sym c.number-other.ensures ∙ c.if-other-component.true,
    )

pub loop-target-preserved : goal.loop-target-preserved
loop-target-preserved c = λ b h inside.
    elim (one_of c.targets-target-items.result.now c.loop-target.target-index c.loop-target-test.true b h) [
      | inl old ↦ c.loop-target.invariant b old inside
      | inr same ↦ c.if-other-component.false (c.number-other.ensures ∙ ap (number_of c.args.found.now.numbers) same ∙ inside)
    ]

pub returns : goal.returns
returns c = λ to edge inside.
    c.loop-target.invariant to (all_taken c.targets-target-items.result.now c.loop-target.target-index to c.loop-target-test.false (subst (λ (l : List ℕ). Contains l to) (sym c.targets-target-items.ensures) edge)) inside
