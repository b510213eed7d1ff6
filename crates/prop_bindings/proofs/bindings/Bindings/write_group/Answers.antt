use Rattle.std.proofs.Common.{◌≡◌, ◌∙◌, ℕ, List, refl, sym, subst}
use Rattle.object_tree.specs.declared.object.Object.{Object}
use Rattle.binding_graph.specs.declared.place.Place.{Place}
use Rattle.binding_graph.specs.declared.binding.Binding.{Binding}
use Rattle.binding_graph.specs.Bindings.{binding_at, without_all}
use Rattle.prop_bindings.specs.Changes.{IsWritten, places_in}
use Rattle.prop_bindings.specs.Counts.{CountsGroup}
use Rattle.prop_bindings.specs.Fits.{Agree}
use Rattle.prop_bindings.specs.Plans.{after}
use Rattle.prop_bindings.proofs.Short.{on-err, writes-err}
use Rattle.prop_bindings.proofs.bindings.Bindings.write_group.Goals as goal

pub returns-in_err-planned-clause-value : goal.returns-in_err-planned-clause-value
returns-in_err-planned-clause-value c = writes-err c.args.meta.now c.args.writes.now c.args.self.now.installed _ c.args.tree.now _ _ c.from_residual.result c.from_residual.ensures.1 c.in_err-planned.ensures.value

pub returns-in_err-planned-clause-err : goal.returns-in_err-planned-clause-err
returns-in_err-planned-clause-err c = on-err c.from_residual.result (refl, refl)

pub returns-clause-value : goal.returns-clause-value
returns-clause-value c =
    let plan = c.in_ok-planned.planned in
    let bs : List Binding = c.args.self.now.installed in
    let left : c.carry_out_group.new.self.installed ≡ without_all (places_in c.args.writes.now) bs = c.carry_out_group.ensures.left ∙ c.in_ok-planned.ensures.left in (
      c.in_ok-planned.ensures.value.0,
      subst (λ (told : List Place). IsWritten bs c.carry_out_group.new.self.installed c.args.tree.now c.carry_out_group.new.tree c.args.writes.now told) (sym c.carry_out_group.ensures.value)
          (subst (λ (xs : List Object). IsWritten bs c.carry_out_group.new.self.installed c.args.tree.now xs c.args.writes.now plan.planned.changed) (sym c.carry_out_group.ensures.objects)
          (subst (λ (cs : List Binding). IsWritten bs cs c.args.tree.now (after plan.planned c.args.tree.now) c.args.writes.now plan.planned.changed) (sym left) c.in_ok-planned.ensures.value.1)),
    )

pub returns-clause-agree : goal.returns-clause-agree
returns-clause-agree c =
    let bs : List Binding = c.args.self.now.installed in
    let left : c.carry_out_group.new.self.installed ≡ without_all (places_in c.args.writes.now) bs = c.carry_out_group.ensures.left ∙ c.in_ok-planned.ensures.left in
    subst (λ (xs : List Object). Agree c.args.meta.now xs c.carry_out_group.new.self.installed) (sym c.carry_out_group.ensures.objects)
    (subst (λ (cs : List Binding). Agree c.args.meta.now (after c.in_ok-planned.planned.planned c.args.tree.now) cs) (sym left) c.in_ok-planned.ensures.agree)

pub returns-clause-counted : goal.returns-clause-counted
returns-clause-counted c =
    let plan = c.in_ok-planned.planned in
    let bs : List Binding = c.args.self.now.installed in
    let left : c.carry_out_group.new.self.installed ≡ without_all (places_in c.args.writes.now) bs = c.carry_out_group.ensures.left ∙ c.in_ok-planned.ensures.left in
    subst (λ (n : ℕ). CountsGroup (binding_at c.carry_out_group.new.self.installed) c.args.writes.now c.args.tree.now c.carry_out_group.result n) (sym c.carry_out_group.ensures.counted)
    (subst (λ (told : List Place). CountsGroup (binding_at c.carry_out_group.new.self.installed) c.args.writes.now c.args.tree.now told plan.planned.evaluated) (sym c.carry_out_group.ensures.value)
    (subst (λ (cs : List Binding). CountsGroup (binding_at cs) c.args.writes.now c.args.tree.now plan.planned.changed plan.planned.evaluated) (sym left) c.in_ok-planned.ensures.counted))
