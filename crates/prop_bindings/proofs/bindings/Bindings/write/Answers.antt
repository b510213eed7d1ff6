use Rattle.std.proofs.Common.{◌≡◌, ◌∙◌, ℕ, List, ap, refl, sym, subst}
use Rattle.std.proofs.lemmas.Bool.{false≢true}
use Rattle.object_tree.specs.declared.object.Object.{Object}
use Rattle.binding_graph.specs.declared.place.Place.{Place}
use Rattle.binding_graph.specs.declared.binding.Binding.{Binding}
use Rattle.binding_graph.specs.Bindings.{binding_at, without}
use Rattle.prop_bindings.specs.Calls.{bad_type}
use Rattle.prop_bindings.specs.Changes.{IsWritten, one}
use Rattle.prop_bindings.specs.Counts.{CountsWritten}
use Rattle.prop_bindings.specs.Fits.{Agree}
use Rattle.prop_bindings.specs.Plans.{after}
use Rattle.prop_bindings.proofs.Alone.{alone-agrees, alone-counted, alone-written}
use Rattle.prop_bindings.proofs.Short.{on-err, writes-err}
use Rattle.prop_bindings.proofs.bindings.Bindings.write.Goals as goal

pub returns-then-not-fits-clause-value : goal.returns-then-not-fits-clause-value
returns-then-not-fits-clause-value c = bad_type (λ fits. false≢true (sym c.if-not-fits.true ∙ c.fits.ensures.1 fits.0))

pub returns-then-is_unread-clause-value : goal.returns-then-is_unread-clause-value
returns-then-is_unread-clause-value c =
    let fits = c.fits.ensures.0 c.if-not-fits.false in (
      (fits, tt),
      alone-written c.args.tree.now c.args.place.now c.args.value c.args.meta.now c.args.self.now.installed c.requires.agree fits (c.is_unread.ensures c.if-is_unread.true) c.write_alone.result c.write_alone.ensures.changed
          c.write_alone.new.self.installed c.write_alone.new.tree c.write_alone.ensures.left c.write_alone.ensures.objects,
    )

pub returns-then-is_unread-clause-agree : goal.returns-then-is_unread-clause-agree
returns-then-is_unread-clause-agree c =
    alone-agrees c.args.tree.now c.args.place.now c.args.value c.args.meta.now c.args.self.now.installed c.requires.agree (c.fits.ensures.0 c.if-not-fits.false) (c.is_unread.ensures c.if-is_unread.true) c.write_alone.result c.write_alone.ensures.changed
    c.write_alone.new.self.installed c.write_alone.new.tree c.write_alone.ensures.left c.write_alone.ensures.objects

pub returns-then-is_unread-clause-counted : goal.returns-then-is_unread-clause-counted
returns-then-is_unread-clause-counted c =
    alone-counted c.args.tree.now c.args.place.now c.args.value c.args.meta.now c.args.self.now.installed c.requires.agree (c.fits.ensures.0 c.if-not-fits.false) (c.is_unread.ensures c.if-is_unread.true) c.write_alone.result c.write_alone.ensures.changed
    c.write_alone.new.self.installed c.write_alone.new.tree c.write_alone.ensures.left c.write_alone.ensures.objects c.write_alone.new.self.evaluated c.write_alone.ensures.counted

pub returns-in_err-planned-clause-value : goal.returns-in_err-planned-clause-value
returns-in_err-planned-clause-value c = writes-err c.args.meta.now (one c.args.place.now c.args.value) c.args.self.now.installed _ c.args.tree.now _ _ c.from_residual.result c.from_residual.ensures.1 c.in_err-planned.ensures.value

pub returns-in_err-planned-clause-err : goal.returns-in_err-planned-clause-err
returns-in_err-planned-clause-err c = on-err c.from_residual.result (refl, refl)

pub returns-clause-value : goal.returns-clause-value
returns-clause-value c =
    let plan = c.in_ok-planned.planned in
    let bs : List Binding = c.args.self.now.installed in
    let left : c.carry_out.new.self.installed ≡ without c.args.place.now bs = c.carry_out.ensures.left ∙ ap (λ (q : Place). without q bs) c.in_ok-planned.ensures.target in (
      c.in_ok-planned.ensures.value.0,
      subst (λ (told : List Place). IsWritten bs c.carry_out.new.self.installed c.args.tree.now c.carry_out.new.tree (one c.args.place.now c.args.value) told) (sym c.carry_out.ensures.value)
          (subst (λ (xs : List Object). IsWritten bs c.carry_out.new.self.installed c.args.tree.now xs (one c.args.place.now c.args.value) plan.planned.changed) (sym c.carry_out.ensures.objects)
          (subst (λ (cs : List Binding). IsWritten bs cs c.args.tree.now (after plan.planned c.args.tree.now) (one c.args.place.now c.args.value) plan.planned.changed) (sym left) c.in_ok-planned.ensures.value.1)),
    )

pub returns-clause-agree : goal.returns-clause-agree
returns-clause-agree c =
    let bs : List Binding = c.args.self.now.installed in
    let left : c.carry_out.new.self.installed ≡ without c.args.place.now bs = c.carry_out.ensures.left ∙ ap (λ (q : Place). without q bs) c.in_ok-planned.ensures.target in
    subst (λ (xs : List Object). Agree c.args.meta.now xs c.carry_out.new.self.installed) (sym c.carry_out.ensures.objects)
    (subst (λ (cs : List Binding). Agree c.args.meta.now (after c.in_ok-planned.planned.planned c.args.tree.now) cs) (sym left) c.in_ok-planned.ensures.agree)

pub returns-clause-counted : goal.returns-clause-counted
returns-clause-counted c =
    let plan = c.in_ok-planned.planned in
    let bs : List Binding = c.args.self.now.installed in
    let left : c.carry_out.new.self.installed ≡ without c.args.place.now bs = c.carry_out.ensures.left ∙ ap (λ (q : Place). without q bs) c.in_ok-planned.ensures.target in
    subst (λ (n : ℕ). CountsWritten (binding_at c.carry_out.new.self.installed) c.args.place.now c.args.value c.args.tree.now c.carry_out.result n) (sym c.carry_out.ensures.counted)
    (subst (λ (told : List Place). CountsWritten (binding_at c.carry_out.new.self.installed) c.args.place.now c.args.value c.args.tree.now told plan.planned.evaluated) (sym c.carry_out.ensures.value)
    (subst (λ (cs : List Binding). CountsWritten (binding_at cs) c.args.place.now c.args.value c.args.tree.now plan.planned.changed plan.planned.evaluated) (sym left) c.in_ok-planned.ensures.counted))
