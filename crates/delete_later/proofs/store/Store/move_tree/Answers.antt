use Rattle.std.proofs.Common.{◌≡◌, ◌≢◌, ℕ, List, None, Some, refl, sym, ap, ◌∙◌, subst}
use Rattle.object_tree.specs.declared.object.Object.{Object}
use Rattle.object_tree.specs.Family.{parent_of}
use Rattle.object_tree.specs.Moving.{AreBelow, AreWhole, all_in_loop}
use Rattle.object_tree.specs.Objects.{home_of}
use Rattle.object_tree.proofs.Moving.{whole-below, whole-in_loop}
use Rattle.event_loops.specs.Queues.{Queues}
use Rattle.binding_graph.specs.Bindings.{lead_out}
use Rattle.prop_bindings.specs.Fits.{Agree}
use Rattle.delete_later.specs.Moving.{no_loop, has_parent}
use Rattle.delete_later.proofs.Moving.{agree-moved, not-there, not-at-home, has-none, moves-short, not-followed}
use Rattle.delete_later.proofs.store.Store.move_tree.Goals as goal

pub returns-then-not-is_there-clause-value : goal.returns-then-not-is_there-clause-value
returns-then-not-is_there-clause-value c =
    (no_loop (not-there c.args.self.now c.args.object c.args.home c.is_there.result c.is_there.ensures c.if-not-is_there.true), refl)

pub returns-then-has_parent-clause-value : goal.returns-then-has_parent-clause-value
returns-then-has_parent-clause-value c =
    (has_parent (c.is_there.ensures.0 c.if-not-is_there.false) (sym c.has_parent.ensures ∙ c.if-has_parent.true), refl)

pub move_below-requires-clause-root : goal.move_below-requires-clause-root
move_below-requires-clause-root c = has-none c.args.self.now c.args.object c.args.home c.has_parent.result c.has_parent.ensures c.if-has_parent.false

pub returns-in_err-below-clause-value : goal.returns-in_err-below-clause-value
returns-in_err-below-clause-value c =
    let s = c.args.self.now in
    moves-short s c.args.object c.args.home (record s { tree = c.move_below.new.self }) c.from_residual.result
    (ap (λ (objects : List Object). record s { tree = objects }) c.in_err-below.ensures.err) c.from_residual.ensures.1

pub returns-in_err-below-clause-agree : goal.returns-in_err-below-clause-agree
returns-in_err-below-clause-agree c = λ p a.
    subst (λ (objects : List Object). Agree p objects c.args.self.now.bindings) (sym c.in_err-below.ensures.err) a

pub set_home-requires : goal.set_home-requires
set_home-requires c =
    let s = c.args.self.now in
    let os = c.as_slice-objects.result.now in
    let root : parent_of s.tree c.args.object ≡ None = has-none s c.args.object c.args.home c.has_parent.result c.has_parent.ensures c.if-has_parent.false in
    let below : AreBelow s.tree c.args.object os = subst (λ (ks : List ℕ). AreBelow s.tree c.args.object ks) (sym c.as_slice-objects.ensures.value) c.in_ok-below.ensures.below in
    let moved : c.move_below.new.self ≡ all_in_loop os c.args.home s.tree =
    c.in_ok-below.ensures.moved ∙ ap (λ (ks : List ℕ). all_in_loop ks c.args.home s.tree) (sym c.as_slice-objects.ensures.value) in
    subst (λ (objects : List Object). AreWhole os objects) (sym moved) (whole-in_loop c.args.home os os s.tree (whole-below s.tree c.args.object root os below))

pub returns-in-Ok-clause-value : goal.returns-in-Ok-clause-value
returns-in-Ok-clause-value c =
    let s = c.args.self.now in
    let os = c.as_slice-objects.result.now in
    let root : parent_of s.tree c.args.object ≡ None = has-none s c.args.object c.args.home c.has_parent.result c.has_parent.ensures c.if-has_parent.false in
    let moved : c.move_below.new.self ≡ all_in_loop os c.args.home s.tree =
    c.in_ok-below.ensures.moved ∙ ap (λ (ks : List ℕ). all_in_loop ks c.args.home s.tree) (sym c.as_slice-objects.ensures.value) in
    record {
      there = c.is_there.ensures.0 c.if-not-is_there.false;
      root = root;
      same = λ here. absurd (not-at-home s c.args.object c.args.home c.eq.result c.home_in-from.result c.home_in-from.ensures c.eq.ensures c.if-eq.false here);
      other = λ away. record {
        objects = os;
        below = subst (λ (ks : List ℕ). AreBelow s.tree c.args.object ks) (sym c.as_slice-objects.ensures.value) c.in_ok-below.ensures.below;
        alone = c.in-Ok.ensures.alone;
        moved = ap (λ (objects : List Object). record s { tree = objects; loops = c.follow.new.loops }) moved
            ∙ ap (λ (loops : Queues). record s { tree = all_in_loop os c.args.home s.tree; loops = loops }) c.in-Ok.ensures.moved;
      };
    }

pub returns-in-Ok-clause-agree : goal.returns-in-Ok-clause-agree
returns-in-Ok-clause-agree c = λ p a.
    let s = c.args.self.now in
    subst (λ (objects : List Object). Agree p objects s.bindings) (sym c.in_ok-below.ensures.moved)
    (agree-moved c.in_ok-below.below.items c.args.home s.tree p s.bindings (ap (λ (ks : List ℕ). lead_out ks s.bindings) (sym c.as_slice-objects.ensures.value) ∙ c.in-Ok.ensures.alone) a)

pub returns-clause-value : goal.returns-clause-value
returns-clause-value c =
    let s = c.args.self.now in
    let os = c.as_slice-objects.result.now in
    let root : parent_of s.tree c.args.object ≡ None = has-none s c.args.object c.args.home c.has_parent.result c.has_parent.ensures c.if-has_parent.false in
    let away : home_of s.tree c.args.object ≢ Some c.args.home = not-at-home s c.args.object c.args.home c.eq.result c.home_in-from.result c.home_in-from.ensures c.eq.ensures c.if-eq.false in
    let below : AreBelow s.tree c.args.object os = subst (λ (ks : List ℕ). AreBelow s.tree c.args.object ks) (sym c.as_slice-objects.ensures.value) c.in_ok-below.ensures.below in
    let back : c.set_home.new.self ≡ s.tree =
    c.set_home.ensures.value ∙ ap (λ (ks : List ℕ). all_in_loop ks c.home_in-from.result c.move_below.new.self) c.as_slice-objects.ensures.value ∙ c.in_ok-below.ensures.back in (
      not-followed s c.args.object c.args.home (c.is_there.ensures.0 c.if-not-is_there.false) root away os below c.in-Err.ensures.refused,
      ap (λ (objects : List Object). record s { tree = objects; loops = c.follow.new.loops }) back ∙ ap (λ (loops : Queues). record s { loops = loops }) c.in-Err.ensures.err,
    )

pub returns-clause-agree : goal.returns-clause-agree
returns-clause-agree c = λ p a.
    let s = c.args.self.now in
    let back : c.set_home.new.self ≡ s.tree =
    c.set_home.ensures.value ∙ ap (λ (ks : List ℕ). all_in_loop ks c.home_in-from.result c.move_below.new.self) c.as_slice-objects.ensures.value ∙ c.in_ok-below.ensures.back in
    subst (λ (objects : List Object). Agree p objects s.bindings) (sym back) a

pub returns-clause-typed : goal.returns-clause-typed
returns-clause-typed c = λ p all. c.set_home.ensures.typed p (c.move_below.ensures.typed p all)
