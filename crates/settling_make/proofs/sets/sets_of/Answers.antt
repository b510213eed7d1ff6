use Rattle.std.proofs.Common.{ℕ, List, length, Some, refl, sym, ap, ◌∙◌, subst, arith}
use Rattle.std.specs.List.{Contains, AllZip}
use Rattle.effect_scan.specs.declared.node.Node.{Node}
use Rattle.effect_scan.specs.Rows.{row}
use Rattle.rank_graph.specs.Solutions.{rank_of}
use Rattle.settling_make.specs.Sets.{HasInside, IsRound, IsNameOf}
use Rattle.settling_make.proofs.Setting.{sets_skip, sets_add}
use Rattle.settling_make.proofs.sets.sets_of.Goals as goal
use Rattle.settling_make.proofs.sets.sets_of.Goals.{then-has_inside+in-Some+in_ok-members-in-Some+in_ok-push-in-Some+in_ok-push-in-Some-2, else-has_inside+in_ok-push}

pub names_of-requires-clause-members : goal.names_of-requires-clause-members
names_of-requires-clause-members c = λ a h.
    let same = c.row_at-members.ensures ∙ ap (λ (l : List (List ℕ)). row l c.loop-component.component) c.as_slice.ensures in
    let low = ((c.requires.found.members a c.loop-component.component).0 (subst (λ (l : List ℕ). Contains l a) same h)).0 in
    let nodes = ap (λ (ns : List Node). length ns) c.requires.scan.nodes in
    let count = c.requires.scan.edges.count in
    omega (arith, low, nodes, count)

pub returns-in-None : goal.returns-in-None
returns-in-None c =
    let same = c.row_at-members.ensures ∙ ap (λ (l : List (List ℕ)). row l c.loop-component.component) c.as_slice.ensures in
    let high = c.in-None.ensures in
    (high.0, ((c.requires.found.members high.0 c.loop-component.component).0 (subst (λ (l : List ℕ). Contains l high.0) same high.1)).0, high.2)

pub loop-component-preserved : goal.loop-component-preserved
loop-component-preserved c =
    let same = c.row_at-members.ensures ∙ ap (λ (l : List (List ℕ)). row l c.loop-component.component) c.as_slice.ensures in
    elim c.if-has_inside.branch [
      | then-has_inside+in-Some+in_ok-members-in-Some+in_ok-push-in-Some+in_ok-push-in-Some-2 w ↦
          rw (w.sets-is, w.places-is)
          (sets_add c.args.meta.now c.args.scan.now.rows c.args.found.now (rank_of c.args.heights.now) c.loop-component.component c.loop-component.sets c.loop-component.places _ c.loop-component.invariant (Some w.len.result) w.in_ok-push-in-Some.ensures.ok _ _ (ap (λ (n : ℕ). Some n) w.len.ensures) w.in_ok-push-in-Some-2.ensures.ok
          (subst (λ (l : List ℕ). HasInside c.args.scan.now.rows c.args.found.now.numbers c.loop-component.component l) same w.if-has_inside.ensures)
          (record {
            names = subst (λ (l : List ℕ). AllZip (IsNameOf c.args.meta.now) l w.in_ok-members-in-Some.members) same w.in_ok-members-in-Some.ensures;
            round = subst (λ (l : List ℕ). IsRound l (rank_of c.args.heights.now) w.in-Some.round) same w.in-Some.ensures;
          }))
      | else-has_inside+in_ok-push w ↦
          rw (w.sets-is, w.places-is)
          (sets_skip c.args.meta.now c.args.scan.now.rows c.args.found.now (rank_of c.args.heights.now) c.loop-component.component c.loop-component.sets c.loop-component.places _ c.loop-component.invariant _ w.in_ok-push.ensures.ok refl
          (λ has. w.if-has_inside.ensures (subst (λ (l : List ℕ). HasInside c.args.scan.now.rows c.args.found.now.numbers c.loop-component.component l) (sym same) has)))
    ]
