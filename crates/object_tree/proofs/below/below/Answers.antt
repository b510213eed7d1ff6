use Rattle.std.proofs.Common.{◌≡◌, ℕ, ◌+◌, ◌<◌, ◌≤◌, List, [], ◌∷◌, ◌++◌, length, take, drop, sym, ap, ◌∙◌, subst, arith}
use Rattle.std.proofs.lemmas.List.{length-append}
use Rattle.object_tree.specs.Family.{children_of}
use Rattle.object_tree.proofs.Descents.{WalkedUpto, length-taken, walk-next, walk-starts, walk-stops, walk-within}
use Rattle.object_tree.proofs.below.below.Goals as goal

pub loop-passed-init : goal.loop-passed-init
loop-passed-init c =
    let one : c.push.new.self.items ≡ c.args.object ∷ [] = c.in_ok-push.ensures.items ∙ ap (λ (ks : List ℕ). ks ++ c.args.object ∷ []) c.new-found.ensures.items in
    record {
      within = omega arith;
      walked = subst (λ (ks : List ℕ). WalkedUpto c.args.objects.now c.args.object 0 ks) (sym one) (walk-starts c.args.objects.now c.args.object);
    }

pub loop-passed-smaller : goal.loop-passed-smaller
loop-passed-smaller c =
    let found = c.loop-passed.found.items in
    let passed = c.loop-passed.passed in
    let few : length (take passed found) ≤ length c.args.objects.now = walk-within c.args.objects.now c.args.object c.requires.lives (take passed found) (drop passed found) c.loop-passed.invariant.walked in
    omega (arith, few, length-taken passed found c.loop-passed.invariant.within)

pub loop-passed-preserved : goal.loop-passed-preserved
loop-passed-preserved c =
    let objects = c.args.objects.now in
    let found = c.loop-passed.found.items in
    let next : ℕ = c.index-next.result.now in
    let below : c.loop-passed.passed < length found = omega (arith, c.loop-passed-test.true, c.len.ensures) in
    let long : length c.push_children.new.list.items ≡ length found + length (children_of objects next) =
    ap (λ (ks : List ℕ). length ks) c.in_ok-push_children.ensures ∙ length-append found (children_of objects next) in
    record {
      within = omega (arith, below, long);
      walked = subst (λ (ks : List ℕ). WalkedUpto objects c.args.object (c.loop-passed.passed + 1) ks) (sym c.in_ok-push_children.ensures)
          (walk-next objects c.requires.forest c.args.object c.loop-passed.passed found next below c.index-next.ensures c.loop-passed.invariant.walked);
    }

pub returns : goal.returns
returns c =
    let past : length c.loop-passed.found.items ≤ c.loop-passed.passed = omega (arith, c.loop-passed-test.false, c.len.ensures) in
    walk-stops c.args.objects.now c.args.object c.loop-passed.passed c.loop-passed.found.items past c.loop-passed.invariant.walked
