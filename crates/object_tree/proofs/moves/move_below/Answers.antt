use Rattle.std.proofs.Common.{◌≡◌, ℕ, ◌+◌, ◌<◌, ◌≤◌, List, [], ◌∷◌, ◌++◌, length, take, drop, refl, sym, ap, ◌∙◌, subst, arith}
use Rattle.std.proofs.lemmas.List.{length-append}
use Rattle.std.specs.Prelude.{IsSome}
use Rattle.object_tree.specs.declared.object.Object.{Object}
use Rattle.object_tree.specs.Family.{children_of}
use Rattle.object_tree.specs.Moving.{all_in_loop}
use Rattle.object_tree.specs.Objects.{life_of}
use Rattle.object_tree.proofs.Descents.{WalkedUpto, length-taken, take-next, take-past, walk-at, walk-next, walk-passed, walk-starts, walk-stops, walk-within}
use Rattle.object_tree.proofs.Moving.{back-in_loop, children-in_loop, home-below, in_loop-append, life-home, lives-in_loop}
use Rattle.object_tree.proofs.moves.move_below.Goals as goal

pub loop-passed-init : goal.loop-passed-init
loop-passed-init c =
    let one : c.push.new.self.items ≡ c.args.object ∷ [] = c.in_ok-push.ensures.items ∙ ap (λ (ks : List ℕ). ks ++ c.args.object ∷ []) c.new-found.ensures.items in
    record {
      within = omega arith;
      walked = subst (λ (ks : List ℕ). WalkedUpto c.args.objects.now c.args.object 0 ks) (sym one) (walk-starts c.args.objects.now c.args.object);
      moved = refl;
    }

pub rehouse-requires : goal.rehouse-requires
rehouse-requires c =
    let old = c.args.objects.now in
    let found = c.loop-passed.found.items in
    let passed = c.loop-passed.passed in
    let next : ℕ = c.index-next.result.now in
    let below : passed < length found = omega (arith, c.loop-passed-test.true, c.len.ensures) in
    let above = walk-at old c.args.object passed found next below c.index-next.ensures c.loop-passed.invariant.walked in
    subst (λ (objects : List Object). IsSome (life_of objects next)) (sym c.loop-passed.invariant.moved)
    (lives-in_loop c.args.home (take passed found) next c.args.from old (home-below old c.args.object c.args.from c.requires.forest c.requires.lives above))

pub loop-passed-smaller : goal.loop-passed-smaller
loop-passed-smaller c =
    let old = c.args.objects.now in
    let found = c.loop-passed.found.items in
    let passed = c.loop-passed.passed in
    let few : length (take passed found) ≤ length old = walk-within old c.args.object (life-home old c.args.object c.args.from c.requires.lives) (take passed found) (drop passed found) c.loop-passed.invariant.walked in
    omega (arith, few, length-taken passed found c.loop-passed.invariant.within)

pub loop-passed-preserved : goal.loop-passed-preserved
loop-passed-preserved c =
    let old = c.args.objects.now in
    let home = c.args.home in
    let found = c.loop-passed.found.items in
    let passed = c.loop-passed.passed in
    let done : List ℕ = take passed found in
    let next : ℕ = c.index-next.result.now in
    let below : passed < length found = omega (arith, c.loop-passed-test.true, c.len.ensures) in
    let children : children_of c.loop-passed.objects next ≡ children_of old next =
    ap (λ (objects : List Object). children_of objects next) c.loop-passed.invariant.moved ∙ children-in_loop home done next old in
    let more : c.rehouse.new.list.items ≡ found ++ children_of old next = (rw c.in-Ok.is at c.rehouse.ensures.list) ∙ ap (λ (ks : List ℕ). found ++ ks) children in
    let long : length c.rehouse.new.list.items ≡ length found + length (children_of old next) = ap (λ (ks : List ℕ). length ks) more ∙ length-append found (children_of old next) in
    record {
      within = omega (arith, below, long);
      walked = subst (λ (ks : List ℕ). WalkedUpto old c.args.object (passed + 1) ks) (sym more)
          (walk-next old c.requires.forest c.args.object passed found next below c.index-next.ensures c.loop-passed.invariant.walked);
      moved = (rw c.in-Ok.is at c.rehouse.ensures.ok)
          ∙ ap (λ (objects : List Object). all_in_loop (next ∷ []) home objects) c.loop-passed.invariant.moved
          ∙ sym (in_loop-append home done (next ∷ []) old)
          ∙ ap (λ (ks : List ℕ). all_in_loop ks home old) (sym (ap (λ (ks : List ℕ). take (passed + 1) ks) more ∙ take-next passed found (children_of old next) next below c.index-next.ensures));
    }

pub returns-clause-below : goal.returns-clause-below
returns-clause-below c =
    let past : length c.loop-passed.found.items ≤ c.loop-passed.passed = omega (arith, c.loop-passed-test.false, c.len.ensures) in
    walk-stops c.args.objects.now c.args.object c.loop-passed.passed c.loop-passed.found.items past c.loop-passed.invariant.walked

pub returns-clause-moved : goal.returns-clause-moved
returns-clause-moved c =
    let found = c.loop-passed.found.items in
    let past : length found ≤ c.loop-passed.passed = omega (arith, c.loop-passed-test.false, c.len.ensures) in
    c.loop-passed.invariant.moved ∙ ap (λ (ks : List ℕ). all_in_loop ks c.args.home c.args.objects.now) (take-past c.loop-passed.passed found past)

pub returns-clause-back : goal.returns-clause-back
returns-clause-back c =
    let old = c.args.objects.now in
    let found = c.loop-passed.found.items in
    let passed = c.loop-passed.passed in
    let past : length found ≤ passed = omega (arith, c.loop-passed-test.false, c.len.ensures) in
    let moved : c.loop-passed.objects ≡ all_in_loop found c.args.home old = c.loop-passed.invariant.moved ∙ ap (λ (ks : List ℕ). all_in_loop ks c.args.home old) (take-past passed found past) in
    let below = walk-stops old c.args.object passed found past c.loop-passed.invariant.walked in
    ap (λ (objects : List Object). all_in_loop found c.args.from objects) moved
    ∙ back-in_loop c.args.from c.args.home found old (λ k e. home-below old c.args.object c.args.from c.requires.forest c.requires.lives ((below.all k).0 e))

pub returns-in-Err-clause-err : goal.returns-in-Err-clause-err
returns-in-Err-clause-err c =
    let old = c.args.objects.now in
    let found = c.loop-passed.found.items in
    let passed = c.loop-passed.passed in
    let done : List ℕ = take passed found in
    let same : c.deref.result.now ≡ found = c.deref.ensures.value ∙ c.in-Err.ensures.err_list in
    let now : c.rehouse.new.self ≡ all_in_loop done c.args.home old = c.in-Err.ensures.err ∙ c.loop-passed.invariant.moved in
    c.set_homes.ensures
    ∙ ap (λ (ks : List ℕ). all_in_loop (take passed ks) c.args.from c.rehouse.new.self) same
    ∙ ap (λ (objects : List Object). all_in_loop done c.args.from objects) now
    ∙ back-in_loop c.args.from c.args.home done old
    (λ k e. home-below old c.args.object c.args.from c.requires.forest c.requires.lives (walk-passed old c.args.object passed found c.loop-passed.invariant.walked k e))
