use Rattle.std.proofs.Common.{ℕ, ◌≤◌, List, length, refl, sym, subst, ◌∷◌, [], ◌≡◌, map}
use Rattle.std.specs.Prelude.{codes}
use Rattle.std.proofs.lemmas.Option.{none-some}
use Rattle.syntax_trees.specs.declared.program.Class.{Class}
use Rattle.class_outlines.specs.declared.outline.Outline.{Outline}
use Rattle.class_outlines.specs.declared.offence.Declaration.TheVariants as declaration
use Rattle.class_outlines.specs.Bases.{LacksBase}
use Rattle.class_outlines.specs.Outlines.{Outlines, qobject, base_name}
use Rattle.name_indexes.specs.Places.{StandsAt}
use Rattle.class_outlines.specs.declared.fault.MetaFault.TheVariants as fault
use Rattle.class_outlines.proofs.Loading.{stops_at}
use Rattle.class_outlines.proofs.Offending.{item_at, within}
use Rattle.class_outlines.proofs.OutlineSteps.{step_outlined, step_lacks, none_lacks, at_end}
use Rattle.class_outlines.proofs.outlining.outline_classes.Goals as goal

pub loop-number-init : goal.loop-number-init
loop-number-init c =
    let e : c.add.new.outlines.items ≡ qobject ∷ [] = cc (c.in_ok-add.ensures, c.in_ok-first.ensures, c.new-outlines.ensures.items) in
    record {
      so_far = subst (λ os. Outlines [] os) (sym e) (record { root = refl; counted = refl; classes = λ i x f. absurd (none-some x f) });
      lacks = λ h. subst (λ os. LacksBase (map (λ (o : Outline). o.name) os) c.args.program.now.classes) e h;
    }

pub loop-number-preserved : goal.loop-number-preserved
loop-number-preserved c =
    let at = item_at (λ (x : Class). Unit {0}) c.args.program.now.classes c.as_slice-classes.result.now c.as_slice-classes.ensures c.loop-number.number c.index-classes-number.result c.loop-number-test.true c.index-classes-number.is in
    let is = rw c.as_slice.ensures.value at c.in-Ok.ensures in
    record {
      so_far = step_outlined _ _ _ _ _ _ at is c.in_ok-add-in-Ok.ensures c.loop-number.invariant.so_far;
      lacks = step_lacks _ _ _ _ _ _ _ at is c.in_ok-add-in-Ok.ensures c.loop-number.invariant.lacks;
    }

pub returns-in-Err : goal.returns-in-Err
returns-in-Err c =
    let at = item_at (λ (x : Class). Unit {0}) c.args.program.now.classes c.as_slice-classes.result.now c.as_slice-classes.ensures c.loop-number.number c.index-classes-number.result c.loop-number-test.true c.index-classes-number.is in
    stops_at c.args.program.now fault.NoBase ((k : ℕ) → ¬ StandsAt (λ (o : Outline). o.name ≡ base_name c.index-classes-number.result.base) c.as_slice.result.now k) (LacksBase (codes "QObject" ∷ []) c.args.program.now.classes)
    (declaration.Class c.loop-number.number)
    (within (λ (x : Class). Unit {0}) c.args.program.now.classes c.as_slice-classes.result.now c.as_slice-classes.ensures c.loop-number.number c.loop-number-test.true)
    c.in-Err.fault c.in-Err.ensures
    (λ none. none_lacks c.args.program.now.classes (LacksBase (codes "QObject" ∷ []) c.args.program.now.classes) c.loop-number.outlines.items c.loop-number.number c.index-classes-number.result at c.loop-number.invariant.lacks (rw c.as_slice.ensures.value at none))
    c.of.result c.of.ensures

pub returns : goal.returns
returns c =
    let past = subst (λ (cs : List Class). length cs ≤ c.loop-number.number) c.as_slice-classes.ensures c.loop-number-test.false in
    at_end _ _ _ past c.loop-number.invariant.so_far
