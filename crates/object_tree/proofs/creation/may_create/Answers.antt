use Rattle.std.proofs.Common.{◌≡◌, ◌<◌, ◌≤◌, ℕ, List, None, All, length, arith, sym, subst, ◌∙◌}
use Rattle.std.specs.Prelude.{slice_get}
use Rattle.meta_model.specs.declared.object.MetaProperty.{MetaProperty}
use Rattle.meta_model.specs.Loaded.{Loaded}
use Rattle.object_tree.specs.declared.object.Object.{Object}
use Rattle.object_tree.specs.Creating.{name_used, no_class, too_many, bad_type, most_objects, BeginsAs}
use Rattle.object_tree.proofs.Above.{false-not, true-so}
use Rattle.object_tree.proofs.Keeping.{used-named, unused-free}
use Rattle.object_tree.proofs.creation.may_create.Goals as goal

-- the same properties begin as well
well : {p : Loaded} {qs rs : List MetaProperty} → (objects : List Object) (number : ℕ) → qs ≡ rs → All (BeginsAs p objects number) qs → All (BeginsAs p objects number) rs
well {p} objects number e begins = subst (λ (ps : List MetaProperty). All (BeginsAs p objects number) ps) e begins

pub returns-then-is_some-clause-not : goal.returns-then-is_some-clause-not
returns-then-is_some-clause-not c =
    let used = used-named c.args.objects.now c.args.name.now c.find.result c.requires c.find.ensures (sym c.is_some.ensures ∙ c.if-is_some.true) in
    name_used used.1

pub returns-in_default-clause-not : goal.returns-in_default-clause-not
returns-in_default-clause-not c =
    no_class (unused-free c.args.objects.now c.args.name.now c.find.result c.requires c.find.ensures (sym c.is_some.ensures ∙ c.if-is_some.false)) c.in_default.ensures.value

pub returns-then-len-ge-MOST_OBJECTS-clause-not : goal.returns-then-len-ge-MOST_OBJECTS-clause-not
returns-then-len-ge-MOST_OBJECTS-clause-not c =
    let full : most_objects ≤ length c.args.objects.now = omega arith in
    too_many (unused-free c.args.objects.now c.args.name.now c.find.result c.requires c.find.ensures (sym c.is_some.ensures ∙ c.if-is_some.false)) c.in-Some.ensures.value full

pub returns-in_default-object-clause-not : goal.returns-in_default-object-clause-not
returns-in_default-object-clause-not c =
    let none : slice_get c.args.meta.now.classes c.in-Some.number ≡ None = sym c.in_default-object.ensures.value in
    let some = c.in-Some.ensures.value.is.is in
    absurd (cc (none, some))

pub returns-then-begin_well-clause-may : goal.returns-then-begin_well-clause-may
returns-then-begin_well-clause-may c = record {
  free = unused-free c.args.objects.now c.args.name.now c.find.result c.requires c.find.ensures (sym c.is_some.ensures ∙ c.if-is_some.false);
  named = c.in-Some.ensures.value;
  is = record { is = sym c.in-Some-object.ensures.value };
  room = omega arith;
  begins = well _ _ c.as_slice.ensures (true-so c.begin_well.ensures c.if-begin_well.true);
}

pub returns-else-begin_well-clause-not : goal.returns-else-begin_well-clause-not
returns-else-begin_well-clause-not c =
    let room : length c.args.objects.now < most_objects = omega arith in
    bad_type (unused-free c.args.objects.now c.args.name.now c.find.result c.requires c.find.ensures (sym c.is_some.ensures ∙ c.if-is_some.false)) c.in-Some.ensures.value (record { is = sym c.in-Some-object.ensures.value }) room
    (λ begins. false-not c.begin_well.ensures c.if-begin_well.false (well _ _ (sym c.as_slice.ensures) begins))
