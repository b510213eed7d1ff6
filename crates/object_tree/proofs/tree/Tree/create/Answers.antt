use Rattle.std.proofs.Common.{◌≡◌, List, [], ◌∷◌, ◌++◌, length, refl, sym, ◌∙◌, ap, subst}
use Rattle.name_indexes.specs.NamePlaces.{Adds}
use Rattle.object_tree.specs.declared.object.Object.{Object}
use Rattle.object_tree.specs.Creating.{MayCreate, fresh, initial_values}
use Rattle.object_tree.specs.Held.{is_held}
use Rattle.object_tree.specs.code.Kept.{Kept}
use Rattle.object_tree.specs.Typed.{AreTyped}
use Rattle.object_tree.proofs.Errors.{creates-short}
use Rattle.object_tree.proofs.Keeping.{kept-created}
use Rattle.object_tree.proofs.TypedObjects.{typed-created}
use Rattle.object_tree.proofs.tree.Tree.create.Goals as goal

pub returns-in_err-object-clause-value : goal.returns-in_err-object-clause-value
returns-in_err-object-clause-value c = creates-short c.args.meta.now c.args.self.now _ c.args.name.now c.args.class.now c.args.home c.from_residual-in_err-object.result c.from_residual-in_err-object.ensures.1 refl

pub returns-in_err-add-clause-value : goal.returns-in_err-add-clause-value
returns-in_err-add-clause-value c = creates-short c.args.meta.now c.args.self.now _ c.args.name.now c.args.class.now c.args.home c.from_residual-in_err-add.result c.from_residual-in_err-add.ensures.1 (c.in_err-add.ensures.objects ∙ c.self.view_is)

pub returns-in_err-add-clause-typed : goal.returns-in_err-add-clause-typed
returns-in_err-add-clause-typed c = λ all.
    subst (λ (xs : List Object). AreTyped c.args.meta.now xs) (sym (c.in_err-add.ensures.objects ∙ c.self.view_is)) all

pub invariant_of-self-2 : goal.invariant_of-self-2
invariant_of-self-2 c =
    let objects : List Object = c.self.inside.objects in
    let made : Object = fresh c.args.name.now c.in_ok-number.number c.args.home (initial_values c.in_ok-number.kind.now) in
    let appended : c.add.new.self ≡ objects ++ made ∷ [] = c.in_ok-add.ensures.added ∙ ap (λ (z : Object). objects ++ z ∷ []) c.in_ok-object.ensures in
    subst (λ (xs : List Object). Kept c.add.new.names xs) (sym appended) (kept-created c.self.inside.names c.add.new.names objects made refl refl c.in_ok-number.ensures.may.free (subst (λ (z : Object). Adds z.name (length objects) c.self.inside.names c.add.new.names) c.in_ok-object.ensures c.in_ok-add.ensures.named) c.self.invariant)

pub returns-clause-value : goal.returns-clause-value
returns-clause-value c =
    let objects : List Object = c.self.inside.objects in
    record {
      number = c.in_ok-number.number;
      kind = c.in_ok-number.kind.now;
      may = subst (λ (xs : List Object). MayCreate c.args.meta.now xs c.args.name.now c.args.class.now c.in_ok-number.number c.in_ok-number.kind.now) c.self.view_is c.in_ok-number.ensures.may;
      last = c.new.ensures ∙ c.len-count.ensures ∙ ap (λ (xs : List Object). length xs) c.self.view_is;
      appended = c.in_ok-add.ensures.added ∙ ap (λ (z : Object). objects ++ z ∷ []) c.in_ok-object.ensures ∙ ap (λ (xs : List Object). xs ++ fresh c.args.name.now c.in_ok-number.number c.args.home (initial_values c.in_ok-number.kind.now) ∷ []) c.self.view_is;
    }

pub returns-clause-typed : goal.returns-clause-typed
returns-clause-typed c = λ all.
    let objects : List Object = c.self.inside.objects in
    let made : Object = fresh c.args.name.now c.in_ok-number.number c.args.home (initial_values c.in_ok-number.kind.now) in
    let appended : c.add.new.self ≡ objects ++ made ∷ [] = c.in_ok-add.ensures.added ∙ ap (λ (z : Object). objects ++ z ∷ []) c.in_ok-object.ensures in
    let before : AreTyped c.args.meta.now objects = subst (λ (xs : List Object). AreTyped c.args.meta.now xs) (sym c.self.view_is) all in
    subst (λ (xs : List Object). AreTyped c.args.meta.now xs) (sym appended) (typed-created c.args.meta.now objects c.args.name.now c.in_ok-number.number c.args.home c.in_ok-number.kind.now c.in_ok-number.ensures.may.is c.in_ok-number.ensures.may.begins before)

pub add-requires : goal.add-requires
add-requires c = ap (λ (z : Object). is_held z) c.in_ok-object.ensures
