-- Objects with what the sets of a group have written so far.
use Rattle.std.proofs.Common.{◌≡◌, ℕ, List, [], ◌∷◌, ◌++◌, Option, None, Some, refl, ap, sym, ◌∙◌, append_assoc}
use Rattle.std.specs.Option.{option_map, option_and_then}
use Rattle.indexmap.specs.IndexMap.{IndexMap}
use Rattle.basic_types.specs.declared.value.Value.{Value}
use Rattle.basic_types.specs.declared.value.Value.TheVariants as value
use Rattle.meta_model.specs.declared.object.Statement.{Statement}
use Rattle.meta_model.specs.declared.object.Statement.TheViews.{out-Statement}
use Rattle.object_tree.specs.declared.object.Object.{Object}
use Rattle.object_tree.specs.Seen.{seen, seen_reference}
use Rattle.prop_bindings.specs.declared.plans.assignment.Assignment.{Assignment}
use Rattle.prop_bindings.specs.Plans.{assigned}
use Rattle.prop_bindings.proofs.AssignedValues.{assigned-differs}
use Rattle.prop_bindings.proofs.Alive.{seen-same}
use Rattle.machine_rules.specs.Operations.{after_set, set_in, sets_in}
use Rattle.run_context.specs.code.Scope.{overlaid}

-- values are seen as they are without it
pub overlaid-seen : {S : Type 0} (written : Option (IndexMap (ℕ × ℕ) Value S)) (objects : List Object) (v : Value) → seen objects v ≡ seen (overlaid written objects) v
overlaid-seen None objects v = refl
overlaid-seen (Some values) objects v = sym (seen-same objects (assigned values.entries objects) (assigned-differs values.entries objects) v)

-- .. and what references refer to
pub overlaid-reference : {S : Type 0} (written : Option (IndexMap (ℕ × ℕ) Value S)) (objects : List Object) (r : Option ℕ) → seen_reference objects r ≡ seen_reference (overlaid written objects) r
overlaid-reference written objects r =
    let both : value.Ref (seen_reference objects r) ≡ value.Ref (seen_reference (overlaid written objects) r) = overlaid-seen written objects (value.Ref r) in
    cc both

-- ---- the sets of a group, one after another

module _ (o : ℕ) (arguments : List Value) where
  -- what those that were done wrote, and what the others write after them
  abbrev pub continued : List (Option Assignment) → List Object → List Statement → Option (List (Option Assignment))
  continued found objects sets = option_map (λ (more : List (Option Assignment)). found ++ more) (sets_in objects o arguments sets)

  -- what follows a set that was done, or wasn't
  abbrev after_one : List (Option Assignment) → List Object → List Statement → Option (Option Assignment) → Option (List (Option Assignment))
  after_one found objects sets done =
      option_map (λ (more : List (Option Assignment)). found ++ more)
      (option_and_then (λ (first : Option Assignment). option_map (λ (more : List (Option Assignment)). first ∷ more) (sets_in (after_set first objects) o arguments sets)) done)

  append-map : (found : List (Option Assignment)) (x : Option Assignment) (r : Option (List (Option Assignment))) → option_map (λ (more : List (Option Assignment)). found ++ more) (option_map (λ (more : List (Option Assignment)). x ∷ more) r) ≡ option_map (λ (more : List (Option Assignment)). (found ++ x ∷ []) ++ more) r
  append-map found x None = refl
  append-map found x (Some more) = ap (λ (l : List (Option Assignment)). Some l) (sym (append_assoc found (x ∷ []) more))

  -- the next one is done
  pub continued-next : (found : List (Option Assignment)) (objects : List Object) (s : Statement) (sets : List Statement) (done : Option Assignment) → set_in objects o arguments (out-Statement s) ≡ Some done → continued found objects (s ∷ sets) ≡ continued (found ++ done ∷ []) (after_set done objects) sets
  continued-next found objects s sets done is =
      ap (after_one found objects sets) is ∙ append-map found done (sets_in (after_set done objects) o arguments sets)

  -- .. or lacks a value
  pub continued-lacks : (found : List (Option Assignment)) (objects : List Object) (s : Statement) (sets : List Statement) → set_in objects o arguments (out-Statement s) ≡ None → continued found objects (s ∷ sets) ≡ None
  continued-lacks found objects s sets none = ap (after_one found objects sets) none

  none-left : (found : List (Option Assignment)) → found ++ [] ≡ found
  none-left [] = refl
  none-left (x ∷ found) = ap (λ (l : List (Option Assignment)). x ∷ l) (none-left found)

  pub continued-none : (found : List (Option Assignment)) (objects : List Object) → continued found objects [] ≡ Some found
  continued-none found objects = ap (λ (l : List (Option Assignment)). Some l) (none-left found)

  pub continued-first : (objects : List Object) (sets : List Statement) → continued [] objects sets ≡ sets_in objects o arguments sets
  continued-first objects sets = same (sets_in objects o arguments sets)
    where
      same : (r : Option (List (Option Assignment))) → option_map (λ (more : List (Option Assignment)). [] ++ more) r ≡ r
      same None = refl
      same (Some more) = refl
