-- The class that is indexed next.
use Rattle.std.proofs.Common.{◌≡◌, List, [], ◌∷◌, ◌++◌, length, take, slice_get, Some, Any, refl, sym, ◌∙◌, subst, arith}
use Rattle.std.proofs.lemmas.List.{take-append-le, take_all}
use Rattle.std.proofs.lemmas.Option.{none-some, same_Some}
use Rattle.syntax_trees.specs.declared.program.Program.{Program}
use Rattle.class_outlines.specs.declared.outline.Outline.{Outline}
use Rattle.class_outlines.specs.Clashes.{HasTwoMembers}
use Rattle.class_outlines.specs.Outlines.{Outlines}
use Rattle.name_indexes.specs.Places.{NoneStands}
use Rattle.class_outlines.specs.code.OwnMembers.{IsNext}
use Rattle.name_indexes.proofs.Zips.{any_of, place_of_any}

-- what follows a list
pub get_behind : {X : Type 0} (xs ys : List X) (x : X) → slice_get (xs ++ x ∷ ys) (length xs) ≡ Some x
get_behind [] ys x = refl
get_behind (y ∷ xs) ys x = get_behind xs ys x

-- the next of those that are left
next_left : (program : Program) (all : List Outline) → Outlines program.classes all → (seen : List Outline) (o : Outline) (rest : List Outline) → seen ++ o ∷ rest ≡ all → NoneStands HasTwoMembers seen
    → (done : List Outline) → done ≡ seen → IsNext program done o
next_left program all outlined seen o rest split once done e =
    subst (λ (os : List Outline). IsNext program os o) (sym e)
    (record {
      all = all;
      outlined = outlined;
      is = subst (λ (os : List Outline). slice_get os (length seen) ≡ Some o) split (get_behind seen rest o);
      are = subst (λ (os : List Outline). take (length seen) os ≡ seen) split (take-append-le (length seen) seen (o ∷ rest) (omega arith) ∙ take_all (length seen) seen (omega arith));
      once = λ any. let at = place_of_any HasTwoMembers seen any in once at.0 at.1;
    })

pub is_next : (program : Program) (all : List Outline) → Outlines program.classes all → (seen left : List Outline) → seen ++ left ≡ all → (o : Outline) → slice_get left 0 ≡ Some o → NoneStands HasTwoMembers seen
    → (done : List Outline) → done ≡ seen → IsNext program done o
is_next program all outlined seen [] split o first once done e = absurd (none-some o first)
is_next program all outlined seen (x ∷ rest) split o first once done e =
    subst (λ (u : Outline). IsNext program done u) (same_Some _ _ first) (next_left program all outlined seen x rest split once done e)

pub two_of_all : (seen left all : List Outline) → seen ++ left ≡ all → (o : Outline) → slice_get left 0 ≡ Some o → HasTwoMembers o → Any HasTwoMembers all
two_of_all seen [] all split o first two = absurd (none-some o first)
two_of_all seen (x ∷ rest) all split o first two =
    any_of HasTwoMembers all (length seen) (record {
      item = x;
      is = subst (λ (os : List Outline). slice_get os (length seen) ≡ Some x) split (get_behind seen rest x);
      has = subst HasTwoMembers (sym (same_Some _ _ first)) two;
    })
