use Rattle.std.proofs.Common.{◌≡◌, ℕ, List, Option, None, Some, sym, ◌∙◌, subst, MatchOption}
use Rattle.std.proofs.lemmas.Option.{same_Some}
use Rattle.object_tree.specs.declared.object.Object.{Object}
use Rattle.object_tree.specs.Family.{IsChild, IsChildless}
use Rattle.delete_later.specs.Ending.{last_of, IsNext, NoneIsNext}
use Rattle.delete_later.proofs.store.Store.next_to_end.Goals as goal

-- the next one is a child of the last one of the list
of_last : (objects : List Object) (torn : List ℕ) (last : ℕ) → last_of torn ≡ Some last → (next : Option ℕ) → MatchOption next (IsChildless objects last) (IsChild objects last) → MatchOption next (NoneIsNext objects torn) (IsNext objects torn)
of_last objects torn last is None childless = λ parent also.
    let Childless : ℕ → Type 0 = IsChildless objects in
    subst Childless (same_Some _ _ (sym is ∙ also)) childless
of_last objects torn last is (Some next) child = record { parent = last; last = is; child = child }

pub returns-in-Some-clause-lives : goal.returns-in-Some-clause-lives
returns-in-Some-clause-lives c =
    of_last c.args.self.now.tree c.args.torn.now c.in-Some.last.now (sym c.in-Some.ensures.value) c.first_child.result c.first_child.ensures.lives
