-- Objects that events name.
use Rattle.std.proofs.Common.{◌≡◌, ℕ, List, [], ◌∷◌, ◌++◌, None, Ok, Err}
use Rattle.object_tree.specs.declared.life.Life.{Life}
use Rattle.object_tree.specs.declared.object.Object.{Object}
use Rattle.object_tree.specs.Objects.{Lives, IsNamed, IsFree, life_of}
use Rattle.object_tree.proofs.Changing.{lives-of-life}
use Rattle.trace_entries.specs.declared.refusal.Refusal.TheVariants.{NoObject, Dead}
use Rattle.machine_rules.specs.Judgement.{Numbered, found, missing, gives, goes_on, ends}
use Rattle.object_machine.specs.declared.not_accepted.NotAccepted.{NotAccepted}
use Rattle.object_machine.specs.code.Judgement.{IsNotAccepted, IsLiving}
use Rattle.object_machine.specs.Events.{living, all_living}
use Rattle.object_machine.proofs.Judged.{then-ends, then-on}

pub living-ok : {objects : List Object} {name : List ℕ} (o : Numbered Life) → IsLiving objects name o → living objects name (Ok o)
living-ok o x = goes_on o.number (found x.named) (goes_on o.it (found x.lives) gives)

pub living-free : {objects : List Object} {name : List ℕ} → IsFree objects name → living objects name (Err NoObject)
living-free free = ends (missing (λ o is. free o is.named))

pub living-dead : {objects : List Object} {name : List ℕ} (o : ℕ) → IsNamed objects name o → life_of objects o ≡ None → living objects name (Err Dead)
living-dead o is dead = goes_on o (found is) (ends (missing (λ l lives. cc (dead, lives))))

pub living-is : {objects : List Object} {name : List ℕ} {o : Numbered Life} → living objects name (Ok o) → IsLiving objects name o
living-is (goes_on _ (found named) (goes_on _ (found lives) gives)) = record { named = named; lives = lives }

-- an object that has the life
pub living-object : {objects : List Object} {name : List ℕ} (o : Numbered Life) → IsLiving objects name o → (x : Object) × Lives objects o.number x o.it
living-object {objects} o x = lives-of-life objects o.number o.it x.lives

-- ---- several of them

-- one more object
pub living-snoc : (objects : List Object) (front : List (List ℕ)) (os : List ℕ) (name : List ℕ) (o : Numbered Life) → all_living objects front (Ok os) → living objects name (Ok o) → all_living objects (front ++ name ∷ []) (Ok (os ++ o.number ∷ []))
living-snoc objects [] os name o gives x = goes_on o.number (goes_on o x gives) (goes_on [] gives gives)
living-snoc objects (other ∷ front) os name o (goes_on u a (goes_on us b gives)) x = goes_on u a (goes_on (us ++ o.number ∷ []) (living-snoc objects front us name o b x) gives)

-- one that isn't accepted behind those that are
pub living-end : (objects : List Object) (front : List (List ℕ)) (os : List ℕ) (name : List ℕ) (rest : List (List ℕ)) (n : NotAccepted) → all_living objects front (Ok os) → IsNotAccepted (living objects name) n → IsNotAccepted (all_living objects (front ++ name ∷ rest)) n
living-end objects [] os name rest n a x = then-ends (then-ends x)
living-end objects (other ∷ front) os name rest n (goes_on u a (goes_on us b gives)) x = then-on u a (then-ends (living-end objects front us name rest n b x))
