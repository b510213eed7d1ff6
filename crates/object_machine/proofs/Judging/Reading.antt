-- Values that a script writes.
use Rattle.std.proofs.Common.{List, [], ◌∷◌, ◌++◌, Ok}
use Rattle.basic_types.specs.declared.value.Value.{Value}
use Rattle.script_lang.specs.declared.event.Input.{Input}
use Rattle.object_tree.specs.declared.object.Object.{Object}
use Rattle.object_machine.specs.declared.not_accepted.NotAccepted.{NotAccepted}
use Rattle.machine_rules.specs.Judgement.{gives, goes_on}
use Rattle.object_machine.specs.code.Judgement.{IsNotAccepted}
use Rattle.object_machine.specs.Events.{value, values}
use Rattle.object_machine.proofs.Judged.{then-ends, then-on}

-- one more value
pub values-snoc : (objects : List Object) (front : List Input) (vs : List Value) (i : Input) (v : Value) → values objects front (Ok vs) → value objects i (Ok v) → values objects (front ++ i ∷ []) (Ok (vs ++ v ∷ []))
values-snoc objects [] vs i v gives x = goes_on v x (goes_on [] gives gives)
values-snoc objects (j ∷ front) vs i v (goes_on u a (goes_on us b gives)) x = goes_on u a (goes_on (us ++ v ∷ []) (values-snoc objects front us i v b x) gives)

-- one that isn't accepted behind those that are
pub values-end : (objects : List Object) (front : List Input) (vs : List Value) (i : Input) (rest : List Input) (n : NotAccepted) → values objects front (Ok vs) → IsNotAccepted (value objects i) n → IsNotAccepted (values objects (front ++ i ∷ rest)) n
values-end objects [] vs i rest n a x = then-ends x
values-end objects (j ∷ front) vs i rest n (goes_on u a (goes_on us b gives)) x = then-on u a (then-ends (values-end objects front us i rest n b x))
