-- What a connect or a disconnect names.
use Rattle.std.proofs.Common.{◌≡◌, ℕ, List, Err, subst}
use Rattle.basic_types.specs.declared.sig.Sig.{Sig}
use Rattle.syntax_trees.specs.declared.connection.Endpoints.{Endpoints as Named}
use Rattle.meta_model.specs.declared.object.MetaMethod.{MetaMethod}
use Rattle.meta_model.specs.declared.object.Work.TheVariants.{Signal}
use Rattle.meta_model.specs.Loaded.{Loaded}
use Rattle.meta_model.specs.Members.{IsMethod, HasSig}
use Rattle.object_tree.specs.declared.life.Life.{Life}
use Rattle.object_tree.specs.declared.object.Object.{Object}
use Rattle.trace_entries.specs.declared.refusal.Refusal.TheVariants.{NoMember}
use Rattle.machine_rules.proofs.Fields.{method-unique}
use Rattle.machine_rules.specs.Judgement.{Numbered, found, missing, gives, goes_on, ends}
use Rattle.machine_rules.specs.Connecting.{named_signal}
use Rattle.object_machine.specs.Events.{find_ends, IsSignalOf}
use Rattle.object_machine.specs.code.Judgement.{FindsEnds, IsLiving}
use Rattle.object_machine.proofs.Judging.Naming.{living-ok}

-- a look-up's only answer isn't a signal, so none is
pub not-signal : {p : Loaded} {class number : ℕ} {sig : Sig} {it : MetaMethod} → ((j : ℕ) → HasSig p class sig j → j ≡ number) → IsMethod p class number it → (it.work ≡ Signal → ⊥) → (g : ℕ) → IsSignalOf p class sig g → ⊥
not-signal {p} {class} {number} {sig} {it} only at unlike g is =
    let there_too : IsMethod p class number is.0.method = subst (λ (k : ℕ). IsMethod p class k is.0.method) (only g is.0) is.0.is in
    unlike (subst (λ (k : MetaMethod). k.work ≡ Signal) (method-unique there_too at) is.1)

-- .. and where it is one, it is the class's signal of this signature
pub is-signal : {p : Loaded} {class number : ℕ} {sig : Sig} {it : MetaMethod} → HasSig p class sig number → IsMethod p class number it → it.work ≡ Signal → IsSignalOf p class sig number
is-signal has at work = (has, subst (λ (k : MetaMethod). k.work ≡ Signal) (method-unique at has.is) work)

module _ (p : Loaded) (objects : List Object) (e : Named (List ℕ)) (a b : Numbered Life) (sender : IsLiving objects e.sender a) (receiver : IsLiving objects e.receiver b) where
  pub no-signal : ((g : ℕ) → ¬ IsSignalOf p a.it.class e.signal g) → find_ends p objects e (Err NoMember)
  no-signal none = goes_on a (living-ok a sender) (goes_on b (living-ok b receiver) (ends (missing none)))

  module _ (g : ℕ) (signal : IsSignalOf p a.it.class e.signal g) where
    pub no-method : ((m : ℕ) → ¬ HasSig p b.it.class e.method m) → find_ends p objects e (Err NoMember)
    no-method none =
        goes_on a (living-ok a sender) (goes_on b (living-ok b receiver) (goes_on g (found signal)
        (ends (missing none))))

    pub finds-ends : {number : ℕ} → HasSig p b.it.class e.method number →
        FindsEnds p objects e (record { from = a.it.class; to = b.it.class; ends = record { sender = a.number; signal = named_signal g; receiver = b.number; method = number } })
    finds-ends {number} has =
        goes_on a (living-ok a sender) (goes_on b (living-ok b receiver) (goes_on g (found signal) (goes_on number (found has) gives)))
