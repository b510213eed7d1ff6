-- What a connection delivers.
use Rattle.std.{proofs.Common.{◌≡◌, ℕ, ◌+◌, ◌-◌, inl, inr, true, List, ◌++◌, length, take, Option, None, Some, refl, sym, ap, ◌∙◌, subst, ◌≢◌}, specs.List.{AllByRecursion}, specs.Prelude.{is_some}}
use Rattle.basic_types.specs.declared.value.Value.{Value}
use Rattle.meta_model.specs.{declared.object.MetaMethod.{MetaMethod}, declared.object.ValueType.{ValueType}, Loaded.{Loaded}, declared.qobject.TheConstants.{DESTROYED}}
use Rattle.connections.specs.declared.connection.Connection.{Connection}
use Rattle.object_tree.{specs.Objects.{Lives, life_of}, proofs.Changing.{lives-of-life}, specs.declared.life.Life.{Life}, specs.declared.object.Object.{Object}, specs.Typed.{ReadAs}}
use Rattle.machine_state.{specs.Connections.{is_living, next_used}, proofs.Due.{used-among, used-due, used-living}}
use Rattle.machine_rules.{specs.Good.{ArgumentsFit}, specs.code.Sound.{Sends, SendsThese, Joined, IsDelivered, MayBeHeard}, specs.There.{IsMember, IsDead}, proofs.Dying.{lives-or-dead}, proofs.Fields.{member-method, method-unique, read-front}}

pub fit-of : {p : Loaded} {objects : List Object} {o m : ℕ} {x : Object} {method : MetaMethod} {arguments : List Value} → IsMember p objects o m x method → ReadAs p objects arguments method.types → ArgumentsFit p objects o m arguments
fit-of {x = x} {method = method} is typed = record { object = x; method = method; is = is; typed = typed }

-- ---- connections

-- a signal that is heard has one list of types
heard-types : {p : Loaded} (objects : List Object) (o g : ℕ) {a b : List ValueType} → Sends p objects o g a → Sends p objects o g b → (IsDead objects o → g ≡ DESTROYED) → a ≡ b
heard-types {p} objects o g {a} {b} x y last_one = elim (lives-or-dead objects o x.takes.created) as (λ h. a ≡ b) [
  | inl there ↦
      let first = x.takes.living there.0 there.1 there.2 in
      let second = y.takes.living there.0 there.1 there.2 in
      sym first.takes ∙ ap (λ (k : MetaMethod). k.types) (method-unique first.is second.is) ∙ second.takes
  | inr gone ↦ x.last (last_one gone) ∙ sym (y.last (last_one gone))
]

-- what lives has a life
pub has-life : (objects : List Object) (o : ℕ) → is_living objects o ≡ true → (x : Object) × (l : Life) × Lives objects o x l
has-life objects o e = by_life (life_of objects o) refl e
  where
    by_life : (there : Option Life) → life_of objects o ≡ there → is_some there ≡ true → (x : Object) × (l : Life) × Lives objects o x l
    by_life None is f = absurd (cc f)
    by_life (Some l) is f = let there = lives-of-life objects o l is in (there.0, l, there.1)

-- the next connection's receiver lives, and its method takes the first of the emission's arguments
pub next-delivered : {p : Loaded} {objects : List Object} {arguments : List Value} (connections : List Connection) (o g used last : ℕ) (c : Connection) → AllByRecursion (Joined p objects) connections → SendsThese p objects o g arguments → MayBeHeard objects connections o g → next_used objects connections o g used last ≡ Some c → IsDelivered p objects c arguments
next-delivered {p} {objects} {arguments} connections o g used last c all emitted may found =
    let j : Joined p objects c = used-among (Joined p objects) objects connections o g used last c all found in
    let is = (used-due objects connections o g used last c found).0 in
    let sends : Sends p objects o g (j.types ++ j.rest) =
    subst (λ (n : ℕ). Sends p objects o n (j.types ++ j.rest)) is.1 (subst (λ (n : ℕ). Sends p objects n c.signal (j.types ++ j.rest)) is.0 j.sends) in
    let last_one : IsDead objects o → g ≡ DESTROYED = λ gone. elim may as (λ h. g ≡ DESTROYED) [
      | inl is_last ↦ is_last
      | inr quiet ↦ absurd (used-among (λ (d : Connection). d.sender ≢ o) objects connections o g used last c (quiet gone) found is.0)
    ] in
    let same : emitted.types ≡ j.types ++ j.rest = heard-types objects o g emitted.sends sends last_one in
    let split : ReadAs p objects arguments (j.types ++ j.rest) = subst (λ (l : List ValueType). ReadAs p objects arguments l) same emitted.typed in
    let front : ReadAs p objects (take (length j.types) arguments) j.types = read-front p objects arguments j.types j.rest split in
    let receiver = has-life objects c.receiver (used-living objects connections o g used last c found) in
    let declared = j.receives.living receiver.0 receiver.1 receiver.2 in
    record {
      receiver = receiver.0;
      method = declared.method;
      is = record { life = receiver.1; lives = receiver.2; is_method = declared.is };
      typed = subst (λ (l : List ValueType). ReadAs p objects (take (length l) arguments) l) (sym declared.takes) front;
    }

-- .. which are those that it is given
pub delivered-fits : {p : Loaded} {objects : List Object} {c : Connection} {x : Object} {method : MetaMethod} {arguments taken : List Value} {count : ℕ} → IsDelivered p objects c arguments → IsMember p objects c.receiver c.method x method → taken ≡ take count arguments → count ≡ length method.types → ArgumentsFit p objects c.receiver c.method taken
delivered-fits {p} {objects} {c} {x} {method} {arguments} {taken} d is cut count_is =
    let same : method ≡ d.method = member-method is d.is in
    let taken_is : taken ≡ take (length d.method.types) arguments = cut ∙ ap (λ (n : ℕ). take n arguments) count_is ∙ ap (λ (k : MetaMethod). take (length k.types) arguments) same in
    subst (λ (l : List Value). ArgumentsFit p objects c.receiver c.method l) (sym taken_is) (fit-of d.is d.typed)
