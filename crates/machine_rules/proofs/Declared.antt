-- What methods of objects take, which may be dead by now.
use Rattle.std.proofs.Common.{◌≡◌, ℕ, List, ◌++◌, Some, slice_get, refl, sym, ap, ◌∙◌, subst}
use Rattle.std.proofs.lemmas.Option.{same_Some}
use Rattle.basic_types.specs.declared.value.Value.{Value}
use Rattle.meta_model.specs.declared.object.MetaMethod.{MetaMethod}
use Rattle.meta_model.specs.declared.object.ValueType.{ValueType}
use Rattle.meta_model.specs.declared.qobject.TheConstants.{DESTROYED}
use Rattle.meta_model.specs.Loaded.{Loaded}
use Rattle.meta_model.specs.Members.{IsMethod}
use Rattle.meta_model.specs.Root.{root_methods}
use Rattle.meta_model.specs.Sound.{IsSound}
use Rattle.object_tree.specs.declared.life.Life.{Life}
use Rattle.object_tree.specs.declared.object.Object.{Object}
use Rattle.object_tree.specs.Objects.{Lives}
use Rattle.object_tree.specs.Typed.{ReadAs}
use Rattle.machine_rules.specs.Good.{ArgumentsFit, EmissionFits, of_living, of_dead, destroyed_types}
use Rattle.machine_rules.specs.code.Sound.{Receives, Sends, ReceivesThese, SendsThese}
use Rattle.machine_rules.specs.There.{IsMember}
use Rattle.machine_rules.proofs.Dying.{lives-created, dead-created, lives-not-dead}
use Rattle.machine_rules.proofs.Fields.{life-unique}

-- `destroyed(QObject*)` takes one type of argument, in every class
destroyed-takes : {p : Loaded} {c m : ℕ} {method : MetaMethod} → IsSound p → IsMethod p c m method → m ≡ DESTROYED → method.types ≡ destroyed_types
destroyed-takes {c = c} {method = method} sound is e =
    let begins = (sound.classes c is.class is.is_class).begins in
    let first : slice_get is.class.methods DESTROYED ≡ Some method = ap (λ (n : ℕ). slice_get is.class.methods n) (sym e) ∙ is.is in
    let found : slice_get (root_methods ++ begins.own_methods) DESTROYED ≡ Some method = ap (λ (ms : List MetaMethod). slice_get ms DESTROYED) (sym begins.methods) ∙ first in
    ap (λ (m : MetaMethod). m.types) (sym (same_Some _ _ found))

-- ---- a living object's method

pub member-takes : {p : Loaded} {objects : List Object} {o m : ℕ} {x : Object} {method : MetaMethod} → IsMember p objects o m x method → Receives p objects o m method.types
member-takes {p} {m = m} {method = method} is = record {
  created = lives-created is.lives;
  living = λ y l lives.
      let Methods : Life → Type 0 = λ k. IsMethod p k.class m method in
      record { method = method; is = subst Methods (life-unique is.lives lives) is.is_method; takes = refl };
}

pub member-sends : {p : Loaded} {objects : List Object} {o g : ℕ} {x : Object} {method : MetaMethod} → IsSound p → IsMember p objects o g x method → Sends p objects o g method.types
member-sends sound is = record { takes = member-takes is; last = destroyed-takes sound is.is_method }

pub fit-takes : {p : Loaded} {objects : List Object} {o m : ℕ} {arguments : List Value} → ArgumentsFit p objects o m arguments → ReceivesThese p objects o m arguments
fit-takes fit = record { types = fit.method.types; takes = member-takes fit.is; typed = fit.typed }

pub fit-sends : {p : Loaded} {objects : List Object} {o g : ℕ} {arguments : List Value} → IsSound p → ArgumentsFit p objects o g arguments → SendsThese p objects o g arguments
fit-sends sound fit = record { types = fit.method.types; sends = member-sends sound fit.is; typed = fit.typed }

-- what is emitted takes its arguments
pub emission-sends : {p : Loaded} {objects : List Object} {o g : ℕ} {arguments : List Value} → IsSound p → EmissionFits p objects o g arguments → SendsThese p objects o g arguments
emission-sends sound (of_living fit) = fit-sends sound fit
emission-sends {objects = objects} {o = o} sound (of_dead gone is typed) = record {
  types = destroyed_types;
  sends = record { takes = record { created = dead-created objects o gone; living = λ x l lives. absurd (lives-not-dead lives gone) }; last = λ e. refl };
  typed = typed;
}

-- ---- what a living object's method takes

pub living-fits : {p : Loaded} {objects : List Object} {o m : ℕ} {x : Object} {l : Life} {arguments : List Value} → Lives objects o x l → ReceivesThese p objects o m arguments → ArgumentsFit p objects o m arguments
living-fits {p} {objects} {x = x} {l = l} {arguments = arguments} lives t =
    let d = t.takes.living x l lives in
    record {
      object = x;
      method = d.method;
      is = record { life = l; lives = lives; is_method = d.is };
      typed = subst (λ (types : List ValueType). ReadAs p objects arguments types) (sym d.takes) t.typed;
    }
