-- Classes above a class, and the members that it has from them.
use Rattle.std.proofs.Common.{◌≡◌, ◌⊎◌, inl, inr, ℕ, zero, suc, List, [], ◌∷◌, ◌++◌, length, Option, Some, None, slice_get, refl, sym, ap, ◌∙◌, subst}
use Rattle.std.specs.Option.{option_and_then}
use Rattle.std.proofs.lemmas.Option.{none-some, same_Some}
use Rattle.basic_types.specs.declared.sig.Sig.{Sig}
use Rattle.meta_model.specs.declared.object.MetaMethod.{MetaMethod}
use Rattle.meta_model.specs.declared.object.MetaObject.{MetaObject}
use Rattle.meta_model.specs.Loaded.{Loaded}
use Rattle.meta_model.specs.Members.{IsClass, IsMethod, HasSig, Below, same, under}
use Rattle.meta_model.specs.Sound.{IsSound}

-- a class whose base is known is there
based : (found : Option MetaObject) (b : ℕ) → option_and_then (λ (class : MetaObject). class.base) found ≡ Some b → (class : MetaObject) × (found ≡ Some class) × (class.base ≡ Some b)
based None b e = absurd (none-some b e)
based (Some class) b e = (class, refl, e)

pub below-of-below : {p : Loaded} {c d e : ℕ} → Below p c d → Below p d e → Below p c e
below-of-below (same is) rest = rest
below-of-below (under b first) rest = under b (below-of-below first rest)

-- of two classes above one the one is above the other
pub meet : {p : Loaded} {c a b : ℕ} → Below p c a → Below p c b → Below p a b ⊎ Below p b a
meet (same is) other = inl other
meet (under e first) (same is) = inr (under e first)
meet {p} {a = a} {b = b} (under {b = x} e first) (under {b = y} f other) =
    let one : x ≡ y = same_Some _ _ (sym e ∙ f) in
    meet first (subst (λ (k : ℕ). Below p k b) (sym one) other)

class-same : {p : Loaded} {c : ℕ} {a b : MetaObject} → IsClass p c a → IsClass p c b → a ≡ b
class-same here there = same_Some _ _ (sym here.is ∙ there.is)

got-front : {X : Type 0} (xs ys : List X) (n : ℕ) (x : X) → slice_get xs n ≡ Some x → slice_get (xs ++ ys) n ≡ Some x
got-front [] ys n x e = absurd (none-some x e)
got-front (y ∷ xs) ys zero x e = e
got-front (y ∷ xs) ys (suc n) x e = got-front xs ys n x e

-- what a class has, those below it have
pub method-below : {p : Loaded} {d c m : ℕ} {method : MetaMethod} → IsSound p → Below p d c → IsMethod p c m method → IsMethod p d m method
method-below sound (same there) is = is
method-below {p} {d} {m = m} {method = method} sound (under {b = b} e rest) is =
    let found = based (slice_get p.classes d) b e in
    let is_class : IsClass p d found.0 = record { is = found.1 } in
    let above = (sound.classes d found.0 is_class).under b found.2 in
    let at_base = method-below sound rest is in
    let there : slice_get above.base.methods m ≡ Some method = sym (ap (λ (k : MetaObject). slice_get k.methods m) (class-same at_base.is_class above.is)) ∙ at_base.is in
    record {
      class = found.0;
      is_class = is_class;
      is = ap (λ (l : List MetaMethod). slice_get l m) above.methods ∙ got-front above.base.methods above.own_methods m method there;
    }

pub sig-below : {p : Loaded} {d c m : ℕ} {sig : Sig} → IsSound p → Below p d c → HasSig p c sig m → HasSig p d sig m
sig-below sound below has = record { method = has.method; is = method-below sound below has.is; signed = has.signed }

method-same : {p : Loaded} {c m : ℕ} {a b : MetaMethod} → IsMethod p c m a → IsMethod p c m b → a ≡ b
method-same {m = m} here there =
    same_Some _ _ (sym here.is ∙ ap (λ (k : MetaObject). slice_get k.methods m) (class-same here.is_class there.is_class) ∙ there.is)

-- a class has one method of a signature
pub one-number : {p : Loaded} {c m n : ℕ} {sig : Sig} → IsSound p → HasSig p c sig m → HasSig p c sig n → m ≡ n
one-number {p} {c} {m} {n} sound first second =
    let class = first.is.class in
    let there : slice_get class.methods n ≡ Some second.method = ap (λ (k : MetaObject). slice_get k.methods n) (class-same first.is.is_class second.is.is_class) ∙ second.is.is in
    let signed = first.signed ∙ sym second.signed in
    (sound.classes c class first.is.is_class).distinct_methods m n first.method second.method first.is.is there
    (ap (λ (s : Sig). s.name) signed) (ap (λ (s : Sig). length s.types) signed)

-- a class above that has a method of this number has it with the same signature
pub sig-above : {p : Loaded} {d c m : ℕ} {method : MetaMethod} {sig : Sig} → IsSound p → Below p d c → IsMethod p c m method → HasSig p d sig m → HasSig p c sig m
sig-above sound below is has =
    record { method = _; is = is; signed = ap (λ (k : MetaMethod). k.sig) (method-same (method-below sound below is) has.is) ∙ has.signed }
