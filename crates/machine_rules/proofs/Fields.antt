-- Values of lists of types, and those of properties.
use Rattle.std.proofs.Common.{◌≡◌, ℕ, zero, suc, List, [], ◌∷◌, ◌++◌, length, take, map, Option, Some, slice_get, refl, sym, ap, ◌∙◌, subst}
use Rattle.std.specs.Option.{option_and_then}
use Rattle.basic_types.specs.declared.value.Value.{Value}
use Rattle.meta_model.specs.declared.object.ValueType.{ValueType}
use Rattle.meta_model.specs.declared.object.MetaObject.{MetaObject}
use Rattle.meta_model.specs.declared.object.MetaMethod.{MetaMethod}
use Rattle.meta_model.specs.declared.object.MetaProperty.{MetaProperty}
use Rattle.meta_model.specs.Loaded.{Loaded}
use Rattle.meta_model.specs.Members.{IsClass, IsMethod}
use Rattle.object_tree.specs.declared.life.Life.{Life}
use Rattle.object_tree.specs.declared.object.Object.{Object}
use Rattle.object_tree.specs.Objects.{Lives, stored}
use Rattle.object_tree.specs.Typed.{AreTyped, ReadsAs, ReadAs}
use Rattle.object_tree.proofs.Changing.{life-of-lives, one-life}
use Rattle.machine_rules.specs.There.{IsMember, IsField}

-- ---- what numbers lead to is unique

pub some-is : {X : Type 0} {x y : X} {found : Option X} → found ≡ Some x → found ≡ Some y → x ≡ y
some-is {x = x} {y = y} a b = let e : Some x ≡ Some y = sym a ∙ b in cc e

pub class-unique : {p : Loaded} {k : ℕ} {a b : MetaObject} → IsClass p k a → IsClass p k b → a ≡ b
class-unique x y = some-is x.is y.is

pub method-unique : {p : Loaded} {k m : ℕ} {a b : MetaMethod} → IsMethod p k m a → IsMethod p k m b → a ≡ b
method-unique {m = m} x y = some-is x.is (ap (λ (c : MetaObject). slice_get c.methods m) (class-unique x.is_class y.is_class) ∙ y.is)

pub life-unique : {objects : List Object} {o : ℕ} {x y : Object} {k l : Life} → Lives objects o x k → Lives objects o y l → k ≡ l
life-unique {objects} {o} {x} {y} {k} {l} u v = one-life objects o x y k l u v

pub member-object : {p : Loaded} {objects : List Object} {o m n : ℕ} {x y : Object} {a b : MetaMethod} → IsMember p objects o m x a → IsMember p objects o n y b → x ≡ y
member-object u v = some-is u.lives.is v.lives.is

-- a method of an object is one of its class
pub member-at : {p : Loaded} {objects : List Object} {o m : ℕ} {x y : Object} {l : Life} {method : MetaMethod} → Lives objects o y l → IsMember p objects o m x method → IsMethod p l.class m method
member-at {p} {m = m} {method = method} lives u =
    let At : Life → Type 0 = λ k. IsMethod p k.class m method in
    subst At (life-unique u.lives lives) u.is_method

pub member-method : {p : Loaded} {objects : List Object} {o m : ℕ} {x y : Object} {a b : MetaMethod} → IsMember p objects o m x a → IsMember p objects o m y b → a ≡ b
member-method u v = method-unique u.is_method (member-at u.lives v)

-- a property of an object is one of its class
pub field-at : {p : Loaded} {objects : List Object} {o q : ℕ} {x y : Object} {l : Life} {property : MetaProperty} (class : MetaObject) → Lives objects o y l → IsClass p l.class class → IsField p objects o q x property → slice_get class.properties q ≡ Some property
field-at {p} {q = q} {property = property} class lives is_class f =
    let At : Life → Type 0 = λ k. IsClass p k.class class in
    let same : f.class ≡ class = class-unique f.is_class (subst At (life-unique lives f.lives) is_class) in
    subst (λ (c : MetaObject). slice_get c.properties q ≡ Some property) same f.is_property

pub field-property : {p : Loaded} {objects : List Object} {o q : ℕ} {x y : Object} {a b : MetaProperty} → IsField p objects o q x a → IsField p objects o q y b → a ≡ b
field-property u v = some-is u.is_property (field-at u.class u.lives u.is_class v)

-- the value that a living object has of a property
pub stored-is : {objects : List Object} {o : ℕ} {x : Object} {l : Life} (q : ℕ) → Lives objects o x l → stored objects o q ≡ slice_get l.values q
stored-is q lives = ap (option_and_then (λ (l : Life). slice_get l.values q)) (life-of-lives lives)

-- ---- values of lists of types

pub read-front : (p : Loaded) (objects : List Object) (vs : List Value) (ks more : List ValueType) → ReadAs p objects vs (ks ++ more) → ReadAs p objects (take (length ks) vs) ks
read-front p objects [] [] more h = tt
read-front p objects (v ∷ vs) [] more h = tt
read-front p objects [] (k ∷ ks) more h = absurd h
read-front p objects (v ∷ vs) (k ∷ ks) more h = (h.0, read-front p objects vs ks more h.1)

pub read-get : (p : Loaded) (objects : List Object) (vs : List Value) (ks : List ValueType) (q : ℕ) (v : Value) (k : ValueType) → ReadAs p objects vs ks → slice_get vs q ≡ Some v → slice_get ks q ≡ Some k → ReadsAs p objects v k
read-get p objects [] [] q v k h a b = absurd (cc a)
read-get p objects [] (j ∷ ks) q v k h a b = absurd h
read-get p objects (u ∷ vs) [] q v k h a b = absurd h
read-get p objects (u ∷ vs) (j ∷ ks) zero v k h a b =
    let value_is : u ≡ v = cc a in
    let kind_is : j ≡ k = cc b in
    subst (λ (x : Value). ReadsAs p objects x k) value_is (subst (λ (x : ValueType). ReadsAs p objects u x) kind_is h.0)
read-get p objects (u ∷ vs) (j ∷ ks) (suc q) v k h a b = read-get p objects vs ks q v k h.1 a b

pub read-there : (p : Loaded) (objects : List Object) (vs : List Value) (ks : List ValueType) (q : ℕ) (k : ValueType) → ReadAs p objects vs ks → slice_get ks q ≡ Some k → (v : Value) × (slice_get vs q ≡ Some v)
read-there p objects [] [] q k h b = absurd (cc b)
read-there p objects [] (j ∷ ks) q k h b = absurd h
read-there p objects (u ∷ vs) [] q k h b = absurd h
read-there p objects (u ∷ vs) (j ∷ ks) zero k h b = (u, refl)
read-there p objects (u ∷ vs) (j ∷ ks) (suc q) k h b = read-there p objects vs ks q k h.1 b

pub map-get : {X Y : Type 0} (f : X → Y) (xs : List X) (k : ℕ) (x : X) → slice_get xs k ≡ Some x → slice_get (map f xs) k ≡ Some (f x)
map-get f [] k x e = absurd (cc e)
map-get f (y ∷ ys) zero x e = let same : y ≡ x = cc e in ap (λ z. Some (f z)) same
map-get f (y ∷ ys) (suc k) x e = map-get f ys k x e

-- ---- a property that has a value

abbrev pub kind_of : MetaProperty → ValueType
kind_of q = q.kind

-- the values of an object that has the property
pub field-typed : {p : Loaded} {objects : List Object} {o q : ℕ} {x : Object} {property : MetaProperty} (f : IsField p objects o q x property) → AreTyped p objects → ReadAs p objects f.life.values (map kind_of f.class.properties)
field-typed {p} {objects} {o} {x = x} f typed =
    let t = typed o x f.life f.lives in
    subst (λ (c : MetaObject). ReadAs p objects f.life.values (map kind_of c.properties)) (class-unique t.is_class f.is_class) t.typed

pub old-there : {p : Loaded} {objects : List Object} {o q : ℕ} {x : Object} {property : MetaProperty} → IsField p objects o q x property → AreTyped p objects → (v : Value) × (stored objects o q ≡ Some v)
old-there {p} {objects} {q = q} {property = property} f typed =
    let there = read-there p objects _ _ q property.kind (field-typed f typed) (map-get kind_of f.class.properties q property f.is_property) in
    (there.0, stored-is q f.lives ∙ there.1)

-- the value that a property has reads as its type
pub stored-reads : {p : Loaded} {objects : List Object} {o q : ℕ} {x : Object} {property : MetaProperty} {v : Value} → IsField p objects o q x property → AreTyped p objects → stored objects o q ≡ Some v → ReadsAs p objects v property.kind
stored-reads {p} {objects} {q = q} {property = property} {v = v} f typed is =
    read-get p objects _ _ q v property.kind (field-typed f typed) (sym (stored-is q f.lives) ∙ is) (map-get kind_of f.class.properties q property f.is_property)
