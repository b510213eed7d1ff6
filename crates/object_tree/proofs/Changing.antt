-- What a change of one object leaves as it was.
use Rattle.std.proofs.Common.{◌≡◌, ◌≢◌, ℕ, zero, suc, List, [], ◌∷◌, length, Option, None, Some, refl, sym, ap, ◌∙◌, arith}
use Rattle.std.specs.Prelude.{slice_get}
use Rattle.std.specs.Option.{option_map, option_and_then}
use Rattle.std.proofs.lemmas.Option.{same_Some}
use Rattle.object_tree.specs.declared.life.Life.{Life}
use Rattle.object_tree.specs.declared.object.Object.{Object}
use Rattle.object_tree.specs.Objects.{Lives, life_of, change, class_of, class_with}

pub length-change : (n : ℕ) (f : Object → Object) (xs : List Object) → length (change n f xs) ≡ length xs
length-change n f [] = refl
length-change zero f (x ∷ xs) = refl
length-change (suc n) f (x ∷ xs) = ap suc (length-change n f xs)

pub get-change_same : (n : ℕ) (f : Object → Object) (xs : List Object) → slice_get (change n f xs) n ≡ option_map f (slice_get xs n)
get-change_same n f [] = refl
get-change_same zero f (x ∷ xs) = refl
get-change_same (suc n) f (x ∷ xs) = get-change_same n f xs

pub get-change_other : (n k : ℕ) (f : Object → Object) (xs : List Object) → k ≢ n → slice_get (change n f xs) k ≡ slice_get xs k
get-change_other n k f [] o = refl
get-change_other zero zero f (x ∷ xs) o = absurd (o refl)
get-change_other zero (suc k) f (x ∷ xs) o = refl
get-change_other (suc n) zero f (x ∷ xs) o = refl
get-change_other (suc n) (suc k) f (x ∷ xs) o = get-change_other n k f xs (λ e. o (ap suc e))

-- what one part shows of an object that is changed in others
pub part-change : {X : Type 0} (part : Option Object → X) (n k : ℕ) (f : Object → Object) (xs : List Object) → ((x : Object) → part (Some (f x)) ≡ part (Some x)) → part (slice_get (change n f xs) k) ≡ part (slice_get xs k)
part-change part n k f [] h = refl
part-change part zero zero f (x ∷ xs) h = h x
part-change part zero (suc k) f (x ∷ xs) h = refl
part-change part (suc n) zero f (x ∷ xs) h = refl
part-change part (suc n) (suc k) f (x ∷ xs) h = part-change part n k f xs h

-- .. of a life that is changed in others
pub life-part : {X : Type 0} (part : Option Life → X) (f : Life → Life) → ((l : Life) → part (Some (f l)) ≡ part (Some l)) → (there : Option Life) → part (option_map f there) ≡ part there
life-part part f h None = refl
life-part part f h (Some l) = h l

-- an object lives one life
pub life-of-lives : {objects : List Object} {o : ℕ} {x : Object} {l : Life} → Lives objects o x l → life_of objects o ≡ Some l
life-of-lives lives = ap (λ (there : Option Object). option_and_then (λ (x : Object). x.life) there) lives.is ∙ lives.lives

pub lives-of-life : (objects : List Object) (o : ℕ) (l : Life) → life_of objects o ≡ Some l → (x : Object) × Lives objects o x l
lives-of-life objects o l e = by_object (slice_get objects o) refl e
  where
    by_object : (there : Option Object) → slice_get objects o ≡ there → option_and_then (λ (x : Object). x.life) there ≡ Some l → (x : Object) × Lives objects o x l
    by_object None is f = absurd (cc f)
    by_object (Some x) is f = (x, record { is = is; lives = f })

pub one-life : (objects : List Object) (o : ℕ) (u v : Object) (x y : Life) → Lives objects o u x → Lives objects o v y → x ≡ y
one-life objects o u v x y lu lv =
    let same : u ≡ v = same_Some _ _ (sym lu.is ∙ lv.is) in
    same_Some _ _ (sym lu.lives ∙ ap (λ (w : Object). w.life) same ∙ lv.lives)

-- ---- the class of a new object

pub class-last : (xs : List Object) (class o : ℕ) → o ≡ length xs → class_with xs class o ≡ Some class
class-last [] class zero e = refl
class-last [] class (suc o) e = absurd (omega (arith, e))
class-last (x ∷ xs) class zero e = absurd (omega (arith, e))
class-last (x ∷ xs) class (suc o) e = class-last xs class o (omega (arith, e))

pub class-before : (xs : List Object) (class o : ℕ) → o ≢ length xs → class_of xs o ≡ class_with xs class o
class-before [] class zero e = absurd (e refl)
class-before [] class (suc o) e = refl
class-before (x ∷ xs) class zero e = refl
class-before (x ∷ xs) class (suc o) e = class-before xs class o (λ same. e (ap suc same))
