-- Judgements, step by step, have at most one answer.
use Rattle.std.proofs.Common.{◌≡◌, ℕ, Result, Ok, Err, refl, sym, ap, ◌∙◌, subst}
use Rattle.trace_entries.specs.declared.refusal.Refusal.{Refusal}
use Rattle.machine_rules.specs.Judgement.{Numbered, Find, Check, Gives, Becomes, Then, found, missing, holds, fails, gives, becomes, goes_on, ends, HasOneAnswer}

pub one-find : {X : Type 0} {k : Refusal} {Is : X → Type 0} → ((x y : X) → Is x → Is y → x ≡ y) → HasOneAnswer (Find k Is)
one-find {X} only a b (found {x = x} f) (found {x = y} g) = ap (λ (z : X). Ok z) (only x y f g)
one-find only a b (found {x = x} f) (missing none) = absurd (none x f)
one-find only a b (missing none) (found {x = y} g) = absurd (none y g)
one-find only a b (missing f) (missing g) = refl

pub one-check : {k : Refusal} {Holds : Type 0} → HasOneAnswer (Check k Holds)
one-check a b (holds f) (holds g) = refl
one-check a b (holds f) (fails not) = absurd (not f)
one-check a b (fails not) (holds g) = absurd (not g)
one-check a b (fails f) (fails g) = refl

pub one-gives : {X : Type 0} (x : X) → HasOneAnswer (Gives x)
one-gives x a b gives gives = refl

pub one-becomes : {X : Type 0} {Is : X → Type 0} → ((x y : X) → Is x → Is y → x ≡ y) → HasOneAnswer (Becomes Is)
one-becomes {X} only a b (becomes {x = x} f) (becomes {x = y} g) = ap (λ (z : X). Ok z) (only x y f g)

pub one-then : {X Y : Type 0} {First : Result X Refusal → Type 0} {Next : X → Result Y Refusal → Type 0} → HasOneAnswer First → ((x : X) → HasOneAnswer (Next x)) → HasOneAnswer (Then First Next)
one-then {X} {Next = Next} one next a b (goes_on x f n) (goes_on y g m) =
    let answers = one (Ok x) (Ok y) f g in
    let same : x ≡ y = cc answers in
    next x a b n (subst (λ (z : X). Next z b) (sym same) m)
one-then one next a b (goes_on x f n) (ends {k = k} e) = let no = one (Ok x) (Err k) f e in absurd (cc no)
one-then one next a b (ends {k = k} e) (goes_on y g m) = let no = one (Err k) (Ok y) e g in absurd (cc no)
one-then one next a b (ends {k = k} e) (ends {k = j} f) =
    let answers = one (Err k) (Err j) e f in
    let same : k ≡ j = cc answers in
    ap (λ (z : Refusal). Err z) same

-- what has a number is the same where both parts are
pub numbered-is : {X : Type 0} {a b : Numbered X} → a.number ≡ b.number → a.it ≡ b.it → a ≡ b
numbered-is {X} {a} {b} e f = ap (λ (n : ℕ). let x : Numbered X = record { number = n; it = a.it } in x) e ∙ ap (λ (i : X). let x : Numbered X = record { number = b.number; it = i } in x) f
