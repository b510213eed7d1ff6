-- The connections to dead receivers are passed over (`specs/Connections.antt`, `can_be_used`).
use Rattle.std.proofs.Common.{◌≡◌, ℕ, ◌<◌, ◌≤◌, ◌&&◌, nat_lt, nat_le, Bool, true, false, cond, List, [], ◌∷◌, Option, Some, None, refl, sym, subst, ap, ◌∙◌, arith}
use Rattle.std.specs.List.{find}
use Rattle.std.proofs.lemmas.Bool.{lt-ltb, le-ltb}
use Rattle.std.proofs.Math.Bool.{and-false}
use Rattle.connections.specs.declared.connection.Connection.{Connection}
use Rattle.connections.specs.Connected.{is_of, is_due, Rises}
use Rattle.object_tree.specs.declared.object.Object.{Object}
use Rattle.machine_state.specs.Connections.{is_living, can_be_used}

-- ---- by the first that is due

-- none is due: none can be used
pub none-used : (objects : List Object) (o g used last : ℕ) (connections : List Connection) → find (is_due o g used last) connections ≡ None → find (can_be_used objects o g used last) connections ≡ None
none-used objects o g used last [] e = refl
none-used objects o g used last (x ∷ xs) e = by_test (none-used objects o g used last xs) (is_due o g used last x) e
  where
    by_test : (find (is_due o g used last) xs ≡ None → find (can_be_used objects o g used last) xs ≡ None) → (b : Bool) → cond b (Some x) (find (is_due o g used last) xs) ≡ None → cond (b && is_living objects x.receiver) (Some x) (find (can_be_used objects o g used last) xs) ≡ None
    by_test rest true is = absurd (cc is)
    by_test rest false is = rest is

-- its receiver lives: it is used
pub living-used : (objects : List Object) (o g used last : ℕ) (connections : List Connection) (c : Connection) → find (is_due o g used last) connections ≡ Some c → is_living objects c.receiver ≡ true → find (can_be_used objects o g used last) connections ≡ Some c
living-used objects o g used last [] c e lives = absurd (cc e)
living-used objects o g used last (x ∷ xs) c e lives = by_test (λ is. living-used objects o g used last xs c is lives) (is_due o g used last x) e
  where
    found : (b : Bool) → b ≡ true → x ≡ c → cond b (Some x) (find (can_be_used objects o g used last) xs) ≡ Some c
    found true passes same = ap Some same
    found false passes same = absurd (cc passes)

    by_test : (find (is_due o g used last) xs ≡ Some c → find (can_be_used objects o g used last) xs ≡ Some c) → (b : Bool) → cond b (Some x) (find (is_due o g used last) xs) ≡ Some c → cond (b && is_living objects x.receiver) (Some x) (find (can_be_used objects o g used last) xs) ≡ Some c
    by_test rest true is = let same : x ≡ c = cc is in found (is_living objects x.receiver) (subst (λ (y : Connection). is_living objects y.receiver ≡ true) (sym same) lives) same
    by_test rest false is = rest is

-- ---- its receiver is dead: the next one is looked for behind it

-- what is found behind a number has a greater one
found-above : (test : Connection → Bool) (low last : ℕ) (connections : List Connection) (c : Connection) → Rises low connections last → find test connections ≡ Some c → low < c.number
found-above test low last [] c rises e = absurd (cc e)
found-above test low last (x ∷ xs) c rises e = by_test (found-above test x.number last xs c rises.1) (test x) e
  where
    by_test : (find test xs ≡ Some c → x.number < c.number) → (b : Bool) → cond b (Some x) (find test xs) ≡ Some c → low < c.number
    by_test rest true is = let same : x ≡ c = cc is in subst (λ (y : Connection). low < y.number) same rises.0
    by_test rest false is = let above : x.number < c.number = rest is in omega (arith, above, rises.0)

-- a connection that was made later than both numbers is due after the one as after the other
due-after : (o g used passed last : ℕ) (c : Connection) → used < c.number → passed < c.number → is_due o g passed last c ≡ is_due o g used last c
due-after o g used passed last c later behind =
    let made : nat_lt passed c.number ≡ nat_lt used c.number = lt-ltb passed c.number behind ∙ sym (lt-ltb used c.number later) in
    ap (λ (b : Bool). is_of o g c && (b && nat_le c.number last)) made

same-behind : (objects : List Object) (o g used passed last low top : ℕ) (connections : List Connection) → Rises low connections top → used ≤ low → passed ≤ low → find (can_be_used objects o g passed last) connections ≡ find (can_be_used objects o g used last) connections
same-behind objects o g used passed last low top [] rises less behind = refl
same-behind objects o g used passed last low top (x ∷ xs) rises less behind =
    let due : is_due o g passed last x ≡ is_due o g used last x = due-after o g used passed last x (omega (arith, less, rises.0)) (omega (arith, behind, rises.0)) in
    let rest : find (can_be_used objects o g passed last) xs ≡ find (can_be_used objects o g used last) xs =
    same-behind objects o g used passed last x.number top xs rises.1 (omega (arith, less, rises.0)) (omega (arith, behind, rises.0)) in
    ap (λ (b : Bool). cond (b && is_living objects x.receiver) (Some x) (find (can_be_used objects o g passed last) xs)) due
    ∙ ap (λ (r : Option Connection). cond (can_be_used objects o g used last x) (Some x) r) rest

-- what isn't behind a number isn't due after it
not-due : (o g passed last : ℕ) (c : Connection) → c.number ≤ passed → is_due o g passed last c ≡ false
not-due o g passed last c before =
    ap (λ (b : Bool). is_of o g c && (b && nat_le c.number last)) (le-ltb passed c.number before) ∙ and-false (is_of o g c)

pub dead-passed : (objects : List Object) (o g used last low top : ℕ) (connections : List Connection) (c : Connection) → Rises low connections top → used < c.number → find (is_due o g used last) connections ≡ Some c → is_living objects c.receiver ≡ false → find (can_be_used objects o g c.number last) connections ≡ find (can_be_used objects o g used last) connections
dead-passed objects o g used last low top [] c rises later e dead = absurd (cc e)
dead-passed objects o g used last low top (x ∷ xs) c rises later e dead =
    by_test (λ is. dead-passed objects o g used last x.number top xs c rises.1 later is dead) (is_due o g used last x) refl e
  where
    passes : x.number ≤ c.number → find (can_be_used objects o g c.number last) (x ∷ xs) ≡ find (can_be_used objects o g c.number last) xs
    passes before = ap (λ (b : Bool). cond (b && is_living objects x.receiver) (Some x) (find (can_be_used objects o g c.number last) xs)) (not-due o g c.number last x before)

    skips : (b : Bool) → b ≡ false → cond b (Some x) (find (can_be_used objects o g used last) xs) ≡ find (can_be_used objects o g used last) xs
    skips b is = ap (λ (t : Bool). cond t (Some x) (find (can_be_used objects o g used last) xs)) is

    by_test : (find (is_due o g used last) xs ≡ Some c → find (can_be_used objects o g c.number last) xs ≡ find (can_be_used objects o g used last) xs) → (b : Bool) → is_due o g used last x ≡ b → cond b (Some x) (find (is_due o g used last) xs) ≡ Some c → find (can_be_used objects o g c.number last) (x ∷ xs) ≡ find (can_be_used objects o g used last) (x ∷ xs)
    by_test rest true due is =
        let same : x ≡ c = cc is in
        let number : x.number ≡ c.number = ap (λ (y : Connection). y.number) same in
        let gone : is_living objects x.receiver ≡ false = subst (λ (y : Connection). is_living objects y.receiver ≡ false) (sym same) dead in
        let unused : can_be_used objects o g used last x ≡ false = ap (λ (b : Bool). is_due o g used last x && b) gone ∙ and-false (is_due o g used last x) in
        passes (omega (arith, number))
        ∙ (same-behind objects o g used c.number last x.number top xs rises.1 (omega (arith, number, later)) (omega (arith, number))
        ∙ sym (skips (can_be_used objects o g used last x) unused))
    by_test rest false due is =
        let above : x.number < c.number = found-above (is_due o g used last) x.number top xs c rises.1 is in
        let unused : can_be_used objects o g used last x ≡ false = ap (λ (b : Bool). b && is_living objects x.receiver) due in
        passes (omega (arith, above))
        ∙ (rest is
        ∙ sym (skips (can_be_used objects o g used last x) unused))
