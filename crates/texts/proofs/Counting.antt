-- What is left to count of a text's nesting.
use Rattle.std.proofs.Common.{◌≡◌, ◌∙◌, ◌<◌, ◌≤◌, ◌⊎◌, ℕ, ◌+◌, List, [], ◌∷◌, ◌++◌, length, drop, get_or, suc, drop-cons, add-one, refl, sym, ap, inl, inr, arith}
use Rattle.std.specs.List.{All}
use Rattle.std.proofs.lemmas.List.Elements.{All-cons, All-head, All-tail, All-nil}
use Rattle.texts.specs.declared.token.Token.{Token}
use Rattle.texts.specs.code.Nesting.{StandTogether}
use Rattle.texts.specs.Nesting.{open_after, open_after_all, IsParted, StandsTooLong, IsTooDeep}

-- after some front of the tokens, with so many open before them, more than 32 are open
pub record OpensFrom (n : ℕ) (tokens : List Token) : Type 0 where
  pub front : List Token
  pub rest : List Token
  pub split : tokens ≡ front ++ rest
  pub many : 32 < open_after_all n front

-- with so many before them, a front of the tokens stands too long
pub record StandsFrom (n : ℕ) (tokens : List Token) : Type 0 where
  pub together : List Token
  pub rest : List Token
  pub split : tokens ≡ together ++ rest
  pub long : 200 < n + length together
  pub unparted : All (λ t. ¬ IsParted t) together

abbrev pub Stands : ℕ → List Token → Type 0
Stands n tokens = StandsFrom n tokens ⊎ StandsTooLong tokens

abbrev pub IsTooDeepFrom : (open_ones together : ℕ) → List Token → Type 0
IsTooDeepFrom n m tokens = OpensFrom n tokens ⊎ Stands m tokens

module _ (t : Token) (ts : List Token) where
  opens_on : (n : ℕ) → n ≤ 32 → OpensFrom n (t ∷ ts) → OpensFrom (open_after n t) ts
  opens_on n fits o = go o.front o.rest o.split o.many
    where
      go : (front rest : List Token) → t ∷ ts ≡ front ++ rest → 32 < open_after_all n front → OpensFrom (open_after n t) ts
      go [] rest e many = absurd (omega arith)
      go (x ∷ xs) rest e many =
          let k : x ≡ t = cc in
          record { front = xs; rest = rest; split = cc; many = rw k at many }

  opens_back : (n : ℕ) → OpensFrom (open_after n t) ts → OpensFrom n (t ∷ ts)
  opens_back n o = record { front = t ∷ o.front; rest = o.rest; split = ap (λ xs. t ∷ xs) o.split; many = o.many }

  later : StandsTooLong ts → StandsTooLong (t ∷ ts)
  later s = record { before = t ∷ s.before; together = s.together; rest = s.rest; split = ap (λ xs. t ∷ xs) s.split; long = s.long; unparted = s.unparted }

  not_first : IsParted t → (xs rest : List Token) → t ∷ ts ≡ xs ++ rest → 0 < length xs → All (λ t. ¬ IsParted t) xs → ⊥
  not_first parted [] rest e some each = absurd (omega arith)
  not_first parted (x ∷ xs) rest e some each =
      let k : x ≡ t = cc in
      let h = All-head (λ t. ¬ IsParted t) x xs each in
      let g = rw k at h in
      g parted

  parted_on : (m : ℕ) → m ≤ 200 → IsParted t → Stands m (t ∷ ts) → Stands 0 ts
  parted_on m fits parted (inl s) = absurd (not_first parted s.together s.rest s.split (let h = s.long in omega arith) s.unparted)
  parted_on m fits parted (inr s) = go s.before s.together s.split s.long s.unparted
    where
      go : (before together : List Token) → t ∷ ts ≡ before ++ together ++ s.rest → 200 < length together → All (λ t. ¬ IsParted t) together → Stands 0 ts
      go [] together e long each = absurd (not_first parted together s.rest e (omega arith) each)
      go (x ∷ xs) together e long each = inr (record { before = xs; together = together; rest = s.rest; split = cc; long = long; unparted = each })

  parted_back : (m : ℕ) → Stands 0 ts → Stands m (t ∷ ts)
  parted_back m (inl s) = let h = s.long in inr (record { before = t ∷ []; together = s.together; rest = s.rest; split = ap (λ xs. t ∷ xs) s.split; long = omega arith; unparted = s.unparted })
  parted_back m (inr s) = inr (later s)

  unparted_on : (m : ℕ) → m ≤ 200 → Stands m (t ∷ ts) → Stands (m + 1) ts
  unparted_on m fits (inl s) = go s.together s.split s.long s.unparted
    where
      go : (together : List Token) → t ∷ ts ≡ together ++ s.rest → 200 < m + length together → All (λ t. ¬ IsParted t) together → Stands (m + 1) ts
      go [] e long each = absurd (omega arith)
      go (x ∷ xs) e long each = inl (record { together = xs; rest = s.rest; split = cc; long = omega arith; unparted = All-tail (λ t. ¬ IsParted t) x xs each })
  unparted_on m fits (inr s) = go s.before s.together s.split s.long s.unparted
    where
      go : (before together : List Token) → t ∷ ts ≡ before ++ together ++ s.rest → 200 < length together → All (λ t. ¬ IsParted t) together → Stands (m + 1) ts
      go [] [] e long each = absurd (omega arith)
      go [] (x ∷ xs) e long each = inl (record { together = xs; rest = s.rest; split = cc; long = omega arith; unparted = All-tail (λ t. ¬ IsParted t) x xs each })
      go (x ∷ xs) together e long each = inr (record { before = xs; together = together; rest = s.rest; split = cc; long = long; unparted = each })

  unparted_back : (m : ℕ) → ¬ IsParted t → Stands (m + 1) ts → Stands m (t ∷ ts)
  unparted_back m alone (inl s) = let h = s.long in inl (record { together = t ∷ s.together; rest = s.rest; split = ap (λ xs. t ∷ xs) s.split; long = omega arith; unparted = All-cons (λ t. ¬ IsParted t) t s.together alone s.unparted })
  unparted_back m alone (inr s) = inr (later s)

-- the whole is too deep exactly where what is left is, with so many open and so many together before it
pub record CountedSoFar (whole : List Token) (open_ones together : ℕ) (left : List Token) : Type 0 where
  pub onward : IsTooDeep whole → IsTooDeepFrom open_ones together left
  pub back : IsTooDeepFrom open_ones together left → IsTooDeep whole

pub counted_start : (tokens : List Token) → CountedSoFar tokens 0 0 tokens
counted_start tokens = record { onward = onward; back = back }
  where
    onward : IsTooDeep tokens → IsTooDeepFrom 0 0 tokens
    onward (inl o) = inl (record { front = o.front; rest = o.rest; split = o.split; many = o.many })
    onward (inr s) = inr (inr s)

    back : IsTooDeepFrom 0 0 tokens → IsTooDeep tokens
    back (inl o) = inl (record { front = o.front; rest = o.rest; split = o.split; many = o.many })
    back (inr (inl s)) = let h = s.long in inr (record { before = []; together = s.together; rest = s.rest; split = s.split; long = omega arith; unparted = s.unparted })
    back (inr (inr s)) = inr s

module _ {whole : List Token} {n m : ℕ} {left : List Token} (h : CountedSoFar whole n m left) where
  pub counted_parted : (t : Token) (ts : List Token) → left ≡ t ∷ ts → n ≤ 32 → m ≤ 200 → IsParted t → CountedSoFar whole (open_after n t) 0 ts
  counted_parted t ts e few short parted = record { onward = λ d. onward (rw e at (h.onward d)); back = λ d. h.back (rw e (back d)) }
    where
      onward : IsTooDeepFrom n m (t ∷ ts) → IsTooDeepFrom (open_after n t) 0 ts
      onward (inl o) = inl (opens_on t ts n few o)
      onward (inr s) = inr (parted_on t ts m short parted s)

      back : IsTooDeepFrom (open_after n t) 0 ts → IsTooDeepFrom n m (t ∷ ts)
      back (inl o) = inl (opens_back t ts n o)
      back (inr s) = inr (parted_back t ts m s)

  pub counted_unparted : (t : Token) (ts : List Token) → left ≡ t ∷ ts → n ≤ 32 → m ≤ 200 → ¬ IsParted t → CountedSoFar whole (open_after n t) (m + 1) ts
  counted_unparted t ts e few short alone = record { onward = λ d. onward (rw e at (h.onward d)); back = λ d. h.back (rw e (back d)) }
    where
      onward : IsTooDeepFrom n m (t ∷ ts) → IsTooDeepFrom (open_after n t) (m + 1) ts
      onward (inl o) = inl (opens_on t ts n few o)
      onward (inr s) = inr (unparted_on t ts m short s)

      back : IsTooDeepFrom (open_after n t) (m + 1) ts → IsTooDeepFrom n m (t ∷ ts)
      back (inl o) = inl (opens_back t ts n o)
      back (inr s) = inr (unparted_back t ts m alone s)

  pub counted_open : 32 < n → IsTooDeep whole
  counted_open many = h.back (inl (record { front = []; rest = left; split = refl; many = many }))

  pub counted_together : 200 < m → IsTooDeep whole
  counted_together long = h.back (inr (inl (record { together = []; rest = left; split = refl; long = omega arith; unparted = All-nil (λ t. ¬ IsParted t) })))

  pub counted_done : left ≡ [] → n ≤ 32 → m ≤ 200 → ¬ IsTooDeep whole
  counted_done e few short d = none (rw e at (h.onward d))
    where
      no_more : (front rest : List Token) → [] ≡ front ++ rest → 32 < open_after_all n front → ⊥
      no_more [] rest e many = absurd (omega arith)
      no_more (x ∷ xs) rest e many = cc

      no_run : (together rest : List Token) → [] ≡ together ++ rest → 200 < m + length together → ⊥
      no_run [] rest e long = absurd (omega arith)
      no_run (x ∷ xs) rest e long = cc

      no_stand : (before together rest : List Token) → [] ≡ before ++ together ++ rest → 200 < length together → ⊥
      no_stand [] [] rest e long = absurd (omega arith)
      no_stand [] (x ∷ xs) rest e long = cc
      no_stand (x ∷ xs) together rest e long = cc

      none : IsTooDeepFrom n m [] → ⊥
      none (inl o) = no_more o.front o.rest o.split o.many
      none (inr (inl s)) = no_run s.together s.rest s.split s.long
      none (inr (inr s)) = no_stand s.before s.together s.rest s.split s.long

pub counted_next : {whole : List Token} {n m : ℕ} (i : ℕ) (t : Token) (n' m' : ℕ) → CountedSoFar whole n m (drop i whole) → n ≤ 32 → m ≤ 200 → i < length whole → t ≡ get_or whole i t → n' ≡ open_after n t → StandTogether m t m' → CountedSoFar whole n' m' (drop (i + 1) whole)
counted_next {whole} {n} {m} i t n' m' h few short within is now kind = go kind
  where
    at : drop i whole ≡ t ∷ drop (i + 1) whole
    at = let e = drop-cons whole i t within in rw add-one (e ∙ ap (λ x. x ∷ drop (suc i) whole) (sym is))

    go : StandTogether m t m' → CountedSoFar whole n' m' (drop (i + 1) whole)
    go (inl p) = rw (now, p.1) (counted_parted h t (drop (i + 1) whole) at few short p.0)
    go (inr p) = rw (now, p.1) (counted_unparted h t (drop (i + 1) whole) at few short p.0)
