-- Sections that come one after another.
use Rattle.std.proofs.Common.{◌≡◌, ℕ, ◌≤◌, ◌+◌, ◌-◌, ◌^◌, List, [], ◌∷◌, ◌++◌, subst, sym, arith}
use Rattle.std.specs.Prelude.{All, min, Option, Some, IfSome}
use Rattle.std.proofs.Math.Nat.{min-le_right, le-min}
use Rattle.std.proofs.lemmas.List.Elements.{All-nil, All-head, All-tail, All-push, All-weaker}
use Rattle.cases.specs.declared.files.section.Section.{Section}
use Rattle.cases.specs.Order.{AreInOrder}

-- the sections, and the one that is read, are in order, up to this line
pub record Reading (sections : List Section) (current : Section) (number : ℕ) : Type 0 where
  pub ordered : AreInOrder sections
  pub before : All (λ (a : Section). a.line ≤ current.line) sections
  pub reached : current.line ≤ number
  pub fits : number ≤ 2 ^ 64 - 1

pub pushed : (xs : List Section) (s : Section) → AreInOrder xs → All (λ (a : Section). a.line ≤ s.line) xs → AreInOrder (xs ++ s ∷ [])
pushed [] s h below = (All-nil (λ (b : Section). s.line ≤ b.line), tt)
pushed (a ∷ rest) s h below = (
  All-push (λ (b : Section). a.line ≤ b.line) rest s h.0 (All-head (λ (b : Section). b.line ≤ s.line) a rest below),
  pushed rest s h.1 (All-tail (λ (b : Section). b.line ≤ s.line) a rest below),
)

-- the number of the next line, which is the greatest number at most
next-number : (n r : ℕ) → r ≡ min (n + 1) (2 ^ 64 - 1) → n ≤ 2 ^ 64 - 1 → (n ≤ r) × (r ≤ 2 ^ 64 - 1)
next-number n r is fits =
    let P : ℕ → Type 0 = λ m. (n ≤ m) × (m ≤ 2 ^ 64 - 1) in
    subst P (sym is) (le-min (omega arith) fits, min-le_right (n + 1) (2 ^ 64 - 1))

-- a line is added to the section that is read
pub stays : (xs : List Section) (s t : Section) (n m : ℕ) → t.line ≡ s.line → m ≡ min (n + 1) (2 ^ 64 - 1) → Reading xs s n → Reading xs t m
stays xs s t n m same is r =
    let more = next-number n m is r.fits in
    record {
      ordered = r.ordered;
      before = All-weaker (λ (a : Section). a.line ≤ s.line) (λ (a : Section). a.line ≤ t.line) (λ a h. omega (arith, same, h)) xs r.before;
      reached = omega (arith, same, more.0, r.reached);
      fits = more.1;
    }

-- the next section begins
pub next : (xs ys : List Section) (s t : Section) (n m : ℕ) → ys ≡ xs ++ s ∷ [] → t.line ≡ m → m ≡ min (n + 1) (2 ^ 64 - 1) → Reading xs s n → Reading ys t m
next xs ys s t n m kept here is r =
    let more = next-number n m is r.fits in
    let le : s.line ≤ t.line = omega (arith, here, more.0, r.reached) in
    let P : List Section → Type 0 = λ zs. Reading zs t m in
    subst P (sym kept) record {
      ordered = pushed xs s r.ordered r.before;
      before = All-push (λ (a : Section). a.line ≤ t.line) xs s (All-weaker (λ (a : Section). a.line ≤ s.line) (λ (a : Section). a.line ≤ t.line) (λ a h. omega (arith, h, le)) xs r.before) le;
      reached = omega (arith, here);
      fits = more.1;
    }

-- a section that begins has the line's number
pub begun-line : (found : Option Section) (t : Section) (n : ℕ) → found ≡ Some t → IfSome found (λ (s : Section). s.line ≡ n) → t.line ≡ n
begun-line found t n is h = let P : Option Section → Type 0 = λ o. IfSome o (λ (s : Section). s.line ≡ n) in subst P is h

-- the last section ends
pub ended : (xs ys : List Section) (s : Section) (n : ℕ) → ys ≡ xs ++ s ∷ [] → Reading xs s n → AreInOrder ys
ended xs ys s n kept r = subst AreInOrder (sym kept) (pushed xs s r.ordered r.before)
