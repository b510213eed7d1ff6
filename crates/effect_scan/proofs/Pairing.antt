-- All edges as pairs of numbers, row after row.
use Rattle.std.proofs.Common.{◌≡◌, ℕ, suc, ◌+◌, ◌<◌, ◌≤◌, List, [], ◌∷◌, ◌++◌, length, map, get_or, take, sym, ap, ◌∙◌, arith, append_assoc}
use Rattle.std.proofs.lemmas.List.{append-nil, take_more, take_all, length-take-le}
use Rattle.effect_scan.specs.Rows.{pairs_from}

abbrev pub pair : ℕ → ℕ → ℕ × ℕ
pair a b = (a, b)

pairs_push : (a : ℕ) (rows : List (List ℕ)) (r : List ℕ) → pairs_from a (rows ++ r ∷ []) ≡ pairs_from a rows ++ map (λ b. pair (a + length rows) b) r
pairs_push a [] r = append-nil (map (λ b. pair a b) r) ∙ ap (λ (n : ℕ). map (λ b. pair n b) r) (omega arith)
pairs_push a (x ∷ xs) r =
    ap (λ (l : List (ℕ × ℕ)). map (λ b. pair a b) x ++ l) (pairs_push (suc a) xs r)
    ∙ sym (append_assoc (map (λ b. pair a b) x) (pairs_from (suc a) xs) (map (λ b. pair (suc a + length xs) b) r))
    ∙ ap (λ (n : ℕ). (map (λ b. pair a b) x ++ pairs_from (suc a) xs) ++ map (λ b. pair n b) r) (omega arith)

pub pairs_more : (rows : List (List ℕ)) (i : ℕ) (r : List ℕ) (first last : List (ℕ × ℕ)) → i < length rows → r ≡ get_or rows i r → first ≡ pairs_from 0 (take i rows)
    → last ≡ first ++ map (λ b. pair i b) r → last ≡ pairs_from 0 (take (i + 1) rows)
pairs_more rows i r first last inside is before e =
    let count : length (take i rows) ≡ i = length-take-le i rows (omega arith) in
    e ∙ ap (λ (l : List (ℕ × ℕ)). l ++ map (λ b. pair i b) r) before
    ∙ ap (λ (n : ℕ). pairs_from 0 (take i rows) ++ map (λ b. pair n b) r) (omega arith)
    ∙ sym (pairs_push 0 (take i rows) r)
    ∙ ap (λ (x : List ℕ). pairs_from 0 (take i rows ++ x ∷ [])) is
    ∙ sym (ap (pairs_from 0) (take_more rows i r inside))

pub pairs_all : (rows : List (List ℕ)) (i : ℕ) (list : List (ℕ × ℕ)) → length rows ≤ i → list ≡ pairs_from 0 (take i rows) → list ≡ pairs_from 0 rows
pairs_all rows i list past e = e ∙ ap (pairs_from 0) (take_all i rows past)

-- the same, as a loop over the row gives it
pub pairs_of_row : (rows items : List (List ℕ)) (i k : ℕ) (r row_items : List ℕ) (first last : List (ℕ × ℕ)) → items ≡ rows → i < length items → r ≡ get_or items i r → first ≡ pairs_from 0 (take i rows)
    → row_items ≡ r → length row_items ≤ k → last ≡ first ++ map (λ b. pair i b) (take k row_items) → last ≡ pairs_from 0 (take (i + 1) rows)
pairs_of_row rows items i k r row_items first last same inside is before e past pushed =
    pairs_more rows i r first last (omega (arith, ap length same)) (is ∙ ap (λ (l : List (List ℕ)). get_or l i r) same) before
    (pushed ∙ ap (λ (l : List ℕ). first ++ map (λ b. pair i b) l) (take_all k row_items past ∙ e))
