-- At most one piece is at the front of a text.
use Rattle.std.proofs.Common.{◌≡◌, ℕ, ◌+◌, ◌*◌, List, [], ◌∷◌, ◌++◌, length, Option, Some, None, cond, nat_eq, refl, sym, ◌∙◌, ap, arith}
use Rattle.texts.specs.declared.bytes.Run.TheVariants as run
use Rattle.texts.specs.declared.symbol.Symbol.{Symbol}
use Rattle.texts.specs.declared.symbol.Symbol.TheVariants as s
use Rattle.texts.proofs.Table.{doubles, singles}
use Rattle.texts.specs.Symbols.{spelling}
use Rattle.basic_types.specs.Words.{word_spelling}
use Rattle.basic_types.proofs.Words.{one_word}
use Rattle.texts.specs.Pieces.{Piece, blank, comment, name, reserved, number, text, symbol, IsFirstPiece, IsCut}
use Rattle.texts.proofs.Runs.{one_run}
use Rattle.texts.proofs.FirstPieces.{class_at_front, no_front_at_end}

abbrev number_of : List ℕ → ℕ
number_of [] = 0
number_of (b ∷ bs) = b + 2 * number_of bs

-- the symbol whose bytes have this number
abbrev symbol_with : ℕ → List Symbol → Option Symbol
symbol_with n [] = None
symbol_with n (x ∷ more) = cond (nat_eq n (number_of (spelling x))) (Some x) (symbol_with n more)

-- the numbers of the symbols' bytes differ
found_again : (x : Symbol) → symbol_with (number_of (spelling x)) (doubles ++ singles) ≡ Some x
found_again s.Equal = refl
found_again _ = refl

one_symbol : (a b : Symbol) → spelling a ≡ spelling b → a ≡ b
one_symbol a b e =
    let same = ap (λ bytes. symbol_with (number_of bytes) (doubles ++ singles)) e in
    let p = found_again a in
    let q = found_again b in
    cc

same_length : (a b r q : List ℕ) → length a ≡ length b → a ++ r ≡ b ++ q → (a ≡ b) × (r ≡ q)
same_length [] [] r q h e = (refl, e)
same_length [] (y ∷ b) r q h e = absurd (omega arith)
same_length (x ∷ a) [] r q h e = absurd (omega arith)
same_length (x ∷ a) (y ∷ b) r q h e = let m = same_length a b r q (omega arith) (cc) in (cc, m.1)

pub one_prefix : (p q : Piece) (bytes r s : List ℕ) → IsFirstPiece p bytes r → IsFirstPiece q bytes s → (p ≡ q) × (r ≡ s)
one_prefix (blank b) (blank c) bytes r s f g = let e = f.1 in let d = g.1 in (cc, cc)
one_prefix (comment a) (comment b) bytes r s f g =
    let e = f.1 in let d = g.1 in let k : g.0 ≡ f.0 = cc in
    let m = one_run run.Line f.0 a b r s f.2 (rw k at g.2) in (cc, m.1)
one_prefix (name a) (name b) bytes r s f g = let m = one_run run.Name bytes a b r s f.2 g.2 in (cc, m.1)
one_prefix (reserved a) (reserved b) bytes r s f g =
    let m = one_run run.Name bytes (word_spelling a) (word_spelling b) r s f g in
    let n = one_word a b m.0 in (cc, m.1)
one_prefix (name a) (reserved b) bytes r s f g = let m = one_run run.Name bytes a (word_spelling b) r s f.2 g in absurd (f.1 b m.0)
one_prefix (reserved a) (name b) bytes r s f g = let m = one_run run.Name bytes (word_spelling a) b r s f g.2 in absurd (g.1 a (sym m.0))
one_prefix (number a) (number b) bytes r s f g = let m = one_run run.Number bytes a b r s f.1 g.1 in (cc, m.1)
one_prefix (text a) (text b) bytes r s f g =
    let e = f.1 in let d = g.1 in let k : g.0 ≡ f.0 = cc in
    let m = one_run run.Text f.0 a b (34 ∷ r) (34 ∷ s) f.2 (rw k at g.2) in (cc, cc)
one_prefix (symbol a) (symbol b) bytes r s f g =
    let x = f.longest b (s, g.split) in
    let y = g.longest a (r, f.split) in
    let m = same_length (spelling a) (spelling b) r s (omega arith) (sym f.split ∙ g.split) in
    let n = one_symbol a b m.0 in (cc, m.1)
one_prefix p q bytes r s f g =
    let a = class_at_front p bytes r f in let b = class_at_front q bytes s g in cc

pub one_list : (ps qs : List Piece) (bytes : List ℕ) → IsCut ps bytes → IsCut qs bytes → ps ≡ qs
one_list [] [] bytes f g = refl
one_list [] (q ∷ qs) bytes f g = absurd (no_front_at_end bytes f q g.0 g.1)
one_list (p ∷ ps) [] bytes f g = absurd (no_front_at_end bytes g p f.0 f.1)
one_list (p ∷ ps) (q ∷ qs) bytes f g =
    let m = one_prefix p q bytes f.0 g.0 f.1 g.1 in
    let e = m.1 in
    let n = one_list ps qs f.0 f.2 (rw (← e) at g.2) in cc
