-- How bytes are cut into words and marks.
use Rattle.std.proofs.Common.{◌≡◌, ℕ, zero, suc, ◌<◌, ◌≤◌, Bool, if◌then◌else◌, List, [], ◌∷◌, ◌++◌, length, take, drop, get_or, true, false, refl, sym, ◌∙◌, ap, append_assoc, arith}
use Rattle.std.proofs.lemmas.List.{append-nil}
use Rattle.std.specs.List.{AllByRecursion}
use Rattle.basic_types.specs.Name.{is_name_byte}
use Rattle.basic_types.specs.Tokens.{Token, word, mark, is_blank, mark_of, ended, tokens_from, tokens_of, StopsBy, EndsWord, IsRunBy}

-- ---- runs

stops_here : (test : ℕ → Bool) (bytes : List ℕ) → (0 < length bytes → test (get_or bytes 0 0) ≡ false) → StopsBy test bytes
stops_here test [] h = tt
stops_here test (b ∷ bs) h = h (omega arith)

-- a run by its length
pub run_of_length : (test : ℕ → Bool) (bytes : List ℕ) (n : ℕ) → n ≤ length bytes → ((k : ℕ) → k < n → test (get_or bytes k 0) ≡ true) → (n < length bytes → test (get_or bytes n 0) ≡ false) → IsRunBy test bytes (take n bytes) (drop n bytes)
run_of_length test bytes zero le each stop = record { split = refl; each = tt; stops = stops_here test bytes stop }
run_of_length test [] (suc n) le each stop = absurd (omega arith)
run_of_length test (b ∷ bs) (suc n) le each stop =
    let r = run_of_length test bs n (omega arith) (λ k h. each (suc k) (omega arith)) (λ h. stop (omega arith)) in
    record { split = ap (λ xs. b ∷ xs) r.split; each = (each 0 (omega arith), r.each); stops = r.stops }

-- ---- words and marks

-- the bytes of a word go to the word so far
pub taken : (a so_far rest : List ℕ) → AllByRecursion (λ b. is_name_byte b ≡ true) a → tokens_from so_far (a ++ rest) ≡ tokens_from (so_far ++ a) rest
taken [] so_far rest h = ap (λ s. tokens_from s rest) (sym (append-nil so_far))
taken (b ∷ a) so_far rest h = rw h.0 (taken a (so_far ++ b ∷ []) rest h.1 ∙ ap (λ s. tokens_from s rest) (append_assoc so_far (b ∷ []) a))

choose : (x : Bool) (so_far : List ℕ) (t u : List Token) → (if x then ended so_far t else ended so_far u) ≡ ended so_far (if x then t else u)
choose true so_far t u = refl
choose false so_far t u = refl

-- a word ends where the run does
pub stopped : (so_far rest : List ℕ) → EndsWord rest → tokens_from so_far rest ≡ ended so_far (tokens_of rest)
stopped so_far [] h = refl
stopped so_far (b ∷ rest) h = rw h (choose (is_blank b) so_far (tokens_of rest) (mark (mark_of b) ∷ tokens_of rest))

pub word_next : (bytes w rest : List ℕ) (b : ℕ) (after : List ℕ) → bytes ≡ b ∷ after → is_name_byte b ≡ true → IsRunBy is_name_byte bytes w rest → tokens_of bytes ≡ word w ∷ tokens_of rest
word_next bytes [] [] b after e h r = let d = r.split in cc
word_next bytes [] (x ∷ rest) b after e h r = let d = r.split in let k : x ≡ b = cc in let m = rw (k, h) at r.stops in cc
word_next bytes (x ∷ w) rest b after e h r = ap tokens_of r.split ∙ (taken (x ∷ w) [] rest r.each ∙ stopped (x ∷ w) rest r.stops)
