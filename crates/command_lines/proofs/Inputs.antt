-- What is read of an input.
use Rattle.std.proofs.Common.{◌≡◌, ℕ, ◌+◌, ◌≤◌, List, ◌++◌, length, take, Option, Some, None, IfSome, sym, ap, subst, ◌∙◌, append-nil, arith}
use Rattle.std.proofs.lemmas.List.{take_all, length-append}
use Rattle.std.proofs.KnownBytes.{Consumes-trans}
use Rattle.std.proofs.Math.Seq.{take-append_seam}
use Rattle.std.specs.Io.KnownBytes.{Consumes, IsAtEnd}
use Rattle.command_lines.specs.Inputs.{ReadsOn}

-- nothing is left of what is taken at most
all_read : (left rest : Option (List ℕ)) (input : List ℕ) (limit : ℕ) → Consumes left rest input → length input ≤ limit → IsAtEnd rest → IfSome left (λ all. input ≡ take limit all)
all_read None rest input limit consumed few end = tt
all_read (Some all) None input limit consumed few end = absurd consumed
all_read (Some all) (Some rest) input limit consumed few end =
    sym (take_all limit input few) ∙ ap (take limit) (sym (consumed ∙ ap (λ l. input ++ l) end ∙ append-nil input))

-- .. since the last read gave none
pub ended_so : (left mid rest : Option (List ℕ)) (before after : List ℕ) (most count limit : ℕ) → Consumes left mid before → ReadsOn mid rest before after most count → count ≡ 0 → length before ≤ limit → IfSome left (λ all. after ≡ take limit all)
ended_so left mid rest before after most count limit consumed on none few =
    let Is : List ℕ → Type 0 = λ l. IfSome left (λ all. l ≡ take limit all) in
    let long : length (before ++ on.given) ≡ length before + length on.given = length-append before on.given in
    let fits : length (before ++ on.given) ≤ limit = omega (arith, long, on.counted, none, few) in
    subst Is (sym on.added) (all_read left rest (before ++ on.given) limit (Consumes-trans _ _ _ _ _ consumed on.consumed) fits (on.ended none))

-- all that is taken at most is read
pub full : (left rest : Option (List ℕ)) (input : List ℕ) (limit : ℕ) → Consumes left rest input → length input ≡ limit → IfSome left (λ all. input ≡ take limit all)
full None rest input limit consumed is = tt
full (Some all) None input limit consumed is = absurd consumed
full (Some all) (Some rest) input limit consumed is =
    sym (take-append_seam input rest) ∙ ap (λ n. take n (input ++ rest)) is ∙ ap (take limit) (sym consumed)
