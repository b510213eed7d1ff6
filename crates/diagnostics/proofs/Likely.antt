-- The words of which one may have been meant, one after another.
use Rattle.std.proofs.Common.{◌≡◌, sym, subst, ℕ, ◌+◌, ◌<◌, ◌≤◌, ◌/◌, List, [], map, take, length, get_or, Bor, Option, Some, None, IfSome, All, Contains, arith}
use Rattle.std.proofs.lemmas.List.{length-map, get_or-map, take_all}
use Rattle.std.proofs.lemmas.List.Elements.{All-more, All-weaker, All-map}
use Rattle.diagnostics.specs.Likely.{edits_between, IsNoNearer, IsLikely, FindsEdits}

abbrev pub nothing : Bor (List ℕ)
nothing = record { ref_ptr = (0, 0); now = [] }

abbrev pub word_at : List (Bor (List ℕ)) → ℕ → List ℕ
word_at words n = (get_or words n nothing).now

-- what is found of a word with few edits
pub few_edits : (name text other : List ℕ) (most edits : ℕ) (found : Option ℕ) → text ≡ name → found ≡ Some edits → FindsEdits text other most found → (edits ≡ edits_between name other) × (edits ≤ most)
few_edits name text other most edits found same is finds =
    subst (λ t. (edits ≡ edits_between t other) × (edits ≤ most)) same (subst (FindsEdits text other most) is finds)

pub word_among : (words : List (Bor (List ℕ))) (n : ℕ) → n < length words → Contains (map (λ w. w.now) words) (word_at words n)
word_among words n inside =
    let all : List (List ℕ) = map (λ w. w.now) words in
    let within : n < length all = rw (length-map words (λ w. w.now)) inside in
    (n, within, get_or-map (λ w. w.now) words n nothing (word_at words n) inside)

weaker : (name other : List ℕ) (least most : ℕ) → most ≤ least → IsNoNearer name least other → IsNoNearer name most other
weaker name other least most h far text apart = omega (arith, far text (omega arith))

-- one more word is seen, of which so many letters differ at least
pub seen_with : (name : List ℕ) (words : List (Bor (List ℕ))) (n least most : ℕ) → n < length words → most ≤ least → All (λ w. IsNoNearer name least w.now) (take n words) → most ≤ edits_between name (word_at words n) → All (λ w. IsNoNearer name most w.now) (take (n + 1) words)
seen_with name words n least most inside h seen here =
    All-more (λ w. IsNoNearer name most w.now) words n nothing inside (All-weaker (λ w. IsNoNearer name least w.now) (λ w. IsNoNearer name most w.now) (λ w. weaker name w.now least most h) (take n words) seen) (λ text apart. here)

-- once all are seen
pub likely : (name : List ℕ) (words : List (Bor (List ℕ))) (n least : ℕ) (found : Option (Bor (List ℕ))) → length words ≤ n → least ≤ length name / 3 → IfSome found (λ word. Contains (map (λ w. w.now) words) word.now) → IfSome found (λ word. edits_between name word.now ≡ least) → All (λ w. IsNoNearer name least w.now) (take n words) → IfSome found (λ word. IsLikely name (map (λ w. w.now) words) word.now)
likely name words n least None h third one is seen = tt
likely name words n least (Some word) h third one is seen = record {
  one_of = one;
  near = subst (λ e. e ≤ length name / 3) (sym is) third;
  nearest = subst (λ e. All (IsNoNearer name e) (map (λ w. w.now) words)) (sym is) (All-map (IsNoNearer name least) (λ w. w.now) words (subst (λ ws. All (λ w. IsNoNearer name least w.now) ws) (take_all n words h) seen));
}
