-- The places of the lines of nodes.
use Rattle.std.proofs.Common.{◌≡◌, ◌≢◌, inl, inr, ℕ, ◌+◌, ◌<◌, ◌≤◌, ◌&&◌, Bool, true, false, List, length, replicate, slice_get, Option, Some, None, MatchBool, refl, sym, ap, ◌∙◌, subst, arith, get_or-set_same, get_or-set_other}
use Rattle.std.proofs.lemmas.Bool.{cases_eq, cases_lt}
use Rattle.std.proofs.lemmas.List.{length-set, length-replicate, get_or-replicate, get_or_past}
use Rattle.std.proofs.lemmas.Option.{slice_get_within, same_Some, none-some}
use Rattle.meta_model.specs.Loaded.{Loaded}
use Rattle.effect_scan.specs.Nodes.{nodes_of}
use Rattle.certificate_lang.specs.declared.certificate.NodeName.{NodeName}
use Rattle.rank_check.specs.Entries.{IsNumberNamed, place_at}
use Rattle.settling.specs.declared.certificate.SettlingLine.{SettlingLine}
use Rattle.settling.specs.code.Lines.{IsLineFor, AreApart, PutsPlace, AddsLine, PlacesFirst, PlacesLines}

pub none_at : (count n : ℕ) → place_at (replicate count None) n ≡ None
none_at count n =
    elim (cases_lt n count) [
      | inl l ↦ get_or-replicate count n None None l
      | inr m ↦ get_or_past (replicate count None) n None (omega (arith, m, length-replicate {A = Option ℕ} count None))
    ]

-- the number of a node is that of one
pub number_low : (p : Loaded) {name : NodeName} (n count : ℕ) → IsNumberNamed p name n → count ≡ length (nodes_of p) → n < count
number_low p {name} n count named e = let low = slice_get_within (nodes_of p) n named.node named.at in omega (arith, low, e)

module _ (p : Loaded) (lines : List SettlingLine) where
  pub none_placed : (count : ℕ) → count ≡ length (nodes_of p) → PlacesFirst p lines 0 (replicate count None)
  none_placed count e = record {
    counted = length-replicate count None ∙ e;
    is_for = λ n k at. absurd (none-some k (sym (none_at count n) ∙ at));
    each = λ n k low is at. absurd (omega (arith, low));
  }

  -- whether the first lines are apart
  abbrev pub IsApart : ℕ → List (Option ℕ) → Bool → Type 0
  IsApart i places true = (k : ℕ) → k < i → (n : ℕ) × IsLineFor p lines k n × (place_at places n ≡ Some k) × ((m : ℕ) → IsLineFor p lines k m → m ≡ n)
  IsApart i places false = ¬ AreApart p lines

  pub record IsPlaced (i : ℕ) (places : List (Option ℕ)) (apart : Bool) : Type 0 where
    pub are : PlacesFirst p lines i places
    pub apart_is : IsApart i places apart

  pub placed_none : (count : ℕ) → count ≡ length (nodes_of p) → IsPlaced 0 (replicate count None) true
  placed_none count e = record { are = none_placed count e; apart_is = λ k low. absurd (omega (arith, low)) }

  module _ (i : ℕ) (line : SettlingLine) (at : slice_get lines i ≡ Some line) (before : List (Option ℕ)) (h : PlacesFirst p lines i before) where
    here : (n : ℕ) → IsNumberNamed p line.node n → IsLineFor p lines i n
    here n named = record { line = line; stands = at; named = named }

    named_here : (n : ℕ) → IsLineFor p lines i n → IsNumberNamed p line.node n
    named_here n is = subst (λ (l : SettlingLine). IsNumberNamed p l.node n) (same_Some _ _ (sym is.stands ∙ at)) is.named

    module _ (after : List (Option ℕ)) (put : PutsPlace p line.node i before after) where
      same_at : place_at after put.number ≡ Some i
      same_at = ap (λ (ps : List (Option ℕ)). place_at ps put.number) put.put ∙ get_or-set_same before put.number (Some i) None (number_low p put.number _ put.named h.counted)

      other_at : (m : ℕ) → m ≢ put.number → place_at after m ≡ place_at before m
      other_at m other = ap (λ (ps : List (Option ℕ)). place_at ps m) put.put ∙ get_or-set_other before put.number m (Some i) None other

      put_one : PlacesFirst p lines (i + 1) after
      put_one = record {
        counted = ap (λ (ps : List (Option ℕ)). length ps) put.put ∙ length-set before put.number (Some i) ∙ h.counted;
        is_for = λ n k e.
            elim (cases_eq n put.number) [
              | inl same ↦
                  let place : i ≡ k = same_Some i k (sym same_at ∙ subst (λ (x : ℕ). place_at after x ≡ Some k) same e) in
                  let named = subst (λ (x : ℕ). IsNumberNamed p line.node x) (sym same) put.named in
                  (omega (arith, place), subst (λ (x : ℕ). IsLineFor p lines x n) place (here n named))
              | inr other ↦ let old = h.is_for n k (sym (other_at n other) ∙ e) in (omega (arith, old.0), old.1)
            ];
        each = λ n k low is e.
            elim (cases_eq n put.number) [
              | inl same ↦ none-some i (sym (subst (λ (x : ℕ). place_at after x ≡ None) same e) ∙ same_at)
              | inr other ↦
                  elim (cases_lt k i) [
                    | inl early ↦ h.each n k early is (sym (other_at n other) ∙ e)
                    | inr late ↦
                        let now : k ≡ i = omega (arith, low, late) in
                        other (put.only n (named_here n (subst (λ (x : ℕ). IsLineFor p lines x n) now is)))
                  ]
            ];
      }

      put_apart : IsApart i before true → IsApart (i + 1) after true
      put_apart apart k low =
          elim (cases_lt k i) [
            | inl early ↦
                let old = apart k early in
                let other : old.0 ≢ put.number = λ same. none-some k (sym put.none ∙ subst (λ (x : ℕ). place_at before x ≡ Some k) same old.2) in
                (old.0, old.1, other_at old.0 other ∙ old.2, old.3)
            | inr late ↦
                let now : i ≡ k = omega (arith, low, late) in
                subst (λ (x : ℕ). (n : ℕ) × IsLineFor p lines x n × (place_at after n ≡ Some x) × ((m : ℕ) → IsLineFor p lines x m → m ≡ n)) now
                (put.number, here put.number put.named, same_at, λ m is. put.only m (named_here m is))
          ]

    module _ (spare : (n : ℕ) → IsNumberNamed p line.node n → ¬ (place_at before n ≡ None)) where
      left_one : PlacesFirst p lines (i + 1) before
      left_one = record {
        counted = h.counted;
        is_for = λ n k e. let old = h.is_for n k e in (omega (arith, old.0), old.1);
        each = λ n k low is e.
            elim (cases_lt k i) [
              | inl early ↦ h.each n k early is e
              | inr late ↦ let now : k ≡ i = omega (arith, low, late) in spare n (named_here n (subst (λ (x : ℕ). IsLineFor p lines x n) now is)) e
            ];
      }

      not_apart : ¬ AreApart p lines
      not_apart all = let n = all.nodes i (slice_get_within lines i line at) in by_place n.0 n.1 (place_at before n.0) refl
        where
          by_place : (n : ℕ) → IsLineFor p lines i n → (found : Option ℕ) → place_at before n ≡ found → ⊥
          by_place n is None e = spare n (named_here n is) e
          by_place n is (Some k) e =
              let old = h.is_for n k e in
              let same = all.once k i n old.1 is in
              omega (arith, same, old.0)

    pub placed_more : (apart added : Bool) (after : List (Option ℕ)) → IsApart i before apart → AddsLine p line.node i before added after → IsPlaced (i + 1) after (apart && added)
    placed_more true true after apart put = record { are = put_one after put; apart_is = put_apart after put apart }
    placed_more false true after apart put = record { are = put_one after put; apart_is = apart }
    placed_more true false after apart left =
        subst (λ (ps : List (Option ℕ)). IsPlaced (i + 1) ps false) (sym left.0) (record { are = left_one left.1; apart_is = not_apart left.1 })
    placed_more false false after apart left =
        subst (λ (ps : List (Option ℕ)). IsPlaced (i + 1) ps false) (sym left.0) (record { are = left_one left.1; apart_is = apart })

  -- ---- all lines
  lines_apart : (i : ℕ) (places : List (Option ℕ)) → length lines ≤ i → (apart : Bool) → IsApart i places apart → MatchBool apart (AreApart p lines) (¬ AreApart p lines)
  lines_apart i places past true apart = record {
    nodes = λ k low. let is = apart k (omega (arith, low, past)) in (is.0, is.1);
    once = λ j k n one two.
        let low_j = slice_get_within lines j one.line one.stands in
        let low_k = slice_get_within lines k two.line two.stands in
        let first = apart j (omega (arith, low_j, past)) in
        let second = apart k (omega (arith, low_k, past)) in
        let same = first.3 n one in
        let also = second.3 n two in
        same_Some j k (sym (subst (λ (x : ℕ). place_at places x ≡ Some j) (sym same) first.2) ∙ subst (λ (x : ℕ). place_at places x ≡ Some k) (sym also) second.2);
  }
  lines_apart i places past false apart = apart

  pub lines_placed : (i : ℕ) (places : List (Option ℕ)) (apart : Bool) → length lines ≤ i → IsPlaced i places apart → PlacesLines p lines (record { places = places; apart = apart })
  lines_placed i places apart past h = record {
    are = record {
      counted = h.are.counted;
      is_for = λ n k e. let is = h.are.is_for n k e in (slice_get_within lines k is.1.line is.1.stands, is.1);
      each = λ n k low. h.are.each n k (omega (arith, low, past));
    };
    apart = lines_apart i places past apart h.apart_is;
  }
