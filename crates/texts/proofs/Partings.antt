-- Texts that are cut at a line.
use Rattle.std.proofs.Common.{◌≡◌, ◌≢◌, ◌∙◌, ℕ, ◌-◌, List, [], ◌∷◌, ◌++◌, length, take, refl, sym, ap, inl, inr, ◌⊎◌, arith}
use Rattle.std.proofs.Math.Seq.{take-append_seam}
use Rattle.std.proofs.lemmas.List.{length-append, append_assoc, append-nil, append_cancel_right}
use Rattle.texts.specs.Lines.{IsFirstLine, AreFirstLines, AreOthers, IsPartedAt, LacksLine}
use Rattle.texts.proofs.FirstLines.{one_first_line, one_more_line, no_line_at_end}

-- the lines so far are others, and `left` is what follows them
pub record OthersSoFar (line text left : List ℕ) : Type 0 where
  pub lines : List (List ℕ)
  pub front : List ℕ
  pub joined : text ≡ front ++ left
  pub lead : AreFirstLines text lines left
  pub others : AreOthers line lines

pub none_so_far : (line text : List ℕ) → OthersSoFar line text text
none_so_far line text = record { lines = []; front = []; joined = refl; lead = refl; others = tt }

one_more_other : (line : List ℕ) (lines : List (List ℕ)) (found : List ℕ) → AreOthers line lines → found ≢ line → AreOthers line (lines ++ found ∷ [])
one_more_other line [] found p other = (other, tt)
one_more_other line (l ∷ lines) found p other = (p.0, one_more_other line lines found p.1 other)

-- the bytes of the line at the front, with its newline, if it has one
line_taken : (left found after : List ℕ) → (left ≡ found ++ 10 ∷ after) ⊎ ((left ≡ found) × (found ≢ []) × (after ≡ [])) → (taken : List ℕ) × (left ≡ taken ++ after)
line_taken left found after (inl e) = (found ++ 10 ∷ [], e ∙ sym (append_assoc found (10 ∷ []) after))
line_taken left found after (inr e) = (found, e.0 ∙ (sym (append-nil found) ∙ ap (λ x. found ++ x) (sym e.2)))

module _ {line text left : List ℕ} (h : OthersSoFar line text left) where
  pub other_next : {found after : List ℕ} → IsFirstLine left found after → found ≢ line → OthersSoFar line text after
  other_next {found} {after} f other =
      let t = line_taken left found after f.ends in
      record {
        lines = h.lines ++ found ∷ [];
        front = h.front ++ t.0;
        joined = h.joined ∙ (ap (λ x. h.front ++ x) t.1 ∙ sym (append_assoc h.front t.0 after));
        lead = one_more_line text h.lines left found after h.lead f;
        others = one_more_other line h.lines found h.others other;
      }

  front_is : take (length text - length left) text ≡ h.front
  front_is =
      let n : length text - length left ≡ length h.front = omega (arith, ap (λ (x : List ℕ). length x) h.joined, length-append h.front left) in
      rw (n, h.joined) (take-append_seam h.front left)

  pub parted_here : {rest : List ℕ} → IsFirstLine left line rest → IsPartedAt line text (take (length text - length left) text) rest
  parted_here f = rw front_is record {
    lines = h.lines;
    from_line = left;
    joined = h.joined;
    lead = h.lead;
    others = h.others;
    here = f;
  }

  pub parted_nowhere : left ≡ [] → LacksLine line text
  parted_nowhere e = record { lines = h.lines; cut = rw e at h.lead; others = h.others }

-- ---- a text is cut at the line in one way

one_lead : (line : List ℕ) (ls ks : List (List ℕ)) (text from other r s : List ℕ) → AreFirstLines text ls from → AreOthers line ls → IsFirstLine from line r → AreFirstLines text ks other → AreOthers line ks → IsFirstLine other line s → (from ≡ other) × (r ≡ s)
one_lead line [] [] text from other r s p po h q qo k =
    let same = sym p ∙ q in
    (same, (one_first_line from line line r s h (rw (sym same) at k)).1)
one_lead line [] (l ∷ ks) text from other r s p po h q qo k =
    absurd (qo.0 (one_first_line text l line q.0 r q.1 (rw (sym p) at h)).0)
one_lead line (l ∷ ls) [] text from other r s p po h q qo k =
    absurd (po.0 (one_first_line text l line p.0 s p.1 (rw (sym q) at k)).0)
one_lead line (l ∷ ls) (m ∷ ks) text from other r s p po h q qo k =
    let same = one_first_line text l m p.0 q.0 p.1 q.1 in
    one_lead line ls ks p.0 from other r s p.2 po.1 h (rw (sym same.1) at q.2) qo.1 k

pub one_parting : {line text front rest other left : List ℕ} → IsPartedAt line text front rest → IsPartedAt line text other left → (front ≡ other) × (rest ≡ left)
one_parting {line} {text} {front} {rest} {other} {left} p q =
    let same = one_lead line p.lines q.lines text p.from_line q.from_line rest left p.lead p.others p.here q.lead q.others q.here in
    (append_cancel_right front other p.from_line (sym p.joined ∙ (q.joined ∙ ap (λ x. other ++ x) (sym same.0))), same.1)

lacks_lead : (line : List ℕ) (ls ks : List (List ℕ)) (text from r : List ℕ) → AreFirstLines text ls from → AreOthers line ls → IsFirstLine from line r → AreFirstLines text ks [] → AreOthers line ks → ⊥
lacks_lead line [] [] text from r p po h q qo = no_line_at_end from line r (sym p ∙ q) h
lacks_lead line [] (l ∷ ks) text from r p po h q qo = qo.0 (one_first_line text l line q.0 r q.1 (rw (sym p) at h)).0
lacks_lead line (l ∷ ls) [] text from r p po h q qo = no_line_at_end text l p.0 q p.1
lacks_lead line (l ∷ ls) (m ∷ ks) text from r p po h q qo =
    let same = one_first_line text l m p.0 q.0 p.1 q.1 in
    lacks_lead line ls ks p.0 from r p.2 po.1 h (rw (sym same.1) at q.2) qo.1

-- or it lacks the line
pub parted_or_not : {line text front rest : List ℕ} → IsPartedAt line text front rest → LacksLine line text → ⊥
parted_or_not {line} {text} {front} {rest} p q = lacks_lead line p.lines q.lines text p.from_line rest p.lead p.others p.here q.cut q.others
