use Rattle.std.proofs.Common.{◌≡◌, ℕ, ◌+◌, ◌-◌, ◌≤◌, List, ◌++◌, length, take, drop, sym, ap, ◌∙◌, append_assoc, take-append-drop, arith}
use Rattle.std.proofs.lemmas.List.{take-take, length-take-le}
use Rattle.std.proofs.Math.Seq.{take-append-add}
use Rattle.command_lines.proofs.pending.write_ends.Goals as goal

-- what comes before the second word is there once the first one is
front_kept : (old mid bytes : List ℕ) (at n k : ℕ) → k ≤ n → at ≤ length old → take (at + n) mid ≡ take at old ++ take n bytes → take (at + k) mid ≡ take at old ++ take k bytes
front_kept old mid bytes at n k less within front =
    sym (take-take (at + k) (at + n) mid (omega (arith, less))) ∙ ap (take (at + k)) front
    ∙ ap (λ m. take (m + k) (take at old ++ take n bytes)) (sym (length-take-le at old within))
    ∙ take-append-add (take at old) (take n bytes) k ∙ ap (λ l. take at old ++ l) (take-take k n bytes less)

both : (old mid new bytes : List ℕ) (at n m k : ℕ) → k ≤ n → at ≤ length old → m ≡ at + k → m + n ≡ at + length bytes →
    take (at + n) mid ≡ take at old ++ take n bytes → take (m + n) new ≡ take m mid ++ drop k bytes → take (at + length bytes) new ≡ take at old ++ bytes
both old mid new bytes at n m k less within starts ends front back =
    ap (λ e. take e new) (sym ends) ∙ back ∙ ap (λ s. take s mid ++ drop k bytes) starts
    ∙ ap (λ l. l ++ drop k bytes) (front_kept old mid bytes at n k less within front)
    ∙ append_assoc (take at old) (take k bytes) (drop k bytes) ∙ ap (λ l. take at old ++ l) (take-append-drop k bytes)

pub returns : goal.returns
returns g c =
    let front = c.write_word.ensures in
    let back = c.write_word-2.ensures in
    let n = g.row.N in
    let at = c.args.at in
    let old = c.args.room.now in
    let bytes = c.args.bytes.now in
    let mid = c.write_word.new.room in
    let (enough, short) = c.requires.two_words in
    record {
      len = back.len ∙ front.len;
      written = both old mid c.write_word-2.new.room bytes at n (at + length bytes - n) (length bytes - n) (omega (arith, short)) (omega (arith, c.requires.fits)) (omega (arith, enough)) (omega (arith, enough))
          (front.written ∙ ap (λ l. take at old ++ l) c.in-Some.ensures.cases.same)
          (back.written ∙ ap (λ l. take (at + length bytes - n) mid ++ l) c.in-Some-last_chunk.ensures.cases.1.same);
    }
