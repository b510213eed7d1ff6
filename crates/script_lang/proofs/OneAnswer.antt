-- A text has at most one answer.
use Rattle.std.proofs.Common.{◌≡◌, ◌≢◌, ℕ, List, [], ◌∷◌, length, refl, sym, ◌∙◌, ap, Option, Some, None, Result, Ok, Err, arith}
use Rattle.texts.proofs.Cut.{same_tokens}
use Rattle.texts.specs.declared.token.Token.{Token}
use Rattle.script_lang.specs.declared.event.Event.{Event}
use Rattle.script_lang.specs.declared.fault.ScriptFault.{ScriptFault}
use Rattle.script_lang.specs.declared.fault.ScriptFault.TheVariants.{TooLarge, BadLine, Memory}
use Rattle.script_lang.specs.Grammar.{IsEvent}
use Rattle.texts.specs.Lines.{IsFirstLine, AreFirstLines, AreLines}
use Rattle.script_lang.specs.Reads.{Holds, AreEvents, IsScript, IsBadLine, ReadsScript}
use Rattle.texts.proofs.FirstLines.{one_first_line, no_line_at_end}
use Rattle.script_lang.proofs.Scripts.{IsRefused}
use Rattle.script_lang.proofs.OneTree.{one_event}

-- ---- one line

no_tokens_no_event : (tokens : List Token) (event : Event) → tokens ≡ [] → IsEvent tokens event → ⊥
no_tokens_no_event tokens event e h =
    let spelled = h.spelled in cc

pub one_content : (line : List ℕ) (a b : Option Event) → Holds line a → Holds line b → a ≡ b
one_content line None None h k = refl
one_content line None (Some b) h k = absurd (no_tokens_no_event k.tokens b (same_tokens line k.tokens [] k.cut h) k.is_event)
one_content line (Some a) None h k = absurd (no_tokens_no_event h.tokens a (same_tokens line h.tokens [] h.cut k) h.is_event)
one_content line (Some a) (Some b) h k =
    let same = same_tokens line h.tokens k.tokens h.cut k.cut in
    let one = one_event k.tokens h.is_event.reading k.is_event.reading (sym same ∙ h.is_event.spelled) k.is_event.spelled in
    ap Some (sym h.is_event.tree ∙ (one ∙ k.is_event.tree))

-- ---- the events of a text

same_events : (text : List ℕ) (ls ms : List (List ℕ)) (es fs : List Event) → AreLines text ls → AreLines text ms → AreEvents ls es → AreEvents ms fs → es ≡ fs
same_events text [] [] es fs l m h k = h ∙ sym k
same_events text [] (y ∷ ms) es fs l m h k = absurd (no_line_at_end text y m.0 l m.1)
same_events text (x ∷ ls) [] es fs l m h k = absurd (no_line_at_end text x l.0 m l.1)
same_events text (x ∷ ls) (y ∷ ms) es fs l m h k =
    let front = one_first_line text x y l.0 m.0 l.1 m.1 in
    let found : h.0 ≡ k.0 = one_content y h.0 k.0 (rw front.0 at h.2) k.2 in
    let later : h.1 ≡ k.1 = same_events m.0 ls ms h.1 k.1 (rw front.1 at l.2) m.2 h.3 k.3 in
    let e = h.4 in
    let f = k.4 in
    cc

-- a text with a bad line is no script
no_script : (text : List ℕ) (good ls : List (List ℕ)) (from line after : List ℕ) (es : List Event) → AreFirstLines text good from → IsFirstLine from line after → IsRefused line → AreLines text ls → AreEvents ls es → ⊥
no_script text [] [] from line after es lead front bad l h = no_line_at_end from line after (sym lead ∙ l) front
no_script text [] (x ∷ ls) from line after es lead front bad l h =
    let same = one_first_line from x line l.0 after (rw lead at l.1) front in
    bad h.0 (rw same.0 at h.2)
no_script text (g ∷ good) [] from line after es lead front bad l h = no_line_at_end text g lead.0 l lead.1
no_script text (g ∷ good) (x ∷ ls) from line after es lead front bad l h =
    let same = one_first_line text x g l.0 lead.0 l.1 lead.1 in
    no_script lead.0 good ls from line after h.1 lead.2 front bad (rw same.1 at l.2) h.3

-- the first bad line is one
same_count : (text : List ℕ) (xs ys : List (List ℕ)) (x_from x x_after y_from y y_after : List ℕ) (es fs : List Event) → AreFirstLines text xs x_from → IsFirstLine x_from x x_after → IsRefused x → AreEvents xs es → AreFirstLines text ys y_from → IsFirstLine y_from y y_after → IsRefused y → AreEvents ys fs → length xs ≡ length ys
same_count text [] [] x_from x x_after y_from y y_after es fs l p bad_x h m q bad_y k = refl
same_count text [] (g ∷ ys) x_from x x_after y_from y y_after es fs l p bad_x h m q bad_y k =
    let same = one_first_line x_from g x m.0 x_after (rw l at m.1) p in
    absurd (bad_x k.0 (rw same.0 at k.2))
same_count text (g ∷ xs) [] x_from x x_after y_from y y_after es fs l p bad_x h m q bad_y k =
    let same = one_first_line y_from g y l.0 y_after (rw m at l.1) q in
    absurd (bad_y h.0 (rw same.0 at h.2))
same_count text (g ∷ xs) (f ∷ ys) x_from x x_after y_from y y_after es fs l p bad_x h m q bad_y k =
    let same = one_first_line text g f l.0 m.0 l.1 m.1 in
    let more = same_count m.0 xs ys x_from x x_after y_from y y_after h.1 k.1 (rw same.1 at l.2) p bad_x h.3 m.2 q bad_y k.3 in
    omega (arith, more)

pub one_list : (text : List ℕ) (es fs : List Event) → IsScript text es → IsScript text fs → es ≡ fs
one_list text es fs h k = same_events text h.lines k.lines es fs h.cut k.cut h.are_events k.are_events

not_both : (text : List ℕ) (es : List Event) (n : ℕ) → IsScript text es → IsBadLine text n → ⊥
not_both text es n h k = no_script text k.good h.lines k.from_line k.line k.after es k.lead k.front k.bad h.cut h.are_events

one_bad_line : (text : List ℕ) (m n : ℕ) → IsBadLine text m → IsBadLine text n → m ≡ n
one_bad_line text m n h k =
    let same = same_count text h.good k.good h.from_line h.line h.after k.from_line k.line k.after h.events k.events h.lead h.front h.bad h.are_events k.lead k.front k.bad k.are_events in
    omega (arith, h.counted, k.counted, same)

pub one_result : (text : List ℕ) (r s : Result (List Event) ScriptFault) → ReadsScript text r → ReadsScript text s → r ≢ Err Memory → s ≢ Err Memory → r ≡ s
one_result text (Ok es) (Ok fs) h k p q = ap Ok (one_list text es fs h k)
one_result text (Ok es) (Err (BadLine n)) h k p q = absurd (not_both text es n h k)
one_result text (Ok es) (Err TooLarge) h k p q = absurd (omega (arith, h.fits, k))
one_result text (Ok es) (Err Memory) h k p q = absurd (q refl)
one_result text (Err (BadLine m)) (Ok fs) h k p q = absurd (not_both text fs m k h)
one_result text (Err (BadLine m)) (Err (BadLine n)) h k p q = ap (λ i. Err (BadLine i)) (one_bad_line text m n h k)
one_result text (Err (BadLine m)) (Err TooLarge) h k p q = absurd (omega (arith, h.fits, k))
one_result text (Err (BadLine m)) (Err Memory) h k p q = absurd (q refl)
one_result text (Err TooLarge) (Ok fs) h k p q = absurd (omega (arith, k.fits, h))
one_result text (Err TooLarge) (Err (BadLine n)) h k p q = absurd (omega (arith, k.fits, h))
one_result text (Err TooLarge) (Err TooLarge) h k p q = refl
one_result text (Err TooLarge) (Err Memory) h k p q = absurd (q refl)
one_result text (Err Memory) s h k p q = absurd (p refl)
