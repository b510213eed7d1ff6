-- Lines as they are shown, one after another.
use Rattle.std.proofs.Common.{◌≡◌, ◌≢◌, ◌∙◌, sym, ap, refl, subst, ℕ, ◌<◌, ◌≤◌, ◌==◌, Bool, true, false, List, [], ◌∷◌, ◌++◌, ◌⊎◌, inl, inr, length, Option, Some, None, Result, Ok, Err, OnOk, is_ok, if◌then◌else◌, append_assoc, length-append, IfSome, arith}
use Rattle.std.proofs.lemmas.Bool.{eqb-true}
use Rattle.std.proofs.lemmas.Bool.Decides.{nat_tests}
use Rattle.std.specs.List.{AllByRecursion}
use Rattle.std.specs.Io.KnownBytes.{Appends, Keeps, IsAtEnd}
use Rattle.std.specs.Io.BufRead.{take_through, drop_through, DropsThrough}
use Rattle.std.proofs.KnownBytes.{Appends-nil, Appends-trans}
use Rattle.texts.specs.Lines.{IsFirstLine}
use Rattle.texts.proofs.FirstLines.{one_first_line, no_line_at_end}
use Rattle.traces.specs.Shown.{ShownLine, ShowsPrefix, ShowsUpTo, ShowsRead, ShowsTrace, ShowsLine, AddsColoured, AddsRemark, indent_of}
use Rattle.traces.specs.Lines.{TellsLine}
use Rattle.traces.specs.declared.reading.line.TraceLine.{TraceLine}

-- ---- what is read up to a newline

-- the bytes up to the first newline, and those behind it; or all of them
pub record IsReadUpTo (xs read rest : List ℕ) : Type 0 where
  pub line : List ℕ
  pub unbroken : AllByRecursion (λ b. b ≢ 10) line
  pub ends : ((read ≡ line ++ 10 ∷ []) × (xs ≡ line ++ 10 ∷ rest)) ⊎ ((read ≡ line) × (xs ≡ line) × (rest ≡ []))

longer : (x : ℕ) (xs read rest : List ℕ) → x ≢ 10 → IsReadUpTo xs read rest → IsReadUpTo (x ∷ xs) (x ∷ read) rest
longer x xs read rest other r = record { line = x ∷ r.line; unbroken = (other, r.unbroken); ends = go r.ends }
  where
    go : ((read ≡ r.line ++ 10 ∷ []) × (xs ≡ r.line ++ 10 ∷ rest)) ⊎ ((read ≡ r.line) × (xs ≡ r.line) × (rest ≡ [])) → ((x ∷ read ≡ (x ∷ r.line) ++ 10 ∷ []) × (x ∷ xs ≡ (x ∷ r.line) ++ 10 ∷ rest)) ⊎ ((x ∷ read ≡ x ∷ r.line) × (x ∷ xs ≡ x ∷ r.line) × (rest ≡ []))
    go (inl e) = inl (ap (λ l. x ∷ l) e.0, ap (λ l. x ∷ l) e.1)
    go (inr e) = inr (ap (λ l. x ∷ l) e.0, ap (λ l. x ∷ l) e.1, e.2)

not_ten : (x : ℕ) → (x == 10) ≡ false → x ≢ 10
not_ten x e h = grind (arith, nat_tests)

read_on : (x : ℕ) (xs : List ℕ) (b : Bool) → (x == 10) ≡ b → IsReadUpTo xs (take_through 10 xs) (drop_through 10 xs) → IsReadUpTo (x ∷ xs) (take_through 10 (x ∷ xs)) (drop_through 10 (x ∷ xs))
read_on x xs true e r = rw e record { line = []; unbroken = tt; ends = inl (ap (λ n. n ∷ []) (eqb-true x 10 e), ap (λ n. n ∷ xs) (eqb-true x 10 e)) }
read_on x xs false e r = rw e (longer x xs (take_through 10 xs) (drop_through 10 xs) (not_ten x e) r)

read_through : (xs : List ℕ) → IsReadUpTo xs (take_through 10 xs) (drop_through 10 xs)
read_through [] = record { line = []; unbroken = tt; ends = inr (refl, refl, refl) }
read_through (x ∷ xs) = read_on x xs (x == 10) refl (read_through xs)

-- ---- one more line

-- no line stands where nothing is left
no_front : (colours : Bool) (line : ShownLine) (input output input_rest output_rest : List ℕ) → input ≡ [] → ShowsPrefix colours line input output input_rest output_rest → ⊥
no_front colours line input output input_rest output_rest e f = go line.text f.ends
  where
    go : (text : List ℕ) → ((input ≡ text ++ 10 ∷ input_rest) × (output ≡ line.shown ++ 10 ∷ output_rest)) ⊎ ((text ≢ []) × (input ≡ text) × (output ≡ line.shown) × (input_rest ≡ []) × (output_rest ≡ [])) → ⊥
    go [] (inl p) = let k : input ≡ 10 ∷ input_rest = p.0 in cc
    go (x ∷ text) (inl p) = let k : input ≡ x ∷ (text ++ 10 ∷ input_rest) = p.0 in cc
    go text (inr p) = p.0 (sym p.1 ∙ e)

end_stays : (colours : Bool) (lines : List ShownLine) (input rest output : List ℕ) → input ≡ [] → ShowsUpTo colours lines input rest output → rest ≡ []
end_stays colours [] input rest output e w = sym w.0 ∙ e
end_stays colours (l ∷ lines) input rest output e w = absurd (no_front colours l input output w.0 w.1 e w.2)

one_more : (colours : Bool) (lines : List ShownLine) (line : ShownLine) (input rest output more after : List ℕ) → ShowsUpTo colours lines input rest output → ShowsPrefix colours line rest more after [] → ShowsUpTo colours (lines ++ line ∷ []) input after (output ++ more)
one_more colours [] line input rest output more after w f =
    let e : output ++ more ≡ more = ap (λ o. o ++ more) w.1 in
    let g : ShowsPrefix colours line input more after [] = subst (λ i. ShowsPrefix colours line i more after []) (sym w.0) f in
    (after, [], subst (λ o. ShowsPrefix colours line input o after []) (sym e) g, (refl, refl))
one_more colours (l ∷ lines) line input rest output more after w f =
    (w.0, w.1 ++ more, further w.2.ends, one_more colours lines line w.0 rest w.1 more after w.3 f)
  where
    further : ((input ≡ l.text ++ 10 ∷ w.0) × (output ≡ l.shown ++ 10 ∷ w.1)) ⊎ ((l.text ≢ []) × (input ≡ l.text) × (output ≡ l.shown) × (w.0 ≡ []) × (w.1 ≡ [])) → ShowsPrefix colours l input (output ++ more) w.0 (w.1 ++ more)
    further (inl e) = record { unbroken = w.2.unbroken; is_shown = w.2.is_shown; ends = inl (e.0, ap (λ o. o ++ more) e.1 ∙ append_assoc l.shown (10 ∷ w.1) more) }
    further (inr e) = absurd (no_front colours line rest more after [] (end_stays colours lines w.0 rest w.1 e.3 w.3) f)

-- ---- a line that is read

self_longer : (a r : List ℕ) → a ≡ a ++ 10 ∷ r → ⊥
self_longer a r e = absurd (omega (arith, simp length-append at (ap length e)))

-- what is read up to a newline, as a line at the front of the text
shown_front : (colours : Bool) (xs read rest shown : List ℕ) → read ≢ [] → IsReadUpTo xs read rest → (s : ShowsRead colours read [] shown) → ShowsPrefix colours s.line xs shown rest []
shown_front colours xs read rest shown some r s = go r.ends s.ends
  where
    go : ((read ≡ r.line ++ 10 ∷ []) × (xs ≡ r.line ++ 10 ∷ rest)) ⊎ ((read ≡ r.line) × (xs ≡ r.line) × (rest ≡ [])) → ((read ≡ s.line.text ++ 10 ∷ s.rest) × (shown ≡ [] ++ (s.line.shown ++ 10 ∷ []))) ⊎ ((read ≡ s.line.text) × (shown ≡ [] ++ s.line.shown)) → ShowsPrefix colours s.line xs shown rest []
    go (inl p) (inl q) =
        let same = one_first_line read r.line s.line.text [] s.rest (record { unbroken = r.unbroken; ends = inl p.0 }) s.front in
        record { unbroken = s.front.unbroken; is_shown = s.is_shown; ends = inl (p.1 ∙ ap (λ l. l ++ 10 ∷ rest) same.0, q.1) }
    go (inl p) (inr q) =
        let same = one_first_line read r.line s.line.text [] s.rest (record { unbroken = r.unbroken; ends = inl p.0 }) s.front in
        absurd (self_longer r.line [] (same.0 ∙ sym q.0 ∙ p.0))
    go (inr p) (inl q) =
        let filled : r.line ≢ [] = λ e. some (p.0 ∙ e) in
        let same = one_first_line read r.line s.line.text [] s.rest (record { unbroken = r.unbroken; ends = inr (p.0, filled, refl) }) s.front in
        absurd (self_longer s.line.text s.rest (sym same.0 ∙ sym p.0 ∙ q.0))
    go (inr p) (inr q) = record {
      unbroken = s.front.unbroken;
      is_shown = s.is_shown;
      ends = inr ((λ e. some (q.0 ∙ e)), p.1 ∙ sym p.0 ∙ q.0, q.1, p.2, refl);
    }

-- ---- the whole

-- what was read so far of the text, and what it is shown as
pub record ShownSoFar (colours : Bool) (input rest : List ℕ) (before after : Option (List ℕ)) : Type 0 where
  pub lines : List ShownLine
  pub output : List ℕ
  pub shows : ShowsUpTo colours lines input rest output
  pub appends : Appends before after output

abbrev pub ShowsSoFar : Bool → Option (List ℕ) → Option (List ℕ) → Option (List ℕ) → Option (List ℕ) → Type 0
ShowsSoFar colours None rest before after = Unit {0}
ShowsSoFar colours (Some input) None before after = ⊥
ShowsSoFar colours (Some input) (Some rest) before after = ShownSoFar colours input rest before after

pub nothing_yet : (colours : Bool) (input before : Option (List ℕ)) → ShowsSoFar colours input input before before
nothing_yet colours None before = tt
nothing_yet colours (Some input) before = record { lines = []; output = []; shows = (refl, refl); appends = Appends-nil before }

one_line : (colours : Bool) (input rest then_rest before after then_after : Option (List ℕ)) (read shown : List ℕ) → ShowsSoFar colours input rest before after → IfSome rest (λ xs. read ≡ take_through 10 xs) → DropsThrough rest then_rest 10 → ShowsRead colours read [] shown → Appends after then_after shown → ShowsSoFar colours input then_rest before then_after
one_line colours None rest then_rest before after then_after read shown f t d s a = tt
one_line colours (Some input) None then_rest before after then_after read shown f t d s a = absurd f
one_line colours (Some input) (Some xs) then_rest before after then_after read shown f t d s a =
    let r : IsReadUpTo xs read (drop_through 10 xs) = subst (λ b. IsReadUpTo xs b (drop_through 10 xs)) (sym t) (read_through xs) in
    let some : read ≢ [] = λ e. no_line_at_end read s.line.text s.rest e s.front in
    let more : ShownSoFar colours input (drop_through 10 xs) before then_after = record {
      lines = f.lines ++ s.line ∷ [];
      output = f.output ++ shown;
      shows = one_more colours f.lines s.line input xs f.output shown (drop_through 10 xs) f.shows (shown_front colours xs read (drop_through 10 xs) shown some r s);
      appends = Appends-trans before after then_after f.output shown f.appends a;
    } in
    subst (λ o. ShowsSoFar colours (Some input) o before then_after) (sym d) more

read_alone : (rest : Option (List ℕ)) (read emptied : List ℕ) → emptied ≡ [] → IfSome rest (λ xs. read ≡ emptied ++ take_through 10 xs) → IfSome rest (λ xs. read ≡ take_through 10 xs)
read_alone None read emptied e h = tt
read_alone (Some xs) read emptied e h = h ∙ ap (λ bs. bs ++ take_through 10 xs) e

-- a line is read into a buffer that was emptied, is shown in another one, and is written
pub one_line_more : (colours : Bool) (input rest then_rest before after then_after : Option (List ℕ)) (read emptied lent shown cleared written : List ℕ) → ShowsSoFar colours input rest before after → emptied ≡ [] → IfSome rest (λ xs. read ≡ emptied ++ take_through 10 xs) → DropsThrough rest then_rest 10 → lent ≡ read → cleared ≡ [] → ShowsRead colours lent cleared shown → written ≡ shown → Appends after then_after written → ShowsSoFar colours input then_rest before then_after
one_line_more colours input rest then_rest before after then_after read emptied lent shown cleared written f e t d l k s w a =
    let from_empty : ShowsRead colours lent [] shown = subst (λ bs. ShowsRead colours lent bs shown) k s in
    let of_read : ShowsRead colours read [] shown = subst (λ bs. ShowsRead colours bs [] shown) l from_empty in
    one_line colours input rest then_rest before after then_after read shown f (read_alone rest read emptied e t) d of_read (subst (Appends after then_after) w a)

kept : (before after then_after : Option (List ℕ)) (output : List ℕ) → Appends before after output → Keeps after then_after → Appends before then_after output
kept None after then_after output a k = tt
kept (Some x) None then_after output a k = absurd a
kept (Some x) (Some y) None output a k = absurd k
kept (Some x) (Some y) (Some z) output a k = k ∙ a

pub all_lines : (colours : Bool) (input rest before after then_after : Option (List ℕ)) → ShowsSoFar colours input rest before after → IsAtEnd rest → Keeps after then_after → ShowsTrace colours input before then_after
all_lines colours None rest before after then_after f e k = tt
all_lines colours (Some input) None before after then_after f e k = absurd f
all_lines colours (Some input) (Some xs) before after then_after f e k =
    (f.output, (f.lines, subst (λ r. ShowsUpTo colours f.lines input r f.output) e f.shows), kept before after then_after f.output f.appends k)

-- ---- one line

-- a line of a trace
pub dressed : (colours : Bool) (told : TraceLine) (text before a b after : List ℕ) → TellsLine text (Some told) → a ≡ before ++ indent_of told → AddsColoured colours text a b → AddsRemark b after → ShowsLine colours text before after
dressed colours told text before a b after t i k r =
    let whole : after ≡ ((before ++ indent_of told) ++ k.0) ++ r.0 = r.2 ∙ ap (λ x. x ++ r.0) (k.2 ∙ ap (λ x. x ++ k.0) i) in
    let joined : ((before ++ indent_of told) ++ k.0) ++ r.0 ≡ before ++ (indent_of told ++ k.0 ++ r.0) = simp append_assoc in
    (indent_of told ++ k.0 ++ r.0, inr (told, (t told).1 refl, record { coloured = k.0; remark = r.0; in_colour = k.1; is_remark = r.1; whole = refl }), whole ∙ joined)

-- .. that is none of a trace
pub as_it_is : {X E : Type 0} (colours : Bool) (text before after : List ℕ) (added : Result X E) → TellsLine text None → after ≡ (if is_ok added then before ++ text else before) → OnOk added (ShowsLine colours text before after)
as_it_is colours text before after (Ok done) t e = (text, inl ((λ told is. let k : None ≡ Some told = (t told).0 is in cc), refl), e)
as_it_is colours text before after (Err why) t e = tt

pub read_ended : (colours : Bool) (read text rest before shown after : List ℕ) → IsFirstLine read text rest → length text < length read → ShowsLine colours text before shown → after ≡ shown ++ 10 ∷ [] → ShowsRead colours read before after
read_ended colours read text rest before shown after f shorter s e = go f.ends
  where
    go : (read ≡ text ++ 10 ∷ rest) ⊎ ((read ≡ text) × (text ≢ []) × (rest ≡ [])) → ShowsRead colours read before after
    go (inl p) = record { line = record { text = text; shown = s.0 }; rest = rest; is_shown = s.1; front = f; ends = inl (p, e ∙ ap (λ x. x ++ 10 ∷ []) s.2 ∙ append_assoc before s.0 (10 ∷ [])) }
    go (inr p) = absurd (omega (arith, ap length p.0))

pub read_whole : (colours : Bool) (read text rest before after : List ℕ) → IsFirstLine read text rest → length read ≤ length text → ShowsLine colours text before after → ShowsRead colours read before after
read_whole colours read text rest before after f as_long s = go f.ends
  where
    go : (read ≡ text ++ 10 ∷ rest) ⊎ ((read ≡ text) × (text ≢ []) × (rest ≡ [])) → ShowsRead colours read before after
    go (inl p) = absurd (omega (arith, simp length-append at (ap length p)))
    go (inr p) = record { line = record { text = text; shown = s.0 }; rest = rest; is_shown = s.1; front = f; ends = inr (p.0, s.2) }
