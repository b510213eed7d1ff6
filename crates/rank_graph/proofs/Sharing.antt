-- Entries that several nodes share.
use Rattle.std.proofs.Common.{◌≡◌, ℕ, zero, suc, ◌+◌, ◌-◌, ◌≤◌, ◌<◌, inl, inr, List, [], ◌∷◌, ◌++◌, length, map, replicate, take, set, get_or, slice_get, unwrap_or, Option, None, Some, refl, sym, ap, ◌∙◌, subst, arith}
use Rattle.std.specs.Option.{option_map}
use Rattle.std.proofs.lemmas.Bool.{cases_eq, cases_lt}
use Rattle.std.proofs.lemmas.List.{get_or_past, get_or-map, map-set, length-map, length-append, take_all, get_or-set_same, get_or-set_other, get_or_append_left, get_or_push, get_or-replicate, length-replicate}
use Rattle.std.proofs.lemmas.Option.{get_or_from_slice_get, unwrap_or-slice_get, slice_get-map, slice_get_within}
use Rattle.rank_graph.specs.Searching.{state_of, AllDone}
use Rattle.rank_graph.specs.Shared.{no_entry, entry_in, state_in, IsKept, AreKept, AreLeft, HasEntry}
use Rattle.rank_graph.specs.declared.bits.Bits.{Bits}
use Rattle.rank_graph.specs.declared.path.NodeRank.{NodeRank}
use Rattle.rank_graph.specs.declared.path.VisitState.{VisitState}
use Rattle.rank_graph.specs.declared.path.VisitState.TheVariants.{New, Open, Done}
use Rattle.rank_graph.specs.declared.states.NodeMark.{NodeMark}
use Rattle.rank_graph.specs.declared.states.NodeMark.TheVariants.{Unmet, Entered, Left}

-- ---- what is read
pub inside_marks : (es : List NodeRank) (marks : List NodeMark) (whole : List VisitState) (a : ℕ) → map (state_in es) marks ≡ whole → a < length whole → a < length marks
inside_marks es marks whole a view inside =
    let same : length whole ≡ length marks = sym (ap (λ (s : List VisitState). length s) view) ∙ length-map marks (state_in es) in
    omega arith

pub state_read : (es : List NodeRank) (marks read : List NodeMark) (whole : List VisitState) (a : ℕ) (m : NodeMark) → map (state_in es) marks ≡ whole → read ≡ marks → a < length whole → get_or read a Unmet ≡ m → state_in es m ≡ state_of whole a
unfolding state_of
state_read es marks read whole a m view same inside is =
    let at : get_or (map (state_in es) marks) a New ≡ state_in es (get_or marks a Unmet) = get_or-map (state_in es) marks a Unmet New (inside_marks es marks whole a view inside) in
    ap (state_in es) (sym is ∙ ap (λ (l : List NodeMark). get_or l a Unmet) same) ∙ sym at ∙ ap (λ (s : List VisitState). get_or s a New) view

pub state_left : (es entries : List NodeRank) (marks read : List NodeMark) (whole : List VisitState) (a n : ℕ) (e : NodeRank) → map (state_in es) marks ≡ whole → read ≡ marks → a < length whole → get_or read a Unmet ≡ Left n → entries ≡ es → e ≡ entry_in entries n → Done e ≡ state_of whole a
state_left es entries marks read whole a n e view same inside is entries_are found =
    ap (λ (x : NodeRank). Done x) (found ∙ ap (λ (l : List NodeRank). entry_in l n) entries_are) ∙ state_read es marks read whole a (Left n) view same inside is

-- ---- what is written
pub states_set : (es : List NodeRank) (marks after : List NodeMark) (whole : List VisitState) (a : ℕ) (m : NodeMark) → map (state_in es) marks ≡ whole → after ≡ set marks a m → map (state_in es) after ≡ set whole a (state_in es m)
states_set es marks after whole a m view is =
    ap (λ (l : List NodeMark). map (state_in es) l) is ∙ map-set (state_in es) marks a m ∙ ap (λ (s : List VisitState). set s a (state_in es m)) view

pub kept_set : (es : List NodeRank) (marks after : List NodeMark) (a : ℕ) (m : NodeMark) → a < length marks → after ≡ set marks a m → IsKept es m → AreKept es marks → AreKept es after
kept_set es marks after a m inside is here kept =
    subst (λ (l : List NodeMark). AreKept es l) (sym is) (λ b.
    elim (cases_eq b a) [
      | inl e ↦ subst (λ (x : NodeMark). IsKept es x) (sym (ap (λ (x : ℕ). get_or (set marks a m) x Unmet) e ∙ get_or-set_same marks a m Unmet inside)) here
      | inr ne ↦ subst (λ (x : NodeMark). IsKept es x) (sym (get_or-set_other marks a b m Unmet ne)) (kept b)
    ])

-- ---- more entries
kept_one : (es more : List NodeRank) (m : NodeMark) → length es ≤ length more → IsKept es m → IsKept more m
kept_one es more Unmet less h = tt
kept_one es more Entered less h = tt
kept_one es more (Left n) less h = omega arith

same_one : (es more : List NodeRank) (m : NodeMark) → ((k : ℕ) → k < length es → entry_in more k ≡ entry_in es k) → IsKept es m → state_in more m ≡ state_in es m
same_one es more Unmet same h = refl
same_one es more Entered same h = refl
same_one es more (Left n) same h = ap (λ (e : NodeRank). Done e) (same n h)

same_map : (es more : List NodeRank) (marks : List NodeMark) → ((k : ℕ) → k < length es → entry_in more k ≡ entry_in es k) → AreKept es marks → map (state_in more) marks ≡ map (state_in es) marks
same_map es more [] same kept = refl
same_map es more (m ∷ marks) same kept =
    ap (λ (s : VisitState). s ∷ map (state_in more) marks) (same_one es more m same (kept 0)) ∙ ap (λ (l : List VisitState). state_in es m ∷ l) (same_map es more marks same (λ a. kept (suc a)))

pub left_set : (es more : List NodeRank) (marks after : List NodeMark) (whole : List VisitState) (a n : ℕ) (e : NodeRank) → map (state_in es) marks ≡ whole → AreKept es marks → HasEntry es more e n → after ≡ set marks a (Left n) → map (state_in more) after ≡ set whole a (Done e)
left_set es more marks after whole a n e view kept has is =
    states_set more marks after whole a (Left n) (same_map es more marks has.kept kept ∙ view) is ∙ ap (λ (x : NodeRank). set whole a (Done x)) has.is

pub left_kept : (es more : List NodeRank) (marks after : List NodeMark) (whole : List VisitState) (a n : ℕ) (e : NodeRank) → map (state_in es) marks ≡ whole → a < length whole → AreKept es marks → HasEntry es more e n → after ≡ set marks a (Left n) → AreKept more after
left_kept es more marks after whole a n e view inside kept has is =
    kept_set more marks after a (Left n) (inside_marks es marks whole a view inside) is has.inside (λ b. kept_one es more (get_or marks b Unmet) has.more (kept b))

pub has_known : (es read : List NodeRank) (e : NodeRank) (n : ℕ) → read ≡ es → slice_get read n ≡ Some e → HasEntry es es e n
unfolding entry_in
has_known es read e n same there =
    let here : slice_get es n ≡ Some e = subst (λ (l : List NodeRank). slice_get l n ≡ Some e) same there in
    record {
      inside = slice_get_within es n e here;
      is = get_or_from_slice_get es n e no_entry here;
      more = omega arith;
      kept = λ k low. refl;
    }

pub has_pushed : (es more : List NodeRank) (e : NodeRank) (n : ℕ) → n ≡ length es → more ≡ es ++ e ∷ [] → HasEntry es more e n
unfolding entry_in
has_pushed es more e n count is =
    let long : length more ≡ length es + 1 = ap (λ (l : List NodeRank). length l) is ∙ length-append es (e ∷ []) in
    record {
      inside = omega arith;
      is = ap (λ (l : List NodeRank). get_or l n no_entry) is ∙ ap (λ (k : ℕ). get_or (es ++ e ∷ []) k no_entry) count ∙ get_or_push es e no_entry (length es) refl;
      more = omega arith;
      kept = λ k low. ap (λ (l : List NodeRank). get_or l k no_entry) is ∙ get_or_append_left es (e ∷ []) no_entry k low;
    }

-- ---- before a search
pub unmet_marks : (n k : ℕ) (before marks : List NodeMark) → before ≡ [] → k ≡ 0 → marks ≡ take n before ++ replicate (n - k) Unmet → marks ≡ replicate n Unmet
unmet_marks n k before marks none no_length e =
    e ∙ ap (λ (l : List NodeMark). take n l ++ replicate (n - k) Unmet) none ∙ ap (λ (l : List NodeMark). l ++ replicate (n - k) Unmet) (take_all n [] (omega arith))
    ∙ ap (λ (m : ℕ). replicate m Unmet) (omega (arith, no_length))

pub new_states : (es : List NodeRank) (n : ℕ) (marks : List NodeMark) → marks ≡ replicate n Unmet → map (state_in es) marks ≡ replicate n New
new_states es n marks is = ap (λ (l : List NodeMark). map (state_in es) l) is ∙ each n
  where
    each : (n : ℕ) → map (state_in es) (replicate n Unmet) ≡ replicate n New
    each zero = refl
    each (suc n) = ap (λ (l : List VisitState). New ∷ l) (each n)

pub new_kept : (es : List NodeRank) (n : ℕ) (marks : List NodeMark) → marks ≡ replicate n Unmet → AreKept es marks
new_kept es n marks is =
    λ a.
    let here : get_or marks a Unmet ≡ Unmet =
    elim (cases_lt a n) [
      | inl l ↦ rw is (get_or-replicate n a Unmet Unmet l)
      | inr m ↦ get_or_past marks a Unmet (rw (is, length-replicate) m)
    ] in
    subst (λ (x : NodeMark). IsKept es x) (sym here) tt

-- ---- what was found
left_of : (es : List NodeRank) (m : NodeMark) (d : NodeRank) → state_in es m ≡ Done d → (n : ℕ) × (m ≡ Left n)
left_of es Unmet d e = let bad : New ≡ Done d = e in cc
left_of es Entered d e = let bad : Open ≡ Done d = e in cc
left_of es (Left n) d e = (n, refl)

pub all_left : (es : List NodeRank) (marks read : List NodeMark) (whole : List VisitState) → map (state_in es) marks ≡ whole → read ≡ marks → AllDone whole → AreLeft read
all_left es marks read whole view same all =
    λ a inside.
    let count : length whole ≡ length read = sym (ap (λ (s : List VisitState). length s) view) ∙ length-map marks (state_in es) ∙ sym (ap (λ (l : List NodeMark). length l) same) in
    let low : a < length whole = omega arith in
    let done = all a low in
    left_of es (get_or read a Unmet) done.0 (state_read es marks read whole a (get_or read a Unmet) view same low refl ∙ done.1)

pub done_map : (es : List NodeRank) (marks read : List NodeMark) (numbers : List ℕ) (whole : List VisitState) → map (state_in es) marks ≡ whole → read ≡ marks → map Left numbers ≡ read → map Done (map (entry_in es) numbers) ≡ whole
done_map es marks read numbers whole view same is =
    each numbers ∙ ap (λ (l : List NodeMark). map (state_in es) l) (is ∙ same) ∙ view
  where
    each : (ns : List ℕ) → map Done (map (entry_in es) ns) ≡ map (state_in es) (map Left ns)
    each [] = refl
    each (n ∷ ns) = ap (λ (l : List VisitState). Done (entry_in es n) ∷ l) (each ns)

pub entry_some : (es read : List NodeRank) (numbers ns : List ℕ) (whole : List NodeRank) (a n : ℕ) (e : NodeRank) → map (entry_in es) numbers ≡ whole → ns ≡ numbers → Some n ≡ slice_get ns a → read ≡ es → e ≡ entry_in read n → Some e ≡ slice_get whole a
entry_some es read numbers ns whole a n e view same there entries is =
    ap (λ (x : NodeRank). Some x) (is ∙ ap (λ (l : List NodeRank). entry_in l n) entries) ∙ ap (λ (o : Option ℕ). option_map (entry_in es) o) (there ∙ ap (λ (l : List ℕ). slice_get l a) same)
    ∙ sym (slice_get-map (entry_in es) numbers a) ∙ ap (λ (l : List NodeRank). slice_get l a) view

pub entry_none : (es : List NodeRank) (numbers ns : List ℕ) (whole : List NodeRank) (a : ℕ) → map (entry_in es) numbers ≡ whole → ns ≡ numbers → None ≡ slice_get ns a → None ≡ slice_get whole a
entry_none es numbers ns whole a view same there =
    ap (λ (o : Option ℕ). option_map (entry_in es) o) (there ∙ ap (λ (l : List ℕ). slice_get l a) same) ∙ sym (slice_get-map (entry_in es) numbers a) ∙ ap (λ (l : List NodeRank). slice_get l a) view

-- ---- single entries
pub same_entry : (d e : NodeRank) → d.rank ≡ e.rank → d.classes ≡ e.classes → d ≡ e
same_entry d e ranks classes =
    let ranked : ℕ → NodeRank = λ x. record { rank = x; classes = d.classes } in
    let leading : Bits → NodeRank = λ x. record { rank = e.rank; classes = x } in
    let first : d ≡ ranked e.rank = ap ranked ranks in
    let second : ranked e.rank ≡ e = ap leading classes in
    first ∙ second

pub entry_here : (es : List NodeRank) (n : ℕ) (e : NodeRank) → Some e ≡ slice_get es n → e ≡ entry_in es n
unfolding entry_in
entry_here es n e there = sym (get_or_from_slice_get es n e no_entry (sym there))

pub entry_past : (es : List NodeRank) (n : ℕ) (none : Bits) → none.bits ≡ 0 → None ≡ slice_get es n → record { rank = 0; classes = none } ≡ entry_in es n
unfolding entry_in
entry_past es n none zeros there =
    let here : slice_get es n ≡ None = sym there in
    let of_bits : ℕ → NodeRank = λ x. record { rank = 0; classes = record { bits = x } } in
    ap of_bits zeros ∙ sym (sym (unwrap_or-slice_get es n no_entry) ∙ ap (λ (o : Option NodeRank). unwrap_or o no_entry) here)
