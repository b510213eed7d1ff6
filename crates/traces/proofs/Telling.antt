-- What a line of a trace tells, both ways.
use Rattle.std.proofs.Common.{◌≡◌, ◌≢◌, ◌∙◌, sym, ap, refl, subst, ℕ, ◌<◌, ◌≤◌, ◌↔◌, List, [], ◌∷◌, ◌++◌, ◌⊎◌, inl, inr, Option, Some, None, Bool, true, false, if◌then◌else◌, nat_eq, Bor, codes, option_map, arith}
use Rattle.std.proofs.lemmas.Bool.Decides.{nat_tests}
use Rattle.std.proofs.lemmas.List.Elements.{recursion_from_All}
use Rattle.std.specs.List.{AllByRecursion}
use Rattle.basic_types.specs.Name.{is_digit}
use Rattle.texts.specs.Numerals.{IsNumeral}
use Rattle.traces.specs.Words.{CutsWord, IsFollowed}
use Rattle.traces.specs.Lines.{BeginsAsKind, IsTraceLine, EndsEvent, IsPlain, IsWide, IsLine, EndsLine, IsEntry, TellsLine, TellsEnd, TellsEntry, TellsPlain, TellsReason, TellsNumber, kind_word}
use Rattle.traces.specs.Events.{IsEventsLine, event_of}
use Rattle.traces.specs.declared.reading.line.LineKind.{LineKind}
use Rattle.traces.specs.declared.reading.line.LineKind.TheVariants as kind
use Rattle.traces.specs.declared.reading.line.TraceLine.{TraceLine}
use Rattle.traces.specs.declared.reading.line.TraceLine.TheVariants as line

-- ---- words

abbrev pub IsOneWord : List ℕ → Type 0
IsOneWord word = AllByRecursion (λ b. b ≢ 32) word

one_cut : (a b r s : List ℕ) → IsOneWord a → IsOneWord b → a ++ 32 ∷ r ≡ b ++ 32 ∷ s → (a ≡ b) × (r ≡ s)
one_cut [] [] r s p q e = (refl, cc)
one_cut [] (y ∷ b) r s p q e = let k : 32 ≡ y = cc in absurd (q.0 (sym k))
one_cut (x ∷ a) [] r s p q e = let k : x ≡ 32 = cc in absurd (p.0 k)
one_cut (x ∷ a) (y ∷ b) r s p q e = let m = one_cut a b r s p.1 q.1 cc in (cc, m.1)

no_blank : (a b r : List ℕ) → IsOneWord a → a ≡ b ++ 32 ∷ r → ⊥
no_blank [] [] r p e = cc
no_blank [] (y ∷ b) r p e = cc
no_blank (x ∷ a) [] r p e = let k : x ≡ 32 = cc in p.0 k
no_blank (x ∷ a) (y ∷ b) r p e = no_blank a b r p.1 cc

-- this follows the word
abbrev pub Leaves : Option (Bor (List ℕ)) → List ℕ → Type 0
Leaves None rest = ⊥
Leaves (Some found) rest = found.now ≡ rest

pub first_word : (text word first rest : List ℕ) (after : Option (Bor (List ℕ))) → CutsWord text word after → IsOneWord first → text ≡ first ++ 32 ∷ rest → (word ≡ first) × Leaves after rest
first_word text word first rest None c p e = absurd (no_blank word first rest c.unbroken (sym c.followed ∙ e))
first_word text word first rest (Some found) c p e = one_cut word first found.now rest c.unbroken p (sym c.followed ∙ e)

pub only_word : (text word : List ℕ) (after : Option (Bor (List ℕ))) → CutsWord text word after → IsOneWord text → (word ≡ text) × (after ≡ None)
only_word text word None c p = (sym c.followed, refl)
only_word text word (Some found) c p = absurd (no_blank text word found.now p c.followed)

digit : (b : ℕ) → is_digit b ≡ true → b ≢ 32
digit b h e = grind (arith, nat_tests)

each_digit : (digits : List ℕ) → AllByRecursion (λ d. is_digit d ≡ true) digits → IsOneWord digits
each_digit [] h = tt
each_digit (d ∷ digits) h = (digit d h.0, each_digit digits h.1)

numeral_word : (digits : List ℕ) (n : ℕ) → IsNumeral digits n → IsOneWord digits
numeral_word digits n h = each_digit digits (recursion_from_All (λ d. is_digit d ≡ true) digits h.digits)

one_number : (digits other : List ℕ) (n m : ℕ) → IsNumeral digits n → IsNumeral other m → digits ≡ other → n ≡ m
one_number digits other n m h k e = let same = subst (λ d. IsNumeral d n) e h in same.value ∙ sym k.value

-- no byte is a blank
abbrev no_blanks : List ℕ → Bool
no_blanks [] = true
no_blanks (b ∷ bs) = if nat_eq b 32 then false else no_blanks bs

later_none : (here later : Bool) → (if here then false else later) ≡ true → later ≡ true
later_none true later h = cc
later_none false later h = h

one_by_test : (word : List ℕ) → no_blanks word ≡ true → IsOneWord word
one_by_test [] h = tt
one_by_test (b ∷ bs) h =
    ((λ e. let k : false ≡ true = subst (λ x. no_blanks (x ∷ bs) ≡ true) e h in cc), one_by_test bs (later_none (nat_eq b 32) (no_blanks bs) h))

event_word : IsOneWord (codes "event")
event_word = one_by_test (codes "event") refl

fault_word : IsOneWord (codes "fault")
fault_word = one_by_test (codes "fault") refl

kind_blankless : (k : LineKind) → no_blanks (kind_word k) ≡ true
kind_blankless kind.Emit = refl
kind_blankless kind.Call = refl
kind_blankless kind.Native = refl
kind_blankless kind.Post = refl
kind_blankless kind.Dead = refl
kind_blankless kind.Set = refl
kind_blankless kind.Bind = refl
kind_blankless kind.Follow = refl
kind_blankless kind.Connect = refl
kind_blankless kind.Disconnect = refl
kind_blankless (kind.Refused reason) = refl
kind_blankless kind.Null = refl
kind_blankless kind.Group = refl

kind_word_is_one : (k : LineKind) → IsOneWord (kind_word k)
kind_word_is_one k = one_by_test (kind_word k) (kind_blankless k)

-- ---- words that differ by their first bytes

abbrev begins_with : ℕ → List ℕ → Bool
begins_with first [] = false
begins_with first (b ∷ bs) = nat_eq b first

event_not_fault : codes "event" ≡ codes "fault" → ⊥
event_not_fault e = let k : false ≡ true = ap (begins_with 102) e in cc

false_not_true : false ≡ true → ⊥
false_not_true e = cc

-- the kind is that of a refusal, by its word
refused_so : (k : LineKind) → kind_word k ≡ codes "refused" → (reason : ℕ) × (k ≡ kind.Refused reason)
refused_so kind.Emit e = let f : false ≡ true = ap (begins_with 114) e in absurd (false_not_true f)
refused_so kind.Call e = let f : false ≡ true = ap (begins_with 114) e in absurd (false_not_true f)
refused_so kind.Native e = let f : false ≡ true = ap (begins_with 114) e in absurd (false_not_true f)
refused_so kind.Post e = let f : false ≡ true = ap (begins_with 114) e in absurd (false_not_true f)
refused_so kind.Dead e = let f : false ≡ true = ap (begins_with 114) e in absurd (false_not_true f)
refused_so kind.Set e = let f : false ≡ true = ap (begins_with 114) e in absurd (false_not_true f)
refused_so kind.Bind e = let f : false ≡ true = ap (begins_with 114) e in absurd (false_not_true f)
refused_so kind.Follow e = let f : false ≡ true = ap (begins_with 114) e in absurd (false_not_true f)
refused_so kind.Connect e = let f : false ≡ true = ap (begins_with 114) e in absurd (false_not_true f)
refused_so kind.Disconnect e = let f : false ≡ true = ap (begins_with 114) e in absurd (false_not_true f)
refused_so (kind.Refused reason) e = (reason, refl)
refused_so kind.Null e = let f : false ≡ true = ap (begins_with 114) e in absurd (false_not_true f)
refused_so kind.Group e = let f : false ≡ true = ap (begins_with 114) e in absurd (false_not_true f)

-- ---- an entry, by its word and what follows it

abbrev pub Follows : LineKind → List ℕ → Type 0
Follows (kind.Refused reason) rest = IsNumeral rest reason
Follows kind.Null rest = ⊥
Follows kind.Group rest = ⊥
Follows _ rest = Unit {0}

plain_bounded : (k : LineKind) (text : List ℕ) → IsPlain k → BeginsAsKind text k → IsEntry text k
plain_bounded kind.Emit text h b = (tt, b)
plain_bounded kind.Call text h b = (tt, b)
plain_bounded kind.Native text h b = (tt, b)
plain_bounded kind.Post text h b = (tt, b)
plain_bounded kind.Dead text h b = (tt, b)
plain_bounded kind.Set text h b = (tt, b)
plain_bounded kind.Bind text h b = (tt, b)
plain_bounded kind.Follow text h b = (tt, b)
plain_bounded kind.Connect text h b = (tt, b)
plain_bounded kind.Disconnect text h b = (tt, b)
plain_bounded (kind.Refused reason) text h b = absurd h
plain_bounded kind.Null text h b = absurd h
plain_bounded kind.Group text h b = absurd h

event_no_numeral : (n : ℕ) → IsNumeral (codes "event") n → ⊥
event_no_numeral n k = let d : false ≡ true = (recursion_from_All (λ d. is_digit d ≡ true) (codes "event") k.digits).0 in false_not_true d

fault_no_numeral : (n : ℕ) → IsNumeral (codes "fault") n → ⊥
fault_no_numeral n k = let d : false ≡ true = (recursion_from_All (λ d. is_digit d ≡ true) (codes "fault") k.digits).0 in false_not_true d

module _ (text word : List ℕ) (after : Option (Bor (List ℕ))) (c : CutsWord text word after) where
  whole_of : (rest : Bor (List ℕ)) → after ≡ Some rest → text ≡ word ++ 32 ∷ rest.now
  whole_of rest e = subst (λ o. IsFollowed text word o) e c.followed

  -- a word and a rest
  cut_so : (first more : List ℕ) (rest : Bor (List ℕ)) → after ≡ Some rest → IsOneWord first → text ≡ first ++ 32 ∷ more → (word ≡ first) × (rest.now ≡ more)
  cut_so first more rest e one t = let w = first_word text word first more after c one t in (w.0, subst (λ o. Leaves o more) e w.1)

  uncut_so : (first more : List ℕ) → after ≡ None → IsOneWord first → text ≡ first ++ 32 ∷ more → ⊥
  uncut_so first more e one t = let w = first_word text word first more after c one t in subst (λ o. Leaves o more) e w.1

  alone_so : after ≡ None → text ≡ word
  alone_so e = subst (λ o. IsFollowed text word o) e c.followed

  not_alone : (what : LineKind) (rest : Bor (List ℕ)) → after ≡ Some rest → text ≡ kind_word what → ⊥
  not_alone what rest e t = no_blank (kind_word what) word rest.now (kind_word_is_one what) (sym t ∙ whole_of rest e)

  entry_behind : (rest : Bor (List ℕ)) → after ≡ Some rest → (what : LineKind) → BeginsAsKind text what → (word ≡ kind_word what) × Follows what rest.now
  entry_behind rest e kind.Emit b = ((cut_so (kind_word kind.Emit) b.0 rest e (kind_word_is_one kind.Emit) b.1).0, tt)
  entry_behind rest e kind.Call b = ((cut_so (kind_word kind.Call) b.0 rest e (kind_word_is_one kind.Call) b.1).0, tt)
  entry_behind rest e kind.Native (inl t) = absurd (not_alone kind.Native rest e t)
  entry_behind rest e kind.Native (inr b) = ((cut_so (kind_word kind.Native) b.0 rest e (kind_word_is_one kind.Native) b.1).0, tt)
  entry_behind rest e kind.Post b = ((cut_so (kind_word kind.Post) b.0 rest e (kind_word_is_one kind.Post) b.1).0, tt)
  entry_behind rest e kind.Dead b = ((cut_so (kind_word kind.Dead) b.0 rest e (kind_word_is_one kind.Dead) b.1).0, tt)
  entry_behind rest e kind.Set b = ((cut_so (kind_word kind.Set) b.0 rest e (kind_word_is_one kind.Set) b.1).0, tt)
  entry_behind rest e kind.Bind b = ((cut_so (kind_word kind.Bind) b.0 rest e (kind_word_is_one kind.Bind) b.1).0, tt)
  entry_behind rest e kind.Follow b = ((cut_so (kind_word kind.Follow) b.0 rest e (kind_word_is_one kind.Follow) b.1).0, tt)
  entry_behind rest e kind.Connect b = ((cut_so (kind_word kind.Connect) b.0 rest e (kind_word_is_one kind.Connect) b.1).0, tt)
  entry_behind rest e kind.Disconnect b = ((cut_so (kind_word kind.Disconnect) b.0 rest e (kind_word_is_one kind.Disconnect) b.1).0, tt)
  entry_behind rest e (kind.Refused reason) b =
      let w = cut_so (codes "refused") b.0 rest e (kind_word_is_one (kind.Refused reason)) b.2 in
      (w.0, subst (λ d. IsNumeral d reason) (sym w.1) b.1)
  entry_behind rest e kind.Null b = absurd (not_alone kind.Null rest e b)
  entry_behind rest e kind.Group b = absurd (not_alone kind.Group rest e b)

  entry_from : (rest : Bor (List ℕ)) → after ≡ Some rest → (what : LineKind) → word ≡ kind_word what → Follows what rest.now → BeginsAsKind text what
  entry_from rest e kind.Emit w f = (rest.now, whole_of rest e ∙ ap (λ x. x ++ 32 ∷ rest.now) w)
  entry_from rest e kind.Call w f = (rest.now, whole_of rest e ∙ ap (λ x. x ++ 32 ∷ rest.now) w)
  entry_from rest e kind.Native w f = inr (rest.now, whole_of rest e ∙ ap (λ x. x ++ 32 ∷ rest.now) w)
  entry_from rest e kind.Post w f = (rest.now, whole_of rest e ∙ ap (λ x. x ++ 32 ∷ rest.now) w)
  entry_from rest e kind.Dead w f = (rest.now, whole_of rest e ∙ ap (λ x. x ++ 32 ∷ rest.now) w)
  entry_from rest e kind.Set w f = (rest.now, whole_of rest e ∙ ap (λ x. x ++ 32 ∷ rest.now) w)
  entry_from rest e kind.Bind w f = (rest.now, whole_of rest e ∙ ap (λ x. x ++ 32 ∷ rest.now) w)
  entry_from rest e kind.Follow w f = (rest.now, whole_of rest e ∙ ap (λ x. x ++ 32 ∷ rest.now) w)
  entry_from rest e kind.Connect w f = (rest.now, whole_of rest e ∙ ap (λ x. x ++ 32 ∷ rest.now) w)
  entry_from rest e kind.Disconnect w f = (rest.now, whole_of rest e ∙ ap (λ x. x ++ 32 ∷ rest.now) w)
  entry_from rest e (kind.Refused reason) w f = (rest.now, f, whole_of rest e ∙ ap (λ x. x ++ 32 ∷ rest.now) w)
  entry_from rest e kind.Null w f = absurd f
  entry_from rest e kind.Group w f = absurd f

  plain_follows : (rest : Bor (List ℕ)) (what : LineKind) → (word ≡ codes "refused" → ⊥) → word ≡ kind_word what → Follows what rest.now → IsPlain what
  plain_follows rest kind.Emit other w f = tt
  plain_follows rest kind.Call other w f = tt
  plain_follows rest kind.Native other w f = tt
  plain_follows rest kind.Post other w f = tt
  plain_follows rest kind.Dead other w f = tt
  plain_follows rest kind.Set other w f = tt
  plain_follows rest kind.Bind other w f = tt
  plain_follows rest kind.Follow other w f = tt
  plain_follows rest kind.Connect other w f = tt
  plain_follows rest kind.Disconnect other w f = tt
  plain_follows rest (kind.Refused reason) other w f = absurd (other w)
  plain_follows rest kind.Null other w f = absurd f
  plain_follows rest kind.Group other w f = absurd f

  follows_plain : (rest : Bor (List ℕ)) (what : LineKind) → IsPlain what → Follows what rest.now
  follows_plain rest kind.Emit p = tt
  follows_plain rest kind.Call p = tt
  follows_plain rest kind.Native p = tt
  follows_plain rest kind.Post p = tt
  follows_plain rest kind.Dead p = tt
  follows_plain rest kind.Set p = tt
  follows_plain rest kind.Bind p = tt
  follows_plain rest kind.Follow p = tt
  follows_plain rest kind.Connect p = tt
  follows_plain rest kind.Disconnect p = tt
  follows_plain rest (kind.Refused reason) p = absurd p
  follows_plain rest kind.Null p = absurd p
  follows_plain rest kind.Group p = absurd p

  -- ---- what an entry tells

  refused_number : (rest : Bor (List ℕ)) (reason : ℕ) → after ≡ Some rest → IsEntry text (kind.Refused reason) → (word ≡ codes "refused") × IsNumeral rest.now reason
  refused_number rest reason e g = entry_behind rest e (kind.Refused reason) g.1

  pub other_word : (rest : Bor (List ℕ)) → after ≡ Some rest → (word ≡ codes "refused" → ⊥) → TellsReason text None
  other_word rest e other reason = ((λ g. absurd (other ((refused_number rest reason e g).0))), (λ s. cc))

  pub tells_reason : (rest : Bor (List ℕ)) (found : Option ℕ) → after ≡ Some rest → word ≡ codes "refused" → TellsNumber rest.now found → TellsReason text found
  tells_reason rest found e w r reason = (
    (λ g. (r reason).0 (g.0, (refused_number rest reason e g).1)),
    (λ s. let n = (r reason).1 s in (n.0, entry_from rest e (kind.Refused reason) w n.1)),
  )

  pub tells_refused : (rest : Bor (List ℕ)) (found : Option ℕ) (told : Option LineKind) → after ≡ Some rest → word ≡ codes "refused" → TellsNumber rest.now found → told ≡ option_map kind.Refused found → TellsEntry text told
  tells_refused rest found told e w r t what = (there, back found r t)
    where
      there : IsEntry text what → told ≡ Some what
      there g =
          let f = entry_behind rest e what g.1 in
          let k = refused_so what (sym f.0 ∙ w) in
          let h : IsEntry text (kind.Refused k.0) = subst (λ x. IsEntry text x) k.1 g in
          let n = (r k.0).0 (h.0, (refused_number rest k.0 e h).1) in
          t ∙ ap (option_map kind.Refused) n ∙ ap Some (sym k.1)

      back : (o : Option ℕ) → TellsNumber rest.now o → told ≡ option_map kind.Refused o → told ≡ Some what → IsEntry text what
      back None q u s = let k : None ≡ Some what = sym u ∙ s in cc
      back (Some n) q u s =
          let k : Some (kind.Refused n) ≡ Some what = sym u ∙ s in
          let same : kind.Refused n ≡ what = cc in
          let i = (q n).1 refl in
          subst (λ x. IsEntry text x) same (i.0, entry_from rest e (kind.Refused n) w i.1)

  pub tells_plain : (rest : Bor (List ℕ)) (found : Option LineKind) → after ≡ Some rest → (word ≡ codes "refused" → ⊥) → TellsPlain word found → TellsEntry text found
  tells_plain rest found e other p what = (
    (λ g. let f = entry_behind rest e what g.1 in (p what).0 (plain_follows rest what other f.0 f.1, f.0)),
    (λ s. let i = (p what).1 s in plain_bounded what text i.0 (entry_from rest e what i.1 (follows_plain rest what i.0))),
  )

  -- ---- behind the word `event`

  pub end_too_large : ((n : ℕ) → IsNumeral word n → 18446744073709551615 < n) → TellsEnd text None
  end_too_large none told = ((λ g. absurd (large told g)), (λ s. cc))
    where
      large : (it : TraceLine) → EndsLine text it → ⊥
      large (line.Accepted event) g =
          let n = subst (λ d. IsNumeral d event) (sym ((only_word text word after c (numeral_word text event g.1)).0)) g.1 in
          let least = none event n in let most = g.0 in absurd (omega (arith, least, most))
      large (line.Refused event reason) g =
          let w = first_word text word g.1.0 g.1.1 after c (numeral_word g.1.0 event g.1.2) g.1.4 in
          let least = none event (subst (λ d. IsNumeral d event) (sym w.0) g.1.2) in let most = g.0.0 in absurd (omega (arith, least, most))
      large (line.At depth what) g = g.1
      large (line.Fault fault) g = g.1

  pub ends_accepted : (n : ℕ) → after ≡ None → IsNumeral word n → n ≤ 18446744073709551615 → TellsEnd text (Some (line.Accepted n))
  ends_accepted n e k most told = (there told, back)
    where
      there : (it : TraceLine) → EndsLine text it → Some (line.Accepted n) ≡ Some it
      there (line.Accepted event) g = ap (λ m. Some (line.Accepted m)) (one_number word text n event k g.1 (sym (alone_so e)))
      there (line.Refused event reason) g = absurd (uncut_so g.1.0 g.1.1 e (numeral_word g.1.0 event g.1.2) g.1.4)
      there (line.At depth what) g = absurd g.1
      there (line.Fault fault) g = absurd g.1

      back : Some (line.Accepted n) ≡ Some told → EndsLine text told
      back s =
          let same : line.Accepted n ≡ told = cc in
          let wide : IsWide n = omega (arith, most) in
          subst (λ x. EndsLine text x) same (wide, subst (λ d. IsNumeral d n) (sym (alone_so e)) k)

  -- what stands behind the number of an event that was refused
  refused_end : (rest : Bor (List ℕ)) (n event reason : ℕ) → after ≡ Some rest → IsNumeral word n → EndsLine text (line.Refused event reason) → (n ≡ event) × IsEntry rest.now (kind.Refused reason)
  refused_end rest n event reason e k g =
      let w = cut_so g.1.0 g.1.1 rest e (numeral_word g.1.0 event g.1.2) g.1.4 in
      (one_number word g.1.0 n event k g.1.2 w.0, (g.0.1, subst (λ r. BeginsAsKind r (kind.Refused reason)) (sym w.1) g.1.3))

  no_numeral : (rest : Bor (List ℕ)) (event : ℕ) → after ≡ Some rest → IsNumeral text event → ⊥
  no_numeral rest event e n = no_blank text word rest.now (numeral_word text event n) (whole_of rest e)

  pub ends_refused : (rest : Bor (List ℕ)) (n : ℕ) (found : Option ℕ) (ended : Option TraceLine) → after ≡ Some rest → IsNumeral word n → n ≤ 18446744073709551615 → TellsReason rest.now found → ended ≡ option_map (line.Refused n) found → TellsEnd text ended
  ends_refused rest n found ended e k most r t told = (there told, back found r t)
    where
      there : (it : TraceLine) → EndsLine text it → ended ≡ Some it
      there (line.Accepted event) g = absurd (no_numeral rest event e g.1)
      there (line.Refused event reason) g =
          let f = refused_end rest n event reason e k g in
          t ∙ ap (option_map (line.Refused n)) ((r reason).0 f.1) ∙ ap (λ m. Some (line.Refused m reason)) f.0
      there (line.At depth what) g = absurd g.1
      there (line.Fault fault) g = absurd g.1

      back : (o : Option ℕ) → TellsReason rest.now o → ended ≡ option_map (line.Refused n) o → ended ≡ Some told → EndsLine text told
      back None q u s = let x : None ≡ Some told = sym u ∙ s in cc
      back (Some reason) q u s =
          let x : Some (line.Refused n reason) ≡ Some told = sym u ∙ s in
          let same : line.Refused n reason ≡ told = cc in
          let i = (q reason).1 refl in
          let wide : IsWide n = omega (arith, most) in
          subst (λ y. EndsLine text y) same ((wide, i.0), (word, rest.now, k, i.1, whole_of rest e))

  -- ---- a line, by its first word

  -- what the first word and the rest tell
  abbrev Tells : List ℕ → TraceLine → Type 0
  Tells rest (line.Accepted event) = (word ≡ codes "event") × EndsEvent rest (line.Accepted event)
  Tells rest (line.Refused event reason) = (word ≡ codes "event") × EndsEvent rest (line.Refused event reason)
  Tells rest (line.At depth what) = IsNumeral word depth × BeginsAsKind rest what
  Tells rest (line.Fault fault) = (word ≡ codes "fault") × IsNumeral rest fault

  tells_by : (rest : Bor (List ℕ)) → after ≡ Some rest → (it : TraceLine) → IsTraceLine text it → Tells rest.now it
  tells_by rest e (line.Accepted event) t =
      let w = cut_so (codes "event") t.0 rest e event_word t.2 in
      (w.0, subst (λ r. EndsEvent r (line.Accepted event)) (sym w.1) t.1)
  tells_by rest e (line.Refused event reason) t =
      let w = cut_so (codes "event") t.0 rest e event_word t.2 in
      (w.0, subst (λ r. EndsEvent r (line.Refused event reason)) (sym w.1) t.1)
  tells_by rest e (line.At depth what) t =
      let w = cut_so t.0 t.1 rest e (numeral_word t.0 depth t.2) t.4 in
      (subst (λ d. IsNumeral d depth) (sym w.0) t.2, subst (λ r. BeginsAsKind r what) (sym w.1) t.3)
  tells_by rest e (line.Fault fault) t =
      let w = cut_so (codes "fault") t.0 rest e fault_word t.2 in
      (w.0, subst (λ d. IsNumeral d fault) (sym w.1) t.1)

  tells_from : (rest : Bor (List ℕ)) → after ≡ Some rest → (it : TraceLine) → Tells rest.now it → IsTraceLine text it
  tells_from rest e (line.Accepted event) t = (rest.now, t.1, whole_of rest e ∙ ap (λ x. x ++ 32 ∷ rest.now) t.0)
  tells_from rest e (line.Refused event reason) t = (rest.now, t.1, whole_of rest e ∙ ap (λ x. x ++ 32 ∷ rest.now) t.0)
  tells_from rest e (line.At depth what) t = (word, rest.now, t.0, t.1, whole_of rest e)
  tells_from rest e (line.Fault fault) t = (rest.now, t.1, whole_of rest e ∙ ap (λ x. x ++ 32 ∷ rest.now) t.0)

  pub one_word_line : after ≡ None → TellsLine text None
  one_word_line e told = ((λ g. absurd (go told g.1)), (λ s. cc))
    where
      go : (it : TraceLine) → IsTraceLine text it → ⊥
      go (line.Accepted event) t = uncut_so (codes "event") t.0 e event_word t.2
      go (line.Refused event reason) t = uncut_so (codes "event") t.0 e event_word t.2
      go (line.At depth what) t = uncut_so t.0 t.1 e (numeral_word t.0 depth t.2) t.4
      go (line.Fault fault) t = uncut_so (codes "fault") t.0 e fault_word t.2

  pub event_behind : (rest : Bor (List ℕ)) (found : Option TraceLine) → after ≡ Some rest → word ≡ codes "event" → TellsEnd rest.now found → TellsLine text found
  event_behind rest found e w ends told = (there told, (λ s. back told ((ends told).1 s)))
    where
      there : (it : TraceLine) → IsLine text it → found ≡ Some it
      there (line.Accepted event) g = (ends (line.Accepted event)).0 (g.0, (tells_by rest e (line.Accepted event) g.1).1)
      there (line.Refused event reason) g = (ends (line.Refused event reason)).0 (g.0, (tells_by rest e (line.Refused event reason) g.1).1)
      there (line.At depth what) g = absurd (event_no_numeral depth (subst (λ d. IsNumeral d depth) w (tells_by rest e (line.At depth what) g.1).0))
      there (line.Fault fault) g = absurd (event_not_fault (sym w ∙ (tells_by rest e (line.Fault fault) g.1).0))

      back : (it : TraceLine) → EndsLine rest.now it → IsLine text it
      back (line.Accepted event) g = (g.0, tells_from rest e (line.Accepted event) (w, g.1))
      back (line.Refused event reason) g = (g.0, tells_from rest e (line.Refused event reason) (w, g.1))
      back (line.At depth what) g = absurd g.1
      back (line.Fault fault) g = absurd g.1

  pub fault_behind : (rest : Bor (List ℕ)) (number : Option ℕ) (found : Option TraceLine) → after ≡ Some rest → word ≡ codes "fault" → TellsNumber rest.now number → found ≡ option_map line.Fault number → TellsLine text found
  fault_behind rest number found e w r t told = (there told, back number r t)
    where
      there : (it : TraceLine) → IsLine text it → found ≡ Some it
      there (line.Accepted event) g = absurd (event_not_fault (sym (tells_by rest e (line.Accepted event) g.1).0 ∙ w))
      there (line.Refused event reason) g = absurd (event_not_fault (sym (tells_by rest e (line.Refused event reason) g.1).0 ∙ w))
      there (line.At depth what) g = absurd (fault_no_numeral depth (subst (λ d. IsNumeral d depth) w (tells_by rest e (line.At depth what) g.1).0))
      there (line.Fault fault) g = t ∙ ap (option_map line.Fault) ((r fault).0 (g.0, (tells_by rest e (line.Fault fault) g.1).1))

      back : (o : Option ℕ) → TellsNumber rest.now o → found ≡ option_map line.Fault o → found ≡ Some told → IsLine text told
      back None q u s = let x : None ≡ Some told = sym u ∙ s in cc
      back (Some fault) q u s =
          let x : Some (line.Fault fault) ≡ Some told = sym u ∙ s in
          let same : line.Fault fault ≡ told = cc in
          let i = (q fault).1 refl in
          subst (λ y. IsLine text y) same (i.0, tells_from rest e (line.Fault fault) (w, i.1))

  -- a line of a depth, where the first word is another one
  at_depth : (rest : Bor (List ℕ)) → after ≡ Some rest → (word ≡ codes "event" → ⊥) → (word ≡ codes "fault" → ⊥) → (it : TraceLine) → IsLine text it → (depth : ℕ) × (what : LineKind) × (it ≡ line.At depth what) × IsWide depth × IsNumeral word depth × IsEntry rest.now what
  at_depth rest e v f (line.Accepted event) g = absurd (v (tells_by rest e (line.Accepted event) g.1).0)
  at_depth rest e v f (line.Refused event reason) g = absurd (v (tells_by rest e (line.Refused event reason) g.1).0)
  at_depth rest e v f (line.At depth what) g =
      let t = tells_by rest e (line.At depth what) g.1 in
      (depth, what, refl, g.0.0, t.0, (g.0.1, t.1))
  at_depth rest e v f (line.Fault fault) g = absurd (f (tells_by rest e (line.Fault fault) g.1).0)

  pub no_depth : (rest : Bor (List ℕ)) → after ≡ Some rest → (word ≡ codes "event" → ⊥) → (word ≡ codes "fault" → ⊥) → ((n : ℕ) → IsNumeral word n → 18446744073709551615 < n) → TellsLine text None
  no_depth rest e v f none told =
      ((λ g. let a = at_depth rest e v f told g in let least = none a.0 a.4 in let most = a.3 in absurd (omega (arith, least, most))), (λ s. cc))

  pub depth_behind : (rest : Bor (List ℕ)) (n : ℕ) (entry : Option LineKind) (found : Option TraceLine) → after ≡ Some rest → (word ≡ codes "event" → ⊥) → (word ≡ codes "fault" → ⊥) → IsNumeral word n → n ≤ 18446744073709551615 → TellsEntry rest.now entry → found ≡ option_map (line.At n) entry → TellsLine text found
  depth_behind rest n entry found e v f k most r t told = (there, back entry r t)
    where
      there : IsLine text told → found ≡ Some told
      there g =
          let a = at_depth rest e v f told g in
          let same : n ≡ a.0 = one_number word word n a.0 k a.4 refl in
          t ∙ ap (option_map (line.At n)) ((r a.1).0 a.5) ∙ ap (λ m. Some (line.At m a.1)) same ∙ ap Some (sym a.2)

      back : (o : Option LineKind) → TellsEntry rest.now o → found ≡ option_map (line.At n) o → found ≡ Some told → IsLine text told
      back None q u s = let x : None ≡ Some told = sym u ∙ s in cc
      back (Some what) q u s =
          let x : Some (line.At n what) ≡ Some told = sym u ∙ s in
          let same : line.At n what ≡ told = cc in
          let i = (q what).1 refl in
          let wide : IsWide n = omega (arith, most) in
          subst (λ y. IsLine text y) same ((wide, i.0), tells_from rest e (line.At n what) (k, i.1))

-- ---- the event that a line is about

pub events_of : (text : List ℕ) (found : Option TraceLine) → TellsLine text found → (event : ℕ) → IsEventsLine text event ↔ (event_of found ≡ Some event)
events_of text found tells event = (there, back found refl)
  where
    there : IsEventsLine text event → event_of found ≡ Some event
    there (inl l) = ap event_of ((tells (line.Accepted event)).0 l)
    there (inr l) = ap event_of ((tells (line.Refused event l.0)).0 l.1)

    back : (o : Option TraceLine) → found ≡ o → event_of o ≡ Some event → IsEventsLine text event
    back None u s = cc
    back (Some (line.Accepted n)) u s = let same : n ≡ event = cc in inl (subst (λ m. IsLine text (line.Accepted m)) same ((tells (line.Accepted n)).1 u))
    back (Some (line.Refused n reason)) u s = let same : n ≡ event = cc in inr (reason, subst (λ m. IsLine text (line.Refused m reason)) same ((tells (line.Refused n reason)).1 u))
    back (Some (line.At depth what)) u s = cc
    back (Some (line.Fault fault)) u s = cc

-- what is answered is the event of what is reported
pub found_as : (text : List ℕ) (told also : Option TraceLine) (found : Option ℕ) → told ≡ also → found ≡ event_of also → ((event : ℕ) → IsEventsLine text event ↔ (event_of told ≡ Some event)) → (event : ℕ) → IsEventsLine text event ↔ (found ≡ Some event)
found_as text told also found t f each = subst (λ o. (event : ℕ) → IsEventsLine text event ↔ (o ≡ Some event)) (ap event_of t ∙ sym f) each

-- .. no event's, where that is what happens at a depth or a fault
pub no_event : (text : List ℕ) (it : TraceLine) → ((depth : ℕ) × (what : LineKind) × (it ≡ line.At depth what)) ⊎ ((fault : ℕ) × (it ≡ line.Fault fault)) → ((event : ℕ) → IsEventsLine text event ↔ (event_of (Some it) ≡ Some event)) → (event : ℕ) → IsEventsLine text event ↔ (None ≡ Some event)
no_event text it (inl w) each = found_as text (Some it) (Some (line.At w.0 w.1)) None (ap Some w.2) refl each
no_event text it (inr w) each = found_as text (Some it) (Some (line.Fault w.0)) None (ap Some w.1) refl each
