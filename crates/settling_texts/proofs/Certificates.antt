-- What lines say, and whole settling certificates.
use Rattle.std.{proofs.Common.{◌≡◌, ℕ, List, [], ◌∷◌, ◌++◌, Err, codes, refl, sym, ◌∙◌, ap, append_assoc}, proofs.lemmas.List.{append-nil}, specs.List.{AllZip}}
use Rattle.texts.specs.{declared.token.Token.{Token}, Numerals.{value_of}}
use Rattle.token_reading.specs.code.Reading.{EndsAnywhere, Found}
use Rattle.certificate_lang.{specs.Grammar.{spell_setting, IsSetting}, specs.Reads.{HasRows}, specs.code.Reads.{TakesRow, SplitsRow}, specs.declared.fault.CertificateFault.{CertificateFault}, specs.declared.fault.CertificateFault.TheVariants.{Format, Memory}, proofs.Certificates.{first_is}, proofs.Nodes.{setting_whole}, proofs.OneTree.{one_setting}, proofs.Rows.{one_rows}}
use Rattle.settling_texts.{specs.Grammar.{IsDepth, IsRow, lines_of, sets_of}, specs.Reads.{IsSettling, ReadsSettling, HasOneSettling}, specs.code.Reads.{ReadsHeader, ReadsWholeDepth, ReadsWholeLine, ReadsWholeSet, ReadsRow, IsAtNumber, SplitsFirst, AreRows, ReadsRows}, specs.declared.row.SettlingRow.{SettlingRow}, specs.declared.syntax.Depth.{Depth}, proofs.OneTree.{one_depth, line_off_number, set_at_number, one_row}}
use Rattle.settling.specs.{declared.certificate.SettlingLine.{SettlingLine}, declared.certificate.SettlingSet.{SettlingSet}, declared.certificate.SettlingCertificate.{SettlingCertificate}}
use Rattle.settling_texts.specs.declared.row.SettlingRow.TheVariants as row

-- ---- the first line

-- it is a setting of another number, or isn't read to its end
pub other_number : {tokens after : List Token} {n : ℕ} → Found (spell_setting (codes "settling")) (λ m. value_of m.digits) EndsAnywhere tokens n after → after ≡ [] → ¬ (n ≡ 1) → ¬ IsSetting (codes "settling") tokens 1
other_number {tokens} {n = n} f end other h = other (one_setting (codes "settling") tokens n 1 (setting_whole f end) h)

-- ---- the line of a node or of a set

pub set_refused : {tokens : List Token} → IsAtNumber tokens → (fault : CertificateFault) → ReadsWholeSet tokens (Err fault) → ReadsRow tokens (Err fault)
set_refused {tokens} at Format none = no_row
  where
    no_row : (r : SettlingRow) → ¬ IsRow tokens r
    no_row (row.Line line) h = line_off_number line h at
    no_row (row.Set set) h = none set h
set_refused at Memory none = tt

pub line_refused : {tokens : List Token} → ¬ IsAtNumber tokens → (fault : CertificateFault) → ReadsWholeLine tokens (Err fault) → ReadsRow tokens (Err fault)
line_refused {tokens} off Format none = no_row
  where
    no_row : (r : SettlingRow) → ¬ IsRow tokens r
    no_row (row.Line line) h = none line h
    no_row (row.Set set) h = off (set_at_number set h)
line_refused off Memory none = tt

-- ---- the first of the lines

pub no_row_at_all : {text : List ℕ} → HasRows text [] → (first : List Token) (later : List (List Token)) → ¬ HasRows text (first ∷ later)
no_row_at_all {text} h first later k = let e = one_rows text [] (first ∷ later) h k in cc

pub first_refused : (text : List ℕ) (fault : CertificateFault) → SplitsRow text [] (Err fault) → SplitsFirst text [] (Err fault)
first_refused text Format none = λ first later h. none (first ∷ later) h
first_refused text Memory none = tt

-- ---- all lines behind the first two

same_first : {a b : List Token} {s t : List (List Token)} → a ∷ s ≡ b ∷ t → a ≡ b
same_first e = cc

same_others : {a b : List Token} {s t : List (List Token)} → a ∷ s ≡ b ∷ t → s ≡ t
same_others e = cc

one_list : (tokens : List (List Token)) (as_ bs : List SettlingRow) → AllZip IsRow tokens as_ → AllZip IsRow tokens bs → as_ ≡ bs
one_list [] [] [] h k = refl
one_list [] [] (b ∷ bs) h k = absurd k
one_list [] (a ∷ as_) bs h k = absurd h
one_list (t ∷ tokens) [] bs h k = absurd h
one_list (t ∷ tokens) (a ∷ as_) [] h k = absurd k
one_list (t ∷ tokens) (a ∷ as_) (b ∷ bs) h k =
    let first = one_row t a b h.0 k.0 in
    let others = one_list tokens as_ bs h.1 k.1 in
    cc

-- the rows say what lists of lines and of sets say
pub record AreSaid (text : List ℕ) (rows : List SettlingRow) : Type 0 where
  pub tokens : List (List Token)
  pub has_rows : HasRows text tokens
  pub each : AllZip IsRow tokens rows

pub record RowsSoFar (text : List ℕ) (lines : List SettlingLine) (sets : List SettlingSet) (rest : List ℕ) : Type 0 where
  pub onward : (rows : List SettlingRow) → AreSaid rest rows → AreRows text (lines ++ lines_of rows) (sets ++ sets_of rows)
  pub back : (rows : List SettlingRow) → AreSaid text rows → (more : List SettlingRow) × AreSaid rest more

pub no_row_yet : (text : List ℕ) → RowsSoFar text [] [] text
no_row_yet text = record {
  onward = λ rows h. record { tokens = h.tokens; has_rows = h.has_rows; rows = rows; each = h.each; lines_are = refl; sets_are = refl };
  back = λ rows h. (rows, h);
}

line_in_front : (r : SettlingRow) (rows : List SettlingRow) → lines_of (r ∷ rows) ≡ lines_of (r ∷ []) ++ lines_of rows
line_in_front (row.Line line) rows = refl
line_in_front (row.Set set) rows = refl

set_in_front : (r : SettlingRow) (rows : List SettlingRow) → sets_of (r ∷ rows) ≡ sets_of (r ∷ []) ++ sets_of rows
set_in_front (row.Line line) rows = refl
set_in_front (row.Set set) rows = refl

as_said : {text : List ℕ} {a c : List SettlingLine} {b d : List SettlingSet} → AreRows text a b → a ≡ c → b ≡ d → AreRows text c d
as_said h e f = record { tokens = h.tokens; has_rows = h.has_rows; rows = h.rows; each = h.each; lines_are = h.lines_are ∙ e; sets_are = h.sets_are ∙ f }

row_back : (tokens : List (List Token)) (rows : List SettlingRow) {first : List Token} {later : List (List Token)} → tokens ≡ first ∷ later → AllZip IsRow tokens rows
    → (r : SettlingRow) × IsRow first r × ((more : List SettlingRow) × AllZip IsRow later more)
row_back [] rows e h = cc
row_back (t ∷ ts) [] e h = absurd h
row_back (t ∷ ts) (a ∷ as_) e h =
    let first = same_first e in
    let others = same_others e in
    (a, rw first at h.0, (as_, rw others at h.1))

module _ {text rest : List ℕ} {lines : List SettlingLine} {sets : List SettlingSet} (so_far : RowsSoFar text lines sets rest) where
  pub rows_end : HasRows rest [] → AreRows text lines sets
  rows_end h = as_said (so_far.onward [] (record { tokens = []; has_rows = h; each = tt })) (append-nil lines) (append-nil sets)

  pub rows_uncut : ((tokens : List (List Token)) → ¬ HasRows rest tokens) → (ls : List SettlingLine) (ss : List SettlingSet) → ¬ AreRows text ls ss
  rows_uncut none ls ss h =
      let w = so_far.back h.rows (record { tokens = h.tokens; has_rows = h.has_rows; each = h.each }) in
      none (w.1).tokens (w.1).has_rows

  module _ {after : List ℕ} {first : List Token} (takes : TakesRow rest first after) where
    front : (rows : List SettlingRow) → AreSaid text rows → (r : SettlingRow) × IsRow first r × ((more : List SettlingRow) × AreSaid after more)
    front rows h =
        let w = so_far.back rows h in
        let t = takes.back (w.1).tokens (w.1).has_rows in
        let v = row_back (w.1).tokens w.0 t.2 (w.1).each in
        (v.0, v.1, ((v.2).0, record { tokens = t.0; has_rows = t.1; each = (v.2).1 }))

    said_before : {r : SettlingRow} {rows : List SettlingRow} → IsRow first r → AreSaid after rows → AreSaid rest (r ∷ rows)
    said_before is h = record { tokens = first ∷ h.tokens; has_rows = takes.onward h.tokens h.has_rows; each = (is, h.each) }

    pub row_next : (r : SettlingRow) → IsRow first r → RowsSoFar text (lines ++ lines_of (r ∷ [])) (sets ++ sets_of (r ∷ [])) after
    row_next r is = record {
      onward = λ rows h.
          as_said (so_far.onward (r ∷ rows) (said_before is h))
          (ap (λ (more : List SettlingLine). lines ++ more) (line_in_front r rows) ∙ sym (append_assoc lines (lines_of (r ∷ [])) (lines_of rows)))
          (ap (λ (more : List SettlingSet). sets ++ more) (set_in_front r rows) ∙ sym (append_assoc sets (sets_of (r ∷ [])) (sets_of rows)));
      back = λ rows h. let w = front rows h in w.2;
    }

    pub row_bad : ((r : SettlingRow) → ¬ IsRow first r) → (ls : List SettlingLine) (ss : List SettlingSet) → ¬ AreRows text ls ss
    row_bad none ls ss h =
        let w = front h.rows (record { tokens = h.tokens; has_rows = h.has_rows; each = h.each }) in
        none w.0 w.1

    pub row_refused : (fault : CertificateFault) → ReadsRow first (Err fault) → ReadsRows text (Err fault)
    row_refused Format none = row_bad none
    row_refused Memory none = tt

  pub next_refused : (fault : CertificateFault) → SplitsRow rest [] (Err fault) → ReadsRows text (Err fault)
  next_refused Format none = rows_uncut none
  next_refused Memory none = tt

-- ---- settling certificates

pub no_first_row : (text : List ℕ) (fault : CertificateFault) → SplitsFirst text [] (Err fault) → ReadsSettling text (Err fault)
no_first_row text Format none = λ certificate h. none h.first (h.second ∷ h.others) h.has_rows
no_first_row text Memory none = tt

module _ {text : List ℕ} where
  module _ {first : List Token} {after : List ℕ} (takes : TakesRow text first after) where
    pub no_header : (fault : CertificateFault) → ReadsHeader first (Err fault) → ReadsSettling text (Err fault)
    no_header Format none = λ certificate h. let w = first_is takes h.first (h.second ∷ h.others) h.has_rows in none tt (rw w.0 at h.header)
    no_header Memory none = tt

    behind : (certificate : SettlingCertificate) (h : IsSettling text certificate) → HasRows after (h.second ∷ h.others)
    behind certificate h = let w = first_is takes h.first (h.second ∷ h.others) h.has_rows in w.1

    pub no_second_row : (fault : CertificateFault) → SplitsFirst after [] (Err fault) → ReadsSettling text (Err fault)
    no_second_row Format none = λ certificate h. none h.second h.others (behind certificate h)
    no_second_row Memory none = tt

    module _ {second : List Token} {rest : List ℕ} (then : TakesRow after second rest) where
      pub no_depth_line : (fault : CertificateFault) → ReadsWholeDepth second (Err fault) → ReadsSettling text (Err fault)
      no_depth_line Format none = λ certificate h.
          let w = first_is then h.second h.others (behind certificate h) in
          none (record { bound = certificate.bound; step = certificate.step }) (rw w.0 at h.depth)
      no_depth_line Memory none = tt

      pub no_rows : (fault : CertificateFault) → ReadsRows rest (Err fault) → ReadsSettling text (Err fault)
      no_rows Format none = λ certificate h.
          let w = first_is then h.second h.others (behind certificate h) in
          none certificate.lines certificate.sets (record { tokens = h.others; has_rows = w.1; rows = h.rows; each = h.each; lines_are = h.lines; sets_are = h.sets })
      no_rows Memory none = tt

      pub settling_read : IsSetting (codes "settling") first 1 → {depth : Depth} → IsDepth second depth → {lines : List SettlingLine} {sets : List SettlingSet} → AreRows rest lines sets
          → IsSettling text (record { bound = depth.bound; step = depth.step; lines = lines; sets = sets })
      settling_read header depth k = record {
        first = first;
        second = second;
        others = k.tokens;
        has_rows = takes.onward (second ∷ k.tokens) (then.onward k.tokens k.has_rows);
        header = header;
        depth = depth;
        rows = k.rows;
        each = k.each;
        lines = k.lines_are;
        sets = k.sets_are;
      }

-- ---- a text is one settling certificate at most

abbrev settling_of : ℕ → ℕ → List SettlingLine → List SettlingSet → SettlingCertificate
settling_of bound step lines sets = record { bound = bound; step = step; lines = lines; sets = sets }

same_settling : (a b : SettlingCertificate) → a.bound ≡ b.bound → a.step ≡ b.step → a.lines ≡ b.lines → a.sets ≡ b.sets → a ≡ b
same_settling a b e f g h =
    ap (λ (n : ℕ). settling_of n a.step a.lines a.sets) e
    ∙ (ap (λ (n : ℕ). settling_of b.bound n a.lines a.sets) f
    ∙ (ap (λ (ls : List SettlingLine). settling_of b.bound b.step ls a.sets) g ∙ ap (λ (ss : List SettlingSet). settling_of b.bound b.step b.lines ss) h))

pub one_settling : (text : List ℕ) → HasOneSettling text
one_settling text a b h k =
    let rows = one_rows text (h.first ∷ h.second ∷ h.others) (k.first ∷ k.second ∷ k.others) h.has_rows k.has_rows in
    let later = same_others rows in
    let second = same_first later in
    let others = same_others later in
    let depth = one_depth k.second (record { bound = a.bound; step = a.step }) (record { bound = b.bound; step = b.step }) (rw second at h.depth) k.depth in
    let said : h.rows ≡ k.rows = one_list k.others h.rows k.rows (rw others at h.each) k.each in
    same_settling a b
    (ap (λ (d : Depth). d.bound) depth)
    (ap (λ (d : Depth). d.step) depth)
    (sym h.lines ∙ (ap lines_of said ∙ k.lines))
    (sym h.sets ∙ (ap sets_of said ∙ k.sets))
