-- The lines of nodes, and whole certificates.
use Rattle.std.{proofs.Common.{◌≡◌, ℕ, List, [], ◌∷◌, ◌++◌, Err, refl, sym, ◌∙◌, ap, append_assoc, true, false, Bool, IsTrue, ◌↔◌}, proofs.lemmas.List.{append-nil}, specs.Prelude.{codes}, specs.List.{AllZip}}
use Rattle.token_reading.specs.declared.fault.ParseFault.{ParseFault}
use Rattle.token_reading.specs.declared.fault.ParseFault.TheVariants as parse
use Rattle.texts.specs.{declared.lexer.LexFault.{LexFault}, declared.token.Token.{Token}, Lines.{IsFirstLine}, Pieces.{IsUncut}}
use Rattle.texts.specs.declared.lexer.LexFault.TheVariants as lex
use Rattle.certificate_lang.{specs.declared.certificate.Line.{Line}, specs.declared.certificate.Certificate.{Certificate}, specs.declared.fault.CertificateFault.{CertificateFault}, specs.declared.fault.CertificateFault.TheVariants.{Format, Memory}, specs.declared.version.Version.{Version}, specs.declared.version.Version.TheVariants.{One, Two}, specs.Grammar.{IsSetting, IsNodeLine}, specs.Reads.{HasRows, version_number, IsCertificate, ReadsCertificate}, specs.code.Reads.{fault_of_cutting, fault_of_parsing, TakesRow, SplitsRow, TakesSetting, SplitsSetting, AreNodeLines, ReadsNodeLines, ReadsWholeSetting, ReadsLine}, proofs.OneTree.{one_line, one_setting}, proofs.Rows.{SameRows, one_rows, rows_uncut}}

pub is_so : {P : Type 0} (b : Bool) → b ≡ true → (IsTrue b ↔ P) → P
is_so b f h = h.0 f

pub is_not_so : {P : Type 0} (b : Bool) → b ≡ false → (IsTrue b ↔ P) → ¬ P
is_not_so b f h p = let t = h.1 p in cc

-- the faults below of a text that is no certificate
pub only_bad_byte : (fault : LexFault) → fault_of_cutting fault ≡ Format → fault ≡ lex.BadByte
only_bad_byte lex.BadByte e = refl
only_bad_byte lex.Memory e = cc

pub only_syntax : (fault : ParseFault) → fault_of_parsing fault ≡ Format → fault ≡ parse.Syntax
only_syntax parse.Syntax e = refl
only_syntax parse.Memory e = cc

-- ---- settings

same_first : {a b : List Token} {s t : List (List Token)} → a ∷ s ≡ b ∷ t → a ≡ b
same_first e = cc

same_others : {a b : List Token} {s t : List (List Token)} → a ∷ s ≡ b ∷ t → s ≡ t
same_others e = cc

module _ {text rest : List ℕ} {tokens : List Token} (takes : TakesRow text tokens rest) where
  -- a row that stands first is the one that was taken
  pub first_is : (first : List Token) (later : List (List Token)) → HasRows text (first ∷ later) → (first ≡ tokens) × HasRows rest later
  first_is first later h =
      let w = takes.back (first ∷ later) h in
      (same_first w.2, rw (sym (same_others w.2)) at w.1)

  pub no_setting : {name : List ℕ} → ((n : ℕ) → ¬ IsSetting name tokens n) → (first : List Token) (later : List (List Token)) (n : ℕ) → HasRows text (first ∷ later) → ¬ IsSetting name first n
  no_setting none first later n h is = let w = first_is first later h in none n (rw w.0 at is)

pub no_row_set : {text : List ℕ} → HasRows text [] → {name : List ℕ} (first : List Token) (later : List (List Token)) (n : ℕ) → HasRows text (first ∷ later) → ¬ IsSetting name first n
no_row_set {text} h first later n k is = let e = one_rows text [] (first ∷ later) h k in cc

-- ---- lines of nodes

one_list : (v : Version) (rows : List (List Token)) (as_ bs : List Line) → AllZip (IsNodeLine v) rows as_ → AllZip (IsNodeLine v) rows bs → as_ ≡ bs
one_list v [] [] [] h k = refl
one_list v [] [] (b ∷ bs) h k = absurd k
one_list v [] (a ∷ as_) bs h k = absurd h
one_list v (r ∷ rows) [] bs h k = absurd h
one_list v (r ∷ rows) (a ∷ as_) [] h k = absurd k
one_list v (r ∷ rows) (a ∷ as_) (b ∷ bs) h k =
    let first = one_line v r a b h.0 k.0 in
    let others = one_list v rows as_ bs h.1 k.1 in
    cc

-- these lines were read from `text` up to `rest`
pub record LinesSoFar (v : Version) (text : List ℕ) (lines : List Line) (rest : List ℕ) : Type 0 where
  pub onward : (more : List Line) → AreNodeLines v rest more → AreNodeLines v text (lines ++ more)
  pub back : (all : List Line) → AreNodeLines v text all → (more : List Line) × AreNodeLines v rest more × (all ≡ lines ++ more)

pub no_line_yet : (v : Version) (text : List ℕ) → LinesSoFar v text [] text
no_line_yet v text = record { onward = λ more h. h; back = λ all h. (all, h, refl) }

line_back : (v : Version) (rows : List (List Token)) (all : List Line) {tokens : List Token} {later : List (List Token)} {line : Line} → rows ≡ tokens ∷ later → IsNodeLine v tokens line → AllZip (IsNodeLine v) rows all → (more : List Line) × AllZip (IsNodeLine v) later more × (all ≡ line ∷ more)
line_back v [] all e is h = cc
line_back v (r ∷ rs) [] e is h = absurd h
line_back v (r ∷ rs) (a ∷ as_) {tokens} {later} {line} e is h =
    let row = same_first e in
    let others = same_others e in
    let same = one_line v tokens a line (rw row at h.0) is in
    (as_, rw others at h.1, cc)

module _ {v : Version} {text rest : List ℕ} {lines : List Line} (so_far : LinesSoFar v text lines rest) where
  pub lines_end : HasRows rest [] → AreNodeLines v text lines
  lines_end h = rw append-nil at (so_far.onward [] (record { rows = []; has_rows = h; each = tt }))

  pub lines_uncut : ((rows : List (List Token)) → ¬ HasRows rest rows) → (all : List Line) → ¬ AreNodeLines v text all
  lines_uncut none all h = let w = so_far.back all h in none (w.1).rows (w.1).has_rows

  module _ {after : List ℕ} {tokens : List Token} (takes : TakesRow rest tokens after) where
    each_back : {line : Line} (all : List Line) → IsNodeLine v tokens line → AreNodeLines v rest all → (more : List Line) × AreNodeLines v after more × (all ≡ line ∷ more)
    each_back {line} all is h =
        let w = takes.back h.rows h.has_rows in
        let v = line_back v h.rows all w.2 is h.each in
        (v.0, record { rows = w.0; has_rows = w.1; each = v.1 }, v.2)

    first_line : (all : List Line) → AreNodeLines v rest all → (line : Line) × IsNodeLine v tokens line
    first_line all h = let w = takes.back h.rows h.has_rows in first_of_rows h.rows all w.2 h.each
      where
        first_of_rows : (rows : List (List Token)) (all : List Line) {later : List (List Token)} → rows ≡ tokens ∷ later → AllZip (IsNodeLine v) rows all → (line : Line) × IsNodeLine v tokens line
        first_of_rows [] all e h = cc
        first_of_rows (r ∷ rs) [] e h = absurd h
        first_of_rows (r ∷ rs) (a ∷ as_) e h = let row = same_first e in (a, rw row at h.0)

    pub line_next : {line : Line} → IsNodeLine v tokens line → LinesSoFar v text (lines ++ line ∷ []) after
    line_next {line} is = record {
      onward = λ more h.
          rw append_assoc (so_far.onward (line ∷ more) (record { rows = tokens ∷ h.rows; has_rows = takes.onward h.rows h.has_rows; each = (is, h.each) }));
      back = λ all h.
          let w = so_far.back all h in
          let v = each_back w.0 is w.1 in
          (v.0, v.1, w.2 ∙ (ap (λ ls. lines ++ ls) v.2 ∙ sym (append_assoc lines (line ∷ []) v.0)));
    }

    pub line_bad : ((line : Line) → ¬ IsNodeLine v tokens line) → (all : List Line) → ¬ AreNodeLines v text all
    line_bad none all h =
        let w = so_far.back all h in
        let v = first_line w.0 w.1 in
        none v.0 v.1

-- ---- certificates

-- a number is that of one version
one_version : (v w : Version) → version_number v ≡ version_number w → v ≡ w
one_version One One e = refl
one_version One Two e = cc
one_version Two One e = cc
one_version Two Two e = refl

pub no_header : {text : List ℕ} → ((first : List Token) (later : List (List Token)) (n : ℕ) → HasRows text (first ∷ later) → ¬ IsSetting (codes "certificate") first n) → (certificate : Certificate) → ¬ IsCertificate text certificate
no_header none certificate h = none h.first (h.second ∷ h.others) (version_number h.version) h.has_rows h.header

module _ {text rest : List ℕ} {n : ℕ} (header : TakesSetting (codes "certificate") text n rest) where
  version_is : (certificate : Certificate) (h : IsCertificate text certificate) → version_number h.version ≡ n
  version_is certificate h =
      let w = first_is header.takes h.first (h.second ∷ h.others) h.has_rows in
      one_setting (codes "certificate") header.tokens (version_number h.version) n (rw w.0 at h.header) header.is

  pub other_version : ((v : Version) → ¬ (version_number v ≡ n)) → (certificate : Certificate) → ¬ IsCertificate text certificate
  other_version other certificate h = other h.version (version_is certificate h)

  after_header : (certificate : Certificate) (h : IsCertificate text certificate) → HasRows rest (h.second ∷ h.others)
  after_header certificate h = let w = first_is header.takes h.first (h.second ∷ h.others) h.has_rows in w.1

  pub no_bound : ((first : List Token) (later : List (List Token)) (m : ℕ) → HasRows rest (first ∷ later) → ¬ IsSetting (codes "bound") first m) → (certificate : Certificate) → ¬ IsCertificate text certificate
  no_bound none certificate h = none h.second h.others certificate.bound (after_header certificate h) h.bound

  module _ {after : List ℕ} {bound : ℕ} (set : TakesSetting (codes "bound") rest bound after) where
    pub no_lines : (v : Version) → version_number v ≡ n → ((lines : List Line) → ¬ AreNodeLines v after lines) → (certificate : Certificate) → ¬ IsCertificate text certificate
    no_lines v is none certificate h =
        let w = first_is set.takes h.second h.others (after_header certificate h) in
        let same : h.version ≡ v = one_version h.version v (version_is certificate h ∙ sym is) in
        none certificate.lines (record { rows = h.others; has_rows = w.1; each = rw same at h.nodes })

    pub certificate_read : (v : Version) {lines : List Line} → version_number v ≡ n → AreNodeLines v after lines → IsCertificate text (record { bound = bound; lines = lines })
    certificate_read v is k = record {
      version = v;
      first = header.tokens;
      second = set.tokens;
      others = k.rows;
      has_rows = header.takes.onward (set.tokens ∷ k.rows) (set.takes.onward k.rows k.has_rows);
      header = rw (sym is) at header.is;
      bound = set.is;
      nodes = k.each;
    }

-- ---- a text is one certificate at most

abbrev certificate_of : ℕ → List Line → Certificate
certificate_of bound lines = record { bound = bound; lines = lines }

same_certificate : (a b : Certificate) → a.bound ≡ b.bound → a.lines ≡ b.lines → a ≡ b
same_certificate a b e f = ap (λ n. certificate_of n a.lines) e ∙ ap (λ ls. certificate_of b.bound ls) f

pub one_certificate : (text : List ℕ) (a b : Certificate) → IsCertificate text a → IsCertificate text b → a ≡ b
one_certificate text a b h k =
    let rows = one_rows text (h.first ∷ h.second ∷ h.others) (k.first ∷ k.second ∷ k.others) h.has_rows k.has_rows in
    let later = same_others rows in
    let first = same_first rows in
    let second = same_first later in
    let others = same_others later in
    let version : h.version ≡ k.version = one_version h.version k.version (one_setting (codes "certificate") k.first (version_number h.version) (version_number k.version) (rw first at h.header) k.header) in
    same_certificate a b
    (one_setting (codes "bound") k.second a.bound b.bound (rw second at h.bound) k.bound)
    (one_list k.version k.others a.lines b.lines (rw (version, others) at h.nodes) k.nodes)

-- ---- faults of one step as those of the next: where a row is refused, its tokens are of no matter

pub cutting_refused : {text rest line after : List ℕ} → SameRows text rest → IsFirstLine rest line after → (fault : LexFault) → (fault ≡ lex.BadByte → IsUncut line) → SplitsRow text [] (Err (fault_of_cutting fault))
cutting_refused so_far front lex.BadByte none = rows_uncut so_far front (none refl)
cutting_refused so_far front lex.Memory none = tt

pub row_refused : (name text : List ℕ) (fault : CertificateFault) → SplitsRow text [] (Err fault) → SplitsSetting name text (Err fault)
row_refused name text Format none = λ first later n h is. none (first ∷ later) h
row_refused name text Memory none = tt

pub setting_refused : {text rest : List ℕ} {tokens : List Token} (name : List ℕ) → TakesRow text tokens rest → (fault : CertificateFault) → ReadsWholeSetting name tokens (Err fault) → SplitsSetting name text (Err fault)
setting_refused name takes Format none = no_setting takes none
setting_refused name takes Memory none = tt

module _ {v : Version} {text rest : List ℕ} {lines : List Line} (so_far : LinesSoFar v text lines rest) where
  pub next_refused : (fault : CertificateFault) → SplitsRow rest [] (Err fault) → ReadsNodeLines v text (Err fault)
  next_refused Format none = lines_uncut so_far none
  next_refused Memory none = tt

  pub line_refused : {after : List ℕ} {tokens : List Token} → TakesRow rest tokens after → (fault : CertificateFault) → ReadsLine v tokens (Err fault) → ReadsNodeLines v text (Err fault)
  line_refused takes Format none = line_bad so_far takes none
  line_refused takes Memory none = tt

pub header_refused : (text : List ℕ) (fault : CertificateFault) → SplitsSetting (codes "certificate") text (Err fault) → ReadsCertificate text (Err fault)
header_refused text Format none = no_header none
header_refused text Memory none = tt

module _ {text rest : List ℕ} {n : ℕ} (header : TakesSetting (codes "certificate") text n rest) where
  pub bound_refused : (fault : CertificateFault) → SplitsSetting (codes "bound") rest (Err fault) → ReadsCertificate text (Err fault)
  bound_refused Format none = no_bound header none
  bound_refused Memory none = tt

  pub lines_refused : {after : List ℕ} {bound : ℕ} → TakesSetting (codes "bound") rest bound after → (v : Version) → version_number v ≡ n → (fault : CertificateFault) → ReadsNodeLines v after (Err fault) → ReadsCertificate text (Err fault)
  lines_refused set v is Format none = no_lines header set v is none
  lines_refused set v is Memory none = tt
