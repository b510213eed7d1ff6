-- A settling certificate's text is read as the certificate.
use Rattle.std.{proofs.Common.{◌≡◌, ◌∙◌, ℕ, ◌≤◌, true, List, [], ◌∷◌, ◌++◌, map, codes, decimal, inl, refl, sym, ap, subst, append_assoc, arith}, specs.List.{AllByRecursion, flat_map}, proofs.lemmas.List.{append-nil}, proofs.lemmas.List.Elements.{All-from_recursion}}
use Rattle.basic_types.specs.{Name.{is_name_byte}, Signatures.{IsFreeName}, Words.{IsFree, word_spelling}}
use Rattle.basic_types.specs.declared.word.Word.TheVariants as word
use Rattle.texts.specs.{Numerals.{value_of}, declared.token.Token.{Token}}
use Rattle.texts.specs.declared.token.Token.TheVariants as token
use Rattle.token_reading.specs.Literals.{greatest}
use Rattle.certificate_lang.{specs.Grammar.{IsSetting, spell_node, tree_of_item}, specs.code.Reads.{TakesRow}, specs.declared.certificate.NodeName.{NodeName}, specs.declared.certificate.SetItem.{SetItem}, specs.declared.version.Version.TheVariants.{Two}, proofs.Rows.{all_rows, no_rows, row_taken}, specs.Texts.{node_text, listed_text}, proofs.Pieces.{IsWritten, nothing, blank_then, name_then, digits_then}, proofs.Lines.{value, numeral, number_then, reading_of_node, node_tree, node_then, node_few, reading_of_item, items_tree, digits_stop_at_items, items_tokens, items_written, no_reference, differs, bound_is_name}}
use Rattle.settling_texts.{specs.Grammar.{IsDepth, IsSettlingLine, IsSettlingSet, IsRow, lines_of, sets_of}, specs.Reads.{IsSettling}, specs.Texts.{depth_line, node_line, listed_node, set_line, settling_text}, specs.Written.{IsWritableLine, IsWritableSet, IsWritable, TextsAreRead}, specs.code.Reads.{AreRows}, specs.declared.row.SettlingRow.{SettlingRow}, proofs.Members.{node_some}, proofs.Certificates.{AreSaid, settling_read}, proofs.Nodes.{nodes_tokens, nodes_tree, nodes_few, digits_stop_at_nodes, nodes_written}}
use Rattle.settling.specs.{declared.certificate.SettlingLine.{SettlingLine}, declared.certificate.SettlingSet.{SettlingSet}, declared.certificate.SettlingCertificate.{SettlingCertificate}}
use Rattle.settling_texts.specs.declared.row.SettlingRow.TheVariants as row

-- ---- lines of nodes
abbrev line_text : SettlingLine → List ℕ
line_text line =
    node_text line.node ++ (codes " " ++ (decimal line.rank ++ (codes " " ++ (decimal line.step ++ flat_map listed_text line.destroys))))

abbrev line_tokens : SettlingLine → List Token
line_tokens line =
    spell_node (reading_of_node line.node) (token.Number (decimal line.rank) ∷ token.Number (decimal line.step) ∷ items_tokens line.destroys)

line_written : (line : SettlingLine) → IsWritableLine line → IsWritten (line_text line) (line_tokens line)
line_written line h =
    let items = flat_map listed_text line.destroys in
    let step = number_then line.step h.step items (items_tokens line.destroys) (digits_stop_at_items line.destroys) (items_written line.destroys h.destroys) in
    let rank = number_then line.rank h.rank (32 ∷ (decimal line.step ++ items)) _ refl (blank_then (decimal line.step ++ items) _ step) in
    let behind = 32 ∷ (decimal line.rank ++ (32 ∷ (decimal line.step ++ items))) in
    node_then line.node.class line.node.member h.node.class h.node.member behind _ refl (blank_then (decimal line.rank ++ (32 ∷ (decimal line.step ++ items))) _ rank)

abbrev line_of : NodeName → ℕ → ℕ → List SetItem → SettlingLine
line_of node rank step destroys = record { node = node; rank = rank; step = step; destroys = destroys }

line_is_read : (line : SettlingLine) → IsWritableLine line → IsSettlingLine (line_tokens line) line
line_is_read line h =
    let rank = value_of (decimal line.rank) in
    let step = value_of (decimal line.step) in
    let destroys = map (tree_of_item Two) (map reading_of_item line.destroys) in
    record {
      reading = record { node = reading_of_node line.node; rank = numeral line.rank h.rank; step = numeral line.step h.step; destroys = map reading_of_item line.destroys };
      spelled = refl;
      tree =
          ap (λ (n : NodeName). line_of n rank step destroys) (node_tree line.node h.node)
          ∙ (ap (λ (k : ℕ). line_of line.node k step destroys) (value line.rank h.rank)
          ∙ (ap (λ (k : ℕ). line_of line.node line.rank k destroys) (value line.step h.step)
          ∙ ap (λ (items : List SetItem). line_of line.node line.rank line.step items) (items_tree line.destroys)));
      few = node_few line.node h.node;
      normal = no_reference (line_written line h);
    }

line_ends : (line : SettlingLine) → node_line line ≡ line_text line ++ codes "\n"
line_ends line =
    let node = node_text line.node in
    let rank = decimal line.rank in
    let step = decimal line.step in
    let items = flat_map listed_text line.destroys in
    sym (append_assoc node (32 ∷ (rank ++ (32 ∷ (step ++ items)))) (codes "\n")
    ∙ ap (λ (bytes : List ℕ). node ++ (32 ∷ bytes)) (append_assoc rank (32 ∷ (step ++ items)) (codes "\n") ∙ ap (λ (bytes : List ℕ). rank ++ (32 ∷ bytes)) (append_assoc step items (codes "\n"))))

-- ---- lines of sets
round_is_free : IsFree (codes "round")
round_is_free word.Class = differs (codes "round") (codes "class") refl
round_is_free w = differs (codes "round") (word_spelling w) refl

round_is_name : IsFreeName (codes "round")
round_is_name = record { name = (refl, All-from_recursion (λ b. is_name_byte b ≡ true) (codes "ound") (refl, (refl, (refl, (refl, tt))))); free = round_is_free }

abbrev set_text : SettlingSet → List ℕ
set_text set = codes "round " ++ (decimal set.round ++ flat_map listed_node set.members)

abbrev set_tokens : SettlingSet → List Token
set_tokens set = token.Name (codes "round") ∷ token.Number (decimal set.round) ∷ nodes_tokens set.members

set_written : (set : SettlingSet) → IsWritableSet set → IsWritten (set_text set) (set_tokens set)
set_written set h =
    let nodes = flat_map listed_node set.members in
    let number = number_then set.round h.round nodes (nodes_tokens set.members) (digits_stop_at_nodes set.members) (nodes_written set.members h.members) in
    name_then (codes "round") (32 ∷ (decimal set.round ++ nodes)) _ round_is_name refl (blank_then (decimal set.round ++ nodes) _ number)

set_is_read : (round : ℕ) (members : List NodeName) → IsWritableSet (record { round = round; members = members }) → IsSettlingSet (set_tokens (record { round = round; members = members })) (record { round = round; members = members })
set_is_read round [] h = absurd (h.some refl)
set_is_read round (node ∷ nodes) h =
    let first = node_tree node h.members.0 in
    let others = nodes_tree nodes h.members.1 in
    let number = value round h.round in
    record {
      reading = record { round = numeral round h.round; members = (reading_of_node node, map reading_of_node nodes) };
      spelled = refl;
      tree = cc;
      few = nodes_few (node ∷ nodes) h.members;
      normal = no_reference (set_written (record { round = round; members = node ∷ nodes }) h);
    }

set_ends : (set : SettlingSet) → set_line set ≡ set_text set ++ codes "\n"
set_ends set = ap (λ (bytes : List ℕ). codes "round " ++ bytes) (sym (append_assoc (decimal set.round) (flat_map listed_node set.members) (codes "\n")))

-- ---- lines one after another

-- a line with its newline
line_taken : (text rest : List ℕ) {tokens : List Token} → IsWritten text tokens → ¬ (tokens ≡ []) → TakesRow (text ++ 10 ∷ rest) tokens rest
line_taken text rest w some = row_taken (all_rows (text ++ 10 ∷ rest)) (record { unbroken = w.unbroken; ends = inl refl }) w.cut some

said_then : (whole text rest : List ℕ) {tokens : List Token} {r : SettlingRow} {rows : List SettlingRow} → whole ≡ text ++ codes "\n" → IsWritten text tokens → ¬ (tokens ≡ []) → IsRow tokens r → AreSaid rest rows → AreSaid (whole ++ rest) (r ∷ rows)
said_then whole text rest {tokens} {r} {rows} ends w some is h =
    let takes = line_taken text rest w some in
    let bytes : whole ++ rest ≡ text ++ 10 ∷ rest = ap (λ (front : List ℕ). front ++ rest) ends ∙ append_assoc text (codes "\n") rest in
    subst (λ (all : List ℕ). AreSaid all (r ∷ rows)) (sym bytes) (record { tokens = tokens ∷ h.tokens; has_rows = takes.onward h.tokens h.has_rows; each = (is, h.each) })

sets_said : (sets : List SettlingSet) → AllByRecursion IsWritableSet sets → AreSaid (flat_map set_line sets) (map row.Set sets)
sets_said [] h = record { tokens = []; has_rows = no_rows [] refl; each = tt }
sets_said (set ∷ sets) h =
    said_then (set_line set) (set_text set) (flat_map set_line sets) (set_ends set) (set_written set h.0) (λ e. cc) (set_is_read set.round set.members h.0) (sets_said sets h.1)

lines_said : (lines : List SettlingLine) {rest : List ℕ} {rows : List SettlingRow} → AllByRecursion IsWritableLine lines → AreSaid rest rows → AreSaid (flat_map node_line lines ++ rest) (map row.Line lines ++ rows)
lines_said [] h said = said
lines_said (line ∷ lines) {rest} {rows} h said =
    let more = lines_said lines h.1 said in
    let one = said_then (node_line line) (line_text line) (flat_map node_line lines ++ rest) (line_ends line) (line_written line h.0) (λ e. node_some (reading_of_node line.node) _ (sym e)) (line_is_read line h.0) more in
    subst (λ (bytes : List ℕ). AreSaid bytes (row.Line line ∷ (map row.Line lines ++ rows))) (sym (append_assoc (node_line line) (flat_map node_line lines) rest)) one

-- what the lines say
no_lines_of : (sets : List SettlingSet) → lines_of (map row.Set sets) ≡ []
no_lines_of [] = refl
no_lines_of (set ∷ sets) = no_lines_of sets

all_sets_of : (sets : List SettlingSet) → sets_of (map row.Set sets) ≡ sets
all_sets_of [] = refl
all_sets_of (set ∷ sets) = ap (λ (more : List SettlingSet). set ∷ more) (all_sets_of sets)

lines_are : (lines : List SettlingLine) (sets : List SettlingSet) → lines_of (map row.Line lines ++ map row.Set sets) ≡ lines
lines_are [] sets = no_lines_of sets
lines_are (line ∷ lines) sets = ap (λ (more : List SettlingLine). line ∷ more) (lines_are lines sets)

sets_are : (lines : List SettlingLine) (sets : List SettlingSet) → sets_of (map row.Line lines ++ map row.Set sets) ≡ sets
sets_are [] sets = all_sets_of sets
sets_are (line ∷ lines) sets = sets_are lines sets

all_read : (certificate : SettlingCertificate) → IsWritable certificate → AreRows (flat_map node_line certificate.lines ++ flat_map set_line certificate.sets) certificate.lines certificate.sets
all_read certificate h =
    let said = lines_said certificate.lines h.lines (sets_said certificate.sets h.sets) in
    record {
      tokens = said.tokens;
      has_rows = said.has_rows;
      rows = map row.Line certificate.lines ++ map row.Set certificate.sets;
      each = said.each;
      lines_are = lines_are certificate.lines certificate.sets;
      sets_are = sets_are certificate.lines certificate.sets;
    }

-- ---- the first two lines

settling_is_free : IsFree (codes "settling")
settling_is_free word.Class = differs (codes "settling") (codes "class") refl
settling_is_free w = differs (codes "settling") (word_spelling w) refl

settling_is_name : IsFreeName (codes "settling")
settling_is_name = record { name = (refl, All-from_recursion (λ b. is_name_byte b ≡ true) (codes "ettling") (refl, (refl, (refl, (refl, (refl, (refl, (refl, tt)))))))); free = settling_is_free }

abbrev header_tokens : List Token
header_tokens = token.Name (codes "settling") ∷ token.Number (codes "1") ∷ []

header_written : IsWritten (codes "settling 1") header_tokens
header_written =
    name_then (codes "settling") (codes " 1") _ settling_is_name refl (blank_then (codes "1") _ (digits_then (codes "1") [] [] tt (refl, tt) tt nothing))

header_is_read : IsSetting (codes "settling") header_tokens 1
header_is_read = record { numeral = record { digits = codes "1"; fits = omega arith }; spelled = refl; value = refl }

abbrev depth_text : ℕ → ℕ → List ℕ
depth_text bound step = codes "bound " ++ (decimal bound ++ (codes " " ++ decimal step))

abbrev depth_tokens : ℕ → ℕ → List Token
depth_tokens bound step = token.Name (codes "bound") ∷ token.Number (decimal bound) ∷ token.Number (decimal step) ∷ []

depth_written : (bound step : ℕ) → bound ≤ greatest → step ≤ greatest → IsWritten (depth_text bound step) (depth_tokens bound step)
depth_written bound step h k =
    let second : IsWritten (decimal step) (token.Number (decimal step) ∷ []) = subst (λ (bytes : List ℕ). IsWritten bytes (token.Number (decimal step) ∷ [])) (append-nil (decimal step)) (number_then step k [] [] tt nothing) in
    let first = number_then bound h (32 ∷ decimal step) _ refl (blank_then (decimal step) _ second) in
    name_then (codes "bound") (32 ∷ (decimal bound ++ (32 ∷ decimal step))) _ bound_is_name refl (blank_then (decimal bound ++ (32 ∷ decimal step)) _ first)

depth_is_read : (bound step : ℕ) → bound ≤ greatest → step ≤ greatest → IsDepth (depth_tokens bound step) (record { bound = bound; step = step })
depth_is_read bound step h k =
    let first = value bound h in
    let second = value step k in
    record { reading = record { bound = numeral bound h; step = numeral step k }; spelled = refl; tree = cc }

depth_ends : (bound step : ℕ) → depth_line bound step ≡ depth_text bound step ++ codes "\n"
depth_ends bound step = ap (λ (bytes : List ℕ). codes "bound " ++ bytes) (sym (append_assoc (decimal bound) (32 ∷ decimal step) (codes "\n")))

-- ---- the certificate

pub text_is_read : TextsAreRead
text_is_read certificate h =
    let bound = certificate.bound in
    let step = certificate.step in
    let rest = flat_map node_line certificate.lines ++ flat_map set_line certificate.sets in
    let depth : depth_line bound step ++ rest ≡ depth_text bound step ++ 10 ∷ rest = ap (λ (front : List ℕ). front ++ rest) (depth_ends bound step) ∙ append_assoc (depth_text bound step) (codes "\n") rest in
    let bytes : settling_text certificate ≡ codes "settling 1" ++ 10 ∷ (depth_text bound step ++ 10 ∷ rest) = ap (λ (all : List ℕ). codes "settling 1\n" ++ all) depth in
    let header = line_taken (codes "settling 1") (depth_text bound step ++ 10 ∷ rest) header_written (λ e. cc) in
    let second = line_taken (depth_text bound step) rest (depth_written bound step h.bound h.step) (λ e. cc) in
    subst (λ (all : List ℕ). IsSettling all certificate) (sym bytes) (settling_read header second header_is_read (depth_is_read bound step h.bound h.step) (all_read certificate h))
