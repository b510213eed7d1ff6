-- The lines of a certificate's text.
use Rattle.std.{proofs.Common.{◌≡◌, ◌≢◌, ◌∙◌, ℕ, ◌^◌, ◌<◌, ◌≤◌, Bool, true, false, ◌&&◌, nat_eq, List, [], ◌∷◌, ◌++◌, map, codes, decimal, inl, refl, sym, ap, subst, append_assoc, arith}, specs.List.{AllByRecursion, AllZip, flat_map}, proofs.lemmas.Bool.{eq-eqb, false≢true}, proofs.lemmas.List.{append-nil}, proofs.lemmas.List.Elements.{All-from_recursion}}
use Rattle.basic_types.specs.{Name.{is_digit, is_name_byte}, Signatures.{IsFreeName}, Spelling.{text_of_sig}, Tokens.{StopsBy}, Words.{IsFree, word_spelling}}
use Rattle.basic_types.specs.declared.word.Word.TheVariants as word
use Rattle.texts.specs.{Lines.{AreFirstLines}, Numerals.{Numeral, value_of}, Pieces.{AreTokens}, declared.token.Token.{Token}}
use Rattle.token_reading.specs.{Lists.{spell_each}, Literals.{greatest}, Signatures.{HasPlainReference}}
use Rattle.texts.specs.declared.token.Token.TheVariants as token
use Rattle.certificate_lang.{specs.Grammar.{NodeReading, method, property, destruction, of_class, spell_node, tree_of_node, ItemReading, class as item_class, closure as item_closure, spell_item, tree_of_item, HasFewParameters, IsNodeLine}, specs.Reads.{before, AreRows, IsCertificate}, specs.declared.certificate.MemberName.{MemberName}, specs.declared.certificate.NodeName.{NodeName}, specs.declared.certificate.SetItem.{SetItem}, specs.declared.certificate.SetItem.TheVariants.{Class, Closure}, specs.declared.certificate.Line.{Line}, specs.declared.certificate.Certificate.{Certificate}, specs.declared.version.Version.TheVariants.{Two}, specs.Texts.{node_text_of, node_text, listed_text, node_line, certificate_text}, specs.Written.{IsWritableMember, IsWritableNode, IsWritableItem, IsWritableLine, IsWritable, NodesAreRead}, proofs.Pieces.{IsWritten, ampersand, nothing, blank_then, name_then, dot_then, tilde_then, digits_then, are_digits}, proofs.Signatures.{sig_reading, sig_tree, sig_then}}
use Rattle.certificate_lang.specs.declared.certificate.MemberName.TheVariants as member

-- ---- nodes
abbrev reading_of_member : List ℕ → MemberName → NodeReading
reading_of_member class (member.Method x) = of_class class (method (sig_reading x))
reading_of_member class (member.Property name) = of_class class (property name)
reading_of_member class member.Destruction = destruction class

abbrev pub reading_of_node : NodeName → NodeReading
reading_of_node node = reading_of_member node.class node.member

tree_by : (class : List ℕ) (m : MemberName) → IsWritableMember m → tree_of_node (reading_of_member class m) ≡ record { class = class; member = m }
tree_by class (member.Method x) h = ap (λ y. let node : NodeName = record { class = class; member = member.Method y } in node) (sig_tree x h)
tree_by class (member.Property name) h = refl
tree_by class member.Destruction h = refl

pub node_tree : (node : NodeName) → IsWritableNode node → tree_of_node (reading_of_node node) ≡ node
node_tree node h = tree_by node.class node.member h.member

dotted : (class m rest : List ℕ) → (class ++ codes "." ++ m) ++ rest ≡ class ++ (46 ∷ (m ++ rest))
dotted class m rest = append_assoc (class ++ codes ".") m rest ∙ append_assoc class (codes ".") (m ++ rest)

pub node_then : (class : List ℕ) (m : MemberName) → IsFreeName class → IsWritableMember m → (rest : List ℕ) (tokens : List Token) → StopsBy is_name_byte rest → IsWritten rest tokens → IsWritten (node_text_of class m ++ rest) (spell_node (reading_of_member class m) tokens)
node_then class (member.Method x) free h rest tokens stops w =
    subst (λ (bytes : List ℕ). IsWritten bytes (spell_node (of_class class (method (sig_reading x))) tokens)) (sym (dotted class (text_of_sig x) rest))
    (name_then class (46 ∷ (text_of_sig x ++ rest)) _ free refl (dot_then (text_of_sig x ++ rest) _ (sig_then x h rest tokens w)))
node_then class (member.Property name) free h rest tokens stops w =
    subst (λ (bytes : List ℕ). IsWritten bytes (spell_node (of_class class (property name)) tokens)) (sym (dotted class name rest))
    (name_then class (46 ∷ (name ++ rest)) _ free refl (dot_then (name ++ rest) _ (name_then name rest tokens h stops w)))
node_then class member.Destruction free h rest tokens stops w = tilde_then (class ++ rest) _ (name_then class rest tokens free stops w)

pub node_is_read : NodesAreRead
node_is_read node h =
    let written = node_then node.class node.member h.class h.member [] [] tt nothing in
    record {
      reading = reading_of_node node;
      cut = subst (λ (bytes : List ℕ). AreTokens bytes (spell_node (reading_of_node node) [])) (append-nil (node_text node)) written.cut;
      tree = node_tree node h;
    }

-- ---- the items of a set
abbrev pub reading_of_item : SetItem → ItemReading Two
reading_of_item (Class name) = item_class name
reading_of_item (Closure name) = item_closure refl name

abbrev pub items_tokens : List SetItem → List Token
items_tokens items = spell_each (spell_item Two) (map reading_of_item items) []

pub items_tree : (items : List SetItem) → map (tree_of_item Two) (map reading_of_item items) ≡ items
items_tree [] = refl
items_tree (Class name ∷ items) = ap (λ (more : List SetItem). Class name ∷ more) (items_tree items)
items_tree (Closure name ∷ items) = ap (λ (more : List SetItem). Closure name ∷ more) (items_tree items)

pub digits_stop_at_items : (items : List SetItem) → StopsBy is_digit (flat_map listed_text items)
digits_stop_at_items [] = tt
digits_stop_at_items (item ∷ items) = refl

stops_at_items : (items : List SetItem) → StopsBy is_name_byte (flat_map listed_text items)
stops_at_items [] = tt
stops_at_items (item ∷ items) = refl

pub items_written : (items : List SetItem) → AllByRecursion IsWritableItem items → IsWritten (flat_map listed_text items) (items_tokens items)
items_written [] free = nothing
items_written (Closure name ∷ items) free =
    blank_then (126 ∷ (name ++ flat_map listed_text items)) _
    (tilde_then (name ++ flat_map listed_text items) _ (name_then name (flat_map listed_text items) (items_tokens items) free.0 (stops_at_items items) (items_written items free.1)))
items_written (Class name ∷ items) free = blank_then (name ++ flat_map listed_text items) _ (name_then name (flat_map listed_text items) (items_tokens items) free.0 (stops_at_items items) (items_written items free.1))

-- ---- numbers
below : (n : ℕ) → n ≤ greatest → n < 2 ^ 64
below n h = omega arith

pub value : (n : ℕ) → n ≤ greatest → value_of (decimal n) ≡ n
value n h = (are_digits n (below n h)).value

abbrev pub numeral : (n : ℕ) → n ≤ greatest → Numeral greatest
numeral n h = record { digits = decimal n; fits = subst (λ (k : ℕ). k ≤ greatest) (sym (value n h)) h }

pub number_then : (n : ℕ) → n ≤ greatest → (rest : List ℕ) (tokens : List Token) → StopsBy is_digit rest → IsWritten rest tokens → IsWritten (decimal n ++ rest) (token.Number (decimal n) ∷ tokens)
number_then n h rest tokens stops w =
    let digits = are_digits n (below n h) in
    digits_then (decimal n) rest tokens digits.some digits.each stops w

-- ---- lines
abbrev line_text : Line → List ℕ
line_text line = node_text line.node ++ (codes " " ++ (decimal line.rank ++ flat_map listed_text line.destroys))

line_written : (line : Line) → IsWritableLine line → IsWritten (line_text line) (spell_node (reading_of_node line.node) (token.Number (decimal line.rank) ∷ items_tokens line.destroys))
line_written line h =
    let set = items_written line.destroys h.destroys in
    let ranked = number_then line.rank h.rank (flat_map listed_text line.destroys) (items_tokens line.destroys) (digits_stop_at_items line.destroys) set in
    node_then line.node.class line.node.member h.node.class h.node.member (32 ∷ (decimal line.rank ++ flat_map listed_text line.destroys)) _ refl (blank_then (decimal line.rank ++ flat_map listed_text line.destroys) _ ranked)

plain_front : (front : List Token) (t : Token) (after tokens : List Token) → tokens ≡ front ++ t ∷ ampersand ∷ after → AllByRecursion (λ x. x ≢ ampersand) tokens → ⊥
plain_front [] t after [] e h = cc
plain_front [] t after (x ∷ []) e h = cc
plain_front [] t after (x ∷ y ∷ rest) e h = let same : y ≡ ampersand = cc in h.1.0 same
plain_front (f ∷ front) t after [] e h = cc
plain_front (f ∷ front) t after (x ∷ rest) e h = let same : rest ≡ front ++ t ∷ ampersand ∷ after = cc in plain_front front t after rest same h.1

pub no_reference : {bytes : List ℕ} {tokens : List Token} → IsWritten bytes tokens → ¬ HasPlainReference tokens
no_reference written plain = plain_front plain.front (token.Name plain.name) plain.after _ plain.is written.plain

few : (m : MemberName) → IsWritableMember m → HasFewParameters m
few (member.Method x) h = h.few
few (member.Property name) h = tt
few member.Destruction h = tt

pub node_few : (node : NodeName) → IsWritableNode node → HasFewParameters node.member
node_few node h = few node.member h.member

line_is_read : (line : Line) (h : IsWritableLine line) → IsNodeLine Two (spell_node (reading_of_node line.node) (token.Number (decimal line.rank) ∷ items_tokens line.destroys)) line
line_is_read line h =
    let node : tree_of_node (reading_of_node line.node) ≡ line.node = node_tree line.node h.node in
    record {
      reading = record { node = reading_of_node line.node; rank = numeral line.rank h.rank; destroys = map reading_of_item line.destroys };
      spelled = refl;
      tree =
          ap (λ n. let x : Line = record { node = n; rank = value_of (decimal line.rank); destroys = map (tree_of_item Two) (map reading_of_item line.destroys) } in x) node
          ∙ ap (λ (k : ℕ). let x : Line = record { node = line.node; rank = k; destroys = map (tree_of_item Two) (map reading_of_item line.destroys) } in x) (value line.rank h.rank)
          ∙ ap (λ (items : List SetItem). let x : Line = record { node = line.node; rank = line.rank; destroys = items } in x) (items_tree line.destroys);
      few = node_few line.node h.node;
      normal = no_reference (line_written line h);
    }

-- ---- rows
row_of : (node : NodeName) (ts : List Token) (later : List (List Token)) → before (spell_node (reading_of_node node) ts) later ≡ spell_node (reading_of_node node) ts ∷ later
row_of node ts later = by node.class node.member
  where
    by : (class : List ℕ) (m : MemberName) → before (spell_node (reading_of_member class m) ts) later ≡ spell_node (reading_of_member class m) ts ∷ later
    by class (member.Method x) = refl
    by class (member.Property name) = refl
    by class member.Destruction = refl

abbrev line_tokens : Line → List Token
line_tokens line = spell_node (reading_of_node line.node) (token.Number (decimal line.rank) ∷ items_tokens line.destroys)

line_bytes : (line : Line) (rest : List ℕ) → node_line line ++ rest ≡ line_text line ++ (10 ∷ rest)
line_bytes line rest =
    let node = node_text line.node in
    let rank = decimal line.rank in
    let set = flat_map listed_text line.destroys in
    append_assoc node (32 ∷ (rank ++ (set ++ codes "\n"))) rest
    ∙ ap (λ (bytes : List ℕ). node ++ (32 ∷ bytes)) (append_assoc rank (set ++ codes "\n") rest ∙ ap (λ (bytes : List ℕ). rank ++ bytes) (append_assoc set (codes "\n") rest) ∙ sym (append_assoc rank set (10 ∷ rest)))
    ∙ sym (append_assoc node (32 ∷ (rank ++ set)) (10 ∷ rest))

pub record AreRead (lines : List Line) : Type 0 where
  pub cut : AreFirstLines (flat_map node_line lines) (map line_text lines) []
  pub rows : AreRows (map line_text lines) (map line_tokens lines)
  pub each : AllZip (IsNodeLine Two) (map line_tokens lines) lines

lines_are_read : (lines : List Line) → AllByRecursion IsWritableLine lines → AreRead lines
lines_are_read [] h = record { cut = refl; rows = refl; each = tt }
lines_are_read (line ∷ lines) h =
    let more = lines_are_read lines h.1 in
    let written = line_written line h.0 in
    record {
      cut = (flat_map node_line lines, record { unbroken = written.unbroken; ends = inl (line_bytes line (flat_map node_line lines)) }, more.cut);
      rows = (line_tokens line, map line_tokens lines, written.cut, more.rows, sym (row_of line.node (token.Number (decimal line.rank) ∷ items_tokens line.destroys) (map line_tokens lines)));
      each = (line_is_read line h.0, more.each);
    }

-- ---- the certificate
abbrev same : List ℕ → List ℕ → Bool
same [] [] = true
same [] (y ∷ ys) = false
same (x ∷ xs) [] = false
same (x ∷ xs) (y ∷ ys) = nat_eq x y && same xs ys

same_itself : (xs : List ℕ) → same xs xs ≡ true
same_itself [] = refl
same_itself (x ∷ xs) = let one : nat_eq x x ≡ true = eq-eqb x x refl in rw one (same_itself xs)

pub differs : (xs ys : List ℕ) → same xs ys ≡ false → xs ≢ ys
differs xs ys other e = false≢true (sym other ∙ (ap (λ (zs : List ℕ). same xs zs) (sym e) ∙ same_itself xs))

certificate_is_free : IsFree (codes "certificate")
certificate_is_free word.Class = differs (codes "certificate") (codes "class") refl
certificate_is_free w = differs (codes "certificate") (word_spelling w) refl

bound_is_free : IsFree (codes "bound")
bound_is_free word.Class = differs (codes "bound") (codes "class") refl
bound_is_free w = differs (codes "bound") (word_spelling w) refl

certificate_is_name : IsFreeName (codes "certificate")
certificate_is_name = record { name = (refl, All-from_recursion (λ b. is_name_byte b ≡ true) (codes "ertificate") (refl, (refl, (refl, (refl, (refl, (refl, (refl, (refl, (refl, (refl, tt))))))))))); free = certificate_is_free }

pub bound_is_name : IsFreeName (codes "bound")
bound_is_name = record { name = (refl, All-from_recursion (λ b. is_name_byte b ≡ true) (codes "ound") (refl, (refl, (refl, (refl, tt))))); free = bound_is_free }

header_written : IsWritten (codes "certificate 2") (token.Name (codes "certificate") ∷ token.Number (codes "2") ∷ [])
header_written =
    name_then (codes "certificate") (codes " 2") _ certificate_is_name refl (blank_then (codes "2") _ (digits_then (codes "2") [] [] tt (refl, tt) tt nothing))

bound_written : (n : ℕ) → n ≤ greatest → IsWritten (codes "bound " ++ decimal n) (token.Name (codes "bound") ∷ token.Number (decimal n) ∷ [])
bound_written n h =
    let number : IsWritten (decimal n) (token.Number (decimal n) ∷ []) = subst (λ (bytes : List ℕ). IsWritten bytes (token.Number (decimal n) ∷ [])) (append-nil (decimal n)) (number_then n h [] [] tt nothing) in
    name_then (codes "bound") (32 ∷ decimal n) _ bound_is_name refl (blank_then (decimal n) _ number)

pub text_is_read : (certificate : Certificate) → IsWritable certificate → IsCertificate (certificate_text certificate) certificate
text_is_read certificate h =
    let nodes = lines_are_read certificate.lines h.lines in
    let others = flat_map node_line certificate.lines in
    let bound = decimal certificate.bound in
    let header = header_written in
    let second = bound_written certificate.bound h.bound in
    let bytes : certificate_text certificate ≡ codes "certificate 2\nbound " ++ (bound ++ (10 ∷ others)) = ap (λ (rest : List ℕ). codes "certificate 2\nbound " ++ rest) (append_assoc bound (codes "\n") others) in
    record {
      version = Two;
      first = token.Name (codes "certificate") ∷ token.Number (codes "2") ∷ [];
      second = token.Name (codes "bound") ∷ token.Number bound ∷ [];
      others = map line_tokens certificate.lines;
      has_rows = record {
        lines = codes "certificate 2" ∷ (codes "bound " ++ bound) ∷ map line_text certificate.lines;
        cut = (
          codes "bound " ++ (bound ++ (10 ∷ others)),
          record { unbroken = header.unbroken; ends = inl bytes },
          (others, record { unbroken = second.unbroken; ends = inl refl }, nodes.cut),
        );
        are_rows = (_, _, header.cut, (_, _, second.cut, nodes.rows, refl), refl);
      };
      header = record { numeral = record { digits = codes "2"; fits = omega arith }; spelled = refl; value = refl };
      bound = record { numeral = numeral certificate.bound h.bound; spelled = refl; value = value certificate.bound h.bound };
      nodes = nodes.each;
    }
