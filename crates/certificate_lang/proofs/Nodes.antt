-- Reading nodes and lines from their parts.
use Rattle.std.proofs.Common.{ℕ, ◌≡◌, Result, Ok, Err, List, [], ◌∷◌, map, refl, sym, ◌∙◌, ap}
use Rattle.basic_types.specs.declared.qtype.QType.{QType}
use Rattle.token_reading.{specs.code.Cursor.{NotAt}, specs.Lists.{spell_each, spell_listed}, specs.Literals.{greatest}, specs.code.Numerals.{ReadsNumeral}, specs.code.Reading.{Found, EndsAnywhere, IsAtEnd}, specs.Reading.{spell_name}, specs.Signatures.{TypeReading, spell_type, tree_of_type, sig}, specs.declared.fault.ParseFault.{ParseFault}, proofs.Signatures.{sig_found}, proofs.Underway.{None}}
use Rattle.texts.specs.{Numerals.{spell_numeral, value_of}, declared.symbol.Symbol.TheVariants.{Open, Dot, Tilde}, declared.token.Token.{Token}}
use Rattle.texts.specs.declared.token.Token.TheVariants as token
use Rattle.certificate_lang.specs.{declared.certificate.MemberName.{MemberName}, declared.certificate.NodeName.{NodeName}, declared.certificate.SetItem.{SetItem}, declared.version.Version.{Version}, Grammar.{spell_setting, IsSetting, MemberReading, method, property, spell_member, tree_of_member, NodeReading, destruction, of_class, spell_node, tree_of_node, spell_item, tree_of_item, LineReading, spell_line, tree_of_line}, code.Grammar.{EndsNode, ReadsSetting}}
use Rattle.certificate_lang.specs.declared.certificate.MemberName.TheVariants as member

-- a list in parentheses begins with one
pub listed_opens : (ts : List TypeReading) (rest : List Token) → (after : List Token) × (spell_listed spell_type ts rest ≡ token.Symbol Open ∷ after)
listed_opens [] rest = (_, refl)
listed_opens (t ∷ ts) rest = (_, refl)

pub no_list : (ts : List TypeReading) (before rest : List Token) → NotAt Open before → before ≡ spell_listed spell_type ts rest → ⊥
no_list ts before rest not e = let w = listed_opens ts rest in not w.0 (e ∙ w.1)

-- ---- a name with a number

pub setting_reads : {before between : List Token} {name : List ℕ} → before ≡ token.Name name ∷ between → (after : List Token) (result : Result ℕ ParseFault) → ReadsNumeral greatest between result after → ReadsSetting name before result after
setting_reads {name = name} e after (Ok n) h = record {
  reading = h.reading;
  spelled = e ∙ ap (λ ts. token.Name name ∷ ts) h.spelled;
  tree_is = h.tree_is;
  only = λ r rest ends g. h.only r rest ends cc;
}
setting_reads e after (Err fault) h = λ k r rest ends g. h k r rest ends cc

pub setting_whole : {tokens after : List Token} {name : List ℕ} {n : ℕ} → Found (spell_setting name) (λ m. value_of m.digits) EndsAnywhere tokens n after → after ≡ [] → IsSetting name tokens n
setting_whole {name = name} f end = record { numeral = f.reading; spelled = f.spelled ∙ ap (spell_setting name f.reading) end; value = f.tree_is }

-- ---- members

property_only : {before after : List Token} {name : List ℕ} (r : MemberReading) (rest : List Token) → Found spell_name (λ n. n) EndsAnywhere before name after → NotAt Open after → before ≡ spell_member r rest → after ≡ rest
property_only {after = after} (method (sig x ts)) rest f not g =
    absurd (no_list ts after rest not (f.only x (spell_listed spell_type ts rest) tt g))
property_only (property x) rest f not g = f.only x rest tt g

pub property_found : {before after : List Token} {name : List ℕ} → Found spell_name (λ n. n) EndsAnywhere before name after → NotAt Open after → Found spell_member tree_of_member EndsNode before (member.Property name) after
property_found f not = record {
  reading = property f.reading;
  spelled = f.spelled;
  tree_is = ap member.Property f.tree_is;
  only = λ r rest ends g. property_only r rest f not g;
}

module _ {before between after : List Token} {name : List ℕ} {types : List QType} (n : Found spell_name (λ n. n) EndsAnywhere before name between) (t : Found (spell_listed spell_type) (map tree_of_type) EndsAnywhere between types after) where
  method_only : (r : MemberReading) (rest : List Token) → EndsNode rest → before ≡ spell_member r rest → after ≡ rest
  method_only (method m) rest ends g = let f = sig_found n t in f.only m rest tt g
  method_only (property x) rest ends g =
      let same = n.only x rest tt g in
      absurd (no_list t.reading rest after ends (sym same ∙ t.spelled))

  pub method_found : Found spell_member tree_of_member EndsNode before (member.Method (record { name = name; types = types })) after
  method_found =
      let f = sig_found n t in
      record {
        reading = method f.reading;
        spelled = f.spelled;
        tree_is = ap member.Method f.tree_is;
        only = method_only;
      }

-- ---- nodes

module _ {before between after : List Token} {class : List ℕ} (e : before ≡ token.Symbol Tilde ∷ between) (f : Found spell_name (λ n. n) EndsAnywhere between class after) where
  destruction_only : (r : NodeReading) (rest : List Token) → before ≡ spell_node r rest → after ≡ rest
  destruction_only (destruction x) rest g = f.only x rest tt cc
  destruction_only (of_class x m) rest g = cc

  pub destruction_found : Found spell_node tree_of_node EndsNode before (record { class = class; member = member.Destruction }) after
  destruction_found =
      let s = f.spelled in let t = f.tree_is in
      record { reading = destruction class; spelled = cc; tree_is = refl; only = λ r rest ends g. destruction_only r rest g }

module _ {before between at_member after : List Token} {class : List ℕ} {m : MemberName} (not : NotAt Tilde before) (f : Found spell_name (λ n. n) EndsAnywhere before class between) (dot : between ≡ token.Symbol Dot ∷ at_member) (h : Found spell_member tree_of_member EndsNode at_member m after) where
  of_class_only : (r : NodeReading) (rest : List Token) → EndsNode rest → before ≡ spell_node r rest → after ≡ rest
  of_class_only (destruction x) rest ends g = absurd (not (token.Name x ∷ rest) g)
  of_class_only (of_class x n) rest ends g =
      let same = f.only x (token.Symbol Dot ∷ spell_member n rest) tt g in
      h.only n rest ends cc

  pub of_class_found : Found spell_node tree_of_node EndsNode before (record { class = class; member = m }) after
  of_class_found =
      let s = f.spelled in let t = f.tree_is in let u = h.spelled in
      record {
        reading = of_class class h.reading;
        spelled = cc;
        tree_is = ap (λ (n : MemberName). let x : NodeName = record { class = class; member = n } in x) h.tree_is;
        only = of_class_only;
      }

-- ---- lines

module _ {v : Version} {before between at_items : List Token} {node : NodeName} {rank : ℕ} (n : Found spell_node tree_of_node EndsNode before node between) (k : Found (spell_numeral greatest) (λ n. value_of n.digits) EndsAnywhere between rank at_items) where
  pub no_line : None (spell_each (spell_item v)) IsAtEnd at_items → None (spell_line v) IsAtEnd before
  no_line none r rest ends g =
      let at_rank = n.only r.node (spell_numeral greatest r.rank (spell_each (spell_item v) r.destroys rest)) (λ more e. cc) g in
      none r.destroys rest ends (k.only r.rank (spell_each (spell_item v) r.destroys rest) tt at_rank)

module _ {v : Version} {before between at_items after : List Token} {node : NodeName} {rank : ℕ} {destroys : List SetItem} (n : Found spell_node tree_of_node EndsNode before node between) (k : Found (spell_numeral greatest) (λ n. value_of n.digits) EndsAnywhere between rank at_items) (d : Found (spell_each (spell_item v)) (map (tree_of_item v)) IsAtEnd at_items destroys after) where
  line_only : (r : LineReading v) (rest : List Token) → IsAtEnd rest → before ≡ spell_line v r rest → after ≡ rest
  line_only r rest ends g =
      let at_rank = n.only r.node (spell_numeral greatest r.rank (spell_each (spell_item v) r.destroys rest)) (λ more e. cc) g in
      let at_rest = k.only r.rank (spell_each (spell_item v) r.destroys rest) tt at_rank in
      d.only r.destroys rest ends at_rest

  pub line_found : Found (spell_line v) (tree_of_line v) IsAtEnd before (record { node = node; rank = rank; destroys = destroys }) after
  line_found =
      let s = n.spelled in let t = k.spelled in let u = d.spelled in
      let x = n.tree_is in let y = k.tree_is in let z = d.tree_is in
      record {
        reading = record { node = n.reading; rank = k.reading; destroys = d.reading };
        spelled = cc;
        tree_is = cc;
        only = line_only;
      }
