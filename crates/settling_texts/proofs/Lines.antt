-- Reading the bound and the lines of nodes and of sets from their parts.
use Rattle.std.proofs.Common.{◌≡◌, ℕ, List, map, codes, ◌∙◌, ap}
use Rattle.texts.specs.Numerals.{spell_numeral, value_of}
use Rattle.texts.specs.declared.token.Token.{Token}
use Rattle.token_reading.specs.Lists.{spell_each}
use Rattle.token_reading.specs.Literals.{greatest}
use Rattle.token_reading.specs.code.Reading.{Found, EndsAnywhere, IsAtEnd}
use Rattle.token_reading.proofs.Underway.{None}
use Rattle.certificate_lang.specs.Grammar.{spell_setting, spell_node, tree_of_node, spell_item, tree_of_item}
use Rattle.certificate_lang.specs.code.Grammar.{EndsNode}
use Rattle.certificate_lang.specs.declared.certificate.NodeName.{NodeName}
use Rattle.certificate_lang.specs.declared.certificate.SetItem.{SetItem}
use Rattle.certificate_lang.specs.declared.version.Version.TheVariants.{Two}
use Rattle.settling_texts.specs.Grammar.{spell_depth, tree_of_depth, SettlingLineReading, spell_settling_line, tree_of_settling_line, spell_members, tree_of_members, spell_settling_set, tree_of_settling_set}

abbrev number_at : List Token → ℕ → List Token → Type 0
number_at before n after = Found (spell_numeral greatest) (λ m. value_of m.digits) EndsAnywhere before n after

abbrev setting_at : List ℕ → List Token → ℕ → List Token → Type 0
setting_at name before n after = Found (spell_setting name) (λ m. value_of m.digits) EndsAnywhere before n after

-- ---- the bound and the step

module _ {before between : List Token} {bound : ℕ} (b : setting_at (codes "bound") before bound between) where
  pub no_depth : None (spell_numeral greatest) EndsAnywhere between → None spell_depth EndsAnywhere before
  no_depth none r rest ends g = none r.step rest tt (b.only r.bound (spell_numeral greatest r.step rest) tt g)

  pub depth_found : {after : List Token} {step : ℕ} → number_at between step after → Found spell_depth tree_of_depth EndsAnywhere before (record { bound = bound; step = step }) after
  depth_found k =
      let x = b.tree_is in let y = k.tree_is in
      record {
        reading = record { bound = b.reading; step = k.reading };
        spelled = b.spelled ∙ ap (λ (rest : List Token). spell_setting (codes "bound") b.reading rest) k.spelled;
        tree_is = cc;
        only = λ r rest ends g. k.only r.step rest tt (b.only r.bound (spell_numeral greatest r.step rest) tt g);
      }

-- ---- lines of nodes

module _ {before at_rank at_step at_items : List Token} {node : NodeName} {rank step : ℕ} (n : Found spell_node tree_of_node EndsNode before node at_rank) (k : number_at at_rank rank at_step) (l : number_at at_step step at_items) where
  -- where the items of a reading begin
  items_at : (r : SettlingLineReading) (rest : List Token) → before ≡ spell_settling_line r rest → at_items ≡ spell_each (spell_item Two) r.destroys rest
  items_at r rest g =
      let items = spell_each (spell_item Two) r.destroys rest in
      let steps = spell_numeral greatest r.step items in
      l.only r.step items tt (k.only r.rank steps tt (n.only r.node (spell_numeral greatest r.rank steps) (λ more e. cc) g))

  pub no_line : None (spell_each (spell_item Two)) IsAtEnd at_items → None spell_settling_line IsAtEnd before
  no_line none r rest ends g = none r.destroys rest ends (items_at r rest g)

  pub line_found : {after : List Token} {destroys : List SetItem} → Found (spell_each (spell_item Two)) (map (tree_of_item Two)) IsAtEnd at_items destroys after
      → Found spell_settling_line tree_of_settling_line IsAtEnd before (record { node = node; rank = rank; step = step; destroys = destroys }) after
  line_found d =
      let s = n.spelled in let t = k.spelled in let u = l.spelled in let v = d.spelled in
      let w = n.tree_is in let x = k.tree_is in let y = l.tree_is in let z = d.tree_is in
      record {
        reading = record { node = n.reading; rank = k.reading; step = l.reading; destroys = d.reading };
        spelled = cc;
        tree_is = cc;
        only = λ r rest ends g. d.only r.destroys rest ends (items_at r rest g);
      }

module _ {before at_rank at_step : List Token} {node : NodeName} {rank : ℕ} (n : Found spell_node tree_of_node EndsNode before node at_rank) (k : number_at at_rank rank at_step) where
  pub no_step : None (spell_numeral greatest) EndsAnywhere at_step → None spell_settling_line IsAtEnd before
  no_step none r rest ends g =
      let items = spell_each (spell_item Two) r.destroys rest in
      let steps = spell_numeral greatest r.step items in
      none r.step items tt (k.only r.rank steps tt (n.only r.node (spell_numeral greatest r.rank steps) (λ more e. cc) g))

-- ---- lines of sets

module _ {before between : List Token} {round : ℕ} (k : setting_at (codes "round") before round between) where
  pub no_set : None spell_members IsAtEnd between → None spell_settling_set IsAtEnd before
  no_set none r rest ends g = none r.members rest ends (k.only r.round (spell_members r.members rest) tt g)

  pub set_found : {after : List Token} {members : List NodeName} → Found spell_members tree_of_members IsAtEnd between members after
      → Found spell_settling_set tree_of_settling_set IsAtEnd before (record { round = round; members = members }) after
  set_found m =
      let x = k.tree_is in let y = m.tree_is in
      record {
        reading = record { round = k.reading; members = m.reading };
        spelled = k.spelled ∙ ap (λ (rest : List Token). spell_setting (codes "round") k.reading rest) m.spelled;
        tree_is = cc;
        only = λ r rest ends g. m.only r.members rest ends (k.only r.round (spell_members r.members rest) tt g);
      }
