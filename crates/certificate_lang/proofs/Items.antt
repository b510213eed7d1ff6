-- Items of destroy sets, one after another up to the end of a line.
use Rattle.std.proofs.Common.{◌≡◌, ℕ, Result, Ok, Err, List, [], ◌∷◌, ◌++◌, map, refl, sym, ◌∙◌, ap, append_assoc}
use Rattle.std.proofs.lemmas.List.{append-nil}
use Rattle.token_reading.specs.Lists.{spell_each}
use Rattle.token_reading.specs.code.Cursor.{NotAt}
use Rattle.token_reading.specs.code.Reading.{Found, Reads, EndsAnywhere, IsAtEnd}
use Rattle.token_reading.specs.Reading.{spell_name}
use Rattle.token_reading.specs.declared.fault.ParseFault.{ParseFault}
use Rattle.texts.specs.declared.symbol.Symbol.TheVariants.{Tilde}
use Rattle.texts.specs.declared.token.Token.{Token}
use Rattle.texts.specs.declared.token.Token.TheVariants as token
use Rattle.token_reading.proofs.Underway.{None, Underway}
use Rattle.certificate_lang.specs.declared.certificate.SetItem.{SetItem}
use Rattle.certificate_lang.specs.declared.certificate.SetItem.TheVariants.{Class, Closure}
use Rattle.certificate_lang.specs.declared.version.Version.{Version}
use Rattle.certificate_lang.specs.declared.version.Version.TheVariants.{Two}
use Rattle.certificate_lang.specs.Grammar.{ItemReading, class, closure, spell_item, tree_of_item}
use Rattle.certificate_lang.specs.code.Grammar.{ReadsItem}

module _ (v : Version) where
  -- ---- one item
  class_only : {before after : List Token} {item : SetItem} → Found spell_name Class EndsAnywhere before item after → (r : ItemReading v) (rest : List Token) → before ≡ spell_item v r rest → after ≡ rest
  class_only f (class x) rest g = f.only x rest tt g
  class_only f (closure is x) rest g = let s = f.spelled in cc

  no_item : {before : List Token} → (v ≡ Two → NotAt Tilde before) → None spell_name EndsAnywhere before → None (spell_item v) EndsAnywhere before
  no_item not none (class x) rest ends g = none x rest ends g
  no_item not none (closure is x) rest ends g = not is (token.Name x ∷ rest) g

  -- where no closure comes next, it is a class
  pub class_reads : (before after : List Token) → (v ≡ Two → NotAt Tilde before) → (result : Result SetItem ParseFault) → Reads spell_name Class EndsAnywhere before result after → ReadsItem v before result after
  class_reads before after not (Ok item) f = record { reading = class f.reading; spelled = f.spelled; tree_is = f.tree_is; only = λ r rest ends g. class_only f r rest g }
  class_reads before after not (Err fault) none = λ k. no_item not (none k)

  module _ {before between : List Token} (e : before ≡ token.Symbol Tilde ∷ between) where
    closure_only : {after : List Token} {name : List ℕ} → Found spell_name (λ n. n) EndsAnywhere between name after → (r : ItemReading v) (rest : List Token) → before ≡ spell_item v r rest → after ≡ rest
    closure_only f (class x) rest g = cc
    closure_only f (closure is x) rest g = f.only x rest tt cc

    pub closure_found : v ≡ Two → {after : List Token} {name : List ℕ} → Found spell_name (λ n. n) EndsAnywhere between name after → Found (spell_item v) (tree_of_item v) EndsAnywhere before (Closure name) after
    closure_found is f =
        let s = f.spelled in
        record { reading = closure is f.reading; spelled = cc; tree_is = ap Closure f.tree_is; only = λ r rest ends g. closure_only f r rest g }

    pub no_closure : None spell_name EndsAnywhere between → None (spell_item v) EndsAnywhere before
    no_closure none (class x) rest ends g = cc
    no_closure none (closure is x) rest ends g = none x rest tt cc

  pub item_some : (r : ItemReading v) (after : List Token) → [] ≡ spell_item v r after → ⊥
  item_some (class x) after e = cc
  item_some (closure is x) after e = cc

  -- ---- items up to the end
  abbrev pub ItemsSoFar : List Token → List SetItem → List Token → Type 0
  ItemsSoFar before items now =
      Underway (spell_each (spell_item v)) (map (tree_of_item v)) IsAtEnd (spell_each (spell_item v)) (λ more items. items ++ map (tree_of_item v) more) before items now

  after_item : (rs : List (ItemReading v)) (now after rest : List Token) {item : SetItem} → IsAtEnd rest → Found (spell_item v) (tree_of_item v) EndsAnywhere now item after → now ≡ spell_each (spell_item v) rs rest
      → (more : List (ItemReading v)) × (after ≡ spell_each (spell_item v) more rest)
  after_item [] now after rest at_end f g = absurd (item_some f.reading after (sym at_end ∙ sym g ∙ f.spelled))
  after_item (r ∷ rs) now after rest at_end f g = (rs, f.only r (spell_each (spell_item v) rs rest) tt g)

  no_item_left : (rs : List (ItemReading v)) (now rest : List Token) → IsAtEnd rest → ¬ (now ≡ []) → None (spell_item v) EndsAnywhere now → now ≡ spell_each (spell_item v) rs rest → ⊥
  no_item_left [] now rest at_end some none g = some (g ∙ at_end)
  no_item_left (r ∷ rs) now rest at_end some none g = none r (spell_each (spell_item v) rs rest) tt g

  pub no_items : (before : List Token) → ItemsSoFar before [] before
  no_items before = record { goes_on = λ rs rest g. (rs, g, refl); all = λ r rest ends g. (r, g) }

  module _ {before : List Token} {items : List SetItem} {now : List Token} (h : ItemsSoFar before items now) where
    pub items_step : {item : SetItem} {after : List Token} → Found (spell_item v) (tree_of_item v) EndsAnywhere now item after → ItemsSoFar before (items ++ item ∷ []) after
    items_step {item} {after} f = record {
      goes_on = λ rs rest g.
          let w = h.goes_on (f.reading ∷ rs) rest (f.spelled ∙ ap (spell_item v f.reading) g) in
          (w.0, w.1, w.2 ∙ ap (λ (x : SetItem). items ++ x ∷ map (tree_of_item v) rs) f.tree_is ∙ sym (append_assoc items (item ∷ []) (map (tree_of_item v) rs)));
      all = λ r rest ends g. let w = h.all r rest ends g in after_item w.0 now after rest ends f w.1;
    }

    pub items_done : now ≡ [] → Found (spell_each (spell_item v)) (map (tree_of_item v)) IsAtEnd before items now
    items_done e =
        let w = h.goes_on [] now refl in
        record { reading = w.0; spelled = w.1; tree_is = w.2 ∙ append-nil items; only = λ r rest ends g. e ∙ sym ends }

    pub items_stuck : ¬ (now ≡ []) → None (spell_item v) EndsAnywhere now → None (spell_each (spell_item v)) IsAtEnd before
    items_stuck some none r rest ends g = let w = h.all r rest ends g in no_item_left w.0 now rest ends some none w.1
