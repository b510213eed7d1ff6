-- Paths, and the member at the end of one.
use Rattle.std.proofs.Common.{◌≡◌, ◌∙◌, ℕ, List, [], ◌∷◌, ◌++◌, refl, sym, ap, append_assoc}
use Rattle.std.proofs.lemmas.List.{append-nil}
use Rattle.basic_types.specs.declared.word.Word.TheVariants as word
use Rattle.token_reading.specs.code.Cursor.{NotAt, NotAtWord}
use Rattle.slot_lang.specs.Expressions.{spell_root, spell_names, spell_path}
use Rattle.slot_lang.specs.code.Expressions.{EndsFactor}
use Rattle.slot_lang.specs.Grammar.{Target, spell_target}
use Rattle.token_reading.specs.code.Reading.{EndsAnywhere, Found}
use Rattle.token_reading.specs.Reading.{spell_name}
use Rattle.texts.specs.declared.symbol.Symbol.{Symbol}
use Rattle.texts.specs.declared.symbol.Symbol.TheVariants.{Dot}
use Rattle.syntax_trees.specs.declared.syntax.Path.{Path}
use Rattle.syntax_trees.specs.declared.syntax.Root.{Root}
use Rattle.syntax_trees.specs.declared.syntax.Root.TheVariants as root
use Rattle.texts.specs.declared.token.Token.{Token}
use Rattle.texts.specs.declared.token.Token.TheVariants as token
use Rattle.token_reading.proofs.Underway.{None, Underway}

-- ---- {"." Name}

abbrev pub NamesSoFar : List Token → List (List ℕ) → List Token → Type 0
NamesSoFar before names now = Underway spell_names (λ ms. ms) EndsFactor spell_names (λ ms ns. ns ++ ms) before names now

pub names_start : (now : List Token) → NamesSoFar now [] now
names_start now = record { goes_on = λ m rest e. (m, e, refl); all = λ r rest ends e. (r, e) }

after_dot : (m : List (List ℕ)) (now after rest : List Token) (n : List ℕ) → EndsFactor rest → now ≡ token.Symbol Dot ∷ token.Name n ∷ after → now ≡ spell_names m rest → (ns : List (List ℕ)) × (after ≡ spell_names ns rest)
after_dot [] now after rest n ends e g = absurd (ends (token.Name n ∷ after) cc)
after_dot (x ∷ xs) now after rest n ends e g = (xs, cc)

no_name_after_dot : (m : List (List ℕ)) (now after rest : List Token) → EndsFactor rest → now ≡ token.Symbol Dot ∷ after → None spell_name EndsAnywhere after → now ≡ spell_names m rest → ⊥
no_name_after_dot [] now after rest ends e none g = ends after cc
no_name_after_dot (x ∷ xs) now after rest ends e none g = none x (spell_names xs rest) tt cc

none_left : (m : List (List ℕ)) (now rest : List Token) → NotAt Dot now → now ≡ spell_names m rest → now ≡ rest
none_left [] now rest none g = g
none_left (x ∷ xs) now rest none g = absurd (none _ g)

module _ {before now : List Token} {names : List (List ℕ)} (h : NamesSoFar before names now) where
  pub names_step : {between after : List Token} {n : List ℕ} → now ≡ token.Symbol Dot ∷ between → Found spell_name (λ x. x) EndsAnywhere between n after → NamesSoFar before (names ++ n ∷ []) after
  names_step {between} {after} {n} e f =
      let s = f.spelled in
      let t = f.tree_is in
      let at : now ≡ token.Symbol Dot ∷ token.Name n ∷ after = cc in
      record {
        goes_on = λ m rest g. let w = h.goes_on (n ∷ m) rest cc in (w.0, w.1, w.2 ∙ sym (append_assoc names (n ∷ []) m));
        all = λ r rest ends g. let w = h.all r rest ends g in after_dot w.0 now after rest n ends at w.1;
      }

  pub names_done : NotAt Dot now → Found spell_names (λ x. x) EndsFactor before names now
  names_done none =
      let w = h.goes_on [] now refl in
      record { reading = w.0; spelled = w.1; tree_is = w.2 ∙ append-nil names; only = λ r rest ends g. let v = h.all r rest ends g in none_left v.0 now rest none v.1 }

  pub names_stuck : {between : List Token} → now ≡ token.Symbol Dot ∷ between → None spell_name EndsAnywhere between → None spell_names EndsFactor before
  names_stuck {between} e none r rest ends g = let w = h.all r rest ends g in no_name_after_dot w.0 now between rest ends e none w.1

-- ---- a root and names

pub root_no_symbol : (r : Root) (s : Symbol) (after rest : List Token) → spell_root r after ≡ token.Symbol s ∷ rest → ⊥
root_no_symbol root.This s after rest e = cc
root_no_symbol (root.Name x) s after rest e = cc

pub same_root : (q r : Root) (between rest : List Token) → spell_root r between ≡ spell_root q rest → between ≡ rest
same_root root.This root.This between rest g = cc
same_root root.This (root.Name y) between rest g = cc
same_root (root.Name x) root.This between rest g = cc
same_root (root.Name x) (root.Name y) between rest g = cc

pub root_found : {before after : List Token} {name : List ℕ} → NotAtWord word.This before → Found spell_name (λ x. x) EndsAnywhere before name after → Found spell_root (λ r. r) EndsAnywhere before (root.Name name) after
root_found {before} {after} {name} none f =
    let s = f.spelled in
    let t = f.tree_is in
    record { reading = root.Name name; spelled = cc; tree_is = refl; only = λ r rest ends g. named r rest g }
  where
    named : (r : Root) (rest : List Token) → before ≡ spell_root r rest → after ≡ rest
    named root.This rest g = absurd (none rest g)
    named (root.Name x) rest g = f.only x rest tt g

pub this_found : {before after : List Token} → before ≡ token.Word word.This ∷ after → Found spell_root (λ r. r) EndsAnywhere before root.This after
this_found {before} {after} e = record { reading = root.This; spelled = e; tree_is = refl; only = λ r rest ends g. this r rest g }
  where
    this : (r : Root) (rest : List Token) → before ≡ spell_root r rest → after ≡ rest
    this root.This rest g = cc
    this (root.Name x) rest g = cc

pub no_root : {before : List Token} → NotAtWord word.This before → None spell_name EndsAnywhere before → None spell_root EndsAnywhere before
no_root other none root.This rest ends g = other rest g
no_root other none (root.Name x) rest ends g = none x rest tt g

pub no_path_without_root : {before : List Token} → None spell_root EndsAnywhere before → None spell_path EndsFactor before
no_path_without_root none p rest ends g = none p.root (spell_names p.properties rest) tt g

module _ {before between : List Token} {r : Root} (f : Found spell_root (λ x. x) EndsAnywhere before r between) where
  pub no_path_without_names : None spell_names EndsFactor between → None spell_path EndsFactor before
  no_path_without_names none p rest ends g = none p.properties rest ends (f.only p.root (spell_names p.properties rest) tt g)

  pub path_found : {names : List (List ℕ)} {after : List Token} → Found spell_names (λ x. x) EndsFactor between names after → Found spell_path (λ p. p) EndsFactor before (record { root = r; properties = names }) after
  path_found {names} {after} h =
      let s = f.spelled in
      let t = f.tree_is in
      let d = h.spelled in
      let e = h.tree_is in
      record {
        reading = record { root = r; properties = names };
        spelled = rw (← t, ← e) (s ∙ ap (spell_root f.reading) d);
        tree_is = refl;
        only = λ p rest ends g. h.only p.properties rest ends (f.only p.root (spell_names p.properties rest) tt g);
      }

-- ---- path "." Name

pub one_more : (ns : List (List ℕ)) (x : List ℕ) (after : List Token) → spell_names (ns ++ x ∷ []) after ≡ spell_names ns (token.Symbol Dot ∷ token.Name x ∷ after)
one_more [] x after = refl
one_more (n ∷ ns) x after = ap (λ ts. token.Symbol Dot ∷ token.Name n ∷ ts) (one_more ns x after)

-- the path with the member among its names
abbrev pub whole_path : Target → Path
whole_path t = record { root = t.0.root; properties = t.0.properties ++ t.1 ∷ [] }

pub spelled_whole : (t : Target) (after : List Token) → spell_path (whole_path t) after ≡ spell_target t after
spelled_whole t after = ap (spell_root t.0.root) (one_more t.0.properties t.1 after)

pub no_target : {before : List Token} → None spell_path EndsFactor before → None spell_target EndsFactor before
no_target none t rest ends g = none (whole_path t) rest ends (g ∙ sym (spelled_whole t rest))

dotted : (ns : List (List ℕ)) (x : List ℕ) (rest : List Token) → EndsFactor rest → rest ≡ spell_names (ns ++ x ∷ []) rest → ⊥
dotted [] x rest ends e = ends _ e
dotted (n ∷ ns) x rest ends e = ends _ e

module _ {before after : List Token} {p : Path} (f : Found spell_path (λ x. x) EndsFactor before p after) where
  pub target_found : (init : List (List ℕ)) (member : List ℕ) → p.properties ≡ init ++ member ∷ [] → Found spell_target (λ t. t) EndsFactor before (record { root = p.root; properties = init }, member) after
  target_found init member e =
      let s = f.spelled in
      let t = f.tree_is in
      let found : Target = (record { root = p.root; properties = init }, member) in
      let same : p ≡ whole_path found = ap (λ ns. let q : Path = record { root = p.root; properties = ns } in q) e in
      record {
        reading = found;
        spelled = s ∙ (ap (λ q. spell_path q after) (t ∙ same) ∙ spelled_whole found after);
        tree_is = refl;
        only = λ r rest ends g. f.only (whole_path r) rest ends (g ∙ sym (spelled_whole r rest));
      }

  pub target_short : p.properties ≡ [] → None spell_target EndsFactor before
  target_short e r rest ends g =
      let whole = g ∙ sym (spelled_whole r rest) in
      let same : after ≡ rest = f.only (whole_path r) rest ends whole in
      let none : f.reading.properties ≡ [] = ap (λ (q : Path). q.properties) f.tree_is ∙ e in
      let at_end : before ≡ spell_root f.reading.root after = f.spelled ∙ ap (λ ns. spell_root f.reading.root (spell_names ns after)) none in
      let rests = same_root r.0.root f.reading.root after (spell_names (r.0.properties ++ r.1 ∷ []) rest) (sym at_end ∙ whole) in
      dotted r.0.properties r.1 rest ends (sym same ∙ rests)
