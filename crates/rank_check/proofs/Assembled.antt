-- The entries of nodes from those of lines.
use Rattle.std.proofs.Common.{◌≡◌, ℕ, ◌<◌, List, length, slice_get, Option, Some, None, refl, sym, ap, ◌∙◌, subst, arith}
use Rattle.std.specs.List.{AllZip}
use Rattle.std.proofs.lemmas.Option.{slice_get_within, same_Some, none-some}
use Rattle.meta_model.specs.Loaded.{Loaded}
use Rattle.meta_model.proofs.Zips.{zip_left, zip_right}
use Rattle.effect_scan.specs.declared.node.Node.{Node}
use Rattle.effect_scan.specs.Nodes.{nodes_of, IsAt}
use Rattle.certificate_lang.specs.declared.certificate.Line.{Line}
use Rattle.certificate_lang.specs.declared.certificate.Certificate.{Certificate}
use Rattle.rank_check.specs.declared.entries.NodeClaim.{NodeClaim}
use Rattle.rank_check.specs.Names.{IsNodeNamed}
use Rattle.rank_check.specs.declared.causes.NodeLine.{NodeLine}
use Rattle.rank_check.specs.declared.causes.Extra.{Extra}
use Rattle.rank_check.specs.declared.causes.Extra.TheVariants.{Unknown, Twice, Class}
use Rattle.rank_check.specs.Valid.{AreClassesThere, HasEachNode, HasNothingElse}
use Rattle.rank_check.specs.Causes.{IsMissing, IsExtra}
use Rattle.rank_check.specs.ByNumbers.{IsPlaceOf}
use Rattle.rank_check.specs.Entries.{IsNumberNamed, HasNumber, AreNumbers, IsFor, AreBelow, ArePlaces, LacksLine, IsPlaced, AreOnce, IsExtraLine, IsEntryAt, IsEntryOf, NamesNodes}
use Rattle.rank_check.proofs.Elements.{some_inside, place_of, element_at}
use Rattle.rank_check.proofs.Placing.{one_node, zip_count}

-- two nodes at one number are the same
pub one_at : (p : Loaded) (x y : Node) (n : ℕ) → IsAt (nodes_of p) x n → IsAt (nodes_of p) y n → x ≡ y
one_at p x y n h g = same_Some x y (sym h ∙ g)

named_at : (p : Loaded) (line : Line) (x : Node) (n : ℕ) → IsAt (nodes_of p) x n → IsNodeNamed p line.node x → IsNumberNamed p line.node n
named_at p line x n at named = record { node = x; named = named; at = at }

named_as : (p : Loaded) (line : Line) (x : Node) (n : ℕ) → IsAt (nodes_of p) x n → IsNumberNamed p line.node n → IsNodeNamed p line.node x
named_as p line x n at h = subst (λ (y : Node). IsNodeNamed p line.node y) (one_at p h.node x n h.at at) h.named

-- the line's number is that of its node
number_is : (p : Loaded) (line : Line) (n : ℕ) (o : Option ℕ) → IsNumberNamed p line.node n → HasNumber p line o → o ≡ Some n
number_is p line n None named h = absurd (h.found n named)
number_is p line n (Some m) named h = ap (λ (k : ℕ). Some k) (sym (h.only n named))

named_by : (p : Loaded) (line : Line) (n : ℕ) (o : Option ℕ) → o ≡ Some n → HasNumber p line o → IsNumberNamed p line.node n
named_by p line n None e h = absurd (none-some n e)
named_by p line n (Some m) e h = subst (λ (k : ℕ). IsNumberNamed p line.node k) (same_Some m n e) h.found

module _ (p : Loaded) (certificate : Certificate) (numbers : List (Option ℕ)) (are : AreNumbers p certificate.lines numbers) where
  -- what is known of the line at a place, by its number
  line_for : (k n : ℕ) → IsFor numbers k n → (line : Line) × (slice_get certificate.lines k ≡ Some line) × IsNumberNamed p line.node n
  line_for k n for =
      let w = zip_right (HasNumber p) certificate.lines numbers are k (Some n) for in
      (w.0, w.1, named_by p w.0 n (Some n) refl w.2)

  for_line : (k n : ℕ) (line : Line) → slice_get certificate.lines k ≡ Some line → IsNumberNamed p line.node n → IsFor numbers k n
  for_line k n line e named =
      let w = zip_left (HasNumber p) certificate.lines numbers are k line e in
      w.1 ∙ ap (λ (o : Option ℕ). Some o) (number_is p line n w.0 named w.2)

  pub numbers_low : (count : ℕ) → count ≡ length (nodes_of p) → AreBelow count numbers
  numbers_low count e k n for =
      let w = line_for k n for in
      let inside = slice_get_within (nodes_of p) n (w.2).node (w.2).at in
      omega arith

  pub place_inside : (k n : ℕ) → IsFor numbers k n → k < length certificate.lines
  place_inside k n for = let w = line_for k n for in slice_get_within certificate.lines k w.0 w.1

  pub is_missing : (count n : ℕ) → count ≡ length (nodes_of p) → LacksLine count numbers n → IsMissing p certificate n
  is_missing count n e lacks =
      let low : n < length (nodes_of p) = omega (arith, lacks.inside) in
      let x = some_inside (nodes_of p) n low in
      record {
        node = x.0;
        is = x.1;
        none = λ line line_of.
            let at = place_of certificate.lines line line_of.stands in
            lacks.none at.0 (for_line at.0 n line at.1 (named_at p line x.0 n x.1 line_of.named));
      }

  module _ (places : List ℕ) (placed : ArePlaces (length (nodes_of p)) numbers places) where
    place_for : (n : ℕ) → n < length (nodes_of p) → (k : ℕ) × (slice_get places n ≡ Some k)
    place_for n low = let inside : n < length places = omega (arith, placed.counted) in some_inside places n inside

    pub each_there : HasEachNode p certificate
    each_there x is =
        let low = slice_get_within (nodes_of p) is.0 x is.1 in
        let at = place_for is.0 low in
        let w = line_for at.0 is.0 (placed.is_for is.0 at.0 at.1) in
        (w.0, record { stands = element_at certificate.lines at.0 w.0 w.1; named = named_as p w.0 x is.0 is.1 w.2 })

    -- a line that is one too many
    pub extra_line : (extra : Extra) → IsExtraLine numbers places extra → IsExtra p certificate.lines extra
    extra_line (Unknown k) is =
        let w = zip_right (HasNumber p) certificate.lines numbers are k None is in
        record { line = w.0; stands = w.1; none = λ x named. (w.2).found (named.node).0 (named_at p w.0 x (named.node).0 (named.node).1 named) }
    extra_line (Twice j k) h =
        let a = line_for j h.node h.is_for in
        let b = line_for k h.node (placed.is_for h.node k h.placed) in
        let x = (a.2).node in
        record {
          node = x;
          first = a.0;
          second = b.0;
          first_stands = a.1;
          second_stands = b.1;
          first_named = (a.2).named;
          second_named = named_as p b.0 x h.node (a.2).at b.2;
          apart = λ e. h.other (sym e);
        }
    extra_line (Class k item) h = absurd h

    -- ---- where the lines name each node once, and nothing else
    module _ (once : AreOnce numbers places) where
      placed_line : (k : ℕ) (line : Line) → slice_get certificate.lines k ≡ Some line → IsPlaced numbers places k
      placed_line k line e =
          let w = zip_left (HasNumber p) certificate.lines numbers are k line e in
          once k (slice_get_within numbers k w.0 w.1)

      -- the place of the line of this node
      placed_node : (k n : ℕ) (line : Line) → slice_get certificate.lines k ≡ Some line → IsNumberNamed p line.node n → slice_get places n ≡ Some k
      placed_node k n line e named =
          let at = placed_line k line e in
          let same : at.node ≡ n = one_node numbers k at.node n at.is_for (for_line k n line e named) in
          subst (λ (m : ℕ). slice_get places m ≡ Some k) same at.placed

      module _ (entries : List NodeClaim) (zip : AllZip (IsEntryAt p certificate.lines) places entries) where
        entry_of : (place : NodeLine) (e : NodeClaim) → IsPlaceOf entries place e → IsEntryOf p certificate place e
        entry_of place e h =
            let w = zip_right (IsEntryAt p certificate.lines) places entries zip place.node e h.stands in
            let l = line_for w.0 place.node (placed.is_for place.node w.0 w.1) in
            let same : l.0 ≡ (w.2).line = same_Some l.0 (w.2).line (sym l.1 ∙ (w.2).stands) in
            let here : w.0 ≡ place.line = sym (w.2).place ∙ h.line in
            record {
              node = (l.2).node;
              line = (w.2).line;
              at = record {
                is = (l.2).at;
                stands = subst (λ (j : ℕ). slice_get certificate.lines j ≡ Some (w.2).line) here (w.2).stands;
                named = subst (λ (a : Line). IsNodeNamed p a.node (l.2).node) same (l.2).named;
              };
              is = (w.2).is;
            }

        nothing_else : HasNothingElse p certificate
        nothing_else = record {
          nodes = λ line stands.
              let k = place_of certificate.lines line stands in
              let at = placed_line k.0 line k.1 in
              let w = line_for k.0 at.node at.is_for in
              let same : w.0 ≡ line = same_Some w.0 line (sym w.1 ∙ k.1) in
              ((w.2).node, subst (λ (l : Line). IsNodeNamed p l.node (w.2).node) same (w.2).named);
          once = λ j k a b x at_a at_b named_a named_b.
              let n = named_a.node in
              let first = placed_node j n.0 a at_a (named_at p a x n.0 n.1 named_a) in
              let second = placed_node k n.0 b at_b (named_at p b x n.0 n.1 named_b) in
              same_Some j k (sym first ∙ second);
          classes = λ line stands.
              let k = place_of certificate.lines line stands in
              let at = placed_line k.0 line k.1 in
              let e = zip_left (IsEntryAt p certificate.lines) places entries zip at.node k.0 at.placed in
              let same : (e.2).line ≡ line = same_Some (e.2).line line (sym (e.2).stands ∙ k.1) in
              subst (λ (l : Line). AreClassesThere p l.destroys) same ((e.2).is).destroys.there;
        }

        pub nodes_named : NamesNodes p certificate entries
        nodes_named = record {
          each_node = each_there;
          nothing_else = nothing_else;
          are = record {
            count = zip_count (IsEntryAt p certificate.lines) places entries zip ∙ placed.counted;
            each = entry_of;
          };
        }
