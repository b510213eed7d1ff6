-- What a certificate says of nodes, from what it says by their numbers.
use Rattle.std.{proofs.Common.{◌≡◌, ℕ, ◌<◌, Bool, List, length, slice_get, Option, Some, None, sym, ap, ◌∙◌, subst, arith}, specs.List.{AllZip}, proofs.lemmas.Option.{slice_get_within, get_or_from_slice_get, same_Some}}
use Rattle.name_indexes.proofs.Zips.{zip_right, zip_left}
use Rattle.meta_model.specs.Loaded.{Loaded}
use Rattle.effect_scan.specs.{declared.node.Node.{Node}, Nodes.{nodes_of, IsAt}}
use Rattle.certificate_lang.specs.declared.certificate.NodeName.{NodeName}
use Rattle.rank_check.{specs.Names.{IsNodeNamed}, specs.Valid.{AreClassesThere}, specs.Entries.{IsNumberNamed, LacksPlace}, proofs.Elements.{some_inside, place_of, element_at}, proofs.Placing.{zip_count}, proofs.Assembled.{one_at}}
use Rattle.settling.specs.{declared.certificate.SettlingLine.{SettlingLine}, declared.certificate.SettlingCertificate.{SettlingCertificate}, declared.standings.Standing.{Standing}, Sets.{IsIn}, Valid.{IsLineOf, HasEachNode, HasNothingElse}, code.Lines.{IsLineFor, AreApart, PlacesFirst, ArePlaced}, code.Members.{IsOfSet, AreDisjoint, AreSetPlaces}, code.Standings.{AreStandingsAt, AreStandings, LacksClass, IsSetAt, AreDestroySets, AreTables}}

module _ (p : Loaded) where
  number_named : (name : NodeName) (x : Node) (n : ℕ) → IsAt (nodes_of p) x n → IsNodeNamed p name x → IsNumberNamed p name n
  number_named name x n at named = record { node = x; named = named; at = at }

  node_named : (name : NodeName) (x : Node) (n : ℕ) → IsAt (nodes_of p) x n → IsNumberNamed p name n → IsNodeNamed p name x
  node_named name x n at is = subst (λ (y : Node). IsNodeNamed p name y) (one_at p is.node x n is.at at) is.named

  -- ---- places
  pub places_told : (lines : List SettlingLine) (places : List (Option ℕ)) → PlacesFirst p lines (length lines) places → (all : List ℕ) → AllZip (λ place k. place ≡ Some k) places all → ArePlaced p lines all
  places_told lines places h all zip = record {
    counted = zip_count (λ place k. place ≡ Some k) places all zip ∙ h.counted;
    is_for = λ n k at.
        let pair = zip_right (λ (place : Option ℕ) (j : ℕ). place ≡ Some j) places all zip n k at in
        (h.is_for n k (get_or_from_slice_get places n pair.0 None pair.1 ∙ pair.2)).1;
  }

  module _ (certificate : SettlingCertificate) where
    line_for : (x : Node) (n : ℕ) → IsAt (nodes_of p) x n → (k : ℕ) → IsLineFor p certificate.lines k n → (line : SettlingLine) × IsLineOf p certificate x line × (slice_get certificate.lines k ≡ Some line)
    line_for x n at k is = (is.line, record { stands = element_at certificate.lines k is.line is.stands; named = node_named is.line.node x n at is.named }, is.stands)

    for_line : (x : Node) (n : ℕ) → IsAt (nodes_of p) x n → (k : ℕ) (line : SettlingLine) → slice_get certificate.lines k ≡ Some line → IsNodeNamed p line.node x → IsLineFor p certificate.lines k n
    for_line x n at k line stands named = record { line = line; stands = stands; named = number_named line.node x n at named }

    pub line_missing : (places : List (Option ℕ)) → PlacesFirst p certificate.lines (length certificate.lines) places → (n : ℕ) → LacksPlace places n → ¬ HasEachNode p certificate
    line_missing places h n lacks each =
        let x = some_inside (nodes_of p) n (omega (arith, lacks.inside, h.counted)) in
        let line = each x.0 (n, x.1) in
        let k = place_of certificate.lines line.0 (line.1).stands in
        let low = slice_get_within certificate.lines k.0 line.0 k.1 in
        h.each n k.0 low (for_line x.0 n x.1 k.0 line.0 k.1 (line.1).named) lacks.none

    pub each_there : (places : List ℕ) → ArePlaced p certificate.lines places → HasEachNode p certificate
    each_there places h x is =
        let low = slice_get_within (nodes_of p) is.0 x is.1 in
        let k = some_inside places is.0 (omega (arith, low, h.counted)) in
        let line = line_for x is.0 is.1 k.0 (h.is_for is.0 k.0 k.1) in
        (line.0, line.1)

    -- ---- lines that are apart
    pub apart_of : HasNothingElse p certificate → AreApart p certificate.lines
    apart_of rest = record {
      nodes = λ k low.
          let line = some_inside certificate.lines k low in
          let x = rest.nodes line.0 (element_at certificate.lines k line.0 line.1) in
          let n = (x.1).node in
          (n.0, for_line x.0 n.0 n.1 k line.0 line.1 x.1);
      once = λ j k n one two.
          rest.once j k one.line two.line one.named.node one.stands two.stands one.named.named (node_named two.line.node one.named.node n one.named.at two.named);
    }

    -- ---- sets that are disjoint
    of_set : (k : ℕ) (x : Node) (n : ℕ) → IsAt (nodes_of p) x n → IsIn p certificate k x → IsOfSet p certificate.sets k n
    of_set k x n at is = record {
      set = is.set;
      stands = is.stands;
      among = record { name = is.member.name; among = is.member.among; named = number_named is.member.name x n at is.member.named };
    }

    in_set : (k : ℕ) (x : Node) (n : ℕ) → IsAt (nodes_of p) x n → IsOfSet p certificate.sets k n → IsIn p certificate k x
    in_set k x n at is = record {
      set = is.set;
      stands = is.stands;
      member = record { name = is.among.name; among = is.among.among; named = node_named is.among.name x n at is.among.named };
    }

    pub disjoint_of : HasNothingElse p certificate → AreDisjoint p certificate.sets
    disjoint_of rest = record {
      nodes = λ k set stands name among.
          let x = rest.members set name (element_at certificate.sets k set stands) among in
          let n = (x.1).node in
          (n.0, number_named name x.0 n.0 n.1 x.1);
      apart = λ j k n one two.
          let x = one.among.named.node in
          let at = one.among.named.at in
          rest.apart j k x (in_set j x n at one) (in_set k x n at two);
    }

    -- ---- classes that are there
    pub class_lacks : LacksClass p certificate.lines → ¬ HasNothingElse p certificate
    class_lacks lacks rest = lacks.none (rest.classes lacks.line (element_at certificate.lines lacks.place lacks.line lacks.stands))

    module _ (apart : AreApart p certificate.lines) (places : List ℕ) (placed : ArePlaced p certificate.lines places) (sets : List (Option ℕ)) (set_places : AreSetPlaces p certificate.sets sets)
        (destroys : List (List Bool)) (zip : AllZip (IsSetAt p certificate.lines) places destroys) where
      -- the place of a line is that of its node
      place_is : (k n j : ℕ) → IsLineFor p certificate.lines k n → slice_get places n ≡ Some j → j ≡ k
      place_is k n j is at = apart.once j k n (placed.is_for n j at) is

      place_at_node : (n : ℕ) → n < length (nodes_of p) → (k : ℕ) × (slice_get places n ≡ Some k)
      place_at_node n low = some_inside places n (omega (arith, low, placed.counted))

      pub nothing_else : HasNothingElse p certificate
      nothing_else = record {
        nodes = λ line there.
            let k = place_of certificate.lines line there in
            let is = apart.nodes k.0 (slice_get_within certificate.lines k.0 line k.1) in
            let same : (is.1).line ≡ line = same_Some _ _ (sym (is.1).stands ∙ k.1) in
            ((is.1).named.node, subst (λ (l : SettlingLine). IsNodeNamed p l.node (is.1).named.node) same (is.1).named.named);
        once = λ j k a b x at_a at_b named_a named_b.
            let n = named_a.node in
            apart.once j k n.0 (for_line x n.0 n.1 j a at_a named_a) (for_line x n.0 n.1 k b at_b named_b);
        classes = λ line there.
            let k = place_of certificate.lines line there in
            let is = apart.nodes k.0 (slice_get_within certificate.lines k.0 line k.1) in
            let low = slice_get_within (nodes_of p) is.0 (is.1).named.node (is.1).named.at in
            let j = place_at_node is.0 low in
            let set = zip_left (IsSetAt p certificate.lines) places destroys zip is.0 j.0 j.1 in
            let here = place_is k.0 is.0 j.0 is.1 j.1 in
            let same : (set.2).line ≡ line = same_Some _ _ (sym (set.2).stands ∙ ap (λ (i : ℕ). slice_get certificate.lines i) here ∙ k.1) in
            subst (λ (l : SettlingLine). AreClassesThere p l.destroys) same (set.2).is.there;
        members = λ set name there among.
            let k = place_of certificate.sets set there in
            let n = set_places.disjoint.nodes k.0 set k.1 name among in
            ((n.1).node, (n.1).named);
        apart = λ j k x one two.
            let n = one.member.named.node in
            set_places.disjoint.apart j k n.0 (of_set j x n.0 n.1 one) (of_set k x n.0 n.1 two);
      }

      standings_told : (standings : List Standing) → AreStandingsAt (nodes_of p) certificate.lines places sets standings → AreStandings p certificate standings
      standings_told standings are = record {
        count = are.count;
        each = λ n s at.
            let own = are.each n s at in
            let line = line_for s.node n own.node own.place (placed.is_for n own.place own.placed) in
            let same : line.0 ≡ own.line = same_Some _ _ (sym line.2 ∙ own.stands) in
            record {
              at = own.node;
              line = own.line;
              is = subst (λ (l : SettlingLine). IsLineOf p certificate s.node l) same line.1;
              rank = own.rank;
              step = own.step;
              set = λ k. (
                λ e. in_set k s.node n own.node ((set_places.each n k).0 (sym own.set ∙ e)),
                λ is. own.set ∙ (set_places.each n k).1 (of_set k s.node n own.node is),
              );
            };
      }

      destroys_told : AreDestroySets p certificate destroys
      destroys_told = record {
        count = zip_count (IsSetAt p certificate.lines) places destroys zip ∙ placed.counted;
        each = λ n set at.
            let own = zip_right (IsSetAt p certificate.lines) places destroys zip n set at in
            let is = placed.is_for n own.0 own.1 in
            let line = line_for is.named.node n is.named.at own.0 is in
            let same : line.0 ≡ (own.2).line = same_Some _ _ (sym line.2 ∙ (own.2).stands) in
            record {
              node = is.named.node;
              at = is.named.at;
              line = (own.2).line;
              is = subst (λ (l : SettlingLine). IsLineOf p certificate is.named.node l) same line.1;
              is_set = (own.2).is;
            };
      }

      pub tables_told : (standings : List Standing) → AreStandingsAt (nodes_of p) certificate.lines places sets standings → AreTables p certificate (record { standings = standings; destroys = destroys })
      tables_told standings are = record {
        each_node = each_there places placed;
        nothing_else = nothing_else;
        standings = standings_told standings are;
        destroys = destroys_told;
      }
