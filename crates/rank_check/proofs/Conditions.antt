-- The conditions on ranks and sets, of nodes and by their numbers.
use Rattle.std.{proofs.Common.{◌≡◌, ℕ, ◌+◌, ◌<◌, ◌≤◌, Bool, List, [], ◌∷◌, length, map, get_or, slice_get, Some, refl, sym, ap, ◌∙◌, subst, arith, below_more}, specs.List.{Contains}, proofs.lemmas.Option.{slice_get_within, slice_get-get_or, same_Some, none-some}}
use Rattle.meta_model.specs.{declared.object.MetaObject.{MetaObject}, declared.qobject.TheConstants.{DESTROYED}, Loaded.{Loaded}, Root.{root_class}, Sound.{IsSound}}
use Rattle.effect_scan.specs.{declared.node.Node.{Node}, declared.node.Member.TheVariants.{Method, Destruction}, Nodes.{node, shape_of, nodes_from, nodes_of, IsAt}, Laws.{IsNode, EdgesJoinNodes}, Rows.{row, Edge}, Edges.{MayLead}, Scans.{Scanned, IsScan}, Destroying.{Closure, AreClosures}}
use Rattle.class_sets.specs.Marks.{IsMarked}
use Rattle.certificate_lang.specs.{declared.certificate.Line.{Line}, declared.certificate.Certificate.{Certificate}}
use Rattle.rank_check.{specs.declared.entries.NodeClaim.{NodeClaim}, specs.declared.causes.NodeLine.{NodeLine}, specs.declared.causes.Rise.{Rise}, specs.declared.causes.Mistake.{Mistake}, specs.declared.causes.Mistake.TheVariants.{Unclosed, Own, Lost}, specs.Names.{IsNodeNamed}, specs.Valid.{IsLineOf, Destroys, RanksFall, SetsHold, IsValid}, specs.Causes.{IsAtPlace, IsEdgeOf, IsRise, IsMistake}, specs.Entries.{IsEntry, NamesNodes}, specs.ByNumbers.{IsPlaceOf, Fall, IsRiseIn, AreWithin, HoldsOwn, IsOwnMistake, Hold, IsMistakeOfOne, IsMistakeIn}, proofs.Elements.{some_inside, place_of}, proofs.Assembled.{one_at}}

-- edges lead to nodes
pub edges_inside : (p : Loaded) (scan : Scanned) → IsScan p scan → (count : ℕ) → count ≡ length (nodes_of p) → (a b : ℕ) → Edge scan.rows a b → b < count
edges_inside p scan is count e a b edge =
    let leads = (is.edges.edges a b).0 edge in
    let low = slice_get_within (nodes_of p) b leads.to leads.is_to in
    omega arith

module _ (p : Loaded) (certificate : Certificate) (scan : Scanned) (is : IsScan p scan) (entries : List NodeClaim) (names : NamesNodes p certificate entries) where
  -- the entry of a node
  entry_at : (n : ℕ) (x : Node) → IsAt (nodes_of p) x n → (e : NodeClaim) × (slice_get entries n ≡ Some e)
  entry_at n x at =
      let low = slice_get_within (nodes_of p) n x at in
      let inside : n < length entries = omega (arith, names.are.count) in
      some_inside entries n inside

  edge_of : (x y : Node) (n m : ℕ) → IsAt (nodes_of p) x n → IsAt (nodes_of p) y m → MayLead p x y → Edge scan.rows n m
  edge_of x y n m at_x at_y leads = (is.edges.edges n m).1 (record { from = x; to = y; is_from = at_x; is_to = at_y; leads = leads })

  -- .. that is of this line
  entry_of : (n : ℕ) (x : Node) (line : Line) (e : NodeClaim) → IsAt (nodes_of p) x n → IsLineOf p certificate x line → slice_get entries n ≡ Some e → IsEntry p line e
  entry_of n x line e at line_of at_e =
      let own = names.are.each (record { node = n; line = e.line }) e (record { stands = at_e; line = refl }) in
      let k = place_of certificate.lines line line_of.stands in
      let named = subst (λ (y : Node). IsNodeNamed p own.line.node y) (one_at p own.node x n own.at.is at) own.at.named in
      let place : e.line ≡ k.0 = names.nothing_else.once e.line k.0 own.line line x own.at.stands k.1 named line_of.named in
      let line_is : own.line ≡ line = same_Some own.line line (sym own.at.stands ∙ ap (λ (j : ℕ). slice_get certificate.lines j) place ∙ k.1) in
      subst (λ (l : Line). IsEntry p l e) line_is own.is

  -- the edge between two places, and the lines there
  record Joined (first second : NodeLine) (a b : NodeClaim) : Type 0 where
    pub upper : Line
    pub lower : Line
    pub edge : IsEdgeOf p certificate first second upper lower
    pub upper_is : IsEntry p upper a
    pub lower_is : IsEntry p lower b

  joined : (first second : NodeLine) (a b : NodeClaim) → IsPlaceOf entries first a → IsPlaceOf entries second b → Edge scan.rows first.node second.node → Joined first second a b
  joined first second a b at_a at_b edge =
      let x = names.are.each first a at_a in
      let y = names.are.each second b at_b in
      let leads = (is.edges.edges first.node second.node).0 edge in
      record {
        upper = x.line;
        lower = y.line;
        edge = record {
          from = leads.from;
          to = leads.to;
          from_is = subst (λ (z : Node). IsAtPlace p certificate first z x.line) (one_at p x.node leads.from first.node x.at.is leads.is_from) x.at;
          to_is = subst (λ (z : Node). IsAtPlace p certificate second z y.line) (one_at p y.node leads.to second.node y.at.is leads.is_to) y.at;
          leads = leads.leads;
        };
        upper_is = x.is;
        lower_is = y.is;
      }

  -- ---- ranks
  pub rise_told : (rise : Rise) → IsRiseIn scan.rows entries rise → IsRise p certificate rise
  rise_told rise h =
      let e = joined rise.from rise.to h.upper h.lower h.upper_is h.lower_is h.edge in
      record { upper = e.upper; lower = e.lower; edge = e.edge; rises = omega (arith, h.rises, e.upper_is.rank, e.lower_is.rank) }

  pub fall_of_nodes : EdgesJoinNodes p → Fall scan.rows entries → RanksFall p certificate
  fall_of_nodes join fall x y a b leads line_a line_b =
      let ends = join x y leads in
      let from = ends.0 in let to = ends.1 in
      let e = entry_at from.0 x from.1 in
      let f = entry_at to.0 y to.1 in
      let low = fall from.0 to.0 e.0 f.0 e.1 (edge_of x y from.0 to.0 from.1 to.1 leads) f.1 in
      let first = (entry_of from.0 x a e.0 from.1 line_a e.1).rank in
      let second = (entry_of to.0 y b f.0 to.1 line_b f.1).rank in
      omega (arith, low, first, second)

  -- ---- sets
  -- the line at the place where a set is wrong by itself
  at_own : (mistake : Mistake) (h : IsMistakeOfOne p scan.nodes entries mistake) (place : NodeLine) → place ≡ h.place → (line : Line) × IsAtPlace p certificate place h.node line × IsEntry p line h.entry
  at_own mistake h place same =
      let own = names.are.each h.place h.entry h.is in
      let at = subst (λ (ns : List Node). IsAt ns h.node h.place.node) is.nodes h.stands in
      let here = subst (λ (z : Node). IsAtPlace p certificate h.place z own.line) (one_at p own.node h.node h.place.node own.at.is at) own.at in
      (own.line, subst (λ (q : NodeLine). IsAtPlace p certificate q h.node own.line) (sym same) here, own.is)

  pub mistake_told : (mistake : Mistake) → IsMistakeIn p scan.nodes scan.rows entries mistake → IsMistake p certificate mistake
  mistake_told (Unclosed place d) h =
      let own = at_own (Unclosed place d) h place h.wrong.0 in
      record {
        node = h.node;
        line = own.0;
        at = own.1;
        destruction = h.wrong.1;
        closure = h.wrong.2;
        lacks = λ destroys. h.wrong.3 (((own.2).destroys.marks d).1 destroys);
      }
  mistake_told (Own place) h =
      let own = at_own (Own place) h place h.wrong.0 in
      record { node = h.node; line = own.0; at = own.1; body = h.wrong.1; holds = ((own.2).destroys.marks h.node.class).0 h.wrong.2 }
  mistake_told (Lost first second d) h =
      let e = joined first second h.upper h.lower h.upper_is h.lower_is h.edge in
      record {
        upper = e.upper;
        lower = e.lower;
        edge = e.edge;
        holds = (e.lower_is.destroys.marks d).0 h.holds;
        lacks = λ destroys. h.lacks ((e.upper_is.destroys.marks d).1 destroys);
      }

  pub hold_of_nodes : EdgesJoinNodes p → Hold p scan.nodes scan.rows entries → SetsHold p certificate
  hold_of_nodes join hold = record {
    passed_on = λ x y a b d leads line_a line_b destroys.
        let ends = join x y leads in
        let from = ends.0 in let to = ends.1 in
        let e = entry_at from.0 x from.1 in
        let f = entry_at to.0 y to.1 in
        let first = (entry_of from.0 x a e.0 from.1 line_a e.1).destroys in
        let second = (entry_of to.0 y b f.0 to.1 line_b f.1).destroys in
        (first.marks d).0 (hold.passed_on from.0 to.0 e.0 f.0 e.1 (edge_of x y from.0 to.0 from.1 to.1 leads) f.1 d ((second.marks d).1 destroys));
    closures = λ x line d member line_of closure.
        let n = line_of.named.node in
        let own = own_at x n in
        (own.1.marks line line_of d).0 ((own.1.holds).closure member d closure);
    spared = λ x line body line_of destroys.
        let n = line_of.named.node in
        let own = own_at x n in
        (own.1.holds).spared body ((own.1.marks line line_of x.class).1 destroys);
  }
    where
      own_at : (x : Node) → IsNode p x → (e : NodeClaim) × record { holds : HoldsOwn p x e.destroys; marks : (line : Line) → IsLineOf p certificate x line → (d : ℕ) → (IsMarked e.destroys d → Destroys p line d) × (Destroys p line d → IsMarked e.destroys d) }
      own_at x n =
          let e = entry_at n.0 x n.1 in
          let at = subst (λ (ns : List Node). slice_get ns n.0 ≡ Some x) (sym is.nodes) n.1 in (
            e.0,
            record {
              holds = hold.own n.0 x e.0 at e.1;
              marks = λ line line_of. (entry_of n.0 x line e.0 n.1 line_of e.1).destroys.marks;
            },
          )

-- ---- what the set of a node has to hold by itself
pub own_closed : (p : Loaded) (x : Node) (set : List Bool) (closures : List (List ℕ)) (classes : List ℕ) → AreClosures p closures → x.member ≡ Destruction → classes ≡ row closures x.class
    → ((d : ℕ) → Contains classes d → IsMarked set d) → HoldsOwn p x set
own_closed p x set closures classes are is e h = record {
  closure = λ m d closure. h d (subst (λ (ds : List ℕ). Contains ds d) (sym e) ((are.members x.class d).1 closure));
  spared = λ body marked. let method = body.from in cc;
}

pub in_closure : (p : Loaded) (c d : ℕ) (closures : List (List ℕ)) (classes : List ℕ) → AreClosures p closures → classes ≡ row closures c → Contains classes d → Closure p c d
in_closure p c d closures classes are e held = (are.members c d).0 (subst (λ (ds : List ℕ). Contains ds d) e held)

-- .. a mistake in it
pub mistake_of_one : (p : Loaded) (nodes : List Node) (rows : List (List ℕ)) (entries : List NodeClaim) (items : List Node) (a : ℕ) (d : Node) (e : NodeClaim) → items ≡ nodes → a < length items → slice_get entries a ≡ Some e
    → (mistake : Mistake) → IsOwnMistake p (get_or items a d) e.destroys (record { node = a; line = e.line }) mistake → IsMistakeIn p nodes rows entries mistake
mistake_of_one p nodes rows entries items a d e same inside at_e mistake wrong = told mistake wrong
  where
    one : (mistake : Mistake) → IsOwnMistake p (get_or items a d) e.destroys (record { node = a; line = e.line }) mistake → IsMistakeOfOne p nodes entries mistake
    one mistake wrong = record {
      place = record { node = a; line = e.line };
      node = get_or items a d;
      stands = subst (λ (ns : List Node). slice_get ns a ≡ Some (get_or items a d)) same (slice_get-get_or items a d inside);
      entry = e;
      is = record { stands = at_e; line = refl };
      wrong = wrong;
    }

    told : (mistake : Mistake) → IsOwnMistake p (get_or items a d) e.destroys (record { node = a; line = e.line }) mistake → IsMistakeIn p nodes rows entries mistake
    told (Unclosed place c) wrong = one (Unclosed place c) wrong
    told (Own place) wrong = one (Own place) wrong
    told (Lost first second c) wrong = absurd wrong

-- ---- the first nodes
pub record HoldFirst (p : Loaded) (nodes : List Node) (rows : List (List ℕ)) (entries : List NodeClaim) (end : ℕ) : Type 0 where
  pub within : (a : ℕ) → a < end → (x : NodeClaim) → slice_get entries a ≡ Some x → AreWithin (row rows a) entries x.destroys
  pub own : (a : ℕ) → a < end → (x : Node) (e : NodeClaim) → slice_get nodes a ≡ Some x → slice_get entries a ≡ Some e → HoldsOwn p x e.destroys

module _ (p : Loaded) (nodes : List Node) (rows : List (List ℕ)) (entries : List NodeClaim) where
  pub hold_none : HoldFirst p nodes rows entries 0
  hold_none = record { within = λ a low. absurd (omega (arith, low)); own = λ a low. absurd (omega (arith, low)) }

  pub hold_more : (items : List Node) (a : ℕ) (d : Node) (e : NodeClaim) (targets : List ℕ) (set : List Bool) → items ≡ nodes → a < length items → slice_get entries a ≡ Some e → targets ≡ row rows a → set ≡ e.destroys
      → AreWithin targets entries set → HoldsOwn p (get_or items a d) set → HoldFirst p nodes rows entries a → HoldFirst p nodes rows entries (a + 1)
  hold_more items a d e targets set same_items inside at_e row_is set_is within own h = record {
    within = below_more _ _ h.within (λ y at_y.
        let same = same_Some e y (sym at_e ∙ at_y) in
        subst (λ (z : NodeClaim). AreWithin (row rows a) entries z.destroys) same (subst (λ (s : List Bool). AreWithin (row rows a) entries s) set_is (subst (λ (ts : List ℕ). AreWithin ts entries set) row_is within)));
    own = below_more _ _ h.own (λ y f at_y at_f.
        let same = same_Some e f (sym at_e ∙ at_f) in
        let here = subst (λ (ns : List Node). slice_get ns a ≡ Some (get_or items a d)) same_items (slice_get-get_or items a d inside) in
        let node_is = same_Some (get_or items a d) y (sym here ∙ at_y) in
        subst (λ (z : NodeClaim). HoldsOwn p y z.destroys) same (subst (λ (s : List Bool). HoldsOwn p y s) set_is (subst (λ (z : Node). HoldsOwn p z set) node_is own)));
  }

  pub hold_all : (end : ℕ) → length nodes ≤ end → length entries ≡ length nodes → HoldFirst p nodes rows entries end → Hold p nodes rows entries
  hold_all end past count h = record {
    passed_on = λ a b x y at_x edge at_y. let low = slice_get_within entries a x at_x in h.within a (omega arith) x at_x b y edge at_y;
    own = λ a x e at_x at_e. let low = slice_get_within nodes a x at_x in h.own a (omega arith) x e at_x at_e;
  }

-- ---- the bound
first_node : (classes : List MetaObject) (class : MetaObject) → slice_get classes 0 ≡ Some class → slice_get (nodes_from 0 (map shape_of classes)) 0 ≡ Some (node 0 (Method DESTROYED))
first_node [] class e = absurd (none-some class e)
first_node (k ∷ ks) class e = refl

pub bound_some : (p : Loaded) (certificate : Certificate) → IsSound p → IsValid p certificate → 1 ≤ certificate.bound
bound_some p certificate sound valid =
    let line = valid.each_node (node 0 (Method DESTROYED)) (0, first_node p.classes root_class sound.root.is) in
    let low = valid.bounded.ranks line.0 (line.1).stands in
    omega arith
