-- The levels of a stack are no more than the bound, and the step for each object (docs/settling-proof.md, "The depth").
use Rattle.std.{proofs.Common.{◌≡◌, inl, inr, ℕ, zero, suc, ◌+◌, ◌*◌, ◌<◌, ◌≤◌, eqb, cond, Bool, IsTrue, List, [], ◌∷◌, length, map, Option, None, Some, slice_get, refl, sym, ap, ◌∙◌, subst, arith}, specs.List.{AllByRecursion}, specs.Option.{option_map}, proofs.lemmas.Bool.{cases_Bool, cases_eq, eq-eqb, ne_eqb}, proofs.lemmas.List.{length-map}, proofs.lemmas.Option.{same_Some, none-some}}
use Rattle.name_indexes.{proofs.Zips.{place_of_any}}
use Rattle.meta_model.specs.{Loaded.{Loaded}, Sound.{AreOnce}}
use Rattle.object_tree.specs.{declared.object.Object.{Object}}
use Rattle.effect_scan.specs.{declared.node.Node.{Node}, declared.node.Member.TheVariants.{Property}, Nodes.{node}}
use Rattle.binding_graph.{specs.declared.place.Place.{Place}, specs.Places.{property_of, is_in, In, Distinct}, proofs.Places.{is_in-true, is_in-false}}
use Rattle.rank_check.proofs.Elements.{place_of}
use Rattle.settling.specs.{declared.certificate.SettlingSet.{SettlingSet}, declared.certificate.SettlingCertificate.{SettlingCertificate}, Levels.{Level as Height, Counting, cost_of, AreCounted, StandsAbove, lowest, apart as stands_apart, inside as stands_inside, writes as stands_writing, StacksAreShallow}, Sets.{IsMember}, Valid.{IsRound}}
use Rattle.settled_runs.specs.Levels.{Carried, Level, and_place, if_within, written_in, Turns, falls, writes, IsInside, AreCosts, Leaves, Climbs, inside, apart, IsPlaceIn, IsWell, AreLevels}

-- ---- lists of places

abbrev property-in : Place → ℕ
property-in q = q.property

named-in : (xs : List Place) (i n : ℕ) → slice_get (map property-in xs) i ≡ Some n → (z : Place) × In z xs × (z.property ≡ n)
named-in [] i n at = absurd (none-some n at)
named-in (z ∷ zs) zero n at = (z, inl refl, same_Some _ _ at)
named-in (z ∷ zs) (suc i) n at = let rest = named-in zs i n at in (rest.0, inr rest.1, rest.2)

each-in : (P : Place → Type 0) (xs : List Place) → AllByRecursion P xs → (z : Place) → In z xs → P z
each-in P (x ∷ xs) all z (inl e) = subst P e all.0
each-in P (x ∷ xs) all z (inr i) = each-in P xs all.1 z i
each-in P [] all z i = absurd i

same-parts : (q z : Place) → q.object ≡ z.object → q.property ≡ z.property → q ≡ z
same-parts q z object property = ap (λ (x : ℕ). property_of x q.property) object ∙ ap (λ (y : ℕ). property_of z.object y) property

once-of : (o : ℕ) (places : List Place) → Distinct places → AllByRecursion (λ q. q.object ≡ o) places → AreOnce (map property-in places)
once-of o [] once all twice = absurd twice
once-of o (q ∷ qs) once all (inl any) =
    let at = place_of_any (λ (b : ℕ). q.property ≡ b) (map property-in qs) any in
    let found = named-in qs at.0 at.1.item at.1.is in
    let same = same-parts q found.0 (all.0 ∙ sym (each-in (λ z. z.object ≡ o) qs all.1 found.0 found.1)) (at.1.has ∙ sym found.2) in
    once.0 (subst (λ (z : Place). In z qs) (sym same) found.1)
once-of o (q ∷ qs) once all (inr rest) = once-of o qs once.1 all.1 rest

held-in : (qs : List Place) (q : Place) → In q qs → IsTrue (is_in qs q)
held-in qs q i = elim (cases_Bool (is_in qs q)) [ inl t ↦ t | inr f ↦ absurd (is_in-false qs q f i) ]

-- ---- what levels wrote

abbrev if-wrote : ℕ → Option Carried → Option Place → List Place → List Place
if-wrote k None wrote places = places
if-wrote k (Some carried) None places = places
if-wrote k (Some carried) (Some place) places = cond (eqb carried.set k) (place ∷ places) places

-- all that the levels of a set wrote
abbrev wrote-of : {certificate : SettlingCertificate} → ℕ → List (Level certificate) → List Place
wrote-of k [] = []
wrote-of k (level ∷ levels) = if-wrote k level.within level.wrote (wrote-of k levels)

-- within its set a level adds what it wrote
at-set : (carried : Carried) (k : ℕ) (a b : List Place) → carried.set ≡ k → cond (eqb carried.set k) a b ≡ a
at-set carried k a b same = ap (λ (t : Bool). cond t a b) (eq-eqb carried.set k same)

written-on : {certificate : SettlingCertificate} (level : Level certificate) (levels : List (Level certificate)) (carried : Carried) (k : ℕ) → level.within ≡ Some carried → carried.set ≡ k
    → written_in k (level ∷ levels) ≡ and_place level.wrote (written_in k levels)
written-on level levels carried k is same =
    ap (λ (w : Option Carried). if_within k w (and_place level.wrote (written_in k levels))) is ∙ at-set carried k (and_place level.wrote (written_in k levels)) [] same

wrote-on : {certificate : SettlingCertificate} (level : Level certificate) (levels : List (Level certificate)) (carried : Carried) (place : Place) → level.within ≡ Some carried → level.wrote ≡ Some place
    → wrote-of carried.set (level ∷ levels) ≡ place ∷ wrote-of carried.set levels
wrote-on level levels carried place is wrote =
    ap (λ (w : Option Carried). if-wrote carried.set w level.wrote (wrote-of carried.set levels)) is
    ∙ ap (λ (w : Option Place). if-wrote carried.set (Some carried) w (wrote-of carried.set levels)) wrote
    ∙ at-set carried carried.set (place ∷ wrote-of carried.set levels) (wrote-of carried.set levels) refl

wrote-more : {certificate : SettlingCertificate} (k : ℕ) (level : Level certificate) (levels : List (Level certificate)) (q : Place) → In q (wrote-of k levels) → In q (wrote-of k (level ∷ levels))
wrote-more k level levels q i = by_level level.within level.wrote
  where
    by_level : (w : Option Carried) (wrote : Option Place) → In q (if-wrote k w wrote (wrote-of k levels))
    by_level None wrote = i
    by_level (Some carried) None = i
    by_level (Some carried) (Some place) = elim (cases_Bool (eqb carried.set k)) [
      | inl t ↦ subst (λ (b : Bool). In q (cond b (place ∷ wrote-of k levels) (wrote-of k levels))) (sym t) (inr i)
      | inr f ↦ subst (λ (b : Bool). In q (cond b (place ∷ wrote-of k levels) (wrote-of k levels))) (sym f) i
    ]

module _ (p : Loaded) {certificate : SettlingCertificate} (cost : ℕ → ℕ) (classes : ℕ → Option ℕ) (objects : List Object) where
  -- what was written is of the set
  wrote-place : (k : ℕ) (levels : List (Level certificate)) → AreLevels p cost classes objects levels → (q : Place) → In q (wrote-of k levels) → IsPlaceIn p certificate classes k q
  wrote-place k [] are q i = absurd i
  wrote-place k (level ∷ levels) are q i = by_level (λ j. wrote-place k levels are.2 q j) level.within refl level.wrote refl i
    where
      by_level : (In q (wrote-of k levels) → IsPlaceIn p certificate classes k q) → (w : Option Carried) → level.within ≡ w → (wrote : Option Place) → level.wrote ≡ wrote → In q (if-wrote k w wrote (wrote-of k levels)) → IsPlaceIn p certificate classes k q
      by_level more None within wrote is j = more j
      by_level more (Some carried) within None is j = more j
      by_level more (Some carried) within (Some place) is j = elim (cases_eq carried.set k) [
        | inl same ↦ elim (subst (λ (l : List Place). In q l) (at-set carried k (place ∷ wrote-of k levels) (wrote-of k levels) same) j) [
          | inl e ↦ subst (λ (z : Place). IsPlaceIn p certificate classes k z) e (subst (λ (n : ℕ). IsPlaceIn p certificate classes n place) same ((are.0 carried within).places place is))
          | inr rest ↦ more rest
        ]
        | inr differs ↦ more (subst (λ (b : Bool). In q (cond b (place ∷ wrote-of k levels) (wrote-of k levels))) (ne_eqb carried.set k differs) j)
      ]

  module _ (costs : AreCosts p certificate cost) (inside_of : (o class : ℕ) → classes o ≡ Some class → o < length objects) where
    -- ---- how sets are counted

    record Counts (k : ℕ) : Type 0 where
      round : ℕ
      most : ℕ
      is : (set : SettlingSet) → slice_get certificate.sets k ≡ Some set → (r : IsRound p certificate set) × (set.round ≡ round) × (r.most ≡ most) × (cost k ≡ round * most)

    counted : (k : ℕ) → Counts k
    counted k = by_set (slice_get certificate.sets k) refl
      where
        by_set : (found : Option SettlingSet) → slice_get certificate.sets k ≡ found → Counts k
        by_set None e = record { round = 0; most = 0; is = λ set at. absurd (none-some set (sym e ∙ at)) }
        by_set (Some found) e =
            let own = costs k found e in
            record {
              round = found.round;
              most = own.0.most;
              is = λ set at. subst (λ (s : SettlingSet). (r : IsRound p certificate s) × (s.round ≡ found.round) × (r.most ≡ own.0.most) × (cost k ≡ found.round * own.0.most)) (same_Some found set (sym e ∙ at)) (own.0, refl, refl, own.1);
            }

    module _ (is_of : ℕ → Place → Bool) where
      abbrev sets : Counting
      sets = record { round = λ k. (counted k).round; most = λ k. (counted k).most; is_of = is_of }

      abbrev set-of : Carried → ℕ
      set-of carried = carried.set

      abbrev height-of : Level certificate → Height
      height-of l = record { rank = l.line.rank; step = l.line.step; within = option_map set-of l.within }

      -- what is written is counted
      abbrev AreIn : List (Level certificate) → Type 0
      AreIn levels = AllByRecursion (λ l. (carried : Carried) (place : Place) → l.within ≡ Some carried → l.wrote ≡ Some place → IsTrue (is_of carried.set place)) levels

      -- the cost of a set, as its round says it
      cost-is : (k : ℕ) (set : SettlingSet) (at : slice_get certificate.sets k ≡ Some set) → set.round * ((counted k).is set at).0.most ≡ (counted k).round * (counted k).most
      cost-is k set at =
          let own = (counted k).is set at in
          ap (λ (n : ℕ). n * own.0.most) own.1 ∙ ap (λ (n : ℕ). (counted k).round * n) own.2

      enough : (l : Level certificate) → IsWell p classes l → cost_of sets (option_map set-of l.within) ≤ l.line.step
      enough l well = by_within l.within refl
        where
          by_within : (w : Option Carried) → l.within ≡ w → cost_of sets (option_map set-of w) ≤ l.line.step
          by_within None e = omega arith
          by_within (Some carried) e =
              let of = well carried e in
              let own = (counted carried.set).is of.member.set of.member.stands in
              let low = own.0.enough of.node of.line of.member.member of.is in
              let cost = cost-is carried.set of.member.set of.member.stands in
              omega (arith, low, cost, of.step)

      left : (l u : Level certificate) → IsWell p classes l → Leaves cost l.within l.line u.line → u.line.step + cost_of sets (option_map set-of l.within) ≤ l.line.step
      left l u well leaves = by_within l.within refl leaves
        where
          by_within : (w : Option Carried) → l.within ≡ w → Leaves cost w l.line u.line → u.line.step + cost_of sets (option_map set-of w) ≤ l.line.step
          by_within None e step = omega (arith, step)
          by_within (Some carried) e step =
              let of = well carried e in
              let own = ((counted carried.set).is of.member.set of.member.stands).3 in
              omega (arith, step, own)

      -- ---- the levels stand above one another

      record Stood (level : Level certificate) (levels : List (Level certificate)) : Type 0 where
        places : List Place
        above : StandsAbove sets (length objects) certificate.bound certificate.step (height-of level) (length levels) places
        among : (carried : Carried) → level.within ≡ Some carried → (q : Place) → In q places → In q (written_in carried.set (level ∷ levels))

      turned : (l u : Level certificate) (levels : List (Level certificate)) → Stood l levels → IsWell p classes u → ((carried : Carried) (place : Place) → u.within ≡ Some carried → u.wrote ≡ Some place → IsTrue (is_of carried.set place))
          → (i : IsInside objects (l ∷ levels) l u) → Turns i.set i.carried.set (l ∷ levels) l u → Stood u (l ∷ levels)
      turned l u levels below well counts i (falls wrote rank) = record {
        places = below.places;
        above = stands_inside below.above (ap (option_map set-of) i.is_above ∙ ap Some i.one ∙ sym (ap (option_map set-of) i.is)) i.step rank;
        among = λ carried e q j.
            let same : i.carried.set ≡ carried.set = sym i.one ∙ ap (λ (c : Carried). c.set) (same_Some _ _ (sym i.is_above ∙ e)) in
            let there = below.among i.carried i.is q j in
            subst (λ (places : List Place). In q places)
            (sym (written-on u (l ∷ levels) carried carried.set e refl ∙ ap (λ (w : Option Place). and_place w (written_in carried.set (l ∷ levels))) wrote))
            (subst (λ (k : ℕ). In q (written_in k (l ∷ levels))) same there);
      }
      turned l u levels below well counts i (writes {place = place} wrote rank new) = record {
        places = place ∷ below.places;
        above =
            let round = ((counted i.carried.set).is i.set i.stands).1 in
            let of = (well i.above i.is_above).places place wrote in
            stands_writing below.above (ap (option_map set-of) i.is) (ap (option_map set-of) i.is_above ∙ ap Some i.one) i.step
            (omega (arith, rank, round))
            (subst (λ (k : ℕ). IsTrue (is_of k place)) i.one (counts i.above place i.is_above wrote))
            (inside_of place.object of.at.class of.at.is)
            (λ j. new (below.among i.carried i.is place j));
        among = λ carried e q j.
            let same : i.carried.set ≡ carried.set = sym i.one ∙ ap (λ (c : Carried). c.set) (same_Some _ _ (sym i.is_above ∙ e)) in
            subst (λ (places : List Place). In q places)
            (sym (written-on u (l ∷ levels) carried carried.set e refl ∙ ap (λ (w : Option Place). and_place w (written_in carried.set (l ∷ levels))) wrote))
            (elim j [
              | inl here ↦ inl here
              | inr more ↦ inr (subst (λ (k : ℕ). In q (written_in k (l ∷ levels))) same (below.among i.carried i.is q more))
            ]);
      }

      climbed : (l u : Level certificate) (levels : List (Level certificate)) → Stood l levels → IsWell p classes l → IsWell p classes u → ((carried : Carried) (place : Place) → u.within ≡ Some carried → u.wrote ≡ Some place → IsTrue (is_of carried.set place))
          → Climbs cost objects (l ∷ levels) l u → Stood u (l ∷ levels)
      climbed l u levels below low well counts (inside i) = turned l u levels below well counts i i.turns
      climbed l u levels below low well counts (apart a) = record {
        places = [];
        above = stands_apart below.above a.rank (left l u low a.step) (enough u well);
        among = λ carried e q j. absurd j;
      }

      stood : (level : Level certificate) (levels : List (Level certificate)) → AreLevels p cost classes objects (level ∷ levels) → AreIn (level ∷ levels) → Stood level levels
      stood level [] are counts = record { places = []; above = lowest level.low level.small (enough level are.0); among = λ carried e q j. absurd j }
      stood level (l ∷ levels) are counts = climbed l level levels (stood l levels are.2 counts.1) are.2.0 are.0 counts.0 are.1.climbs

    -- ---- what they wrote is few

    counts-all : (whole levels : List (Level certificate)) → ((k : ℕ) (q : Place) → In q (wrote-of k levels) → In q (wrote-of k whole)) → AreIn (λ k q. is_in (wrote-of k whole) q) levels
    counts-all whole [] sub = tt
    counts-all whole (l ∷ levels) sub = (
      λ carried place within wrote. held-in (wrote-of carried.set whole) place (sub carried.set place (subst (λ (places : List Place). In place places) (sym (wrote-on l levels carried place within wrote)) (inl refl))),
      counts-all whole levels (λ k q i. sub k q (wrote-more k l levels q i)),
    )

    abbrev IsCounted : List (Level certificate) → ℕ → ℕ → Place → Type 0
    IsCounted levels k o z = (z.object ≡ o) × IsTrue (is_in (wrote-of k levels) z)

    few : (levels : List (Level certificate)) → AreLevels p cost classes objects levels → AreCounted (sets (λ k q. is_in (wrote-of k levels) q))
    few levels are k o [] of = omega arith
    few levels are k o (q ∷ qs) of =
        let first = place-of q of.each.0.1 in
        let in_set = first.is in
        let own = (counted k).is in_set.set in_set.stands in
        let low = own.0.at_most first.at.class (map property-in (q ∷ qs)) (record {
          each = λ n there.
              let at = place_of (map property-in (q ∷ qs)) n there in
              let found = named-in (q ∷ qs) at.0 n at.1 in
              member-of first found.0 (each-in (IsCounted levels k o) (q ∷ qs) of.each found.0 found.1) of.each.0.0 n found.2;
          once = once-of o (q ∷ qs) of.once (objects-of (q ∷ qs) of.each);
        }) in
        let count = length-map (q ∷ qs) property-in in
        let most = own.2 in
        omega (arith, low, count, most)
      where
        place-of : (z : Place) → IsTrue (is_in (wrote-of k levels) z) → IsPlaceIn p certificate classes k z
        place-of z held = wrote-place k levels are z (is_in-true (wrote-of k levels) z held)

        objects-of : (places : List Place) → AllByRecursion (IsCounted levels k o) places → AllByRecursion (λ z. z.object ≡ o) places
        objects-of [] all = tt
        objects-of (z ∷ zs) all = (all.0.0, objects-of zs all.1)

        member-of : (first : IsPlaceIn p certificate classes k q) (z : Place) → IsCounted levels k o z → q.object ≡ o → (n : ℕ) → z.property ≡ n → IsMember p first.is.set (node first.at.class (Property n))
        member-of first z counted_z at n property =
            let other = place-of z counted_z.1 in
            let one_set : other.is.set ≡ first.is.set = same_Some _ _ (sym other.is.stands ∙ first.is.stands) in
            let one_class : other.at.class ≡ first.at.class = same_Some _ _ (sym other.at.is ∙ ap classes (counted_z.0 ∙ sym at) ∙ first.at.is) in
            let one_node : other.node ≡ node first.at.class (Property n) =
            other.at.at ∙ ap (λ (c : ℕ). node c (Property z.property)) one_class ∙ ap (λ (m : ℕ). node first.at.class (Property m)) property in
            subst (λ (x : Node). IsMember p first.is.set x) one_node (subst (λ (s : SettlingSet). IsMember p s other.node) one_set other.is.member)

    pub levels-shallow : StacksAreShallow → (levels : List (Level certificate)) → AreLevels p cost classes objects levels → length levels ≤ certificate.bound + certificate.step * length objects
    levels-shallow shallow [] are = omega arith
    levels-shallow shallow (level ∷ levels) are =
        let s = stood (λ k q. is_in (wrote-of k (level ∷ levels)) q) level levels are (counts-all (level ∷ levels) (level ∷ levels) (λ k q i. i)) in
        let most = shallow (sets (λ k q. is_in (wrote-of k (level ∷ levels)) q)) (length objects) certificate.bound certificate.step (length levels) (height-of (λ k q. is_in (wrote-of k (level ∷ levels)) q) level) s.places (few (level ∷ levels) are) s.above in
        omega (arith, most)
