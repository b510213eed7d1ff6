-- The level of what begins above another (docs/settling-proof.md, "Each rule keeps it").
use Rattle.std.proofs.Common.{◌≡◌, inl, inr, ℕ, ◌-◌, ◌<◌, ◌≤◌, List, [], ◌∷◌, Option, Some, None, slice_get, refl, sym, ap, ◌∙◌, subst, arith}
use Rattle.std.proofs.lemmas.Option.{same_Some, none-some}
use Rattle.basic_types.specs.declared.value.Value.{Value}
use Rattle.meta_model.specs.Loaded.{Loaded}
use Rattle.meta_model.specs.Sound.{IsSound}
use Rattle.object_tree.specs.declared.object.Object.{Object}
use Rattle.object_tree.specs.Seen.{seen}
use Rattle.effect_scan.specs.declared.node.Node.{Node}
use Rattle.effect_scan.specs.Edges.{MayLead}
use Rattle.binding_graph.specs.declared.place.Place.{Place}
use Rattle.binding_graph.specs.Places.{In}
use Rattle.settling.specs.declared.certificate.SettlingLine.{SettlingLine}
use Rattle.settling.specs.declared.certificate.SettlingCertificate.{SettlingCertificate}
use Rattle.settling.specs.Hands.{HandOn}
use Rattle.settling.specs.Sets.{IsIn}
use Rattle.settling.specs.Settles.{IsProperty}
use Rattle.settling.specs.Valid.{IsLineOf, Destroys, IsValid}
use Rattle.settled_runs.specs.Levels.{Carried, Level, written_in, falls, writes, AreCosts, Leaves, inside, apart, FallsTo, IsPlaceIn, IsOfSet, IsWell}
use Rattle.settled_runs.specs.Writes.{IsNoHigher}
use Rattle.settled_runs.proofs.Memberships.{decide-in, Turn, Exit, edge-cases, turns, destroy-falls}

-- ---- levels of nodes

-- the level is in no set, or in one in which its node is
pub data StandsIn (p : Loaded) {certificate : SettlingCertificate} (x : Node) (level : Level certificate) : Type 0 where
  free : level.within ≡ None → StandsIn p x level
  bound : {carried : Carried} → IsIn p certificate carried.set x → level.within ≡ Some carried → StandsIn p x level

-- what is carried is the first argument, as it reads
abbrev pub CarriesFirst : List Object → Carried → List Value → Type 0
CarriesFirst objects carried given = (a : Value) → slice_get given 0 ≡ Some a → seen objects a ≡ seen objects carried.value

-- A level for a node with its line, that is called with these arguments above others. It is in a set where its node is in one, if
-- there is an argument: `destroyed()`, which has none, is at the node of `destroyed(QObject*)`.
pub record Begins (p : Loaded) (cost : ℕ → ℕ) (classes : ℕ → Option ℕ) (objects : List Object) {certificate : SettlingCertificate} (levels : List (Level certificate)) (x : Node) (line : SettlingLine) (given : List Value) : Type 0 where
  pub level : Level certificate
  pub line_is : level.line ≡ line
  pub alone : level.wrote ≡ None
  pub is_inside : StandsIn p x level
  pub is_strict : (a : Value) → slice_get given 0 ≡ Some a → (k : ℕ) → IsIn p certificate k x → (carried : Carried) × (level.within ≡ Some carried)
  pub carries : (carried : Carried) → level.within ≡ Some carried → CarriesFirst objects carried given
  pub well : IsWell p classes level
  pub falls_to : FallsTo p cost objects levels level

module _ {p : Loaded} {certificate : SettlingCertificate} (sound : IsSound p) (valid : IsValid p certificate) (cost : ℕ → ℕ) (costs : AreCosts p certificate cost) (classes : ℕ → Option ℕ) (objects : List Object) where
  abbrev node-level : SettlingLine → Option Carried → Option Place → Type 0
  node-level line within wrote = (level : Level certificate) × (level.line ≡ line) × (level.within ≡ within) × (level.wrote ≡ wrote)

  made : (x : Node) (line : SettlingLine) (within : Option Carried) (wrote : Option Place) → IsLineOf p certificate x line → node-level line within wrote
  made x line within wrote is = (record { line = line; low = valid.bounded.ranks line is.stands; small = valid.bounded.steps line is.stands; within = within; wrote = wrote }, refl, refl, refl)

  -- the level of a node in a set is of the set
  of-set : {x : Node} {line : SettlingLine} (level : Level certificate) (k : ℕ) → IsLineOf p certificate x line → level.line ≡ line → level.wrote ≡ None → IsIn p certificate k x → IsOfSet p classes k level
  of-set {x} {line} level k is line_is alone member = record {
    node = x;
    member = member;
    line = line;
    is = is;
    step = ap (λ (l : SettlingLine). l.step) line_is;
    places = λ place wrote. absurd (none-some place (sym alone ∙ wrote));
  }

  -- ---- a set is entered, or none

  module _ {levels : List (Level certificate)} (x : Node) (line : SettlingLine) (is : IsLineOf p certificate x line) (falls_to : (level : Level certificate) → level.line ≡ line → FallsTo p cost objects levels level) where
    in-none : (given : List Value) → ((a : Value) → slice_get given 0 ≡ Some a → (k : ℕ) → ¬ IsIn p certificate k x) → Begins p cost classes objects levels x line given
    in-none given none =
        let level = made x line None None is in
        record {
          level = level.0;
          line_is = level.1;
          alone = level.3;
          is_inside = free level.2;
          is_strict = λ a only k member. absurd (none a only k member);
          carries = λ c within. absurd (none-some c (sym level.2 ∙ within));
          well = λ c within. absurd (none-some c (sym level.2 ∙ within));
          falls_to = falls_to level.0 level.1;
        }

    in-one : (a : Value) (more : List Value) (k : ℕ) → IsIn p certificate k x → Begins p cost classes objects levels x line (a ∷ more)
    in-one a more k member =
        let carried : Carried = record { set = k; value = a } in
        let level = made x line (Some carried) None is in
        record {
          level = level.0;
          line_is = level.1;
          alone = level.3;
          is_inside = bound member level.2;
          is_strict = λ b only j other. (carried, level.2);
          carries = λ c within. let same : carried ≡ c = same_Some _ _ (sym level.2 ∙ within) in λ b first. ap (seen objects) (sym (same_Some a b first)) ∙ ap (λ (d : Carried). seen objects d.value) same;
          well = λ c within. let same : carried ≡ c = same_Some _ _ (sym level.2 ∙ within) in of-set level.0 c.set is level.1 level.3 (subst (λ (d : Carried). IsIn p certificate d.set x) same member);
          falls_to = falls_to level.0 level.1;
        }

    fresh : (given : List Value) → Begins p cost classes objects levels x line given
    fresh [] = in-none [] (λ a first k member. absurd (none-some a first))
    fresh (a ∷ more) = elim (decide-in sound valid x) [
      | inl found ↦ in-one a more found.0 found.1
      | inr none ↦ in-none (a ∷ more) (λ b first k member. none k member)
    ]

  -- over nothing
  pub begins-first : (x : Node) (line : SettlingLine) (given : List Value) → IsLineOf p certificate x line → Begins p cost classes objects {certificate = certificate} [] x line given
  begins-first x line given is = fresh x line is (λ level e. tt) given

  -- ---- from one node to another

  -- an edge that leaves a set, or is in none, leaves what the level is in
  pub left-by : {x y : Node} {a b : SettlingLine} (lower : Level certificate) → StandsIn p x lower → lower.line ≡ a → Exit p certificate x y a b → Leaves cost lower.within lower.line b
  left-by {x} {a = a} {b = b} lower is_inside line_is exit = by_within is_inside
    where
      by_within : StandsIn p x lower → Leaves cost lower.within lower.line b
      by_within (free within) = subst (λ (w : Option Carried). Leaves cost w lower.line b) (sym within) (subst (λ (l : SettlingLine). b.step ≤ l.step) (sym line_is) exit.step)
      by_within (bound {carried = carried} member within) =
          let own = costs carried.set member.set member.stands in
          let left = exit.leaves carried.set member.set own.0 member.stands member.member in
          let step = ap (λ (l : SettlingLine). l.step) line_is in
          subst (λ (w : Option Carried). Leaves cost w lower.line b) (sym within) (omega (arith, left, own.1, step))

  -- a method that may be called at once begins within the set, with the value, or outside of it
  pub begins-over : {x y : Node} {b : SettlingLine} (lower : Level certificate) (levels : List (Level certificate)) (given : List Value) → MayLead p x y → IsLineOf p certificate x lower.line → IsLineOf p certificate y b → (¬ IsProperty y) → StandsIn p x lower
      → ((carried : Carried) → lower.within ≡ Some carried → IsIn p certificate carried.set y → HandOn p x y → CarriesFirst objects carried given) → Begins p cost classes objects (lower ∷ levels) y b given
  begins-over {x} {y} {b} lower levels given leads from to method is_inside handed = elim (edge-cases sound valid leads from to) [
    | inl turn ↦ by_within turn.0 turn.1 is_inside
    | inr exit ↦ fresh y b to (λ level e. record {
      climbs = apart (record {
        rank = let fall = exit.falls in let rank = ap (λ (l : SettlingLine). l.rank) e in omega (arith, fall, rank);
        step = subst (λ (l : SettlingLine). Leaves cost lower.within lower.line l) (sym e) (left-by lower is_inside refl exit);
      });
      set = λ d none. subst (λ (l : SettlingLine). ¬ Destroys p l d) (sym e) (destroy-falls sound valid leads from to d none);
    }) given
  ]
    where
      by_within : (k : ℕ) → Turn p certificate k x y lower.line b → StandsIn p x lower → Begins p cost classes objects (lower ∷ levels) y b given
      by_within k turn (free within) = fresh y b to (λ level e. record {
        climbs = apart (record {
          rank = let fall = turn.falls method in let rank = ap (λ (l : SettlingLine). l.rank) e in omega (arith, fall, rank);
          step = subst (λ (w : Option Carried). Leaves cost w lower.line level.line) (sym within) (let same = turn.step in let step = ap (λ (l : SettlingLine). l.step) e in omega (arith, same, step));
        });
        set = λ d none. subst (λ (l : SettlingLine). ¬ Destroys p l d) (sym e) (destroy-falls sound valid leads from to d none);
      }) given
      by_within k turn (bound {carried = carried} member within) =
          let same : k ≡ carried.set = valid.nothing_else.apart k carried.set x turn.from member in
          let there = subst (λ (j : ℕ). IsIn p certificate j y) same turn.to in
          let hands = handed carried within there turn.hands in
          let level = made y b (Some carried) None to in
          record {
            level = level.0;
            line_is = level.1;
            alone = level.3;
            is_inside = bound there level.2;
            is_strict = λ a only j member_y. (carried, level.2);
            carries = λ c is. let one : carried ≡ c = same_Some _ _ (sym level.2 ∙ is) in subst (λ (d : Carried). CarriesFirst objects d given) one hands;
            well = λ c is. let one : carried ≡ c = same_Some _ _ (sym level.2 ∙ is) in of-set level.0 c.set to level.1 level.3 (subst (λ (d : Carried). IsIn p certificate d.set y) one there);
            falls_to = record {
              climbs = inside (record {
                carried = carried;
                is = within;
                above = carried;
                is_above = level.2;
                one = refl;
                value = refl;
                set = member.set;
                stands = member.stands;
                step = ap (λ (l : SettlingLine). l.step) level.1 ∙ turn.step;
                turns = falls level.3 (let fall = turn.falls method in let rank = ap (λ (l : SettlingLine). l.rank) level.1 in omega (arith, fall, rank));
              });
              set = λ d none. subst (λ (l : SettlingLine). ¬ Destroys p l d) (sym level.1) (destroy-falls sound valid leads from to d none);
            };
          }

  -- a notify signal of what is no higher than the level, and has left its set if it is in one
  pub begins-apart : {x y : Node} {a b : SettlingLine} (lower : Level certificate) (levels : List (Level certificate)) (given : List Value) → MayLead p x y → IsLineOf p certificate x a → IsLineOf p certificate y b → (¬ IsProperty y)
      → IsNoHigher p lower.line a → Leaves cost lower.within lower.line a → Begins p cost classes objects (lower ∷ levels) y b given
  begins-apart {x} {y} {a} {b} lower levels given leads from to method low leaves = fresh y b to (λ level e. record {
    climbs = apart (record {
      rank = let fall = lower-rank in let most = low.rank in let rank = ap (λ (l : SettlingLine). l.rank) e in omega (arith, fall, most, rank);
      step = subst (λ (l : SettlingLine). Leaves cost lower.within lower.line l) (sym e) (further lower.within leaves);
    });
    set = λ d none. subst (λ (l : SettlingLine). ¬ Destroys p l d) (sym e) (destroy-falls sound valid leads from to d (low.set d none));
  }) given
    where
      lower-rank : b.rank < a.rank
      lower-rank = elim (edge-cases sound valid leads from to) [ inl turn ↦ turn.1.falls method | inr exit ↦ exit.falls ]

      further : (w : Option Carried) → Leaves cost w lower.line a → Leaves cost w lower.line b
      further None step = let steps = valid.edges.steps x y a b leads from to in omega (arith, step, steps)
      further (Some c) step = let steps = valid.edges.steps x y a b leads from to in omega (arith, step, steps)

  -- ---- updates

  -- an update after a write of a property of the set, of which no level wrote it
  pub update-within : {x y : Node} {b : SettlingLine} (lower : Level certificate) (levels : List (Level certificate)) (carried : Carried) (place : Place) → MayLead p x y → IsLineOf p certificate x lower.line → IsLineOf p certificate y b
      → IsIn p certificate carried.set x → lower.within ≡ Some carried → (there : IsPlaceIn p certificate classes carried.set place) → there.node ≡ y → (¬ In place (written_in carried.set (lower ∷ levels)))
      → (level : Level certificate) × (level.line ≡ b) × (level.within ≡ Some carried) × (level.wrote ≡ Some place) × IsWell p classes level × FallsTo p cost objects (lower ∷ levels) level
  update-within {x} {y} {b} lower levels carried place leads from to member within there at new =
      let target = subst (λ (z : Node). IsIn p certificate carried.set z) at there.is in
      let turn = turns sound valid leads from to carried.set member target in
      let level = made y b (Some carried) (Some place) to in (
        level.0,
        level.1,
        level.2,
        level.3,
        λ c is.
            let one : carried ≡ c = same_Some _ _ (sym level.2 ∙ is) in
            record {
              node = y;
              member = subst (λ (d : Carried). IsIn p certificate d.set y) one target;
              line = b;
              is = to;
              step = ap (λ (l : SettlingLine). l.step) level.1;
              places = λ q wrote. subst (λ (d : Carried). IsPlaceIn p certificate classes d.set q) one (subst (λ (z : Place). IsPlaceIn p certificate classes carried.set z) (same_Some place q (sym level.3 ∙ wrote)) there);
            },
        record {
          climbs = inside (record {
            carried = carried;
            is = within;
            above = carried;
            is_above = level.2;
            one = refl;
            value = refl;
            set = turn.from.set;
            stands = turn.from.stands;
            step = ap (λ (l : SettlingLine). l.step) level.1 ∙ turn.step;
            turns = writes level.3 (let rises = turn.rises in let rank = ap (λ (l : SettlingLine). l.rank) level.1 in omega (arith, rises, rank)) new;
          });
          set = λ d none. subst (λ (l : SettlingLine). ¬ Destroys p l d) (sym level.1) (destroy-falls sound valid leads from to d none);
        },
      )

  -- an empty update after a write that changed nothing, within the set
  pub update-idle : {x y : Node} {b : SettlingLine} (lower : Level certificate) (levels : List (Level certificate)) (carried : Carried) → MayLead p x y → IsLineOf p certificate x lower.line → IsLineOf p certificate y b
      → IsIn p certificate carried.set x → IsIn p certificate carried.set y → lower.within ≡ Some carried
      → (level : Level certificate) × (level.within ≡ Some carried) × (level.wrote ≡ None) × IsWell p classes level × FallsTo p cost objects (lower ∷ levels) level
  update-idle {x} {y} {b} lower levels carried leads from to member target within =
      let turn = turns sound valid leads from to carried.set member target in
      let above = turn.above in
      let low = lower.low in
      let level : Level certificate = record { line = record lower.line { rank = lower.line.rank - 1 }; low = omega (arith, low); small = lower.small; within = Some carried; wrote = None } in (
        level,
        refl,
        refl,
        λ c is.
            let one : carried ≡ c = same_Some _ _ is in
            record {
              node = x;
              member = subst (λ (d : Carried). IsIn p certificate d.set x) one member;
              line = lower.line;
              is = from;
              step = refl;
              places = λ q wrote. absurd (none-some q wrote);
            },
        record {
          climbs = inside (record {
            carried = carried;
            is = within;
            above = carried;
            is_above = refl;
            one = refl;
            value = refl;
            set = member.set;
            stands = member.stands;
            step = refl;
            turns = falls refl (omega (arith, above));
          });
          set = λ d none. none;
        },
      )

  -- An update after a write that leaves the set, or is in none: a rank below the lower level, and a step for each object and
  -- property of the set that is left.
  pub record IsOutside (lower : Level certificate) (levels : List (Level certificate)) : Type 0 where
    pub level : Level certificate
    pub free : level.within ≡ None
    pub alone : level.wrote ≡ None
    pub well : IsWell p classes level
    pub leaves : Leaves cost lower.within lower.line level.line
    pub falls_to : FallsTo p cost objects (lower ∷ levels) level
    pub low : (a : SettlingLine) → a.rank < lower.line.rank → Leaves cost lower.within lower.line a → ((d : ℕ) → ¬ Destroys p lower.line d → ¬ Destroys p a d) → IsNoHigher p level.line a

  abbrev cost-in : Option Carried → ℕ
  cost-in None = 0
  cost-in (Some carried) = cost carried.set

  enough-in : (lower : Level certificate) → IsWell p classes lower → (w : Option Carried) → lower.within ≡ w → cost-in w ≤ lower.line.step
  enough-in lower well None e = omega arith
  enough-in lower well (Some carried) e =
      let of = well carried e in
      let own = costs carried.set of.member.set of.member.stands in
      let low = own.0.enough of.node of.line of.member.member of.is in
      omega (arith, low, own.1, of.step)

  left-in : (w : Option Carried) (a b : SettlingLine) → cost-in w ≤ a.step → b.step ≡ a.step - cost-in w → Leaves cost w a b
  left-in None a b enough step = omega (arith, enough, step)
  left-in (Some carried) a b enough step = omega (arith, enough, step)

  low-in : (w : Option Carried) (a b : SettlingLine) (n : ℕ) → Leaves cost w a b → n ≡ a.step - cost-in w → b.step ≤ n
  low-in None a b n leaves step = omega (arith, leaves, step)
  low-in (Some carried) a b n leaves step = omega (arith, leaves, step)

  pub update-outside : (lower : Level certificate) (levels : List (Level certificate)) → IsWell p classes lower → 0 < lower.line.rank → IsOutside lower levels
  update-outside lower levels well above =
      let enough = enough-in lower well lower.within refl in
      let low = lower.low in
      let small = lower.small in
      let line : SettlingLine = record lower.line { rank = lower.line.rank - 1; step = lower.line.step - cost-in lower.within } in
      let leaves = left-in lower.within lower.line line enough refl in
      record {
        level = record { line = line; low = omega (arith, low); small = omega (arith, small); within = None; wrote = None };
        free = refl;
        alone = refl;
        well = λ c is. absurd (none-some c is);
        leaves = leaves;
        falls_to = record { climbs = apart (record { rank = omega (arith, above); step = leaves }); set = λ d none. none };
        low = λ a rank left destroys. record {
          rank = omega (arith, rank);
          step = low-in lower.within lower.line a (lower.line.step - cost-in lower.within) left refl;
          set = destroys;
        };
      }
