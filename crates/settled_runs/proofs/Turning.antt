-- Turns of event loops keep what a run keeps: nothing else is active then (docs/settling-proof.md, "Each rule keeps it").
use Rattle.std.{proofs.Common.{◌≡◌, ℕ, List, [], ◌∷◌, length, Option, Some, None, refl, sym, ap, subst, arith}, specs.List.{find}, proofs.lemmas.Option.{none-some}}
use Rattle.meta_model.specs.{Loaded.{Loaded}, Sound.{IsSound}}
use Rattle.event_loops.specs.{declared.item.Item.{Item}, declared.item.Item.TheVariants.{Call, Deletion}, declared.item.Posted.{Posted}, Queues.{Queues, items_at, is_before, taken_before}}
use Rattle.object_tree.specs.{declared.life.Life.{Life}, Objects.{life_of}}
use Rattle.effect_scan.{specs.declared.node.Member.TheVariants.{Method, Destruction}, specs.Nodes.{node, named}, specs.Destroying.{itself}, proofs.Relating.{is_class}}
use Rattle.machine_state.specs.{declared.turn.Turn.{Turn}, State.{State, Activation}}
use Rattle.machine_rules.{specs.Good.{IsWell as IsGiven}, specs.Rules.{TurnRule, Serves, Delivers, BeginsIf}, specs.code.Sound.{AllWait, Waits}, proofs.Waiting.{first-waits}}
use Rattle.settling.specs.{declared.certificate.SettlingCertificate.{SettlingCertificate}, Valid.{IsValid}}
use Rattle.object_machine.proofs.CheckedRuns.Nodes.{named-node, end-node}
use Rattle.settled_runs.{specs.Levels.{Level, AreCosts}, proofs.Pushing.{begins-first}, proofs.Invariant.{Stacked}, proofs.Begun.{Covered, Held, fits-begun, begun-held}}

module _ {p : Loaded} {certificate : SettlingCertificate} (sound : IsSound p) (valid : IsValid p certificate) (cost : ℕ → ℕ) (costs : AreCosts p certificate cost) (classes : ℕ → Option ℕ) where
  -- nothing is active
  none-active : (s : State) → s.stack ≡ [] → Stacked p cost classes s.objects {certificate = certificate} s.stack []
  none-active s empty = subst (λ (l : List Activation). Stacked p cost classes s.objects {certificate = certificate} l []) (sym empty) tt

  -- an item is delivered
  delivers-held : (s t : State) (queues : Queues) (item : Item) → Covered sound valid cost classes s → s.stack ≡ [] → IsGiven p s t → Waits p s.objects item → Delivers p (record s { queues = queues }) t item → Held sound valid cost classes t
  delivers-held s t queues (Call o m arguments) covered empty given waits rule = by_life (life_of s.objects o) rule
    where
      u : State
      u = record s { queues = queues }

      by_life : (life : Option Life) → BeginsIf p u o m arguments t life → Held sound valid cost classes t
      by_life None e =
          let Family : State → Type 0 = λ v. Held sound valid cost classes v in
          subst Family (sym e) (record { covered = covered; levels = []; stacked = none-active u empty; written = tt })
      by_life (Some l) b =
          let class = (b.is).life.class in
          let line = valid.each_node (node class (Method (named m))) (named-node sound class m b.method (b.is).is_method) in
          let low = ap (λ (l : List Activation). length l) empty in
          let typed = fits-begun sound valid cost classes u t (length s.stack) [] o b.object m b.method arguments (b.method).work b.is (omega (arith, low)) given.arguments b.gives in
          begun-held sound valid cost classes u t [] o b.object m b.method arguments (b.method).work [] covered b.is refl refl line.1
          (begins-first sound valid cost costs classes s.objects (node class (Method (named m))) line.0 arguments line.1) typed tt tt b.gives
  delivers-held s t queues (Deletion o) covered empty given waits rule =
      let known = (covered.known).each o waits in
      let class = is_class p known.0 known.2 in
      let line = valid.each_node (node known.0 Destruction) (end-node sound known.0 class.0 class.1) in
      let level : Level certificate = record { line = line.0; low = valid.bounded.ranks line.0 line.1.stands; small = valid.bounded.steps line.0 line.1.stands; within = None; wrote = None } in
      let Family : State → Type 0 = λ v. Held sound valid cost classes v in
      subst Family (sym rule) (record {
        covered = covered;
        levels = level ∷ [];
        stacked = (
          record {
            node = node known.0 Destruction;
            is = line.1;
            stands = record { class = known.0; at = refl; coming = record { class = known.0; is = known.1; closed = itself class.1 }; gone = tt };
            free = refl;
            alone = refl;
          },
          λ c within. absurd (none-some c within),
          tt,
          tt,
        );
        written = (λ c q within wrote. absurd (none-some q wrote), tt);
      })

  -- a turn goes on, or ends
  pub turn-held : (s t : State) → Covered sound valid cost classes s → s.stack ≡ [] → IsGiven p s t → AllWait p s.objects s.queues.loops → (turn : Option Turn) → TurnRule p s t turn → Held sound valid cost classes t
  turn-held s t covered empty given waiting None rule = absurd rule
  turn-held s t covered empty given waiting (Some turn) rule = by_first (find (is_before turn.limit) (items_at s.queues.loops turn.home)) refl rule
    where
      by_first : (found : Option Posted) → find (is_before turn.limit) (items_at s.queues.loops turn.home) ≡ found → Serves p s t turn found → Held sound valid cost classes t
      by_first None is e =
          let Family : State → Type 0 = λ v. Held sound valid cost classes v in
          subst Family (sym e) (record { covered = covered; levels = []; stacked = none-active s empty; written = tt })
      by_first (Some q) is d =
          delivers-held s t (taken_before turn.home turn.limit s.queues) q.item covered empty given (first-waits p s.objects s.queues.loops turn.home turn.limit q waiting is) d
