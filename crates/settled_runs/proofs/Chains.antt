-- No chain of bindings leads back to where it began: ranks fall along each (docs/settling-proof.md, "Edges").
use Rattle.std.proofs.Common.{◌≡◌, ℕ, ◌<◌, Option, Some, ap, arith}
use Rattle.meta_model.specs.{Loaded.{Loaded}, Sound.{IsSound}}
use Rattle.binding_graph.specs.{declared.binding.Binding.{Binding}, declared.place.Place.{Place}, Bindings.{Reads, Chain, direct, further}}
use Rattle.effect_scan.specs.Edges.{by_site}
use Rattle.settling.specs.{declared.certificate.SettlingLine.{SettlingLine}, declared.certificate.SettlingCertificate.{SettlingCertificate}, Valid.{IsValid}}
use Rattle.object_machine.proofs.CheckedRuns.{Invariant.{IsSited}, Sites.{ChainsEnd}}
use Rattle.settled_runs.{specs.Writes.{IsLineAt, IsDrawn}, proofs.Edges.{one-line, line-at, site-falls, line-before, line-after}, proofs.Drawn.{drawn}}

module _ {p : Loaded} {certificate : SettlingCertificate} (sound : IsSound p) (valid : IsValid p certificate) where
  module _ (classes : ℕ → Option ℕ) (G : Place → Option Binding) (sited : (q : Place) (b : Binding) → G q ≡ Some b → IsSited p classes b × (b.target ≡ q)) where
    -- the rank falls from the one place to the other
    record FallsAlong (a c : Place) : Type 0 where
      above : SettlingLine
      is_above : IsLineAt p certificate classes a above
      below : SettlingLine
      is_below : IsLineAt p certificate classes c below
      rank : below.rank < above.rank

    read-falls : (q m : Place) (b : Binding) → G q ≡ Some b → Reads b m → FallsAlong m q
    read-falls q m b is reads =
        let found = sited q b is in
        let d : IsDrawn p classes m q = drawn found.0 found.1 reads in
        let above = line-before valid sound (by_site d.site) in
        let below = line-after valid sound (by_site d.site) in
        record {
          above = above.0;
          is_above = record { node = d.from; at = d.is_from; is = above.1 };
          below = below.0;
          is_below = record { node = d.to; at = d.is_to; is = below.1 };
          rank = site-falls valid d.site above.1 below.1;
        }

    one-at : (q : Place) (a b : SettlingLine) → IsLineAt p certificate classes q a → IsLineAt p certificate classes q b → a ≡ b
    one-at q a b x y = one-line valid y.node a b (line-at valid x y.at) y.is

    chain-falls : (a c : Place) → Chain G a c → FallsAlong a c
    chain-falls a c (direct b is reads) = read-falls c a b is reads
    chain-falls a c (further {m = m} b chain is reads) =
        let first = chain-falls a m chain in
        let last = read-falls c m b is reads in
        let same = ap (λ (l : SettlingLine). l.rank) (one-at m first.below last.above first.is_below last.is_above) in
        let high = first.rank in
        let low = last.rank in
        record { above = first.above; is_above = first.is_above; below = last.below; is_below = last.is_below; rank = omega (arith, high, low, same) }

  pub chains-end : ChainsEnd p
  chains-end classes G sited loop =
      let round = chain-falls classes G sited loop.0 loop.0 loop.1 in
      let same = ap (λ (l : SettlingLine). l.rank) (one-at classes G sited loop.0 round.above round.below round.is_above round.is_below) in
      let fall = round.rank in
      omega (arith, fall, same)
