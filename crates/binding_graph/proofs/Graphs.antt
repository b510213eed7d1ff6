-- What the graph of the installed bindings says, and how it stays one.
use Rattle.std.proofs.Common.{◌≡◌, ℕ, Bool, refl, ◌<◌, ◌⊎◌, true, false, List, [], ◌∷◌, length, arith, inl, inr, Option, None, Some, ap, sym, ◌∙◌, subst}
use Rattle.std.proofs.lemmas.Bool.{false≢true}
use Rattle.std.proofs.lemmas.Option.{same_Some}
use Rattle.binding_graph.specs.declared.place.Place.{Place}
use Rattle.binding_graph.specs.declared.binding.Binding.{Binding}
use Rattle.binding_graph.specs.declared.graph.Graph.{Graph}
use Rattle.binding_graph.specs.Places.{In, same_place}
use Rattle.binding_graph.specs.Bindings.{binding_at, AreApart, Reads, read_by, touches, without, replaced}
use Rattle.binding_graph.specs.code.Graph.{AreKeyed, AreNamed, AreTouched, IsGraph, IsIndexed, KeepReaders, KeepTouched, LosesPlace, LosesTarget, Named, NamesTouched, RankOfReader, Touched, bindings_of}
use Rattle.binding_graph.specs.code.Orders.{bound}
use Rattle.binding_graph.specs.code.BindingRanks.{AreRanked, KeepRanks, RankAll, rank_of}
use Rattle.binding_graph.proofs.Apart.{apart-fewer, apart-replaced}
use Rattle.binding_graph.proofs.Replaced.{installed-is, without-at, without-fewer}
use Rattle.binding_graph.proofs.Numbers.{IsOneToOne}
use Rattle.binding_graph.proofs.Places.{decide_place, different, same_place-refl}
use Rattle.binding_graph.proofs.Ranking.{numbered-at, ranked-fewer, ranked-none}
use Rattle.binding_graph.proofs.Walks.{bound-same, bound-other}

-- ---- numbers
pub ranks-apart : (g : Graph) → IsGraph g → IsOneToOne (rank_of g.ranks)
ranks-apart g h = h.ranks.apart

pub rank-short : (g : Graph) → IsGraph g → (p : Place) (i : ℕ) → rank_of g.ranks p ≡ Some i → i < g.ranks.next
rank-short g h p i is = h.ranks.below p i is

pub rank-there : (g : Graph) → IsGraph g → (p : Place) (b : Binding) → binding_at (bindings_of g) p ≡ Some b → (i : ℕ) × (rank_of g.ranks p ≡ Some i)
rank-there g h p b some = numbered-at (binding_at (bindings_of g)) (rank_of g.ranks) g.ranks.next h.ranks p b some

-- a source's number is below its reader's
pub rank-rises : (g : Graph) → IsGraph g → (q m : Place) (b : Binding) → binding_at (bindings_of g) q ≡ Some b → Reads b m → (i : ℕ) → rank_of g.ranks q ≡ Some i → (j : ℕ) → rank_of g.ranks m ≡ Some j → j < i
rank-rises g h q m b some reads i at j to = h.ranks.rises q m b j i some (λ k. k) reads to at

pub ranked-reader : (g : Graph) → IsGraph g → (q m : Place) (b : Binding) → binding_at (bindings_of g) q ≡ Some b → Reads b m → (r : Option ℕ) → r ≡ rank_of g.ranks q → RankOfReader g q m r
ranked-reader g h q m b some reads None is = let found = rank-there g h q b some in let there : rank_of g.ranks q ≡ Some found.0 = found.1 in absurd (cc (there, is))
ranked-reader g h q m b some reads (Some i) is = (b, some, reads, sym is)

-- ---- no bindings
pub none-bound : (bs : List Binding) → length bs ≡ 0 → (q : Place) (b : Binding) → binding_at bs q ≡ Some b → ⊥
none-bound [] z q b some = cc some
none-bound (x ∷ xs) z q b some = absurd (omega (arith, z))

pub none-left : (p : Place) (bs : List Binding) → length bs ≡ 0 → bs ≡ without p bs
none-left p [] z = refl
none-left p (x ∷ xs) z = absurd (omega (arith, z))

pub empty-graph : (g : Graph) → AreKeyed g.installed → bindings_of g ≡ [] → ((p : Place) → rank_of g.ranks p ≡ None) → IsGraph g
empty-graph g keyed none unranked = record {
  keyed = keyed;
  apart = subst AreApart (sym none) tt;
  ranks = ranked-none (binding_at (bindings_of g)) (rank_of g.ranks) g.ranks.next nothing unranked;
  readers = λ q m b some reads. absurd (nothing q b some);
  touched = λ q b o some t passes. absurd (nothing q b some);
}
  where
    nothing : (p : Place) (b : Binding) → binding_at (bindings_of g) p ≡ Some b → ⊥
    nothing p b some = (let here : binding_at [] p ≡ Some b = ap (λ (xs : List Binding). binding_at xs p) (sym none) ∙ some in cc here)

pub indexed-of : (g : Graph) → IsGraph g → IsIndexed g
indexed-of g h = record { keyed = h.keyed; apart = h.apart; ranks = h.ranks; readers = h.readers }

pub graph-of : (g : Graph) → IsIndexed g → NamesTouched (λ o. true) g → IsGraph g
graph-of g h touched = record { keyed = h.keyed; apart = h.apart; ranks = h.ranks; readers = h.readers; touched = touched }

-- ---- fewer bindings
module _ (g n : Graph) (p : Place) (left : bindings_of n ≡ without p (bindings_of g)) where
  pub removed-fewer : (q : Place) (b : Binding) → binding_at (bindings_of n) q ≡ Some b → binding_at (bindings_of g) q ≡ Some b
  removed-fewer q b some = without-fewer p (bindings_of g) q b (ap (λ (xs : List Binding). binding_at xs q) (sym left) ∙ some)

  pub removed-away : (q : Place) (b : Binding) → binding_at (bindings_of n) q ≡ Some b → p ≡ q → ⊥
  removed-away q b some e =
      let none : binding_at (without p (bindings_of g)) q ≡ None = subst (λ (r : Place). binding_at (without p (bindings_of g)) r ≡ None) e (without-at p (bindings_of g)) in
      let there : binding_at (without p (bindings_of g)) q ≡ Some b = ap (λ (xs : List Binding). binding_at xs q) (sym left) ∙ some in
      cc (none, there)

  pub removed-indexed : IsIndexed g → AreKeyed n.installed → n.ranks.next ≡ g.ranks.next → ((q : Place) → same_place p q ≡ false → rank_of n.ranks q ≡ rank_of g.ranks q) → ((q : Place) (i : ℕ) → rank_of n.ranks q ≡ Some i → rank_of g.ranks q ≡ Some i) → ((m q : Place) → Named g.readers m q → Named n.readers m q ⊎ (p ≡ q)) → IsIndexed n
  removed-indexed h keyed next others old loses = record {
    keyed = keyed;
    apart = subst AreApart (sym left) (apart-fewer _ (bindings_of g) h.apart);
    ranks = subst (λ (k : ℕ). AreRanked (binding_at (bindings_of n)) [] (rank_of n.ranks) k) (sym next)
        (ranked-fewer (binding_at (bindings_of g)) (binding_at (bindings_of n)) (rank_of g.ranks) (rank_of n.ranks) g.ranks.next removed-fewer old (λ q b some. others q (different p q (removed-away q b some))) h.ranks);
    readers = λ q m b some reads. elim (loses m q (h.readers q m b (removed-fewer q b some) reads)) [ inl i ↦ i | inr e ↦ absurd (removed-away q b some e) ];
  }

  pub removed-touched : (test : ℕ → Bool) → LosesPlace p g.touching n.touching → NamesTouched test g → NamesTouched test n
  removed-touched test loses h = λ q b o some t passes. elim (loses o q (h q b o (removed-fewer q b some) t passes)) [
    | inl i ↦ i
    | inr e ↦ absurd (removed-away q b some e)
  ]

-- ---- room for one more
pub roomier-graph : (g n : Graph) → IsGraph g → AreKeyed n.installed → bindings_of n ≡ bindings_of g → KeepRanks g.ranks n.ranks → KeepTouched g.touching n.touching → KeepReaders g.readers n.readers → IsGraph n
roomier-graph g n h keyed same ranks touched readers = record {
  keyed = keyed;
  apart = subst AreApart (sym same) h.apart;
  ranks = subst (λ (xs : List Binding). RankAll (binding_at xs) [] n.ranks) (sym same) (ranks (binding_at (bindings_of g)) h.ranks);
  readers = λ q m b some reads. readers m q (h.readers q m b (ap (λ (xs : List Binding). binding_at xs q) (sym same) ∙ some) reads);
  touched = λ q b o some is passes. touched o q (h.touched q b o (ap (λ (xs : List Binding). binding_at xs q) (sym same) ∙ some) is passes);
}

-- ---- one binding more
pub installed-graph : (g n : Graph) (b : Binding) → IsGraph g → AreKeyed n.installed → bindings_of n ≡ replaced (bindings_of g) b → RankAll (binding_at (replaced (bindings_of g) b)) [] n.ranks → LosesTarget b b.target g.touching n.touching → AreTouched g.touching b → AreNamed g.readers b → ((m q : Place) → Named g.readers m q → Named n.readers m q ⊎ ((b.target ≡ q) × (In m (read_by b) → ⊥))) → IsGraph n
installed-graph g n b h keyed is ranks leaves objects named loses = record {
  keyed = keyed;
  apart = subst AreApart (sym is) (apart-replaced (bindings_of g) b h.apart);
  ranks = subst (λ (xs : List Binding). RankAll (binding_at xs) [] n.ranks) (sym is) ranks;
  readers = λ q m z some reads. elim (decide_place b.target q) [
    | inl e ↦
        let one : b ≡ z = own q z some e in
        let own-reads : Reads b m = subst (λ (c : Binding). Reads c m) (sym one) reads in
        subst (λ (r : Place). Named n.readers m r) e (elim (loses m b.target (named m own-reads)) [ inl i ↦ i | inr out ↦ absurd (out.1 own-reads) ])
    | inr f ↦ elim (loses m q (h.readers q m z (other q z some f) reads)) [ inl i ↦ i | inr out ↦ absurd (apart q f out.0) ]
  ];
  touched = λ q z o some t passes. elim (decide_place b.target q) [
    | inl e ↦
        let one : b ≡ z = own q z some e in
        let own-touches : touches o b ≡ true = subst (λ (c : Binding). touches o c ≡ true) (sym one) t in
        subst (λ (r : Place). Touched n.touching o r) e (elim (leaves o b.target (objects o own-touches)) [ inl i ↦ i | inr out ↦ absurd (false≢true (sym out.1 ∙ own-touches)) ])
    | inr f ↦ elim (leaves o q (h.touched q z o (other q z some f) t passes)) [ inl i ↦ i | inr out ↦ absurd (apart q f out.0) ]
  ];
}
  where
    whole : (q : Place) → binding_at (bindings_of n) q ≡ bound (binding_at (bindings_of g)) b.target b q
    whole q = ap (λ (xs : List Binding). binding_at xs q) is ∙ ap (λ (F : Place → Option Binding). F q) (installed-is (bindings_of g) b)

    own : (q : Place) (z : Binding) → binding_at (bindings_of n) q ≡ Some z → b.target ≡ q → b ≡ z
    own q z some e = same_Some b z (sym (bound-same (binding_at (bindings_of g)) b.target b) ∙ ap (bound (binding_at (bindings_of g)) b.target b) e ∙ sym (whole q) ∙ some)

    other : (q : Place) (z : Binding) → binding_at (bindings_of n) q ≡ Some z → same_place b.target q ≡ false → binding_at (bindings_of g) q ≡ Some z
    other q z some f = sym (bound-other (binding_at (bindings_of g)) b.target b q f) ∙ sym (whole q) ∙ some

    apart : (q : Place) → same_place b.target q ≡ false → b.target ≡ q → ⊥
    apart q f e = false≢true (sym f ∙ subst (λ (r : Place). same_place b.target r ≡ true) e (same_place-refl b.target))
