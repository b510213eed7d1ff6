-- A search of all nodes.
use Rattle.std.proofs.Common.{◌≡◌, ℕ, zero, suc, ◌+◌, ◌<◌, true, false, inl, inr, List, [], ◌∷◌, length, map, replicate, slice_get, Option, Some, refl, sym, ap, ◌∙◌, subst, arith}
use Rattle.std.proofs.lemmas.Bool.{cases_eq, cases_lt}
use Rattle.std.proofs.lemmas.List.{get_or_past, length-map, get_or-replicate, length-replicate}
use Rattle.std.proofs.lemmas.Option.{slice_get_past, slice_get_within}
use Rattle.effect_scan.specs.Rows.{row, Edge}
use Rattle.rank_graph.specs.Entries.{owns}
use Rattle.rank_graph.specs.Searching.{state_of, Joins, Finished, NoneOpen, AllDone, Visited}
use Rattle.rank_graph.specs.Entries.{rank_in, leads_in, rank_at, IsSearched}
use Rattle.rank_graph.specs.declared.bits.Bits.{Bits}
use Rattle.rank_graph.specs.declared.path.NodeRank.{NodeRank}
use Rattle.rank_graph.specs.declared.path.VisitState.{VisitState}
use Rattle.rank_graph.specs.declared.path.VisitState.TheVariants.{New, Open, Done}
use Rattle.rank_graph.proofs.Searching.{done_from}

pub all_new : (rows : List (List ℕ)) (own : List Bits) (states : List VisitState) → ((a : ℕ) → state_of states a ≡ New) → Finished rows own states × NoneOpen states
all_new rows own states fresh = (
  record {
    joins = λ a e is. let bad : New ≡ Done e = sym (fresh a) ∙ is in cc;
    ranked = λ a e is. let bad : New ≡ Done e = sym (fresh a) ∙ is in cc;
  },
  λ a is. let bad : New ≡ Open = sym (fresh a) ∙ is in cc,
)

abbrev pub Come : List (List ℕ) → List Bits → ℕ → List VisitState → Type 0
Come rows own root states = Finished rows own states × NoneOpen states × (length states ≡ length rows) × ((a : ℕ) → a < root → (d : NodeRank) × (state_of states a ≡ Done d))

pub come_visit : (rows : List (List ℕ)) (own : List Bits) (root : ℕ) (states after : List VisitState) → Come rows own root states → Visited rows own states root after → Come rows own (root + 1) after
come_visit rows own root states after c v = (
  v.finished,
  v.closed,
  v.len ∙ c.2,
  λ a h.
      elim (cases_eq a root) [
        | inl e ↦ (v.done.0, subst (λ (y : ℕ). state_of after y ≡ Done v.done.0) (sym e) v.done.1)
        | inr ne ↦ let d = c.3 a (omega arith) in (d.0, v.grows a d.0 d.1)
      ],
)

pub come_past : (rows : List (List ℕ)) (own : List Bits) (root : ℕ) (states : List VisitState) → Come rows own root states → (state_of states root ≡ New → ⊥) → Come rows own (root + 1) states
come_past rows own root states c old = (
  c.0,
  c.1,
  c.2,
  λ a h.
      elim (cases_eq a root) [
        | inl e ↦ let d = done_from states root (state_of states root) refl old (c.1 root) in (d.0, subst (λ (y : ℕ). state_of states y ≡ Done d.0) (sym e) d.1)
        | inr ne ↦ c.3 a (omega arith)
      ],
)

pub look : (es : List NodeRank) (a : ℕ) (d : NodeRank) → state_of (map Done es) a ≡ Done d → slice_get es a ≡ Some d
unfolding state_of
look [] a d e = let bad : New ≡ Done d = e in cc
look (x ∷ es) zero d e = let same : Done x ≡ Done d = e in cc
look (x ∷ es) (suc a) d e = look es a d e

pub edge_inside : (rows : List (List ℕ)) (a b : ℕ) → Edge rows a b → a < length rows
unfolding row
edge_inside rows a b e =
    elim (cases_lt a (length rows)) [
      | inl l ↦ l
      | inr m ↦ let none : row rows a ≡ [] = get_or_past rows a [] m in let h : length (row rows a) ≡ 0 = ap length none in absurd (omega (arith, e.1))
    ]

-- an entry, with what it was made from
pub entry_at : (rows : List (List ℕ)) (own : List Bits) (es : List NodeRank) (a : ℕ) → Finished rows own (map Done es) → AllDone (map Done es) → length (map Done es) ≡ length rows → a < length rows → (e : NodeRank) × (slice_get es a ≡ Some e) × Joins own (map Done es) a (row rows a) e
entry_at rows own es a f all len h =
    let d = all a (omega arith) in (d.0, look es a d.0 d.1, f.joins a d.0 d.1)

pub solves_map : (rows : List (List ℕ)) (own : List Bits) (es : List NodeRank) → length own ≡ length rows → Finished rows own (map Done es) → AllDone (map Done es) → length (map Done es) ≡ length rows → IsSearched rows own es
unfolding owns
solves_map rows own es lens f all len =
    let size : length es ≡ length rows = sym (length-map es Done) ∙ len in
    let at : (a : ℕ) → a < length rows → (e : NodeRank) × (slice_get es a ≡ Some e) × Joins own (map Done es) a (row rows a) e = λ a h. entry_at rows own es a f all len h in
    record {
      len = size;
      falls = λ a b edge.
          let x = at a (edge_inside rows a b edge) in
          let y = x.2.falls b edge in
          let r : rank_at es a ≡ x.0.rank = ap rank_in x.1 in
          let s : rank_at es b ≡ y.0.rank = ap rank_in (look es b y.0 y.1) in
          omega (arith, y.2);
      tight = λ a.
          elim (cases_lt a (length rows)) [
            | inl l ↦
                let x = at a l in
                let r : rank_at es a ≡ x.0.rank = ap rank_in x.1 in
                elim x.2.tight [
                  | inl z ↦ inl (r ∙ z)
                  | inr y ↦ let s : rank_at es y.0 ≡ y.1.rank = ap rank_in (look es y.0 y.1 y.3) in inr (y.0, y.2, omega (arith, y.4))
                ]
            | inr m ↦ inl (ap rank_in (slice_get_past es a (omega arith)))
          ];
      holds = λ a b c edge h.
          let x = at a (edge_inside rows a b edge) in
          let y = x.2.falls b edge in
          ap (λ (o : Option NodeRank). leads_in o c) x.1 ∙ y.3 c (sym (ap (λ (o : Option NodeRank). leads_in o c) (look es b y.0 y.1)) ∙ h);
      itself = λ a c h.
          let x = at a (rw (← lens) (slice_get_within own a h.0 h.1)) in
          ap (λ (o : Option NodeRank). leads_in o c) x.1 ∙ x.2.itself c h;
      source = λ a c h.
          elim (cases_lt a (length rows)) [
            | inl l ↦
                let x = at a l in
                elim (x.2.source c (sym (ap (λ (o : Option NodeRank). leads_in o c) x.1) ∙ h)) [
                  | inl z ↦ inl z
                  | inr y ↦ inr (y.0, y.2, ap (λ (o : Option NodeRank). leads_in o c) (look es y.0 y.1 y.3) ∙ y.4)
                ]
            | inr m ↦ let bad : false ≡ true = sym (ap (λ (o : Option NodeRank). leads_in o c) (slice_get_past es a (omega arith))) ∙ h in cc
          ];
    }

pub solves : (rows : List (List ℕ)) (own : List Bits) (es : List NodeRank) (states : List VisitState) → map Done es ≡ states → length own ≡ length rows → length states ≡ length rows → Finished rows own states × AllDone states → IsSearched rows own es
solves rows own es states e lens len f =
    let g1 : Finished rows own (map Done es) = subst (λ (s : List VisitState). Finished rows own s) (sym e) f.0 in
    let g2 : AllDone (map Done es) = subst AllDone (sym e) f.1 in
    solves_map rows own es lens g1 g2 (ap length e ∙ len)

pub all_fresh : (n : ℕ) (states : List VisitState) → states ≡ replicate n New → (a : ℕ) → state_of states a ≡ New
unfolding state_of
all_fresh n states e a =
    elim (cases_lt a n) [
      | inl l ↦ rw e (get_or-replicate n a New New l)
      | inr m ↦ get_or_past states a New (rw (e, length-replicate) m)
    ]
