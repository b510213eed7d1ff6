-- Why ranks are the lengths of the longest chains, and classes those that nodes lead to.
use Rattle.std.proofs.Common.{◌≡◌, ℕ, zero, suc, ◌+◌, ◌*◌, ◌/◌, ◌%◌, ◌≤◌, ◌<◌, ◌↔◌, Bool, true, inl, inr, List, [], ◌∷◌, length, refl, sym, ap, ◌∙◌, subst, arith}
use Rattle.std.proofs.Math.Nat.{div-add-mod}
use Rattle.std.proofs.lemmas.Bool.{cases_lt, false≢true}
use Rattle.effect_scan.specs.Rows.{Edge}
use Rattle.rank_graph.specs.declared.bits.TheConstants.{SIZE}
use Rattle.rank_graph.specs.declared.bits.Bits.{Bits}
use Rattle.rank_graph.specs.declared.path.NodeRank.{NodeRank}
use Rattle.rank_graph.specs.declared.solution.Solution.{Solution}
use Rattle.rank_graph.specs.Walks.{LeadsBy}
use Rattle.rank_graph.specs.Entries.{owns, rank_at, leads_at, IsSearched}
use Rattle.rank_graph.specs.Groups.{IsGroup}
use Rattle.rank_graph.specs.Solutions.{AreRanks, LeadsTo, AreClasses, entries_of, rank_of, leads_of}

-- what falls along edges falls along a walk
pub walk_low : (rows : List (List ℕ)) (rank : ℕ → ℕ) → ((a b : ℕ) → Edge rows a b → rank b < rank a) → (a : ℕ) (along : List ℕ) (to : ℕ) → LeadsBy (Edge rows) a along to → length along ≤ rank a
walk_low rows rank falls a [] to l = omega arith
walk_low rows rank falls a (w ∷ along) to l = let h = walk_low rows rank falls w along to l.1 in omega (arith, falls a w l.0)

pub chain_of : (rows : List (List ℕ)) (own : List Bits) (es : List NodeRank) (n a : ℕ) → IsSearched rows own es → rank_at es a ≡ n → (along : List ℕ) × (to : ℕ) × LeadsBy (Edge rows) a along to × (length along ≡ n)
chain_of rows own es zero a s e = ([], a, refl, refl)
chain_of rows own es (suc n) a s e =
    elim (s.tight a) [
      | inl z ↦ absurd (omega arith)
      | inr x ↦ let r = chain_of rows own es n x.0 s (omega (arith, x.2)) in (x.0 ∷ r.0, r.1, (x.1, r.2), ap (λ (k : ℕ). suc k) r.3)
    ]

-- a class comes from a node that has it
pub reaches : (rows : List (List ℕ)) (own : List Bits) (es : List NodeRank) (n a c : ℕ) → IsSearched rows own es → rank_at es a ≤ n → leads_at es a c ≡ true → (b : ℕ) × (along : List ℕ) × LeadsBy (Edge rows) a along b × owns own b c
reaches rows own es zero a c s low h =
    elim (s.source a c h) [
      | inl itself ↦ (a, [], refl, itself)
      | inr x ↦ absurd (omega (arith, s.falls a x.0 x.1))
    ]
reaches rows own es (suc n) a c s low h =
    elim (s.source a c h) [
      | inl itself ↦ (a, [], refl, itself)
      | inr x ↦ let m : rank_at es x.0 ≤ n = omega (arith, s.falls a x.0 x.1) in let r = reaches rows own es n x.0 c s m x.2 in (r.0, x.0 ∷ r.1, (x.1, r.2), r.3)
    ]

-- edges carry a class back to where they begin
pub carried : (rows : List (List ℕ)) (leads : ℕ → Bool) → ((a b : ℕ) → Edge rows a b → leads b ≡ true → leads a ≡ true) → (a : ℕ) (along : List ℕ) (b : ℕ) → LeadsBy (Edge rows) a along b → leads b ≡ true → leads a ≡ true
carried rows leads holds a [] b l h = subst (λ (x : ℕ). leads x ≡ true) (sym l) h
carried rows leads holds a (w ∷ along) b l h = holds a w l.0 (carried rows leads holds w along b l.1 h)

pub ranks_found : (rows own : List (List ℕ)) (s : Solution) → IsGroup rows own 0 (entries_of s 0) → AreRanks rows (rank_of s)
unfolding rank_of
ranks_found rows own s g = record {
  chains = λ a. chain_of rows g.bits (entries_of s 0) (rank_at (entries_of s 0) a) a g.searched refl;
  longest = λ a along to l. walk_low rows (rank_at (entries_of s 0)) g.searched.falls a along to l;
}

-- a class and its group and place there
pub place_low : (c : ℕ) → c % SIZE < SIZE
place_low c = omega arith

pub place_back : (c : ℕ) → SIZE * (c / SIZE) + c % SIZE ≡ c
place_back c = div-add-mod c SIZE

pub found_there : (rows own : List (List ℕ)) (es : List NodeRank) (a c : ℕ) → IsGroup rows own (c / SIZE) es → (leads_at es a (c % SIZE) ≡ true) ↔ LeadsTo rows own a c
found_there rows own es a c g = (
  λ h.
      let r = reaches rows g.bits es (rank_at es a) a (c % SIZE) g.searched (omega arith) h in
      record {
        along = r.1;
        to = r.0;
        leads = r.2;
        has = subst (λ (x : ℕ). Edge own r.0 x) (place_back c) ((g.are.members r.0 (c % SIZE) (place_low c)).0 r.3);
      },
  λ l.
      carried rows (λ (x : ℕ). leads_at es x (c % SIZE)) (λ x y edge. g.searched.holds x y (c % SIZE) edge) a l.along l.to l.leads
      (g.searched.itself l.to (c % SIZE) ((g.are.members l.to (c % SIZE) (place_low c)).1 (subst (λ (x : ℕ). Edge own l.to x) (sym (place_back c)) l.has))),
)

pub nothing_past : (rows own : List (List ℕ)) (classes a c : ℕ) (es : List NodeRank) → ((a c : ℕ) → Edge own a c → c < classes) → classes / SIZE + 1 ≤ c / SIZE → es ≡ [] → (leads_at es a (c % SIZE) ≡ true) ↔ LeadsTo rows own a c
nothing_past rows own classes a c es small past e = (
  λ h. absurd (false≢true (sym (ap (λ (l : List NodeRank). leads_at l a (c % SIZE)) e) ∙ h)),
  λ l. let low : c < classes = small l.to c l.has in absurd (omega arith),
)

pub classes_found : (rows own : List (List ℕ)) (s : Solution) (classes : ℕ) → ((a c : ℕ) → Edge own a c → c < classes) → ((k : ℕ) → k < classes / SIZE + 1 → IsGroup rows own k (entries_of s k)) → ((k : ℕ) → classes / SIZE + 1 ≤ k → entries_of s k ≡ []) → AreClasses rows own (leads_of s)
unfolding leads_of
classes_found rows own s classes small groups past = λ a c.
    elim (cases_lt (c / SIZE) (classes / SIZE + 1)) [
      | inl l ↦ found_there rows own (entries_of s (c / SIZE)) a c (groups (c / SIZE) l)
      | inr m ↦ nothing_past rows own classes a c (entries_of s (c / SIZE)) small m (past (c / SIZE) m)
    ]
