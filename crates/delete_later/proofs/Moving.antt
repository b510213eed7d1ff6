-- Objects that move to another loop with all that is below one of them: what agrees goes on to, and the order in which they
-- were found is of no account.
use Rattle.std.{proofs.Common.{◌≡◌, ◌≢◌, ℕ, zero, suc, ◌<◌, arith, is_some, eqb, Bool, true, false, not, ◌||◌, ◌&&◌, cond, List, [], ◌∷◌, All, length, get_or, Option, None, Some, refl, ap, sym, ◌∙◌, ⊎_elim, inl, inr, ◌≤◌, ◌↔◌, IsTrue, subst, Result, Ok, Err}, specs.Result.{IsErrAnd}, specs.Prelude.{IfErr}, specs.List.{list_any}, specs.Option.{option_map}, proofs.Math.Path.{fun_ext}, proofs.lemmas.Bool.{cases_Bool, cases_eq, cases_lt, eq-eqb, eqb-true, false≢true}, proofs.lemmas.List.Folds.{list_any_at}, proofs.lemmas.Option.{same_Some}}
use Rattle.meta_model.specs.{Loaded.{Loaded}, Among.{is_among}}
use Rattle.object_tree.{specs.declared.life.Life.{Life}, specs.declared.object.Object.{Object}, specs.Family.{parent_of}, specs.Moving.{AreBelow, all_in_loop, in_loop}, specs.Objects.{life_of, home_of}, proofs.Moving.{same_tests, home-in_loop, in_loop-alike, life-in_loop, typed-in_loop}}
use Rattle.event_loops.{specs.declared.fault.PostFault.{PostFault}, specs.Queues.{Loop, Queues, name_at, rehomed}, specs.code.Rings.{gathered}, proofs.Names.{none_where}, proofs.Rehoming.{gathered-rehomed}}
use Rattle.event_loops.specs.declared.fault.PostFault.TheVariants as post
use Rattle.binding_graph.specs.{declared.binding.Binding.{Binding}, Bindings.{joined_by, leads_out, lead_out}}
use Rattle.prop_bindings.{specs.Fits.{IsInOneLoop, Agree}, proofs.Leaving.{LivesOn, agree-still}}
use Rattle.delete_later.specs.{declared.store.Store.{Store}, declared.fault.MoveFault.{MoveFault}, FaultNumbers.{fault_of}, Moving.{moved_to, IsMoved, IsNotMoved, no_loop, bound, no_memory, MovesOrNot, DontFollow, bound_out, no_such_loop, memory}}
use Rattle.delete_later.specs.declared.fault.MoveFault.TheVariants as fault

-- ---- bindings that lead to no other object

with-target : (t x y : Bool) → t ≡ true → y ≡ true → ((t || x) && (not t || y)) ≡ true
with-target t x y e f = ap (λ (b : Bool). (b || x) && (not b || y)) e ∙ f

without-target : (t x y : Bool) → t ≡ false → x ≡ true → ((t || x) && (not t || y)) ≡ true
without-target t x y e f = ap (λ (b : Bool). (b || x) && (not b || y)) e ∙ ap (λ (b : Bool). b && true) f

module _ (os : List ℕ) where
  abbrev within_os : ℕ → Bool
  within_os o = is_among o os

  -- its sources are among them where its target is
  source-alike : (b : Binding) → leads_out os b ≡ false → (k d : ℕ) → k < length b.sources → is_among (get_or b.sources k d) os ≡ is_among b.target.object os
  source-alike b none k d below = by_tests (is_among (get_or b.sources k d) os) refl (is_among b.target.object os) refl
    where
      inside : Bool
      inside = list_any within_os b.sources

      outside : Bool
      outside = list_any (λ o. not (within_os o)) b.sources

      by_tests : (s : Bool) → is_among (get_or b.sources k d) os ≡ s → (t : Bool) → is_among b.target.object os ≡ t → is_among (get_or b.sources k d) os ≡ is_among b.target.object os
      by_tests true e true f = e ∙ sym f
      by_tests true e false f =
          let hit : leads_out os b ≡ true = without-target (is_among b.target.object os) inside outside f (list_any_at within_os b.sources k d below e) in
          absurd (false≢true (sym none ∙ hit))
      by_tests false e true f =
          let hit : leads_out os b ≡ true = with-target (is_among b.target.object os) inside outside f (list_any_at (λ o. not (within_os o)) b.sources k d below (ap not e)) in
          absurd (false≢true (sym none ∙ hit))
      by_tests false e false f = e ∙ sym f

  none-leads : (bs : List Binding) → lead_out os bs ≡ false → All (λ (b : Binding). leads_out os b ≡ false) bs
  none-leads bs none k d below = elim (cases_Bool (leads_out os (get_or bs k d))) [
    | inl hit ↦ absurd (false≢true (sym none ∙ list_any_at (leads_out os) bs k d below hit))
    | inr away ↦ away
  ]

  module _ (home : ℕ) (objects : List Object) where
    one_loop-still : (b : Binding) → leads_out os b ≡ false → IsInOneLoop objects b → IsInOneLoop (all_in_loop os home objects) b
    one_loop-still b none h k d below =
        let o : ℕ = get_or b.sources k d in
        home-in_loop home os o objects
        ∙ ap (λ (t : Bool). cond t (option_map (λ (g : ℕ). home) (home_of objects o)) (home_of objects o)) (source-alike b none k d below)
        ∙ ap (λ (g : Option ℕ). cond (is_among b.target.object os) (option_map (λ (j : ℕ). home) g) g) (h k d below)
        ∙ sym (home-in_loop home os b.target.object objects)

    lives-still : (o : ℕ) → LivesOn objects (all_in_loop os home objects) o
    lives-still o l is = by_test (is_among o os) refl
      where
        by_test : (t : Bool) → is_among o os ≡ t → (m : Life) × (life_of (all_in_loop os home objects) o ≡ Some m) × (m.class ≡ l.class) × (m.values ≡ l.values)
        by_test true e =
            (in_loop home l, life-in_loop home os o objects ∙ ap (λ (t : Bool). cond t (option_map (in_loop home) (life_of objects o)) (life_of objects o)) e ∙ ap (option_map (in_loop home)) is, refl, refl)
        by_test false e =
            (l, life-in_loop home os o objects ∙ ap (λ (t : Bool). cond t (option_map (in_loop home) (life_of objects o)) (life_of objects o)) e ∙ is, refl, refl)

    pub agree-moved : (p : Loaded) (bs : List Binding) → lead_out os bs ≡ false → Agree p objects bs → Agree p (all_in_loop os home objects) bs
    agree-moved p bs none a =
        agree-still p objects (all_in_loop os home objects) bs (typed-in_loop home p os objects a.typed)
        (λ k d below o touched. lives-still o)
        (λ k d below. one_loop-still (get_or bs k d) (none-leads bs none k d below) (a.one_loop k d below))
        a

-- ---- the order of the objects

turned-eqb : (a b : ℕ) → eqb a b ≡ eqb b a
turned-eqb a b = same_tests (eqb a b) (eqb b a) (λ e. eq-eqb b a (sym (eqb-true a b e))) (λ e. eq-eqb a b (sym (eqb-true b a e)))

any-among : (o : ℕ) (os : List ℕ) → list_any (λ k. eqb o k) os ≡ is_among o os
any-among o [] = refl
any-among o (k ∷ os) = ap (λ (b : Bool). b || list_any (λ j. eqb o j) os) (turned-eqb o k) ∙ ap (λ (b : Bool). eqb k o || b) (any-among o os)

module _ (os ps : List ℕ) (same : (k : ℕ) → is_among k os ≡ is_among k ps) where
  tests : ◌≡◌ {A = ℕ → Bool} (λ k. is_among k os) (λ k. is_among k ps)
  tests = fun_ext same

  pub lead_out-alike : (bs : List Binding) → lead_out os bs ≡ lead_out ps bs
  lead_out-alike bs = ap (λ (g : ℕ → Bool). list_any (λ (b : Binding). list_any g (joined_by b) && list_any (λ o. not (g o)) (joined_by b)) bs) tests

  rehomed-alike : (home : ℕ) (s : Queues) → (rehomed os home s).loops ≡ (rehomed ps home s).loops
  rehomed-alike home s =
      sym (gathered-rehomed os (λ k. is_among k os) (λ o. sym (any-among o os)) home s)
      ∙ ap (λ (g : ℕ → Bool). gathered g home s.loops) tests
      ∙ gathered-rehomed ps (λ k. is_among k ps) (λ o. sym (any-among o ps)) home s

  pub moved-alike : (home : ℕ) (s : Store) → moved_to os home s ≡ moved_to ps home s
  moved-alike home s =
      ap (λ (objects : List Object). record s { tree = objects; loops = rehomed os home s.loops }) (in_loop-alike home os ps s.tree same)
      ∙ ap (λ loops. record s { tree = all_in_loop ps home s.tree; loops = record (s.loops) { loops = loops } }) (rehomed-alike home s.loops)

-- all that is below an object, however it was found
pub below-alike : (objects : List Object) (o : ℕ) (os ps : List ℕ) → AreBelow objects o os → AreBelow objects o ps → (k : ℕ) → is_among k os ≡ is_among k ps
below-alike objects o os ps x y k =
    same_tests (is_among k os) (is_among k ps) (λ e. (y.all k).1 ((x.all k).0 e)) (λ e. (x.all k).1 ((y.all k).0 e))

-- ---- a move has one outcome
pub moved-once : (object home : ℕ) (s t u : Store) → IsMoved object home s t → IsMoved object home s u → t ≡ u
moved-once object home s t u x y = by_home (home_of s.tree object) refl
  where
    elsewhere : home_of s.tree object ≢ Some home → t ≡ u
    elsewhere away =
        let m = x.other away in
        let n = y.other away in
        m.moved ∙ moved-alike m.objects n.objects (below-alike s.tree object m.objects n.objects m.below n.below) home s ∙ sym n.moved

    by_home : (there : Option ℕ) → home_of s.tree object ≡ there → t ≡ u
    by_home None at = elsewhere (λ here. absurd (cc (sym at ∙ here)))
    by_home (Some h) at = elim (cases_eq h home) [
      | inl e ↦ x.same (at ∙ ap Some e) ∙ sym (y.same (at ∙ ap Some e))
      | inr n ↦ elsewhere (λ here. n (same_Some h home (sym at ∙ here)))
    ]

-- ---- loops that are there
pub named-within : (loops : List Loop) (home : ℕ) → is_some (name_at loops home) ≡ true → home < length loops
named-within [] home named = absurd (cc named)
named-within (l ∷ loops) zero named = omega arith
named-within (l ∷ loops) (suc home) named = let less : home < length loops = named-within loops home named in omega (arith, less)

pub within-named : (loops : List Loop) (home : ℕ) → home < length loops → is_some (name_at loops home) ≡ true
within-named [] home within = absurd (omega (arith, within))
within-named (l ∷ loops) zero within = refl
within-named (l ∷ loops) (suc home) within = let less : home < length loops = omega (arith, within) in within-named loops home less

module _ (s : Store) (object home : ℕ) (r : Bool) where
  pub not-there : (IsTrue r ↔ (home < length s.loops.loops)) → r ≡ false → length s.loops.loops ≤ home
  not-there told e = ⊎_elim
      (λ (below : home < length s.loops.loops). absurd (false≢true (sym e ∙ told.1 below)))
      (λ (h : length s.loops.loops ≤ home). h)
      (cases_lt home (length s.loops.loops))

  pub not-at-home : (from : ℕ) → home_of s.tree object ≡ Some from → r ≡ eqb from home → r ≡ false → home_of s.tree object ≢ Some home
  not-at-home from at told e here = false≢true (sym e ∙ told ∙ eq-eqb from home (same_Some from home (sym at ∙ here)))

  pub has-none : r ≡ is_some (parent_of s.tree object) → r ≡ false → parent_of s.tree object ≡ None
  has-none told e = none_where (parent_of s.tree object) (sym e ∙ told)

-- ---- errors of the calls that a move makes
module _ (s : Store) (object home : ℕ) where
  pub moves-short : (t : Store) (r : Result (Unit {0}) MoveFault) → t ≡ s → IsErrAnd r (λ f. f ≡ fault.Memory) → MovesOrNot object home s r t
  moves-short t (Ok done) same e = absurd e
  moves-short t (Err f) same e = (subst (λ (g : MoveFault). IsNotMoved object home s g) (sym e) no_memory, same)

  -- what doesn't follow its objects keeps them where they are
  pub not-followed : (there : home < length s.loops.loops) (root : parent_of s.tree object ≡ None) (away : home_of s.tree object ≢ Some home) (os : List ℕ) → AreBelow s.tree object os → {f : MoveFault} → DontFollow os home s.bindings s.loops f → IsNotMoved object home s f
  not-followed there root away os below (bound_out out) = bound there root away (record { objects = os; below = below; out = out })
  not-followed there root away os below (no_such_loop beyond) = no_loop beyond
  not-followed there root away os below memory = no_memory

-- why what waits for objects doesn't follow them to a loop
module _ (os : List ℕ) (home : ℕ) (bindings : List Binding) (loops : Queues) where
  why : (f : PostFault) → (f ≡ post.NoLoop → length loops.loops ≤ home) → DontFollow os home bindings loops (fault_of f)
  why post.NoLoop beyond = no_such_loop (beyond refl)
  why post.Memory beyond = memory

  pub follow-refused : (f : PostFault) (r : Result (Unit {0}) MoveFault) → (f ≡ post.NoLoop → length loops.loops ≤ home) → IsErrAnd r (λ g. g ≡ fault_of f) → IfErr r (DontFollow os home bindings loops)
  follow-refused f (Ok done) beyond e = absurd e
  follow-refused f (Err g) beyond e = subst (λ (h : MoveFault). DontFollow os home bindings loops h) (sym e) (why f beyond)
