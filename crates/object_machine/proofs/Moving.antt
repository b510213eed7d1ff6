-- Objects that move to another event loop, with what waits for them.
use Rattle.std.{proofs.Common.{◌≡◌, ◌≢◌, ◌⊎◌, ℕ, zero, suc, ◌<◌, Bool, true, false, not, cond, List, [], ◌∷◌, ◌++◌, map, filter, length, Option, None, Some, slice_get, refl, sym, ap, ◌∙◌, subst, inl, inr, arith}, specs.List.{AllByRecursion}, specs.Option.{option_map}, proofs.lemmas.Bool.{cases_eq}, proofs.lemmas.List.{length-map}, proofs.lemmas.Option.{same_Some}}
use Rattle.meta_model.specs.{Loaded.{Loaded}, Among.{is_among}}
use Rattle.object_tree.{specs.declared.object.Object.{Object}, specs.Moving.{in_loop, all_in_loop}, specs.Objects.{change_life, home_of}, proofs.Moving.{home-in_loop}, proofs.TypedObjects.{shape_in, shape-change}}
use Rattle.event_loops.specs.{declared.item.Posted.{Posted}, Queues.{Loop, Queues, items_at, change, with_items, is_for_any, all_items, items_elsewhere, without_objects, rehomed}}
use Rattle.binding_graph.specs.Bindings.{lead_out}
use Rattle.prop_bindings.specs.Fits.{Agree}
use Rattle.delete_later.{specs.declared.store.Store.{Store}, specs.Moving.{moved_to, IsMoved}, proofs.Moving.{agree-moved}}
use Rattle.machine_rules.{specs.code.Sound.{AreHoused, Waits, AllWait}, proofs.Lists.{all-append, all-filtered}, proofs.Waiting.{items-wait}}
use Rattle.machine_rules.proofs.Waiting as waiting

-- ---- objects

module _ (home : ℕ) where
  pub shape-in_loop : (os : List ℕ) (objects : List Object) (k : ℕ) → shape_in (slice_get (all_in_loop os home objects) k) ≡ shape_in (slice_get objects k)
  shape-in_loop [] objects k = refl
  shape-in_loop (o ∷ os) objects k = shape-in_loop os (change_life o (in_loop home) objects) k ∙ shape-change o (in_loop home) objects (λ l. refl) k

  -- they live in loops that are there
  pub housed-in_loop : (os : List ℕ) (objects : List Object) (loops more : List Loop) → length more ≡ length loops → home < length loops → AreHoused objects loops → AreHoused (all_in_loop os home objects) more
  housed-in_loop os objects loops more long there housed = record {
    has_main = omega (arith, housed.has_main, long);
    each = λ o h is. by_test o h (is_among o os) (sym (home-in_loop home os o objects) ∙ is);
  }
    where
      by_life : (h : ℕ) (was : Option ℕ) → option_map (λ (g : ℕ). home) was ≡ Some h → h < length more
      by_life h None e = absurd (cc e)
      by_life h (Some g) e = let same : home ≡ h = same_Some _ _ e in omega (arith, same, there, long)

      by_test : (o h : ℕ) (b : Bool) → cond b (option_map (λ (g : ℕ). home) (home_of objects o)) (home_of objects o) ≡ Some h → h < length more
      by_test o h true e = by_life h (home_of objects o) e
      by_test o h false e = let lived = housed.each o h e in omega (arith, lived, long)

-- ---- items

-- a loop gets other items that may wait
all-given : (p : Loaded) (objects : List Object) (items : List Posted) → AllByRecursion (λ (q : Posted). Waits p objects q.item) items → (home : ℕ) (loops : List Loop) → AllWait p objects loops → AllWait p objects (change home (with_items (λ _. items)) loops)
all-given p objects items given home [] all = tt
all-given p objects items given zero (l ∷ loops) all = (given, all.1)
all-given p objects items given (suc home) (l ∷ loops) all = (all.0, all-given p objects items given home loops all.1)

all-left : (p : Loaded) (objects : List Object) (os : List ℕ) (loops : List Loop) → AllWait p objects loops → AllWait p objects (map (without_objects os) loops)
all-left p objects os [] all = tt
all-left p objects os (l ∷ loops) all = (all-filtered (λ (q : Posted). Waits p objects q.item) (λ q. not (is_for_any os q)) l.items all.0, all-left p objects os loops all.1)

all-of-all : (p : Loaded) (objects : List Object) (loops : List Loop) → AllWait p objects loops → AllByRecursion (λ (q : Posted). Waits p objects q.item) (all_items loops)
all-of-all p objects [] all = tt
all-of-all p objects (l ∷ loops) all = all-append (λ (q : Posted). Waits p objects q.item) l.items (all_items loops) all.0 (all-of-all p objects loops all.1)

pub all-rehomed : (p : Loaded) (objects : List Object) (os : List ℕ) (home : ℕ) (q : Queues) → AllWait p objects q.loops → AllWait p objects (rehomed os home q).loops
all-rehomed p objects os home q all =
    let Fits : Posted → Type 0 = λ r. Waits p objects r.item in
    let elsewhere = all-of-all p objects (change home (with_items (λ items. [])) q.loops) (all-given p objects [] tt home q.loops all) in
    all-given p objects (items_at q.loops home ++ filter (is_for_any os) (items_elsewhere home q.loops))
    (all-append Fits (items_at q.loops home) (filter (is_for_any os) (items_elsewhere home q.loops)) (items-wait p objects q.loops home all)
    (all-filtered Fits (is_for_any os) (items_elsewhere home q.loops) elsewhere))
    home (map (without_objects os) q.loops) (all-left p objects os q.loops all)

pub length-rehomed : (os : List ℕ) (home : ℕ) (q : Queues) → length (rehomed os home q).loops ≡ length q.loops
length-rehomed os home q = waiting.length-change home _ (map (without_objects os) q.loops) ∙ length-map q.loops (without_objects os)

-- ---- moves

-- an object lives in this loop, or it doesn't
at-home : (there : Option ℕ) (home : ℕ) → (there ≡ Some home) ⊎ (there ≢ Some home)
at-home None home = inr (λ e. cc e)
at-home (Some h) home = elim (cases_eq h home) [ inl same ↦ inl (ap Some same) | inr other ↦ inr (λ e. other (same_Some _ _ e)) ]

-- the objects moved, or nothing changed
pub moved-by : {o home : ℕ} {old new : Store} (P : Store → Type 0) → P old → ((os : List ℕ) → lead_out os old.bindings ≡ false → P (moved_to os home old)) → IsMoved o home old new → P new
moved-by {o} {home} {old} P before after is =
    elim (at-home (home_of old.tree o) home) [
      | inl same ↦ subst P (sym (is.same same)) before
      | inr other ↦ let moves = is.other other in subst P (sym moves.moved) (after moves.objects moves.alone)
    ]

pub stores-agree : {p : Loaded} {o home : ℕ} {old new : Store} → IsMoved o home old new → Agree p old.tree old.bindings → Agree p new.tree new.bindings
stores-agree {p} {o} {home} {old} is agree =
    moved-by (λ (stores : Store). Agree p stores.tree stores.bindings) agree (λ os alone. agree-moved os home old.tree p old.bindings alone agree) is
