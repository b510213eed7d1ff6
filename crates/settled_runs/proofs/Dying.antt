-- What reads alike reads alike after deaths, so levels stay.
use Rattle.std.proofs.Common.{◌≡◌, inl, inr, ℕ, List, [], ◌∷◌, Option, Some, None, slice_get, refl, sym, ap, ◌∙◌}
use Rattle.std.specs.Option.{option_map, option_map_or}
use Rattle.std.proofs.lemmas.Option.{same_Some, none-some}
use Rattle.basic_types.specs.declared.value.Value.{Value}
use Rattle.basic_types.specs.declared.value.Value.TheVariants.{Int, Bool as Truth, Text, Ref}
use Rattle.meta_model.specs.Loaded.{Loaded}
use Rattle.object_tree.specs.declared.life.Life.{Life}
use Rattle.object_tree.specs.declared.object.Object.{Object}
use Rattle.object_tree.specs.Seen.{seen, seen_reference}
use Rattle.settling.specs.declared.certificate.SettlingCertificate.{SettlingCertificate}
use Rattle.settled_runs.specs.Levels.{Level, Climbs, inside, apart, FallsTo, AreLevels}
use Rattle.settled_runs.specs.Written.{values_of, HaveWritten}
use Rattle.settled_runs.specs.Deaths.{MayHaveDied, AreKept}

-- what a number reads as is that number
number-of : (o k : ℕ) (found : Option Object) → option_map_or (λ (x : Object). option_map (λ (l : Life). o) x.life) found (Some o) ≡ Some k → o ≡ k
number-of o k None e = same_Some o k e
number-of o k (Some x) e = by_life x.life e
  where
    by_life : (life : Option Life) → option_map (λ (l : Life). o) life ≡ Some k → o ≡ k
    by_life None f = absurd (none-some k f)
    by_life (Some l) f = same_Some o k f

module _ (old new : List Object) (dead : (o : ℕ) → seen_reference old (Some o) ≡ None → seen_reference new (Some o) ≡ None) where
  -- what a value read as reads as the value does
  pub seen-again : (v : Value) → seen new (seen old v) ≡ seen new v
  seen-again (Int n) = refl
  seen-again (Truth b) = refl
  seen-again (Text t) = refl
  seen-again (Ref None) = refl
  seen-again (Ref (Some o)) = by_read (seen_reference old (Some o)) refl
    where
      by_read : (found : Option ℕ) → seen_reference old (Some o) ≡ found → Ref (seen_reference new found) ≡ Ref (seen_reference new (Some o))
      by_read None e = ap Ref (sym (dead o e))
      by_read (Some k) e = ap (λ (n : ℕ). Ref (seen_reference new (Some n))) (sym (number-of o k (slice_get old o) e))

  pub still-alike : (a b : Value) → seen old a ≡ seen old b → seen new a ≡ seen new b
  still-alike a b same = sym (seen-again a) ∙ ap (seen new) same ∙ seen-again b

  still-reads : (v : Value) (found : Option Value) → option_map (seen old) found ≡ Some (seen old v) → option_map (seen new) found ≡ Some (seen new v)
  still-reads v None e = absurd (none-some _ e)
  still-reads v (Some w) e = ap Some (still-alike w v (same_Some _ _ e))

  module _ (p : Loaded) (cost : ℕ → ℕ) (classes : ℕ → Option ℕ) {certificate : SettlingCertificate} where
    still-climbs : (levels : List (Level certificate)) (lower upper : Level certificate) → Climbs cost old levels lower upper → Climbs cost new levels lower upper
    still-climbs levels lower upper (inside i) = inside (record {
      carried = i.carried;
      is = i.is;
      above = i.above;
      is_above = i.is_above;
      one = i.one;
      value = still-alike i.above.value i.carried.value i.value;
      set = i.set;
      stands = i.stands;
      step = i.step;
      turns = i.turns;
    })
    still-climbs levels lower upper (apart a) = apart a

    pub still-falls : (levels : List (Level certificate)) (upper : Level certificate) → FallsTo p cost old levels upper → FallsTo p cost new levels upper
    still-falls [] upper falls_to = tt
    still-falls (l ∷ levels) upper falls_to = record { climbs = still-climbs (l ∷ levels) l upper falls_to.climbs; set = falls_to.set }

    still-levels : (levels : List (Level certificate)) → AreLevels p cost classes old levels → AreLevels p cost classes new levels
    still-levels [] are = tt
    still-levels (l ∷ levels) are = (are.0, still-falls levels l are.1, still-levels levels are.2)

module _ {old new : List Object} (died : MayHaveDied old new) (p : Loaded) (cost : ℕ → ℕ) (classes : ℕ → Option ℕ) {certificate : SettlingCertificate} where
  still-written : (levels : List (Level certificate)) → HaveWritten old levels → HaveWritten new levels
  still-written [] have = tt
  still-written (l ∷ levels) have = (
    λ c q is wrote. elim (died.living q) [
      | inl over ↦ inl over
      | inr same ↦ elim (have.0 c q is wrote) [
        | inl over ↦ inl (died.dead q.object over)
        | inr has ↦ inr (ap (option_map (seen new)) same ∙ still-reads old new (died.dead) c.value (values_of old q) has)
      ]
    ],
    still-written levels have.1,
  )

  pub deaths-keep : (levels : List (Level certificate)) → AreKept p cost classes old new levels
  deaths-keep levels = record { are = still-levels old new (died.dead) p cost classes levels; written = still-written levels }
