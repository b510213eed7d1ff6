-- What deaths of objects leave of levels (docs/settling-proof.md, "A write", "Each rule keeps it").
use Rattle.std.specs.Prelude.{◌≡◌, ◌⊎◌, ℕ, List, Option, None, Some}
use Rattle.meta_model.specs.Loaded.{Loaded}
use Rattle.object_tree.specs.declared.object.Object.{Object}
use Rattle.object_tree.specs.Seen.{seen_reference}
use Rattle.binding_graph.specs.declared.place.Place.{Place}
use Rattle.settling.specs.declared.certificate.SettlingCertificate.{SettlingCertificate}
use Rattle.settled_runs.specs.Levels.{Level, AreLevels}
use Rattle.settled_runs.specs.Written.{values_of, IsOver, HaveWritten}

-- objects may have died; those that live have the values that they had
pub record MayHaveDied (old new : List Object) : Type 0 where
  pub dead : (o : ℕ) → seen_reference old (Some o) ≡ None → seen_reference new (Some o) ≡ None
  pub living : (q : Place) → IsOver new q ⊎ (values_of new q ≡ values_of old q)

-- then levels stand above one another as before, and what they wrote reads as it did, or its object has died
pub record AreKept (p : Loaded) (cost : ℕ → ℕ) (classes : ℕ → Option ℕ) (old new : List Object) {certificate : SettlingCertificate} (levels : List (Level certificate)) : Type 0 where
  pub are : AreLevels p cost classes old levels → AreLevels p cost classes new levels
  pub written : HaveWritten old levels → HaveWritten new levels

abbrev pub DeathsKeep : Type 0
DeathsKeep =
    (p : Loaded) (certificate : SettlingCertificate) (cost : ℕ → ℕ) (classes : ℕ → Option ℕ) (old new : List Object) (levels : List (Level certificate)) →
    MayHaveDied old new → AreKept p cost classes old new levels
