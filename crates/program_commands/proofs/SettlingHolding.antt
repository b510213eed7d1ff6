-- What a certificate that is made has for its text to be read: no number is too great, and no set is empty.
use Rattle.std.{proofs.Common.{◌≡◌, inl, inr, ℕ, ◌<◌, ◌≤◌, List, length, slice_get, Some, subst, arith}, specs.List.{Contains}, proofs.lemmas.Option.{slice_get_within}}
use Rattle.meta_model.specs.Loaded.{Loaded}
use Rattle.name_indexes.proofs.Zips.{zip_left}
use Rattle.token_reading.specs.Literals.{greatest}
use Rattle.effect_scan.specs.Rows.{row}
use Rattle.rank_check.{specs.Valid.{most_bound}, proofs.Elements.{place_of}}
use Rattle.settling.specs.declared.{certificate.SettlingSet.{SettlingSet}, certificate.SettlingCertificate.{SettlingCertificate}}
use Rattle.settling_make.specs.{Makes.{IsMade}, Sets.{IsNameOf, IsSetOf}}

pub record IsHeld (certificate : SettlingCertificate) : Type 0 where
  pub step : certificate.step ≤ greatest
  pub rounds : (set : SettlingSet) → Contains certificate.sets set → set.round ≤ most_bound
  pub some : (set : SettlingSet) → Contains certificate.sets set → 0 < length set.members

module _ (p : Loaded) (certificate : SettlingCertificate) (made : IsMade p certificate) where
  -- a set is one of those that are made
  set_made : (set : SettlingSet) → Contains certificate.sets set → (k : ℕ) × IsSetOf p (row made.found.sets k) made.height set
  set_made set there =
      let i = place_of certificate.sets set there in
      let at : slice_get made.sets.sets i.0 ≡ Some set = subst (λ (sets : List SettlingSet). slice_get sets i.0 ≡ Some set) made.of.sets i.1 in
      let k = made.of.parts.sets.each i.0 (slice_get_within made.sets.sets i.0 set at) in
      (k.0, made.of.parts.sets.is k.0 i.0 set k.1 at)

  pub made_held : IsHeld certificate
  made_held = record {
    step = elim made.of.step.met [
      | inl none ↦ omega (arith, none)
      | inr at ↦ let low = made.of.steps_are.low at.0 in let e = at.2 in omega (arith, low, e)
    ];
    rounds = λ set there.
        let own = set_made set there in
        let met = (own.1).round.met in
        let inside = (made.of.parts.found_are.members met.0 own.0).0 met.1 in
        let count = made.of.parts.scan_is.edges.count in
        let low = made.of.parts.low met.0 (let l = inside.0 in omega (arith, l, count)) in
        let e = met.2 in
        omega (arith, low, e);
    some = λ set there.
        let own = set_made set there in
        let met = (own.1).round.met in
        let held = place_of (row made.found.sets own.0) met.0 met.1 in
        let pair = zip_left (IsNameOf p) (row made.found.sets own.0) set.members (own.1).names held.0 met.0 held.1 in
        let inside = slice_get_within set.members held.0 pair.0 pair.1 in
        omega (arith, inside);
  }
