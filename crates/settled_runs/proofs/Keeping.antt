-- What levels wrote stays as it is, whatever is written above them (docs/settling-proof.md, "Each rule keeps it").
use Rattle.std.{proofs.Common.{◌≡◌, ◌≢◌, inl, inr, ℕ, zero, suc, ◌+◌, ◌<◌, ◌≤◌, List, [], ◌∷◌, Option, Some, None, slice_get, refl, sym, ap, ◌∙◌, subst, arith}, specs.Option.{option_map}, proofs.lemmas.Bool.{cases_lt}, proofs.lemmas.Option.{same_Some, none-some}}
use Rattle.basic_types.specs.declared.value.Value.{Value}
use Rattle.meta_model.specs.{Loaded.{Loaded}, Sound.{IsSound}}
use Rattle.object_tree.specs.{declared.object.Object.{Object}, Seen.{seen}}
use Rattle.effect_scan.specs.{declared.node.Node.{Node}, Edges.{by_site}}
use Rattle.binding_graph.specs.{declared.binding.Binding.{Binding}, declared.place.Place.{Place}, Places.{In}}
use Rattle.rank_check.proofs.Elements.{element_at}
use Rattle.settling.specs.{declared.certificate.SettlingLine.{SettlingLine}, declared.certificate.SettlingSet.{SettlingSet}, declared.certificate.SettlingCertificate.{SettlingCertificate}, Sets.{IsMember, IsIn}, Valid.{IsLineOf, IsValid}}
use Rattle.settled_runs.{specs.Levels.{Carried, Level, AreCosts, Leaves, IsPlaceIn, AreLevels}, specs.Writes.{IsLineAt, AreWritten, IsNoHigher}, specs.Written.{values_of, reads, IsOver, HasWritten, HaveWritten, AreOnlyWritten}, proofs.Edges.{one-node}, proofs.OneValue.{carry-one, some-cost, under, well-at, left-low}, proofs.Unwritten.{high-stays, stays-high}}

written-at : (objects : List Object) {certificate : SettlingCertificate} (levels : List (Level certificate)) → HaveWritten objects levels → (j : ℕ) (l : Level certificate) → slice_get levels j ≡ Some l → HasWritten objects l
written-at objects [] have j l at = absurd (none-some l at)
written-at objects {certificate} (x ∷ levels) have zero l at = subst (λ (y : Level certificate). HasWritten objects y) (same_Some x l at) have.0
written-at objects (x ∷ levels) have (suc j) l at = written-at objects levels have.1 j l at

-- what keeps its value has it
keeps-written : (old new : List Object) {certificate : SettlingCertificate} (levels : List (Level certificate)) → AreOnlyWritten old new
    → ((j : ℕ) (l : Level certificate) (c : Carried) (q : Place) → slice_get levels j ≡ Some l → l.within ≡ Some c → l.wrote ≡ Some q → values_of new q ≡ values_of old q)
    → HaveWritten old levels → HaveWritten new levels
keeps-written old new [] only kept have = tt
keeps-written old new (l ∷ levels) only kept have = (
  λ c q is wrote. elim (have.0 c q is wrote) [
    | inl over ↦ inl (only.over_alike q over)
    | inr has ↦ inr (ap (option_map (seen new)) (kept 0 l c q refl is wrote) ∙ alike (values_of old q) ∙ has ∙ ap Some (sym (only.seen_alike c.value)))
  ],
  keeps-written old new levels only (λ j m c q at is wrote. kept (suc j) m c q at is wrote) have.1,
)
  where
    alike : (found : Option Value) → option_map (seen new) found ≡ option_map (seen old) found
    alike None = refl
    alike (Some v) = ap Some (only.seen_alike v)

module _ (p : Loaded) {certificate : SettlingCertificate} (cost : ℕ → ℕ) (classes : ℕ → Option ℕ) (objects : List Object) (costs : AreCosts p certificate cost)
    (top : Level certificate) (levels : List (Level certificate)) (are : AreLevels p cost classes objects (top ∷ levels)) where
  -- a place that lives and reads otherwise was written by no level of the set
  pub written-once : HaveWritten objects (top ∷ levels) → (carried : Carried) (place : Place) → top.within ≡ Some carried → (¬ IsOver objects place) → reads objects place ≢ Some (seen objects carried.value)
      → (j : ℕ) (level : Level certificate) (own : Carried) → slice_get (top ∷ levels) j ≡ Some level → level.within ≡ Some own → own.set ≡ carried.set → level.wrote ≢ Some place
  written-once have carried place is lives other j level own at within same wrote =
      elim (written-at objects (top ∷ levels) have j level at own place within wrote) [
        | inl over ↦ lives over
        | inr has ↦ other (has ∙ ap Some (carry-one p cost classes objects costs (top ∷ levels) are j 0 level top own carried at refl within is same))
      ]

  -- ---- a place of a set is at a line of its step

  module _ (valid : IsValid p certificate) where
    record IsPlacedAt (l : Level certificate) (x : Node) : Type 0 where
      line : SettlingLine
      is : IsLineOf p certificate x line
      step : line.step ≡ l.line.step

    place-line : (j : ℕ) (l : Level certificate) (c : Carried) (q : Place) → slice_get (top ∷ levels) j ≡ Some l → l.within ≡ Some c → (place : IsPlaceIn p certificate classes c.set q) → IsPlacedAt l place.node
    place-line j l c q at is place =
        let of = well-at p cost classes objects costs (top ∷ levels) are j l at c is in
        let found = valid.each_node place.node place.is.member.named.node in
        let round = (costs c.set of.member.set of.member.stands).0 in
        let same : place.is.set ≡ of.member.set = same_Some _ _ (sym place.is.stands ∙ of.member.stands) in
        let member = subst (λ (s : SettlingSet). IsMember p s place.node) same place.is.member in
        record { line = found.0; is = found.1; step = round.one_step place.node of.node found.0 of.line member of.member.member found.1 of.is ∙ sym of.step }

    -- steps don't fall downwards, and are above what leaves the set of the highest level
    not-below : (j : ℕ) (l : Level certificate) → slice_get (top ∷ levels) j ≡ Some l → top.line.step ≤ l.line.step
    not-below j l at = (under p cost classes objects costs top levels are j l at).step

    above-left : (line : SettlingLine) → Leaves cost top.within top.line line → (j : ℕ) (l : Level certificate) (c : Carried) → slice_get (top ∷ levels) j ≡ Some l → l.within ≡ Some c → line.step < l.line.step
    above-left line leaves j l c at is = elim (cases_lt line.step l.line.step) [
      | inl low ↦ low
      | inr high ↦
          let down = not-below j l at in
          let left = left-low p cost classes objects costs top.within top.line line leaves in
          let found = (under p cost classes objects costs top levels are j l at).one c is (omega (arith, down, left, high)) in
          let some = some-cost p cost classes objects costs found.0.set (are.0 found.0 found.1) in
          let fall : line.step + cost found.0.set ≤ top.line.step = subst (λ (w : Option Carried). Leaves cost w top.line line) found.1 leaves in
          absurd (omega (arith, some, fall, down, high))
    ]

module _ {p : Loaded} {certificate : SettlingCertificate} (sound : IsSound p) (valid : IsValid p certificate) (cost : ℕ → ℕ) (costs : AreCosts p certificate cost) (classes : ℕ → Option ℕ)
    {before after : Place → Option Binding} (old new : List Object) (only : AreOnlyWritten old new)
    (top : Level certificate) (levels : List (Level certificate)) (are : AreLevels p cost classes old (top ∷ levels)) (have : HaveWritten old (top ∷ levels)) where
  -- places of the sets below keep their values, where what is written leaves the highest set
  pub left-stays : {written : List Place} → AreWritten p classes before after (values_of old) (values_of new) written → (line : SettlingLine)
      → ((w : Place) (other : SettlingLine) → In w written → IsLineAt p certificate classes w other → IsNoHigher p line other) → Leaves cost top.within top.line line
      → (j : ℕ) (l : Level certificate) (c : Carried) (q : Place) → slice_get (top ∷ levels) j ≡ Some l → l.within ≡ Some c → IsPlaceIn p certificate classes c.set q → values_of new q ≡ values_of old q
  left-stays {written} changed line low leaves j l c q at is place =
      let own = place-line p cost classes old costs top levels are valid j l c q at is place in
      let above = above-left p cost classes old costs top levels are valid line leaves j l c at is in
      high-stays sound valid changed (λ (z : SettlingLine). line.step < z.step)
      (λ x y a b site from to more. let steps = valid.edges.steps x y a b (by_site site) from to in omega (arith, steps, more))
      (λ w other here at_line more. let most = (low w other here at_line).step in omega (arith, most, more)) q own.line
      (record { node = place.node; at = place.at; is = own.is }) (omega (arith, above, own.step))

  -- .. and all but the one that is written, where it is of that set
  pub others-stay : {written : Place} → AreWritten p classes before after (values_of old) (values_of new) (written ∷ []) → (carried : Carried) → top.within ≡ Some carried → IsPlaceIn p certificate classes carried.set written
      → (j : ℕ) (l : Level certificate) (c : Carried) (q : Place) → slice_get (top ∷ levels) j ≡ Some l → l.within ≡ Some c → IsPlaceIn p certificate classes c.set q → q ≢ written → values_of new q ≡ values_of old q
  others-stay {written} changed carried is place j l c q at within there differs =
      let own = place-line p cost classes old costs top levels are valid j l c q at within there in
      let down = not-below p cost classes old costs top levels are valid j l at in
      let here = are.0 carried is in
      let round = costs carried.set place.is.set place.is.stands in
      let found = valid.each_node place.node place.is.member.named.node in
      let same : here.member.set ≡ place.is.set = same_Some _ _ (sym here.member.stands ∙ place.is.stands) in
      let member = subst (λ (s : SettlingSet). IsMember p s here.node) same here.member.member in
      let step = round.0.one_step place.node here.node found.0 here.line place.is.member member found.1 here.is in
      let some = round.0.some in
      stays-high sound valid changed place.is.set round.0 place.at place.is.member (element_at certificate.sets carried.set place.is.set place.is.stands) found.1 q own.line
      (record { node = there.node; at = there.at; is = own.is }) differs (omega (arith, down, step, here.step, own.step, some))

  pub written-stay : {written : List Place} → AreWritten p classes before after (values_of old) (values_of new) written → (line : SettlingLine)
      → ((w : Place) (other : SettlingLine) → In w written → IsLineAt p certificate classes w other → IsNoHigher p line other) → Leaves cost top.within top.line line → HaveWritten new (top ∷ levels)
  written-stay changed line low leaves =
      keeps-written old new (top ∷ levels) only (λ j l c q at is wrote. left-stays changed line low leaves j l c q at is ((well-at p cost classes old costs (top ∷ levels) are j l at c is).places q wrote)) have

  pub written-stay-within : {written : Place} → AreWritten p classes before after (values_of old) (values_of new) (written ∷ []) → (carried : Carried) → top.within ≡ Some carried
      → IsPlaceIn p certificate classes carried.set written → (¬ IsOver old written) → reads old written ≢ Some (seen old carried.value) → HaveWritten new (top ∷ levels)
  written-stay-within {written} changed carried is place lives other = keeps-written old new (top ∷ levels) only kept have
    where
      by_set : (c : Carried) (j : ℕ) (l : Level certificate) → slice_get (top ∷ levels) j ≡ Some l → l.within ≡ Some c → l.wrote ≡ Some written → IsPlaceIn p certificate classes c.set written → ⊥
      by_set c j l at within wrote there =
          let one = valid.nothing_else.apart c.set carried.set place.node (subst (λ (x : Node). IsIn p certificate c.set x) (one-node there.at place.at) there.is) place.is in
          written-once p cost classes old costs top levels are have carried written is lives other j l c at within one wrote

      kept : (j : ℕ) (l : Level certificate) (c : Carried) (q : Place) → slice_get (top ∷ levels) j ≡ Some l → l.within ≡ Some c → l.wrote ≡ Some q → values_of new q ≡ values_of old q
      kept j l c q at within wrote =
          let there = (well-at p cost classes old costs (top ∷ levels) are j l at c within).places q wrote in
          others-stay changed carried is place j l c q at within there
          (λ same_place. by_set c j l at within (subst (λ (z : Place). l.wrote ≡ Some z) same_place wrote) (subst (λ (z : Place). IsPlaceIn p certificate classes c.set z) same_place there))
