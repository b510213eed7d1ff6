-- What is written from outside of sets, or leaves one, pushes an update that stands (docs/settling-proof.md, "Each rule keeps it").
use Rattle.std.{proofs.Common.{◌≡◌, ℕ, List, ◌∷◌, is_some, Option, Some, None, refl, sym, ap, ◌∙◌, subst}, specs.List.{AllByRecursion}, specs.Option.{option_map}, proofs.lemmas.Option.{none-some}}
use Rattle.basic_types.specs.declared.value.Value.{Value}
use Rattle.meta_model.specs.{Loaded.{Loaded}, Sound.{IsSound}}
use Rattle.object_tree.specs.{declared.object.Object.{Object}, Seen.{seen}}
use Rattle.binding_graph.{specs.declared.binding.Binding.{Binding}, specs.declared.place.Place.{Place}, specs.Bindings.{binding_at, Settled}, specs.Places.{In}}
use Rattle.prop_bindings.{specs.Changes.{DifferInValues, ReadsAlike, AreChanged, none_changed, one_changed, one_stayed, in_order}, specs.Fits.{Agree}, specs.Values.{values_in}, proofs.Alive.{seen-same}}
use Rattle.effect_scan.specs.{declared.node.Member.TheVariants.{Property}, Nodes.{node}}
use Rattle.trace_entries.specs.declared.entry.Entry.{Entry}
use Rattle.machine_state.specs.State.{State, Activation}
use Rattle.machine_rules.{specs.Settling.{Settles, signal_at}, specs.code.Keeps.{StayThere}, proofs.Differing.{differ-stay, differ-spared}, proofs.Lists.{all-filtered, all-weaken}}
use Rattle.settling.specs.{declared.certificate.SettlingLine.{SettlingLine}, declared.certificate.SettlingCertificate.{SettlingCertificate}, Valid.{IsLineOf, IsValid}}
use Rattle.object_machine.proofs.CheckedRuns.{Invariant.{IsSited}, Worlds.{Leaves, classes-left, differ-leaves}, Followers.{IsKnown}}
use Rattle.settled_runs.{specs.Writes.{IsAtNode, IsLineAt, AreWritten, IsNoHigher}, specs.Levels.{Carried, Level, Leaves as LeavesSet, FallsTo}, specs.Written.{HaveWritten, AreOnlyWritten}, proofs.Unwritten.{followers-low}, proofs.Drawn.{all-drawn}, proofs.Dying.{still-falls}, proofs.Deleting.{stacked-still}, proofs.Invariant.{IsFollower, outside, Stacked}, proofs.Begun.{Covered, Held}}

-- where nothing but values is another, values read as they did
pub only-written : {old new : List Object} → DifferInValues old new → AreOnlyWritten old new
only-written {old} {new} differ = record {
  seen_alike = seen-same old new differ;
  over_alike = λ place over. (differ-stay old new differ).dead place.object over;
}

map-alike : (f g : Value → Value) → ((v : Value) → f v ≡ g v) → (found : Option Value) → option_map f found ≡ option_map g found
map-alike f g same None = refl
map-alike f g same (Some v) = ap Some (same v)

-- what keeps its value reads as it did
pub reads-alike : (old new : List Object) (q : Place) → DifferInValues old new → values_in new q ≡ values_in old q → ReadsAlike old new q
reads-alike old new q differ e = ap (option_map (seen new)) e ∙ map-alike (seen new) (seen old) (seen-same old new differ) (values_in old q)

pub changed-each : (P : Place → Type 0) {old new : List Object} (qs changed : List Place) → AllByRecursion P qs → AreChanged old new qs changed → AllByRecursion (λ q. P q × (¬ ReadsAlike old new q)) changed
changed-each P qs changed all none_changed = tt
changed-each P qs changed all (one_changed {ps = ps} {changed = rest} other more) = ((all.0, other), changed-each P ps rest all.1 more)
changed-each P qs changed all (one_stayed {ps = ps} {changed = rest} alike more) = changed-each P ps rest all.1 more

module _ {p : Loaded} {certificate : SettlingCertificate} (sound : IsSound p) (valid : IsValid p certificate) (cost : ℕ → ℕ) (classes : ℕ → Option ℕ) where
  -- the update stands over what is below it
  pub outside-held : {s t : State} (below : List Activation) (levels : List (Level certificate)) (level : Level certificate) (written : List Place) {Tells : List Entry → Type 0} (objects : List Object) (bindings : List Binding) (changed : List Place)
      → level.within ≡ None → level.wrote ≡ None → FallsTo p cost s.objects levels level → ((w : Place) (other : SettlingLine) → In w written → IsLineAt p certificate classes w other → IsNoHigher p level.line other)
      → Covered sound valid cost classes s → Agree p s.objects s.bindings → Stacked p cost classes s.objects below levels → HaveWritten objects levels
      → DifferInValues s.objects objects → AllByRecursion (IsSited p classes) bindings → Settled (binding_at bindings) (values_in objects)
      → ((q : Place) (b : Binding) → ¬ In q written → binding_at bindings q ≡ Some b → binding_at s.bindings q ≡ Some b)
      → ((q : Place) → ¬ In q written → binding_at bindings q ≡ None → values_in objects q ≡ values_in s.objects q)
      → AllByRecursion (IsKnown classes) (in_order written s.bindings) → AreChanged s.objects objects (in_order written s.bindings) changed
      → Settles p s below Tells objects bindings changed t → Held sound valid cost classes t
  outside-held {s} {t} below levels level written objects bindings changed free alone falls low covered agree st kept_written differ sited settled same kept known changes settles =
      let left : Leaves p classes s.objects objects = differ-leaves s.objects objects differ in
      let Family : State → Type 0 = λ v. Held sound valid cost classes v in
      subst Family (sym settles.gives) (record {
        covered = record { known = classes-left left covered.known; owned = left.children covered.owned; wired = covered.wired; sited = sited };
        levels = level ∷ levels;
        stacked = (
          outside alone (all-filtered (λ q. IsFollower p cost classes level q) (λ at. is_some (signal_at p objects at)) changed
              (all-weaken (λ (q : Place). IsKnown classes q × (¬ ReadsAlike s.objects objects q)) (λ q. IsFollower p cost classes level q) changed follower
              (changed-each (IsKnown classes) (in_order written s.bindings) changed known changes))),
          λ c within. absurd (none-some c (sym free ∙ within)),
          still-falls s.objects objects (stay.dead) p cost classes levels level falls,
          stacked-still p cost classes stay below levels (λ o body gone. differ-spared s.objects objects differ o gone) st,
        );
        written = (λ c q within wrote. absurd (none-some q (sym alone ∙ wrote)), kept_written);
      })
    where
      stay : StayThere s.objects objects
      stay = differ-stay s.objects objects differ

      are : AreWritten p classes (binding_at s.bindings) (binding_at bindings) (values_in s.objects) (values_in objects) written
      are = record {
        drawn = λ q m b is reads. all-drawn bindings sited q m b is reads;
        settled_old = agree.settled;
        settled_new = settled;
        same = same;
        kept = kept;
      }

      follower : (q : Place) → IsKnown classes q × (¬ ReadsAlike s.objects objects q) → IsFollower p cost classes level q
      follower q other =
          let at : IsAtNode classes q (node other.0.0 (Property q.property)) = record { class = other.0.0; is = other.0.1; at = refl } in
          let lower : (upper : SettlingLine) → IsLineOf p certificate (node other.0.0 (Property q.property)) upper → IsNoHigher p level.line upper =
          λ upper is. followers-low sound valid are level.line low q upper (record { node = node other.0.0 (Property q.property); at = at; is = is }) (λ e. other.1 (reads-alike s.objects objects q differ e)) in
          record {
            node = node other.0.0 (Property q.property);
            at = at;
            low = lower;
            leaves = λ upper is. let fits = lower upper is in subst (λ (w : Option Carried). LeavesSet cost w level.line upper) (sym free) fits.step;
          }
