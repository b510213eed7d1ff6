use Rattle.std.proofs.Common.{◌≡◌, [], ◌∷◌, ◌++◌, List, ap, sym, ◌∙◌, subst}
use Rattle.std.specs.List.{AllByRecursion}
use Rattle.std.proofs.lemmas.Result.{on_ok_weaker}
use Rattle.binding_graph.specs.declared.place.Place.{Place}
use Rattle.prop_bindings.specs.Changes.{places_in}
use Rattle.prop_bindings.specs.Plans.{after}
use Rattle.trace_entries.specs.declared.entry.Entry.{Entry}
use Rattle.trace_entries.specs.declared.entry.Entry.TheVariants.{At}
use Rattle.trace_entries.specs.declared.entry.EntryKind.TheVariants as entry_kind
use Rattle.machine_state.specs.Telling.{Grouped, HasValue, others, writes_of}
use Rattle.machine_state.specs.code.Planned.{AddsFollowers, StandFirst}
use Rattle.machine_state.proofs.Followers.{others-have, others-once}
use Rattle.machine_state.proofs.Told.{group-told}
use Rattle.machine_state.proofs.changes.telling.Telling.add_group.Goals as goal

pub followers-followers-requires : goal.followers-followers-requires
followers-followers-requires c =
    let ps = places_in (writes_of (Grouped c.args.sets.now)) in
    let changed = c.args.self.now.planned.now.changed in
    let both : others ps changed ≡ others c.args.written.now changed = sym (ap (λ (qs : List Place). others qs changed) c.requires.written ∙ others-once ps changed) in
    let first : StandFirst (others ps changed) c.args.written.now changed = subst (λ (qs : List Place). StandFirst (others ps changed) qs changed) (sym c.requires.written) c.requires.can.first in
    record { first = subst (λ (os : List Place). StandFirst os c.args.written.now changed) both first }

pub add_followers-requires-clause-have : goal.add_followers-requires-clause-have
add_followers-requires-clause-have c =
    let self = c.args.self.now in
    let Has : Place → Type 0 = HasValue self.meta.now self.tree.now in
    subst (AllByRecursion Has) (sym c.followers-followers.ensures) (others-have Has c.args.written.now self.planned.now.changed c.requires.can.changed_have)

pub add_followers-requires-clause-will_have : goal.add_followers-requires-clause-will_have
add_followers-requires-clause-will_have c =
    let self = c.args.self.now in
    let Has : Place → Type 0 = HasValue self.meta.now (after self.planned.now self.tree.now) in
    subst (AllByRecursion Has) (sym c.followers-followers.ensures) (others-have Has c.args.written.now self.planned.now.changed c.requires.can.changed_will_have)

pub returns-clause-ok : goal.returns-clause-ok
returns-clause-ok c =
    let self = c.args.self.now in
    let new = after self.planned.now self.tree.now in
    let sets = c.args.sets.now in
    let ps = places_in (writes_of (Grouped sets)) in
    let changed = self.planned.now.changed in
    let followers : c.followers-followers.result.now ≡ others ps changed = c.followers-followers.ensures ∙ ap (λ (qs : List Place). others qs changed) c.requires.written ∙ others-once ps changed in
    let group = At self.depth entry_kind.Grouped in
    let own : c.push.new.self ≡ c.args.trace.now ++ group ∷ [] = c.in_ok-push.ensures.ok ∙ ap (λ (zs : List Entry). zs ++ group ∷ []) c.reserve.ensures in
    on_ok_weaker c.add_followers.result
    (λ (follow : AddsFollowers self.meta.now new self.depth c.followers-followers.result.now c.add_sets.new.trace c.add_followers.new.trace).
    group-told self.meta.now new self.depth sets c.followers-followers.result.now changed c.args.trace.now c.push.new.self c.add_sets.new.trace c.add_followers.new.trace own c.in_ok-add_sets.ensures.ok followers follow)
    c.add_followers.ensures.ok
