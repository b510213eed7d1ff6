use Rattle.std.proofs.Common.{◌≡◌, ℕ, Option, Bool, false, eqb, refl, sym, subst, ◌∙◌, ap, List}
use Rattle.std.specs.List.{list_any}
use Rattle.std.proofs.Math.Path.{fun_ext}
use Rattle.indexmap.specs.IndexSet.{contains}
use Rattle.event_loops.specs.Queues.{Queues, Loop, rehomed}
use Rattle.event_loops.specs.code.Rings.{loops_in, gathered}
use Rattle.event_loops.specs.code.Marks.{since_of, visible, is_upto, AreUpto, MarkedUpto}
use Rattle.event_loops.specs.code.Counts.{AreCounted}
use Rattle.event_loops.specs.code.Sure.{AllAt, is_sure}
use Rattle.event_loops.specs.code.Kept.{seen}
use Rattle.event_loops.specs.Numbers.{IsNumbered}
use Rattle.event_loops.proofs.Rehoming.{visible-gathered, gathered-alike, gathered-rehomed, nothing-gathered, all-gathered, IsNumbered-gathered}
use Rattle.event_loops.proofs.Counted.{counted-alike, counted-gathered, all-noted, goes-noted, goes-unmarked, is_noted}
use Rattle.event_loops.proofs.Sets.{none-in}
use Rattle.event_loops.proofs.loops.Loops.rehome.Goals as goal

pub invariant_of-self-2 : goal.invariant_of-self-2
invariant_of-self-2 c =
    let since = since_of c.self.inside.marks in
    let rings = loops_in c.self.inside.queues in
    let going = contains eqb c.in_ok-going.going in
    let home = c.number-2.result in
    let posted = c.self.inside.posted in
    let alike : since_of c.rehome.new.self ≡ since = fun_ext c.rehome.ensures.alike in
    let now : seen c.rehome_at.new.queues c.rehome.new.self ≡ gathered going home (visible since rings) =
    ap (λ (s : ℕ → Option ℕ). visible s (loops_in c.rehome_at.new.queues)) alike
    ∙ ap (visible since) c.in_ok-rehome_at.ensures.gathered
    ∙ visible-gathered since going home rings in
    let Numbered : List Loop → Type 0 = λ loops. IsNumbered (record { loops = loops; posted = posted }) in
    let Upto : List Loop → Type 0 = AreUpto posted in
    let Marked : (ℕ → Option ℕ) → Type 0 = MarkedUpto posted in
    let before : Queues = record { loops = visible since rings; posted = posted } in
    let bound = c.self.inside.marks.last_stale in
    let Told : ℕ → Type 0 = λ last. AllAt (is_sure last (since_of c.rehome.new.self)) (loops_in c.rehome_at.new.queues) in
    let Alike : (ℕ → Option ℕ) → Type 0 = λ marked. AllAt (is_sure bound marked) (loops_in c.rehome_at.new.queues) in
    let Are : List Loop → Type 0 = λ loops. AreCounted loops c.rehome.new.self in
    record {
      kept = record {
        numbered = subst Numbered (sym now) (IsNumbered-gathered going home before c.self.invariant.kept.numbered);
        within = record {
          upto = subst Upto (sym c.in_ok-rehome_at.ensures.gathered) (all-gathered (is_upto posted) going home rings c.self.invariant.kept.within.upto);
          marked = subst Marked (sym alike) c.self.invariant.kept.within.marked;
        };
      };
      told = subst Told (sym c.rehome.ensures.stale) (subst Alike (sym alike) (subst (AllAt (is_sure bound since)) (sym c.in_ok-rehome_at.ensures.gathered) (all-gathered (is_sure bound since) going home rings c.self.invariant.told)));
      counted = subst Are (sym now) (counted-alike (gathered going home before.loops) c.self.inside.marks c.rehome.new.self c.rehome.ensures.counts (counted-gathered going home before.loops c.self.inside.marks c.self.invariant.counted));
    }

pub returns-clause-rehomed : goal.returns-clause-rehomed
returns-clause-rehomed c =
    let marks = c.self.inside.marks in
    let since = since_of marks in
    let rings = loops_in c.self.inside.queues in
    let going = contains eqb c.in_ok-going.going in
    let moving : ℕ → Bool = λ o. list_any (λ k. eqb o k) c.args.objects.now in
    let posted = c.self.inside.posted in
    let alike : since_of c.rehome.new.self ≡ since = fun_ext c.rehome.ensures.alike in
    let before : Queues = record { loops = visible since rings; posted = posted } in
    let now : seen c.rehome_at.new.queues c.rehome.new.self ≡ (rehomed c.args.objects.now c.args.home before).loops =
    ap (λ (s : ℕ → Option ℕ). visible s (loops_in c.rehome_at.new.queues)) alike
    ∙ ap (visible since) c.in_ok-rehome_at.ensures.gathered
    ∙ visible-gathered since going c.number-2.result rings
    ∙ ap (λ (h : ℕ). gathered going h (visible since rings)) c.number-2.ensures
    ∙ gathered-alike going moving (is_noted marks) (goes-noted marks c.args.objects.now going c.in_ok-going.ensures) c.args.home (visible since rings) (all-noted marks (visible since rings) c.self.invariant.counted)
    ∙ gathered-rehomed c.args.objects.now moving (λ o. refl) c.args.home before in
    let with : List Loop → Queues = λ loops. record { loops = loops; posted = posted } in
    ap with now ∙ ap (rehomed c.args.objects.now c.args.home) c.self.view_is

pub returns-then-is_empty-clause-rehomed : goal.returns-then-is_empty-clause-rehomed
returns-then-is_empty-clause-rehomed c =
    let marks = c.self.inside.marks in
    let posted = c.self.inside.posted in
    let shown : List Loop = seen c.self.inside.queues marks in
    let moving : ℕ → Bool = λ o. list_any (λ k. eqb o k) c.args.objects.now in
    let before : Queues = record { loops = shown; posted = posted } in
    let now : shown ≡ (rehomed c.args.objects.now c.args.home before).loops =
    sym (nothing-gathered c.args.home shown)
    ∙ gathered-alike (λ _. false) moving (is_noted marks) (goes-unmarked marks (c.is_empty.ensures.0 c.if-is_empty.true) moving) c.args.home shown (all-noted marks shown c.self.invariant.counted)
    ∙ gathered-rehomed c.args.objects.now moving (λ o. refl) c.args.home before in
    let with : List Loop → Queues = λ loops. record { loops = loops; posted = posted } in
    sym c.self.view_is ∙ ap with now ∙ ap (rehomed c.args.objects.now c.args.home) c.self.view_is

pub returns-then-is_empty-2-clause-rehomed : goal.returns-then-is_empty-2-clause-rehomed
returns-then-is_empty-2-clause-rehomed c =
    let marks = c.self.inside.marks in
    let posted = c.self.inside.posted in
    let shown : List Loop = seen c.self.inside.queues marks in
    let going = contains eqb c.in_ok-going.going in
    let moving : ℕ → Bool = λ o. list_any (λ k. eqb o k) c.args.objects.now in
    let none : going ≡ (λ _. false) = fun_ext (none-in c.in_ok-going.going (c.is_empty-2.ensures.0 c.if-is_empty-2.true)) in
    let before : Queues = record { loops = shown; posted = posted } in
    let now : shown ≡ (rehomed c.args.objects.now c.args.home before).loops =
    sym (nothing-gathered c.args.home shown)
    ∙ ap (λ (g : ℕ → Bool). gathered g c.args.home shown) (sym none)
    ∙ gathered-alike going moving (is_noted marks) (goes-noted marks c.args.objects.now going c.in_ok-going.ensures) c.args.home shown (all-noted marks shown c.self.invariant.counted)
    ∙ gathered-rehomed c.args.objects.now moving (λ o. refl) c.args.home before in
    let with : List Loop → Queues = λ loops. record { loops = loops; posted = posted } in
    sym c.self.view_is ∙ ap with now ∙ ap (rehomed c.args.objects.now c.args.home) c.self.view_is
