use Rattle.std.proofs.Common.{inr}
use Rattle.class_outlines.specs.declared.fault.MetaFault.TheVariants as fault
use Rattle.class_outlines.specs.Indexed.{AreIndexed}
use Rattle.name_resolution.specs.code.Loading.{HasUses}
use Rattle.meta_objects.specs.Builds.{IsClean}
use Rattle.name_resolution.specs.declared.uses.Uses.{Uses}
use Rattle.meta_objects.proofs.Refusals.{outlined, members_once, nothing_lacks, answers, refused, refused_base, refused_member, refused_use}
use Rattle.meta_objects.proofs.MembersIndexed.{members_indexed}
use Rattle.meta_objects.proofs.Whole.{sound, loaded_form}
use Rattle.meta_objects.proofs.loading.load.Goals as goal

pub index_outlines-requires : goal.index_outlines-requires
index_outlines-requires c = c.in_ok-outlines.ensures

pub bad_notifier-requires : goal.bad_notifier-requires
bad_notifier-requires c = rw (c.as_slice-all.ensures, c.in_ok-table.ensures, c.in_ok-indexed.ensures.same) c.in_ok-outlines.ensures

pub unfit_type-requires : goal.unfit_type-requires
unfit_type-requires c = rw (c.in_ok-table.ensures, c.in_ok-indexed.ensures.same) c.in_ok-outlines.ensures

pub resolve_objects-requires-clause-outlined : goal.resolve_objects-requires-clause-outlined
resolve_objects-requires-clause-outlined c =
    (c.args.program.now.classes, rw (c.in_ok-table.ensures, c.in_ok-indexed.ensures.same) c.in_ok-outlines.ensures)

pub resolve_objects-requires-clause-notified : goal.resolve_objects-requires-clause-notified
resolve_objects-requires-clause-notified c = rw c.as_slice-all.ensures at c.in_default-bad_notifier.ensures

pub of-requires-2-clause-sound : goal.of-requires-2-clause-sound
of-requires-2-clause-sound c =
    let uses = rw (c.in_ok-table.ensures, c.in_ok-indexed.ensures.same) at c.in_ok-works.ensures in
    let outlines = outlined _ _ c.in_default.ensures c.in_ok-outlines.ensures in
    let clean : IsClean c.args.program.now c.in_ok-outlines.outlines.items = record {
      members = members_once c.args.program.now c.in_ok-outlines.outlines.items _ c.in_ok-indexed.ensures c.in_default-repeated_name.ensures;
      names = nothing_lacks _ _ _ _ _ _ uses;
      notifiers = rw (c.as_slice-all.ensures, c.in_ok-table.ensures, c.in_ok-indexed.ensures.same) at c.in_default-bad_notifier.ensures;
      types = rw (c.in_ok-table.ensures, c.in_ok-indexed.ensures.same) at (rw c.in_default-2.is at c.in_ok-offence.ensures);
    } in
    sound c.args.program.now _ outlines clean _
    (record { works = _; uses = uses; objects = rw (c.in_ok-table.ensures, c.in_ok-indexed.ensures.same, c.as_slice.ensures) at c.in_ok-classes.ensures })

pub of-requires-2-clause-indexed : goal.of-requires-2-clause-indexed
of-requires-2-clause-indexed c =
    members_indexed _ _ _ (c.as_slice.result.now, c.in_ok-classes.ensures) (rw c.as_slice-all.ensures at c.in_ok-members.ensures)

pub returns-in-Some : goal.returns-in-Some
returns-in-Some c = refused _ fault.DuplicateClass _ c.in-Some.ensures.1 c.in-Some.ensures.0

pub returns-in_err-outlines : goal.returns-in_err-outlines
returns-in_err-outlines c =
    answers _ _ (refused_base _ _ c.in_default.ensures c.in_err-outlines.ensures) _ c.from_residual.ensures.0 c.from_residual.ensures.1

pub returns-in_err-indexed : goal.returns-in_err-indexed
returns-in_err-indexed c =
    answers _ _
    (refused_member _ _ _ (outlined _ _ c.in_default.ensures c.in_ok-outlines.ensures) (AreIndexed c.in_ok-outlines.outlines.items) c.in_err-indexed.ensures)
    _ c.from_residual-in_err-indexed.ensures.0 c.from_residual-in_err-indexed.ensures.1

pub returns-in-Some-repeated_name : goal.returns-in-Some-repeated_name
returns-in-Some-repeated_name c =
    refused _ fault.DuplicateMember _ c.in-Some-repeated_name.ensures.1 (_, (outlined _ _ c.in_default.ensures c.in_ok-outlines.ensures), inr c.in-Some-repeated_name.ensures.0)

pub returns-in_err-works : goal.returns-in_err-works
returns-in_err-works c =
    answers _ _
    (refused_use _ _ _ (outlined _ _ c.in_default.ensures c.in_ok-outlines.ensures)
    (members_once c.args.program.now c.in_ok-outlines.outlines.items _ c.in_ok-indexed.ensures c.in_default-repeated_name.ensures)
    (λ (uses : Uses). HasUses c.args.program.now c.in_ok-outlines.outlines.items uses.works uses.wires uses.owns uses.sites)
    (rw (c.in_ok-table.ensures, c.in_ok-indexed.ensures.same) at c.in_err-works.ensures))
    _ c.from_residual-in_err-works.ensures.0 c.from_residual-in_err-works.ensures.1

pub returns-in-Some-bad_notifier : goal.returns-in-Some-bad_notifier
returns-in-Some-bad_notifier c =
    let bad = rw (c.as_slice-all.ensures, c.in_ok-table.ensures, c.in_ok-indexed.ensures.same) at c.in-Some-bad_notifier.ensures in
    refused _ fault.BadNotify _ bad.1 (
      _,
      (outlined _ _ c.in_default.ensures c.in_ok-outlines.ensures),
      (members_once c.args.program.now c.in_ok-outlines.outlines.items _ c.in_ok-indexed.ensures c.in_default-repeated_name.ensures),
      nothing_lacks _ _ _ _ _ _ (rw (c.in_ok-table.ensures, c.in_ok-indexed.ensures.same) at c.in_ok-works.ensures),
      bad.0,
    )

pub returns-in-Some-2 : goal.returns-in-Some-2
returns-in-Some-2 c =
    let unfit = rw (c.in_ok-table.ensures, c.in_ok-indexed.ensures.same) at (rw c.in-Some-2.is at c.in_ok-offence.ensures) in
    refused _ fault.NoType _ unfit.1 (
      _,
      (outlined _ _ c.in_default.ensures c.in_ok-outlines.ensures),
      (members_once c.args.program.now c.in_ok-outlines.outlines.items _ c.in_ok-indexed.ensures c.in_default-repeated_name.ensures),
      nothing_lacks _ _ _ _ _ _ (rw (c.in_ok-table.ensures, c.in_ok-indexed.ensures.same) at c.in_ok-works.ensures),
      rw (c.as_slice-all.ensures, c.in_ok-table.ensures, c.in_ok-indexed.ensures.same) at c.in_default-bad_notifier.ensures,
      unfit.0,
    )

pub returns : goal.returns
returns c =
    let uses = rw (c.in_ok-table.ensures, c.in_ok-indexed.ensures.same) at c.in_ok-works.ensures in
    let outlines = outlined _ _ c.in_default.ensures c.in_ok-outlines.ensures in
    let clean : IsClean c.args.program.now c.in_ok-outlines.outlines.items = record {
      members = members_once c.args.program.now c.in_ok-outlines.outlines.items _ c.in_ok-indexed.ensures c.in_default-repeated_name.ensures;
      names = nothing_lacks _ _ _ _ _ _ uses;
      notifiers = rw (c.as_slice-all.ensures, c.in_ok-table.ensures, c.in_ok-indexed.ensures.same) at c.in_default-bad_notifier.ensures;
      types = rw (c.in_ok-table.ensures, c.in_ok-indexed.ensures.same) at (rw c.in_default-2.is at c.in_ok-offence.ensures);
    } in
    rw c.in_ok-meta.ensures (loaded_form _ _ _ _ outlines clean uses (rw (c.in_ok-table.ensures, c.in_ok-indexed.ensures.same, c.as_slice.ensures) at c.in_ok-classes.ensures))
