use Rattle.std.proofs.Common.{refl, rules}
use Rattle.std.proofs.lemmas.Option.{slice_get_read}
use Rattle.class_outlines.proofs.Zips.{zip_push}
use Rattle.name_resolution.proofs.resolve_object.resolve_objects.Goals as goal

pub resolve_object-requires : goal.resolve_object-requires
resolve_object-requires c = record {
  outlined = c.requires.outlined;
  notified = c.requires.notified;
  number = c.loop-outline.outline-index;
  is = rw c.as_slice-all.ensures at (slice_get_read _ _ _ _ refl c.loop-outline-test.true c.outline-item.is);
  resolved = rw c.as_slice.ensures (rw c.as_slice-all.ensures at c.loop-outline.invariant);
}

pub loop-outline-preserved : goal.loop-outline-preserved
loop-outline-preserved c =
    zip_push _ _ _ _ _ _ _ c.loop-outline-test.true c.outline-item.is (search rules) c.loop-outline.invariant c.in_ok-push.ensures.ok
