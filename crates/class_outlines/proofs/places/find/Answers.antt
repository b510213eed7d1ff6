use Rattle.std.proofs.Common.{rules, refl}
use Rattle.std.proofs.lemmas.Option.{slice_get_read}
use Rattle.name_indexes.proofs.Searches.{none_more, none_at_all}
use Rattle.class_outlines.proofs.places.find.Goals as goal

pub loop-place-preserved : goal.loop-place-preserved
loop-place-preserved g c =
    none_more _ _ _ _ c.loop-place.invariant c.loop-place-test.true c.index-items-place.is (λ h. search rules)

pub returns-then-is_named : goal.returns-then-is_named
returns-then-is_named g c =
    record {
      first = record {
        at = record {
          item = c.index-items-place.result;
          is = slice_get_read _ _ _ _ refl c.loop-place-test.true c.index-items-place.is;
          has = c.is_named.ensures.0 c.if-is_named.true;
        };
        first = c.loop-place.invariant;
      };
      is = refl;
    }

pub returns : goal.returns
returns g c = none_at_all _ _ _ c.loop-place.invariant c.loop-place-test.false
