use Rattle.std.proofs.Common.{sym}
use Rattle.rank_check.proofs.naming.is_property_named.Goals as goal

pub returns-in-Some-property : goal.returns-in-Some-property
returns-in-Some-property c = λ h.
    record {
      class = c.in-Some.object.now;
      is_class = record { is = sym c.in-Some.ensures.value };
      property = c.in-Some-property.found.now;
      is = sym c.in-Some-property.ensures.value;
      named = c.is_same.ensures.0 h;
    }
