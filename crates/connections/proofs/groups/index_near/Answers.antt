use Rattle.std.proofs.Common.{sym, ◌∙◌}
use Rattle.std.proofs.lemmas.Map.Made.{lookup_key_passes}
use Rattle.connections.proofs.Standing.{get-same}
use Rattle.connections.proofs.groups.index_near.Goals as goal

pub returns-in-Some-clause-found : goal.returns-in-Some-clause-found
returns-in-Some-clause-found g c = record {
  found = c.in-Some.found.now;
  places = c.in-Some.field-0-1.now;
  entry = sym c.in-Some.ensures.entry;
  there = c.in-Some.ensures.value;
  same = sym c.eq.ensures ∙ c.if-eq.true;
}

pub returns-in_ok-index-in_default-clause-found : goal.returns-in_ok-index-in_default-clause-found
returns-in_ok-index-in_default-clause-found g c =
    let eq = g.K.PartialEq.eq in
    let laws = g.met.K.Eq.laws in
    let found = c.in_ok-index-in_default.field-0-1.now in
    let same = lookup_key_passes (eq c.args.key) c.args.groups.now.entries found (sym c.in_ok-index-in_default.ensures.key) in
    record {
      found = found;
      places = c.in_ok-index-in_default.field-0-2.now;
      entry = c.in_ok-index-in_default.ensures.entry;
      there = sym (get-same eq c.args.groups.now c.args.key found laws same) ∙ sym c.in_ok-index-in_default.ensures.value;
      same = laws.symm found c.args.key ∙ same;
    }
