use Rattle.std.proofs.Common.{ℕ, List, Option, sym, subst}
use Rattle.settling.specs.code.Members.{AreSetPlaces}
use Rattle.settling.proofs.Assembling.{each_there, disjoint_of}
use Rattle.settling.proofs.tables.placed_tables.Goals as goal

pub full_tables-requires-clause-sets : goal.full_tables-requires-clause-sets
full_tables-requires-clause-sets c =
    let found = rw (c.as_slice.ensures, c.in-Some.is) at c.in_ok-sets.ensures in
    subst (λ (ps : List (Option ℕ)). AreSetPlaces c.args.meta.now c.args.certificate.now.sets ps) (sym c.as_slice-in-Some.ensures) found

pub returns-in-None : goal.returns-in-None
returns-in-None c = λ ready.
    let none = rw (c.as_slice.ensures, c.in-None.is) at c.in_ok-sets.ensures in (
      ready.wires,
      ready.typed,
      each_there c.args.meta.now c.args.certificate.now c.args.places.now c.requires.places,
      λ rest. none (disjoint_of c.args.meta.now c.args.certificate.now rest),
    )
