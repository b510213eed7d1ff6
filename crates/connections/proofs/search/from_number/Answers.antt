use Rattle.std.proofs.Common.{rules, arith, ltb}
use Rattle.std.proofs.lemmas.List.Sorted.{IsPartitionPoint-from_clause, IsPartitionedBy-ltb}
use Rattle.std.proofs.lemmas.Bool.{ltb-true, ltb-false}
use Rattle.connections.specs.declared.place.CellPlace.{CellPlace}
use Rattle.connections.proofs.Numbers.{Rising-sorted}
use Rattle.connections.proofs.search.from_number.Goals as goal

pub returns-in-None-clause-split : goal.returns-in-None-clause-split
returns-in-None-clause-split c =
    let point = IsPartitionPoint-from_clause (λ (p : CellPlace). ltb p.number c.args.number) c.args.places.now c.partition_point.result c.partition_point.ensures.partitioned
    (IsPartitionedBy-ltb (λ (p : CellPlace). p.number) c.args.places.now c.args.number (Rising-sorted c.requires.0 c.args.places.now c.requires.1)) (λ a b f' k. search rules) in
    record {
      below = λ k d h. ltb-true _ _ (point.0 k d (omega arith) h);
      above = λ k d h w. ltb-false _ _ (point.1 k d h w);
    }
