use Rattle.std.proofs.Common.{take}
use Rattle.std.specs.List.{AllZip}
use Rattle.meta_objects.specs.code.Outlined.{IndexesOutlined}
use Rattle.meta_objects.proofs.member_indexes.index_members.Given as goal

-- the indexes are those of the outlines so far
abbrev pub invariant-loop-outline : goal.invariant-loop-outline
invariant-loop-outline l = AllZip IndexesOutlined (take l.outline-index l.outlines) l.members
