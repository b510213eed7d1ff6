use Rattle.type_check.specs.Typed.{IsTypedSite}
use Rattle.type_check.proofs.Firsts.{HaveBefore}
use Rattle.type_check.proofs.sites.untyped_site.Given as goal

-- the earlier sites are typed
abbrev pub invariant-loop-number : goal.invariant-loop-number
invariant-loop-number l = HaveBefore (IsTypedSite l.meta) l.site-items l.number
