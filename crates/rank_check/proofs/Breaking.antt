-- What a cause names breaks its condition.
use Rattle.std.proofs.Common.{ℕ, arith}
use Rattle.meta_model.specs.Loaded.{Loaded}
use Rattle.effect_scan.specs.declared.node.Node.{Node}
use Rattle.certificate_lang.specs.declared.certificate.Line.{Line}
use Rattle.certificate_lang.specs.declared.certificate.Certificate.{Certificate}
use Rattle.rank_check.specs.declared.causes.NodeLine.{NodeLine}
use Rattle.rank_check.specs.declared.causes.Extra.{Extra}
use Rattle.rank_check.specs.declared.causes.Extra.TheVariants.{Unknown, Twice, Class}
use Rattle.rank_check.specs.declared.causes.Rise.{Rise}
use Rattle.rank_check.specs.declared.causes.Mistake.{Mistake}
use Rattle.rank_check.specs.declared.causes.Mistake.TheVariants.{Unclosed, Own, Lost}
use Rattle.rank_check.specs.declared.causes.Loose.{Loose}
use Rattle.rank_check.specs.declared.causes.Loose.TheVariants.{TooGreat, NotAbove}
use Rattle.rank_check.specs.Valid.{IsLineOf, HasEachNode, HasNothingElse, RanksFall, SetsHold, IsBounded}
use Rattle.rank_check.specs.Causes.{IsMissing, IsExtra, IsAtPlace, IsRise, IsMistake, IsLoose}
use Rattle.rank_check.proofs.Elements.{element_at}
use Rattle.rank_check.proofs.Listing.{none_there}

module _ (p : Loaded) (certificate : Certificate) where
  pub missing_breaks : (n : ℕ) → IsMissing p certificate n → ¬ HasEachNode p certificate
  missing_breaks n h each = let line = each h.node (n, h.is) in h.none line.0 line.1

  pub extra_breaks : (extra : Extra) → IsExtra p certificate.lines extra → ¬ HasNothingElse p certificate
  extra_breaks (Unknown k) h all = let x = all.nodes h.line (element_at certificate.lines k h.line h.stands) in h.none x.0 x.1
  extra_breaks (Twice j k) h all = h.apart (all.once j k h.first h.second h.node h.first_stands h.second_stands h.first_named h.second_named)
  extra_breaks (Class k item) h all = none_there p h.line.destroys item h.none (all.classes h.line (element_at certificate.lines k h.line h.stands))

  line_at : (place : NodeLine) (x : Node) (line : Line) → IsAtPlace p certificate place x line → IsLineOf p certificate x line
  line_at place x line h = record { stands = element_at certificate.lines place.line line h.stands; named = h.named }

  pub rise_breaks : (rise : Rise) → IsRise p certificate rise → ¬ RanksFall p certificate
  rise_breaks rise h fall =
      let e = h.edge in
      let low = fall e.from e.to h.upper h.lower e.leads (line_at rise.from e.from h.upper e.from_is) (line_at rise.to e.to h.lower e.to_is) in
      omega (arith, low, h.rises)

  pub mistake_breaks : (mistake : Mistake) → IsMistake p certificate mistake → ¬ SetsHold p certificate
  mistake_breaks (Unclosed place d) h sets = h.lacks (sets.closures h.node h.line d h.destruction (line_at place h.node h.line h.at) h.closure)
  mistake_breaks (Own place) h sets = sets.spared h.node h.line h.body (line_at place h.node h.line h.at) h.holds
  mistake_breaks (Lost first second d) h sets =
      let e = h.edge in
      h.lacks (sets.passed_on e.from e.to h.upper h.lower d e.leads (line_at first e.from h.upper e.from_is) (line_at second e.to h.lower e.to_is) h.holds)

  pub loose_breaks : (loose : Loose) → IsLoose certificate loose → ¬ IsBounded certificate
  loose_breaks TooGreat h bounded = omega (arith, h, bounded.bound)
  loose_breaks (NotAbove k) h bounded = let low = bounded.ranks h.line (element_at certificate.lines k h.line h.stands) in omega (arith, low, h.high)
