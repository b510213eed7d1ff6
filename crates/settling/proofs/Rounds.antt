-- The sets of a valid certificate settle.
use Rattle.std.proofs.Common.{◌<◌, arith}
use Rattle.std.specs.List.{Contains}
use Rattle.meta_model.specs.Loaded.{Loaded}
use Rattle.effect_scan.specs.declared.node.Node.{Node}
use Rattle.rank_check.proofs.Elements.{place_of}
use Rattle.settling.specs.Settles.{Silent, one, more, Settles}
use Rattle.settling.specs.declared.certificate.SettlingLine.{SettlingLine}
use Rattle.settling.specs.declared.certificate.SettlingSet.{SettlingSet}
use Rattle.settling.specs.declared.certificate.SettlingCertificate.{SettlingCertificate}
use Rattle.settling.specs.Sets.{IsMember, AreTogether}
use Rattle.settling.specs.Valid.{IsLineOf, IsValid}

module _ {p : Loaded} {certificate : SettlingCertificate} (valid : IsValid p certificate) (set : SettlingSet) (there : Contains certificate.sets set) where
  abbrev In : Node → Type 0
  In x = IsMember p set x

  together : (x y : Node) → In x → In y → AreTogether p certificate x y
  together x y a b =
      let at = place_of certificate.sets set there in
      (at.0, record { set = set; stands = at.1; member = a }, record { set = set; stands = at.1; member = b })

  begins : {x y : Node} → Silent p In x y → In x
  begins (one a b leads other) = a
  begins (more chain b leads other) = begins chain

  ends : {x y : Node} → Silent p In x y → In y
  ends (one a b leads other) = b
  ends (more chain b leads other) = b

  line_at : (x : Node) → In x → (line : SettlingLine) × IsLineOf p certificate x line
  line_at x is = valid.each_node x is.named.node

  falls : {x z : Node} (a b : SettlingLine) → Silent p In x z → IsLineOf p certificate x a → IsLineOf p certificate z b → b.rank < a.rank
  falls {x} {z} a b (one in_x in_z leads other) from to = valid.edges.falls_within x z a b leads from to (together x z in_x in_z) other
  falls {x} {z} a b (more {y = y} chain in_z leads other) from to =
      let middle = line_at y (ends chain) in
      let first = falls a middle.0 chain from middle.1 in
      let last = valid.edges.falls_within y z middle.0 b leads middle.1 to (together y z (ends chain) in_z) other in
      omega (arith, first, last)

  pub set_settles : Settles p (λ x. IsMember p set x)
  set_settles = record {
    carries = (valid.rounds set there).carries;
    hand_on = λ x y a b way. valid.edges.within x y (together x y a b) way way;
    returns = λ x chain. let line = line_at x (begins chain) in let fall = falls line.0 line.0 chain line.1 line.1 in omega (arith, fall);
  }
