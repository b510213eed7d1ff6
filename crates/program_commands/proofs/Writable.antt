-- What is valid for a program can be written.
use Rattle.std.{proofs.Common.{ℕ, List, subst, arith}, specs.List.{Contains}}
use Rattle.basic_types.specs.{Signatures.{IsFreeName}, Laws.{IsNormalSig}}
use Rattle.meta_model.specs.{declared.object.MetaMethod.{MetaMethod}, declared.object.MetaProperty.{MetaProperty}, Loaded.{Loaded}, Members.{IsClassNamed}}
use Rattle.effect_scan.specs.declared.{node.Member.{Member}, node.Node.{Node}}
use Rattle.certificate_lang.{specs.declared.certificate.MemberName.{MemberName}, specs.declared.certificate.NodeName.{NodeName}, specs.declared.certificate.SetItem.{SetItem}, specs.declared.certificate.SetItem.TheVariants.{Class, Closure}, specs.declared.certificate.Line.{Line}, specs.declared.certificate.Certificate.{Certificate}, specs.Written.{IsWritableMember, IsWritableNode, IsWritableItem, IsWritableLine, IsWritable}, proofs.Lines.{text_is_read}}
use Rattle.certificate_lang.specs.declared.certificate.MemberName.TheVariants as member
use Rattle.program_commands.{specs.Names.{IsNamedObject, IsNamedLoaded}, proofs.NamesLoading.{all_at, at_all, loaded_is_named}, proofs.Reading.{read_is_named}, specs.Laws.{ValidIsWritable, MadeIsRead}}
use Rattle.rank_check.{specs.Names.{IsMemberNamed, IsNodeNamed}, specs.Valid.{StandsFor, IsValid}, proofs.Elements.{element_at}}

module _ (p : Loaded) (named : IsNamedLoaded p) where
  pub class_free : (name : List ℕ) (c : ℕ) → IsClassNamed p name c → IsFreeName name
  class_free name c h = subst IsFreeName h.named (at_all IsNamedObject p.classes named c h.class h.is.is).named

  pub item_writable : (item : SetItem) (c : ℕ) → StandsFor p item c → IsWritableItem item
  item_writable (Class name) c h = class_free name c h
  item_writable (Closure name) c h = class_free name h.0 h.1

  pub member_writable : (c : ℕ) (m : MemberName) (x : Member) → IsMemberNamed p c m x → IsWritableMember m
  member_writable c (member.Method sig) x h =
      let method = h.1 in
      let class = at_all IsNamedObject p.classes named c method.is.class method.is.is_class.is in
      subst IsNormalSig method.signed (at_all (λ (m : MetaMethod). IsNormalSig m.sig) method.is.class.methods class.methods h.0 method.method method.is.is)
  member_writable c (member.Property name) x h =
      let property = h.1 in
      let class = at_all IsNamedObject p.classes named c property.class property.is_class.is in
      subst IsFreeName property.named (at_all (λ (q : MetaProperty). IsFreeName q.name) property.class.properties class.properties h.0 property.property property.is)
  member_writable c member.Destruction x h = tt

  pub node_writable : (name : NodeName) (x : Node) → IsNodeNamed p name x → IsWritableNode name
  node_writable name x h = record { class = class_free name.class x.class h.class; member = member_writable x.class name.member x.member h.member }

  line_writable : (certificate : Certificate) → IsValid p certificate → (line : Line) → Contains certificate.lines line → IsWritableLine line
  line_writable certificate valid line stands =
      let node = valid.nothing_else.nodes line stands in
      let low = valid.bounded.ranks line stands in
      let most = valid.bounded.bound in
      record {
        node = node_writable line.node node.0 node.1;
        rank = omega arith;
        destroys = all_at IsWritableItem line.destroys (λ k item at. let there = valid.nothing_else.classes line stands item (element_at line.destroys k item at) in item_writable item there.0 there.1);
      }

  writable : (certificate : Certificate) → IsValid p certificate → IsWritable certificate
  writable certificate valid =
      let most = valid.bounded.bound in
      record {
        bound = omega arith;
        lines = all_at IsWritableLine certificate.lines (λ k line at. line_writable certificate valid line (element_at certificate.lines k line at));
      }

pub valid_is_writable : ValidIsWritable
valid_is_writable limits source program p certificate reads builds valid = writable p (loaded_is_named program p (read_is_named limits source program reads) builds) certificate valid

pub made_is_read : MadeIsRead
made_is_read limits source program p certificate reads builds makes = text_is_read certificate (valid_is_writable limits source program p certificate reads builds makes.valid)
