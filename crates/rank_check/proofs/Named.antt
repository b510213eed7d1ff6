-- The numbers of the nodes that are named.
use Rattle.std.proofs.Common.{◌≡◌, ℕ, length, Option, Some, None, sym, ap, ◌∙◌, subst}
use Rattle.basic_types.specs.declared.sig.Sig.{Sig}
use Rattle.meta_model.specs.Loaded.{Loaded}
use Rattle.name_indexes.specs.LookUps.{LooksUp, FindsOnly}
use Rattle.meta_model.specs.Members.{IsClassNamed, HasSig, IsMethodNamed}
use Rattle.meta_model.specs.Sound.{IsSound}
use Rattle.meta_model.proofs.OneAnswer.{one_class, one_named, one_property}
use Rattle.effect_scan.specs.declared.node.Node.{Node}
use Rattle.effect_scan.specs.declared.node.Member.{Member}
use Rattle.effect_scan.specs.declared.node.Member.TheVariants as member
use Rattle.effect_scan.specs.Nodes.{node, nodes_of, IsAt}
use Rattle.certificate_lang.specs.declared.certificate.NodeName.{NodeName}
use Rattle.certificate_lang.specs.declared.certificate.MemberName.{MemberName}
use Rattle.certificate_lang.specs.declared.certificate.MemberName.TheVariants.{Method, Property, Destruction}
use Rattle.rank_check.specs.Names.{IsMemberNamed, IsMemberOf}
use Rattle.rank_check.specs.Entries.{IsNumberNamed}

module _ (p : Loaded) (name : NodeName) where
  pub no_class : ((c : ℕ) → ¬ IsClassNamed p name.class c) → (n : ℕ) → ¬ IsNumberNamed p name n
  no_class none n h = none h.node.class h.named.class

  module _ (c : ℕ) (class : IsClassNamed p name.class c) (only : (d : ℕ) → IsClassNamed p name.class d → d ≡ c) where
    member_here : (n : ℕ) (h : IsNumberNamed p name n) → IsMemberNamed p c name.member h.node.member
    member_here n h = subst (λ (d : ℕ). IsMemberNamed p d name.member h.node.member) (only h.node.class h.named.class) h.named.member

    pub no_member : ((m : Member) → ¬ IsMemberNamed p c name.member m) → (n : ℕ) → ¬ IsNumberNamed p name n
    no_member none n h = none h.node.member (member_here n h)

    module _ (m : Member) (member : IsMemberNamed p c name.member m) (only_member : (k : Member) → IsMemberNamed p c name.member k → k ≡ m) where
      number_at : (n : ℕ) → IsNumberNamed p name n → IsAt (nodes_of p) (node c m) n
      number_at n h =
          let same : h.node ≡ node c m = ap (λ (d : ℕ). node d h.node.member) (only h.node.class h.named.class) ∙ ap (node c) (only_member h.node.member (member_here n h)) in
          subst (λ (x : Node). IsAt (nodes_of p) x n) same h.at

      number_here : (n : ℕ) → IsAt (nodes_of p) (node c m) n → IsNumberNamed p name n
      number_here n at = record { node = node c m; named = record { class = class; member = member; node = (n, at) }; at = at }

      pub number_found : (o : Option ℕ) → LooksUp (IsAt (nodes_of p) (node c m)) o → LooksUp (IsNumberNamed p name) o
      number_found None none = λ n h. none n (number_at n h)
      number_found (Some n) at = number_here n at

      pub number_only : (o : Option ℕ) → FindsOnly (IsAt (nodes_of p) (node c m)) o → FindsOnly (IsNumberNamed p name) o
      number_only None h = tt
      number_only (Some n) h = λ k g. h k (number_at k g)

-- ---- one member has a name
module _ (p : Loaded) (sound : IsSound p) where
  named_by_sig : (c : ℕ) (sig : Sig) (m : ℕ) → HasSig p c sig m → IsMethodNamed p c sig.name (length sig.types) m
  named_by_sig c sig m h = record {
    method = h.method;
    is = h.is;
    named = ap (λ (s : Sig). s.name) h.signed;
    counted = ap (λ (s : Sig). length s.types) h.signed;
  }

  pub one_member : (c : ℕ) (name : MemberName) (m k : Member) → IsMemberNamed p c name m → IsMemberNamed p c name k → m ≡ k
  one_member c (Method sig) m k h g =
      let number : g.0 ≡ h.0 = one_named p sound c sig.name (length sig.types) h.0 g.0 (named_by_sig c sig h.0 h.1) (named_by_sig c sig g.0 g.1) in
      h.2 ∙ ap (λ (n : ℕ). member.Method n) (sym number) ∙ sym g.2
  one_member c (Property name) m k h g =
      let number : g.0 ≡ h.0 = one_property p sound c name h.0 g.0 h.1 g.1 in
      h.2 ∙ ap (λ (n : ℕ). member.Property n) (sym number) ∙ sym g.2
  one_member c Destruction m k h g = h ∙ sym g

  module _ (name : NodeName) (x : Node) (is : IsMemberOf p name x) where
    only_class : (d : ℕ) → IsClassNamed p name.class d → d ≡ x.class
    only_class d h = one_class p sound name.class x.class d is.class h

    only_member : (k : Member) → IsMemberNamed p x.class name.member k → k ≡ x.member
    only_member k h = one_member x.class name.member k x.member h is.member

    pub there_found : (o : Option ℕ) → LooksUp (IsAt (nodes_of p) x) o → LooksUp (IsNumberNamed p name) o
    there_found o h = number_found p name x.class is.class only_class x.member is.member only_member o h

    pub there_only : (o : Option ℕ) → FindsOnly (IsAt (nodes_of p) x) o → FindsOnly (IsNumberNamed p name) o
    there_only o h = number_only p name x.class is.class only_class x.member is.member only_member o h
