-- Least certificates are equal.
use Rattle.std.{proofs.Common.{◌≡◌, inl, inr, ℕ, zero, suc, ◌<◌, List, [], ◌∷◌, slice_get, Some, Ok, refl, sym, ap, ◌∙◌, subst, arith}, specs.List.{Contains, AllZip}, proofs.lemmas.Option.{same_Some}}
use Rattle.basic_types.specs.declared.sig.Sig.{Sig}
use Rattle.syntax_trees.specs.declared.program.Program.{Program}
use Rattle.meta_model.specs.{declared.object.MetaMethod.{MetaMethod}, declared.object.MetaObject.{MetaObject}, Loaded.{Loaded}, Members.{IsClassNamed, HasSig, IsPropertyNamed}, Sound.{IsSound}}
use Rattle.meta_objects.{specs.Builds.{Builds}, proofs.FoundClasses.{one_loading, form_sound}}
use Rattle.class_lang.proofs.OneAnswer.{one_program_text}
use Rattle.effect_scan.specs.{declared.node.Node.{Node}, declared.node.Member.{Member}, Nodes.{nodes_of}}
use Rattle.effect_scan.specs.declared.node.Member.TheVariants as place
use Rattle.certificate_lang.specs.{declared.certificate.MemberName.{MemberName}, declared.certificate.NodeName.{NodeName}, declared.certificate.SetItem.{SetItem}, declared.certificate.Line.{Line}, declared.certificate.Certificate.{Certificate}}
use Rattle.certificate_lang.specs.declared.certificate.MemberName.TheVariants as member
use Rattle.certificate_lang.specs.declared.certificate.SetItem.TheVariants as item
use Rattle.rank_check.specs.{Names.{IsMemberNamed, IsNodeNamed}, Valid.{IsLineOf}}
use Rattle.rank_graph.proofs.Distinct.{in_first, in_rest}
use Rattle.rank_make.specs.Least.{AreWritten, IsClosureOf, IsLeastValid}
use Rattle.program_commands.{specs.Laws.{OneLeast, OneMade}, proofs.Increasing.{one_list}}

module _ (p : Loaded) where
  -- ---- a class, a member and a node have one name
  class_name : (c : ℕ) (m n : List ℕ) → IsClassNamed p m c → IsClassNamed p n c → m ≡ n
  class_name c m n h g =
      let same : h.class ≡ g.class = same_Some h.class g.class (sym h.is.is ∙ g.is.is) in
      sym h.named ∙ (ap (λ (o : MetaObject). o.name) same ∙ g.named)

  method_sig : (c m : ℕ) (s t : Sig) → HasSig p c s m → HasSig p c t m → s ≡ t
  method_sig c m s t h g =
      let class : h.is.class ≡ g.is.class = same_Some h.is.class g.is.class (sym h.is.is_class.is ∙ g.is.is_class.is) in
      let at : slice_get g.is.class.methods m ≡ Some h.method = ap (λ (o : MetaObject). slice_get o.methods m) (sym class) ∙ h.is.is in
      let same : h.method ≡ g.method = same_Some h.method g.method (sym at ∙ g.is.is) in
      sym h.signed ∙ (ap (λ (x : MetaMethod). x.sig) same ∙ g.signed)

  property_name : (c q : ℕ) (m n : List ℕ) → IsPropertyNamed p c m q → IsPropertyNamed p c n q → m ≡ n
  property_name c q m n h g =
      let class : h.class ≡ g.class = same_Some h.class g.class (sym h.is_class.is ∙ g.is_class.is) in
      let at : slice_get g.class.properties q ≡ Some h.property = ap (λ (o : MetaObject). slice_get o.properties q) (sym class) ∙ h.is in
      let same : h.property ≡ g.property = same_Some h.property g.property (sym at ∙ g.is) in
      sym h.named ∙ (ap (λ x. x.name) same ∙ g.named)

  member_name : (c : ℕ) (a b : MemberName) (x : Member) → IsMemberNamed p c a x → IsMemberNamed p c b x → a ≡ b
  member_name c (member.Method s) (member.Method t) x h g =
      let method : place.Method h.0 ≡ place.Method g.0 = sym h.2 ∙ g.2 in
      let same : g.0 ≡ h.0 = cc in
      ap (λ (y : Sig). member.Method y) (method_sig c h.0 s t h.1 (subst (λ (m : ℕ). HasSig p c t m) same g.1))
  member_name c (member.Property m) (member.Property n) x h g =
      let property : place.Property h.0 ≡ place.Property g.0 = sym h.2 ∙ g.2 in
      let same : g.0 ≡ h.0 = cc in
      ap (λ (y : List ℕ). member.Property y) (property_name c h.0 m n h.1 (subst (λ (q : ℕ). IsPropertyNamed p c n q) same g.1))
  member_name c member.Destruction member.Destruction x h g = refl
  member_name c (member.Method s) (member.Property n) x h g = let no : place.Method h.0 ≡ place.Property g.0 = sym h.2 ∙ g.2 in absurd cc
  member_name c (member.Method s) member.Destruction x h g = let no : place.Method h.0 ≡ place.Destruction = sym h.2 ∙ g in absurd cc
  member_name c (member.Property m) (member.Method t) x h g = let no : place.Property h.0 ≡ place.Method g.0 = sym h.2 ∙ g.2 in absurd cc
  member_name c (member.Property m) member.Destruction x h g = let no : place.Property h.0 ≡ place.Destruction = sym h.2 ∙ g in absurd cc
  member_name c member.Destruction (member.Method t) x h g = let no : place.Destruction ≡ place.Method g.0 = sym h ∙ g.2 in absurd cc
  member_name c member.Destruction (member.Property n) x h g = let no : place.Destruction ≡ place.Property g.0 = sym h ∙ g.2 in absurd cc

  node_name : (a b : NodeName) (x : Node) → IsNodeNamed p a x → IsNodeNamed p b x → a ≡ b
  node_name a b x h g =
      let class = class_name x.class a.class b.class h.class g.class in
      let named = member_name x.class a.member b.member x.member h.member g.member in
      ap (λ (c : List ℕ). let n : NodeName = record { class = c; member = a.member } in n) class
      ∙ ap (λ (m : MemberName). let n : NodeName = record { class = b.class; member = m } in n) named

  set_items : (cs : List ℕ) (ms ns : List SetItem) → AllZip (IsClosureOf p) ms cs → AllZip (IsClosureOf p) ns cs → ms ≡ ns
  set_items [] [] [] h g = refl
  set_items [] (m ∷ ms) ns h g = absurd h
  set_items [] [] (n ∷ ns) h g = absurd g
  set_items (c ∷ cs) [] ns h g = absurd h
  set_items (c ∷ cs) (m ∷ ms) [] h g = absurd g
  set_items (c ∷ cs) (item.Class m ∷ ms) (n ∷ ns) h g = absurd h.0
  set_items (c ∷ cs) (item.Closure m ∷ ms) (item.Class n ∷ ns) h g = absurd g.0
  set_items (c ∷ cs) (item.Closure m ∷ ms) (item.Closure n ∷ ns) h g =
      ap (λ (x : List ℕ). item.Closure x ∷ ms) (class_name c m n h.0 g.0) ∙ ap (λ (xs : List SetItem). item.Closure n ∷ xs) (set_items cs ms ns h.1 g.1)

  -- ---- sets
  -- what is written of a set is written of any set with the same classes
  module _ {P Q : ℕ → Type 0} (cs ds : List ℕ) (h : AreWritten p P cs) (g : AreWritten p Q ds) (to : (e : ℕ) → P e → Q e) (back : (e : ℕ) → Q e → P e) where
    abbrev IsSameAt : ℕ → Type 0
    IsSameAt e = (Contains cs e → Contains ds e) × (Contains ds e → Contains cs e)

    -- .. class by class, since those before decide what is implied
    same_below : (n e : ℕ) → e < n → IsSameAt e
    same_below zero e low = absurd (omega (arith, low))
    same_below (suc n) e low = (
      λ held.
          let here = h.each e held in
          elim (g.all e (to e here.0)) [
            | inl there ↦ there
            | inr c ↦ absurd (here.1 (record { before = c.before; among = (same_below n c.before (omega (arith, c.lower, low))).1 c.among; lower = c.lower; closure = c.closure }))
          ],
      λ held.
          let here = g.each e held in
          elim (h.all e (back e here.0)) [
            | inl there ↦ there
            | inr c ↦ absurd (here.1 (record { before = c.before; among = (same_below n c.before (omega (arith, c.lower, low))).0 c.among; lower = c.lower; closure = c.closure }))
          ],
    )

    written_same : cs ≡ ds
    written_same = one_list cs ds h.increasing g.increasing (λ e held. (same_below (suc e) e (omega arith)).0 held) (λ e held. (same_below (suc e) e (omega arith)).1 held)

  module _ (is : IsSound p) where
    module _ (a b : Certificate) (h : IsLeastValid p a) (g : IsLeastValid p b) where
      line_same : (x : Node) (l m : Line) → IsLineOf p a x l → IsLineOf p b x m → l ≡ m
      line_same x l m la lb =
          let node : l.node ≡ m.node = node_name l.node m.node x la.named lb.named in
          let low = h.least.ranks b g.valid x l m la lb in
          let high = g.least.ranks a h.valid x m l lb la in
          let rank : l.rank ≡ m.rank = omega arith in
          let first = h.order.sets l la.stands in
          let second = g.order.sets m lb.stands in
          let classes : first.classes ≡ second.classes =
          written_same first.classes second.classes first.written second.written (λ d listed. h.least.sets b g.valid x l m d la lb listed) (λ d listed. g.least.sets a h.valid x m l d lb la listed)
          in
          let destroys : l.destroys ≡ m.destroys = set_items second.classes l.destroys m.destroys (subst (λ (cs : List ℕ). AllZip (IsClosureOf p) l.destroys cs) classes first.closures) second.closures in
          ap (λ (n : NodeName). let y : Line = record { node = n; rank = l.rank; destroys = l.destroys } in y) node
          ∙ (ap (λ (k : ℕ). let y : Line = record { node = m.node; rank = k; destroys = l.destroys } in y) rank
          ∙ ap (λ (ds : List SetItem). let y : Line = record { node = m.node; rank = m.rank; destroys = ds } in y) destroys)

      lines_same : (xs : List Node) (ls ms : List Line) → AllZip (λ x (line : Line). IsNodeNamed p line.node x) xs ls → AllZip (λ x (line : Line). IsNodeNamed p line.node x) xs ms
          → ((l : Line) → Contains ls l → Contains a.lines l) → ((m : Line) → Contains ms m → Contains b.lines m) → ls ≡ ms
      lines_same [] [] [] hl hm sl sm = refl
      lines_same [] (l ∷ ls) ms hl hm sl sm = absurd hl
      lines_same [] [] (m ∷ ms) hl hm sl sm = absurd hm
      lines_same (x ∷ xs) [] ms hl hm sl sm = absurd hl
      lines_same (x ∷ xs) (l ∷ ls) [] hl hm sl sm = absurd hm
      lines_same (x ∷ xs) (l ∷ ls) (m ∷ ms) hl hm sl sm =
          let one = line_same x l m (record { stands = sl l (in_first l ls); named = hl.0 }) (record { stands = sm m (in_first m ms); named = hm.0 }) in
          let more = lines_same xs ls ms hl.1 hm.1 (λ k held. sl k (in_rest l ls k held)) (λ k held. sm k (in_rest m ms k held)) in
          ap (λ (y : Line). y ∷ ls) one ∙ ap (λ (ys : List Line). m ∷ ys) more

      same : a ≡ b
      same =
          let low = h.least.bound b g.valid in
          let high = g.least.bound a h.valid in
          let bound : a.bound ≡ b.bound = omega arith in
          let lines = lines_same (nodes_of p) a.lines b.lines h.order.nodes g.order.nodes (λ l held. held) (λ m held. held) in
          ap (λ (n : ℕ). let c : Certificate = record { bound = n; lines = a.lines } in c) bound
          ∙ ap (λ (ls : List Line). let c : Certificate = record { bound = b.bound; lines = ls } in c) lines

pub one_least : OneLeast
one_least p is a b h g = same p is a b h g

-- ---- one certificate for a text
pub one_made : OneMade
one_made limits source a b h g =
    let program : h.program ≡ g.program = one_program_text limits source h.program g.program h.reads.text g.reads.text in
    let builds : Builds g.program (Ok h.loaded) = subst (λ (x : Program). Builds x (Ok h.loaded)) program h.builds in
    let loaded : h.loaded ≡ g.loaded = one_loading g.program h.loaded g.loaded builds g.builds in
    one_least g.loaded (form_sound g.program g.loaded g.builds) a b (subst (λ (p : Loaded). IsLeastValid p a) loaded h.makes) g.makes
