-- The edges between nodes, by their numbers.
use Rattle.std.{proofs.Common.{◌≡◌, ◌⊎◌, inl, inr, ℕ, List, [], length, replicate, refl, sym, ap, ◌∙◌, subst}, specs.List.{Contains}, proofs.lemmas.List.{length-replicate}, proofs.lemmas.Option.{slice_get-get_or, get_or_from_slice_get}}
use Rattle.meta_model.{specs.declared.qobject.TheConstants.{DESTROYED}, specs.Loaded.{Loaded}, proofs.InLists.{in_list, place_in}}
use Rattle.effect_scan.{specs.declared.node.Node.{Node}, specs.declared.node.Member.{Member}, specs.declared.node.Member.TheVariants.{Method, Property, Destruction}, specs.declared.effect.Reach.{Reach}, specs.declared.places.NodePlaces.{NodePlaces}, specs.Nodes.{node, named, nodes_of, IsAt}, specs.Rows.{row, Edge}, specs.code.Adding.{Adds, AreOrdered}, specs.code.NodePlaces.{InBelow, ReachedBy, ArePlaces}, specs.Destroying.{AreClosures}, specs.Edges.{AtOrBelow, ReachedAs, ByWork, ByWire, ByNotify, BySite, ByDestruction, MayLead, by_work, by_wire, by_notify, by_site, by_destruction, LeadsAt}, specs.code.Leading.{WiresLead, WorksLead, NotifiersLead, SitesLead, ClosuresLead}, specs.Scans.{AreEdges}, proofs.Adding.{edge_inside, empty_edge}}
use Rattle.effect_scan.specs.declared.effect.Reach.TheVariants as reach

-- a member of class c is that node
pub made : (x : Node) (c : ℕ) (member : Member) → x.class ≡ c → x.member ≡ member → node c member ≡ x
made x c member class is = ap (λ (k : ℕ). node k member) (sym class) ∙ ap (λ (m : Member). node x.class m) (sym is)

module _ (p : Loaded) (places : NodePlaces) (are : ArePlaces p places) where
  at_node : (x : Node) (n : ℕ) → IsAt places.numbering x n → IsAt (nodes_of p) x n
  at_node x n h = subst (λ (l : List Node). IsAt l x n) are.numbering h

  at_place : (x : Node) (n : ℕ) → IsAt (nodes_of p) x n → IsAt places.numbering x n
  at_place x n h = subst (λ (l : List Node). IsAt l x n) (sym are.numbering) h

  -- a number of some member below a class
  below_is : (c : ℕ) (member : Member) (n : ℕ) → InBelow places c member n → (x : Node) × IsAt (nodes_of p) x n × AtOrBelow p c member x
  below_is c member n h = (node h.0 member, at_node (node h.0 member) n h.2, record { below = (are.lineage.members c h.0).0 h.1; is = refl })

  is_below : (c : ℕ) (member : Member) (x : Node) (n : ℕ) → IsAt (nodes_of p) x n → AtOrBelow p c member x → InBelow places c member n
  is_below c member x n at h =
      (x.class, (are.lineage.members c x.class).1 h.below, subst (λ (y : Node). IsAt places.numbering y n) (sym (made x x.class member refl h.is)) (at_place x n at))

  reached_by : (c : ℕ) (member : Member) (r : Reach) (n : ℕ) → ReachedBy places c member r n → (x : Node) × IsAt (nodes_of p) x n × ReachedAs p c member r x
  reached_by c member reach.Own n h = (node c member, at_node (node c member) n h, refl)
  reached_by c member (reach.Below k) n h = below_is k member n h

  by_reached : (c : ℕ) (member : Member) (r : Reach) (x : Node) (n : ℕ) → IsAt (nodes_of p) x n → ReachedAs p c member r x → ReachedBy places c member r n
  by_reached c member reach.Own x n at h = subst (λ (y : Node). IsAt places.numbering y n) h (at_place x n at)
  by_reached c member (reach.Below k) x n at h = is_below k member x n at h

  -- ---- methods
  works_to : (a b : ℕ) → WorksLead places p.classes a b → LeadsAt p (ByWork p) a b
  works_to a b h =
      let m = h.leads in
      let l = m.leads in
      let to = reached_by h.place l.effect.member l.effect.reach b l.to in
      record {
        from = node h.place (Method m.place);
        to = to.0;
        is_from = at_node (node h.place (Method m.place)) a l.from;
        is_to = to.1;
        leads = record {
          number = m.place;
          method = m.item;
          is = record { class = h.item; is_class = record { is = h.is }; is = m.is };
          from = refl;
          effect = l.effect;
          has = l.has;
          to = to.2;
        };
      }

  works_from : (a b : ℕ) → LeadsAt p (ByWork p) a b → WorksLead places p.classes a b
  works_from a b h =
      let w = h.leads in
      record {
        place = h.from.class;
        item = w.is.class;
        is = w.is.is_class.is;
        leads = record {
          place = w.number;
          item = w.method;
          is = w.is.is;
          leads = record {
            from = subst (λ (y : Node). IsAt places.numbering y a) (sym (made h.from h.from.class (Method w.number) refl w.from)) (at_place h.from a h.is_from);
            effect = w.effect;
            has = w.has;
            to = by_reached h.from.class w.effect.member w.effect.reach h.to b h.is_to w.to;
          };
        };
      }

  -- ---- wires
  wires_to : (a b : ℕ) → WiresLead places p.wires a b → LeadsAt p (ByWire p) a b
  wires_to a b h =
      let l = h.leads in
      let x = below_is h.item.sender (Method (named h.item.signal)) a l.from in
      let y = below_is h.item.receiver (Method h.item.method) b l.to in
      record {
        from = x.0;
        to = y.0;
        is_from = x.1;
        is_to = y.1;
        leads = record { wire = h.item; declared = in_list p.wires h.place h.item h.is; at_once = l.at_once; from = x.2; to = y.2 };
      }

  wires_from : (a b : ℕ) → LeadsAt p (ByWire p) a b → WiresLead places p.wires a b
  wires_from a b h =
      let w = h.leads in
      let at = place_in p.wires w.wire w.declared in
      record {
        place = at.0;
        item = w.wire;
        is = at.1;
        leads = record {
          at_once = w.at_once;
          from = is_below w.wire.sender (Method (named w.wire.signal)) h.from a h.is_from w.from;
          to = is_below w.wire.receiver (Method w.wire.method) h.to b h.is_to w.to;
        };
      }

  -- ---- notify signals
  notifiers_to : (a b : ℕ) → NotifiersLead places p.classes a b → LeadsAt p (ByNotify p) a b
  notifiers_to a b h =
      let q = h.leads in
      let l = q.leads in
      record {
        from = node h.place (Property q.place);
        to = node h.place (Method (named l.signal));
        is_from = at_node (node h.place (Property q.place)) a l.from;
        is_to = at_node (node h.place (Method (named l.signal))) b l.to;
        leads = record {
          number = q.place;
          property = q.item;
          is = record { class = h.item; is_class = record { is = h.is }; is = q.is };
          from = refl;
          signal = l.signal;
          notifies = l.notifies;
          to = refl;
        };
      }

  notifiers_from : (a b : ℕ) → LeadsAt p (ByNotify p) a b → NotifiersLead places p.classes a b
  notifiers_from a b h =
      let n = h.leads in
      record {
        place = h.from.class;
        item = n.is.class;
        is = n.is.is_class.is;
        leads = record {
          place = n.number;
          item = n.property;
          is = n.is.is;
          leads = record {
            signal = n.signal;
            notifies = n.notifies;
            from = subst (λ (y : Node). IsAt places.numbering y a) (sym (made h.from h.from.class (Property n.number) refl n.from)) (at_place h.from a h.is_from);
            to = subst (λ (y : Node). IsAt places.numbering y b) n.to (at_place h.to b h.is_to);
          };
        };
      }

  -- ---- binding sites
  sites_to : (a b : ℕ) → SitesLead places p.sites a b → LeadsAt p (BySite p) a b
  sites_to a b h =
      let l = h.leads in
      let r = l.from in
      let x = below_is r.2.0 (Property r.0.property) a r.2.2 in
      let y = below_is h.item.class (Property h.item.property) b l.to in
      record {
        from = x.0;
        to = y.0;
        is_from = x.1;
        is_to = y.1;
        leads = record {
          site = h.item;
          declared = in_list p.sites h.place h.item h.is;
          source = r.0;
          reads = r.1;
          class = r.2.0;
          formal = r.2.1;
          from = x.2;
          to = y.2;
        };
      }

  sites_from : (a b : ℕ) → LeadsAt p (BySite p) a b → SitesLead places p.sites a b
  sites_from a b h =
      let s = h.leads in
      let at = place_in p.sites s.site s.declared in
      record {
        place = at.0;
        item = s.site;
        is = at.1;
        leads = record {
          from = (s.source, s.reads, (s.class, s.formal, is_below s.class (Property s.source.property) h.from a h.is_from s.from));
          to = is_below s.site.class (Property s.site.property) h.to b h.is_to s.to;
        };
      }

  -- ---- destructions
  module _ (closures : List (List ℕ)) (c : AreClosures p closures) where
    closures_to : (a b : ℕ) → ClosuresLead places closures a b → LeadsAt p (ByDestruction p) a b
    unfolding row
    closures_to a b h =
        let l = h.leads in
        let in_row : Edge closures h.place l.to.0 = subst (λ (r : List ℕ). Contains r l.to.0) (sym (get_or_from_slice_get closures h.place h.item [] h.is)) l.to.1 in
        record {
          from = node h.place Destruction;
          to = node l.to.0 (Method DESTROYED);
          is_from = at_node (node h.place Destruction) a l.from;
          is_to = at_node (node l.to.0 (Method DESTROYED)) b l.to.2;
          leads = record { from = refl; to = refl; closure = (c.members h.place l.to.0).0 in_row };
        }

    closures_from : (a b : ℕ) → LeadsAt p (ByDestruction p) a b → ClosuresLead places closures a b
    unfolding row
    closures_from a b h =
        let d = h.leads in
        let in_row : Edge closures h.from.class h.to.class = (c.members h.from.class h.to.class).1 d.closure in
        let low = edge_inside closures h.from.class h.to.class in_row in
        record {
          place = h.from.class;
          item = row closures h.from.class;
          is = slice_get-get_or closures h.from.class [] low;
          leads = record {
            from = subst (λ (y : Node). IsAt places.numbering y a) (sym (made h.from h.from.class Destruction refl d.from)) (at_place h.from a h.is_from);
            to = (h.to.class, in_row, subst (λ (y : Node). IsAt places.numbering y b) (sym (made h.to h.to.class (Method DESTROYED) refl d.to)) (at_place h.to b h.is_to));
          };
        }

    -- ---- all of them
    to_lead : (R : Node → Node → Type 0) (a b : ℕ) → ((x y : Node) → R x y → MayLead p x y) → LeadsAt p R a b → LeadsAt p (MayLead p) a b
    to_lead R a b more h = record { from = h.from; to = h.to; is_from = h.is_from; is_to = h.is_to; leads = more h.from h.to h.leads }

    abbrev Leads : ℕ → ℕ → Type 0
    Leads a b = (WorksLead places p.classes a b ⊎ WiresLead places p.wires a b) ⊎ ((NotifiersLead places p.classes a b ⊎ SitesLead places p.sites a b) ⊎ ClosuresLead places closures a b)

    leads_to : (a b : ℕ) → Leads a b → LeadsAt p (MayLead p) a b
    leads_to a b (inl (inl h)) = to_lead (ByWork p) a b (λ x y r. by_work r) (works_to a b h)
    leads_to a b (inl (inr h)) = to_lead (ByWire p) a b (λ x y r. by_wire r) (wires_to a b h)
    leads_to a b (inr (inl (inl h))) = to_lead (ByNotify p) a b (λ x y r. by_notify r) (notifiers_to a b h)
    leads_to a b (inr (inl (inr h))) = to_lead (BySite p) a b (λ x y r. by_site r) (sites_to a b h)
    leads_to a b (inr (inr h)) = to_lead (ByDestruction p) a b (λ x y r. by_destruction r) (closures_to a b h)

    leads_from : (a b : ℕ) → LeadsAt p (MayLead p) a b → Leads a b
    leads_from a b h = case h.leads
      where
        at : (R : Node → Node → Type 0) → R h.from h.to → LeadsAt p R a b
        at R r = record { from = h.from; to = h.to; is_from = h.is_from; is_to = h.is_to; leads = r }

        case : MayLead p h.from h.to → Leads a b
        case (by_work r) = inl (inl (works_from a b (at (ByWork p) r)))
        case (by_wire r) = inl (inr (wires_from a b (at (ByWire p) r)))
        case (by_notify r) = inr (inl (inl (notifiers_from a b (at (ByNotify p) r))))
        case (by_site r) = inr (inl (inr (sites_from a b (at (BySite p) r))))
        case (by_destruction r) = inr (inr (closures_from a b (at (ByDestruction p) r)))

    pub edges_are : (r0 r1 r2 r3 f r4 r5 lists : List (List ℕ)) → r0 ≡ replicate (length places.numbering) [] → Adds (WorksLead places p.classes) r0 r1 → Adds (NotifiersLead places p.classes) r1 r2
        → Adds (ClosuresLead places closures) r2 r3 → f ≡ r3 → Adds (WiresLead places p.wires) f r4 → Adds (SitesLead places p.sites) r4 r5 → AreOrdered r5 lists → AreEdges p lists
    edges_are r0 r1 r2 r3 f r4 r5 lists empty a1 a2 a3 same a4 a5 ordered = record {
      count =
          ordered.count ∙ a5.count ∙ a4.count ∙ ap length same ∙ a3.count ∙ a2.count ∙ a1.count ∙ ap length empty
          ∙ length-replicate (length places.numbering) [] ∙ ap length are.numbering;
      edges = λ a b. (
        λ h. leads_to a b (split a b (((ordered.each a).same b).0 h)),
        λ h. ((ordered.each a).same b).1 (joined a b (leads_from a b h)),
      );
      increasing = λ a. (ordered.each a).increasing;
    }
      where
        split : (a b : ℕ) → Edge r5 a b → Leads a b
        split a b h =
            elim ((a5.edges a b).0 h) [
              | inl h4 ↦
                  elim ((a4.edges a b).0 h4) [
                    | inl h3 ↦
                        elim ((a3.edges a b).0 (subst (λ (l : List (List ℕ)). Edge l a b) same h3)) [
                          | inl h2 ↦
                              elim ((a2.edges a b).0 h2) [
                                | inl h1 ↦
                                    elim ((a1.edges a b).0 h1) [
                                      | inl h0 ↦ absurd (empty_edge (length places.numbering) a b (subst (λ (l : List (List ℕ)). Edge l a b) empty h0))
                                      | inr new ↦ inl (inl new)
                                    ]
                                | inr new ↦ inr (inl (inl new))
                              ]
                          | inr new ↦ inr (inr new)
                        ]
                    | inr new ↦ inl (inr new)
                  ]
              | inr new ↦ inr (inl (inr new))
            ]

        -- what was added stays
        from4 : (a b : ℕ) → Edge r4 a b → Edge r5 a b
        from4 a b h = (a5.edges a b).1 (inl h)

        from3 : (a b : ℕ) → Edge r3 a b → Edge r5 a b
        from3 a b h = from4 a b ((a4.edges a b).1 (inl (subst (λ (l : List (List ℕ)). Edge l a b) (sym same) h)))

        from2 : (a b : ℕ) → Edge r2 a b → Edge r5 a b
        from2 a b h = from3 a b ((a3.edges a b).1 (inl h))

        joined : (a b : ℕ) → Leads a b → Edge r5 a b
        joined a b (inl (inl h)) = from2 a b ((a2.edges a b).1 (inl ((a1.edges a b).1 (inr h))))
        joined a b (inl (inr h)) = from4 a b ((a4.edges a b).1 (inr h))
        joined a b (inr (inl (inl h))) = from2 a b ((a2.edges a b).1 (inr h))
        joined a b (inr (inl (inr h))) = (a5.edges a b).1 (inr h)
        joined a b (inr (inr h)) = from3 a b ((a3.edges a b).1 (inr h))
