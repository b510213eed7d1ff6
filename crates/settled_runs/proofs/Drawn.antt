-- A site that covers a binding leads from what it reads to what it binds.
use Rattle.std.proofs.Common.{◌≡◌, ℕ, List, Option, Some, refl, ap, subst}
use Rattle.std.specs.List.{AllByRecursion}
use Rattle.meta_model.specs.Loaded.{Loaded}
use Rattle.effect_scan.specs.declared.node.Node.{Node}
use Rattle.effect_scan.specs.declared.node.Member.TheVariants.{Property}
use Rattle.effect_scan.specs.Edges.{MayLead, by_work, by_wire, by_notify, by_site, by_destruction, BySite}
use Rattle.effect_scan.specs.Nodes.{node}
use Rattle.binding_graph.specs.declared.binding.Binding.{Binding}
use Rattle.binding_graph.specs.declared.place.Place.{Place}
use Rattle.binding_graph.specs.Bindings.{Reads, binding_at}
use Rattle.object_machine.proofs.CheckedRuns.Invariant.{IsSited}
use Rattle.object_machine.proofs.CheckedRuns.Sites.{reads-lead}
use Rattle.object_machine.proofs.CheckedRuns.Staying.{bound-by}
use Rattle.settled_runs.specs.Writes.{IsAtNode, IsDrawn}

-- only a site leads from a property to a property
site-of : {p : Loaded} {c d q r : ℕ} → MayLead p (node c (Property q)) (node d (Property r)) → BySite p (node c (Property q)) (node d (Property r))
site-of (by_site w) = w
site-of (by_work w) = absurd (cc w.from)
site-of (by_wire w) = absurd (cc w.from.is)
site-of (by_notify w) = absurd (cc (ap (λ (x : Node). x.member) w.to))
site-of (by_destruction w) = absurd (cc w.from)

pub drawn : {p : Loaded} {classes : ℕ → Option ℕ} {b : Binding} {q m : Place} → IsSited p classes b → b.target ≡ q → Reads b m → IsDrawn p classes m q
drawn {p} {classes} {b} {q} {m} sited target reads =
    let leads = reads-lead sited reads in
    record {
      from = node leads.0 (Property m.property);
      is_from = record { class = leads.0; is = leads.1; at = refl };
      to = node sited.target.class (Property b.target.property);
      is_to = subst (λ (z : Place). IsAtNode classes z (node sited.target.class (Property b.target.property))) target (record { class = sited.target.class; is = sited.target.is; at = refl });
      site = site-of leads.2;
    }

-- .. so each binding of a covered world is drawn
pub all-drawn : {p : Loaded} {classes : ℕ → Option ℕ} (bindings : List Binding) → AllByRecursion (IsSited p classes) bindings
    → (q m : Place) (b : Binding) → binding_at bindings q ≡ Some b → Reads b m → IsDrawn p classes m q
all-drawn {p} {classes} bindings sited q m b is reads = let found = bound-by (IsSited p classes) bindings sited q b is in drawn found.0 found.1 reads
