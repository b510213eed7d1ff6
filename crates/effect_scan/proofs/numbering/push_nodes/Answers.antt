use Rattle.std.proofs.Common.{◌≡◌, ◌+◌, ◌-◌, ℕ, arith}
use Rattle.meta_model.specs.declared.qobject.TheConstants.{OBJECT_NAME_CHANGED}
use Rattle.effect_scan.specs.declared.node.Member.TheVariants.{Method, Property}
use Rattle.effect_scan.specs.Nodes.{node}
use Rattle.effect_scan.proofs.Numbered.{members_more, class_made, if_made}
use Rattle.effect_scan.proofs.numbering.push_nodes.Goals as goal

pub loop-method-preserved : goal.loop-method-preserved
loop-method-preserved c =
    let at : OBJECT_NAME_CHANGED + (c.loop-method.method - OBJECT_NAME_CHANGED) ≡ c.loop-method.method = omega arith in
    let next : c.loop-method.method + 1 - OBJECT_NAME_CHANGED ≡ (c.loop-method.method - OBJECT_NAME_CHANGED) + 1 = omega arith in
    (members_more (λ (m : ℕ). node c.args.class (Method m)) OBJECT_NAME_CHANGED _ _ _ _ _ _ c.loop-method.invariant.0 c.in_ok-push-2.ensures.ok at next, omega arith)

pub loop-property-preserved : goal.loop-property-preserved
loop-property-preserved c = members_more (λ (q : ℕ). node c.args.class (Property q)) 0 _ _ _ _ _ _ c.loop-property.invariant c.in_ok-push-3.ensures.ok (omega arith) (omega arith)

pub returns : goal.returns
returns c =
    let methods : c.loop-method.method - OBJECT_NAME_CHANGED ≡ c.args.shape.methods - OBJECT_NAME_CHANGED = omega (arith, c.loop-method.invariant.1) in
    let properties : c.loop-property.property ≡ c.args.shape.properties = omega arith in
    if_made c.push-2.result _ _ (λ e. class_made c.args.class c.args.shape (c.loop-method.method - OBJECT_NAME_CHANGED) c.loop-property.property c.args.nodes.now c.push.new.self c.loop-method.nodes c.loop-property.nodes c.push-2.new.self c.in_ok-push.ensures.ok c.loop-method.invariant.0 methods c.loop-property.invariant properties e) c.push-2.ensures.ok
