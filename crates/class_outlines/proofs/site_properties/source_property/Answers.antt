use Rattle.std.proofs.Common.{◌≡◌, [], ◌∷◌, length, arith, rules}
use Rattle.syntax_trees.specs.declared.syntax.Root.TheVariants as root
use Rattle.class_outlines.proofs.SiteProperties.{alone_of, no_formal, no_source, a_source}
use Rattle.class_outlines.proofs.site_properties.source_property.Goals as goal

pub returns-in_err-source : goal.returns-in_err-source
returns-in_err-source c =
    let rooted : c.args.path.now.root ≡ root.Name c.in-Name.formal = search rules in
    rw c.from_residual.ensures
    (no_formal c.args.outlines.now c.args.site.now c.args.path.now c.in-Name.formal rooted (rw c.as_slice-2.ensures at c.in_err-source.ensures))

pub returns-in_err-found : goal.returns-in_err-found
returns-in_err-found c =
    let rooted : c.args.path.now.root ≡ root.Name c.in-Name.formal = search rules in
    let one : length c.as_slice.result.now ≡ 1 = omega arith in
    let alone : c.args.path.now.properties ≡ c.name-item.result ∷ [] = rw c.as_slice.ensures at (alone_of c.as_slice.result.now c.name-item.result one c.name-item.is) in
    rw c.from_residual-in_err-found.ensures
    (no_source c.args.outlines.now c.args.site.now c.args.path.now c.in-Name.formal rooted c.name-item.result alone
    c.in_ok-source.source c.in_ok-source.formal.now (rw c.as_slice-2.ensures at c.in_ok-source.ensures) c.in_err-found.ensures)

pub returns : goal.returns
returns c =
    let rooted : c.args.path.now.root ≡ root.Name c.in-Name.formal = search rules in
    let one : length c.as_slice.result.now ≡ 1 = omega arith in
    let alone : c.args.path.now.properties ≡ c.name-item.result ∷ [] = rw c.as_slice.ensures at (alone_of c.as_slice.result.now c.name-item.result one c.name-item.is) in
    a_source c.args.outlines.now c.args.site.now c.args.path.now c.in-Name.formal rooted c.name-item.result alone
    c.in_ok-source.source c.in_ok-source.formal.now (rw c.as_slice-2.ensures at c.in_ok-source.ensures)
    c.in_ok-found.found.class c.in_ok-found.found.place c.in_ok-found.found.property.now c.in_ok-found.ensures
