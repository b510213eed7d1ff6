use Rattle.std.proofs.Common.{ap, refl}
use Rattle.std.specs.Map.{lookup}
use Rattle.binding_graph.specs.code.Keys.{key_of, same_key}
use Rattle.binding_graph.proofs.Compacting.{Entries}
use Rattle.binding_graph.proofs.Noted.{same-keyed}
use Rattle.binding_graph.proofs.installed.Installed.reserve.Goals as goal

pub returns-in_err-reserve-clause-keyed : goal.returns-in_err-reserve-clause-keyed
returns-in_err-reserve-clause-keyed c = same-keyed c.close_up.new.self _ c.close_up.ensures.keyed c.reserve.ensures.items (λ q. refl)

pub returns-clause-keyed : goal.returns-clause-keyed
returns-clause-keyed c = same-keyed c.close_up.new.self _ c.close_up.ensures.keyed c.reserve.ensures.items
    (λ q. ap (λ (es : Entries). lookup (same_key (key_of q)) es) c.reserve-2.ensures.entries)
