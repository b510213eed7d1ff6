-- The numbers of refusals: 40 where a unique connection exists, 41 where there is nothing to disconnect.
use Rattle.std.specs.Prelude.{ℕ, Option, None, Some}
use Rattle.connections.specs.declared.fault.ConnectFault.{ConnectFault}
use Rattle.connections.specs.declared.fault.ConnectFault.TheVariants.{Exists, Memory}
use Rattle.connections.specs.declared.fault.DisconnectFault.{DisconnectFault}
use Rattle.connections.specs.declared.fault.DisconnectFault.TheVariants.{NoConnection}

abbrev pub connect_number : ConnectFault → Option ℕ
connect_number Exists = Some 40
connect_number Memory = None

abbrev pub disconnect_number : DisconnectFault → ℕ
disconnect_number NoConnection = 41
