use Rattle.std.proofs.Common.{Option, Some, None, List, ℕ, Bor}
use Rattle.texts.specs.code.Splitting.{SplitsSymbol}
use Rattle.texts.specs.code.Symbols.{LacksDouble, SplitsSingle}
use Rattle.texts.specs.declared.symbol.Symbol.{Symbol}
use Rattle.texts.proofs.Table.{no_symbol, no_double, is_longest_single}
use Rattle.texts.proofs.symbol.split_symbol.Goals as goal

splits : (bytes : List ℕ) → LacksDouble bytes → (result : Option (Symbol × Bor (List ℕ))) → SplitsSingle bytes result → SplitsSymbol bytes result
splits bytes d None g = no_symbol bytes d g
splits bytes d (Some parts) e = is_longest_single parts.0 bytes parts.1.now (no_double bytes d) e

pub returns : goal.returns
returns c = splits c.args.bytes.now c.in_default.ensures c.split_single.result c.split_single.ensures
