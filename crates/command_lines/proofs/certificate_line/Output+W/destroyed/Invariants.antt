use Rattle.std.proofs.Common.{take}
use Rattle.std.specs.List.{flat_map}
use Rattle.certificate_lang.specs.Texts.{listed_text}
use Rattle.command_lines.specs.Sent.{Puts}
use Rattle.command_lines.proofs.certificate_line.Output+W.destroyed.Given as goal

abbrev pub invariant-loop-item : goal.invariant-loop-item
invariant-loop-item g l =
    Puts g.W.Write.contents l.initial.self l.self
    (flat_map listed_text (take l.item-index l.items))
