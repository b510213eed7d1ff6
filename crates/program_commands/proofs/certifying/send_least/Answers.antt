use Rattle.std.proofs.Common.{rules}
use Rattle.command_lines.proofs.Sending.{sent, finished}
use Rattle.program_commands.proofs.certifying.send_least.Goals as goal

pub put_lines-requires-clause-scan : goal.put_lines-requires-clause-scan
put_lines-requires-clause-scan g c = c.requires.are.scan

pub put_lines-requires-clause-low : goal.put_lines-requires-clause-low
put_lines-requires-clause-low g c = c.requires.bounds.low

pub returns : goal.returns
returns g c =
    let lines = c.in_ok-put_lines.ensures in
    record {
      certificate = record { bound = c.args.bound; lines = lines.lines };
      least = c.requires.bounds.least lines.lines lines.are;
      takes = finished c.new-output.ensures.begun (sent c.certificate_head.ensures lines.puts) c.finish.ensures (search rules);
    }
