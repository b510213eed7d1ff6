use Rattle.traces.proofs.Lines.{one_line_more, all_lines}
use Rattle.traces.proofs.layout.show.show_trace.Goals as goal

pub returns-then-branch-eq0 : goal.returns-then-branch-eq0
returns-then-branch-eq0 g c = all_lines c.args.colours (g.R.Read.remaining c.args.reader.now) (g.R.Read.remaining c.loop.reader) (g.W.Write.contents c.args.w.now) (g.W.Write.contents c.loop.w) (g.W.Write.contents c.flush.new.self) c.loop.invariant (c.in_ok-read_until.ensures.end c.if-branch-eq0.true) c.flush.ensures.bytes

pub loop-preserved : goal.loop-preserved
loop-preserved g c = one_line_more c.args.colours (g.R.Read.remaining c.args.reader.now) (g.R.Read.remaining c.loop.reader) (g.R.Read.remaining c.read_until.new.self) (g.W.Write.contents c.args.w.now) (g.W.Write.contents c.loop.w) (g.W.Write.contents c.write_all.new.self) c.read_until.new.buf.items c.clear.new.self.items c.as_slice.result.now c.push_read.new.shown.items c.clear-in-loop.new.self.items c.as_slice-in-loop.result.now c.loop.invariant c.clear.ensures.items c.in_ok-read_until.ensures.bytes c.in_ok-read_until.ensures.rest c.as_slice.ensures.value c.clear-in-loop.ensures.items c.in_ok-push_read.ensures c.as_slice-in-loop.ensures.value c.in_ok-write_all.ensures.bytes
