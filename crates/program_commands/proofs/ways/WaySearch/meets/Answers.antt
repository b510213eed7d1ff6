use Rattle.std.proofs.Common.{inl, inr, true, false, refl}
use Rattle.program_commands.proofs.Searching.{flag_read}
use Rattle.program_commands.proofs.ways.WaySearch.meets.Goals as goal

pub returns-then-as_slice-target : goal.returns-then-as_slice-target
returns-then-as_slice-target c = inl (flag_read c.as_slice.result.now c.args.self.now.passed c.args.target true c.as_slice.ensures c.if-as_slice-target.true, refl)

pub returns-then-ends-target : goal.returns-then-ends-target
returns-then-ends-target c = (
  flag_read c.as_slice.result.now c.args.self.now.passed c.args.target false c.as_slice.ensures c.if-as_slice-target.false,
  flag_read c.args.ends.now c.args.ends.now c.args.target true refl c.if-ends-target.true,
  refl,
)

pub returns : goal.returns
returns c = inr (
  flag_read c.args.ends.now c.args.ends.now c.args.target false refl c.if-ends-target.false,
  record {
    new = flag_read c.as_slice.result.now c.args.self.now.passed c.args.target false c.as_slice.ensures c.if-as_slice-target.false;
    found = c.in_ok-push.ensures.ok;
    passed = c.set.ensures;
  },
)
