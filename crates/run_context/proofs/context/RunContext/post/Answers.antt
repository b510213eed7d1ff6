use Rattle.std.proofs.Common.{sym}
use Rattle.run_context.proofs.Posts.{no-home, becomes-short}
use Rattle.run_context.proofs.context.RunContext.post.Goals as goal

pub unreachable-requires-in_default-home : goal.unreachable-requires-in_default-home
unreachable-requires-in_default-home c = no-home c.in-Some.ensures c.in_default-home.ensures

pub returns-in_err-entry : goal.returns-in_err-entry
returns-in_err-entry c = record {
  object = c.in-Some.receiver.now;
  method = c.in-Some.declared.now;
  is = c.in-Some.ensures;
  name = c.in-Some-name.event_loop.now;
  home = c.in-Some-home.home;
  lives_in = sym c.in-Some-home.ensures;
  is_loop = sym c.in-Some-name.ensures;
  becomes = becomes-short _ _ _ c.from_residual.ensures.1;
}

pub returns-in_err-arguments : goal.returns-in_err-arguments
returns-in_err-arguments c = record {
  object = c.in-Some.receiver.now;
  method = c.in-Some.declared.now;
  is = c.in-Some.ensures;
  name = c.in-Some-name.event_loop.now;
  home = c.in-Some-home.home;
  lives_in = sym c.in-Some-home.ensures;
  is_loop = sym c.in-Some-name.ensures;
  becomes = becomes-short _ _ _ c.from_residual-in_err-arguments.ensures.1;
}

pub returns : goal.returns
returns c = record {
  object = c.in-Some.receiver.now;
  method = c.in-Some.declared.now;
  is = c.in-Some.ensures;
  name = c.in-Some-name.event_loop.now;
  home = c.in-Some-home.home;
  lives_in = sym c.in-Some-home.ensures;
  is_loop = sym c.in-Some-name.ensures;
  becomes = rw (c.in_ok-entry.ensures, c.in_ok-arguments.ensures) at c.post.ensures;
}
