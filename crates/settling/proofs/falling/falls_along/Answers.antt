use Rattle.std.proofs.Common.{arith}
use Rattle.settling.proofs.falling.falls_along.Goals as goal

pub returns-else-not-falls_within : goal.returns-else-not-falls_within
returns-else-not-falls_within c =
    let shares = c.share.ensures.0 c.if-share.true in (
      λ h. record {
        within = λ both. c.hand_on.ensures.hands h;
        falls_within = λ both. c.falls_within.ensures.0 c.if-not-falls_within.false;
        falls = λ differ. absurd (differ shares);
        steps = omega (arith, c.if-from-to.false);
      },
      λ all. c.hand_on.ensures.each c.requires (all.within shares),
    )
