-- What leaves a program without ranks is the reason why it has no certificate.
use Rattle.meta_model.specs.Loaded.{Loaded}
use Rattle.rank_check.specs.Entries.{IsReady}
use Rattle.rank_make.specs.Makes.{IsReason}
use Rattle.rank_make.specs.Ranked.{HasNoRanks}
use Rattle.rank_make.specs.declared.why.Why.{Why}
use Rattle.rank_make.specs.declared.why.Why.TheVariants.{Wire, BodyType, Cycle, DestroyPath, TooHigh, Memory}

pub is_reason : (p : Loaded) (why : Why) → IsReady p → HasNoRanks p why → IsReason p why
is_reason p (Wire place) ready h = absurd h
is_reason p (BodyType spot) ready h = absurd h
is_reason p (Cycle nodes) ready h = (ready, h.0, h.1)
is_reason p (DestroyPath nodes) ready h = absurd h
is_reason p (TooHigh nodes) ready h = absurd h
is_reason p Memory ready h = tt
