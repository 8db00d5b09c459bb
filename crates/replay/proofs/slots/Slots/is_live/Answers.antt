-- `slots::Slots::is_live` meets its contract. Assumes nothing.
use Rattle.laws.proofs.Slots.{live_test}
use Rattle.replay.proofs.slots.Slots.is_live.Goals as goal

pub returns : goal.returns
returns c = rw c.mask.ensures (live_test c.args.self.r.now.slots c.args.self.r.now.live c.args.p)
