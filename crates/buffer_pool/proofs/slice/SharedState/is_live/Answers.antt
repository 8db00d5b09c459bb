-- `slice::SharedState::is_live` meets its contract. Assumes nothing.
use Rattle.laws.proofs.Slots.{live_test}
use Rattle.buffer_pool.proofs.slice.SharedState.is_live.Goals as goal

pub returns : goal.returns
returns c = rw c.mask.ensures (live_test c.args.self.slots c.args.self.live c.args.position)
