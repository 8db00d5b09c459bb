-- `replay_whole` meets its contract. Assumes nothing.
use Rattle.replay.proofs.ListingLength.{whole_listed}
use native.Mathlib.Omega.{arith}
use Rattle.replay.proofs.replay_whole.Goals as goal

pub returns : goal.returns
returns c =
    let listed = whole_listed _ _ _ _ (omega arith) c.put_listing.ensures in
    record { value = listed.0; out_after = listed.1.0; prefix_len = listed.1.1 }
