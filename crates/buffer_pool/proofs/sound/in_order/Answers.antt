-- `sound::in_order` meets its contract. Assumes nothing.
use Rattle.buffer_pool.proofs.SlotPassLaws.{free_passed, empty_fails, early_fails, live_passed, all_passed}
use Rattle.buffer_pool.proofs.sound.in_order.Goals.{then-is_live+else-len-eq0+else-start-end, else-is_live}
use Rattle.buffer_pool.proofs.sound.in_order.Goals as goal

pub returns-then-len-eq0 : goal.returns-then-len-eq0
returns-then-len-eq0 c = search empty_fails

pub returns-then-start-end : goal.returns-then-start-end
returns-then-start-end c = search early_fails

pub loop-i-preserved : goal.loop-i-preserved
loop-i-preserved c =
    elim c.if-is_live.branch [
      | then-is_live+else-len-eq0+else-start-end w ↦ rw w.end-is (search live_passed)
      | else-is_live w ↦ rw w.end-is (search free_passed)
    ]

pub returns : goal.returns
returns c = search all_passed
