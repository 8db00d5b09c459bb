-- `exports::buffer_pool_reserve` meets its contract. Assumes nothing.
use Rattle.std.proofs.Common.{◌≡◌}
use Rattle.buffer_pool_c.proofs.ExportLaws.{reset, reserve_done, reserve_refused}
use Rattle.buffer_pool_c.proofs.exports.buffer_pool_reserve.Goals.{then-r, else-r}
use Rattle.buffer_pool_c.proofs.exports.buffer_pool_reserve.Goals as goal

pub returns-after-r : goal.returns-after-r
returns-after-r c =
    let cleared : c.if-r.held ≡ reset c.args.held.now c.in-Ok.r.clears =
    elim c.if-r.branch [ then-r w ↦ rw (w.if-r.true, ← w.clear.ensures) w.held-is | else-r w ↦ rw w.if-r.false w.held-is ]
    in
    search (reserve_done, cleared, c.in-Ok.ensures)

pub returns-in-Err : goal.returns-in-Err
returns-in-Err c = search (reserve_refused, c.in-Err.ensures)
