-- `lent::place_anew` meets its contract. Assumes nothing.
use Rattle.buffer_pool.specs.Moves.{memories}
use Rattle.buffer_pool.proofs.ReserveLaws.{passed_cursor, passed_start, passed_brought, all_made_inside, placed_sum, reserve_short, reserve_done}
use Rattle.buffer_pool.proofs.lent.place_anew.Goals as goal

pub begin-start-requires : goal.begin-start-requires
begin-start-requires c = search (passed_cursor)

pub place-requires : goal.place-requires
place-requires c = search (passed_start)

pub returns-in_default : goal.returns-in_default
returns-in_default c = search (reserve_short, c.place.ensures, c.in_default.is)

pub make_all_moves-requires : goal.make_all_moves-requires
make_all_moves-requires c =
    let a = c.args in
    let s = c.begin-start in
    let p = c.place in (
      all_made_inside a.n a.entries.now c.requires.1 (memories a.pool.now a.overflow.now) c.requires.0 a.len s.result
          s.ensures p.result p.ensures c.in-Some.d c.in-Some.is,
      search (passed_brought),
    )

pub reserved-requires : goal.reserved-requires
reserved-requires c = search (placed_sum, c.in-Some.is)

pub returns : goal.returns
returns c = search (reserve_done, c.in-Some.is)
