-- `listing::put_line` meets its contract. Assumes nothing.
use mir.Val.{to_z, of_z}
use mir.Syntax.{w64}
use Rattle.replay.proofs.Size.{move_read}
use Rattle.replay.proofs.LineLaws.{whole_line}
use Rattle.replay.proofs.listing.put_line.Goals as goal

pub returns-clause-text : goal.returns-clause-text
returns-clause-text c =
    let a = c.args in
    let p = c.requires in
    let m = c.moved in
    whole_line a.event a.s (to_z w64 (of_z w64 m.result)) c.put_head.ensures.text c.put_number.ensures.text c.put_number-2.ensures.text
    (move_read a.s.frame p.2 p.3 m.result m.ensures) c.put_signed.ensures.text c.put.ensures.text
