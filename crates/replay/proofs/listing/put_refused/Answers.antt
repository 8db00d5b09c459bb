-- `listing::put_refused` meets its contract. With a bad event or without, the line is written, and the output ends as the writer left it.
-- Assumes nothing.
use mathlib.Core.Path.{◌≡◌}
use native.Mathlib.Omega.{arith}
use Rattle.replay.specs.Text.{output, wrote, held_by, Writes}
use Rattle.replay.specs.Listing.{refused}
use Rattle.replay.proofs.TextLaws.{written}
use Rattle.replay.proofs.LineLaws.{header_line, event_line}
use Rattle.replay.proofs.listing.put_refused.Goals as goal
use Rattle.replay.proofs.listing.put_refused.Goals.{in-BadEvent, in_default}

pub returns : goal.returns
returns c =
    let why = c.args.refusal in
    let line : Writes c.new-w.result c.put.new.self (refused why) =
    elim c.match-refusal.branch [
      | in-BadEvent w ↦
          event_line why c.number.result c.number.ensures c.put_some.ensures.text c.put_number.ensures.text
          w.in-BadEvent.event w.in-BadEvent.is w.put_number-in-BadEvent.ensures.text (rw w.w-is at c.put.ensures.text)
      | in_default w ↦
          header_line why c.number.result c.number.ensures c.put_some.ensures.text c.put_number.ensures.text
          w.in_default.not-BadEvent (rw w.w-is at c.put.ensures.text)
    ] in
    let name = line.same_output in
    let whole : held_by c.put.new.self ≡ wrote (output 0 c.args.out.now) (refused why) = written 0 c.args.out.now c.new-w.ensures.held line in
    grind arith
