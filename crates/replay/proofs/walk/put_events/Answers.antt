-- `walk::put_events` meets its contract. With what is written, the lines of the events from i on are the whole; the record stays sound, and each count at most i. Assumes nothing.
use Rattle.replay.proofs.WalkLaws.{few_slots, next_sound, next_next, next_within, walk_more, walk_end, walked}
use Rattle.replay.proofs.ListingLaws.{bytes_few}
use native.Mathlib.Omega.{arith}
use mathlib.Core.Path.{◌∙◌}
use Rattle.replay.proofs.walk.put_events.Goals as goal

pub put_event-s-requires-clause-bytes_bound : goal.put_event-s-requires-clause-bytes_bound
put_event-s-requires-clause-bytes_bound c =
    omega (arith, bytes_few _ _ c.bytes-bytes.ensures.result_value, c.requires.file_bound)

pub loop-i-preserved : goal.loop-i-preserved
loop-i-preserved c =
    let v = c.loop-i.invariant in
    let y = c.put_event-s.ensures in
    let q = y.run_after in
    record {
      in_range = omega (arith, c.loop-i-test.true);
      at = omega (arith, v.at, y.at);
      is_sound = next_sound _ _ _ _ _ _ _ _ q v.is_sound;
      next = next_next _ _ _ _ _ _ _ _ q v.next;
      within = next_within _ _ _ _ _ _ _ _ q _ v.within;
      same_output = y.text.same_output ∙ v.same_output;
      text = walk_more _ _ _ _ _ _ _ _ q _ _ _ (omega (arith, c.loop-i-test.true, c.requires.events_value)) c.event_at-e.ensures y.text v.text;
    }

pub put_last-requires : goal.put_last-requires
put_last-requires c =
    let v = c.loop-i.invariant in
    let n = c.ranges.events.fits in (
      omega (arith, v.at, v.in_range, n),
      (omega (arith, v.within.0, v.in_range, n), omega (arith, v.within.1, v.in_range, n), omega (arith, v.within.2, v.in_range, n), v.within.3),
      few_slots c.loop-i.s.pool v.is_sound,
    )

pub returns : goal.returns
returns c =
    let v = c.loop-i.invariant in
    let l = c.put_last.ensures.text in
    walked _ _ c.bytes-bytes.ensures.result_value _ _ (record {
      same_output = l.same_output ∙ v.same_output;
      after = walk_end _ _ _ _ _ _ _ (omega (arith, c.loop-i-test.false, v.in_range, c.requires.events_value)) l v.text;
    })
