-- `walk::put_run` meets its contract. The run begins with what a new pool leaves, which is sound. Assumes nothing.
use mathlib.Core.Path.{◌≡◌}
use native.Mathlib.Omega.{arith}
use Rattle.trace.specs.Content.{content}
use Rattle.replay.specs.Text.{output, wrote, held_by, Writes}
use Rattle.replay.specs.Run.{memory_of}
use Rattle.replay.specs.Listing.{listing_on}
use Rattle.replay.proofs.TextLaws.{written}
use Rattle.replay.proofs.ListingLaws.{fresh_sound, run_listed}
use Rattle.replay.proofs.walk.put_run.Goals as goal

pub put_events-requires-clause-at_bound : goal.put_events-requires-clause-at_bound
put_events-requires-clause-at_bound c =
    (grind arith, fresh_sound _ _ _ c.new-c.ensures, omega arith)

pub returns : goal.returns
returns c =
    let m = c.args.m.now in
    let n = c.new-c in
    let file = content c.args.file.now in
    let text = listing_on (memory_of m) m.destination.now file in
    let listed : Writes c.new-w.result c.put_events.new.w text = run_listed _ _ _ n.ensures _ file c.put_first.ensures.text c.put_events.ensures in
    let name = listed.same_output in
    let whole : held_by c.put_events.new.w ≡ wrote (output 0 c.args.out.now) text = written 0 c.args.out.now c.new-w.ensures.held listed in
    grind arith
