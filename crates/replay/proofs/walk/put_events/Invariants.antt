use Rattle.replay.specs.Listing.{lines}
use Rattle.replay.specs.Run.{Within, memory_of, running}
use Rattle.replay.specs.Text.{wrote, held_by}
use Rattle.trace.specs.Content.{content}
use Rattle.buffer_pool.specs.Soundness.{sound}
use lib.ListN.{length, drop}
use mathlib.Core.Bool.{true}
use mathlib.Core.Path.{◌≡◌}
use Prim.Native.Nat.{◌+◌, ◌*◌, ◌≤◌}
use Rattle.replay.proofs.walk.put_events.Given as goal

abbrev pub invariant-loop-i : goal.invariant-loop-i
invariant-loop-i l =
    record {
      in_range : l.i ≤ l.events;
      at : l.w.at ≤ 1024 + 128 * l.i;
      is_sound : sound 8 l.s.pool ≡ true;
      next : l.s.next ≤ length l.bytes;
      within : Within l.i l.s.tally;
      same_output : l.w.out.ghost_name ≡ l.fn.w.out.ghost_name;
      text : wrote (held_by l.w) (lines l.bytes (running l.s (memory_of l.m) l.m.destination.now) l.i (drop l.i (content l.file).events))
          ≡ wrote (held_by l.fn.w) (lines l.bytes (running l.fn.begun (memory_of l.fn.m) l.fn.m.destination.now) 0 (content l.file).events);
    }
