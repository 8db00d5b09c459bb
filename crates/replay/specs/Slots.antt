-- The slice that a caller and a serial name, read off the slots of the pool's record. w is the slot count.
use Rattle.std.specs.Prelude.{Bool, ◌&&◌, List, ℕ, zero, suc, eqb, Option, Some, None}
use Rattle.laws.specs.Tests.{pick}
use Rattle.laws.specs.Live.{live_at}
use Rattle.buffer_pool.specs.declared.slice.Handle.{Handle}
use Rattle.buffer_pool.specs.declared.buffer_pool.BufferPool.{BufferPool}
use Rattle.buffer_pool.specs.Record.{start_at}

-- is slot p live, and has it this caller and this serial?
unfoldable pub bears : ℕ → ℕ → List ℕ → List ℕ → ℕ → ℕ → ℕ → Bool
bears w live callers serials caller serial p = live_at w live p && (eqb (start_at callers p) caller && eqb (start_at serials p) serial)

-- the first such slot of the n from slot p on, if one of them is one
unfoldable pub slot_from : ℕ → ℕ → List ℕ → List ℕ → ℕ → ℕ → ℕ → ℕ → Option ℕ
slot_from w live callers serials caller serial p zero = None
slot_from w live callers serials caller serial p (suc n) =
    pick (bears w live callers serials caller serial p) (Some p) (slot_from w live callers serials caller serial (suc p) n)

unfoldable pub slot_of : BufferPool → ℕ → ℕ → Option ℕ
slot_of r caller serial = slot_from r.slots r.live r.callers r.serials caller serial 1 r.slots

-- the handle of a slot, or of none, with this caller and this serial
unfoldable pub handle_at : BufferPool → ℕ → ℕ → Option ℕ → Handle
handle_at r caller serial None = record { slot = 0; start = 0; length = 0; serial = serial; caller = caller }
handle_at r caller serial (Some p) =
    record { slot = p; start = start_at r.starts p; length = start_at r.lengths p; serial = serial; caller = caller }

-- 9.8: "the handle of the live slot with that caller and serial; if no live slot has both", a handle of no slot with these two
-- numbers, which a release refuses with 7
unfoldable pub handle_of : BufferPool → ℕ → ℕ → Handle
handle_of r caller serial = handle_at r caller serial (slot_of r caller serial)
