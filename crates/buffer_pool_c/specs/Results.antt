-- What the exported calls give: the values of the direct call's response (crate buffer_pool, specs/Values.antt) as numbers of C's. A
-- number that the answer does not have is 0.
use Rattle.std.specs.Prelude.{ℕ, ltb, Result, Ok, Err}
use Rattle.laws.specs.Tests.{pick}
use Rattle.buffer_pool.specs.declared.slice.Handle as pool
use Rattle.buffer_pool.specs.declared.buffer_pool.Memory.{Memory}
use Rattle.buffer_pool.specs.declared.buffer_pool.Memory.TheVariants.{Pool, Overflow}
use Rattle.buffer_pool.specs.declared.buffer_pool.Place as range
use Rattle.buffer_pool.specs.Values.{Response, View, view_place, view_refusal, values}
use Rattle.buffer_pool.specs.Calls.{hidden}
use Rattle.buffer_pool.specs.declared.lent.Resizing.{Resizing}
use Rattle.buffer_pool.specs.declared.refusals.Refusal.{Refusal}
use Rattle.buffer_pool.specs.declared.refusals.Refusal.TheVariants.{Unsound}
use Rattle.buffer_pool_c.specs.declared.results.Place.{Place}
use Rattle.buffer_pool_c.specs.declared.results.Handle.{Handle}
use Rattle.buffer_pool_c.specs.declared.results.ReserveResult.{ReserveResult}
use Rattle.buffer_pool_c.specs.declared.results.PlaceResult.{PlaceResult}
use Rattle.buffer_pool_c.specs.declared.results.TakeResult.{TakeResult}

-- the number of a memory, as C has it: the pool 0, the overflow 1
abbrev pub memory_number : Memory → ℕ
memory_number Pool = 0
memory_number Overflow = 1

-- a place as C has it
abbrev pub place_of : range.Place → Place
place_of p = record { start = p.start; length = p.length; memory = memory_number p.memory }

-- a handle as C has it
abbrev pub handle_of : pool.Handle → Handle
handle_of h = record { start = h.start; length = h.length; serial = h.serial; slot = h.slot; caller = h.caller }

-- what a reserve gives
abbrev pub reserve_result : Response → ReserveResult
reserve_result a = record { place = place_of (values a).place; changes = (values a).changes; refusal = (values a).number }

-- what a commit or a truncate gives
abbrev pub place_result : Response → PlaceResult
place_result a = record { place = place_of (values a).place; refusal = (values a).number }

-- what a take gives
abbrev pub take_result : Response → TakeResult
take_result a = record { handle = handle_of (values a).handle; copied = (values a).length; refusal = (values a).number }

-- what new and a release give: the refusal alone
abbrev pub refusal_result : Response → ℕ
refusal_result a = (values a).number

-- what a view gives
abbrev pub view_result : View → PlaceResult
view_result v = record { place = place_of (view_place v); refusal = view_refusal v }

-- what a view of a record gives that is no pool's: refused with 1
abbrev pub unknown_view : PlaceResult
unknown_view = view_result (hidden Unsound)

-- the pool's own handle
abbrev pub named : Handle → pool.Handle
named h = record { slot = h.slot; start = h.start; length = h.length; serial = h.serial; caller = h.caller }

-- ---- What the code passes on to the pool, and what it makes of what the pool gives. No exported call's contract speaks of it

-- what a commit or a truncate gives, of what the pool's gives
abbrev pub resize_result : Result Resizing Refusal → PlaceResult
resize_result (Ok x) = view_result (Ok x.place)
resize_result (Err why) = view_result (Err why)

-- the number in a byte, and `other` for one that has none
abbrev pub byte_or : ℕ → ℕ → ℕ
byte_or other number = pick (ltb number 256) number other

-- the handle with its slot and its caller in a byte each: 0 is no slot and 255 no caller, and neither is a number that has no byte
-- (proofs/ResultLaws.antt, `in_bytes`)
abbrev pub in_bytes : Handle → Handle
in_bytes h =
    record {
      start = h.start;
      length = h.length;
      serial = h.serial;
      slot = byte_or 0 h.slot;
      caller = byte_or 255 h.caller;
    }
