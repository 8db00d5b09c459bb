-- What a call's response says (SPECIFICATION 3.7): the number of its refusal, and the values of its answer, for each case. The results
-- and refusals of the demands, the book, the results of the C interface and the lines of a listing read a response by `values`; in code
-- these are the methods of `Called` (src/buffer_pool.rt).
use Rattle.std.specs.Prelude.{ℕ, Result, Ok, Err, ⊤}
use Rattle.buffer_pool.specs.declared.slice.Handle.{Handle}
use Rattle.buffer_pool.specs.declared.buffer_pool.Memory.TheVariants.{Pool}
use Rattle.buffer_pool.specs.declared.buffer_pool.Place.{Place}
use Rattle.buffer_pool.specs.declared.buffer_pool.Answer.{Answer}
use Rattle.buffer_pool.specs.declared.buffer_pool.Answer.TheVariants.{Done, Reserved, Framed, Taken, Copied}
use Rattle.buffer_pool.specs.declared.refusals.Refusal.{Refusal}
use Rattle.buffer_pool.specs.declared.refusals.Refusal.TheVariants.{Unsound, WrongLength, MemoryTooLong, OverflowTooShort, CommitTooLong, DestinationTooShort, NotLive, NoSerials, UnknownCaller, WrongSlotCount}

-- a call's answer or its refusal, and a view's place or its refusal
abbrev pub Response : Type 0
Response = Result Answer Refusal

abbrev pub View : Type 0
View = Result Place Refusal

-- the numbers of the refusals: the table of SPECIFICATION 3.3
abbrev pub refusal_number : Refusal → ℕ
refusal_number Unsound = 1
refusal_number WrongLength = 2
refusal_number MemoryTooLong = 3
refusal_number OverflowTooShort = 4
refusal_number CommitTooLong = 5
refusal_number DestinationTooShort = 6
refusal_number NotLive = 7
refusal_number NoSerials = 8
refusal_number UnknownCaller = 12
refusal_number WrongSlotCount = 16

-- no place: the empty one at the pool memory's start
abbrev pub no_place : Place
no_place = record { memory = Pool; start = 0; length = 0 }

-- no handle: that of no slot
abbrev pub no_handle : Handle
no_handle = record { slot = 0; start = 0; length = 0; serial = 0; caller = 0 }

pub record Values : Type 0 where
  -- the refusal's number, and 0 for what is not refused (SPECIFICATION 1.11)
  pub number : ℕ
  -- of a reserve the reservation, of a commit, a truncate and a view the frame or what is viewed; else no place
  pub place : Place
  -- of a take that gave a slice of the pool its handle; else no handle
  pub handle : Handle
  -- of a take out of the overflow how many bytes it copied; else 0
  pub length : ℕ
  -- of a reserve how often the mode changed; else 0
  pub changes : ℕ

abbrev pub valued : ℕ → Place → Handle → ℕ → ℕ → Values
valued number place handle length changes =
    record { number = number; place = place; handle = handle; length = length; changes = changes }

abbrev pub values : Response → Values
values (Ok Done) = valued 0 no_place no_handle 0 0
values (Ok (Reserved place changes)) = valued 0 place no_handle 0 changes
values (Ok (Framed place)) = valued 0 place no_handle 0 0
values (Ok (Taken handle)) = valued 0 no_place handle 0 0
values (Ok (Copied length)) = valued 0 no_place no_handle length 0
values (Err why) = valued (refusal_number why) no_place no_handle 0 0

-- the number alone
unfoldable pub refusal : Response → ℕ
refusal response = (values response).number

-- SPECIFICATION 3.6: "A refused view is an empty place: the pool memory, start 0, length 0. A call with the arguments of the view
-- tells its refusal, or 0."
abbrev pub view_refusal : View → ℕ
view_refusal (Ok place) = 0
view_refusal (Err why) = refusal_number why

abbrev pub view_place : View → Place
view_place (Ok place) = place
view_place (Err why) = no_place

-- what a write through a view answers (SPECIFICATION 7.10)
abbrev pub told : View → Result ⊤ Refusal
told (Ok place) = Ok tt
told (Err why) = Err why
