-- The exported calls: result, record and every lent byte are the direct call's (crate buffer_pool, specs/Calls.antt). A record that
-- is no pool's, by its live word or its mode, is refused with 1. proofs/RefusedKeeps.antt shows that a refused call leaves the record
-- as C lent it.
use Rattle.std.specs.Prelude.{Err, List, [], ℕ}
use Rattle.laws.specs.Tests.{pick}
use Rattle.buffer_pool.specs.Values.{Response, View}
use Rattle.buffer_pool.specs.declared.refusals.Refusal.TheVariants as refusals
use Rattle.buffer_pool.specs.Moves.{Memories}
use Rattle.buffer_pool.specs.Calls as calls
use Rattle.buffer_pool.specs.Calls.{Outcome}
use Rattle.buffer_pool_c.specs.declared.record.Record.{Record}
use Rattle.buffer_pool_c.specs.declared.results.Handle.{Handle}
use Rattle.buffer_pool_c.specs.declared.results.ReserveResult.{ReserveResult}
use Rattle.buffer_pool_c.specs.declared.results.PlaceResult.{PlaceResult}
use Rattle.buffer_pool_c.specs.declared.results.TakeResult.{TakeResult}
use Rattle.buffer_pool_c.specs.Record.{known, no_front, pool_of, record_of, record_after}
use Rattle.buffer_pool_c.specs.Results as results

-- what an exported call leaves: its result, the record, the two memories, and a take's destination ([] for the other calls)
pub record Left (A : Type 0) : Type 0 where
  pub result : A
  pub held : Record
  pub memory : Memories
  pub destination : List ℕ

abbrev pub left : {A : Type 0} → A → Record → Memories → List ℕ → Left A
left result held memory destination = record { result = result; held = held; memory = memory; destination = destination }

-- what a direct call on r's pool left, as C sees it
abbrev pub seen : {A : Type 0} → (Response → A) → Record → Outcome → Left A
seen result r o = left (result o.call.answer) (record_after r o.call.pool) o.memory o.destination

-- an exported call on a record: refused with 1, or what the direct call left
abbrev pub exported : {A : Type 0} → (Response → A) → Record → Memories → List ℕ → Outcome → Left A
exported result r m destination o = pick (known r) (seen result r o) (left (result (Err refusals.Unsound)) r m destination)

-- what a new pool leaves
abbrev pub newly : Outcome → Left ℕ
newly o = left (results.refusal_result o.call.answer) (record_of no_front o.call.pool) o.memory o.destination

-- w is the slot count
unfoldable pub new : ℕ → Memories → Left ℕ
new w m = newly (calls.new w m)

unfoldable pub reserve : Record → Memories → ℕ → Left ReserveResult
reserve r m len = exported results.reserve_result r m [] (calls.reserve r.slots (pool_of r) m len)

unfoldable pub commit : Record → Memories → ℕ → Left PlaceResult
commit r m n = exported results.place_result r m [] (calls.commit r.slots (pool_of r) m n)

unfoldable pub truncate : Record → Memories → ℕ → Left PlaceResult
truncate r m n = exported results.place_result r m [] (calls.truncate r.slots (pool_of r) m n)

unfoldable pub take : Record → Memories → ℕ → List ℕ → Left TakeResult
take r m caller destination =
    exported results.take_result r m destination (calls.take r.slots (pool_of r) m caller destination)

unfoldable pub release : Record → Memories → Handle → Left ℕ
release r m h = exported results.refusal_result r m [] (calls.release r.slots (pool_of r) m (results.named h))

-- ---- Views

-- a view of a record: refused with 1, or the direct view
abbrev pub exported_view : Record → View → PlaceResult
exported_view r view = pick (known r) (results.view_result view) results.unknown_view

unfoldable pub frame : Record → Memories → PlaceResult
frame r m = exported_view r (calls.frame_view r.slots (pool_of r) m)

unfoldable pub reservation : Record → Memories → PlaceResult
reservation r m = exported_view r (calls.reservation_view r.slots (pool_of r) m)

unfoldable pub slice : Record → Memories → Handle → PlaceResult
slice r m h = exported_view r (calls.slice_view r.slots (pool_of r) m (results.named h))
