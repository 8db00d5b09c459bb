-- Sequences of calls and of writes to what they show: what our pool shows at each that it does not refuse, and what the Rust's
-- pool shows at each that it is given. proofs/AsTheRust.antt shows that the two lists are the same.
use Rattle.std.specs.Prelude.{List, [], ◌∷◌, map, ℕ, zero, suc, ◌+◌, eqb, length}
use Rattle.laws.specs.Tests.{pick}
use Rattle.laws.specs.Lists.{part}
use Rattle.buffer_pool.specs.declared.slice.Handle.{Handle}
use Rattle.buffer_pool.specs.declared.buffer_pool.BufferPool.{BufferPool}
use Rattle.buffer_pool.specs.declared.buffer_pool.PoolMode.{PoolMode}
use Rattle.buffer_pool.specs.declared.buffer_pool.PoolMode.TheVariants.{Back, Front, Alloc}
use Rattle.buffer_pool.specs.declared.buffer_pool.Memory.{Memory}
use Rattle.buffer_pool.specs.declared.buffer_pool.Memory.TheVariants.{Pool, Overflow}
use Rattle.buffer_pool.specs.declared.buffer_pool.Place.{Place}
use Rattle.buffer_pool.specs.Values.{Values, values, refusal, View, view_place}
use Rattle.buffer_pool.specs.Moves.{Memories}
use Rattle.buffer_pool.specs.Placing.{most_changes}
use Rattle.buffer_pool.specs.Steps.{at}
use Rattle.buffer_pool.specs.Calls.{Outcome, new, bytes_at}
use Rattle.buffer_pool.specs.Rust.{Run, done, panic, then, with, RustPool, Slice, Pooled, Heap, rust_reserve, rust_commit, rust_truncate, rust_take, rust_release, rust_frame_bytes, rust_new}
use Rattle.buffer_pool.specs.AsRust.{slice_of, rust_written}
use Rattle.buffer_pool.specs.Vocabulary.{Part, TheFrame, TheReservation, TheSlice, Call, Reserve, Commit, Truncate, Take, Release, Look, view_of, call, number_of, write}

-- ---- Actions, and what is seen at one

pub data Action : Type 0 where
  Make : Call → Action
  -- SPECIFICATION 7.10, a write "sets one byte of a view": of this part, at this index, to this byte; past the view's end it sets
  -- none
  Write : Part → ℕ → ℕ → Action

-- a range and the bytes in it
pub record Seen : Type 0 where
  pub place : Place
  pub bytes : List ℕ

abbrev pub seen : Place → List ℕ → Seen
seen place bytes = record { place = place; bytes = bytes }

-- what an action gives
pub data Given : Type 0 where
  -- a release and a write
  Nothing : Given
  -- a reserve: the reservation, and the count of mode changes
  Offer : Place → ℕ → Given
  -- a commit and a truncate: the frame
  Whole : Place → Given
  -- a take: slot and place of a pooled slice, or a copied frame's bytes
  Sliced : Slice → Given
  -- a view
  Viewed : Seen → Given

-- what an action gives, and what there is to see after it: mode, live slots, frame, reservation, and the slice of each holder, the
-- last taken first
pub record Shown : Type 0 where
  pub given : Given
  pub mode : PoolMode
  pub live : ℕ
  pub frame : Seen
  pub reservation : Seen
  pub slices : List Seen

-- ---- Ours

-- record and memories, and the handles that were taken and not released
pub record Ours : Type 0 where
  pub pool : BufferPool
  pub memory : Memories
  pub held : List Handle

abbrev pub ours : BufferPool → Memories → List Handle → Ours
ours pool memory held = record { pool = pool; memory = memory; held = held }

-- the view of a part
abbrev pub view : ℕ → Ours → Part → View
view w s p = view_of w s.pool s.memory p

abbrev pub seen_in : ℕ → Ours → Part → Seen
seen_in w s p = seen (view_place (view w s p)) (bytes_at s.memory (view_place (view w s p)))

abbrev pub outcome_in : ℕ → Ours → Call → Outcome
outcome_in w s c = call w s.pool s.memory c

-- what its answer says
abbrev pub said_by : ℕ → Ours → Call → Values
said_by w s c = values (outcome_in w s c).call.answer

-- the number of the refusal, or 0
unfoldable pub number : ℕ → Ours → Action → ℕ
number w s (Make c) = number_of w s.pool s.memory c
number w s (Write p i byte) = refusal (write w s.pool s.memory p i byte).call.answer

-- the handles held after a take that says so, by the slot of its handle (0 is no handle), and after a release with this number
abbrev pub holding_in : ℕ → Handle → List Handle → List Handle
holding_in zero h held = held
holding_in (suc k) h held = h ∷ held

abbrev pub holding : Values → List Handle → List Handle
holding v held = holding_in v.handle.slot v.handle held

unfoldable pub without : ℕ → List Handle → List Handle
without slot [] = []
without slot (h ∷ held) = pick (eqb h.slot slot) (without slot held) (h ∷ without slot held)

abbrev pub let_go : ℕ → ℕ → List Handle → List Handle
let_go zero slot held = without slot held
let_go (suc n) slot held = held

-- the handles held after a call
abbrev pub held_after : ℕ → Ours → Call → List Handle
held_after w s (Reserve len) = s.held
held_after w s (Commit n) = s.held
held_after w s (Truncate n) = s.held
held_after w s (Take c d) = holding (said_by w s (Take c d)) s.held
held_after w s (Release h) = let_go (number_of w s.pool s.memory (Release h)) h.slot s.held
held_after w s (Look p) = s.held

-- what an action leaves
unfoldable pub step : ℕ → Ours → Action → Ours
step w s (Make c) = ours (outcome_in w s c).call.pool (outcome_in w s c).memory (held_after w s c)
step w s (Write p i byte) = let o = write w s.pool s.memory p i byte in ours o.call.pool o.memory s.held

-- what a list of actions leaves
unfoldable pub leaves : ℕ → Ours → List Action → Ours
leaves w s [] = s
leaves w s (e ∷ es) = leaves w (step w s e) es

-- what a call gives, by what its answer says
abbrev pub given_at : ℕ → Ours → Call → Given
given_at w s (Reserve len) = Offer (said_by w s (Reserve len)).place (said_by w s (Reserve len)).changes
given_at w s (Commit n) = Whole (said_by w s (Commit n)).place
given_at w s (Truncate n) = Whole (said_by w s (Truncate n)).place
given_at w s (Take c d) = Sliced (slice_of (said_by w s (Take c d)) (outcome_in w s (Take c d)).destination)
given_at w s (Release h) = Nothing
given_at w s (Look p) = Viewed (seen_in w s p)

unfoldable pub given : ℕ → Ours → Action → Given
given w s (Make c) = given_at w s c
given w s (Write p i byte) = Nothing

-- all that is seen is seen through the views
unfoldable pub shown_by : ℕ → Ours → Given → Shown
shown_by w s g =
    record {
      given = g;
      mode = s.pool.mode;
      live = s.pool.live;
      frame = seen_in w s TheFrame;
      reservation = seen_in w s TheReservation;
      slices = map (λ h. seen_in w s (TheSlice h)) s.held;
    }

-- the actions that are not refused, and what is shown at each of them
abbrev pub unless_refused : {A : Type 0} → ℕ → A → List A → List A
unless_refused zero a rest = a ∷ rest
unless_refused (suc n) a rest = rest

unfoldable pub accepted : ℕ → Ours → List Action → List Action
accepted w s [] = []
accepted w s (e ∷ es) = unless_refused (number w s e) e (accepted w (step w s e) es)

unfoldable pub shows : ℕ → Ours → List Action → List Shown
shows w s [] = []
shows w s (e ∷ es) = unless_refused (number w s e) (shown_by w (step w s e) (given w s e)) (shows w (step w s e) es)

-- ---- The Rust's

-- a pooled slice as its holder has it: its slot, and where its pointer and length lie in the pool
pub record Holder : Type 0 where
  pub slot : ℕ
  pub place : Place

abbrev pub holder : ℕ → Place → Holder
holder slot place = record { slot = slot; place = place }

-- the pool, and the pooled slices that were taken and not dropped
pub record Theirs : Type 0 where
  pub pool : RustPool
  pub held : List Holder

abbrev pub theirs : RustPool → List Holder → Theirs
theirs pool held = record { pool = pool; held = held }

-- where `frame_mut` lies, and after it what the last `reserve` handed out
abbrev pub rust_frame_in : PoolMode → RustPool → Place
rust_frame_in Back p = at Pool p.inner_memory.raw_offset p.inner_memory.raw_len
rust_frame_in (Front f) p = at Pool p.inner_memory.raw_offset p.inner_memory.raw_len
rust_frame_in Alloc p = at Overflow 0 p.system_memory.cursor

abbrev pub rust_frame : RustPool → Place
rust_frame p = rust_frame_in p.mode p

abbrev pub rust_reservation : RustPool → Place
rust_reservation p = at (rust_frame p).memory ((rust_frame p).start + (rust_frame p).length) p.reserved

-- the place of the held slice of a slot; without such a slice there is nothing to use or to drop
unfoldable pub held_place : ℕ → List Holder → Run Place
held_place slot [] = panic
held_place slot (h ∷ held) = pick (eqb h.slot slot) (done h.place) (held_place slot held)

abbrev pub rust_place : Theirs → Part → Run Place
rust_place t TheFrame = done (rust_frame t.pool)
rust_place t TheReservation = done (rust_reservation t.pool)
rust_place t (TheSlice h) = held_place h.slot t.held

-- the bytes at a place: of the pool, or of the `Vec`
abbrev pub rust_memory : Memory → RustPool → List ℕ
rust_memory Pool p = p.inner_memory.bytes
rust_memory Overflow p = p.system_memory.inner

abbrev pub rust_seen : RustPool → Place → Seen
rust_seen p place = seen place (part (rust_memory place.memory p) place.start place.length)

-- the slices held after a take, and after the drop of one
abbrev pub rust_holding : Slice → List Holder → List Holder
rust_holding (Pooled slot start len) held = holder slot (at Pool start len) ∷ held
rust_holding (Heap bytes) held = held

unfoldable pub rust_without : ℕ → List Holder → List Holder
rust_without slot [] = []
rust_without slot (h ∷ held) = pick (eqb h.slot slot) (rust_without slot held) (h ∷ rust_without slot held)

-- what an action gives and leaves
pub record Did : Type 0 where
  pub given : Given
  pub left : Theirs

abbrev pub did : Given → RustPool → List Holder → Did
did given pool held = record { given = given; left = theirs pool held }

unfoldable pub rust_call : ℕ → Theirs → Call → Run Did
rust_call w t (Reserve len) =
    with (rust_reserve w (suc most_changes) t.pool len) (λ a. did (Offer a.writable a.changes) a.left t.held)
rust_call w t (Commit n) = with (rust_commit t.pool n) (λ q. did (Whole (rust_frame q)) q t.held)
rust_call w t (Truncate n) = with (done (rust_truncate t.pool n)) (λ q. did (Whole (rust_frame q)) q t.held)
rust_call w t (Take caller destination) =
    with (rust_take w t.pool) (λ a. did (Sliced a.slice) a.left (rust_holding a.slice t.held))
rust_call w t (Release h) =
    then (held_place h.slot t.held)
    (λ place. with (rust_release w t.pool h.slot) (λ q. did Nothing q (rust_without h.slot t.held)))
rust_call w t (Look p) = with (rust_place t p) (λ place. did (Viewed (rust_seen t.pool place)) t.pool t.held)

unfoldable pub rust_step : ℕ → Theirs → Action → Run Did
rust_step w t (Make c) = rust_call w t c
rust_step w t (Write p i byte) = with (rust_place t p) (λ place. did Nothing (rust_written t.pool place i byte) t.held)

-- the frame's bytes are those of `frame`
unfoldable pub rust_shown : Did → Run Shown
rust_shown a =
    let p = a.left.pool in
    with (rust_frame_bytes p)
    (λ bytes. record {
      given = a.given;
      mode = p.mode;
      live = p.inner_memory.live;
      frame = seen (rust_frame p) bytes;
      reservation = rust_seen p (rust_reservation p);
      slices = map (λ h. rust_seen p h.place) a.left.held;
    })

unfoldable pub rust_shows : ℕ → Theirs → List Action → Run (List Shown)
rust_shows w t [] = done []
rust_shows w t (e ∷ es) =
    then (rust_step w t e) (λ a. then (rust_shown a) (λ x. with (rust_shows w a.left es) (λ rest. x ∷ rest)))

-- ---- The two start

abbrev pub our_start : ℕ → Memories → Ours
our_start w m = ours (new w m).call.pool (new w m).memory []

abbrev pub rust_start : ℕ → Memories → Theirs
rust_start w m = theirs (rust_new w (length m.pool)) []
