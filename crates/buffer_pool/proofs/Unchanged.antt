-- What a reserve leaves as it was, and that no call changes the lengths of the memories or the slot count. A placing replaces only
-- numbers of the frame, the back and the mode, whichever way it goes: one induction over its decisions (`decided`) serves every
-- statement of that kind. Assumes nothing.
use mathlib.Core.Path.{◌≡◌, refl, ap, ◌∙◌}
use mathlib.Core.Bool.{Bool, true, false, not}
use mathlib.Core.List.{List, []}
use Prim.Native.Nat.{ℕ, zero, suc, ◌+◌, min}
use lib.Dec.{leb, ltb, eqb}
use lib.ListN.{length}
use Rattle.laws.proofs.Tests.{pick_cases}
use Rattle.buffer_pool.specs.declared.slice.Handle.{Handle}
use Rattle.buffer_pool.specs.declared.buffer_pool.BufferPool.{BufferPool}
use Rattle.buffer_pool.specs.declared.buffer_pool.PoolFront.{PoolFront}
use Rattle.buffer_pool.specs.declared.buffer_pool.PoolMode.{PoolMode}
use Rattle.buffer_pool.specs.declared.buffer_pool.PoolMode.TheVariants.{Back, Front, Alloc}
use Rattle.buffer_pool.specs.declared.buffer_pool.Called.{Called}
use Rattle.buffer_pool.specs.Record.{caller_count, marked}
use Rattle.buffer_pool.specs.Moves.{Memories, Move}
use Rattle.buffer_pool.specs.Soundness.{sound}
use Rattle.buffer_pool.specs.Placing.{Decision, Layer, tail_cleared, head_cleared, to_alloc, finish, back_on, shorter, front_cleared, leave_on, front_on, alloc_on, layer, back_layer, front_layer, alloc_layer, resolve, place_of, most_changes, resets, reset_on, reset, place, is_too_long}
use Rattle.buffer_pool.specs.Sound.{Held}
use Rattle.buffer_pool.specs.Steps.{frame, frame_of, reserve_on, reserve_step, resized, commit_step, truncate_step, most_serials, given_to, take_on, take_step, names, release_step}
use Rattle.buffer_pool.specs.Calls as calls
use Rattle.buffer_pool.specs.Calls.{Outcome, misfit, guarded_call, reserve, commit, truncate, copied_out, release}
use Rattle.buffer_pool.specs.Vocabulary.{Call, Reserve, Commit, Truncate, Take, Release, Look, call}
use Rattle.buffer_pool.proofs.Order.{none_held}
use Rattle.buffer_pool.proofs.ReserveKept.{none_live}

-- the lengths of the memories, and all of the slots
pub record Fixed : Type 0 where
  pub capacity : ℕ
  pub overflow : ℕ
  pub slots : ℕ
  pub live : ℕ
  pub starts : List ℕ
  pub lengths : List ℕ
  pub serials : List ℕ
  pub callers : List ℕ
  pub given : List ℕ

abbrev pub fixed : BufferPool → Fixed
fixed r =
    record {
      capacity = r.capacity;
      overflow = r.overflow;
      slots = r.slots;
      live = r.live;
      starts = r.starts;
      lengths = r.lengths;
      serials = r.serials;
      callers = r.callers;
      given = r.given;
    }

-- ---- Every decision

-- P speaks of the changes allowed, the fixed part of the record, the next record and the changes made. It holds of every
-- decision if it holds where a mode keeps the frame, and goes through a change.
module _ (w len : ℕ) (P : ℕ → Fixed → BufferPool → ℕ → Type 0)
    (stop : (k : ℕ) (mode : PoolMode) (r : BufferPool) → P k (fixed r) (finish mode r [] len).next (finish mode r [] len).changes)
    (change : (k : ℕ) (x : Fixed) (q : BufferPool) (n : ℕ) → P k x q n → P (suc k) x q (suc n)) where
  abbrev Decided : ℕ → BufferPool → Decision → Type 0
  Decided k r d = P k (fixed r) d.next d.changes

  module _ (k : ℕ) (next : Bool → BufferPool → Decision) (rest : (e : Bool) (q : BufferPool) → Decided k q (next e q)) where
    abbrev DecidedLayer : BufferPool → Layer → Type 0
    DecidedLayer r l = Decided (suc k) r (resolve next l len)

    again : (e : Bool) (q : BufferPool) → P (suc k) (fixed q) (next e q).next (suc (next e q).changes)
    again e q = change k (fixed q) (next e q).next (next e q).changes (rest e q)

    back_decided : (a c t h : Bool) (r : BufferPool) → DecidedLayer r (back_on a c t h w r)
    unfolding back_on
    back_decided true c t h r = stop (suc k) Back r
    back_decided false false t h r = again true (to_alloc r)
    back_decided false true true h r = stop (suc k) Back (tail_cleared w r)
    back_decided false true false true r = again false (head_cleared w r)
    back_decided false true false false r = again true (to_alloc r)

    leave_decided : (c t : Bool) (r : BufferPool) (moves : List Move) → DecidedLayer r (leave_on c t w r moves)
    unfolding leave_on
    leave_decided true true r moves = again false (tail_cleared w r)
    leave_decided true false r moves = again true (to_alloc r)
    leave_decided false t r moves = again true (to_alloc r)

    front_decided : (a d g : Bool) (r : BufferPool) (f : PoolFront) → DecidedLayer r (front_on a d g w r f len)
    unfolding front_on
    front_decided true d g r f = stop (suc k) (Front f) r
    front_decided false true true r f = stop (suc k) (Front (shorter w r f)) (front_cleared w r f)
    front_decided false true false r f = leave_decided _ _ (front_cleared w r f) _
    front_decided false false g r f = leave_decided _ _ r _

    alloc_decided : (a t h : Bool) (r : BufferPool) → DecidedLayer r (alloc_on a t h w r)
    unfolding alloc_on
    alloc_decided true t h r = stop (suc k) Alloc r
    alloc_decided false true h r = again false (tail_cleared w r)
    alloc_decided false false true r = again false (head_cleared w r)
    alloc_decided false false false r = stop (suc k) Alloc r

  pub decided : (k : ℕ) (entered : Bool) (mode : PoolMode) (r : BufferPool) → Decided k r (place_of w k entered mode r len)
  unfolding place_of layer back_layer front_layer alloc_layer
  decided zero entered mode r = stop zero mode r
  decided (suc k) entered Back r = back_decided k _ (λ e q. decided k e q.mode q) _ _ _ _ r
  decided (suc k) entered (Front f) r = front_decided k _ (λ e q. decided k e q.mode q) _ _ _ r f
  decided (suc k) entered Alloc r = alloc_decided k _ (λ e q. decided k e q.mode q) _ _ _ r

-- ---- The reserve

module _ (w : ℕ) (r : BufferPool) where
  -- r with another record's starts and lengths: a reset may clear them, if no slot is live
  abbrev entries_of : BufferPool → BufferPool
  entries_of q = marked r r.live q.starts q.lengths r.serials r.callers r.given

  reset_fixed : fixed (reset r) ≡ fixed (entries_of (reset r))
  unfolding reset reset_on
  reset_fixed = go (resets r) (ltb r.cursor r.capacity) (eqb r.cursor 0) r.mode
    where
      go : (a t z : Bool) (mode : PoolMode) → fixed (reset_on a t z mode r) ≡ fixed (entries_of (reset_on a t z mode r))
      go false t z mode = refl
      go true t z Back = refl
      go true t z (Front f) = refl
      go true true true Alloc = refl
      go true true false Alloc = refl
      go true false z Alloc = refl

  reset_held : (p : ℕ) → Held w r.live p → reset r ≡ r
  unfolding reset reset_on
  reset_held p t = go (resets r) refl
    where
      go : (a : Bool) → resets r ≡ a → reset_on a (ltb r.cursor r.capacity) (eqb r.cursor 0) r.mode r ≡ r
      go true e = absurd (none_held w (none_live r e) t)
      go false e = refl

  module _ (len : ℕ) where
    placed_fixed : fixed (place w r len).next ≡ fixed (reset r)
    unfolding place
    placed_fixed = decided w len (λ k x q n. fixed q ≡ x) stop (λ k x q n e. e) most_changes false (reset r).mode (reset r)
      where
        stop : (k : ℕ) (mode : PoolMode) (q : BufferPool) → fixed (finish mode q [] len).next ≡ fixed q
        stop k Back q = refl
        stop k (Front f) q = refl
        stop k Alloc q = refl

    place_fixed : fixed (place w r len).next ≡ fixed (entries_of (reset r))
    place_fixed = placed_fixed ∙ reset_fixed

    pub place_capacity : (place w r len).next.capacity ≡ r.capacity
    place_capacity = ap (λ (x : Fixed). x.capacity) place_fixed

    pub place_overflow : (place w r len).next.overflow ≡ r.overflow
    place_overflow = ap (λ (x : Fixed). x.overflow) place_fixed

    place_slots : (place w r len).next.slots ≡ r.slots
    place_slots = ap (λ (x : Fixed). x.slots) place_fixed

    pub place_live : (place w r len).next.live ≡ r.live
    place_live = ap (λ (x : Fixed). x.live) place_fixed

    pub place_serials : (place w r len).next.serials ≡ r.serials
    place_serials = ap (λ (x : Fixed). x.serials) place_fixed

    pub place_callers : (place w r len).next.callers ≡ r.callers
    place_callers = ap (λ (x : Fixed). x.callers) place_fixed

    pub place_given : (place w r len).next.given ≡ r.given
    place_given = ap (λ (x : Fixed). x.given) place_fixed

    -- the entries of the slots too, if one is live
    pub place_starts : (p : ℕ) → Held w r.live p → (place w r len).next.starts ≡ r.starts
    place_starts p t = ap (λ (x : Fixed). x.starts) (placed_fixed ∙ ap fixed (reset_held p t))

    pub place_lengths : (p : ℕ) → Held w r.live p → (place w r len).next.lengths ≡ r.lengths
    place_lengths p t = ap (λ (x : Fixed). x.lengths) (placed_fixed ∙ ap fixed (reset_held p t))

-- ---- The lengths of the memories and the slot count, after every call

abbrev pub SameSizes : BufferPool → BufferPool → Type 0
SameSizes r q = (q.capacity ≡ r.capacity) × (q.overflow ≡ r.overflow) × (q.slots ≡ r.slots)

module _ (r : BufferPool) where
  pub reserve_sizes : (w len : ℕ) → SameSizes r (reserve_step w r len).pool
  unfolding reserve_step reserve_on
  reserve_sizes w len = go (is_too_long (place w r len) len)
    where
      go : (t : Bool) → SameSizes r (reserve_on t r (place w r len)).pool
      go true = (refl, refl, refl)
      go false = (place_capacity w r len, place_overflow w r len, place_slots w r len)

  resized_sizes : (mode : PoolMode) (len : ℕ) → SameSizes r (resized mode r len)
  resized_sizes Back len = (refl, refl, refl)
  resized_sizes (Front f) len = (refl, refl, refl)
  resized_sizes Alloc len = (refl, refl, refl)

  pub commit_sizes : (n : ℕ) → SameSizes r (commit_step r n).pool
  unfolding commit_step
  commit_sizes n =
      pick_cases (λ (c : Called). SameSizes r c.pool) (ltb r.reserved n) (λ e. (refl, refl, refl))
      (λ e. resized_sizes r.mode ((frame r).length + n))

  pub truncate_sizes : (n : ℕ) → SameSizes r (truncate_step r n).pool
  unfolding truncate_step
  truncate_sizes n = resized_sizes r.mode (min (frame r).length n)

  pub take_sizes : (w caller destination : ℕ) → SameSizes r (take_step w r caller destination).pool
  unfolding take_step take_on
  take_sizes w caller destination =
      go (leb caller_count caller) (eqb (frame r).length 0) (ltb destination (frame r).length)
      (leb most_serials (given_to r caller)) r.mode
    where
      go : (none z long spent : Bool) (mode : PoolMode) → SameSizes r (take_on none z long spent mode w caller r).pool
      go true z long spent mode = (refl, refl, refl)
      go false true long spent mode = resized_sizes mode (frame_of mode r).length
      go false false long true Back = (refl, refl, refl)
      go false false long false Back = (refl, refl, refl)
      go false false long true (Front f) = (refl, refl, refl)
      go false false long false (Front f) = (refl, refl, refl)
      go false false true spent Alloc = (refl, refl, refl)
      go false false false spent Alloc = (refl, refl, refl)

  pub release_sizes : (w : ℕ) (h : Handle) → SameSizes r (release_step w r h).pool
  unfolding release_step
  release_sizes w h = pick_cases (λ (c : Called). SameSizes r c.pool) (names w r h) (λ e. (refl, refl, refl)) (λ e. (refl, refl, refl))

-- ---- The slot count, after every call: what its step leaves, or the record as it was

module _ (w : ℕ) (r : BufferPool) (m : Memories) where
  guarded_slots : (destination : List ℕ) (o : Outcome) → o.call.pool.slots ≡ r.slots
      → (guarded_call w r m destination o).call.pool.slots ≡ r.slots
  guarded_slots destination o e =
      pick_cases (λ (o : Outcome). o.call.pool.slots ≡ r.slots) (not (sound w r)) (λ _. refl)
      (λ _. pick_cases (λ (o : Outcome). o.call.pool.slots ≡ r.slots) (misfit r m) (λ _. refl) (λ _. e))

  pub call_slots : (c : Call) → (call w r m c).call.pool.slots ≡ r.slots
  unfolding call reserve commit truncate calls.take copied_out release
  call_slots (Reserve len) = guarded_slots [] _ (reserve_sizes r w len).2
  call_slots (Commit n) = guarded_slots [] _ (commit_sizes r n).2
  call_slots (Truncate n) = guarded_slots [] _ (truncate_sizes r n).2
  call_slots (Take caller destination) = guarded_slots destination _ (take_sizes r w caller (length destination)).2
  call_slots (Release h) = guarded_slots [] _ (release_sizes r w h).2
  call_slots (Look part) = refl
