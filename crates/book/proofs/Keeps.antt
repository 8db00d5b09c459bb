-- What agrees is kept as demand 3 says it, a new pool agrees with the empty book, and so, entry by entry, does every list.
-- Assumes nothing.
use mathlib.Core.Path.{◌≡◌, refl, sym, ap, ◌∙◌, subst}
use mathlib.Core.Bool.{Bool, true, false, ◌||◌}
use mathlib.Core.List.{List, [], ◌∷◌, ◌++◌}
use mathlib.Core.Logic.{inl, inr}
use Prim.Native.Nat.{ℕ, ◌+◌, ◌≤◌}
use native.Mathlib.Nat.{zero-add}
use native.Mathlib.Omega.{arith}
use borrow.Author.Tests.{ltb-false, le-ltb, eqb-true}
use lib.Dec.{leb, ltb, eqb}
use lib.ListN.{length, drop, replicate, length-replicate}
use Rattle.laws.specs.Tests.{pick}
use Rattle.laws.specs.Lists.{part, copied}
use Rattle.laws.proofs.Tests.{either_false}
use Rattle.laws.proofs.Lists.{part_none, length_part}
use Rattle.buffer_pool.specs.declared.buffer_pool.BufferPool.{BufferPool}
use Rattle.buffer_pool.specs.declared.buffer_pool.PoolMode.{PoolMode}
use Rattle.buffer_pool.specs.declared.buffer_pool.PoolMode.TheVariants.{Back, Front, Alloc}
use Rattle.buffer_pool.specs.declared.slice.Handle.{Handle}
use Rattle.buffer_pool.specs.declared.refusals.Refusal.TheVariants.{NotLive}
use Rattle.buffer_pool.specs.Record.{byte_limit, caller_count}
use Rattle.buffer_pool.specs.Moves.{Memories}
use Rattle.buffer_pool.specs.Soundness.{is_slot_count}
use Rattle.buffer_pool.specs.Sound.{InMode, Orderly}
use Rattle.buffer_pool.specs.Values.{no_place, no_handle, Values, valued, refusal, values}
use Rattle.buffer_pool.specs.Steps.{frame_of, frame, most_serials, given_to, take_on, take_step}
use Rattle.buffer_pool.specs.Calls.{Outcome, new_on, new, copied_out, shown, hidden, memory_at, bytes_at}
use Rattle.buffer_pool.specs.Vocabulary.{TheFrame, TheReservation, TheSlice, Take}
use Rattle.buffer_pool.proofs.Soundness.{sound_use}
use Rattle.buffer_pool.proofs.Order.{none_held}
use Rattle.buffer_pool.proofs.Unchanged.{fixed}
use Rattle.buffer_pool.proofs.Ranges.{bytes_for, orderly_inside}
use Rattle.buffer_pool.proofs.SoundKept.{sound_new}
use Rattle.book.specs.Entries.{Entry, State, opened, next}
use Rattle.book.specs.Book.{Pair, Book, empty_book, noted}
use Rattle.book.specs.Demand3.{Member, slice_of, Apart, AllApart, Shows, Kept, Always}
use Rattle.book.proofs.Places.{off_apart}
use Rattle.buffer_pool.proofs.Named.{Named, names_make}
use Rattle.book.proofs.Slices.{slice_end, slice_frame, slice_offer, slice_slice}
use Rattle.book.proofs.Pairs.{Once}
use Rattle.book.proofs.Plain.{plain_take, plain, call_other}
use Rattle.book.proofs.Agrees.{Agrees, agrees_tested, agrees_view, agrees_call, empty_at, next_agrees}

-- what the answer of a take says that copied n bytes
abbrev copying : ℕ → Values
copying n = valued 0 no_place no_handle n 0

module _ (w : ℕ) (s : State) (b : Book) (G : Agrees w s.pool s.lent b) where
  abbrev r : BufferPool
  r = s.pool

  abbrev m : Memories
  m = s.lent

  abbrev S : Orderly w r
  S = G.sound.orderly

  -- ---- The views

  room : (mode : PoolMode) → bytes_for mode r ≤ length (memory_at (frame_of mode r).memory m)
  room Back = omega (arith, G.sized.pool_is)
  room (Front f) = omega (arith, G.sized.pool_is)
  room Alloc = omega (arith, G.sized.overflow_is, S.kept_within)

  ends : (frame r).start + (frame r).length + r.reserved ≤ length (memory_at (frame r).memory m)
  ends = omega (arith, (orderly_inside w r S).gathered, room r.mode)

  slice_shows : (x : Pair) → Member x b.pairs → Shows w s (TheSlice x.handle) (slice_of x) x.bytes
  slice_shows x i =
      let N = G.booked.named x i in
      record {
        view =
            agrees_view G (TheSlice x.handle)
            ∙ ap (λ (t : Bool). pick t (shown (slice_of x)) (hidden NotLive)) (names_make w r x.handle N);
        inside =
            omega (
              arith,
              slice_end w r S x.handle N,
              S.ready.slots.inside x.handle.slot N.here,
              G.sized.pool_is,
            );
        holds = G.booked.shows x i;
      }

  all_apart : (pairs : List Pair) → ((x : Pair) → Member x pairs → Named w (fixed r) x.handle) → Once pairs → AllApart pairs
  all_apart [] named O = tt
  all_apart (x ∷ pairs) named O = (apart, all_apart pairs (λ y i. named y (inr i)) O.1)
    where
      apart : (y : Pair) → Member y pairs → Apart (slice_of x) (slice_of y)
      apart y i =
          off_apart
          (slice_slice w r S x.handle y.handle (named x (inl refl)) (named y (inr i))
          (λ e. O.0 y i (ap (λ (h : Handle). h.slot) e)))

  -- ---- A copied frame

  Copy : List ℕ → ℕ → List ℕ → Type 0
  Copy destination n after = (n ≡ length b.F) × (after ≡ b.F ++ drop n destination)

  copies : (caller : ℕ) (destination : List ℕ) (n : ℕ) → let o = plain w r m (Take caller destination) in
      values o.call.answer ≡ copying n → Copy destination n o.destination
  unfolding Copy take_step take_on copied_out copied bytes_at part
  copies caller destination n =
      go (leb caller_count caller) (eqb (frame r).length 0) (ltb (length destination) (frame r).length)
      (leb most_serials (given_to r caller)) r.mode refl S.in_mode G.gathered
    where
      go : (none z long spent : Bool) (mode : PoolMode) → eqb (frame_of mode r).length 0 ≡ z → InMode w mode r r.reserved
          → bytes_at m (frame_of mode r) ≡ b.F → let c = take_on none z long spent mode w caller r in
          values c.answer ≡ copying n → Copy destination n (plain_take r m destination c).destination
      go true z long spent mode e I h a = absurd (omega (arith, ap (λ (v : Values). v.number) a))
      go false true long spent mode e I h a =
          let none : b.F ≡ [] = sym h ∙ empty_at m (frame_of mode r) (eqb-true (frame_of mode r).length 0 e) in
          let count : 0 ≡ n = ap (λ (v : Values). v.length) a in
          rw (none, ← count) (refl, refl)
      go false false long true Back e I h a = absurd (omega (arith, ap (λ (v : Values). v.number) a))
      go false false long false Back e I h a = absurd (omega (arith, ap (λ (v : Values). v.handle.slot) a))
      go false false long true (Front f) e I h a = absurd (omega (arith, ap (λ (v : Values). v.number) a))
      go false false long false (Front f) e I h a = absurd (omega (arith, ap (λ (v : Values). v.handle.slot) a))
      go false false true spent Alloc e I h a = absurd (omega (arith, ap (λ (v : Values). v.number) a))
      go false false false spent Alloc e I h a =
          let count : r.cursor ≡ n = ap (λ (v : Values). v.length) a in
          let within : 0 + r.cursor ≤ length m.overflow = omega (arith, I.fits, S.kept_within, G.sized.overflow_is) in (
            sym count ∙ sym (length_part m.overflow 0 r.cursor within) ∙ ap length h,
            rw (← count, zero-add) (ap (λ (x : List ℕ). x ++ drop r.cursor destination) h),
          )

  -- ---- What demand 3 says of one moment

  pub agrees_kept : Kept w s b
  unfolding Copy
  agrees_kept =
      record {
        count = S.ready.count_is;
        live = λ x i. names_make w r x.handle (G.booked.named x i);
        booked = G.booked.known;
        slices = slice_shows;
        gathered = record { view = agrees_view G TheFrame; inside = omega (arith, ends); holds = G.gathered };
        offered = record { view = agrees_view G TheReservation; inside = ends; holds = G.offered };
        apart = all_apart b.pairs G.booked.named G.booked.once;
        apart_frame = λ x i. off_apart (slice_frame w r S x.handle (G.booked.named x i));
        apart_reservation = λ x i. off_apart (slice_offer w r S x.handle (G.booked.named x i));
        copied = λ caller destination n.
            subst (λ (o : Outcome). values o.call.answer ≡ copying n → Copy destination n o.destination)
            (sym (agrees_call G (Take caller destination))) (copies caller destination n);
        refused_other = λ x c f. call_other w r x (agrees_tested G) f c;
      }

-- ---- A new pool

module _ (w : ℕ) (m : Memories) where
  -- cause 3
  abbrev pub long : Bool
  long = ltb byte_limit (length m.pool) || ltb byte_limit (length m.overflow)

  pub new_agrees : refusal (new w m).call.answer ≡ 0 → Agrees w (opened w m).pool (opened w m).lent empty_book
  unfolding new refusal bytes_at
  new_agrees = go (is_slot_count w) refl long refl
    where
      go : (i : Bool) → is_slot_count w ≡ i → (t : Bool) → long ≡ t → refusal (new_on i t w m).call.answer ≡ 0
          → Agrees w (new_on i t w m).call.pool (new_on i t w m).memory empty_book
      go false h t e u = absurd (omega arith)
      go true h true e u = absurd (omega arith)
      go true h false e u =
          let x = either_false (ltb byte_limit (length m.pool)) _ e in
          record {
            sound =
                sound_use w _
                (sound_new w (length m.pool) (length m.overflow) h (ltb-false byte_limit (length m.pool) x.0)
                (ltb-false byte_limit (length m.overflow) x.1));
            sized = record { pool_is = length-replicate (length m.pool) 0; overflow_is = refl };
            gathered = part_none (replicate (length m.pool) 0) 0;
            offered = part_none (replicate (length m.pool) 0) (0 + 0);
            booked =
                record {
                  named = λ y i. absurd i;
                  shows = λ y i. absurd i;
                  known = λ p t. absurd (none_held w refl t);
                  once = tt;
                };
          }

  -- a slot count and memories within the limit are not refused
  pub new_unrefused : is_slot_count w ≡ true → length m.pool ≤ byte_limit → length m.overflow ≤ byte_limit
      → refusal (new w m).call.answer ≡ 0
  unfolding new refusal
  new_unrefused i p o = rw (i, le-ltb byte_limit (length m.pool) p, le-ltb byte_limit (length m.overflow) o)

-- ---- Every list

pub always : (w : ℕ) (es : List Entry) (s : State) (b : Book) → Agrees w s.pool s.lent b → Always w s b es
unfolding Always
always w [] s b G = agrees_kept w s b G
always w (e ∷ es) s b G = (agrees_kept w s b G, always w es (next w s e) (noted w s b e) (next_agrees w s b G e))
