-- Over every sequence of calls and writes from a new pool, what our pool shows is what the Rust's shows: every action that we
-- accept keeps the two joined and gives the same, a refused one leaves ours as it was, and joined pools show the same. Assumes
-- nothing.
use mathlib.Core.Path.{◌≡◌, refl, sym, ap, ◌∙◌, subst}
use mathlib.Core.Bool.{Bool, true, false, ◌||◌}
use mathlib.Core.List.{List, [], ◌∷◌, map}
use Prim.Native.Nat.{ℕ, zero, suc, ◌<◌}
use native.Mathlib.Omega.{arith}
use borrow.Author.Tests.{ltb-false}
use lib.Dec.{ltb, eqb}
use lib.ListN.{length}
use Rattle.laws.specs.Tests.{pick}
use Rattle.laws.specs.Lists.{part}
use Rattle.laws.proofs.Tests.{either_false, pick_cases}
use Rattle.buffer_pool.specs.declared.slice.Handle.{Handle}
use Rattle.buffer_pool.specs.declared.buffer_pool.BufferPool.{BufferPool}
use Rattle.buffer_pool.specs.declared.buffer_pool.Place.{Place}
use Rattle.buffer_pool.specs.declared.buffer_pool.Called.{Called}
use Rattle.buffer_pool.specs.Record.{cut, byte_limit}
use Rattle.buffer_pool.specs.Moves.{Memories}
use Rattle.buffer_pool.specs.Soundness.{is_slot_count, sound}
use Rattle.buffer_pool.specs.Values.{no_handle, Values, valued, values, refusal, View, view_refusal, view_place}
use Rattle.buffer_pool.specs.Steps.{reserve_step, commit_step, truncate_step, take_step, names, release_step}
use Rattle.buffer_pool.specs.Calls.{Outcome, new_on, new, reserve, commit, truncate, copied_out, take as taken, release, written}
use Rattle.buffer_pool.specs.Rust.{Run, done, with, RustPool, took}
use Rattle.buffer_pool.specs.AsRust.{Stands, Unrefused, AsRust, reply_of, slice_in, slice_of, rust_written}
use Rattle.buffer_pool.specs.Vocabulary.{Part, Call, Reserve, Commit, Truncate, Take, Release, Look, call, number_of, Result}
use Rattle.buffer_pool.specs.Together.{Did, Offer, Sliced, Nothing, Action, Make, Write, Seen, Given, Whole, Viewed, Ours, ours, view, number, holding_in, holding, without, let_go, held_after, step, leaves, given, shown_by, unless_refused, accepted, shows, Holder, Theirs, theirs, rust_frame, rust_holding, rust_without, did, rust_call, rust_step, rust_shows, our_start, rust_start}
use Rattle.buffer_pool.proofs.SoundKept.{sound_new, sound_kept, Reserve as ReserveStep, Commit as CommitStep, Truncate as TruncateStep, Take as TakeStep, Release as ReleaseStep}
use Rattle.buffer_pool.proofs.RustCalls.{written_agrees, new_as_rust, reserve_as_rust, commit_as_rust, truncate_as_rust, take_as_rust, release_as_rust}
use Rattle.buffer_pool.proofs.RefusedKeeps.{refused_keeps, refused_written}
use Rattle.buffer_pool.proofs.Answers.{view_number, write_number, call_answers}
use Rattle.buffer_pool.proofs.Soundness.{sound_use}
use Rattle.buffer_pool.proofs.Unchanged.{fixed, call_slots}
use Rattle.buffer_pool.proofs.Named.{Named, names_use}
use Rattle.buffer_pool.proofs.Handles.{Holds, new_holds, reserve_holds, commit_holds, truncate_holds, take_holds, release_holds}
use Rattle.buffer_pool.proofs.Joined.{holder_of, Joined, frame_place, joined_orderly, joined_fits, slice_part, part_seen, part_agrees, shown_agrees}
use Rattle.buffer_pool.proofs.Cut.{orderly_cut, exact_cut, cut_outcome, call_cut}

-- ---- What we give

frame_given : {v : Values} {place : Place} → v ≡ valued 0 place no_handle 0 0 → Whole place ≡ Whole v.place
frame_given e = ap (λ (v : Values). Whole v.place) (sym e)

-- ---- The slices held

taken_held : (v : Values) (destination : List ℕ) (held : List Handle)
    → rust_holding (slice_of v destination) (map holder_of held) ≡ map holder_of (holding v held)
taken_held v destination held = go v.handle.slot
  where
    go : (k : ℕ) → rust_holding (slice_in k v destination) (map holder_of held) ≡ map holder_of (holding_in k v.handle held)
    go zero = refl
    go (suc k) = refl

released_held : (slot : ℕ) (held : List Handle) → rust_without slot (map holder_of held) ≡ map holder_of (without slot held)
unfolding rust_without without
released_held slot [] = refl
released_held slot (h ∷ held) = go (eqb h.slot slot) (released_held slot held)
  where
    go : (b : Bool) → rust_without slot (map holder_of held) ≡ map holder_of (without slot held)
        → pick b (rust_without slot (map holder_of held)) (holder_of h ∷ rust_without slot (map holder_of held))
        ≡ map holder_of (pick b (without slot held) (h ∷ without slot held))
    go true e = e
    go false e = ap (λ (l : List Holder). holder_of h ∷ l) e

module _ (w : ℕ) (s : Ours) (t : Theirs) (J : Joined w s t) where
  abbrev r : BufferPool
  r = s.pool

  abbrev m : Memories
  m = s.memory

  abbrev p : RustPool
  p = t.pool

  -- ---- The actions that we accept

  -- the Rust gives what we give, and the pools stay joined
  record Follows (e : Action) : Type 0 where
    left : Theirs
    run_is : rust_step w t e ≡ done (record { given = given w s e; left = left })
    joined : Joined w (step w s e) left

  look_follows : (part : Part) → number_of w r m (Look part) ≡ 0 → Follows (Make (Look part))
  unfolding number_of call rust_step rust_call step given
  look_follows part u =
      let A = part_agrees w s t J part (sym (view_number (view w s part)) ∙ u) in
      record {
        left = t;
        run_is =
            rw A.rust_is
            (ap (λ (x : Seen). done (did (Viewed x) p t.held)) (part_seen w s t J part A.at_place A.view_is A.kept));
        joined = J;
      }

  write_follows : (part : Part) (i byte : ℕ) → view_refusal (view w s part) ≡ 0 → Follows (Write part i byte)
  unfolding rust_step step given
  write_follows part i byte u =
      let A = part_agrees w s t J part u in
      record {
        left = theirs (rust_written p A.at_place i byte) t.held;
        run_is = rw A.rust_is refl;
        joined =
            record {
              sound_is = J.sound_is;
              stands =
                  subst (λ (v : View). Stands (cut w r) (written m (view_place v) i byte) (rust_written p A.at_place i byte)) (sym A.view_is)
                  (written_agrees (orderly_cut w r (joined_orderly w s t J)) J.stands A.at_place i byte A.kept);
              held_is = J.held_is;
              holds = J.holds;
            };
      }

  -- ---- The calls: each is its step

  reserve_call : (len : ℕ) → (call w r m (Reserve len)).call ≡ reserve_step w r len
  unfolding call reserve
  reserve_call len = rw (J.sound_is, joined_fits w s t J) refl

  commit_call : (n : ℕ) → (call w r m (Commit n)).call ≡ commit_step r n
  unfolding call commit
  commit_call n = rw (J.sound_is, joined_fits w s t J) refl

  truncate_call : (n : ℕ) → (call w r m (Truncate n)).call ≡ truncate_step r n
  unfolding call truncate
  truncate_call n = rw (J.sound_is, joined_fits w s t J) refl

  take_call : (caller : ℕ) (destination : List ℕ)
      → (call w r m (Take caller destination)).call ≡ take_step w r caller (length destination)
  unfolding call taken copied_out
  take_call caller destination = rw (J.sound_is, joined_fits w s t J) refl

  release_call : (h : Handle) → (call w r m (Release h)).call ≡ release_step w r h
  unfolding call release
  release_call h = rw (J.sound_is, joined_fits w s t J) refl

  -- and leaves the two joined, with these handles held after it
  call_joined : (held : Called → List Handle) {c d : Called} {n : Memories} {q : RustPool} {holders : List Holder} → c ≡ d
      → sound w d.pool ≡ true → Holds w d.pool (held d) → Stands (cut w c.pool) n q → holders ≡ map holder_of (held c)
      → Joined w (ours c.pool n (held c)) (theirs q holders)
  call_joined held e a b T h =
      record {
        sound_is = subst (λ (c : Called). sound w c.pool ≡ true) (sym e) a;
        stands = T;
        held_is = h;
        holds = subst (λ (c : Called). Holds w c.pool (held c)) (sym e) b;
      }

  -- the Rust's pool has the first w entries of our arrays, and with them the call leaves the same (`call_cut`)
  beside : {A : Type 0} {run : Run A} (value : Outcome → RustPool → A) (c : Call)
      → (Unrefused (call w (cut w r) m c) → AsRust run (value (call w (cut w r) m c)) (call w (cut w r) m c))
      → Unrefused (call w r m c) → AsRust run (value (cut_outcome w (call w r m c))) (cut_outcome w (call w r m c))
  beside {run = run} value c as-rust u =
      subst (λ (o : Outcome). AsRust run (value o) o) (call_cut w r m c) (as-rust (subst Unrefused (sym (call_cut w r m c)) u))

  with_done : {A : Type 0} {run : Run A} {a : A} (f : A → Did) → run ≡ done a → with run f ≡ done (f a)
  with_done f e = rw e refl

  reserve_follows : (len : ℕ) → number_of w r m (Reserve len) ≡ 0 → Follows (Make (Reserve len))
  unfolding number_of call Result rust_step rust_call step given
  reserve_follows len u =
      let L =
      beside (λ o. reply_of (values o.call.answer)) (Reserve len)
      (reserve_as_rust w (cut w r) m p J.stands (exact_cut w r) 0 len) u in
      record {
        left = theirs L.left t.held;
        run_is = with_done (λ a. did (Offer a.writable a.changes) a.left t.held) L.run_is;
        joined =
            call_joined (λ c. s.held) (reserve_call len) (sound_kept w r (ReserveStep len) J.sound_is)
            (reserve_holds w r s.held J.holds len) L.holds J.held_is;
      }

  commit_follows : (n : ℕ) → number_of w r m (Commit n) ≡ 0 → Follows (Make (Commit n))
  unfolding number_of call Result rust_step rust_call step given
  commit_follows n u =
      let L = beside (λ o q. q) (Commit n) (commit_as_rust w (cut w r) m p J.stands n) u in
      record {
        left = theirs L.left t.held;
        run_is =
            with_done (λ q. did (Whole (rust_frame q)) q t.held) L.run_is
            ∙ ap (λ (g : Given). done (did g L.left t.held))
            (ap Whole (frame_place w _ _ L.left L.holds) ∙ frame_given (call_answers w r m (Commit n) u));
        joined =
            call_joined (λ c. s.held) (commit_call n) (sound_kept w r (CommitStep n) J.sound_is)
            (commit_holds w r s.held J.holds n) L.holds J.held_is;
      }

  truncate_follows : (n : ℕ) → number_of w r m (Truncate n) ≡ 0 → Follows (Make (Truncate n))
  unfolding number_of call Result rust_step rust_call step given
  truncate_follows n u =
      let L = beside (λ o q. q) (Truncate n) (truncate_as_rust w (cut w r) m p J.stands n) u in
      record {
        left = theirs L.left t.held;
        run_is =
            with_done (λ q. did (Whole (rust_frame q)) q t.held) L.run_is
            ∙ ap (λ (g : Given). done (did g L.left t.held))
            (ap Whole (frame_place w _ _ L.left L.holds) ∙ frame_given (call_answers w r m (Truncate n) u));
        joined =
            call_joined (λ c. s.held) (truncate_call n) (sound_kept w r (TruncateStep n) J.sound_is)
            (truncate_holds w r s.held J.holds n) L.holds J.held_is;
      }

  take_follows : (caller : ℕ) (destination : List ℕ) → number_of w r m (Take caller destination) ≡ 0
      → Follows (Make (Take caller destination))
  unfolding number_of call Result rust_step rust_call step given
  take_follows caller destination u =
      let o = taken w r m caller destination in
      let L =
      beside (λ o. took (slice_of (values o.call.answer) o.destination)) (Take caller destination)
      (take_as_rust w (cut w r) m p J.stands caller destination) u in
      let said = values o.call.answer in
      let slice = slice_of said o.destination in
      record {
        left = theirs L.left (rust_holding slice t.held);
        run_is = with_done (λ a. did (Sliced a.slice) a.left (rust_holding a.slice t.held)) L.run_is;
        joined =
            call_joined (λ c. holding (values c.answer) s.held) (take_call caller destination)
            (sound_kept w r (TakeStep caller (length destination)) J.sound_is)
            (take_holds w r s.held J.holds caller (length destination) (joined_orderly w s t J)) L.holds
            (ap (rust_holding slice) J.held_is ∙ taken_held said o.destination s.held);
      }

  -- a handle that is released names a slice, which is held
  released_named : (h : Handle) → refusal (release_step w r h).answer ≡ 0 → Named w (fixed r) h
  unfolding release_step refusal
  released_named h =
      pick_cases (λ (c : Called). refusal c.answer ≡ 0 → Named w (fixed r) h) (names w r h) (λ e u. names_use w r h e)
      (λ e u. absurd (omega (arith, u)))

  release_follows : (h : Handle) → number_of w r m (Release h) ≡ 0 → Follows (Make (Release h))
  unfolding number_of call Result rust_step rust_call step given
  release_follows h u =
      let L = beside (λ o q. q) (Release h) (release_as_rust w (cut w r) m p J.stands h) u in
      let e = release_call h in
      let N = released_named h (subst (λ (c : Called). refusal c.answer ≡ 0) e u) in
      record {
        left = theirs L.left (rust_without h.slot t.held);
        run_is = rw (slice_part w s t J h N).rust_is (with_done (λ q. did Nothing q (rust_without h.slot t.held)) L.run_is);
        joined =
            call_joined (λ c. let_go (refusal c.answer) h.slot s.held) e (sound_kept w r (ReleaseStep h) J.sound_is)
            (release_holds w r s.held J.holds h) L.holds
            (rw u (ap (rust_without h.slot) J.held_is ∙ released_held h.slot s.held));
      }

  follows : (e : Action) → number w s e ≡ 0 → Follows e
  unfolding number
  follows (Make (Reserve len)) u = reserve_follows len u
  follows (Make (Commit n)) u = commit_follows n u
  follows (Make (Truncate n)) u = truncate_follows n u
  follows (Make (Take caller destination)) u = take_follows caller destination u
  follows (Make (Release h)) u = release_follows h u
  follows (Make (Look part)) u = look_follows part u
  follows (Write part i byte) u = write_follows part i byte (sym (write_number (view w s part)) ∙ u)

-- ---- An action that we refuse leaves ours as it was

held_stays : (w : ℕ) (s : Ours) (c : Call) → 0 < number_of w s.pool s.memory c → held_after w s c ≡ s.held
held_stays w s (Reserve len) h = refl
held_stays w s (Commit n) h = refl
held_stays w s (Truncate n) h = refl
held_stays w s (Take caller destination) h =
    ap (λ (o : Outcome). holding (values o.call.answer) s.held)
    (refused_keeps w s.pool s.memory (Take caller destination) h).1
held_stays w s (Release h) k = go (number_of w s.pool s.memory (Release h)) k
  where
    go : (n : ℕ) → 0 < n → let_go n h.slot s.held ≡ s.held
    go zero l = absurd (omega arith)
    go (suc n) l = refl
held_stays w s (Look part) h = refl

stays : (w : ℕ) (s : Ours) (e : Action) → 0 < number w s e → step w s e ≡ s
unfolding number step
stays w s (Make c) h =
    ap (λ (o : Outcome). ours o.call.pool o.memory (held_after w s c)) (refused_keeps w s.pool s.memory c h).1
    ∙ ap (λ (held : List Handle). ours s.pool s.memory held) (held_stays w s c h)
stays w s (Write part i byte) h =
    ap (λ (m : Memories). ours s.pool m s.held)
    (refused_written w s.pool s.memory part i byte (omega (arith, write_number (view w s part))))

-- ---- The sequence

Shows : (w : ℕ) → List Action → Ours → Theirs → Type 0
Shows w es s t = rust_shows w t (accepted w s es) ≡ done (shows w s es)

joined_shows : (w : ℕ) (es : List Action) (s : Ours) (t : Theirs) → Joined w s t → Shows w es s t
unfolding Shows rust_shows accepted shows
joined_shows w [] s t J = refl
joined_shows w (e ∷ es) s t J = go (number w s e) refl (joined_shows w es)
  where
    go : (n : ℕ) → number w s e ≡ n → ((s' : Ours) (t' : Theirs) → Joined w s' t' → Shows w es s' t')
        → rust_shows w t (unless_refused n e (accepted w (step w s e) es))
        ≡ done (unless_refused n (shown_by w (step w s e) (given w s e)) (shows w (step w s e) es))
    go zero u rest =
        let F = follows w s t J e u in
        rw (F.run_is, shown_agrees w (step w s e) F.left F.joined (given w s e), rest (step w s e) F.left F.joined) refl
    go (suc n) u rest = subst (λ (x : Ours). Shows w es x t) (sym (stays w s e (omega (arith, u)))) (rest s t J)

abbrev Starts : ℕ → Outcome → Type 0
Starts w o = Unrefused o → (sound w o.call.pool ≡ true) × Holds w o.call.pool []

new_starts : (w : ℕ) (m : Memories) → Starts w (new w m)
unfolding new refusal
new_starts w m = go (is_slot_count w) refl (ltb byte_limit (length m.pool) || ltb byte_limit (length m.overflow)) refl
  where
    go : (i : Bool) → is_slot_count w ≡ i → (t : Bool) → (ltb byte_limit (length m.pool) || ltb byte_limit (length m.overflow)) ≡ t
        → Starts w (new_on i t w m)
    go false e t f u = absurd (omega (arith, u))
    go true e true f u = absurd (omega (arith, u))
    go true e false f u =
        let a = either_false (ltb byte_limit (length m.pool)) _ f in (
          sound_new w (length m.pool) (length m.overflow) e (ltb-false byte_limit (length m.pool) a.0)
              (ltb-false byte_limit (length m.overflow) a.1),
          new_holds w (length m.pool) (length m.overflow),
        )

start_joined : (w : ℕ) (m : Memories) → Unrefused (new w m) → Joined w (our_start w m) (rust_start w m)
start_joined w m u =
    let S = new_starts w m u in
    record { sound_is = S.0; stands = new_as_rust w m u; held_is = refl; holds = S.1 }

-- ---- The slot count is the record's own, after every action

step_count : (w : ℕ) (s : Ours) (e : Action) → (step w s e).pool.slots ≡ s.pool.slots
unfolding step
step_count w s (Make c) = call_slots w s.pool s.memory c
step_count w s (Write part i byte) = refl

leaves_count : (w : ℕ) (s : Ours) (es : List Action) → (leaves w s es).pool.slots ≡ s.pool.slots
unfolding leaves
leaves_count w s [] = refl
leaves_count w s (e ∷ es) = leaves_count w (step w s e) es ∙ step_count w s e

pub sequence_count : (w : ℕ) (m : Memories) (es : List Action) → Unrefused (new w m) → (leaves w (our_start w m) es).pool.slots ≡ w
sequence_count w m es u =
    leaves_count w (our_start w m) es ∙ (sound_use w _ (new_starts w m u).0).orderly.ready.count_is

-- ---- The theorem

-- from a new pool of any capacities within the limit and any bytes in the overflow, whatever is called and written: the Rust, given
-- the actions that we do not refuse, does not panic, and shows at each of them what we show
pub as_the_rust : (w : ℕ) (m : Memories) (es : List Action) → Unrefused (new w m)
    → rust_shows w (rust_start w m) (accepted w (our_start w m) es) ≡ done (shows w (our_start w m) es)
unfolding Shows
as_the_rust w m es u = joined_shows w es (our_start w m) (rust_start w m) (start_joined w m u)
