-- No step reads a byte: in a pool that agrees with a book, what is seen at a call is told by the record and the call with
-- its bytes made 0, so every list is seen as its calls are, in any memories of the same lengths. Assumes nothing.
use mathlib.Core.Path.{◌≡◌, refl, sym, ap, ◌∙◌}
use mathlib.Core.Bool.{Bool, true, false}
use mathlib.Core.List.{List, [], ◌∷◌}
use Prim.Native.Nat.{ℕ}
use lib.ListN.{length, length-replicate}
use Rattle.std.specs.Prelude.{Ok}
use Rattle.buffer_pool.specs.declared.buffer_pool.BufferPool.{BufferPool}
use Rattle.buffer_pool.specs.declared.buffer_pool.Answer.TheVariants.{Done}
use Rattle.buffer_pool.specs.declared.buffer_pool.Called.{Called}
use Rattle.buffer_pool.specs.Moves.{Memories}
use Rattle.buffer_pool.specs.Values.{refusal, View}
use Rattle.buffer_pool.specs.Steps.{called, refused, frame, reservation, take_step}
use Rattle.buffer_pool.specs.declared.refusals.Refusal.TheVariants.{WrongLength}
use Rattle.buffer_pool.specs.Calls.{Outcome, misfit, new_on, new, copied_out, shown, reservation_view}
use Rattle.buffer_pool.specs.Vocabulary.{TheFrame, TheReservation, Call, Reserve, Commit, Truncate, Take, Release, Look, view_of, call}
use Rattle.buffer_pool.specs.Soundness.{is_slot_count}
use Rattle.book.specs.Entries.{Entry, Own, Other, Write, State, opened, lent_other, happens, next}
use Rattle.book.specs.Book.{Book, empty_book, noted}
use Rattle.book.specs.Demand3.{blank_memories, blank_call, calls, Seen, seen_at, seen}
use Rattle.book.proofs.Plain.{plain, call_other}
use Rattle.book.proofs.Agrees.{Agrees, agrees_tested, agrees_view, agrees_call, next_agrees}
use Rattle.book.proofs.Keeps.{long, new_agrees}

cons_same : {x y : Seen} {xs ys : List Seen} → x ≡ y → xs ≡ ys → x ∷ xs ≡ y ∷ ys
cons_same p q = rw (p, q)

-- what is seen of a call, and its two views
abbrev seen_with : Called → View → View → Seen
seen_with c f o = record { answer = c.answer; pool = c.pool; frame = f; reservation = o }

abbrev plain_seen : Called → Seen
plain_seen c = seen_with c (shown (frame c.pool)) (shown (reservation c.pool))

seen_plain : (w : ℕ) (o : Outcome) (b : Book) → Agrees w o.call.pool o.memory b → seen_at w o ≡ plain_seen o.call
unfolding view_of
seen_plain w o b G =
    ap (λ (f : View). seen_with o.call f (reservation_view w o.call.pool o.memory)) (agrees_view G TheFrame)
    ∙ ap (seen_with o.call (shown (frame o.call.pool))) (agrees_view G TheReservation)

-- ---- One call

plain_same : (w : ℕ) (r : BufferPool) (m m' : Memories) (c : Call) → (plain w r m c).call ≡ (plain w r m' (blank_call c)).call
unfolding copied_out
plain_same w r m m' (Reserve len) = refl
plain_same w r m m' (Commit n) = refl
plain_same w r m m' (Truncate n) = refl
plain_same w r m m' (Take caller destination) = ap (take_step w r caller) (sym (length-replicate (length destination) 0))
plain_same w r m m' (Release h) = refl
plain_same w r m m' (Look v) = refl

blank_misfit : (r : BufferPool) (m : Memories) → misfit r (blank_memories m) ≡ misfit r m
unfolding misfit
blank_misfit r m = rw (length-replicate {A = ℕ} (length m.pool) 0, length-replicate {A = ℕ} (length m.overflow) 0)

-- ---- Every list

module _ (w : ℕ) where
  abbrev Fine : State → Book → Type 0
  Fine s b = Agrees w s.pool s.lent b

  -- one entry of each of two lists, with the same record and answer
  entry_seen : (s s' : State) (b b' : Book) (e e' : Entry) → Fine s b → Fine s' b'
      → (happens w s e).call ≡ (happens w s' e').call → seen_at w (happens w s e) ≡ seen_at w (happens w s' e')
  entry_seen s s' b b' e e' G H p =
      seen_plain w (happens w s e) (noted w s b e) (next_agrees w s b G e) ∙ ap plain_seen p
      ∙ sym (seen_plain w (happens w s' e') (noted w s' b' e') (next_agrees w s' b' H e'))

  own_call : (s s' : State) (b b' : Book) → Fine s b → Fine s' b' → s.pool ≡ s'.pool → (c : Call)
      → (happens w s (Own c)).call ≡ (happens w s' (Own (blank_call c))).call
  own_call s s' b b' G H p c =
      ap (λ (o : Outcome). o.call) (agrees_call G c) ∙ plain_same w s.pool s.lent s'.lent c
      ∙ ap (λ (r : BufferPool). (plain w r s'.lent (blank_call c)).call) p
      ∙ sym (ap (λ (o : Outcome). o.call) (agrees_call H (blank_call c)))

  -- a call lent other memories is refused by both with 2
  other_call : (s s' : State) (b b' : Book) → Fine s b → Fine s' b' → s.pool ≡ s'.pool → (m : Memories) (c : Call)
      → (happens w s (Other m c)).call ≡ (happens w s' (Other (blank_memories m) (blank_call c))).call
  other_call s s' b b' G H p m c = go (misfit s.pool m) refl ∙ ap (λ (t : Bool). (other t).call) fits
    where
      other : Bool → Outcome
      other t = lent_other t s' (call w s'.pool (blank_memories m) (blank_call c))

      fits : misfit s.pool m ≡ misfit s'.pool (blank_memories m)
      fits = ap (λ (r : BufferPool). misfit r m) p ∙ sym (blank_misfit s'.pool m)

      go : (t : Bool) → misfit s.pool m ≡ t → (lent_other t s (call w s.pool m c)).call ≡ (other t).call
      go true f =
          ap (λ (o : Outcome). o.call) (call_other w s.pool m (agrees_tested G) f c) ∙ ap (λ (r : BufferPool). refused r WrongLength) p
          ∙ sym (ap (λ (o : Outcome). o.call)
          (call_other w s'.pool (blank_memories m) (agrees_tested H) (sym fits ∙ f) (blank_call c)))
      go false f = ap (λ (r : BufferPool). called r (Ok Done)) p

  -- and then the rest of the two lists
  entry_then : (s s' : State) (b b' : Book) (e e' : Entry) → Fine s b → Fine s' b' → (happens w s e).call ≡ (happens w s' e').call
      → {xs ys : List Seen} → ((next w s e).pool ≡ (next w s' e').pool → xs ≡ ys)
      → seen_at w (happens w s e) ∷ xs ≡ seen_at w (happens w s' e') ∷ ys
  entry_then s s' b b' e e' G H q rest = cons_same (entry_seen s s' b b' e e' G H q) (rest (ap (λ (x : Called). x.pool) q))

  seen_same : (es : List Entry) (s s' : State) (b b' : Book) → Fine s b → Fine s' b' → s.pool ≡ s'.pool
      → seen w s es ≡ seen w s' (calls es)
  unfolding seen calls
  seen_same [] s s' b b' G H p = refl
  seen_same (Own c ∷ es) s s' b b' G H p =
      let e = Own c in
      let e' = Own (blank_call c) in
      entry_then s s' b b' e e' G H (own_call s s' b b' G H p c)
      (seen_same es (next w s e) (next w s' e') _ _ (next_agrees w s b G e) (next_agrees w s' b' H e'))
  seen_same (Other m c ∷ es) s s' b b' G H p =
      let e = Other m c in
      let e' = Other (blank_memories m) (blank_call c) in
      entry_then s s' b b' e e' G H (other_call s s' b b' G H p m c)
      (seen_same es (next w s e) (next w s' e') _ _ (next_agrees w s b G e) (next_agrees w s' b' H e'))
  seen_same (Write v i byte ∷ es) s s' b b' G H p =
      seen_same es (next w s (Write v i byte)) s' _ b' (next_agrees w s b G (Write v i byte)) H p

  -- ---- From two new pools

  new_same : (m m' : Memories) → length m.pool ≡ length m'.pool → length m.overflow ≡ length m'.overflow
      → (new w m).call ≡ (new w m').call
  unfolding new
  new_same m m' p o =
      let q : long w m ≡ long w m' = rw (p, o) refl in
      go (is_slot_count w) (long w m) ∙ ap (λ (t : Bool). (new_on (is_slot_count w) t w m').call) q
    where
      go : (i t : Bool) → (new_on i t w m).call ≡ (new_on i t w m').call
      go false t = refl
      go true true = refl
      go true false = rw (p, o) refl

  pub seen_alike : (m m' : Memories) (es es' : List Entry) → refusal (new w m).call.answer ≡ 0
      → length m.pool ≡ length m'.pool → length m.overflow ≡ length m'.overflow → calls es ≡ calls es'
      → seen w (opened w m) es ≡ seen w (opened w m') es'
  seen_alike m m' es es' u p o e =
      let c = new_same m m' p o in
      let G = new_agrees w m u in
      let H = new_agrees w m' (ap (λ (x : Called). refusal x.answer) (sym c) ∙ u) in
      seen_same es (opened w m) (opened w m) empty_book empty_book G G refl
      ∙ ap (seen w (opened w m)) e
      ∙ sym (seen_same es' (opened w m') (opened w m) empty_book empty_book H G (ap (λ (x : Called). x.pool) (sym c)))
