-- What a handle that names a slice has, on the part of the record that placing leaves (`Fixed`), and what a handle keeps where
-- entries stay, where a slot is claimed and where one is released. Assumes nothing.
use mathlib.Core.Path.{◌≡◌, sym, ap, ◌∙◌, subst}
use mathlib.Core.List.{List}
use mathlib.Core.Logic.{◌≢◌}
use Prim.Native.Nat.{ℕ, suc, ◌-◌, ◌≤◌, ◌<◌}
use native.Mathlib.Omega.{arith}
use borrow.Author.Tests.{ltb-true, eq-eqb, le-leb, lt-ltb}
use lib.ListN.{length, get_or, set}
use lib.Seq.{get_or-set_same, get_or-set_other}
use mathlib.Core.Bool.{true}
use Rattle.laws.specs.Live.{live_at, claimed, released}
use Rattle.laws.proofs.Tests.{no_true, both_true, both, leb_and, eqb_and}
use Rattle.laws.proofs.Slots.{claimed_same, claimed_other, released_same, released_other}
use Rattle.buffer_pool.specs.declared.slice.Handle.{Handle}
use Rattle.buffer_pool.specs.declared.buffer_pool.BufferPool.{BufferPool}
use Rattle.buffer_pool.specs.Record.{caller_count, start_at}
use Rattle.buffer_pool.specs.Placing.{place}
use Rattle.buffer_pool.specs.Sound.{Held, SerialsFit}
use Rattle.buffer_pool.specs.Steps.{names}
use Rattle.buffer_pool.proofs.Unchanged.{Fixed, fixed, place_live, place_serials, place_callers, place_starts, place_lengths}
use Rattle.buffer_pool.proofs.StepsKept.{released_held}

-- the handle's slot is live, with its start, length, serial and caller, which is one of the callers
pub record Named (w : ℕ) (x : Fixed) (h : Handle) : Type 0 where
  pub here : Held w x.live h.slot
  pub start_is : h.start ≡ start_at x.starts h.slot
  pub length_is : h.length ≡ start_at x.lengths h.slot
  pub serial_is : h.serial ≡ start_at x.serials h.slot
  pub caller_is : h.caller ≡ start_at x.callers h.slot
  pub a_caller : h.caller < caller_count

module _ (w : ℕ) (r : BufferPool) (h : Handle) where
  pub names_use : names w r h ≡ true → Named w (fixed r) h
  unfolding names
  names_use e =
      let a = leb_and 1 h.slot e in
      let b = leb_and h.slot w a.1 in
      let c = both_true (live_at w r.live h.slot) _ b.1 in
      let d = eqb_and h.start (start_at r.starts h.slot) c.1 in
      let f = eqb_and h.length (start_at r.lengths h.slot) d.1 in
      let g = eqb_and h.serial (start_at r.serials h.slot) f.1 in
      let i = eqb_and h.caller (start_at r.callers h.slot) g.1 in
      record {
        here = record { one = a.0; most = b.0; here = c.0 };
        start_is = d.0;
        length_is = f.0;
        serial_is = g.0;
        caller_is = i.0;
        a_caller = ltb-true h.caller caller_count i.1;
      }

  pub names_make : Named w (fixed r) h → names w r h ≡ true
  unfolding names
  names_make N =
      both (le-leb 1 h.slot N.here.one) (both (le-leb h.slot w N.here.most) (both N.here.here
      (both (eq-eqb h.start (start_at r.starts h.slot) N.start_is)
      (both (eq-eqb h.length (start_at r.lengths h.slot) N.length_is)
      (both (eq-eqb h.serial (start_at r.serials h.slot) N.serial_is)
      (both (eq-eqb h.caller (start_at r.callers h.slot) N.caller_is)
      (lt-ltb h.caller caller_count N.a_caller)))))))

pub handle_alike : {h k : Handle} → h.slot ≡ k.slot → h.start ≡ k.start → h.length ≡ k.length → h.serial ≡ k.serial
    → h.caller ≡ k.caller → h ≡ k
handle_alike a b c d e = rw (a, b, c, d, e)

-- two handles of one slot are one
pub slot_one : {w : ℕ} {x : Fixed} {h k : Handle} → Named w x h → Named w x k → h.slot ≡ k.slot → h ≡ k
slot_one {x = x} N M e =
    handle_alike e (N.start_is ∙ ap (start_at x.starts) e ∙ sym M.start_is)
    (N.length_is ∙ ap (start_at x.lengths) e ∙ sym M.length_is)
    (N.serial_is ∙ ap (start_at x.serials) e ∙ sym M.serial_is)
    (N.caller_is ∙ ap (start_at x.callers) e ∙ sym M.caller_is)

-- ---- The same live slots with the same entries

pub record Same (w : ℕ) (x y : Fixed) : Type 0 where
  pub live_is : y.live ≡ x.live
  pub serials_is : y.serials ≡ x.serials
  pub callers_is : y.callers ≡ x.callers
  pub starts_is : (p : ℕ) → Held w x.live p → y.starts ≡ x.starts
  pub lengths_is : (p : ℕ) → Held w x.live p → y.lengths ≡ x.lengths

pub fixed_same : {w : ℕ} {x y : Fixed} → y ≡ x → Same w x y
fixed_same e =
    record {
      live_is = ap (λ (z : Fixed). z.live) e;
      serials_is = ap (λ (z : Fixed). z.serials) e;
      callers_is = ap (λ (z : Fixed). z.callers) e;
      starts_is = λ p t. ap (λ (z : Fixed). z.starts) e;
      lengths_is = λ p t. ap (λ (z : Fixed). z.lengths) e;
    }

pub place_same : (w : ℕ) (r : BufferPool) (len : ℕ) → Same w (fixed r) (fixed (place w r len).next)
place_same w r len =
    record {
      live_is = place_live w r len;
      serials_is = place_serials w r len;
      callers_is = place_callers w r len;
      starts_is = place_starts w r len;
      lengths_is = place_lengths w r len;
    }

module _ {w : ℕ} {x y : Fixed} (S : Same w x y) where
  pub same_held : (p : ℕ) → Held w y.live p → Held w x.live p
  same_held p t = subst (λ (l : ℕ). Held w l p) S.live_is t

  pub same_back : Same w y x
  same_back =
      record {
        live_is = sym S.live_is;
        serials_is = sym S.serials_is;
        callers_is = sym S.callers_is;
        starts_is = λ p t. sym (S.starts_is p (same_held p t));
        lengths_is = λ p t. sym (S.lengths_is p (same_held p t));
      }

  pub same_named : {h : Handle} → Named w x h → Named w y h
  same_named {h} N =
      let p = h.slot in
      record {
        here = rw S.live_is N.here;
        start_is = rw (S.starts_is p N.here) N.start_is;
        length_is = rw (S.lengths_is p N.here) N.length_is;
        serial_is = rw S.serials_is N.serial_is;
        caller_is = rw S.callers_is N.caller_is;
        a_caller = N.a_caller;
      }

-- ---- A slot claimed

-- slot i + 1 made live as this slice of this caller's
abbrev pub claimed_slot : ℕ → Fixed → ℕ → ℕ → ℕ → ℕ → ℕ → Fixed
claimed_slot w x i start len serial caller =
    record {
      capacity = x.capacity;
      overflow = x.overflow;
      slots = x.slots;
      live = claimed w x.live (suc i);
      starts = set x.starts i start;
      lengths = set x.lengths i len;
      serials = set x.serials i serial;
      callers = set x.callers i caller;
      given = set x.given caller serial;
    }

abbrev pub handle_of : ℕ → ℕ → ℕ → ℕ → ℕ → Handle
handle_of slot start length serial caller =
    record { slot = slot; start = start; length = length; serial = serial; caller = caller }

entry_same : (l : List ℕ) (i a : ℕ) → i < length l → start_at (set l i a) (suc i) ≡ a
entry_same l i a h = ap (λ (j : ℕ). get_or (set l i a) j 0) {y = i} (omega arith) ∙ get_or-set_same l i a 0 h

entry_other : (l : List ℕ) (i a p : ℕ) → 1 ≤ p → p ≢ suc i → start_at (set l i a) p ≡ start_at l p
entry_other l i a p h n = get_or-set_other l i (p - 1) a 0 (λ e. n (omega arith))

module _ (w : ℕ) (x : Fixed) (i start len serial caller : ℕ) (h : i < w) where
  abbrev x' : Fixed
  x' = claimed_slot w x i start len serial caller

  pub claimed_named : w ≤ length x.starts → w ≤ length x.lengths → SerialsFit w x.serials x.callers x.given
      → caller < caller_count → Named w x' (handle_of (suc i) start len serial caller)
  claimed_named starts lengths fit a =
      record {
        here = record { one = omega arith; most = h; here = claimed_same w x.live (suc i) };
        start_is = sym (entry_same x.starts i start (omega arith));
        length_is = sym (entry_same x.lengths i len (omega arith));
        serial_is = sym (entry_same x.serials i serial (omega (arith, fit.serials_w)));
        caller_is = sym (entry_same x.callers i caller (omega (arith, fit.callers_w)));
        a_caller = a;
      }

  -- the other slots are as they were
  pub claimed_live : (p : ℕ) → p ≤ w → p ≢ suc i → live_at w x'.live p ≡ live_at w x.live p
  claimed_live p k n = claimed_other w x.live (suc i) p (omega arith) k (λ e. n (sym e))

  pub claimed_still : {k : Handle} → k.slot ≢ suc i → Named w x k → Named w x' k
  claimed_still {k} n N =
      let t = N.here in
      record {
        here = record { one = t.one; most = t.most; here = claimed_live k.slot t.most n ∙ t.here };
        start_is = N.start_is ∙ sym (entry_other x.starts i start k.slot t.one n);
        length_is = N.length_is ∙ sym (entry_other x.lengths i len k.slot t.one n);
        serial_is = N.serial_is ∙ sym (entry_other x.serials i serial k.slot t.one n);
        caller_is = N.caller_is ∙ sym (entry_other x.callers i caller k.slot t.one n);
        a_caller = N.a_caller;
      }

  pub claimed_before : {k : Handle} → k.slot ≢ suc i → Named w x' k → Named w x k
  claimed_before {k} n N =
      let t = N.here in
      record {
        here = record { one = t.one; most = t.most; here = sym (claimed_live k.slot t.most n) ∙ t.here };
        start_is = N.start_is ∙ entry_other x.starts i start k.slot t.one n;
        length_is = N.length_is ∙ entry_other x.lengths i len k.slot t.one n;
        serial_is = N.serial_is ∙ entry_other x.serials i serial k.slot t.one n;
        caller_is = N.caller_is ∙ entry_other x.callers i caller k.slot t.one n;
        a_caller = N.a_caller;
      }

-- ---- A slot released

-- other live slots
abbrev with_live : Fixed → ℕ → Fixed
with_live x live =
    record {
      capacity = x.capacity;
      overflow = x.overflow;
      slots = x.slots;
      live = live;
      starts = x.starts;
      lengths = x.lengths;
      serials = x.serials;
      callers = x.callers;
      given = x.given;
    }

live_named : {w live : ℕ} {x : Fixed} {k : Handle} → Held w live k.slot → Named w x k → Named w (with_live x live) k
live_named t N =
    record {
      here = t;
      start_is = N.start_is;
      length_is = N.length_is;
      serial_is = N.serial_is;
      caller_is = N.caller_is;
      a_caller = N.a_caller;
    }

-- slot p made free
abbrev pub released_slot : ℕ → Fixed → ℕ → Fixed
released_slot w x p = with_live x (released w x.live p)

module _ {w : ℕ} {x : Fixed} {p : ℕ} (H : Held w x.live p) {k : Handle} where
  pub released_still : k.slot ≢ p → Named w x k → Named w (released_slot w x p) k
  released_still n N =
      let t = N.here in
      live_named
      (record {
        one = t.one;
        most = t.most;
        here = released_other w x.live p k.slot H.most t.most (λ e. n (sym e)) H.one t.one ∙ t.here;
      })
      N

  pub released_before : Named w (released_slot w x p) k → Named w x k
  released_before N = live_named (released_held w x.live p k.slot H.one H.most N.here) N

  pub released_gone : Named w (released_slot w x p) k → k.slot ≢ p
  released_gone N e =
      no_true (sym (released_same w x.live p H.one H.most) ∙ ap (live_at w (released w x.live p)) (sym e) ∙ N.here.here)
