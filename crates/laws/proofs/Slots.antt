-- The slots of a word of live bits, at any width.
-- Assumes nothing.
use mathlib.Core.Path.{◌≡◌, refl, sym, ap, ◌∙◌, subst}
use mathlib.Core.Logic.{◌⊎◌, inl, inr}
use mathlib.Core.Bool.{Bool, true, false, not}
use Prim.Native.Nat.{ℕ, zero, suc, ◌+◌, ◌-◌, ◌*◌, ◌/◌, ◌%◌, ◌^◌, ◌≤◌, ◌<◌}
use native.Mathlib.Nat.{lt_of_lt_of_le, lt_of_le_of_lt, le_of_suc-le-suc, le_of_lt, lt_of_not-le, le_refl, le_trans, le-suc, eq-or-lt_of_le, eq-zero-or-pos, zero-mul, mod-lt}
use native.Mathlib.Decide.{ℕ_discrete}
use native.Mathlib.Omega.{arith}
use borrow.Author.Tests.{eq-eqb, ne_eqb, eqb-true, eqb-false}
use lib.Dec.{eqb}
use lib.Arith.{sub-sub_self}
use lib.Pow.{pow_pos, pow-add, pow-lt, pow_mono, shr_lt}
use lib.Bits.{bit_and, bit_or, and_high, or_disjoint, or_lt, and_le_l}
use lib.Count.{count_leading_zeros, leading_of_zero, count_trailing_zeros, trailing_of_zero}
use Rattle.laws.specs.Tests.{pick}
use Rattle.laws.specs.Live.{bit, slot_mask, live_at, claimed, released, last_live, first_live}
use Rattle.laws.proofs.Bits.{bit_two, bit_or_lem, bit_and_lem, bit_not, bit_pow, bit_pow_other, bit_past, bit_shr, bit_shl, bit_shl_low, bit_ext, Top, leading, Bottom, trailing}

-- a slot is live where its bit is set; two slots are alike where their bits are, and the other way round
pub is_live : (w n p : ℕ) → bit n (w - p) ≡ 1 → live_at w n p ≡ true
is_live w n p e = eq-eqb (bit n (w - p)) 1 e

pub is_free : (w n p : ℕ) → bit n (w - p) ≡ 0 → live_at w n p ≡ false
is_free w n p e = ne_eqb (bit n (w - p)) 1 (λ f. omega arith)

pub alike : (w m n p : ℕ) → bit m (w - p) ≡ bit n (w - p) → live_at w m p ≡ live_at w n p
alike w m n p e = ap (λ (x : ℕ). eqb x 1) e

digit_of : (x y : ℕ) → x < 2 → y < 2 → eqb x 1 ≡ eqb y 1 → x ≡ y
digit_of zero zero hx hy e = refl
digit_of zero (suc zero) hx hy e = let f : ◌≡◌ {A = ℕ} 0 1 = cc in absurd (omega arith)
digit_of zero (suc (suc y)) hx hy e = absurd (omega arith)
digit_of (suc zero) zero hx hy e = let f : ◌≡◌ {A = ℕ} 0 1 = cc in absurd (omega arith)
digit_of (suc zero) (suc zero) hx hy e = refl
digit_of (suc zero) (suc (suc y)) hx hy e = absurd (omega arith)
digit_of (suc (suc x)) y hx hy e = absurd (omega arith)

-- ---- one slot's mask

pub mask_fits : (w p : ℕ) → 1 ≤ p → p ≤ w → slot_mask w p < 2 ^ w
mask_fits w p l h = pow-lt (omega arith)

-- ---- a slot claimed and a slot released

pub claimed_fits : (w live p : ℕ) → 1 ≤ p → p ≤ w → live < 2 ^ w → claimed w live p < 2 ^ w
unfolding claimed
claimed_fits w live p l h f = or_lt w live (slot_mask w p) f (mask_fits w p l h)

pub released_le : (w live p : ℕ) → released w live p ≤ live
unfolding released
released_le w live p = and_le_l live _

pub claimed_same : (w live p : ℕ) → live_at w (claimed w live p) p ≡ true
unfolding claimed
claimed_same w live p =
    is_live w (bit_or live (slot_mask w p)) p (omega (arith, bit_or_lem live (slot_mask w p) (w - p), bit_pow (w - p), bit_two live (w - p)))

pub released_same : (w live p : ℕ) → 1 ≤ p → p ≤ w → live_at w (released w live p) p ≡ false
unfolding released
released_same w live p l h =
    let m : ℕ = slot_mask w p in
    is_free w (bit_and live (2 ^ w - 1 - m)) p
    (omega (arith, bit_and_lem live (2 ^ w - 1 - m) (w - p), bit_not w m (w - p) (mask_fits w p l h) (omega arith), bit_pow (w - p)))

module _ (w live p q : ℕ) (hp : p ≤ w) (hq : q ≤ w) (ne : p ≡ q → ⊥) where
  other : bit (slot_mask w p) (w - q) ≡ 0
  other = bit_pow_other (w - p) (w - q) (λ e. ne (omega arith))

  pub claimed_other : live_at w (claimed w live p) q ≡ live_at w live q
  unfolding claimed
  claimed_other =
      alike w (bit_or live (slot_mask w p)) live q (omega (arith, bit_or_lem live (slot_mask w p) (w - q), other))

  pub released_other : 1 ≤ p → 1 ≤ q → live_at w (released w live p) q ≡ live_at w live q
  unfolding released
  released_other l m =
      let x : ℕ = 2 ^ w - 1 - slot_mask w p in
      alike w (bit_and live x) live q
      (omega (arith, bit_and_lem live x (w - q), other, bit_two live (w - q), bit_not w (slot_mask w p) (w - q) (mask_fits w p l hp) (omega arith)))

-- two words of w bits with the same live slots are equal
pub slots_ext : (w a b : ℕ) → a < 2 ^ w → b < 2 ^ w → ((p : ℕ) → 1 ≤ p → p ≤ w → live_at w a p ≡ live_at w b p) → a ≡ b
slots_ext w a b ha hb f =
    bit_ext w a b ha hb
    (λ k l. rw (← sub-sub_self (le_of_lt l)) (digit_of (bit a (w - (w - k))) (bit b (w - (w - k))) (bit_two a _) (bit_two b _) (f (w - k) (omega arith) (omega arith))))

-- the test `live & mask != 0`
pub and_mask_is : (w n p : ℕ) → bit_and n (slot_mask w p) ≡ bit n (w - p) * slot_mask w p
unfolding bit
and_mask_is w n p =
    let k : ℕ = w - p in
    ap (bit_and n) {y = 2 ^ (1 + k) - 2 ^ k} (omega (arith, pow-add 2 1 k)) ∙ and_high n 1 k

pub live_test : (w n p : ℕ) → not (eqb (bit_and n (slot_mask w p)) 0) ≡ live_at w n p
live_test w n p = rw (and_mask_is w n p) (go (bit n (w - p)) (bit_two n (w - p)))
  where
    go : (d : ℕ) → d < 2 → not (eqb (d * slot_mask w p) 0) ≡ eqb d 1
    go zero h = ap (λ (x : ℕ). not (eqb x 0)) (zero-mul (slot_mask w p))
    go (suc zero) h = ap not (ne_eqb (1 * slot_mask w p) 0 (λ e. omega (arith, pow_pos (w - p), e)))
    go (suc (suc d)) h = absurd (omega arith)

-- a free slot's mask put on is a sum, and a live slot's taken off a difference
pub live_bit : (w n p : ℕ) → live_at w n p ≡ true → bit n (w - p) ≡ 1
live_bit w n p e = eqb-true (bit n (w - p)) 1 e

pub free_bit : (w n p : ℕ) → live_at w n p ≡ false → bit n (w - p) ≡ 0
free_bit w n p e = omega (arith, bit_two n (w - p), eqb-false (bit n (w - p)) 1 e)

pub claimed_sum : (w n p : ℕ) → live_at w n p ≡ false → claimed w n p ≡ n + slot_mask w p
unfolding claimed
claimed_sum w n p e =
    or_disjoint n (slot_mask w p) (and_mask_is w n p ∙ ap (λ (x : ℕ). x * slot_mask w p) (free_bit w n p e) ∙ zero-mul (slot_mask w p))

module _ (w n p : ℕ) (l : 1 ≤ p) (h : p ≤ w) (f : n < 2 ^ w) (e : live_at w n p ≡ true) where
  pub released_claimed : claimed w (released w n p) p ≡ n
  released_claimed =
      slots_ext w (claimed w (released w n p) p) n (claimed_fits w (released w n p) p l h (lt_of_le_of_lt (released_le w n p) f)) f
      (λ q m k. go q m k (ℕ_discrete p q))
    where
      go : (q : ℕ) → 1 ≤ q → q ≤ w → Dec (p ≡ q) → live_at w (claimed w (released w n p) p) q ≡ live_at w n q
      go q m k (yes d) =
          ap (live_at w (claimed w (released w n p) p)) (sym d) ∙ claimed_same w (released w n p) p ∙ sym e ∙ ap (live_at w n) d
      go q m k (no d) = claimed_other w (released w n p) p q h k d ∙ released_other w n p q h k d l m

  pub released_sum : released w n p + slot_mask w p ≡ n
  released_sum = sym (claimed_sum w (released w n p) p (released_same w n p l h)) ∙ released_claimed

-- ---- the first live slot of those from a on: a is 1 for the whole word

pub record First (w live a p : ℕ) : Type 0 where
  pub least : a ≤ p
  pub most : p ≤ w
  pub here : live_at w live p ≡ true
  pub none : (q : ℕ) → a ≤ q → q < p → live_at w live q ≡ false

pub first : (w live : ℕ) → 0 < live → live < 2 ^ w → First w live 1 (count_leading_zeros w live + 1)
first w live p h =
    let t = leading w live p h in
    record {
      least = omega arith;
      most = omega (arith, t.within);
      here = is_live w live (count_leading_zeros w live + 1) (ap (bit live) {y = w - suc (count_leading_zeros w live)} (omega arith) ∙ t.set);
      none = λ q k l. is_free w live q (t.clear (w - q) (omega (arith, t.within)));
    }

-- the same past b, in the word shifted up by b
module _ (w live b : ℕ) (hb : b ≤ w) (some : 0 < (live * 2 ^ b) % 2 ^ w) where
  abbrev up : ℕ
  up = (live * 2 ^ b) % 2 ^ w

  top : Top w up (count_leading_zeros w up)
  top = leading w up some (mod-lt (live * 2 ^ b) (pow_pos w))

  -- a digit below b is 0
  room : count_leading_zeros w up + b < w
  room =
      let z : ℕ = count_leading_zeros w up in
      lt_of_not-le (λ l. omega (arith, top.set, bit_shl_low w live b (w - suc z) (omega (arith, top.within)) (omega (arith, top.within))))

  pub first_after : First w live (b + 1) (b + 1 + count_leading_zeros w up)
  first_after =
      let z : ℕ = count_leading_zeros w up in
      record {
        least = omega arith;
        most = omega (arith, room);
        here =
            is_live w live (b + 1 + z)
            (ap (bit live) {y = w - suc z - b} (omega (arith, room)) ∙ sym (bit_shl w live b (w - suc z) (omega (arith, room)) (omega (arith, room))) ∙ top.set);
        none = λ q k l.
            is_free w live q
            (ap (bit live) {y = w - (q - b) - b} (omega (arith, room)) ∙ sym (bit_shl w live b (w - (q - b)) (omega (arith, room)) (omega (arith, room)))
            ∙ top.clear (w - (q - b)) (omega (arith, room)));
      }

-- ---- the last live slot of those up to b: b is w for the whole word

pub record Last (w live b p : ℕ) : Type 0 where
  pub one : 1 ≤ p
  pub most : p ≤ b
  pub here : live_at w live p ≡ true
  pub none : (q : ℕ) → p < q → q ≤ b → live_at w live q ≡ false

module _ (w live b : ℕ) (hb : b ≤ w) (h : live < 2 ^ w) (some : 0 < live / 2 ^ (w - b)) where
  abbrev z : ℕ
  z = count_trailing_zeros w (live / 2 ^ (w - b))

  short : live / 2 ^ (w - b) < 2 ^ b
  short = shr_lt b (w - b) (subst (λ (x : ℕ). live < 2 ^ x) {y = b + (w - b)} (omega arith) h)

  bottom : Bottom w (live / 2 ^ (w - b)) z
  bottom = trailing w (live / 2 ^ (w - b)) some (lt_of_lt_of_le short (pow_mono hb))

  pub zeros_below : z < b
  zeros_below = lt_of_not-le (λ l. omega (arith, bottom.set, bit_past (live / 2 ^ (w - b)) z (lt_of_lt_of_le short (pow_mono l))))

  pub last : Last w live b (b - z)
  last =
      record {
        one = omega (arith, zeros_below);
        most = omega arith;
        here = is_live w live (b - z) (ap (bit live) {y = w - b + z} (omega (arith, zeros_below)) ∙ sym (bit_shr live (w - b) z) ∙ bottom.set);
        none = λ q l m. is_free w live q (ap (bit live) {y = w - b + (b - q)} (omega arith) ∙ sym (bit_shr live (w - b) (b - q)) ∙ bottom.clear (b - q) (omega (arith, zeros_below)));
      }

-- ---- each is the slot that a search finds

pub last_is : (w live b p : ℕ) → Last w live b p → last_live w live b ≡ p
unfolding last_live
last_is w live zero p t = absurd (omega (arith, t.one, t.most))
last_is w live (suc b) p t =
    go (λ l. last_is w live b p (record { one = t.one; most = l; here = t.here; none = λ q m n. t.none q m (le_trans n (le-suc b)) }))
    (eq-or-lt_of_le t.most)
  where
    go : (p ≤ b → last_live w live b ≡ p) → (p ≡ suc b) ⊎ (p < suc b) → pick (live_at w live (suc b)) (suc b) (last_live w live b) ≡ p
    go rest (inl e) = ap (λ (x : Bool). pick x (suc b) (last_live w live b)) (ap (live_at w live) (sym e) ∙ t.here) ∙ sym e
    go rest (inr l) =
        ap (λ (x : Bool). pick x (suc b) (last_live w live b)) (t.none (suc b) l (le_refl (suc b))) ∙ rest (le_of_suc-le-suc l)

pub last_none : (w live b : ℕ) → ((q : ℕ) → 1 ≤ q → q ≤ b → live_at w live q ≡ false) → last_live w live b ≡ 0
unfolding last_live
last_none w live zero f = refl
last_none w live (suc b) f =
    ap (λ (x : Bool). pick x (suc b) (last_live w live b)) (f (suc b) (omega arith) (le_refl (suc b)))
    ∙ last_none w live b (λ q l m. f q l (le_trans m (le-suc b)))

-- the last live slot of those up to b, from the zeros below the word shifted down, whether or not there is one
pub last_zeros : (w live b : ℕ) → b ≤ w → live < 2 ^ w → last_live w live b ≡ b - count_trailing_zeros w (live / 2 ^ (w - b))
last_zeros w live b hb h = go (eq-zero-or-pos (live / 2 ^ (w - b)))
  where
    go : (live / 2 ^ (w - b) ≡ zero) ⊎ (zero < live / 2 ^ (w - b)) → last_live w live b ≡ b - count_trailing_zeros w (live / 2 ^ (w - b))
    go (inl e) =
        last_none w live b
        (λ q l m. is_free w live q
        (ap (bit live) {y = w - b + (b - q)} (omega arith) ∙ sym (bit_shr live (w - b) (b - q)) ∙ ap (λ (x : ℕ). bit x (b - q)) e
        ∙ bit_past zero (b - q) (pow_pos (b - q))))
        ∙ omega (arith, ap (count_trailing_zeros w) e ∙ trailing_of_zero w)
    go (inr l) = last_is w live b (b - count_trailing_zeros w (live / 2 ^ (w - b))) (last w live b hb h l)

pub last_zeros_all : (w live : ℕ) → live < 2 ^ w → last_live w live w ≡ w - count_trailing_zeros w live
last_zeros_all w live h =
    last_zeros w live w (le_refl w) h ∙ ap (λ (x : ℕ). w - count_trailing_zeros w (live / 2 ^ x)) {y = 0} (omega arith)
    ∙ ap (λ (x : ℕ). w - count_trailing_zeros w x) {y = live} (omega arith)

pub first_is : (w live a n p : ℕ) → First w live a p → p < a + n → first_live w live a n ≡ p
unfolding first_live
first_is w live a zero p t m = absurd (omega (arith, t.least))
first_is w live a (suc n) p t m =
    go
    (λ r. first_is w live (suc a) n p (record { least = r; most = t.most; here = t.here; none = λ q k l. t.none q (le_trans (le-suc a) k) l }) (omega arith))
    (eq-or-lt_of_le t.least)
  where
    go : (suc a ≤ p → first_live w live (suc a) n ≡ p) → (a ≡ p) ⊎ (a < p) → pick (live_at w live a) a (first_live w live (suc a) n) ≡ p
    go rest (inl e) = ap (λ (x : Bool). pick x a (first_live w live (suc a) n)) (ap (live_at w live) e ∙ t.here) ∙ e
    go rest (inr r) = ap (λ (x : Bool). pick x a (first_live w live (suc a) n)) (t.none a (le_refl a) r) ∙ rest r

pub first_none : (w live a n : ℕ) → ((q : ℕ) → a ≤ q → q < a + n → live_at w live q ≡ false) → first_live w live a n ≡ a + n
unfolding first_live
first_none w live a zero f = omega arith
first_none w live a (suc n) f =
    ap (λ (x : Bool). pick x a (first_live w live (suc a) n)) (f a (le_refl a) (omega arith))
    ∙ first_none w live (suc a) n (λ q k l. f q (le_trans (le-suc a) k) (omega arith)) ∙ omega arith

pub first_zeros : (w live : ℕ) → live < 2 ^ w → first_live w live 1 w ≡ count_leading_zeros w live + 1
first_zeros w live h = go (eq-zero-or-pos live)
  where
    go : (live ≡ zero) ⊎ (zero < live) → first_live w live 1 w ≡ count_leading_zeros w live + 1
    go (inl e) =
        first_none w live 1 w (λ q k l. is_free w live q (ap (λ (x : ℕ). bit x (w - q)) e ∙ bit_past zero (w - q) (pow_pos (w - q))))
        ∙ omega (arith, ap (count_leading_zeros w) e ∙ leading_of_zero w)
    go (inr l) =
        let t = first w live l h in
        first_is w live 1 w (count_leading_zeros w live + 1) t (omega (arith, t.most))

pub first_after_zeros : (w live b : ℕ) → b ≤ w → 0 < (live * 2 ^ b) % 2 ^ w
    → first_live w live (b + 1) (w - b) ≡ b + 1 + count_leading_zeros w ((live * 2 ^ b) % 2 ^ w)
first_after_zeros w live b hb l =
    let t = first_after w live b hb l in first_is w live (b + 1) (w - b) _ t (omega (arith, t.most))

pub first_after_none : (w live b : ℕ) → b ≤ w → (live * 2 ^ b) % 2 ^ w ≡ 0 → first_live w live (b + 1) (w - b) ≡ w + 1
first_after_none w live b hb e =
    first_none w live (b + 1) (w - b)
    (λ q k l. is_free w live q
    (ap (bit live) {y = w - (q - b) - b} (omega arith) ∙ sym (bit_shl w live b (w - (q - b)) (omega arith) (omega arith))
    ∙ ap (λ (x : ℕ). bit x (w - (q - b))) e ∙ bit_past zero (w - (q - b)) (pow_pos (w - (q - b)))))
    ∙ omega arith

-- no slot is live above the last one
pub none_above : (w live q : ℕ) → live < 2 ^ w → w - count_trailing_zeros w live < q → q ≤ w → live_at w live q ≡ false
none_above w live q h a m = go (eq-zero-or-pos live)
  where
    whole : live / 2 ^ (w - w) ≡ live
    whole = ap (λ (x : ℕ). live / 2 ^ x) {y = 0} (omega arith) ∙ omega arith

    go : (live ≡ zero) ⊎ (zero < live) → live_at w live q ≡ false
    go (inl e) = is_free w live q (ap (λ (x : ℕ). bit x (w - q)) e ∙ bit_past zero (w - q) (pow_pos (w - q)))
    go (inr l) =
        (last w live w (le_refl w) h (subst (λ (x : ℕ). zero < x) (sym whole) l)).none q
        (subst (λ (x : ℕ). w - count_trailing_zeros w x < q) (sym whole) a) m
