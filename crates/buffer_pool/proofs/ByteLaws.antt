-- What a turn of each byte loop of inner_memory.rt does and its end leaves; a copy and a fill by the library. Assumes nothing.
use mathlib.Core.Path.{◌≡◌, refl, sym, ap, ◌∙◌}
use mathlib.Core.List.{List, ◌∷◌, ◌++◌, append_assoc}
use Prim.Native.Nat.{ℕ, suc, ◌+◌, ◌-◌, ◌≤◌, ◌<◌}
use native.Mathlib.Numerals.{add-one}
use native.Mathlib.Nat.{sub_self, sub-zero, add-zero}
use native.Mathlib.Omega.{arith}
use lib.ListN.{length, take, drop, get_or, set, replicate, length-append, length-drop, get_or-append}
use lib.Seq.{paste, paste-zero, paste-suc, drop-paste, length-take-le, get_or-drop, get_or-take, drop-cons, take-suc, set_at}
use borrow.Rule.Slice.PartMut.{put_mid}
use Rattle.std.proofs.lemmas.List.{drop-drop}
use Rattle.laws.specs.Lists.{part, copied, moved, zeroed}

-- ---- A copy between two lists

pub copied_none : (s : List ℕ) (at : ℕ) (d : List ℕ) (to : ℕ) → d ≡ copied s at 0 d to
unfolding copied part
copied_none s at d to = paste-zero d to (drop at s)

pub copied_more : (s : List ℕ) (at i len : ℕ) (d d₀ : List ℕ) (to : ℕ) → d ≡ copied s at i d₀ to → i < len
    → at + len ≤ length s → to + len ≤ length d₀ → set d (to + i) (get_or s (at + i) 0) ≡ copied s at (i + 1) d₀ to
unfolding copied part
copied_more s at i len d d₀ to e h hs hd =
    rw (e, ← get_or-drop at s i 0, add-one) (paste-suc d₀ to (drop at s) i 0 (omega arith) (rw length-drop (omega arith)))

-- ---- A move to a lower place or the same

read_at : (m t : List ℕ) (d i k : ℕ) → d ≤ length m → i ≤ length t → get_or (paste m d t i) (d + i + k) 0 ≡ get_or m (d + i + k) 0
read_at m t d i k h1 h2 =
    sym (get_or-drop (d + i) (paste m d t i) k 0) ∙ ap (λ (l : List ℕ). get_or l k 0) (drop-paste m d t i h1 h2) ∙ get_or-drop (d + i) m k 0

read_after : (m t : List ℕ) (d s i : ℕ) → d ≤ s → d ≤ length m → i ≤ length t → get_or (paste m d t i) (s + i) 0 ≡ get_or m (s + i) 0
read_after m t d s i h h1 h2 = let e : s + i ≡ d + i + (s - d) = omega arith in rw e (read_at m t d i (s - d) h1 h2)

pub moved_none : (m : List ℕ) (s d : ℕ) → m ≡ moved m s 0 d
unfolding moved
moved_none m s d = copied_none m s m d

pub down_more : (m m₀ : List ℕ) (s i len d : ℕ) → m ≡ moved m₀ s i d → i < len → s + len ≤ length m₀ → d ≤ s
    → set m (d + i) (get_or m (s + i) 0) ≡ moved m₀ s (i + 1) d
unfolding moved copied part
down_more m m₀ s i len d e h hs hd =
    rw (e, read_after m₀ (drop s m₀) d s i hd (omega arith) (rw length-drop (omega arith)))
    (copied_more m₀ s i len (paste m₀ d (drop s m₀) i) m₀ d refl h hs (omega arith))

-- ---- A move to a higher place or the same

-- one element more at the front of what was pasted
front : (m t : List ℕ) (a n v : ℕ) → a < length m → set (paste m (suc a) t n) a v ≡ paste m a (v ∷ t) (suc n)
front m t a n v h =
    let e : suc a + n ≡ a + suc n = omega arith in
    rw (take-suc m a 0 h, e)
    (simp append_assoc (set_at (take a m) (get_or m a 0) (take n t ++ drop (a + suc n) m) v a (length-take-le a m (omega arith))))

read_before : (m t : List ℕ) (a n k : ℕ) → k < a → a ≤ length m → get_or (paste m a t n) k 0 ≡ get_or m k 0
read_before m t a n k h ha =
    get_or-append (take a m ++ take n t) (drop (a + n) m) 0 k (simp (length-append, length-take-le a m ha) (omega arith))
    ∙ get_or-append (take a m) (take n t) 0 k (rw (length-take-le a m ha) h)
    ∙ get_or-take a m k 0 h

up_suc : (m₀ : List ℕ) (s l d j : ℕ) → j < l → d + l ≤ length m₀ → s ≤ d
    → set (copied m₀ (s + suc j) (l - suc j) m₀ (d + suc j)) (d + j) (get_or m₀ (s + j) 0) ≡ copied m₀ (s + j) (l - j) m₀ (d + j)
unfolding copied part
up_suc m₀ s l d j h hd hs =
    let e1 : s + suc j ≡ suc (s + j) = omega arith in
    let e2 : d + suc j ≡ suc (d + j) = omega arith in
    let e3 : l - j ≡ suc (l - suc j) = omega arith in
    rw (e1, e2, e3, drop-cons m₀ (s + j) 0 (omega arith)) (front m₀ (drop (suc (s + j)) m₀) (d + j) (l - suc j) (get_or m₀ (s + j) 0) (omega arith))

pub up_none : (m : List ℕ) (s l d : ℕ) → m ≡ copied m (s + l) (l - l) m (d + l)
up_none m s l d = rw (sub_self l) (copied_none m (s + l) m (d + l))

pub up_more : (m m₀ : List ℕ) (s i l d : ℕ) → m ≡ copied m₀ (s + i) (l - i) m₀ (d + i) → 0 < i → i ≤ l → d + l ≤ length m₀ → s ≤ d
    → set m (d + (i - 1)) (get_or m (s + (i - 1)) 0) ≡ copied m₀ (s + (i - 1)) (l - (i - 1)) m₀ (d + (i - 1))
unfolding copied part
up_more m m₀ s i l d e h0 h hd hs =
    let z : suc (i - 1) ≡ i = omega arith in
    rw (e, read_before m₀ (drop (s + i) m₀) (d + i) (l - i) (s + (i - 1)) (omega arith) (omega arith))
    (rw z at (up_suc m₀ s l d (i - 1) (omega arith) hd hs))

pub up_all : (m m₀ : List ℕ) (s i l d : ℕ) → m ≡ copied m₀ (s + i) (l - i) m₀ (d + i) → i ≤ 0 → m ≡ moved m₀ s l d
unfolding moved copied part
up_all m m₀ s i l d e h = let z : i ≡ 0 = omega arith in simp (z, add-zero, sub-zero) at e

-- ---- Bytes cleared

-- by the library's fill of a part
pub zeroed_over : (m over : List ℕ) (start end : ℕ) → start ≤ end → end ≤ length m → over ≡ replicate (length (take (end - start) (drop start m))) 0
    → put_mid start (end - start) m over ≡ zeroed m start end
unfolding zeroed
zeroed_over m over start end h k e =
    let l : length (take (end - start) (drop start m)) ≡ end - start = length-take-le (end - start) (drop start m) (rw length-drop (omega arith)) in
    let j : start + (end - start) ≡ end = omega arith in
    rw (e, l) (ap (λ (l : List ℕ). take start m ++ (replicate (end - start) 0 ++ l)) (drop-drop (end - start) start m ∙ ap (λ (x : ℕ). drop x m) j)
    ∙ sym (append_assoc (take start m) (replicate (end - start) 0) (drop end m)))
