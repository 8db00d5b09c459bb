-- The lines, from the texts that the code of listing.rt puts one after the other. Assumes nothing.
use mathlib.Core.Path.{◌≡◌, refl, sym, subst}
use mathlib.Core.List.{List, [], ◌∷◌, ◌++◌}
use Prim.Native.Nat.{ℕ}
use lib.IntN.{ℤ}
use Rattle.buffer_pool.specs.declared.buffer_pool.BufferPool.{BufferPool}
use Rattle.trace.specs.declared.Refusal.{Refusal}
use Rattle.trace.specs.declared.Refusal.TheVariants.{WrongHeader, BadEvent}
use Rattle.trace.specs.Trace.{number_of}
use Rattle.replay.specs.declared.event.Tally.{Tally}
use Rattle.replay.specs.declared.event.Shown.{Shown}
use Rattle.replay.specs.declared.text.Writer.{Writer}
use Rattle.replay.specs.Text.{decimal, hex, signed, spaced, newline, Writes}
use Rattle.replay.specs.Percentage.{percent}
use Rattle.replay.specs.HeldBytes.{held}
use Rattle.replay.specs.Listing.{first_line, move_of, line_head, line, last_line, refused_with, refused_nine, refused_ten, refused}
use Rattle.replay.proofs.TextLaws.{joined}

module _ {a b c d : Writer} {x y z : List ℕ} (p : Writes a b x) (q : Writes b c y) (r : Writes c d z) where
  three : Writes a d (x ++ y ++ z)
  three = joined (joined p q) r

  five : {e f : Writer} {u v : List ℕ} → Writes d e u → Writes e f v → Writes a f (x ++ y ++ z ++ u ++ v)
  five s t = joined (joined three s) t

-- a number that is shown, by what it is
shown_as : {a b : Writer} (n m : ℕ) → n ≡ m → Writes a b (spaced (decimal n)) → Writes a b (spaced (decimal m))
shown_as {a} {b} n m e p = subst (λ (k : ℕ). Writes a b (spaced (decimal k))) e p

pub first_line_lem : {a b c d e f : Writer} (capacity overflow : ℕ) → Writes a b (112 ∷ 111 ∷ 111 ∷ 108 ∷ []) → Writes b c (spaced (decimal capacity))
    → Writes c d (32 ∷ 111 ∷ 118 ∷ 101 ∷ 114 ∷ 102 ∷ 108 ∷ 111 ∷ 119 ∷ []) → Writes d e (spaced (decimal overflow)) → Writes e f newline
    → Writes a f (first_line capacity overflow)
unfolding first_line
first_line_lem capacity overflow p q r s t = five p q r s t

pub line_head_lem : {a b c d e f : Writer} (event : ℕ) (l : Shown) → Writes a b (decimal event) → Writes b c (spaced (l.kind ∷ []))
    → Writes c d (spaced (decimal l.refusal)) → Writes d e (spaced (l.mode ∷ [])) → Writes e f (spaced (hex l.live)) → Writes a f (line_head event l)
unfolding line_head
line_head_lem event l p q r s t = five p q r s t

pub whole_line : {a b c d e f : Writer} (event : ℕ) (l : Shown) (m : ℤ) → Writes a b (line_head event l) → Writes b c (spaced (decimal l.place.start))
    → Writes c d (spaced (decimal l.place.length)) → m ≡ move_of l.frame → Writes d e (spaced (signed m)) → Writes e f newline
    → Writes a f (line event l)
unfolding line
whole_line {a} {b} {c} {d} {e} event l m p q r u s t = five p q r (subst (λ (n : ℤ). Writes d e (spaced (signed n))) u s) t

pub last_line_lem : {a b c d e f g : Writer} (n : Tally) (k : BufferPool) (x y : ℕ) → x ≡ percent n.spilled n.takes → y ≡ held k → Writes a b (84 ∷ [])
    → Writes b c (spaced (decimal n.done)) → Writes c d (spaced (decimal n.refused)) → Writes d e (spaced (decimal x))
    → Writes e f (spaced (decimal y)) → Writes f g newline → Writes a g (last_line n k)
unfolding last_line
last_line_lem n k x y u v p q r s t end = joined (five p q r (shown_as x _ u s) (shown_as y _ v t)) end

no_event : (why : Refusal) → ((event : ℕ) → why ≡ BadEvent event → ⊥) → why ≡ WrongHeader
no_event WrongHeader n = refl
no_event (BadEvent event) n = absurd (n event refl)

-- the line of a refused file: the word, the number, and the event if one is bad
module _ {a b c : Writer} (why : Refusal) (number : ℕ) (e : number ≡ number_of why) (p : Writes a b (114 ∷ 101 ∷ 102 ∷ 117 ∷ 115 ∷ 101 ∷ 100 ∷ []))
    (q : Writes b c (spaced (decimal number))) where
  word : Writes a c (refused_with (number_of why))
  word = joined p (shown_as number _ e q)

  pub header_line : ((event : ℕ) → why ≡ BadEvent event → ⊥) → {d : Writer} → Writes c d newline → Writes a d (refused why)
  unfolding refused refused_nine
  header_line n {d} t =
      let w : why ≡ WrongHeader = no_event why n in
      subst (λ (y : Refusal). Writes a d (refused y)) (sym w) (joined (subst (λ (y : Refusal). Writes a c (refused_with (number_of y))) w word) t)

  pub event_line : (event : ℕ) → why ≡ BadEvent event → {d f : Writer} → Writes c d (spaced (decimal event)) → Writes d f newline
      → Writes a f (refused why)
  unfolding refused refused_ten
  event_line event w {d} {f} s t = subst (λ (y : Refusal). Writes a f (refused y)) (sym w) (three (subst (λ (y : Refusal). Writes a c (refused_with (number_of y))) w word) s t)
