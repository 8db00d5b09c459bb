-- A text put after another is their concatenation; and what each method of a writer knows where it returns. Assumes nothing.
use mathlib.Core.Path.{◌≡◌, refl, sym, ap, ◌∙◌, subst}
use mathlib.Core.List.{List, [], ◌∷◌, ◌++◌}
use Prim.Native.Nat.{ℕ, zero, suc, ◌+◌, ◌/◌, ◌%◌, ◌≤◌, ◌<◌}
use native.Mathlib.Nat.{add-zero}
use native.Mathlib.Numerals.{add-one}
use native.Mathlib.Omega.{arith}
use lib.ListN.{length, take, get_or, set, length-append}
use lib.Seq.{sets, take-suc}
use Rattle.io.specs.Digits.{hex_digit_ascii}
use Rattle.replay.specs.declared.text.Writer.{Writer}
use Rattle.replay.specs.Text.{Output, output, wrote, held_by, Writes, spaced, hex, decimal}

-- ---- Stores

pub set_past : (l : List ℕ) (i b : ℕ) → length l ≤ i → set l i b ≡ l
set_past [] i b h = refl
set_past (x ∷ l) zero b h = absurd (omega arith)
set_past (x ∷ l) (suc i) b h = ap (λ (r : List ℕ). x ∷ r) (set_past l i b (omega arith))

pub sets_past : (text l : List ℕ) (i : ℕ) → length l ≤ i → sets l i text ≡ l
sets_past [] l i h = refl
sets_past (b ∷ text) l i h = rw (set_past l i b h) (sets_past text l (suc i) (omega arith))

sets_append : (a b l : List ℕ) (i : ℕ) → sets (sets l i a) (i + length a) b ≡ sets l i (a ++ b)
sets_append [] b l i = ap (λ (n : ℕ). sets l n b) (add-zero i)
sets_append (x ∷ a) b l i =
    let e : i + length (x ∷ a) ≡ suc i + length a = omega arith in
    ap (λ (n : ℕ). sets (sets (set l i x) (suc i) a) n b) e ∙ sets_append a b (set l i x) (suc i)

-- ---- Outputs

pub wrote_more : (o : Output) (a b : List ℕ) → wrote (wrote o a) b ≡ wrote o (a ++ b)
unfolding wrote
wrote_more o a b =
    let e : o.at + length a + length b ≡ o.at + length (a ++ b) = rw (length-append a b) (omega arith) in
    ap (λ (n : ℕ). output n (sets (sets o.bytes o.at a) (o.at + length a) b)) e
    ∙ ap (output (o.at + length (a ++ b))) (sets_append a b o.bytes o.at)

pub wrote_none : (o : Output) → o ≡ wrote o []
unfolding wrote
wrote_none o = ap (λ (n : ℕ). output n o.bytes) (sym (add-zero o.at))

-- ---- What a writer has written

pub written_none : (a : Writer) → Writes a a []
written_none a = record { same_output = refl; after = wrote_none (held_by a) }

-- one text, and another after it
pub joined : {a b c : Writer} {x y : List ℕ} → Writes a b x → Writes b c y → Writes a c (x ++ y)
joined {a} {b} {c} {x} {y} p q =
    record {
      same_output = q.same_output ∙ p.same_output;
      after = q.after ∙ ap (λ (o : Output). wrote o y) p.after ∙ wrote_more (held_by a) x y;
    }

pub byte_in : (out : List ℕ) (at b : ℕ) → output (at + 1) (set out at b) ≡ wrote (output at out) (b ∷ [])
unfolding wrote
byte_in out at b = refl

pub byte_past : (out : List ℕ) (at b : ℕ) → length out ≤ at → output (at + 1) out ≡ wrote (output at out) (b ∷ [])
unfolding wrote
byte_past out at b h = ap (output (at + 1)) (sym (set_past out at b h))

-- the first i bytes of a text, and one more
pub some_more : {a b c : Writer} (text : List ℕ) (i : ℕ) → Writes a b (take i text) → i < length text → Writes b c (get_or text i 0 ∷ [])
    → Writes a c (take (i + 1) text)
some_more {a} {b} {c} text i p h q =
    subst (Writes a c) (sym (take-suc text i 0 h) ∙ ap (λ (n : ℕ). take n text) (sym (add-one i))) (joined p q)

pub space_after : {a b c : Writer} {text : List ℕ} → Writes a b (32 ∷ []) → Writes b c text → Writes a c (spaced text)
unfolding spaced
space_after p q = joined p q

pub hex_after : {a b c : Writer} (byte high low : ℕ) → Writes a b (spaced (high ∷ [])) → Writes b c (low ∷ [])
    → high ≡ hex_digit_ascii (byte / 16) → low ≡ hex_digit_ascii (byte % 16) → Writes a c (spaced (hex byte))
unfolding spaced hex
hex_after {a} {b} {c} byte high low p q g h = subst (λ (t : List ℕ). Writes a c (32 ∷ t)) (rw (g, h) refl) (joined p q)

pub decimal_after : {a b : Writer} (n : ℕ) {text : List ℕ} → Writes a b text → (digits : List ℕ) → text ≡ digits → digits ≡ decimal n → Writes a b (decimal n)
decimal_after {a} {b} n p digits d e = subst (Writes a b) (d ∙ e) p

-- what a writer that began at a place of an output has written
pub written : {a b : Writer} {text : List ℕ} (at : ℕ) (out : List ℕ) → held_by a ≡ output at out → Writes a b text → held_by b ≡ wrote (output at out) text
written {text = text} at out h p = p.after ∙ ap (λ (o : Output). wrote o text) h
