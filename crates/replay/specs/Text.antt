-- Numbers as text, and text put into a lent output. The listing's lines are made of these.
use Rattle.std.specs.Prelude.{◌≡◌, List, [], ◌∷◌, ℕ, zero, suc, ◌+◌, ◌/◌, ◌%◌, ltb, length, ℤ, pos, negsuc}
use Rattle.std.proofs.lemmas.List.Edits.{sets}
use Rattle.io.specs.Digits.{last_digits, hex_digit_ascii}
use Rattle.laws.specs.Tests.{pick}
use Rattle.replay.specs.declared.text.Writer.{Writer}

-- ---- Numbers

-- how many decimal digits n has, if no more than `more` follow the first
unfoldable pub places : ℕ → ℕ → ℕ
places zero n = 1
places (suc more) n = pick (ltb n 10) 1 (suc (places more (n / 10)))

-- a 64-bit number in decimal, with no zeros in front
unfoldable pub decimal : ℕ → List ℕ
decimal n = last_digits 10 (places 19 n) n

-- a byte in two hexadecimal digits, in lower case
unfoldable pub hex : ℕ → List ℕ
hex b = hex_digit_ascii (b / 16) ∷ hex_digit_ascii (b % 16) ∷ []

-- a signed number in decimal: a negative one after a minus sign
unfoldable pub signed : ℤ → List ℕ
signed (pos n) = decimal n
signed (negsuc n) = 45 ∷ decimal (suc n)

-- ---- The fields of a line, each after a space

unfoldable pub spaced : List ℕ → List ℕ
spaced text = 32 ∷ text

abbrev pub newline : List ℕ
newline = 10 ∷ []

-- ---- Text in an output

-- a lent output, and the place where the next text goes
pub record Output : Type 0 where
  pub at : ℕ
  pub bytes : List ℕ

abbrev pub output : ℕ → List ℕ → Output
output at bytes = record { at = at; bytes = bytes }

-- what an output becomes by a text: what of it lies past the output's end is not written, and still counts for the place
unfoldable pub wrote : Output → List ℕ → Output
wrote o text = output (o.at + length text) (sets o.bytes o.at text)

-- the output and the place that a writer holds
abbrev pub held_by : Writer → Output
held_by w = output w.at w.out.now

-- a writer, as it was and with a text written: in the same lent output
pub record Writes (old new : Writer) (text : List ℕ) : Type 0 where
  pub same_output : new.out.ghost_name ≡ old.out.ghost_name
  pub after : held_by new ≡ wrote (held_by old) text
