-- Parts of a list, and what a copy, a move and a fill leave. The contracts of every function that touches bytes cite these.
use Rattle.std.specs.Prelude.{List, ◌++◌, ℕ, ◌+◌, ◌-◌, take, drop, replicate}

module _ {ℓ} {A : Type ℓ} where
  -- the len elements of m from start on
  unfoldable pub part : List A → ℕ → ℕ → List A
  part m start len = take len (drop start m)

  -- dst, with the len elements of src from start on in place of its own from to on
  unfoldable pub copied : List A → ℕ → ℕ → List A → ℕ → List A
  copied src start len dst to = take to dst ++ part src start len ++ drop (to + len) dst

  -- m, with its own len elements from start on also standing from to on; the two places may overlap
  unfoldable pub moved : List A → ℕ → ℕ → ℕ → List A
  moved m start len to = copied m start len m to

-- m, with zeros from index start up to, not including, index end
unfoldable pub zeroed : List ℕ → ℕ → ℕ → List ℕ
zeroed m start end = take start m ++ replicate (end - start) 0 ++ drop end m
