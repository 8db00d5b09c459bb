-- What commit, truncate, take and release read off a record, from what the code of steps.rt knows where it returns. Assumes nothing.
use mathlib.Core.Path.{◌≡◌, sym, ap}
use Prim.Native.Nat.{◌+◌}
use mathlib.Core.Logic.{◌⊎◌, inl, inr}
use Rattle.buffer_pool.specs.declared.buffer_pool.PoolFront.{PoolFront}
use Rattle.buffer_pool.specs.declared.buffer_pool.PoolMode.{PoolMode}
use Rattle.buffer_pool.specs.declared.buffer_pool.PoolMode.TheVariants.{Back, Front}
use Rattle.buffer_pool.specs.declared.buffer_pool.Memory.TheVariants.{Pool}
use Rattle.buffer_pool.specs.declared.buffer_pool.Place.{Place}
use Rattle.buffer_pool.specs.declared.numbers.Numbers.{Numbers}
use Rattle.buffer_pool.specs.Numbers.{bare}
use Rattle.buffer_pool.specs.Steps.{at, frame_of, reservation}

-- ---- A frame in the pool

pub frame_pool : (n : Numbers) → (n.mode ≡ Back) ⊎ ((f : PoolFront) × (n.mode ≡ Front f)) → at Pool n.raw_offset n.raw_len ≡ frame_of n.mode (bare n)
frame_pool n (inl m) = ap (λ (x : PoolMode). frame_of x (bare n)) (sym m)
frame_pool n (inr m) = ap (λ (x : PoolMode). frame_of x (bare n)) (sym m.1)

-- ---- The reservation, from the frame

module _ (n : Numbers) (f : Place) (e : f ≡ frame_of n.mode (bare n)) where
  pub reservation_as : at f.memory (f.start + f.length) n.reserved ≡ reservation (bare n)
  reservation_as = ap (λ (x : Place). at x.memory (x.start + x.length) n.reserved) e
