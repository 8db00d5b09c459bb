-- `sound::front_own` meets its contract. Assumes nothing.
use native.Mathlib.Omega.{arith}
use Rattle.std.proofs.lemmas.Bool.Decides.{nat_tests}
use Rattle.buffer_pool.specs.SlotPass.{front_own}
use Rattle.buffer_pool.proofs.SoundTestLaws.{own_order}
use Rattle.buffer_pool.proofs.sound.front_own.Goals as goal

pub returns-then-own-f : goal.returns-then-own-f
unfolding front_own
returns-then-own-f c =
    let a = c.args in
    let h = own_order a.n a.entries.now.starts a.entries.now.lengths a.f c.last_front-own.result c.last_front-own.ensures.0 c.in_order.result c.in_order.ensures in
    grind (arith, nat_tests, h)

pub returns-else-own-f : goal.returns-else-own-f
unfolding front_own
returns-else-own-f c = grind (arith, nat_tests)
