-- `sound::slots_sound` meets its contract. Assumes nothing.
use native.Mathlib.Omega.{arith}
use Rattle.std.proofs.lemmas.Bool.Decides.{nat_tests}
use borrow.Author.Rules.{rules}
use Rattle.buffer_pool.specs.SlotPass.{slots_sound}
use Rattle.buffer_pool.proofs.SoundTestLaws.{last_is, slots_order}
use Rattle.buffer_pool.proofs.sound.slots_sound.Goals as goal

pub returns-then-last-n : goal.returns-then-last-n
unfolding slots_sound
returns-then-last-n c =
    let a = c.args in
    let l = last_is a.t.n (search rules) c.trailing.result c.trailing.ensures.0 in
    let h = slots_order a.t.n (search rules) c.trailing.result c.trailing.ensures.0 a.entries.now.starts a.entries.now.lengths c.span_of-r.result (search rules)
    c.in_order.result c.in_order.ensures in
    grind (arith, nat_tests, l, h)

pub returns-else-last-n : goal.returns-else-last-n
unfolding slots_sound
returns-else-last-n c =
    let l = last_is c.args.t.n (search rules) c.trailing.result c.trailing.ensures.0 in
    grind (arith, nat_tests, l)
