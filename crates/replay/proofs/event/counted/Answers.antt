-- `event::counted` meets its contract. Each test, as a number, is 1 or 0. Assumes nothing.
use native.Mathlib.Omega.{arith}
use Rattle.std.proofs.lemmas.Bool.Decides.{nat_tests}
use Rattle.replay.proofs.EventLaws.{counted_as}
use Rattle.replay.proofs.event.counted.Goals as goal

pub returns : goal.returns
returns c =
    let a = c.args.a in
    counted_as c.args.t a c.from.result c.from-2.result c.from-3.result c.from-4.result
    (grind (arith, nat_tests)) (grind (arith, nat_tests)) (grind (arith, nat_tests)) (grind (arith, nat_tests))
