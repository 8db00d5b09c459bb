-- `lent::fill_at` meets its contract. A place past the end of the memory is one where nothing is stored. Assumes nothing.
use mathlib.Core.Path.{◌≡◌}
use native.Mathlib.Omega.{arith}
use lib.Seq.{sets}
use Prim.Native.Nat.{◌+◌}
use Rattle.replay.proofs.EventLaws.{fill_past, fill_short, fill_in}
use Rattle.replay.proofs.lent.fill_at.Goals as goal

pub returns-then-n-start : goal.returns-then-n-start
returns-then-n-start c = search fill_past

pub returns-then-n-start-2 : goal.returns-then-n-start-2
returns-then-n-start-2 c = search fill_short

pub returns : goal.returns
returns c =
    let a = c.args in
    let e : c.put_some.new.self.out.now ≡ sets a.memory.now (a.start + a.len) a.text.now = fill_in _ _ _ _ c.new-w.ensures.held c.put_some.ensures.text in
    let name : c.put_some.new.self.out.ghost_name ≡ c.new-w.result.out.ghost_name = c.put_some.ensures.text.same_output in
    grind arith
