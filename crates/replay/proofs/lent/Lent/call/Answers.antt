-- `lent::Lent::call` meets its contract. Each arm knows the event's kind, or that it is none of those before. Assumes nothing.
use mathlib.Core.Path.{◌≡◌}
use mathlib.Core.Bool.{false}
use lib.Dec.{eqb}
use native.Mathlib.Omega.{arith}
use Rattle.std.proofs.lemmas.Bool.Decides.{nat_tests}
use Rattle.replay.proofs.EventLaws.{call_reserve, call_commit, call_take, call_truncate, call_release}
use Rattle.replay.proofs.lent.Lent.call.Goals as goal

pub returns-in-Reserve : goal.returns-in-Reserve
returns-in-Reserve c = let k : c.args.e.kind ≡ 1 = grind (arith, nat_tests) in search call_reserve

pub returns-in-Commit : goal.returns-in-Commit
returns-in-Commit c = let k : c.args.e.kind ≡ 2 = grind (arith, nat_tests) in search call_commit

pub returns-in-Take : goal.returns-in-Take
returns-in-Take c = let k : c.args.e.kind ≡ 3 = grind (arith, nat_tests) in search call_take

pub returns-in-Truncate : goal.returns-in-Truncate
returns-in-Truncate c = let k : c.args.e.kind ≡ 4 = grind (arith, nat_tests) in search call_truncate

pub returns-in-Release : goal.returns-in-Release
returns-in-Release c =
    let e = c.args.e in
    let a : eqb e.kind 1 ≡ false = grind (arith, nat_tests) in
    let b : eqb e.kind 2 ≡ false = grind (arith, nat_tests) in
    let d : eqb e.kind 3 ≡ false = grind (arith, nat_tests) in
    let f : eqb e.kind 4 ≡ false = grind (arith, nat_tests) in
    search call_release
