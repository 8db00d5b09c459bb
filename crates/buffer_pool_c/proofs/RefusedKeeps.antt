-- A refused call of C's leaves record, memories and destination as they were lent, and every number of its result but the refusal
-- is 0. Assumes nothing.
use mathlib.Core.Path.{◌≡◌, refl, ap, ◌∙◌, subst}
use mathlib.Core.Bool.{Bool, true, false}
use mathlib.Core.List.{List, []}
use Prim.Native.Nat.{ℕ, ◌<◌}
use Rattle.laws.specs.Tests.{pick}
use Rattle.std.specs.Prelude.{Err}
use Rattle.buffer_pool.specs.declared.refusals.Refusal.{Refusal}
use Rattle.buffer_pool.specs.declared.refusals.Refusal.TheVariants.{Unsound}
use Rattle.buffer_pool.specs.Moves.{Memories}
use Rattle.buffer_pool.specs.Values.{Response, refusal}
use Rattle.buffer_pool.specs.Steps.{refused}
use Rattle.buffer_pool.specs.Calls.{Outcome, outcome}
use Rattle.buffer_pool.specs.Vocabulary.{Reserve, Commit, Truncate, Take, Release, call, number_of}
use Rattle.buffer_pool.proofs.RefusedKeeps as pool
use Rattle.buffer_pool_c.specs.declared.record.Record.{Record}
use Rattle.buffer_pool_c.specs.declared.results.Handle.{Handle}
use Rattle.buffer_pool_c.specs.declared.results.ReserveResult.{ReserveResult}
use Rattle.buffer_pool_c.specs.declared.results.PlaceResult.{PlaceResult}
use Rattle.buffer_pool_c.specs.declared.results.TakeResult.{TakeResult}
use Rattle.buffer_pool_c.specs.Record.{known, pool_of}
use Rattle.buffer_pool_c.specs.Results.{reserve_result, place_result, take_result, refusal_result, named}
use Rattle.buffer_pool_c.specs.Exports.{Left, left, seen, exported, reserve, commit, truncate, take, release}
use Rattle.buffer_pool_c.proofs.RecordLaws.{record_held}

module _ (r : Record) (m : Memories) where
  -- what a refused call leaves: the record, the memories and the destination as they were, and a result of its refusal alone
  abbrev Keeps : {A : Type 0} → (Response → A) → (A → ℕ) → List ℕ → Left A → Type 0
  Keeps result number destination x = 0 < number x.result → (why : Refusal) × (x ≡ left (result (Err why)) r m destination)

  -- a result that has its refusal's number
  module _ {A : Type 0} (result : Response → A) (number : A → ℕ) (same : (a : Response) → number (result a) ≡ refusal a) (destination : List ℕ) (o : Outcome)
      (keeps : 0 < refusal o.call.answer → (why : Refusal) × (o ≡ outcome (refused (pool_of r) why) m destination)) where
    kept : Keeps result number destination (exported result r m destination o)
    kept = go (known r) refl
      where
        go : (b : Bool) → known r ≡ b → Keeps result number destination (pick b (seen result r o) (left (result (Err Unsound)) r m destination))
        go true k h =
            let x = keeps (subst (λ (n : ℕ). 0 < n) (same o.call.answer) h) in
            (x.0, ap (seen result r) x.1 ∙ ap (λ (q : Record). left (result (Err x.0)) q m destination) (record_held r k))
        go false k h = (Unsound, refl)

  pub reserve_keeps : (len : ℕ) → Keeps reserve_result (λ (x : ReserveResult). x.refusal) [] (reserve r m len)
  unfolding reserve call number_of refusal
  reserve_keeps len = kept reserve_result (λ (x : ReserveResult). x.refusal) (λ a. refl) [] _ (pool.refused_keeps r.slots (pool_of r) m (Reserve len))

  pub commit_keeps : (n : ℕ) → Keeps place_result (λ (x : PlaceResult). x.refusal) [] (commit r m n)
  unfolding commit call number_of refusal
  commit_keeps n = kept place_result (λ (x : PlaceResult). x.refusal) (λ a. refl) [] _ (pool.refused_keeps r.slots (pool_of r) m (Commit n))

  pub truncate_keeps : (n : ℕ) → Keeps place_result (λ (x : PlaceResult). x.refusal) [] (truncate r m n)
  unfolding truncate call number_of refusal
  truncate_keeps n = kept place_result (λ (x : PlaceResult). x.refusal) (λ a. refl) [] _ (pool.refused_keeps r.slots (pool_of r) m (Truncate n))

  pub take_keeps : (caller : ℕ) (d : List ℕ) → Keeps take_result (λ (x : TakeResult). x.refusal) d (take r m caller d)
  unfolding take call number_of refusal
  take_keeps caller d =
      kept take_result (λ (x : TakeResult). x.refusal) (λ a. refl) d _ (pool.refused_keeps r.slots (pool_of r) m (Take caller d))

  pub release_keeps : (h : Handle) → Keeps refusal_result (λ (x : ℕ). x) [] (release r m h)
  unfolding release call number_of refusal
  release_keeps h = kept refusal_result (λ (x : ℕ). x) (λ a. refl) [] _ (pool.refused_keeps r.slots (pool_of r) m (Release (named h)))
