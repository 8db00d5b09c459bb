-- What the code gives while it places a frame (src/placing.rt, route.rt), read as the records of Placing.antt. S and L are the arrays
-- lent to it, the record's starts and lengths.
use Rattle.std.specs.Prelude.{◌≡◌, Bool, true, false, not, ◌&&◌, ◌||◌, List, [], ◌∷◌, ◌++◌, ℕ, ◌+◌, ◌-◌, ◌^◌, ◌≤◌, ◌<◌, max, leb, ltb, eqb, length, replicate, Option, Some, None}
use Rattle.std.specs.Int.Count.{count_leading_zeros, count_trailing_zeros}
use Rattle.laws.specs.Tests.{pick}
use Rattle.buffer_pool.specs.declared.buffer_pool.BufferPool.{BufferPool}
use Rattle.buffer_pool.specs.declared.buffer_pool.PoolMode.{PoolMode}
use Rattle.buffer_pool.specs.declared.buffer_pool.PoolMode.TheVariants.{Back, Front, Alloc}
use Rattle.buffer_pool.specs.declared.numbers.Numbers.{Numbers}
use Rattle.buffer_pool.specs.declared.route.Route.{Route}
use Rattle.buffer_pool.specs.declared.placing.FastPath.{FastPath}
use Rattle.buffer_pool.specs.declared.placing.FastPath.TheVariants.{Settled, StartsOver, Growing, Moving}
use Rattle.buffer_pool.specs.declared.placing.ResetEffect.{ResetEffect}
use Rattle.buffer_pool.specs.declared.placing.ResetEffect.TheVariants.{Nothing, BringsFrame, ClearsEntries}
use Rattle.buffer_pool.specs.declared.placing.Start.{Start}
use Rattle.buffer_pool.specs.declared.placing.ModeChange.{ModeChange}
use Rattle.buffer_pool.specs.declared.placing.ModeChange.TheVariants.{Stays, Changes, GoesOut}
use Rattle.buffer_pool.specs.declared.placing.ModeStep.{ModeStep}
use Rattle.buffer_pool.specs.declared.placing.Decided.{Decided}
use Rattle.buffer_pool.specs.Record.{most_slots, placed, framed}
use Rattle.buffer_pool.specs.Numbers.{numbers_of, plain, bare}
use Rattle.buffer_pool.specs.Moves.{Move, In, Down, Out, within}
use Rattle.buffer_pool.specs.Placing.{Decision, Layer, grows, finish, to_alloc, back_fits, front_fits, stays, is_alloc, resets, is_too_long}

-- the used slots of a front, 0 in the other modes
abbrev pub front_len_of : PoolMode → ℕ
front_len_of Back = 0
front_len_of (Front f) = f.len
front_len_of Alloc = 0

-- the arrays have a place for every slot, and the live word a bit for each: what the code needs of a record to read its slots
pub record Worded (r : BufferPool) : Type 0 where
  pub most : r.slots ≤ most_slots
  pub word : r.live < 2 ^ r.slots

-- what the code needs of a record in order to place a frame: it has w slots, with their places and bits, the slots' numbers are within
-- w, outside A the overflow holds no frame, and in A the pool holds none. Every orderly record has it, and every record on the way.
pub record Placeable (w : ℕ) (r : BufferPool) : Type 0 where
  pub count_is : r.slots ≡ w
  pub worded : Worded r
  pub back_within : r.back_start + r.back_len ≤ w
  pub front_within : front_len_of r.mode ≤ w
  pub no_cursor : is_alloc r.mode ≡ false → r.cursor ≡ 0
  pub no_len : is_alloc r.mode ≡ true → r.raw_len ≡ 0

-- a clear that was tried: the numbers after it, where the test holds
unfoldable pub cleared_on : Bool → Numbers → Option Numbers
cleared_on true after = Some after
cleared_on false after = None

-- ---- One call of `reserve_`

abbrev pub step : ModeChange → ℕ → Numbers → ModeStep
step change via n = record { change = change; via = via; numbers = n }

-- out to the overflow
abbrev pub gone_out : Numbers → ModeStep
gone_out n = step GoesOut n.raw_offset (numbers_of (to_alloc (bare n)))

-- is the frame placed again?
abbrev pub is_again : ModeChange → Bool
is_again Stays = false
is_again Changes = true
is_again GoesOut = true

-- was the overflow entered?
abbrev pub is_out : ModeChange → Bool
is_out Stays = false
is_out Changes = false
is_out GoesOut = true

-- the moves of a step from these numbers: by `via`, then out or to its own place
unfoldable pub step_moves : Numbers → ModeStep → List Move
step_moves n m =
    within n.raw_offset n.raw_len m.via
    ++ pick (is_out m.change) (Out m.via n.raw_len ∷ []) (within m.via n.raw_len m.numbers.raw_offset)

unfoldable pub layer_of : List ℕ → List ℕ → Numbers → ModeStep → Layer
layer_of S L n m =
    record {
      again = is_again m.change;
      entered = is_out m.change;
      mode = m.numbers.mode;
      pool = plain m.numbers S L;
      moves = step_moves n m;
    }

-- ---- The way of the frame

-- the moves of a way: from place to place, and out
unfoldable pub route_moves : Route → List Move
route_moves g =
    within g.start g.size g.first ++ (within g.first g.size g.second ++ (within g.second g.size g.third
    ++ (within g.third g.size g.fourth ++ pick g.out (Out g.fourth g.size ∷ []) [])))

abbrev pub route : ℕ → ℕ → ℕ → ℕ → ℕ → ℕ → Bool → Route
route size start first second third fourth out =
    record { size = size; start = start; first = first; second = second; third = third; fourth = fourth; out = out }

-- the way of a frame that stays
abbrev pub stayed_at : ℕ → ℕ → Route
stayed_at start size = route size start start start start start false

-- the way after a call of `reserve_` that goes by `via` to `to`: the first call's two places, or the second's
unfoldable pub onward : Route → ℕ → ℕ → Bool → ℕ → Route
onward g changes via out to =
    pick (eqb changes 0) (route g.size g.start via to to to out) (route g.size g.start g.first g.second via to out)

-- the frame lies at the end of its way, after so many changes
pub record Reaches (g : Route) (changes : ℕ) (n : Numbers) : Type 0 where
  pub in_pool : g.out ≡ false
  pub size_is : g.size ≡ n.raw_len
  pub fourth_is : g.fourth ≡ n.raw_offset
  pub third_is : g.third ≡ n.raw_offset
  pub second_is : g.second ≡ n.raw_offset
  pub first_is : changes ≡ 0 → g.first ≡ n.raw_offset
  pub start_is : changes ≡ 0 → g.start ≡ n.raw_offset

-- ---- A decision

-- moves and mode changes made before a decision
unfoldable pub following : List Move → ℕ → Decision → Decision
following moves changes d = record { next = d.next; changes = changes + d.changes; moves = moves ++ d.moves; heap = d.heap }

-- the reservation made where the frame lies
unfoldable pub finished : BufferPool → ℕ → Decision
finished r len = finish r.mode r [] len

abbrev pub decided : Numbers → ℕ → ℕ → Route → Decided
decided n changes kept route = record { numbers = n; changes = changes; kept = kept; route = route }

-- the code's decision
unfoldable pub decision_of : List ℕ → List ℕ → Decided → Decision
decision_of S L d =
    record {
      next = plain d.numbers S L;
      changes = d.changes;
      moves = route_moves d.route ++ grows (ltb d.kept d.numbers.kept) d.kept d.numbers.kept;
      heap = is_alloc d.numbers.mode;
    }

-- the reservation made by the code where the frame lies, with no mode but A grown; none where the overflow is too short for it
unfoldable pub finished_on : PoolMode → Numbers → Route → ℕ → ℕ → Option Decided
finished_on Back n g changes len =
    Some (decided (numbers_of (framed (bare n) n.mode n.raw_offset n.raw_len n.kept n.cursor len)) changes n.kept g)
finished_on (Front f) n g changes len =
    Some (decided (numbers_of (framed (bare n) n.mode n.raw_offset n.raw_len n.kept n.cursor len)) changes n.kept g)
finished_on Alloc n g changes len =
    pick (leb (n.cursor + len + 0) n.overflow)
    (Some
    (decided
    (numbers_of (framed (bare n) Alloc n.raw_offset n.raw_len (max n.kept (n.cursor + len)) n.cursor len)) changes
    n.kept g))
    None

-- what the code decides: none where the overflow is too short (cause 4), and else the decision
pub record Decides (S L : List ℕ) (c : Option Decided) (d : Decision) (len : ℕ) : Type 0 where
  pub too_long : c ≡ None → is_too_long d len ≡ true
  pub fits : (x : Decided) → c ≡ Some x → is_too_long d len ≡ false
  pub decision : (x : Decided) → c ≡ Some x → decision_of S L x ≡ d

-- ---- The reset

abbrev pub start : ResetEffect → Numbers → Start
start effect n = record { numbers = n; effect = effect }

-- where a reserve starts, by the tests of Placing's `reset_on`
unfoldable pub start_on : Bool → Bool → Bool → PoolMode → Numbers → Start
start_on false t z mode n = start Nothing n
start_on true t z Back n = start Nothing (numbers_of (placed (bare n) Back 0 0 0 0))
start_on true t z (Front f) n = start Nothing (numbers_of (placed (bare n) Back 0 0 0 0))
start_on true true true Alloc n = start ClearsEntries (numbers_of (placed (bare n) Back 0 0 0 0))
start_on true true false Alloc n =
    start BringsFrame (numbers_of (framed (placed (bare n) Back 0 0 0 0) Back 0 n.cursor (n.kept - n.cursor) 0 n.reserved))
start_on true false z Alloc n = start Nothing (numbers_of (placed (bare n) Alloc n.back_start n.back_len 0 n.raw_offset))

unfoldable pub start_of : Numbers → Start
start_of n = start_on (resets (bare n)) (ltb n.cursor n.capacity) (eqb n.cursor 0) n.mode n

-- do the entries of all slots become 0?
abbrev pub is_clearing : ResetEffect → Bool
is_clearing Nothing = false
is_clearing BringsFrame = false
is_clearing ClearsEntries = true

-- is the frame brought in from the overflow?
abbrev pub is_bringing : ResetEffect → Bool
is_bringing Nothing = false
is_bringing BringsFrame = true
is_bringing ClearsEntries = false

-- an array of the slots where a reserve starts
unfoldable pub entries : Start → List ℕ → List ℕ
entries s S = pick (is_clearing s.effect) (replicate (length S) 0) S

-- the moves of the reset, from these numbers
unfoldable pub start_moves : Numbers → Start → List Move
start_moves n s =
    pick (is_bringing s.effect) (In n.cursor ∷ Down n.cursor (n.kept - n.cursor) ∷ [])
    (within n.raw_offset n.raw_len s.numbers.raw_offset)

-- all moves of a reserve
unfoldable pub all_moves : Numbers → Start → Decided → List Move
all_moves n s d = start_moves n s ++ (route_moves d.route ++ grows (ltb d.kept d.numbers.kept) d.kept d.numbers.kept)

-- ---- Decisions that move no byte

-- A keeps the frame: it stays, or the first and the last slot live, so that no clear can succeed
unfoldable pub keeps_in : ℕ → BufferPool → Bool
keeps_in w r = stays w false r || (eqb (count_leading_zeros w r.live) 0 && eqb (count_trailing_zeros w r.live) 0)

-- the frame stays where it is, and fits: in A within the kept bytes
unfoldable pub fits_in : PoolMode → ℕ → BufferPool → ℕ → Bool
fits_in Back w r len = back_fits w r len
fits_in (Front f) w r len = ltb f.len f.back_start && front_fits r f.byte_capacity len
fits_in Alloc w r len = keeps_in w r && leb (r.cursor + len + 0) r.kept

-- no reset, and the frame stays and fits: only the reservation changes
unfoldable pub settled : ℕ → BufferPool → ℕ → Bool
settled w r len = not (resets r) && fits_in r.mode w r len

-- an empty frame in the pool, which has room for len bytes
unfoldable pub starts_over_in : BufferPool → ℕ → Bool
starts_over_in r len = not (is_alloc r.mode) && (eqb r.raw_len 0 && leb len r.capacity)

-- a reset of it
unfoldable pub is_starting_over : BufferPool → ℕ → Bool
is_starting_over r len = resets r && starts_over_in r len

-- the frame stays in A and needs zeros after the kept bytes, which the overflow has room for
unfoldable pub growing_here : ℕ → BufferPool → ℕ → Bool
growing_here w r len = keeps_in w r && (leb (r.cursor + len + 0) r.overflow && not (leb (r.cursor + len + 0) r.kept))

-- no reset, and the frame stays in A with more kept bytes
unfoldable pub growing : ℕ → BufferPool → ℕ → Bool
growing w r len = not (resets r) && (is_alloc r.mode && growing_here w r len)

-- which of these a reserve is, or one that moves the frame
unfoldable pub path : Bool → Bool → Bool → FastPath
path true over growing = Settled
path false true growing = StartsOver
path false false true = Growing
path false false false = Moving

abbrev pub fast_path : ℕ → BufferPool → ℕ → FastPath
fast_path w r len = path (settled w r len) (is_starting_over r len) (growing w r len)

-- r with so many kept bytes of the overflow
abbrev pub kept_to : BufferPool → ℕ → BufferPool
kept_to r kept = framed r r.mode r.raw_offset r.raw_len kept r.cursor r.reserved

-- r with a reservation of len bytes
abbrev pub offered : BufferPool → ℕ → BufferPool
offered r len = framed r r.mode r.raw_offset r.raw_len r.kept r.cursor len
