-- The way of a frame, from what the code of route.rt and placing.rt knows where it returns: what each call of `reserve_` adds to it, and
-- the moves made on it. Assumes nothing.
use mathlib.Core.Path.{◌≡◌, refl, sym, ap, ◌∙◌}
use mathlib.Core.Bool.{Bool, true, false, ◌||◌}
use mathlib.Core.List.{List, [], ◌∷◌, ◌++◌, append-nil, append_assoc}
use Prim.Native.Nat.{ℕ, ◌+◌, ◌≤◌}
use native.Mathlib.Omega.{arith}
use lib.Dec.{leb, eqb}
use lib.ListN.{length}
use borrow.Author.Tests.{eq-eqb, ne_eqb, leb-true, eqb-true}
use Rattle.laws.specs.Tests.{pick}
use Rattle.laws.specs.Lists.{copied, moved}
use Rattle.laws.proofs.Tests.{both_true, both}
use Rattle.buffer_pool.specs.declared.numbers.Numbers.{Numbers}
use Rattle.buffer_pool.specs.declared.route.Route.{Route}
use Rattle.buffer_pool.specs.declared.placing.ModeStep.{ModeStep}
use Rattle.buffer_pool.specs.Moves.{Memories, memories, Move, Within, Out, act, perform, within, inside, all_inside}
use Rattle.buffer_pool.specs.Deciding.{is_out, step_moves, route_moves, route, stayed_at, onward, Reaches}
use Rattle.buffer_pool.proofs.MovesMade.{perform_append, perform_within}
use Rattle.buffer_pool.proofs.LayerLaws.{within_same}

-- ---- The way of a frame that stays

pub stayed_moves : (start size : ℕ) → route_moves (stayed_at start size) ≡ []
unfolding route_moves
stayed_moves start size = rw (within_same start size start refl) refl

-- ---- The way after a call of `reserve_`

module _ (g : Route) (changes via to : ℕ) where
  pub onward_first : changes ≡ 0 → route g.size g.start via to to to false ≡ onward g changes via false to
  unfolding onward
  onward_first z = rw (eq-eqb changes 0 z) refl

  pub onward_second : (changes ≡ 0 → ⊥) → route g.size g.start g.first g.second via to false ≡ onward g changes via false to
  unfolding onward
  onward_second z = rw (ne_eqb changes 0 z) refl

-- the same way, but out at its end
abbrev out_of : Route → Route
out_of x = route x.size x.start x.first x.second x.third x.fourth true

pub onward_out : (g : Route) (changes via : ℕ) (on : Route) → on ≡ onward g changes via false via
    → route on.size on.start on.first on.second on.third on.fourth true ≡ onward g changes via true via
unfolding onward
onward_out g changes via on e = rw e (go (eqb changes 0))
  where
    go : (b : Bool) → out_of (pick b (route g.size g.start via via via via false) (route g.size g.start g.first g.second via via false))
        ≡ pick b (route g.size g.start via via via via true) (route g.size g.start g.first g.second via via true)
    go true = refl
    go false = refl

-- by its last place, that from which the frame goes out or that to which it goes
ends : (via size to : ℕ) (out : Bool)
    → within via size (pick out via to) ++ pick out (Out (pick out via to) size ∷ []) []
    ≡ pick out (Out via size ∷ []) (within via size to)
ends via size to true = rw (within_same via size via refl) refl
ends via size to false = append-nil (within via size to)

module _ (g : Route) (changes : ℕ) (n : Numbers) (R : Reaches g changes n) (s : ModeStep) where
  abbrev to : ℕ
  to = pick (is_out s.change) s.via s.numbers.raw_offset

  first_moves : changes ≡ 0 → route_moves (route g.size g.start s.via to to to (is_out s.change)) ≡ route_moves g ++ step_moves n s
  unfolding route_moves step_moves
  first_moves z =
      rw (
        R.size_is,
        R.start_is z,
        R.first_is z,
        R.second_is,
        R.third_is,
        R.fourth_is,
        R.in_pool,
        within_same to n.raw_len to refl,
        within_same n.raw_offset n.raw_len n.raw_offset refl,
      )
      (ap (λ (x : List Move). within n.raw_offset n.raw_len s.via ++ x)
      (ends s.via n.raw_len s.numbers.raw_offset (is_out s.change)))

  second_moves : route_moves (route g.size g.start g.first g.second s.via to (is_out s.change)) ≡ route_moves g ++ step_moves n s
  unfolding route_moves step_moves
  second_moves =
      rw (
        R.size_is,
        R.second_is,
        R.third_is,
        R.fourth_is,
        R.in_pool,
        within_same n.raw_offset n.raw_len n.raw_offset refl,
        append-nil (within g.first n.raw_len n.raw_offset),
        append_assoc,
      )
      (ap (λ (x : List Move). within g.start n.raw_len g.first ++ (within g.first n.raw_len n.raw_offset ++ (within n.raw_offset n.raw_len s.via ++ x)))
      (ends s.via n.raw_len s.numbers.raw_offset (is_out s.change)))

  -- it has the step's moves after those before
  pub onward_moves : (on : Route) → on ≡ onward g changes s.via (is_out s.change) to → route_moves on ≡ route_moves g ++ step_moves n s
  unfolding onward
  onward_moves on e = ap route_moves e ∙ go (eqb changes 0) refl
    where
      go : (b : Bool) → eqb changes 0 ≡ b
          → route_moves (pick b (route g.size g.start s.via to to to (is_out s.change)) (route g.size g.start g.first g.second s.via to (is_out s.change)))
          ≡ route_moves g ++ step_moves n s
      go true z = first_moves (eqb-true changes 0 z)
      go false z = second_moves

  -- and reaches the step's place, if the frame did not go out
  pub onward_reaches : changes ≡ 0 → is_out s.change ≡ false → s.numbers.raw_len ≡ n.raw_len → (on : Route) → on ≡ onward g changes s.via (is_out s.change) to
      → Reaches on (changes + 1) s.numbers
  unfolding onward
  onward_reaches z h l on e =
      rw (e, eq-eqb changes 0 z, h)
      (record {
        in_pool = refl;
        size_is = R.size_is ∙ sym l;
        fourth_is = refl;
        third_is = refl;
        second_is = refl;
        first_is = λ q. absurd (omega (arith, q));
        start_is = λ q. absurd (omega (arith, q));
      })

-- ---- The moves made

-- by the Bool that says whether there is nothing to move
module _ (pool : List ℕ) (s l t : ℕ) (unmoved : Bool) (is : unmoved ≡ (eqb l 0 || eqb s t)) where
  -- a move that is none leaves every byte
  pub moves_nothing : unmoved ≡ true → pool ≡ moved pool s l t
  unfolding perform
  moves_nothing e = ap (λ (m : Memories). m.pool) (rw (sym is ∙ e) at (perform_within (memories pool []) s l t))

  -- and another lies in the pool
  module _ (o : ℕ) (h : all_inside (length pool) o (within s l t) ≡ true) (n : unmoved ≡ false) where
    noted : inside (length pool) o (Within s l t) ≡ true
    unfolding all_inside
    noted = (both_true (inside (length pool) o (Within s l t)) true (rw (sym is ∙ n) at h)).0

    pub moves_from : s + l ≤ length pool
    unfolding inside
    moves_from = leb-true (s + l) (length pool) (both_true (leb (s + l) (length pool)) _ noted).0

    pub moves_to : t + l ≤ length pool
    unfolding inside
    moves_to = leb-true (t + l) (length pool) (both_true (leb (s + l) (length pool)) _ noted).1

pub copies_out : (pool overflow after : List ℕ) (start len : ℕ) → after ≡ copied pool start len overflow 0
    → memories pool after ≡ act (memories pool overflow) (Out start len)
unfolding act
copies_out pool overflow after start len e = rw e refl

-- where a list of moves lies in the memories, so does each part of it
pub inside_parts : (c o : ℕ) (a b : List Move) → all_inside c o (a ++ b) ≡ true → (all_inside c o a ≡ true) × (all_inside c o b ≡ true)
unfolding all_inside
inside_parts c o [] b h = (refl, h)
inside_parts c o (x ∷ a) b h =
    let y = both_true (inside c o x) _ h in
    let z = inside_parts c o a b y.1 in
    (both y.0 z.0, z.1)

-- a move within the pool has no place in the overflow
pub within_pool : (c o s l t : ℕ) → all_inside c o (within s l t) ≡ true → all_inside c 0 (within s l t) ≡ true
unfolding all_inside inside
within_pool c o s l t = go (eqb l 0 || eqb s t)
  where
    go : (b : Bool) → all_inside c o (pick b [] (Within s l t ∷ [])) ≡ true → all_inside c 0 (pick b [] (Within s l t ∷ [])) ≡ true
    go true h = refl
    go false h = h

module _ (g : Route) (c o : ℕ) (h : all_inside c o (route_moves g) ≡ true) where
  abbrev Tail : List Move → Type 0
  Tail l = all_inside c o l ≡ true

  one : Tail (within g.start g.size g.first)
      × Tail (within g.first g.size g.second ++ (within g.second g.size g.third ++ (within g.third g.size g.fourth ++ pick g.out (Out g.fourth g.size ∷ []) [])))
  unfolding route_moves
  one = inside_parts c o (within g.start g.size g.first) _ h

  two : Tail (within g.first g.size g.second)
      × Tail (within g.second g.size g.third ++ (within g.third g.size g.fourth ++ pick g.out (Out g.fourth g.size ∷ []) []))
  two = inside_parts c o (within g.first g.size g.second) _ one.1

  three : Tail (within g.second g.size g.third) × Tail (within g.third g.size g.fourth ++ pick g.out (Out g.fourth g.size ∷ []) [])
  three = inside_parts c o (within g.second g.size g.third) _ two.1

  four : Tail (within g.third g.size g.fourth) × Tail (pick g.out (Out g.fourth g.size ∷ []) [])
  four = inside_parts c o (within g.third g.size g.fourth) _ three.1

  module _ (c' : ℕ) (e : c' ≡ c) where
    pub first_inside : all_inside c' 0 (within g.start g.size g.first) ≡ true
    first_inside = rw e (within_pool c o g.start g.size g.first one.0)

    pub second_inside : all_inside c' 0 (within g.first g.size g.second) ≡ true
    second_inside = rw e (within_pool c o g.first g.size g.second two.0)

    pub third_inside : all_inside c' 0 (within g.second g.size g.third) ≡ true
    third_inside = rw e (within_pool c o g.second g.size g.third three.0)

    pub fourth_inside : all_inside c' 0 (within g.third g.size g.fourth) ≡ true
    fourth_inside = rw e (within_pool c o g.third g.size g.fourth four.0)

    out_inside : g.out ≡ true → inside c o (Out g.fourth g.size) ≡ true
    unfolding all_inside
    out_inside t = (both_true (inside c o (Out g.fourth g.size)) true (rw t at four.1)).0

    pub leaves_from : g.out ≡ true → g.fourth + g.size ≤ c'
    unfolding inside
    leaves_from t = rw e (leb-true (g.fourth + g.size) c (both_true (leb (g.fourth + g.size) c) _ (out_inside t)).0)

    pub leaves_to : (o' : ℕ) → o' ≡ o → g.out ≡ true → 0 + g.size ≤ o'
    unfolding inside
    leaves_to o' q t = omega (arith, q, leb-true g.size o (both_true (leb (g.fourth + g.size) c) _ (out_inside t)).1)

-- a frame moved from place to place
module _ (g : Route) (pool overflow two four : List ℕ) (b : two ≡ moved (moved pool g.start g.size g.first) g.first g.size g.second)
    (d : four ≡ moved (moved two g.second g.size g.third) g.third g.size g.fourth) where
  placed_on : (rest : List Move)
      → perform (within g.start g.size g.first ++ (within g.first g.size g.second ++ (within g.second g.size g.third
      ++ (within g.third g.size g.fourth ++ rest)))) (memories pool overflow)
      ≡ perform rest (memories four overflow)
  placed_on rest =
      rw (
        perform_append (within g.start g.size g.first) _ (memories pool overflow),
        perform_within (memories pool overflow) g.start g.size g.first,
        perform_append (within g.first g.size g.second) _ (memories (moved pool g.start g.size g.first) overflow),
        perform_within (memories (moved pool g.start g.size g.first) overflow) g.first g.size g.second,
        ← b,
        perform_append (within g.second g.size g.third) _ (memories two overflow),
        perform_within (memories two overflow) g.second g.size g.third,
        perform_append (within g.third g.size g.fourth) rest (memories (moved two g.second g.size g.third) overflow),
        perform_within (memories (moved two g.second g.size g.third) overflow) g.third g.size g.fourth,
        ← d,
      ) refl

  pub made_in : g.out ≡ false → memories four overflow ≡ perform (route_moves g) (memories pool overflow)
  unfolding route_moves perform
  made_in t = sym (placed_on (pick g.out (Out g.fourth g.size ∷ []) []) ∙ rw t refl)

  pub made_out : g.out ≡ true → (after : List ℕ) → memories four after ≡ act (memories four overflow) (Out g.fourth g.size)
      → memories four after ≡ perform (route_moves g) (memories pool overflow)
  unfolding route_moves perform
  made_out t after e = e ∙ sym (placed_on (pick g.out (Out g.fourth g.size ∷ []) []) ∙ rw t refl)
