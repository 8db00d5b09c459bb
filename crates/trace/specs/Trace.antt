-- A trace file, SPECIFICATION 9: its numbers, its header, its events, and what reading it gives.
-- A file is the list of its bytes. `reading` is what `read` answers.
use Rattle.std.specs.Prelude.{Bool, true, false, ◌&&◌, ◌||◌, List, [], ◌∷◌, ◌≡◌, ℕ, zero, suc, ◌+◌, ◌*◌, ◌≤◌, ◌<◌, ◌⊎◌, leb, eqb, length, get_or, Option, Some, None, Result, Ok, Err, MatchResult}
use Rattle.laws.specs.Lists.{part}
use Rattle.laws.specs.Tests.{pick, implies}
use Rattle.trace.specs.declared.Header.{Header}
use Rattle.trace.specs.declared.Event.{Event}
use Rattle.trace.specs.declared.Kind.{Kind}
use Rattle.trace.specs.declared.Kind.TheVariants.{Reserve, Commit, Take, Truncate, Release}
use Rattle.trace.specs.declared.NoKind.{NoKind}
use Rattle.trace.specs.declared.Refusal.{Refusal}
use Rattle.trace.specs.declared.Refusal.TheVariants.{WrongHeader, BadEvent}

-- ---- The numbers that SPECIFICATION 9 sets

-- the largest pool capacity and overflow length
abbrev pub size_limit : ℕ
size_limit = 16384

-- the most bytes of a file
abbrev pub file_limit : ℕ
file_limit = 65536

-- the bytes of a header, and of an event
abbrev pub header_length : ℕ
header_length = 24

abbrev pub event_length : ℕ
event_length = 8

-- the kinds of an event
abbrev pub reserve_kind : ℕ
reserve_kind = 1

abbrev pub commit_kind : ℕ
commit_kind = 2

abbrev pub take_kind : ℕ
take_kind = 3

abbrev pub truncate_kind : ℕ
truncate_kind = 4

abbrev pub release_kind : ℕ
release_kind = 5

-- W-205, the greatest caller: "a caller, 0 to 3"
abbrev pub most_caller : ℕ
most_caller = 3

-- the byte of a kind
abbrev pub byte_of : Kind → ℕ
byte_of Reserve = reserve_kind
byte_of Commit = commit_kind
byte_of Take = take_kind
byte_of Truncate = truncate_kind
byte_of Release = release_kind

-- what a byte is read as: the kind of that byte, or the byte itself, which is none of the five
abbrev pub Decodes : ℕ → Result Kind NoKind → Type 0
Decodes byte r = MatchResult r (λ kind. byte_of kind ≡ byte) (λ e. (e.0 ≡ byte) × ((byte < reserve_kind) ⊎ (release_kind < byte)))

-- ---- Numbers in a file

-- the number that these bytes are, lowest first
unfoldable pub little : List ℕ → ℕ
little [] = 0
little (b ∷ bytes) = b + 256 * little bytes

-- the 32-bit number of the file whose four bytes stand from `at` on; a byte past the end counts as 0
unfoldable pub number_at : List ℕ → ℕ → ℕ
number_at file at = little (part file at 4)

-- ---- The header

-- 9.2: the six numbers of the header, in their order
abbrev pub capacity_of : List ℕ → ℕ
capacity_of file = number_at file 0

abbrev pub overflow_of : List ℕ → ℕ
overflow_of file = number_at file 4

abbrev pub event_count : List ℕ → ℕ
event_count file = number_at file 8

abbrev pub event_offset : List ℕ → ℕ
event_offset file = number_at file 12

abbrev pub byte_count : List ℕ → ℕ
byte_count file = number_at file 16

abbrev pub byte_offset : List ℕ → ℕ
byte_offset file = number_at file 20

-- what a right header leaves free: the two offsets follow from these
abbrev pub header_of : List ℕ → Header
header_of file = record { capacity = capacity_of file; overflow = overflow_of file; events = event_count file; bytes = byte_count file }

-- where the event of index i, counted from 0, begins; at the event count, where the events end
abbrev pub event_place : ℕ → ℕ
event_place i = header_length + event_length * i

-- the whole header is there
unfoldable pub complete : List ℕ → Bool
complete file = leb header_length (length file)

-- the sizes are within their limit
unfoldable pub sized : List ℕ → Bool
sized file = leb (capacity_of file) size_limit && leb (overflow_of file) size_limit

-- the bytes follow the events, and the events the header
unfoldable pub in_order : List ℕ → Bool
in_order file = eqb (byte_offset file) (event_place (event_count file)) && eqb (event_offset file) header_length

-- the file is not too long, and ends after the bytes
unfoldable pub ended : List ℕ → Bool
ended file = leb (length file) file_limit && eqb (length file) (byte_offset file + byte_count file)

-- 9.3: the header is right
unfoldable pub headed : List ℕ → Bool
headed file = complete file && (sized file && (in_order file && ended file))

-- ---- The events

-- 9.4, the event of index i: a kind byte, a caller byte, two filler bytes, a number
abbrev pub event_at : List ℕ → ℕ → Event
event_at file i =
    record {
      kind = get_or file (event_place i) 0;
      caller = get_or file (event_place i + 1) 0;
      number = number_at file (event_place i + 4);
    }

-- the filler bytes of the event of index i are 0
unfoldable pub filler_zero : List ℕ → ℕ → Bool
filler_zero file i = eqb (get_or file (event_place i + 2) 0) 0 && eqb (get_or file (event_place i + 3) 0) 0

-- W-205, events of this kind have a caller: "takes and releases"
unfoldable pub has_caller : ℕ → Bool
has_caller kind = eqb kind take_kind || eqb kind release_kind

-- W-205, the caller byte: "a value over 3" is bad, and "that byte must be 0 for other kinds"
unfoldable pub caller_right : Event → Bool
caller_right e = pick (has_caller e.kind) (leb e.caller most_caller) (eqb e.caller 0)

-- the kind is one of the five, the caller is right, and a take's number is 0
unfoldable pub right : Event → Bool
right e = leb reserve_kind e.kind && (leb e.kind release_kind && (caller_right e && implies (eqb e.kind take_kind) (eqb e.number 0)))

-- 9.5: the event of index i is good
unfoldable pub good_at : List ℕ → ℕ → Bool
good_at file i = filler_zero file i && right (event_at file i)

-- W-205, "Old traces": the event of index i is good by the rule that traces had before there were callers, three filler bytes 0
pub record OldEvent (file : List ℕ) (i : ℕ) : Type 0 where
  pub kind_is : (reserve_kind ≤ (event_at file i).kind) × ((event_at file i).kind ≤ release_kind)
  pub first_zero : get_or file (event_place i + 1) 0 ≡ 0
  pub second_zero : get_or file (event_place i + 2) 0 ≡ 0
  pub third_zero : get_or file (event_place i + 3) 0 ≡ 0
  pub take_zero : (event_at file i).kind ≡ take_kind → (event_at file i).number ≡ 0

-- the first bad event of the n from index i on, counted from 1, and none where all n are good
unfoldable pub first_bad : List ℕ → ℕ → ℕ → Option ℕ
first_bad file i zero = None
first_bad file i (suc n) = pick (good_at file i) (first_bad file (suc i) n) (Some (suc i))

-- ---- What reading a file gives

-- the answer, by whether the header is right, and the first bad event
unfoldable pub answer_on : Bool → Option ℕ → Header → Result Header Refusal
answer_on false bad header = Err WrongHeader
answer_on true None header = Ok header
answer_on true (Some i) header = Err (BadEvent i)

-- what reading the file gives: the header is tested before the events
unfoldable pub reading : List ℕ → Result Header Refusal
reading file = answer_on (headed file) (first_bad file 0 (event_count file)) (header_of file)

-- the number of a refusal (SPECIFICATION 3.3)
abbrev pub number_of : Refusal → ℕ
number_of WrongHeader = 9
number_of (BadEvent i) = 10

-- the number of an answer, 0 for an accepted file
abbrev pub refusal_of : Result Header Refusal → ℕ
refusal_of (Ok header) = 0
refusal_of (Err refusal) = number_of refusal

-- the event that it names, counted from 1, if it names one
abbrev pub bad_event_of : Result Header Refusal → Option ℕ
bad_event_of (Ok header) = None
bad_event_of (Err WrongHeader) = None
bad_event_of (Err (BadEvent i)) = Some i
