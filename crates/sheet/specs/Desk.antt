-- The wire w that a sheet calls by itself.
use Rattle.std.specs.Prelude.{ℕ, Bool, true, false, cond, List, [], length, take, drop, replicate, Some, None, Ok, Err, vec_items, Option, Result, ◌==◌, slice_index_or}
use Rattle.frame.specs.Codec.{or_else, frame_refusal}
use Rattle.wire.specs.declared.any.AnyWire.{AnyWire}
use Rattle.wire.specs.declared.any.AnyWire.TheVariants.{Plain, Line}
use Rattle.wire.specs.declared.fate.Fate.{Fate}
use Rattle.wire.specs.declared.fault.Fault.{Fault}
use Rattle.wire.specs.Anys.{any_frames}
use Rattle.wire.specs.Fates.{fates_left, next_fate, struck}
use Rattle.wire.specs.Kept.{keeps, gained}
use Rattle.wire.specs.Lines.{line_room}
use Rattle.wire.specs.Plains.{plain_room}
use Rattle.sheet.specs.declared.outcome.Outcome.{Outcome}
use Rattle.sheet.specs.declared.outcome.Outcome.TheVariants.{Put, Next, Nothing}
use Rattle.sheet.specs.declared.request.Setup.{Setup}
use Rattle.sheet.specs.declared.request.WireKind.{WireKind}
use Rattle.sheet.specs.declared.request.WireKind.TheVariants as kinds
use Rattle.sheet.specs.declared.trouble.Trouble.{Trouble}
use Rattle.sheet.specs.declared.trouble.Trouble.TheVariants.{TooLate}
use Rattle.sheet.specs.Asks.{Ask, shows, wire_is, fates_are, puts, nexts}
use Rattle.sheet.specs.Lines.{unless_refused}

-- how many frames it can hold, the frames under way, oldest first, and the fates that are left
pub record WireState : Type 0 where
  pub room : ℕ
  pub frames : List (List ℕ)
  pub fates : List Fate

abbrev pub any_room : AnyWire → ℕ
any_room (Plain w) = plain_room w
any_room (Line w) = line_room w

-- what a wire under its fault layer comes to
abbrev pub wire_state : Fault AnyWire → WireState
wire_state f = record { room = any_room f.below; frames = any_frames f.below; fates = fates_left f }

-- what its fate leaves of a frame goes on behind the others, while there is room
abbrev pub carried_on : ℕ → List (List ℕ) → Option (List ℕ) → List (List ℕ)
carried_on room frames None = frames
carried_on room frames (Some frame) = gained (keeps room frames frame) frames frame

-- the wire after a put; one that is refused changes nothing
abbrev pub after_put : WireState → List ℕ → WireState
after_put s frame =
    cond (length frame == 40)
    (record { room = s.room; frames = carried_on s.room s.frames (struck (next_fate s.fates) frame); fates = drop 1 s.fates })
    s

abbrev pub put_outcome : List ℕ → Result Outcome Trouble
put_outcome frame = unless_refused (or_else (frame_refusal (length frame)) (tt {0})) (λ _. Put)

-- the wire after the oldest frame was asked for, and what came
abbrev pub after_next : WireState → WireState
after_next s = record { room = s.room; frames = drop 1 s.frames; fates = s.fates }

abbrev pub next_outcome : WireState → Outcome
next_outcome s = cond (length s.frames == 0) Nothing (Next (slice_index_or s.frames 0 (replicate 40 0)))

-- all that a sheet can change: whether anything was called yet, and the wire w
pub record World : Type 0 where
  pub begun : Bool
  pub wire : WireState

-- how many frames a kind of wire can hold
abbrev pub room_of : WireKind → ℕ
room_of (kinds.Plain n) = n
room_of (kinds.Line w) = 16

-- a wire as it is declared: nothing under way, and 64 fates at most
abbrev pub declared_wire : WireKind → List Fate → WireState
declared_wire kind fates = record { room = room_of kind; frames = []; fates = take 64 fates }

-- what is not declared: a plain wire for 16 frames, with no fates
abbrev pub new_world : World
new_world = record { begun = false; wire = declared_wire (kinds.Plain 16) [] }

-- a world with another wire, before and after the first call
abbrev pub declared : WireState → World
declared s = record { begun = false; wire = s }

abbrev pub called : WireState → World
called s = record { begun = true; wire = s }

-- the world after a line that asks for something; one that is in trouble changes nothing
abbrev pub after_ask : World → Result Ask Trouble → World
after_ask world (Err e) = world
after_ask world (Ok (shows o)) = world
after_ask world (Ok (wire_is kind)) =
    cond world.begun world (declared (record { room = room_of kind; frames = world.wire.frames; fates = world.wire.fates }))
after_ask world (Ok (fates_are fates)) =
    cond world.begun world (declared (record { room = world.wire.room; frames = world.wire.frames; fates = take 64 fates }))
after_ask world (Ok (puts frame)) = called (after_put world.wire frame)
after_ask world (Ok nexts) = called (after_next world.wire)

-- what a line answers: an outcome to show, nothing to show, or trouble
abbrev pub Answer : Type 0
Answer = Result (Option Outcome) Trouble

-- what a call shows
abbrev pub showing : Result Outcome Trouble → Answer
showing (Ok o) = Ok (Some o)
showing (Err e) = Err e

-- what such a line answers; a declaration that comes behind a call is too late
abbrev pub outcome_in : World → Result Ask Trouble → Answer
outcome_in world (Err e) = Err e
outcome_in world (Ok (shows o)) = Ok o
outcome_in world (Ok (wire_is kind)) = cond world.begun (Err TooLate) (Ok None)
outcome_in world (Ok (fates_are fates)) = cond world.begun (Err TooLate) (Ok None)
outcome_in world (Ok (puts frame)) = showing (put_outcome frame)
outcome_in world (Ok nexts) = Ok (Some (next_outcome world.wire))

-- the wire that the declarations so far say
abbrev pub setup_wire : Setup → WireState
setup_wire s = declared_wire s.wire (vec_items s.fates)

-- whether a line calls something
abbrev pub is_call : Result Ask Trouble → Bool
is_call (Err e) = false
is_call (Ok (shows o)) = false
is_call (Ok (wire_is kind)) = false
is_call (Ok (fates_are fates)) = false
is_call (Ok (puts frame)) = true
is_call (Ok nexts) = true

-- what a line answers before anything was called, unless it is a call
abbrev pub before_call : World → Result Ask Trouble → Option Answer
before_call world ask = cond (is_call ask) None (Some (outcome_in world ask))

abbrev pub setup_after : World → Result Ask Trouble → World
setup_after world ask = cond (is_call ask) world (after_ask world ask)

-- how many places for whole frames a kind of wire is lent
abbrev pub places_of : WireKind → ℕ
places_of (kinds.Plain n) = n
places_of (kinds.Line w) = 0
