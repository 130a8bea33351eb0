-- What holds of an end whatever is called.
use Rattle.std.specs.Prelude.{◌≡◌, ℕ, ◌≤◌, false, List, [], ◌∷◌, ◌++◌, map, length, take, drop, Some, None, Ok, ◌==◌, ◌≢◌}
use Rattle.frame.specs.declared.channel.Channel.{Channel}
use Rattle.frame.specs.declared.channel.Channel.TheVariants.{Vc0, Vc2}
use Rattle.frame.specs.declared.refusal.Refusal.{Refusal}
use Rattle.frame.specs.Naming.{channel_number}
use Rattle.numbers.specs.Laws.{Held}
use Rattle.numbers.specs.Round.{Consecutive, freed_among}
use Rattle.link.specs.declared.answer.Answer.TheVariants.{Discarded}
use Rattle.link.specs.declared.answer.Cause.{Cause}
use Rattle.link.specs.declared.event.Event.{Event}
use Rattle.link.specs.declared.micropacket.Micropacket.{Micropacket}
use Rattle.link.specs.declared.record.Core.{Core}
use Rattle.link.specs.Acknowledging.{freed_by, acknowledged, oldest_of}
use Rattle.link.specs.Calls.{Call, step, refusal_of, Loads, receives}
use Rattle.link.specs.Credit.{next_waiting, update_of, updated}
use Rattle.link.specs.Numbering.{numbers, no_number}
use Rattle.link.specs.Receiving.{receive_answer}
use Rattle.link.specs.Records.{new_core, record_of}
use Rattle.link.specs.States.{State}

-- some of the oldest leave, at most one is appended, and what stays is as it was
pub record Shifted (before after : List Micropacket) : Type 0 where
  pub gone : ℕ
  pub new : List Micropacket
  pub few : length new ≤ 1
  pub is : after ≡ drop gone before ++ new

-- a micropacket in the output buffer stays as it was loaded, with its TSEQ, ECRC, VCR and CR, whatever is called
abbrev pub HeldUnchanged : Type 0
HeldUnchanged = (call : Call) (s : State) → Shifted s.output (step call s).output

-- one micropacket is appended, with the number that was next
pub record Appended (before after : State) : Type 0 where
  pub one : Micropacket
  pub is : after.output ≡ before.output ++ one ∷ []
  pub number : one.tseq ≡ before.core.next

-- a call that loads, and is not refused, appends one micropacket to the output buffer
abbrev pub LoadsOne : Type 0
LoadsOne = (call : Call) (s : State) → Loads call → refusal_of call s ≡ None → Appended s (step call s)

-- a refused call changes nothing
abbrev pub RefusedUnchanged : Type 0
RefusedUnchanged = (call : Call) (s : State) (why : Refusal) → refusal_of call s ≡ Some why → step call s ≡ s

-- nothing changes but the log: counters, kept events and the mark of a wrong TSEQ
pub record OnlyLog (before after : State) : Type 0 where
  pub phase : after.core.phase ≡ before.core.phase
  pub limit : after.core.limit ≡ before.core.limit
  pub repeats : after.core.repeats ≡ before.core.repeats
  pub place : after.core.place ≡ before.core.place
  pub sent : after.core.sent ≡ before.core.sent
  pub next : after.core.next ≡ before.core.next
  pub accepted : after.core.accepted ≡ before.core.accepted
  pub taken : after.core.taken ≡ before.core.taken
  pub named : after.core.named ≡ before.core.named
  pub channels : after.core.channels ≡ before.core.channels
  pub output : after.output ≡ before.output
  pub window : after.window ≡ before.window
  pub held : after.held ≡ before.held
  pub capacities : after.capacities ≡ before.capacities
  pub event_room : after.event_room ≡ before.event_room
  pub few : List Event
  pub events : after.events ≡ before.events ++ few

-- a discarded frame changes nothing but the log
abbrev pub DiscardedLogs : Type 0
DiscardedLogs =
    (s : State) (frame : List ℕ) (cause : Cause) → receive_answer s frame ≡ Ok (Discarded cause)
    → OnlyLog s (step (receives frame) s)

-- so many of the oldest leave the output buffer, and nothing else that is held, logged or told to the peer changes
pub record Freed (count : ℕ) (before after : State) : Type 0 where
  pub output : after.output ≡ drop count before.output
  pub window : after.window ≡ before.window
  pub held : after.held ≡ before.held
  pub capacities : after.capacities ≡ before.capacities
  pub events : after.events ≡ before.events
  pub event_room : after.event_room ≡ before.event_room
  pub phase : after.core.phase ≡ before.core.phase
  pub next : after.core.next ≡ before.core.next
  pub accepted : after.core.accepted ≡ before.core.accepted
  pub named : after.core.named ≡ before.core.named
  pub channels : after.core.channels ≡ before.core.channels
  pub counters : after.core.counters ≡ before.core.counters

-- a legal acknowledgement frees a first part of the output buffer and nothing else
abbrev pub LegalFrees : Type 0
LegalFrees =
    (s : State) (rseq count : ℕ) → (rseq == no_number) ≡ false → freed_by s rseq ≡ Some count
    → Freed count s (acknowledged s rseq)

-- the numbers of what the output buffer holds
abbrev pub numbers_held : State → List ℕ
numbers_held s = map (λ m. m.tseq) s.output

-- and it is legal as the rule reads, where what is held has numbers that follow each other: none is freed where it is
-- the last one taken, and else all up to the one that has this number, of those ever sent
abbrev pub LegalByNumber : Type 0
LegalByNumber =
    (s : State) (rseq count : ℕ) → Held numbers count s.core.taken (oldest_of s) s.core.sent
    → s.core.sent ≤ length (numbers_held s)
    → Consecutive numbers count (numbers_held s)
    → freed_by s rseq ≡ freed_among s.core.taken (take s.core.sent (numbers_held s)) rseq

-- a credit update changes the record of the channel that it names, and no other
abbrev pub UpdateChangesOne : Type 0
UpdateChangesOne =
    (c : Core) (channel other : Channel) → next_waiting c ≡ Some channel
    → (channel_number other ≢ channel_number channel)
    → record_of (updated c) other ≡ record_of c other

abbrev pub waiting_figures : List ℕ
waiting_figures = 70 ∷ 0 ∷ 5 ∷ 0 ∷ []

-- worked figures: with credit 70, 0, 5 and 0 waiting at a new end, three loads tell (0, 63), (2, 5) and (0, 7)
pub record CreditFigures : Type 0 where
  pub first : (limit : ℕ) → update_of (new_core limit waiting_figures) ≡ (Vc0, 63)
  pub second : (limit : ℕ) → update_of (updated (new_core limit waiting_figures)) ≡ (Vc2, 5)
  pub third : (limit : ℕ) → update_of (updated (updated (new_core limit waiting_figures))) ≡ (Vc0, 7)
