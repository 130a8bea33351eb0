-- What an answer says of the buffer lies within it.
use Rattle.std.proofs.Common.{◌≡◌, ℕ, ◌≤◌, Bool, List, Some, None, Option, Result, sym, refl, subst, arith}
use Rattle.frame.specs.declared.channel.Channel.{Channel}
use Rattle.frame.specs.declared.refusal.Refusal.{Refusal}
use Rattle.frame.specs.Codec.{or_else}
use Rattle.message.specs.declared.reader.Reader.{Reader}
use Rattle.message.specs.declared.reader.Underway.{Underway}
use Rattle.message.specs.declared.reader.Read.{Read}
use Rattle.message.specs.declared.reader.Part.{Part}
use Rattle.message.specs.declared.reader.Part.TheVariants.{First, Next, Alone, Foreign}
use Rattle.message.specs.Reading.{Handed, part_in, carried_refusal, begin_refusal, begin_answer, next_refusal, next_answer, first_of, due_refusal, due_answer, shaped, stepped, read_refusal, read_answer, LiesWithin, Within}

fits : (n size left : ℕ) (tail : Bool) (room : ℕ) → carried_refusal n size left tail room ≡ None → size ≤ room
fits n size left tail room h = grind arith

begin_within : (c : Channel) (tail : Bool) (content : List ℕ) (room : ℕ) → begin_refusal c tail content room ≡ None → LiesWithin room (begin_answer content)
begin_within c tail content room h = grind arith

next_within : (u : Underway) (tail : Bool) (room : ℕ) → next_refusal u tail room ≡ None → LiesWithin room (next_answer u)
next_within u tail room h = grind arith

due_within :
    (message : Option Underway) (part : Part) (c : Channel) (tail : Bool) (content : List ℕ) (room : ℕ) → due_refusal message part c tail content room ≡ None
    → LiesWithin room (due_answer message part content)
due_within None First c tail content room h = begin_within c tail content room h
due_within None Next c tail content room h = tt
due_within None Alone c tail content room h = tt
due_within None Foreign c tail content room h = tt
due_within (Some u) First c tail content room h = absurd cc
due_within (Some u) Next c tail content room h = next_within u tail room h
due_within (Some u) Alone c tail content room h = absurd cc
due_within (Some u) Foreign c tail content room h = absurd cc

step_within : (s : Reader) (p : Handed) (room : ℕ) → stepped s p room ≡ None → due_refusal s.message (part_in p) s.channel p.tail p.content room ≡ None
step_within s p room h = grind arith

by_refusal : (room : ℕ) (a b : Option Refusal) (r : Read) → (b ≡ None → LiesWithin room r) → Within room (or_else (first_of a b) r)
by_refusal room None None r h = h refl
by_refusal room None (Some e) r h = tt
by_refusal room (Some e) b r h = tt

pub within :
    (s : Reader) (p : Handed) (room : ℕ) (r : Result Read Refusal) → r ≡ or_else (read_refusal s p room) (read_answer s p) → Within room r
unfolding read_refusal read_answer
within s p room r e =
    subst (Within room) (sym e)
    (by_refusal room (shaped p) (stepped s p room) (due_answer s.message (part_in p) p.content) (λ e. due_within s.message (part_in p) s.channel p.tail p.content room (step_within s p room e)))
