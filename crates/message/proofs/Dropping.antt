-- Which refusals drop a reader's Message.
use Rattle.std.proofs.Common.{◌≡◌, ℕ, Bool, true, false, cond, leb, List, Some, None, Option, refl, arith}
use Rattle.frame.specs.declared.channel.Channel.{Channel}
use Rattle.frame.specs.declared.refusal.Refusal.{Refusal}
use Rattle.frame.specs.Refusals.{number_of}
use Rattle.message.specs.declared.reader.Reader.{Reader}
use Rattle.message.specs.declared.reader.Underway.{Underway}
use Rattle.message.specs.declared.reader.Part.{Part}
use Rattle.message.specs.declared.reader.Part.TheVariants.{First, Next, Alone, Foreign}
use Rattle.message.specs.Reading.{Handed, part_in, with_message, heading_in, tail_refusal, heading_refusal, carried_refusal, left_of, first_of, after, due_refusal, due_message, shaped, stepped, read_refusal, reader_after}
use Rattle.message.specs.Whole.{RefusalsDrop}

-- none, or a refusal whose number is 12 or more, or is not
abbrev Numbered : Bool → Option Refusal → Type 0
Numbered b None = Unit {0}
Numbered b (Some e) = leb 12 (number_of e) ≡ b

late_tail : (tail completes : Bool) → Numbered true (tail_refusal tail completes)
late_tail tail completes = grind arith

late_carried : (n size left : ℕ) (tail : Bool) (room : ℕ) → Numbered true (carried_refusal n size left tail room)
late_carried n size left tail room = grind arith

late_heading : (c : Channel) (content : List ℕ) → Numbered true (heading_refusal c content)
late_heading c content = grind arith

late_both : (a b : Option Refusal) → Numbered true a → Numbered true b → Numbered true (first_of a b)
late_both None b p q = q
late_both (Some e) b p q = p

late_due : (message : Option Underway) (part : Part) (c : Channel) (tail : Bool) (content : List ℕ) (room : ℕ) → Numbered true (due_refusal message part c tail content room)
late_due None First c tail content room = late_both (heading_refusal c content) _ (late_heading c content) (late_carried 8 (heading_in content).size (heading_in content).size tail room)
late_due None Next c tail content room = refl
late_due None Alone c tail content room = late_tail tail true
late_due None Foreign c tail content room = refl
late_due (Some u) First c tail content room = refl
late_due (Some u) Next c tail content room = late_carried 32 u.heading.size (left_of u) tail room
late_due (Some u) Alone c tail content room = refl
late_due (Some u) Foreign c tail content room = refl

late_step : (s : Reader) (p : Handed) (room : ℕ) → Numbered true (stepped s p room)
late_step s p room =
    let k = late_due s.message (part_in p) s.channel p.tail p.content room in
    grind arith

early_shape : (p : Handed) → Numbered false (shaped p)
early_shape p = grind arith

by_number :
    (a b : Option Refusal) (s : Reader) (m : Option Underway) (e : Refusal) → Numbered false a → Numbered true b → first_of a b ≡ Some e
    → after a b s m ≡ cond (leb 12 (number_of e)) (with_message s None) s
by_number None None s m e p q h = absurd cc
by_number None (Some f) s m e p q h = cc
by_number (Some f) b s m e p q h = cc

pub refusals_drop : RefusalsDrop
unfolding read_refusal reader_after
refusals_drop s p room e h =
    by_number (shaped p) (stepped s p room) s (due_message s.message (part_in p) p.content) e (early_shape p) (late_step s p room) h
