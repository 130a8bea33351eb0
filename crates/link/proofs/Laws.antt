-- The laws of an end.
use Rattle.std.proofs.Common.{◌≡◌, ℕ, ◌+◌, ◌-◌, Bool, true, false, cond, eqb, ltb, leb, List, [], ◌∷◌, ◌++◌, length, drop, Some, None, Ok, Err, Option, Result, sym, refl, ap, ◌∙◌, subst, append-nil, arith, rules, get_or-set_other, drop-drop, eqb-true}
use lib.Seq.{drop-length}
use Rattle.std.proofs.lemmas.Option.{none-some}
use Rattle.std.specs.List.{slice_get}
use Rattle.std.specs.Result.{result_err}
use Rattle.frame.specs.declared.channel.Channel.{Channel}
use Rattle.frame.specs.declared.parts.Parts.{Parts}
use Rattle.frame.specs.declared.refusal.Refusal.{Refusal}
use Rattle.frame.specs.declared.refusal.Refusal.TheVariants.{NotNormal, MessageOpen, NoMessage, NothingSent}
use Rattle.frame.specs.declared.kind.Kind.TheVariants.{CreditOnly, Data, Header, Admin}
use Rattle.frame.specs.Checks.{data_refusal}
use Rattle.frame.specs.Codec.{or_else, frame_refusal}
use Rattle.numbers.proofs.Calls.{found}
use Rattle.link.specs.declared.micropacket.Body.{Body}
use Rattle.link.specs.declared.micropacket.Micropacket.{Micropacket}
use Rattle.link.specs.declared.micropacket.Cargo.{Cargo}
use Rattle.link.specs.declared.phase.Phase.{Phase}
use Rattle.link.specs.declared.phase.Phase.TheVariants.{Normal, Shutdown}
use Rattle.link.specs.declared.answer.Answer.TheVariants.{Discarded}
use Rattle.link.specs.declared.answer.Cause.{Cause}
use Rattle.link.specs.declared.answer.Cause.TheVariants as causes
use Rattle.link.specs.declared.sort.Sort.{Sort}
use Rattle.link.specs.declared.sort.Sort.TheVariants.{Idle, Control, Credit, Afresh, Onward}
use Rattle.link.specs.declared.event.Event.{Event}
use Rattle.link.specs.declared.event.Event.TheVariants.{LcrcError, TseqError, EcrcError, RetryCount, RetryFailureError, RseqOutOfRangeError, RseqMissingError}
use Rattle.link.specs.Acknowledging.{freed_by, freed_front, acknowledged_by, acknowledged, credited, oldest_of}
use Rattle.link.specs.Calls.{opens, adds, cuts, admins, sends, receives, times_out, takes, returns, reads_event}
use Rattle.frame.specs.Naming.{channel_number}
use Rattle.link.specs.declared.record.Core.{Core}
use Rattle.link.specs.Credit.{next_waiting, told_off, updated_at}
use Rattle.link.specs.Records.{no_record, record_of}
use Rattle.link.specs.Laws.{Shifted, HeldUnchanged, Appended, LoadsOne, RefusedUnchanged, OnlyLog, DiscardedLogs, Freed, LegalFrees, numbers_held, LegalByNumber, UpdateChangesOne, CreditFigures}
use Rattle.link.specs.Loading.{body_of, put, loaded, has_room}
use Rattle.link.specs.Log.{kept, logged, or_nothing}
use Rattle.link.specs.Numbering.{numbers, no_number}
use Rattle.link.specs.Checking.{zeros, sort_of}
use Rattle.link.specs.Messages.{ready, cargo, with_room, left_on, heading_made, piece_made, admin_channel, open_found, add_found, cut_found, admin_found}
use Rattle.link.specs.Outcomes.{and_then, if_normal, end_after}
use Rattle.link.specs.Receiving.{read_made, tseq_marked, outcome, verdict_by, verdict, noted, entered, overflowed, credited_in, sequenced, carried_in, admitted, judged_by, judged, receive_found, cause_of}
use Rattle.link.specs.Repeating.{begun_again, shut_down, repeated, timeout_found}
use Rattle.link.specs.Sending.{idle_body, moved_on, credit_waits, credit_gone, gone_at, gone_in, gone, send_after}
use Rattle.link.specs.States.{State, with_core, with_events}
use Rattle.link.specs.Taking.{take_after, take_found, return_after, return_refusal}

pub credit_figures : CreditFigures
credit_figures = record { first = λ limit. refl; second = λ limit. refl; third = λ limit. refl }

-- a credit update
update_at_one :
    (c : Core) (channel other : Channel) (o : Option Channel) →
    o ≡ Some channel →
    (channel_number other ≡ channel_number channel → ⊥) →
    record_of (updated_at c o) other ≡ record_of c other
update_at_one c channel other None e apart = absurd (cc)
update_at_one c channel other (Some named) e apart =
    let z : named ≡ channel = cc in
    get_or-set_other c.channels (channel_number named) (channel_number other) (told_off (record_of c named)) no_record
    (λ same. apart (same ∙ ap channel_number z))

pub update_changes_one : UpdateChangesOne
update_changes_one c channel other e apart = update_at_one c channel other (next_waiting c) e apart

-- a first part is gone
record Shed (before after : List Micropacket) : Type 0 where
  gone : ℕ
  is : after ≡ drop gone before

shed_same : (xs : List Micropacket) → Shed xs xs
shed_same xs = record { gone = 0; is = refl }

shed_all : (xs : List Micropacket) → Shed xs []
shed_all xs = record { gone = length xs; is = sym (drop-length xs) }

shed_then : (xs ys zs : List Micropacket) → Shed xs ys → Shed ys zs → Shed xs zs
shed_then xs ys zs a b =
    record { gone = a.gone + b.gone; is = b.is ∙ ap (λ l. drop b.gone l) a.is ∙ drop-drop b.gone a.gone xs }

shifted : (xs ys : List Micropacket) → Shed xs ys → Shifted xs ys
shifted xs ys a = record { gone = a.gone; new = []; few = omega arith; is = a.is ∙ sym (append-nil (drop a.gone xs)) }

appended : (xs : List Micropacket) (m : Micropacket) → Shifted xs (xs ++ m ∷ [])
appended xs m = record { gone = 0; new = m ∷ []; few = omega arith; is = refl }

kept_few : (events : List Event) (room : ℕ) (event : Event) → (few : List Event) × (kept events room event ≡ events ++ few)
kept_few events room event =
    elim (ltb (length events) room) as (λ b. (few : List Event) × (cond b (events ++ event ∷ []) events ≡ events ++ few))
    [ true ↦ (event ∷ [], refl) | false ↦ ([], sym (append-nil events)) ]

-- what a call does to the output buffer
shut_sheds : (s : State) → Shed s.output (shut_down s).output
unfolding shut_down
shut_sheds s = shed_all s.output

shed_either : (xs : List Micropacket) (b : Bool) (s t : State) → Shed xs s.output → Shed xs t.output → Shed xs (cond b s t).output
shed_either xs true s t p q = p
shed_either xs false s t p q = q

repeat_sheds : (s : State) → Shed s.output (repeated s).output
unfolding repeated
repeat_sheds s =
    let again = begun_again (logged s RetryCount) in
    let failed = logged s RetryFailureError in
    let more = ltb s.core.repeats s.core.limit in
    shed_either s.output (eqb s.core.sent 0) s (cond more again (shut_down failed)) (shed_same s.output)
    (shed_either s.output more again (shut_down failed) (shed_same s.output) (shut_sheds failed))

free_sheds : (s : State) (count rseq : ℕ) → Shed s.output (freed_front s count rseq).output
unfolding freed_front
free_sheds s count rseq =
    shed_either s.output _ _ _ (shed_same s.output) (record { gone = count; is = refl })

ack_by_sheds : (s : State) (rseq : ℕ) (o : Option ℕ) → Shed s.output (acknowledged_by s rseq o).output
ack_by_sheds s rseq (Some count) = free_sheds s count rseq
ack_by_sheds s rseq None = repeat_sheds (logged s RseqOutOfRangeError)

ack_sheds : (s : State) (rseq : ℕ) → Shed s.output (acknowledged s rseq).output
unfolding acknowledged
ack_sheds s rseq =
    shed_either s.output _ _ _ (shed_same s.output) (ack_by_sheds s rseq (freed_by s rseq))

credit_sheds : (s : State) (channel : Channel) (cr : ℕ) → Shed s.output (credited s channel cr).output
unfolding credited
credit_sheds s channel cr =
    shed_either s.output _ _ _ (shut_sheds _) (shed_same s.output)

credit_in_sheds : (phase : Phase) (s : State) (r : Parts) → Shed s.output (credited_in phase s r).output
credit_in_sheds Normal s r = credit_sheds s _ _
credit_in_sheds Shutdown s r = shed_same s.output

sequence_sheds : (s : State) (r : Parts) → Shed s.output (sequenced s r).output
unfolding sequenced
sequence_sheds s r = shed_then _ _ _ (ack_sheds _ _) (credit_in_sheds _ _ r)

enter_same : (s : State) (r : Parts) → (entered s r).output ≡ s.output
unfolding entered
enter_same s r = refl

carry_sheds : (s : State) (r : Parts) → Shed s.output (carried_in s r).output
unfolding carried_in overflowed
carry_sheds s r =
    shed_either s.output _ _ _
    (let h : Shed (entered s r).output (sequenced (entered s r) r).output = sequence_sheds (entered s r) r in
    record { gone = h.gone; is = h.is ∙ ap (λ l. drop h.gone l) (enter_same s r) })
    (shut_sheds _)

admit_sheds : (sort : Sort) (s : State) (r : Parts) → Shed s.output (admitted sort s r).output
unfolding admitted
admit_sheds Idle s r = ack_sheds s _
admit_sheds Control s r = shed_same s.output
admit_sheds Credit s r = sequence_sheds s r
admit_sheds Afresh s r = carry_sheds s r
admit_sheds Onward s r = carry_sheds s r

note_sheds : (s : State) (cause : Cause) → Shed s.output (noted s cause).output
unfolding noted
note_sheds s causes.State = shed_same s.output
note_sheds s causes.Stomped = shed_same s.output
note_sheds s causes.Lcrc = shed_same s.output
note_sheds s causes.Tseq = shed_either s.output _ _ _ (shed_same s.output) (shed_same s.output)
note_sheds s causes.Ecrc = shed_same s.output

judge_by_sheds : (s : State) (r : Parts) (o : Option Cause) → Shed s.output (judged_by s r o).output
judge_by_sheds s r (Some cause) = note_sheds s cause
judge_by_sheds s r None = admit_sheds _ s r

judge_sheds : (s : State) (r : Parts) → Shed s.output (judged s r).output
unfolding judged
judge_sheds s r = judge_by_sheds s r (cause_of s.core r)

-- what a call found, where it was not refused
Every : (State → Type 0) → Result State Refusal → Type 0
Every P (Ok s) = P s
Every P (Err e) = Unit {0}

every_ok : (P : State → Type 0) (s : State) → P s → Every P (Ok s)
unfolding Every
every_ok P s p = p

every_err : (P : State → Type 0) (e : Refusal) → Every P (Err e)
unfolding Every
every_err P e = tt

every_then : {X : Type 0} (P : State → Type 0) (r : Result X Refusal) (f : X → Result State Refusal) → ((x : X) → Every P (f x)) → Every P (and_then r f)
every_then P (Ok x) f h = h x
every_then P (Err e) f h = every_err P e

every_either : (P : State → Type 0) (b : Bool) (x y : Result State Refusal) → Every P x → Every P y → Every P (cond b x y)
every_either P true x y p q = p
every_either P false x y p q = q

every_normal : (P : State → Type 0) (phase : Phase) (x : Result State Refusal) → Every P x → Every P (if_normal phase x)
every_normal P Normal x p = p
every_normal P Shutdown x p = every_err P NotNormal

-- and so the end after it
end_shifts : (s : State) (r : Result State Refusal) → Every (λ t. Shifted s.output t.output) r → Shifted s.output (end_after s r).output
unfolding Every
end_shifts s (Ok t) p = p
end_shifts s (Err e) p = shifted _ _ (shed_same s.output)

put_shifts : (s : State) (body : Body) (left : ℕ) → Shifted s.output (put s body left).output
unfolding put
put_shifts s body left = appended s.output _

abbrev Shifts : State → State → Type 0
Shifts s t = Shifted s.output t.output

-- what holds of every load holds of what the four calls find
open_every :
    (P : State → Type 0) (s : State) (n : ℕ) (d so : List ℕ) (e total : ℕ) (first : List ℕ) →
    ((body : Body) (left : ℕ) → P (put s body left)) →
    Every P (open_found s n d so e total first)
open_every P s n d so e total first h =
    every_then {X = Channel} P (ready s n) _ (λ channel.
    every_either P (ltb 0 (left_on s channel)) (Err MessageOpen) _ (every_err P MessageOpen)
    (every_then {X = List ℕ} P (heading_made channel d so e total first) _ (λ content.
    every_then {X = Unit {0}} P (with_room s channel) _ (λ u.
    every_ok P _ (h (body_of s.core channel (cargo Header (leb total 8) false content)) (total - 8))))))

add_every :
    (P : State → Type 0) (s : State) (n : ℕ) (bytes : List ℕ) →
    ((body : Body) (left : ℕ) → P (put s body left)) →
    Every P (add_found s n bytes)
add_every P s n bytes h =
    every_then {X = Channel} P (ready s n) _ (λ channel.
    every_either P (eqb (left_on s channel) 0) (Err NoMessage) _ (every_err P NoMessage)
    (every_then {X = List ℕ} P (piece_made (left_on s channel) bytes) _ (λ content.
    every_then {X = Unit {0}} P (with_room s channel) _ (λ u.
    every_ok P _ (h (body_of s.core channel (cargo Data (leb (left_on s channel) 32) false content)) (left_on s channel - 32))))))

cut_every :
    (P : State → Type 0) (s : State) (n : ℕ) → ((body : Body) (left : ℕ) → P (put s body left)) → Every P (cut_found s n)
cut_every P s n h =
    every_then {X = Channel} P (ready s n) _ (λ channel.
    every_either P (eqb (left_on s channel) 0) (Err NoMessage) _ (every_err P NoMessage)
    (every_then {X = Unit {0}} P (with_room s channel) _ (λ u.
    every_ok P _ (h (body_of s.core channel (cargo Data true true zeros)) 0))))

admin_every :
    (P : State → Type 0) (s : State) (n : ℕ) (bytes : List ℕ) →
    ((body : Body) (left : ℕ) → P (put s body left)) →
    Every P (admin_found s n bytes)
admin_every P s n bytes h =
    every_then {X = Channel} P (admin_channel n) _ (λ channel.
    every_normal P s.core.phase _ (every_either P (ltb 0 (left_on s channel)) (Err MessageOpen) _ (every_err P MessageOpen)
    (every_then {X = List ℕ} P (or_else (data_refusal (length bytes)) bytes) _ (λ content.
    every_then {X = Unit {0}} P (with_room s channel) _ (λ u.
    every_ok P _ (h (body_of s.core channel (cargo Admin true false content)) 0))))))

receive_shifts : (s : State) (frame : List ℕ) → Every (Shifts s) (receive_found s frame)
receive_shifts s frame = every_then {X = Parts} (Shifts s) (read_made frame) _ (λ r. every_ok (Shifts s) (judged s r) (shifted _ _ (judge_sheds s r)))

timeout_shifts : (s : State) → Every (Shifts s) (timeout_found s)
timeout_shifts s =
    every_normal (Shifts s) s.core.phase _ (every_either (Shifts s) (eqb s.core.sent 0) (Err NothingSent) _ (every_err (Shifts s) NothingSent) (every_ok (Shifts s) (repeated (logged s RseqMissingError)) (shifted _ _ (repeat_sheds (logged s RseqMissingError)))))

-- sending
credit_shifts : (s : State) → Shifts s (credit_gone s)
unfolding credit_gone
credit_shifts s =
    let given = loaded s (idle_body CreditOnly) in
    let moved = moved_on given in
    elim (credit_waits s.core) as (λ b. Shifts s (cond b (cond (has_room s) moved s) s)) [
      | true ↦ elim (has_room s) as (λ b. Shifts s (cond b moved s)) [ true ↦ appended s.output _ | false ↦ shifted _ _ (shed_same s.output) ]
      | false ↦ shifted _ _ (shed_same s.output)
    ]

gone_at_shifts : (s : State) (o : Option Micropacket) → Shifts s (gone_at s o)
gone_at_shifts s (Some m) = shifted _ _ (shed_same s.output)
gone_at_shifts s None = credit_shifts s

gone_in_shifts : (phase : Phase) (s : State) → Shifts s (gone_in phase s)
gone_in_shifts Normal s = gone_at_shifts s _
gone_in_shifts Shutdown s = shifted _ _ (shed_same s.output)

send_shifts : (o : Option Refusal) (s : State) → Shifts s (send_after o s)
unfolding gone
send_shifts None s = gone_in_shifts s.core.phase s
send_shifts (Some e) s = shifted _ _ (shed_same s.output)

-- taking and returning
take_shifts : (s : State) (n : ℕ) (r : Result Cargo Refusal) → Shifts s (take_after s n r)
take_shifts s n (Ok h) = shifted _ _ (shed_same s.output)
take_shifts s n (Err e) = shifted _ _ (shed_same s.output)

return_shifts : (s : State) (channel : Channel) (o : Option Refusal) → Shifts s (return_after s channel o)
return_shifts s channel None = shifted _ _ (shed_same s.output)
return_shifts s channel (Some e) = shifted _ _ (shed_same s.output)

pub held_unchanged : HeldUnchanged
held_unchanged (opens n d so e total first) s = end_shifts s (open_found s n d so e total first) (open_every (Shifts s) s n d so e total first (put_shifts s))
held_unchanged (adds n bytes) s = end_shifts s (add_found s n bytes) (add_every (Shifts s) s n bytes (put_shifts s))
held_unchanged (cuts n) s = end_shifts s (cut_found s n) (cut_every (Shifts s) s n (put_shifts s))
held_unchanged (admins n bytes) s = end_shifts s (admin_found s n bytes) (admin_every (Shifts s) s n bytes (put_shifts s))
held_unchanged (sends size) s = send_shifts (frame_refusal size) s
held_unchanged (receives frame) s = end_shifts s (receive_found s frame) (receive_shifts s frame)
held_unchanged times_out s = end_shifts s (timeout_found s) (timeout_shifts s)
held_unchanged (takes n size) s = take_shifts s n (take_found s n size)
held_unchanged (returns channel) s = return_shifts s channel (return_refusal s channel)
held_unchanged reads_event s = shifted _ _ (shed_same s.output)

-- a refused call changes nothing
end_same : (s : State) (r : Result State Refusal) (why : Refusal) → result_err r ≡ Some why → end_after s r ≡ s
end_same s (Ok t) why e = absurd (none-some _ e)
end_same s (Err f) why e = refl

send_same : (s : State) (o : Option Refusal) (why : Refusal) → o ≡ Some why → send_after o s ≡ s
send_same s None why e = absurd (none-some _ e)
send_same s (Some f) why e = refl

take_same : (s : State) (n : ℕ) (r : Result Cargo Refusal) (why : Refusal) → result_err r ≡ Some why → take_after s n r ≡ s
take_same s n (Ok t) why e = absurd (none-some _ e)
take_same s n (Err f) why e = refl

return_same : (s : State) (channel : Channel) (o : Option Refusal) (why : Refusal) → o ≡ Some why → return_after s channel o ≡ s
return_same s channel None why e = absurd (none-some _ e)
return_same s channel (Some f) why e = refl

event_same : (s : State) (events : List Event) (why : Refusal) → result_err (or_nothing (slice_get events 0)) ≡ Some why → drop 1 events ≡ events
event_same s [] why e = refl
event_same s (x ∷ xs) why e = absurd (none-some _ e)

pub refused_unchanged : RefusedUnchanged
refused_unchanged (opens n d so e total first) s why h = end_same s (open_found s n d so e total first) why h
refused_unchanged (adds n bytes) s why h = end_same s (add_found s n bytes) why h
refused_unchanged (cuts n) s why h = end_same s (cut_found s n) why h
refused_unchanged (admins n bytes) s why h = end_same s (admin_found s n bytes) why h
refused_unchanged (sends size) s why h = send_same s (frame_refusal size) why h
refused_unchanged (receives frame) s why h = end_same s (receive_found s frame) why h
refused_unchanged times_out s why h = end_same s (timeout_found s) why h
refused_unchanged (takes n size) s why h = take_same s n (take_found s n size) why h
refused_unchanged (returns channel) s why h = return_same s channel (return_refusal s channel) why h
refused_unchanged reads_event s why h = ap (λ events. with_events s events) (event_same s s.events why h)

-- a call that loads appends one
put_appends : (s : State) (body : Body) (left : ℕ) → Appended s (put s body left)
unfolding put
put_appends s body left = record { one = _; is = refl; number = refl }

end_appends : (s : State) (r : Result State Refusal) → Every (Appended s) r → result_err r ≡ None → Appended s (end_after s r)
unfolding Every
end_appends s (Ok t) p e = p
end_appends s (Err f) p e = absurd (none-some _ (sym e))

pub loads_one : LoadsOne
loads_one (opens n d so e total first) s l h = end_appends s (open_found s n d so e total first) (open_every (Appended s) s n d so e total first (put_appends s)) h
loads_one (adds n bytes) s l h = end_appends s (add_found s n bytes) (add_every (Appended s) s n bytes (put_appends s)) h
loads_one (cuts n) s l h = end_appends s (cut_found s n) (cut_every (Appended s) s n (put_appends s)) h
loads_one (admins n bytes) s l h = end_appends s (admin_found s n bytes) (admin_every (Appended s) s n bytes (put_appends s)) h
loads_one (sends size) s l h = absurd l
loads_one (receives frame) s l h = absurd l
loads_one times_out s l h = absurd l
loads_one (takes n size) s l h = absurd l
loads_one (returns channel) s l h = absurd l
loads_one reads_event s l h = absurd l

-- a legal acknowledgement
freed_either : (count : ℕ) (s : State) (b : Bool) (t u : State) → (b ≡ true → Freed count s t) → (b ≡ false → Freed count s u) → Freed count s (cond b t u)
freed_either count s true t u p q = p refl
freed_either count s false t u p q = q refl

free_frees : (s : State) (count rseq : ℕ) → Freed count s (freed_front s count rseq)
unfolding freed_front
free_frees s count rseq =
    freed_either count s (eqb count 0) _ _ (λ e. let z : count ≡ 0 = eqb-true count 0 e in search rules) (λ e. search rules)

ack_by_frees : (s : State) (rseq count : ℕ) (o : Option ℕ) → o ≡ Some count → Freed count s (acknowledged_by s rseq o)
ack_by_frees s rseq count None e = absurd (none-some _ e)
ack_by_frees s rseq count (Some n) e = let z : n ≡ count = cc in subst (λ k. Freed k s (freed_front s n rseq)) z (free_frees s n rseq)

ack_frees : (s : State) (rseq count : ℕ) (b : Bool) → b ≡ false → freed_by s rseq ≡ Some count
    → Freed count s (cond b s (acknowledged_by s rseq (freed_by s rseq)))
ack_frees s rseq count true e legal = absurd (cc)
ack_frees s rseq count false e legal = ack_by_frees s rseq count (freed_by s rseq) legal

pub legal_frees : LegalFrees
unfolding acknowledged
legal_frees s rseq count other legal = ack_frees s rseq count (eqb rseq no_number) other legal

pub legal_by_number : LegalByNumber
unfolding freed_by
legal_by_number s rseq count h long c =
    found numbers (oldest_of s) s.core.sent rseq s.core.taken (freed_by s rseq) refl count (numbers_held s) h long c

-- a discarded frame
log_only : (s : State) (event : Event) → OnlyLog s (logged s event)
log_only s event = search (rules, kept_few)

mark_log_only : (s : State) → OnlyLog s (logged (with_core s (tseq_marked s.core)) TseqError)
mark_log_only s = search (rules, kept_few)

same_only : (s : State) → OnlyLog s s
same_only s = search rules

note_tseq_only : (s : State) (b : Bool) → OnlyLog s (cond b s (logged (with_core s (tseq_marked s.core)) TseqError))
note_tseq_only s true = same_only s
note_tseq_only s false = mark_log_only s

note_only : (s : State) (cause : Cause) → OnlyLog s (noted s cause)
unfolding noted
note_only s causes.State = same_only s
note_only s causes.Stomped = same_only s
note_only s causes.Lcrc = log_only s LcrcError
note_only s causes.Tseq = note_tseq_only s s.core.tseq_logged
note_only s causes.Ecrc = log_only s EcrcError

outcome_let_in : (phase : Phase) (sort : Sort) (cause : Cause) → outcome phase sort ≡ Discarded cause → ⊥
outcome_let_in Normal sort cause e = grind arith
outcome_let_in Shutdown sort cause e = cc

judge_by_only : (s : State) (r : Parts) (o : Option Cause) (cause : Cause) → verdict_by s r o ≡ Discarded cause → OnlyLog s (judged_by s r o)
judge_by_only s r (Some why) cause e = note_only s why
judge_by_only s r None cause e = absurd (outcome_let_in (admitted (sort_of r.fields.kind) s r).core.phase (sort_of r.fields.kind) cause e)

read_only : (s : State) (x : Result Parts Refusal) (cause : Cause) → and_then x (λ r. Ok (verdict s r)) ≡ Ok (Discarded cause)
    → OnlyLog s (end_after s (and_then x (λ r. Ok (judged s r))))
unfolding verdict judged
read_only s (Ok r) cause e = judge_by_only s r (cause_of s.core r) cause (cc)
read_only s (Err f) cause e = absurd (cc)

pub discarded_logs : DiscardedLogs
discarded_logs s frame cause h = read_only s (read_made frame) cause h

-- what a new end says of every end, and what receiving says
pub ruleset of_every_end = (held_unchanged, loads_one, refused_unchanged, update_changes_one, credit_figures)

pub ruleset of_receiving = (discarded_logs, legal_frees, legal_by_number)
