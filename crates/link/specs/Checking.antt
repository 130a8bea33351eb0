-- What each TYPE means to an end, and the running end-to-end check.
use Rattle.std.specs.Prelude.{ℕ, List, replicate}
use Rattle.frame.specs.declared.kind.Kind.{Kind}
use Rattle.frame.specs.declared.kind.Kind.TheVariants.{Undefined0, Undefined1, Reset, ResetAck, Initialize, InitializeAck, Undefined6, Null, Data, Header, CreditOnly, Undefined11, Undefined12, Undefined13, Undefined14, Admin}
use Rattle.frame.specs.Checks.{end_check}
use Rattle.link.specs.declared.sort.Sort.{Sort}
use Rattle.link.specs.declared.sort.Sort.TheVariants.{Idle, Control, Credit, Afresh, Onward}
use Rattle.link.specs.Records.{check_start}

-- TYPEs from 8 on are sequenced; what is undefined counts as Null below 8 and as Data from 8 on
abbrev pub sort_of : Kind → Sort
sort_of Undefined0 = Idle
sort_of Undefined1 = Idle
sort_of Reset = Control
sort_of ResetAck = Control
sort_of Initialize = Control
sort_of InitializeAck = Control
sort_of Undefined6 = Idle
sort_of Null = Idle
sort_of Data = Onward
sort_of Header = Afresh
sort_of CreditOnly = Credit
sort_of Undefined11 = Onward
sort_of Undefined12 = Onward
sort_of Undefined13 = Onward
sort_of Undefined14 = Onward
sort_of Admin = Afresh

-- a check begins afresh, but that of Data runs on
abbrev pub check_from : Sort → ℕ → ℕ
check_from Idle running = check_start
check_from Control running = check_start
check_from Credit running = check_start
check_from Afresh running = check_start
check_from Onward running = running

-- the check of a micropacket on a channel whose running check is given
abbrev pub check_after : Kind → ℕ → List ℕ → ℕ
check_after kind running content = end_check (check_from (sort_of kind) running) content

-- 32 bytes that are 0, and their check begun afresh
abbrev pub zeros : List ℕ
zeros = replicate 32 0

abbrev pub idle_check : ℕ
idle_check = end_check check_start zeros
