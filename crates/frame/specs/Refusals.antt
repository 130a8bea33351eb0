-- The number and the name of each refusal.
use Rattle.std.specs.Prelude.{ℕ, List, codes}
use Rattle.frame.specs.declared.refusal.Refusal.{Refusal}
use Rattle.frame.specs.declared.refusal.Refusal.TheVariants.{BadChannel, NotNormal, MessageOpen, NoMessage, TooLong, BadSize, WindowFull, NoCredit, NothingHeld, NoSlip, NothingSent, Marked, OutOfStep, BadHeader, NoSpace}

abbrev pub number_of : Refusal → ℕ
number_of BadChannel = 1
number_of NotNormal = 2
number_of MessageOpen = 3
number_of NoMessage = 4
number_of TooLong = 5
number_of BadSize = 6
number_of WindowFull = 7
number_of NoCredit = 8
number_of NothingHeld = 9
number_of NoSlip = 10
number_of NothingSent = 11
number_of Marked = 12
number_of OutOfStep = 13
number_of BadHeader = 14
number_of NoSpace = 15

abbrev pub name_of : Refusal → List ℕ
name_of BadChannel = codes "Bad_Channel"
name_of NotNormal = codes "Not_Normal"
name_of MessageOpen = codes "Message_Open"
name_of NoMessage = codes "No_Message"
name_of TooLong = codes "Too_Long"
name_of BadSize = codes "Bad_Size"
name_of WindowFull = codes "Window_Full"
name_of NoCredit = codes "No_Credit"
name_of NothingHeld = codes "Nothing_Held"
name_of NoSlip = codes "No_Slip"
name_of NothingSent = codes "Nothing_Sent"
name_of Marked = codes "Marked"
name_of OutOfStep = codes "Out_Of_Step"
name_of BadHeader = codes "Bad_Header"
name_of NoSpace = codes "No_Space"
