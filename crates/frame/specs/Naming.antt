-- TYPE values and channel numbers.
use Rattle.std.specs.Prelude.{ℕ, cond, List, [], ◌∷◌, Ok, Err, Result, nat_lt, slice_index_or}
use Rattle.frame.specs.declared.channel.Channel.{Channel}
use Rattle.frame.specs.declared.channel.Channel.TheVariants.{Vc0, Vc1, Vc2, Vc3}
use Rattle.frame.specs.declared.kind.Kind.{Kind}
use Rattle.frame.specs.declared.kind.Kind.TheVariants.{Undefined0, Undefined1, Reset, ResetAck, Initialize, InitializeAck, Undefined6, Null, Data, Header, CreditOnly, Undefined11, Undefined12, Undefined13, Undefined14, Admin}
use Rattle.frame.specs.declared.refusal.Refusal.{Refusal}
use Rattle.frame.specs.declared.refusal.Refusal.TheVariants.{BadChannel, BadSize}

-- the TYPE value of each kind
abbrev pub type_of : Kind → ℕ
type_of Undefined0 = 0
type_of Undefined1 = 1
type_of Reset = 2
type_of ResetAck = 3
type_of Initialize = 4
type_of InitializeAck = 5
type_of Undefined6 = 6
type_of Null = 7
type_of Data = 8
type_of Header = 9
type_of CreditOnly = 10
type_of Undefined11 = 11
type_of Undefined12 = 12
type_of Undefined13 = 13
type_of Undefined14 = 14
type_of Admin = 15

-- the kinds in the order of their values
abbrev pub kinds : List Kind
kinds =
    Undefined0 ∷ Undefined1 ∷ Reset ∷ ResetAck ∷ Initialize ∷ InitializeAck ∷ Undefined6 ∷ Null ∷
    Data ∷ Header ∷ CreditOnly ∷ Undefined11 ∷ Undefined12 ∷ Undefined13 ∷ Undefined14 ∷ Admin ∷ []

abbrev pub kind_at : ℕ → Kind
kind_at n = slice_index_or kinds n Undefined0

-- the kind of a number, where it is a TYPE value
abbrev pub kind_or : ℕ → Result Kind Refusal
kind_or n = cond (nat_lt n 16) (Ok (kind_at n)) (Err BadSize)

abbrev pub channel_number : Channel → ℕ
channel_number Vc0 = 0
channel_number Vc1 = 1
channel_number Vc2 = 2
channel_number Vc3 = 3

abbrev pub channel_at : ℕ → Channel
channel_at n = slice_index_or (Vc0 ∷ Vc1 ∷ Vc2 ∷ Vc3 ∷ []) n Vc0

-- the channel of a number, where it is one
abbrev pub channel_or : ℕ → Result Channel Refusal
channel_or n = cond (nat_lt n 4) (Ok (channel_at n)) (Err BadChannel)
