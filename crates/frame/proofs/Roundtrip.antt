-- Fields come back out of their frame, and frames out of their fields.
use Rattle.std.proofs.Common.{◌≡◌, ℕ, ◌+◌, ◌-◌, ◌*◌, ◌/◌, ◌%◌, ◌<◌, ◌≤◌, Bool, true, false, cond, eqb, List, [], ◌∷◌, ◌++◌, length, get_or, drop, refl, ap, ◌∙◌, arith, eqb→eq}
use Rattle.std.proofs.lemmas.List.{take-append-drop, drop_more, drop_all, take_at, get_or-append_right}
use Rattle.crc.proofs.Table.{at_below}
use Rattle.frame.specs.declared.channel.Channel.{Channel}
use Rattle.frame.specs.declared.channel.Channel.TheVariants.{Vc0, Vc1, Vc2, Vc3}
use Rattle.frame.specs.declared.kind.Kind.{Kind}
use Rattle.frame.specs.declared.kind.Kind.TheVariants.{Undefined0, Undefined1, Reset, ResetAck, Initialize, InitializeAck, Undefined6, Null, Data, Header, CreditOnly, Undefined11, Undefined12, Undefined13, Undefined14, Admin}
use Rattle.frame.specs.declared.fields.Fields.{Fields}
use Rattle.frame.specs.Naming.{type_of, kind_at, channel_number, channel_at}
use Rattle.frame.specs.Layout.{credit_byte, control_byte, trailer, fields_of, FieldsComeBack, FramesComeBack, ControlFigures}

pub type_back : (n : ℕ) → n < 16 → type_of (kind_at n) ≡ n
type_back n h = eqb→eq (type_of (kind_at n)) n (at_below (λ n. eqb (type_of (kind_at n)) n) 16 tt n h)

pub channel_back : (n : ℕ) → n < 4 → channel_number (channel_at n) ≡ n
channel_back n h = eqb→eq (channel_number (channel_at n)) n (at_below (λ n. eqb (channel_number (channel_at n)) n) 4 tt n h)

pub kind_back : (k : Kind) → (kind_at (type_of k) ≡ k) × (type_of k < 16)
kind_back Undefined0 = (refl, omega arith)
kind_back Undefined1 = (refl, omega arith)
kind_back Reset = (refl, omega arith)
kind_back ResetAck = (refl, omega arith)
kind_back Initialize = (refl, omega arith)
kind_back InitializeAck = (refl, omega arith)
kind_back Undefined6 = (refl, omega arith)
kind_back Null = (refl, omega arith)
kind_back Data = (refl, omega arith)
kind_back Header = (refl, omega arith)
kind_back CreditOnly = (refl, omega arith)
kind_back Undefined11 = (refl, omega arith)
kind_back Undefined12 = (refl, omega arith)
kind_back Undefined13 = (refl, omega arith)
kind_back Undefined14 = (refl, omega arith)
kind_back Admin = (refl, omega arith)

pub number_back : (c : Channel) → (channel_at (channel_number c) ≡ c) × (channel_number c < 4)
number_back Vc0 = (refl, omega arith)
number_back Vc1 = (refl, omega arith)
number_back Vc2 = (refl, omega arith)
number_back Vc3 = (refl, omega arith)

-- the last eight of forty
last_eight :
    (xs : List ℕ) → length xs ≡ 40
    → drop 32 xs
    ≡ get_or xs 32 0 ∷ get_or xs 33 0 ∷ get_or xs 34 0 ∷ get_or xs 35 0 ∷ get_or xs 36 0 ∷ get_or xs 37 0 ∷ get_or xs 38 0 ∷ get_or xs 39 0 ∷ []
last_eight xs h =
    let a = drop_more xs 32 0 (omega arith) in
    let b = drop_more xs 33 0 (omega arith) in
    let c = drop_more xs 34 0 (omega arith) in
    let d = drop_more xs 35 0 (omega arith) in
    let e = drop_more xs 36 0 (omega arith) in
    let f = drop_more xs 37 0 (omega arith) in
    let g = drop_more xs 38 0 (omega arith) in
    let i = drop_more xs 39 0 (omega arith) in
    let j = drop_all 40 xs (omega arith) in
    cc

flag : (n k : ℕ) → n < 2 → cond (eqb n 1) k 0 ≡ n * k
flag n k h = grind arith

pub frames_come_back : FramesComeBack
frames_come_back xs n bytes =
    let all = last_eight xs n in
    let whole = take-append-drop 32 xs in
    let x = get_or xs 39 0 in
    let h39 = bytes 39 in
    let h33 = bytes 33 in
    let h35 = bytes 35 in
    let a : (get_or xs 32 0 * 256 + get_or xs 33 0) / 256 ≡ get_or xs 32 0 = omega arith in
    let b : (get_or xs 32 0 * 256 + get_or xs 33 0) % 256 ≡ get_or xs 33 0 = omega arith in
    let c : (get_or xs 34 0 * 256 + get_or xs 35 0) / 256 ≡ get_or xs 34 0 = omega arith in
    let d : (get_or xs 34 0 * 256 + get_or xs 35 0) % 256 ≡ get_or xs 35 0 = omega arith in
    let e : credit_byte (fields_of xs) ≡ get_or xs 38 0 = omega (arith, channel_back (get_or xs 38 0 % 4) (omega arith)) in
    let f : control_byte (fields_of xs) ≡ x =
    omega (arith, flag (x / 128) 128 (omega arith), flag (x / 64 % 2) 64 (omega arith), type_back (x / 4 % 16) (omega arith), channel_back (x % 4) (omega arith)) in
    cc

digit : (e : Bool) (k : ℕ) → cond e k 0 ≡ cond e 1 0 * k
digit true k = omega arith
digit false k = omega arith

digit_lt : (e : Bool) → cond e 1 0 < 2
digit_lt true = omega arith
digit_lt false = omega arith

digit_back : (e : Bool) → eqb (cond e 1 0) 1 ≡ e
digit_back true = refl
digit_back false = refl

-- the parts of a control byte
parts :
    (x e t k v : ℕ) → e < 2 → t < 2 → k < 16 → v < 4 → x ≡ e * 128 + t * 64 + k * 4 + v
    → (x % 4 ≡ v) × (x / 4 % 16 ≡ k) × (x / 64 % 2 ≡ t) × (x / 128 ≡ e)
parts x e t k v he ht hk hv h =
    let a : x / 4 ≡ e * 32 + t * 16 + k = omega arith in
    let b : x / 64 ≡ e * 2 + t = omega arith in
    (omega arith, omega arith, omega arith, omega arith)

pub fields_come_back : FieldsComeBack
fields_come_back f content fits n =
    let xs = content ++ trailer f in
    let at : (k : ℕ) → 32 ≤ k → get_or xs k 0 ≡ get_or (trailer f) (k - 32) 0 = λ k h. get_or-append_right content (trailer f) 32 k 0 n h in
    let a32 = at 32 (omega arith) in
    let a33 = at 33 (omega arith) in
    let a34 = at 34 (omega arith) in
    let a35 = at 35 (omega arith) in
    let a36 = at 36 (omega arith) in
    let a37 = at 37 (omega arith) in
    let a38 = at 38 (omega arith) in
    let a39 = at 39 (omega arith) in
    let vc = number_back f.vc in
    let vcr = number_back f.vcr in
    let kind = kind_back f.kind in
    let cr-fits = fits.cr in
    let ecrc-fits = fits.ecrc in
    let lcrc-fits = fits.lcrc in
    let e1 = digit f.error 128 in
    let e2 = digit f.tail 64 in
    let e3 = digit_lt f.error in
    let e4 = digit_lt f.tail in
    let q = parts (get_or xs 39 0) (cond f.error 1 0) (cond f.tail 1 0) (type_of f.kind) (channel_number f.vc) e3 e4 kind.1 vc.1 (omega arith) in
    let q5 : get_or xs 38 0 % 4 ≡ channel_number f.vcr = omega arith in
    let p1 : channel_at (get_or xs 39 0 % 4) ≡ f.vc = ap channel_at q.0 ∙ vc.0 in
    let p2 : kind_at (get_or xs 39 0 / 4 % 16) ≡ f.kind = ap kind_at q.1 ∙ kind.0 in
    let p3 : eqb (get_or xs 39 0 / 64 % 2) 1 ≡ f.tail = ap (λ (m : ℕ). eqb m 1) q.2 ∙ digit_back f.tail in
    let p4 : eqb (get_or xs 39 0 / 128) 1 ≡ f.error = ap (λ (m : ℕ). eqb m 1) q.3 ∙ digit_back f.error in
    let p5 : channel_at (get_or xs 38 0 % 4) ≡ f.vcr = ap channel_at q5 ∙ vcr.0 in
    let p6 : get_or xs 38 0 / 4 ≡ f.cr = omega arith in
    let p7 : get_or xs 37 0 ≡ f.rseq = a37 in
    let p8 : get_or xs 36 0 ≡ f.tseq = a36 in
    let p9 : get_or xs 34 0 * 256 + get_or xs 35 0 ≡ f.ecrc = omega arith in
    let p10 : get_or xs 32 0 * 256 + get_or xs 33 0 ≡ f.lcrc = omega arith in
    let F : Fields = record { vc = f.vc; kind = f.kind; tail = f.tail; error = f.error; vcr = f.vcr; cr = f.cr; rseq = f.rseq; tseq = f.tseq; ecrc = f.ecrc; lcrc = f.lcrc } in
    let e : fields_of xs ≡ F = cc in
    (e, take_at content (trailer f) 32 n)

-- a control byte whose parts are known
control_at : (f : Fields) {k : Kind} {v : Channel} {t e : Bool} → f.kind ≡ k → f.vc ≡ v → f.tail ≡ t → f.error ≡ e → control_byte f ≡ cond e 128 0 + cond t 64 0 + type_of k * 4 + channel_number v
control_at f k v t e = cc

pub control_figures : ControlFigures
control_figures f content n k = (
  λ v t e. get_or-append_right content (trailer f) 32 39 0 n (omega arith) ∙ control_at f k v t e,
  λ v t e. get_or-append_right content (trailer f) 32 39 0 n (omega arith) ∙ control_at f k v t e,
)
