-- A sheet's print grows line by line.
use Rattle.std.proofs.Common.{◌≡◌, ℕ, ◌+◌, ◌<◌, ◌≤◌, Bool, true, false, cond, List, [], ◌++◌, map, length, get_or, drop, Some, None, Ok, Err, Result, sym, refl, ap, ◌∙◌, ap₂, append_assoc, Bor}
use Rattle.std.proofs.lemmas.List.{drop_more, drop_all}
use Rattle.text.specs.Pieces.{lines_of, words_of}
use Rattle.sheet.specs.declared.trouble.Trouble.{Trouble}
use Rattle.wire.specs.declared.fate.Fate.{Fate}
use Rattle.sheet.specs.declared.request.WireKind.TheVariants.{Plain}
use Rattle.sheet.specs.Asks.{Ask, shows, wire_is, fates_are, puts, nexts, asked}
use Rattle.sheet.specs.Desk.{Answer, World, WireState, new_world, declared_wire, declared, called, after_ask, outcome_in, is_call}
use Rattle.sheet.specs.Print.{shown_line, line_print, world_after, prints_from, printed, closing}

-- one more line, of number n, whose ask, outcome and world behind it are known
pub one_more :
    (items : List (Bor (List ℕ))) (i n : ℕ) (d : Bor (List ℕ)) (before after whole : List ℕ) (world next : World) (ask : Result Ask Trouble) (o : Answer)
    → i < length items → ask ≡ asked (words_of (get_or items i d).now) → o ≡ outcome_in world ask → next ≡ after_ask world ask
    → after ≡ before ++ shown_line n o
    → before ++ prints_from n world (map (λ x. x.now) (drop i items)) ≡ whole
    → after ++ prints_from (n + 1) next (map (λ x. x.now) (drop (i + 1) items)) ≡ whole
unfolding prints_from
one_more items i n d before after whole world next ask o h a out moved e inv =
    let line = (get_or items i d).now in
    let rest = map (λ x. x.now) (drop (i + 1) items) in
    let shown : shown_line n o ≡ line_print n world line =
    ap (shown_line n) (out ∙ ap (outcome_in world) a) in
    let goes : next ≡ world_after world line = moved ∙ ap (after_ask world) a in
    ap₂ (λ (l : List ℕ) (w : World). l ++ prints_from (n + 1) w rest) (e ∙ ap (λ (l : List ℕ). before ++ l) shown) goes
    ∙ append_assoc before (line_print n world line) (prints_from (n + 1) (world_after world line) rest)
    ∙ ap (λ (l : List (Bor (List ℕ))). before ++ prints_from n world (map (λ x. x.now) l)) (sym (drop_more items i d h))
    ∙ inv

-- no line is left
pub none_left : (items : List (Bor (List ℕ))) (i n : ℕ) (world : World) → length items ≤ i → prints_from n world (map (λ x. x.now) (drop i items)) ≡ []
unfolding prints_from
none_left items i n world h = ap (λ (l : List (Bor (List ℕ))). prints_from n world (map (λ x. x.now) l)) (drop_all i items h)

-- a call does the same, whether anything was called before or not
same_outcome : (ask : Result Ask Trouble) (s : WireState) → is_call ask ≡ true → outcome_in (declared s) ask ≡ outcome_in (called s) ask
same_outcome (Err t) s e = absurd (cc)
same_outcome (Ok (shows o)) s e = absurd (cc)
same_outcome (Ok (wire_is k)) s e = absurd (cc)
same_outcome (Ok (fates_are f)) s e = absurd (cc)
same_outcome (Ok (puts f)) s e = refl
same_outcome (Ok nexts) s e = refl

same_world : (ask : Result Ask Trouble) (s : WireState) → is_call ask ≡ true → after_ask (declared s) ask ≡ after_ask (called s) ask
same_world (Err t) s e = absurd (cc)
same_world (Ok (shows o)) s e = absurd (cc)
same_world (Ok (wire_is k)) s e = absurd (cc)
same_world (Ok (fates_are f)) s e = absurd (cc)
same_world (Ok (puts f)) s e = refl
same_world (Ok nexts) s e = refl

-- so the first call may stand in either world
pub from_call :
    (items : List (Bor (List ℕ))) (i : ℕ) (d : Bor (List ℕ)) (s : WireState) → i < length items
    → is_call (asked (words_of (get_or items i d).now)) ≡ true
    → prints_from (i + 1) (declared s) (map (λ x. x.now) (drop i items)) ≡ prints_from (i + 1) (called s) (map (λ x. x.now) (drop i items))
unfolding prints_from
from_call items i d s h e =
    let ask = asked (words_of (get_or items i d).now) in
    let rest = map (λ x. x.now) (drop (i + 1) items) in
    ap (λ (l : List (Bor (List ℕ))). prints_from (i + 1) (declared s) (map (λ x. x.now) l)) (drop_more items i d h)
    ∙ ap₂ (λ (o : Answer) (w : World). shown_line (i + 1) o ++ prints_from (i + 1 + 1) w rest) (same_outcome ask s e) (same_world ask s e)
    ∙ ap (λ (l : List (Bor (List ℕ))). prints_from (i + 1) (called s) (map (λ x. x.now) l)) (sym (drop_more items i d h))

-- what came of a line before anything was called tells whether it is a call
pub was_call : (b : Bool) (o : Answer) → None ≡ cond b None (Some o) → b ≡ true
was_call true o e = refl
was_call false o e = absurd (cc)

pub was_other : (b : Bool) (o p : Answer) → Some p ≡ cond b None (Some o) → (b ≡ false) × (p ≡ o)
was_other true o p e = absurd (cc)
was_other false o p e = (refl, cc)

-- declarations, calls and the closing lines make the whole print
pub whole_print :
    (sheet start before after all : List ℕ) (items one two : List (Bor (List ℕ))) (fates : List Fate) (i : ℕ) (s : WireState)
    → map (λ x. x.now) items ≡ lines_of sheet → one ≡ items → two ≡ items → start ≡ [] → fates ≡ []
    → before ++ prints_from (i + 1) (called s) (map (λ x. x.now) (drop i one)) ≡ start ++ prints_from 1 (declared (declared_wire (Plain 16) fates)) (map (λ x. x.now) one)
    → after ≡ before ++ prints_from (i + 1) (called s) (map (λ x. x.now) (drop i two)) → all ≡ after ++ closing → all ≡ printed sheet
unfolding printed
whole_print sheet start before after all items one two fates i s cut p q none nothing d c a =
    let same : after ≡ start ++ prints_from 1 (declared (declared_wire (Plain 16) fates)) (map (λ x. x.now) one) =
    c ∙ ap (λ (l : List (Bor (List ℕ))). before ++ prints_from (i + 1) (called s) (map (λ x. x.now) (drop i l))) (q ∙ sym p) ∙ d in
    let clean : start ++ prints_from 1 (declared (declared_wire (Plain 16) fates)) (map (λ x. x.now) one) ≡ prints_from 1 new_world (map (λ x. x.now) one) =
    ap₂ (λ (l : List ℕ) (f : List Fate). l ++ prints_from 1 (declared (declared_wire (Plain 16) f)) (map (λ x. x.now) one)) none nothing in
    a
    ∙ ap (λ (l : List ℕ). l ++ closing) (same ∙ clean)
    ∙ ap (λ (l : List (List ℕ)). prints_from 1 new_world l ++ closing) (ap (map (λ x. x.now)) p ∙ cut)
