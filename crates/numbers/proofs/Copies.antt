-- Copies and acknowledgements on their wires: each step keeps what is said of them, and so numbers suffice.
use Rattle.std.proofs.Common.{◌≡◌, ℕ, zero, suc, ◌+◌, ◌-◌, ◌%◌, ◌<◌, ◌≤◌, max, eqb, List, [], ◌∷◌, ◌++◌, length, get_or, Some, sym, refl, ap, ◌∙◌, add-one, arith}
use native.Mathlib.Nat.{mod_self, zero-mod}
use Rattle.std.proofs.lemmas.Bool.{eqb-true, eq-eqb}
use Rattle.numbers.specs.Round.{code, due, run, freed_among}
use Rattle.numbers.specs.Wires.{Near, Flight, Rising, Sound, Reached, start, loads, sends, loses, passes, accepts, tells, misses, frees}
use Rattle.numbers.specs.Laws.{Kept, Placed, Places, Suffice, Delivers, Figures}
use Rattle.numbers.proofs.Numbers.{due_exactly, due_number, code_pos, same_some}
use Rattle.numbers.proofs.Search.{run_frees}

near_push : (M j k : ℕ) (ks : List ℕ) → j + 2 ≤ k + M → Near M j ks → Near M j (ks ++ (k ∷ []))
near_push M j k [] h n = (h, tt)
near_push M j k (x ∷ ks) h n = (n.0, near_push M j k ks h n.1)

-- a copy goes on last: of one that was not freed, so that the window has both it and all that were sent
pub flight_put :
    (M W S A F k : ℕ) (ks : List ℕ) → W < M → F ≤ k → k < S → A ≤ S → S ≤ F + W → Flight M S A ks → Flight M S A (ks ++ (k ∷ []))
flight_put M W S A F k [] small lo hi acc win f = (hi, omega arith, tt, tt)
flight_put M W S A F k (j ∷ ks) small lo hi acc win f =
    (f.0, f.1, near_push M j k ks (omega arith) f.2, flight_put M W S A F k ks small lo hi acc win f.3)

-- more of the loaded are sent
pub flight_sent : (M S T A : ℕ) (ks : List ℕ) → S ≤ T → Flight M S A ks → Flight M T A ks
flight_sent M S T A [] le f = tt
flight_sent M S T A (j ∷ ks) le f = (omega arith, f.1, f.2, flight_sent M S T A ks le f.3)

-- the oldest comes off and is not accepted
pub flight_drop : (M S A k : ℕ) (ks : List ℕ) → Flight M S A (k ∷ ks) → Flight M S A ks
flight_drop M S A k ks f = f.3

-- the oldest comes off and is accepted
pub flight_accept : (M S A : ℕ) (ks : List ℕ) → Flight M S A (A ∷ ks) → Flight M S (A + 1) ks
flight_accept M S A ks f = go ks f.2 f.3
  where
    go : (xs : List ℕ) → Near M A xs → Flight M S A xs → Flight M S (A + 1) xs
    go [] n g = tt
    go (x ∷ xs) n g = (g.0, omega arith, g.2, go xs n.1 g.3)

near_at : (M j : ℕ) (ks : List ℕ) → Near M j ks → (i : ℕ) → i < length ks → j + 2 ≤ get_or ks i 0 + M
near_at M j [] n i lt = absurd (omega arith)
near_at M j (k ∷ ks) n zero lt = n.0
near_at M j (k ∷ ks) n (suc i) lt = near_at M j ks n.1 i (omega arith)

near_from : (M j : ℕ) (ks : List ℕ) → ((i : ℕ) → i < length ks → j + 2 ≤ get_or ks i 0 + M) → Near M j ks
near_from M j [] at = tt
near_from M j (k ∷ ks) at = (at 0 (omega arith), near_from M j ks (λ i lt. at (suc i) (omega arith)))

flight_each : (M S A : ℕ) (ks : List ℕ) → Flight M S A ks → (i : ℕ) → i < length ks → (get_or ks i 0 < S) × (A + 1 ≤ get_or ks i 0 + M)
flight_each M S A [] f i lt = absurd (omega arith)
flight_each M S A (k ∷ ks) f zero lt = (f.0, f.1)
flight_each M S A (k ∷ ks) f (suc i) lt = flight_each M S A ks f.3 i (omega arith)

flight_two : (M S A : ℕ) (ks : List ℕ) → Flight M S A ks → (i j : ℕ) → i < j → j < length ks → get_or ks i 0 + 2 ≤ get_or ks j 0 + M
flight_two M S A [] f i j lt in-ks = absurd (omega arith)
flight_two M S A (k ∷ ks) f i zero lt in-ks = absurd (omega arith)
flight_two M S A (k ∷ ks) f zero (suc j) lt in-ks = near_at M k ks f.2 j (omega arith)
flight_two M S A (k ∷ ks) f (suc i) (suc j) lt in-ks = flight_two M S A ks f.3 i j (omega arith) (omega arith)

flight_from : (M S A : ℕ) (ks : List ℕ) → Placed M S A ks → Flight M S A ks
flight_from M S A [] p = tt
flight_from M S A (k ∷ ks) p = (
  (p.0 0 (omega arith)).0,
  (p.0 0 (omega arith)).1,
  near_from M k ks (λ j lt. p.1 0 (suc j) (omega arith) (omega arith)),
  flight_from M S A ks (λ i lt. p.0 (suc i) (omega arith), λ i j lt in-ks. p.1 (suc i) (suc j) (omega arith) (omega arith)),
)

pub places : Places
places M S A ks = (λ f. (flight_each M S A ks f, flight_two M S A ks f), flight_from M S A ks)

pub rising_le : (F A : ℕ) (counts : List ℕ) → Rising F A counts → F ≤ A
rising_le F A [] r = r
rising_le F A (a ∷ counts) r = let m = rising_le a A counts r.1 in omega arith

-- an acknowledgement of all that were accepted goes on last
pub rising_put : (F A : ℕ) (counts : List ℕ) → Rising F A counts → Rising F A (counts ++ (A ∷ []))
rising_put F A [] r = (r, omega arith)
rising_put F A (a ∷ counts) r = (r.0, rising_put a A counts r.1)

-- more are accepted
pub rising_accept : (F A B : ℕ) (counts : List ℕ) → A ≤ B → Rising F A counts → Rising F B counts
rising_accept F A B [] le r = omega arith
rising_accept F A B (a ∷ counts) le r = (r.0, rising_accept a A B counts le r.1)

-- the oldest comes off, and what is freed rises to it
pub rising_take : (F A a : ℕ) (counts : List ℕ) → Rising F A (a ∷ counts) → Rising a A counts
rising_take F A a counts r = r.1

-- the oldest comes off and is not read
pub rising_drop : (F A a : ℕ) (counts : List ℕ) → Rising F A (a ∷ counts) → Rising F A counts
rising_drop F A a [] r = omega arith
rising_drop F A a (b ∷ counts) r = (omega arith, r.1.1)

pub kept : Kept
kept =
    record {
      put = flight_put;
      sent = flight_sent;
      drop = flight_drop;
      accept = flight_accept;
      told = rising_put;
      more = rising_accept;
      free = rising_take;
      miss = rising_drop;
    }

module _ {M W N S A F : ℕ} (small : W < M) where
  -- the oldest copy on the wire has the number that is due exactly where it is of the next to accept
  pub sound_due : {k : ℕ} {out back : List ℕ} → Sound M W N S A F (k ∷ out) back → eqb (k % M) (due M (code M A)) ≡ eqb k A
  sound_due {k} {out} {back} s = let le = rising_le F A back s.rising in due_exactly M A k (omega arith) (omega arith)

  -- the oldest acknowledgement on the wire back is legal and frees up to its count
  pub sound_frees :
      {a : ℕ} {out back : List ℕ} (r : ℕ) →
      Sound M W N S A F out (a ∷ back) →
      code M a ≡ Some r →
      freed_among (code M F) (run M F (S - F)) r ≡ Some (a - F)
  sound_frees {a} {out} {back} r s e =
      let le = rising_le a A back s.rising.1 in
      run_frees M F (S - F) a r (omega arith) s.rising.0 (omega arith) e

  pub sound_sent :
      {out back : List ℕ} (k : ℕ) → F ≤ k → k ≤ S → k < N → Sound M W N S A F out back → Sound M W N (max S (k + 1)) A F out back
  sound_sent {out} k lo hi in-N s =
      record {
        accepted_sent = omega arith;
        sent_loaded = omega arith;
        loaded_held = s.loaded_held;
        flight = flight_sent M S (max S (k + 1)) A out (omega arith) s.flight;
        rising = s.rising;
      }

stays : {M W N S A F : ℕ} {out back : List ℕ} → W < M → Reached M W N S A F out back → Sound M W N S A F out back
stays small start = record { accepted_sent = omega arith; sent_loaded = omega arith; loaded_held = omega arith; flight = tt; rising = omega arith }
stays small (loads room r) =
    let s = stays small r in
    record { accepted_sent = s.accepted_sent; sent_loaded = omega arith; loaded_held = omega arith; flight = s.flight; rising = s.rising }
stays {M} {W} small (sends {N} {S} {A} {F} {out} {back} k lo hi in-N r) =
    let s = sound_sent small k lo hi in-N (stays small r) in
    record {
      accepted_sent = s.accepted_sent;
      sent_loaded = s.sent_loaded;
      loaded_held = s.loaded_held;
      flight = flight_put M W (max S (k + 1)) A F k out small lo (omega arith) (omega arith) (omega arith) s.flight;
      rising = s.rising;
    }
stays small (loses k lo hi in-N r) = sound_sent small k lo hi in-N (stays small r)
stays small (passes r) =
    let s = stays small r in
    record { accepted_sent = s.accepted_sent; sent_loaded = s.sent_loaded; loaded_held = s.loaded_held; flight = s.flight.3; rising = s.rising }
stays {M} {W} small (accepts {N} {S} {A} {F} {k} {out} {back} e r) =
    let s = stays small r in
    let here : k ≡ A = eqb-true k A (sym (sound_due small s) ∙ eq-eqb (k % M) (due M (code M A)) e) in
    record {
      accepted_sent = omega arith;
      sent_loaded = s.sent_loaded;
      loaded_held = s.loaded_held;
      flight = flight_accept M S A out (rw here at s.flight);
      rising = rising_accept F A (A + 1) back (omega arith) s.rising;
    }
stays small (tells {N} {S} {A} {F} {out} {back} r) =
    let s = stays small r in
    record { accepted_sent = s.accepted_sent; sent_loaded = s.sent_loaded; loaded_held = s.loaded_held; flight = s.flight; rising = rising_put F A back s.rising }
stays small (misses {N} {S} {A} {F} {a} {out} {back} r) =
    let s = stays small r in
    record { accepted_sent = s.accepted_sent; sent_loaded = s.sent_loaded; loaded_held = s.loaded_held; flight = s.flight; rising = rising_drop F A a back s.rising }
stays {M} {W} small (frees {N} {S} {A} {F} {a} {out} {back} r x e by t) =
    let s = stays small t in
    let is : a - F ≡ x = same_some (freed_among (code M F) (run M F (S - F)) r) (a - F) x (sound_frees small r s e) by in
    let up : a ≡ F + x = omega arith in
    record { accepted_sent = s.accepted_sent; sent_loaded = s.sent_loaded; loaded_held = omega arith; flight = s.flight; rising = rw up at s.rising.1 }

-- numbers suffice for every window below their count
pub suffice : (M W : ℕ) → W < M → Suffice M W
suffice M W small =
    record {
      stays = stays small;
      dues = λ r. sound_due small (stays small r);
      legal = λ n r e. sound_frees small n (stays small r) e;
    }

-- one more is loaded, sent and accepted, and nothing is acknowledged
accepts_more : (M W n : ℕ) → 0 < M → n < W → Reached M W n n n 0 [] [] → Reached M W (n + 1) (n + 1) (n + 1) 0 [] []
accepts_more M W n pos room r =
    let high : max n (n + 1) ≡ n + 1 = omega arith in
    let loaded = loads {F = 0} (omega arith) r in
    let sent = sends n (omega arith) (omega arith) (omega arith) loaded in
    rw high at (accepts (sym (due_number M n pos)) sent)

accepts_all : (M W : ℕ) → 0 < M → (n : ℕ) → n ≤ W → Reached M W n n n 0 [] []
accepts_all M W pos zero le = start
accepts_all M W pos (suc n) le = rw add-one at (accepts_more M W n pos (omega arith) (accepts_all M W pos n (omega arith)))

-- and for no other: M are sent and accepted, and the first is sent again, as nothing was acknowledged
pub tight : (M W : ℕ) → 0 < M → M ≤ W → Suffice M W → ⊥
tight M W pos wide law =
    let high : max M (0 + 1) ≡ M = omega arith in
    let all = accepts_all M W pos M wide in
    let again : Reached M W M M M 0 (0 ∷ []) [] = rw high at (sends {N = M} {S = M} {A = M} {F = 0} 0 (omega arith) (omega arith) (omega arith) all) in
    let round : 0 % M ≡ due M (code M M) = zero-mod M ∙ sym (mod_self M) ∙ sym (due_number M M pos) in
    let none : 0 ≡ M = eqb-true 0 M (sym (law.dues again) ∙ eq-eqb (0 % M) (due M (code M M)) round) in
    omega arith

-- one more is loaded, sent, accepted and freed
delivers_more : (M W n : ℕ) → 0 < W → W < M → Reached M W n n n n [] [] → Reached M W (n + 1) (n + 1) (n + 1) (n + 1) [] []
delivers_more M W n room small r =
    let high : max n (n + 1) ≡ n + 1 = omega arith in
    let loaded = loads (omega arith) r in
    let sent = sends n (omega arith) (omega arith) (omega arith) loaded in
    let accepted = accepts (sym (due_number M n (omega arith))) sent in
    let told = rw high at (tells accepted) in
    let one : n + 1 - n ≡ 1 = omega arith in
    let frees-one = run_frees M n (n + 1 - n) (n + 1) ((n + 1 - 1) % M) (omega arith) (omega arith) (omega arith) (code_pos M (n + 1) (omega arith)) in
    frees ((n + 1 - 1) % M) 1 (code_pos M (n + 1) (omega arith)) (frees-one ∙ ap Some one) told

pub delivers : (M W : ℕ) → 0 < W → W < M → Delivers M W
delivers M W room small zero = start
delivers M W room small (suc n) = rw add-one at (delivers_more M W n room small (delivers M W room small n))

pub figures : Figures
figures = record { sent = refl; ten = refl; none = refl; illegal = refl; ten_at_once = refl; none_at_once = refl; illegal_at_once = refl }
