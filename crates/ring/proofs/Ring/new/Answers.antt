-- nothing is held, and what lies past what is used stays
use Rattle.std.proofs.Common.{◌≡◌, min, length, drop, sym, refl, ap, ◌∙◌, inl, inr, arith}
use Rattle.std.proofs.lemmas.List.{drop_all}
use Rattle.std.proofs.lemmas.Bool.{cases_lt}
use Rattle.ring.specs.Items.{queue_of}
use Rattle.ring.proofs.Turns.{window_none}
use Rattle.ring.proofs.Ring.new.Goals as goal

pub returns : goal.returns
unfolding queue_of
returns g c =
    let xs = c.args.slots.now in
    let n = c.args.at_most in
    let past : drop (min n (length xs)) xs ≡ drop n xs = elim (cases_lt n (length xs)) [
      | inl l ↦ (let e : min n (length xs) ≡ n = omega arith in ap (λ k. drop k xs) e)
      | inr l ↦ drop_all (min n (length xs)) xs (omega arith) ∙ sym (drop_all n xs l)
    ] in
    record {
      queue = λ i. record { items = window_none xs n 0 i; room = min n (length xs); past = past i; loan = c.args.slots.ghost_name };
      area = refl;
    }
