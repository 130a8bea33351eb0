-- What is made of a Message: M_len and the number of Data at two lengths, and that all of it can be made.
use Rattle.std.proofs.Common.{◌≡◌, ℕ, zero, suc, ◌≤◌, List, length, drop, refl, ap, ◌∙◌, arith, length-take}
use Rattle.frame.specs.declared.channel.Channel.{Channel}
use Rattle.message.specs.Making.{four_bytes, m_len, datas_of, data_count, longest_payload, LoadableIsMade, Figures, LengthFigures}
use Rattle.message.proofs.Headers.{m_len_stands}

-- every payload that a channel takes can be counted
pub longest_fits : (c : Channel) → longest_payload c ≤ 4294967287
longest_fits c = grind arith

pub loadable_is_made : LoadableIsMade
loadable_is_made c m load =
    let d = load.destination in
    let s = load.source in
    let long = longest_fits c in
    let short = load.payload in
    let first = length-take 8 m.payload in
    record {
      header = grind arith;
      pieces = λ left. let k = length-take 32 left in grind arith;
    }

pub length_datas : (n : ℕ) (left : List ℕ) → length (datas_of n left) ≡ n
length_datas zero left = refl
length_datas (suc n) left = ap suc (length_datas n (drop 32 left))

figures : (total : ℕ) → Figures total (m_len total) (data_count total)
figures total =
    record {
      counted = λ m d s h. m_len_stands m d s ∙ ap (λ (n : ℕ). four_bytes (m_len n)) h;
      followed = λ m h. ap suc (length_datas (data_count (length m.payload)) (drop 8 m.payload) ∙ ap data_count h) ∙ omega arith;
    }

pub length_figures : LengthFigures
length_figures = (figures 8, figures 9)
