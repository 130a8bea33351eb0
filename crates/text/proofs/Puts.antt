-- Text that is put piece by piece, while a writer takes it. Assumes nothing.
use Rattle.std.proofs.Common.{◌≡◌, ℕ, List, [], ◌∷◌, ◌++◌, length, sym, refl, ap, ◌∙◌, append_assoc, append-nil, IsUtf8, Result, Ok, Err, arith}
use Rattle.std.specs.Result.{MatchResult, IsOk}
use Rattle.std.specs.declared.fmt.Formatter.{Formatter}
use Rattle.std.proofs.lemmas.List.Concat.{flat_map-append}
use Rattle.std.specs.Fmt.{IsPlainFormatter, HasWritten}
use Rattle.std.proofs.Output.{has_written_append, has_written_of_eq}
use Rattle.text.specs.Hex.{pair_of, shown_pairs}

-- from f to g the text was put that goes before that of rest
pub record Putting {W : Type 0} (took : W → List ℕ → W → Type 0) (f : Formatter W) (all : List ℕ) (g : Formatter W) (rest : List ℕ) : Type 0 where
  pub done : List ℕ
  pub split : done ++ shown_pairs rest ≡ shown_pairs all
  pub put : IsPlainFormatter f → HasWritten took f done g

module _ {W : Type 0} (took : W → List ℕ → W → Type 0) (f : Formatter W) (all : List ℕ) where
  pub put_piece : (g h : Formatter W) (rest piece later : List ℕ) → Putting took f all g rest → rest ≡ piece ++ later → (IsPlainFormatter g → HasWritten took g (shown_pairs piece) h) → Putting took f all h later
  put_piece g h rest piece later so_far e next = record {
    done = so_far.done ++ shown_pairs piece;
    split = append_assoc so_far.done (shown_pairs piece) (shown_pairs later) ∙ ap (λ l. so_far.done ++ l) (sym (ap shown_pairs e ∙ flat_map-append pair_of piece later)) ∙ so_far.split;
    put = λ plain. has_written_append took f so_far.done g (shown_pairs piece) h (so_far.put plain) (next (so_far.put plain).plain);
  }

  pub put_all : (g : Formatter W) (rest : List ℕ) → Putting took f all g rest → length rest ≡ 0 → IsPlainFormatter f → HasWritten took f (shown_pairs all) g
  put_all g [] so_far e plain = has_written_of_eq took f so_far.done (shown_pairs all) g (sym (append-nil so_far.done) ∙ so_far.split) (so_far.put plain)
  put_all g (x ∷ xs) so_far e plain = absurd (omega arith)

-- what `from_utf8` gives of bytes that are text
pub is_text : {S E : Type 0} (r : Result S E) (P : S → Type 0) (Q : E → Type 0) (bs : List ℕ) → MatchResult r P (λ e. ¬ (IsUtf8 bs) × Q e) → IsUtf8 bs → IsOk r
is_text (Ok s) P Q bs h text = refl
is_text (Err e) P Q bs h text = absurd (h.0 text)
