-- Frames at the front of an input, one after another.
use Rattle.std.proofs.Common.{◌≡◌, ℕ, true, List, [], ◌∷◌, ◌++◌, refl, sym, ap, ◌∙◌}
use Rattle.std.proofs.Common.{append_assoc, append-nil}
use Rattle.std.proofs.lemmas.List.Folds.{list_all-append}
use Rattle.acq_link.specs.Frames.{Frames, FramesThen, fit_frames, fits_frame, frame, framed}
use Rattle.acq_link.proofs.WrittenFrames.{framed-append, framed-push}

fit_both : (messages more : List (List ℕ)) → fit_frames messages ≡ true → fit_frames more ≡ true →
    fit_frames (messages ++ more) ≡ true
fit_both messages more first second =
    list_all-append fits_frame messages more ∙ rw (first, second) refl

pub taken_none : (bytes : List ℕ) → FramesThen bytes [] bytes
taken_none bytes = record { each = refl; whole = refl }

-- one frame more
pub taken_more : (bytes rest message later : List ℕ) (messages : List (List ℕ)) →
    FramesThen bytes messages rest →
    rest ≡ frame message ++ later → fits_frame message ≡ true →
    FramesThen bytes (messages ++ message ∷ []) later
taken_more bytes rest message later messages taken front fits = record {
  each = fit_both messages (message ∷ []) taken.each (rw fits refl);
  whole = taken.whole ∙ ap (λ (x : List ℕ). framed messages ++ x) front
      ∙ sym (append_assoc (framed messages) (frame message) later)
      ∙ ap (λ (x : List ℕ). x ++ later) (sym (framed-push messages message));
}

-- all frames
pub taken_all : (bytes rest : List ℕ) (messages : List (List ℕ)) → FramesThen bytes messages rest →
    rest ≡ [] →
    Frames bytes messages
taken_all bytes rest messages taken empty = record {
  each = taken.each;
  whole = taken.whole ∙ ap (λ (x : List ℕ). framed messages ++ x) empty
      ∙ append-nil (framed messages);
}

-- the frames of two lists, one after the other
pub frames_append : {a b : List ℕ} {messages more : List (List ℕ)} → Frames a messages →
    Frames b more → Frames (a ++ b) (messages ++ more)
frames_append {a = a} {b = b} {messages = messages} {more = more} first second = record {
  each = fit_both messages more first.each second.each;
  whole = ap (λ (l : List ℕ). l ++ b) first.whole
      ∙ ap (λ (l : List ℕ). framed messages ++ l) second.whole
      ∙ sym (framed-append messages more);
}
