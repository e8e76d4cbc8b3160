-- The answer at the front of some bytes.
use Rattle.std.proofs.Common.{◌≡◌, ℕ, suc, ◌+◌, ◌<◌, ◌≤◌, List, [], ◌∷◌, ◌++◌, length, take, drop}
use Rattle.std.proofs.Common.{refl, sym, ap, ◌∙◌, Some, None, inr, arith, append_assoc}
use Rattle.std.proofs.Common.{length-take, length-append}
use Rattle.std.proofs.lemmas.List.{take_all, take-append-drop, take-append-le}
use Rattle.std.specs.Prelude.{◌==◌}
use Rattle.std.specs.List.{position}
use Rattle.acq_control.specs.Lines.{BeginsWithLine, ended, line_feed}
use Rattle.acq_control.specs.HostAnswers.{Answer, BeginsWithAnswer, HasBadHeading, IsInAnswer}
use Rattle.acq_control.specs.HostAnswers.{kind_of_line, length_by_kind, said}
use Rattle.acq_control.specs.HostAnswers.{said_by_kind}
use Rattle.acq_control.specs.declared.answer_kind.AnswerKind.{AnswerKind}
use Rattle.acq_control.proofs.FirstLine.{ended-line}

-- a line with its line feed, as it stands at the front
whole_line : (bytes line rest : List ℕ) (end : ℕ) → end < length bytes → line ≡ take end bytes →
    BeginsWithLine bytes line rest → ended line ≡ take (end + 1) bytes
whole_line bytes line rest end inside is begins =
    let size : length (ended line) ≡ end + 1 =
    omega (arith, ap length is, length-take end bytes, length-append line (line_feed ∷ [])) in
    sym (ap (take (end + 1)) begins.whole
    ∙ take-append-le (end + 1) (ended line) rest (omega (arith, size))
    ∙ take_all (end + 1) (ended line) (omega (arith, size)))

module _ (bytes line : List ℕ) (end : ℕ) (found : Some end ≡ position (λ byte. byte == 10) bytes)
    (is : line ≡ take end bytes) where
  in_front : (end < length bytes) × BeginsWithLine bytes line (drop (suc end) bytes)
  in_front =
      let first = ended-line bytes end found in
      (first.0, rw is first.1)

  pub bad_heading : (kind : AnswerKind) → kind ≡ kind_of_line line →
      None ≡ length_by_kind kind line → HasBadHeading bytes
  bad_heading kind same none =
      (line, drop (suc end) bytes, in_front.1, sym (none ∙ ap (λ k. length_by_kind k line) same))

  pub in_text : (kind : AnswerKind) (behind : List ℕ) (n : ℕ) → kind ≡ kind_of_line line →
      Some n ≡ length_by_kind kind line → behind ≡ drop (end + 1) bytes → length behind < n →
      IsInAnswer bytes
  in_text kind behind n same some back short =
      let from : end + 1 ≡ suc end = omega arith in
      inr (
        line,
        drop (suc end) bytes,
        n,
        in_front.1,
        sym (some ∙ ap (λ k. length_by_kind k line) same),
        omega (arith, short, ap length (back ∙ ap (λ i. drop i bytes) from)),
      )

  pub whole_answer : (kind : AnswerKind) (whole behind text rest said_bytes : List ℕ) (n : ℕ) →
      kind ≡ kind_of_line line → Some n ≡ length_by_kind kind line → whole ≡ take (end + 1) bytes →
      behind ≡ drop (end + 1) bytes → text ≡ take n behind → rest ≡ drop n behind →
      n ≤ length behind → said_bytes ≡ said_by_kind kind whole text →
      (answer : Answer) × BeginsWithAnswer bytes answer rest × (kind ≡ kind_of_line answer.line)
      × (said_bytes ≡ said answer)
  whole_answer kind whole behind text rest said_bytes n same some front back is_text is_rest fits
      says =
      let from : end + 1 ≡ suc end = omega arith in
      let later : behind ≡ drop (suc end) bytes = back ∙ ap (λ i. drop i bytes) from in
      let both : behind ≡ text ++ rest =
      sym (ap (λ (l : List ℕ). l ++ rest) is_text ∙ ap (λ (l : List ℕ). take n behind ++ l) is_rest
      ∙ take-append-drop n behind) in
      let size : n ≡ length text = omega (arith, ap length is_text, length-take n behind, fits) in
      let answer : Answer = record { line = line; text = text } in (
        answer,
        record {
          is = record {
            within = in_front.1.within;
            behind = sym (some ∙ ap (λ k. length_by_kind k line) same) ∙ ap Some size;
          };
          whole = in_front.1.whole ∙ ap (λ (l : List ℕ). ended line ++ l) (sym later ∙ both)
              ∙ sym (append_assoc (ended line) text rest);
        },
        same,
        says ∙ rw (same, front, sym (whole_line bytes line _ end in_front.0 is in_front.1)) refl,
      )
