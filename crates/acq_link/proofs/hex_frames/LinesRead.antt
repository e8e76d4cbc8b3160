-- The lines of a text, read one after the other, and the messages that they hold.
use Rattle.std.proofs.Common.{◌≡◌, ℕ, suc, ◌+◌, true, false, List, [], ◌∷◌, ◌++◌, length, Option}
use Rattle.std.proofs.Common.{Some, None}
use Rattle.std.proofs.Common.{Ok, Err, refl, sym, ap, ◌∙◌, append_assoc, leb, inl, inr, arith}
use Rattle.std.specs.Prelude.{◌==◌, Bool, not, filter_map, option_to_list, ◌⊎◌}
use Rattle.std.specs.List.{prefix_len}
use Rattle.std.proofs.lemmas.List.{append-nil, nil_from_length, length_push, length-append}
use Rattle.std.proofs.lemmas.List.Elements.{filter_map-append}
use Rattle.std.proofs.lemmas.List.Folds.{prefix_len-append}
use Rattle.std.proofs.lemmas.Bool.{cases_Bool, cond-true, eq-eqb, eqb-true, lt-leb, le-leb}
use Rattle.std.specs.Result.{result_ok}
use Rattle.hex.specs.Hex.{decode_of, decode_pairs}
use Rattle.acq_link.specs.Frames.{Frames, fit_frames, fits_frame, framed}
use Rattle.acq_link.proofs.WrittenFrames.{framed-append}
use Rattle.acq_link.specs.HexLines.{if_fits, is_bad_line, lines_of, message_of_line}
use Rattle.acq_link.specs.HexLines.{messages_of_lines, messages_of_text}
use Rattle.acq_link.specs.HexLines.{without_return}
use Rattle.acq_link.specs.HexFaults.{IsFaultOf}
use Rattle.acq_link.specs.declared.hex_frames.hex_fault.HexFault.{HexFault}
use Rattle.acq_link.specs.declared.hex_frames.hex_fault.HexFault.TheVariants.{Memory, BadLine}

abbrev pub is_good_line : List ℕ → Bool
is_good_line line = not (is_bad_line line)

-- what passes the length of a frame has it
fit-if_fits : (message : Option (List ℕ)) → fit_frames (option_to_list (if_fits message)) ≡ true
fit-if_fits None = refl
fit-if_fits (Some message) =
    elim (cases_Bool (fits_frame message)) [
      | inl fits ↦ rw (fits, fits) refl
      | inr long ↦ rw long refl
    ]

one-line : (message : Option (List ℕ)) (line : List ℕ) → message_of_line line ≡ message
    → filter_map message_of_line (line ∷ []) ≡ option_to_list message
one-line None line is = rw is refl
one-line (Some message) line is = rw is refl

fit-append : (messages more : List (List ℕ)) → fit_frames messages ≡ true → fit_frames more ≡ true
    → fit_frames (messages ++ more) ≡ true
fit-append [] more h k = k
fit-append (message ∷ messages) more h k =
    elim (cases_Bool (fits_frame message)) [
      | inl fits ↦ let tail : fit_frames messages ≡ true = rw fits at h in
          rw fits (fit-append messages more tail k)
      | inr long ↦ let e : false ≡ true = rw long at h in absurd cc
    ]

pub nothing : (bytes : List ℕ) → (length bytes == 0) ≡ true → bytes ≡ []
nothing bytes h = nil_from_length bytes (eqb-true (length bytes) 0 h)

-- an empty line is not bad, and holds nothing
pub empty-line : (line frames : List ℕ) → without_return line ≡ []
    → (is_bad_line line ≡ false)
    × (frames ≡ frames ++ framed (option_to_list (message_of_line line)))
unfolding decode_pairs
empty-line line frames none = (rw none refl, rw none (sym (append-nil frames)))

-- The lines in front of the rest are good, and these are the frames of their messages.
pub record Stands (text rest frames : List ℕ) (number : ℕ) : Type 0 where
  pub before : List (List ℕ)
  pub whole : lines_of text ≡ before ++ lines_of rest
  pub good : prefix_len is_good_line before ≡ length before
  pub made : Frames frames (filter_map message_of_line before)
  pub count : number ≡ length before

pub stands-start : (text frames : List ℕ) → frames ≡ [] → Stands text text frames 0
stands-start text frames none = record {
  before = [];
  whole = refl;
  good = refl;
  made = record { each = refl; whole = none };
  count = refl;
}

-- one line more
pub stands-more : (text rest frames line after more : List ℕ) (number : ℕ) →
    Stands text rest frames number
    → lines_of rest ≡ line ∷ lines_of after → is_bad_line line ≡ false
    → more ≡ frames ++ framed (option_to_list (message_of_line line)) →
    Stands text after more (number + 1)
stands-more text rest frames line after more number s first good new =
    let one : prefix_len is_good_line (line ∷ []) ≡ 1 = rw good refl in
    let size = length_push s.before line in
    let held : filter_map message_of_line (s.before ++ line ∷ [])
    ≡ filter_map message_of_line s.before ++ option_to_list (message_of_line line) =
    filter_map-append message_of_line s.before (line ∷ [])
    ∙ ap (λ (l : List (List ℕ)). filter_map message_of_line s.before ++ l)
    (one-line (message_of_line line) line refl) in
    record {
      before = s.before ++ line ∷ [];
      whole = s.whole ∙ ap (λ (l : List (List ℕ)). s.before ++ l) first
          ∙ sym (append_assoc s.before (line ∷ []) (lines_of after));
      good = omega (
        arith,
        prefix_len-append is_good_line s.before (line ∷ []) ∙ cond-true _ _ _
            (eq-eqb _ _ s.good),
        one,
        size,
      );
      made = record {
        each = ap fit_frames held ∙ fit-append (filter_map message_of_line s.before)
            (option_to_list (message_of_line line)) s.made.each
            (fit-if_fits (result_ok (decode_of (without_return line))));
        whole = new ∙ ap (λ (l : List ℕ). l ++ framed (option_to_list (message_of_line line)))
            s.made.whole
            ∙ sym (framed-append (filter_map message_of_line s.before)
            (option_to_list (message_of_line line)))
            ∙ ap framed (sym held);
      };
      count = omega (arith, s.count, size);
    }

-- no line is left
pub stands-end : (text rest frames : List ℕ) (number : ℕ) (s : Stands text rest frames number) →
    rest ≡ []
    → messages_of_text text ≡ Ok (filter_map message_of_line s.before)
stands-end text rest frames number s none =
    let lines : lines_of text ≡ s.before =
    s.whole ∙ ap (λ (l : List ℕ). s.before ++ lines_of l) none ∙ append-nil s.before in
    let past : leb (suc (length s.before)) (length s.before) ≡ false = lt-leb _ _ (omega arith) in
    ap messages_of_lines lines ∙ rw (s.good, past) refl

-- the next line is bad
pub stands-bad : (text rest frames line after : List ℕ) (number : ℕ) →
    Stands text rest frames number
    → lines_of rest ≡ line ∷ lines_of after → is_bad_line line ≡ true
    → messages_of_text text ≡ Err (number + 1)
stands-bad text rest frames line after number s first bad =
    let whole : lines_of text ≡ s.before ++ (line ∷ lines_of after) =
    s.whole ∙ ap (λ (l : List (List ℕ)). s.before ++ l) first in
    let none : prefix_len is_good_line (line ∷ lines_of after) ≡ 0 = rw bad refl in
    let place : prefix_len is_good_line (s.before ++ (line ∷ lines_of after)) ≡ length s.before =
    omega (
      arith,
      prefix_len-append is_good_line s.before (line ∷ lines_of after) ∙ cond-true _ _ _
          (eq-eqb _ _ s.good),
      none,
    ) in
    let size = length-append s.before (line ∷ lines_of after) in
    let within : leb (suc (length s.before)) (length (s.before ++ (line ∷ lines_of after))) ≡ true =
    le-leb _ _ (omega (arith, size)) in
    ap messages_of_lines whole ∙ rw (place, within) (ap (λ (k : ℕ). Err (k + 1)) (sym s.count))

-- the next line was refused, or memory ran out for it
pub stands-fault : (text rest frames line after : List ℕ) (number : ℕ) (fault : HexFault)
    → Stands text rest frames number → lines_of rest ≡ line ∷ lines_of after
    → (fault ≡ Memory) ⊎ ((fault ≡ BadLine (number + 1)) × (is_bad_line line ≡ true)) →
    IsFaultOf text fault
stands-fault text rest frames line after number fault s first (inl memory) = rw memory tt
stands-fault text rest frames line after number fault s first (inr bad) =
    rw bad.0 (stands-bad text rest frames line after number s first bad.1)
