-- Answers to what waits read back as events.
use Rattle.std.proofs.Common.{◌≡◌, ◌∙◌, ℕ, ◌+◌, ◌≤◌, Bool, true, false, List, [], ◌∷◌}
use Rattle.std.proofs.Common.{length, map, cond, refl, ap, arith}
use Rattle.std.specs.Prelude.{not, ◌&&◌, Option, Some, None, IfSome, flat_map, unwrap_or, codes, find}
use Rattle.std.specs.List.{AllByRecursion, list_all}
use Rattle.std.specs.Char.{is_ascii_digit}
use Rattle.std.specs.Fmt.{decimal}
use Rattle.std.specs.Str.Parse.{AllDigits, digits_value}
use Rattle.std.proofs.lemmas.Bool.{le-leb}
use Rattle.std.proofs.lemmas.Bool.Decides.{nat_tests}
use Rattle.std.proofs.lemmas.Fmt.{decimal_is_IsNumeral, length-decimal-le}
use Rattle.std.proofs.lemmas.List.{append-nil}
use Rattle.std.proofs.lemmas.List.Elements.{All-filter, All-weaker, recursion_from_All}
use Rattle.std.proofs.lemmas.Str.Parse.{digit_from_value}
use Rattle.csv.specs.Reading.{default_config, records_from, strip_bom}
use Rattle.csv.specs.Writing.{read_back}
use Rattle.csv.specs.declared.parser.State.TheVariants as st
use Rattle.card_no.specs.RangeFiles.{records_of}
use Rattle.day_totals.specs.Digits.{zero_padded}
use Rattle.day_totals.proofs.ZeroPadded.{all_digits-zero_padded, digits_value-zero_padded}
use Rattle.day_totals.proofs.ZeroPadded.{length-zero_padded}
use Rattle.acq_message.specs.Elements.{or_empty}
use Rattle.acq_message.specs.Moments.{is_moment}
use Rattle.acq_message.specs.Names.{is_merchant}
use Rattle.acq_message.specs.Numbers.{is_reference}
use Rattle.acq_message.specs.declared.verdict.Verdict.{Verdict}
use Rattle.acq_message.specs.declared.verdict.Verdict.TheVariants.{Approved, Declined, NoAnswer}
use Rattle.acq_core.specs.declared.event.Event.TheVariants as event
use Rattle.acq_core.specs.declared.request.Request.{Request}
use Rattle.acq_core.specs.Events.{IsVerdict}
use Rattle.acq_core.specs.Pasts.{HasPast}
use Rattle.acq_core.specs.Tables.{Tables, is_pending}
use Rattle.acq_book.specs.Lookups.{waiting_at}
use Rattle.acq_soundness.specs.Rows.{FitsRequest}
use Rattle.acq_soundness.proofs.BooksAreSound.{books_are_sound}
use Rattle.acq_out.specs.EventLines.{answer_event, event_of_fields}
use Rattle.acq_out.specs.Fields.{filled, is_empty, is_number_text, merchant_of_text, moment_of_text}
use Rattle.acq_out.specs.Fields.{number_of_text, passing}
use Rattle.acq_out.specs.Records.{values_of_records}
use Rattle.acq_reports.proofs.LinesReadBack.{fewer_records, read_lines}
use Rattle.acq_reports.proofs.OnLiterals.{reports_on_literals}
use Rattle.acq_stand_in.specs.Answers.{is_for, verdict_for, verdict_of_first}
use Rattle.acq_stand_in.specs.Pending.{AreVerdicts, ReadsAsAnswers, answer_fields, answer_line}
use Rattle.acq_stand_in.specs.Pending.{is_of_day, verdict_fields, verdict_on, waiting_on}
use Rattle.acq_stand_in.specs.Pending as pending
use Rattle.acq_stand_in.specs.declared.card_answer.CardAnswer.{CardAnswer}
use Rattle.acq_stand_in.proofs.ValuesOfRecords.{Spells, all_values}

-- ---- fields

digits_all : (ds : List ℕ) → AllDigits 10 ds → list_all is_ascii_digit ds ≡ true
digits_all [] all = refl
digits_all (d ∷ ds) all =
    let range = digit_from_value d all.0 in
    let one : is_ascii_digit d ≡ true = grind (arith, nat_tests) in
    rw one (digits_all ds all.1)

number_read : (text : List ℕ) (n : ℕ) → 1 ≤ length text → length text ≤ 12 →
    list_all is_ascii_digit text ≡ true → digits_value 10 text ≡ n → number_of_text text ≡ Some n
number_read text n some few digits value =
    let a = le-leb 1 (length text) some in
    let b = le-leb (length text) 12 few in
    let is : is_number_text text ≡ true = rw (a, b, digits) refl in
    rw (is, value) refl

moment_read : (moment : ℕ) → is_moment moment ≡ true → moment_of_text (decimal moment) ≡ Some moment
moment_read moment fits =
    let most : moment ≤ 4102444799 = grind (arith, nat_tests) in
    let numeral = decimal_is_IsNumeral moment (omega arith) in
    let few = length-decimal-le 10 moment (omega arith) (omega arith) (omega arith) in
    let number = number_read (decimal moment) moment (omega (arith, numeral.0.0)) (omega arith)
    (digits_all (decimal moment) numeral.0.1) numeral.1 in
    ap (passing is_moment) number ∙ ap (λ b. cond b (Some moment) None) fits

reference_read : (reference : ℕ) → is_reference reference ≡ true →
    number_of_text (zero_padded 12 reference) ≡ Some reference
reference_read reference fits =
    let most : reference ≤ 999999999999 = grind (arith, nat_tests) in
    let len = length-zero_padded 12 reference in
    number_read (zero_padded 12 reference) reference (omega arith) (omega arith)
    (all_digits-zero_padded 12 reference) (digits_value-zero_padded 12 reference (omega arith))

named : (none : Bool) (whole merchant : List ℕ) → none ≡ false → whole ≡ merchant →
    is_merchant merchant ≡ true → cond (not none && is_merchant whole) (Some whole) None
    ≡ Some merchant
named none whole merchant p q fits = rw (p, q, fits) refl

merchant_read : (merchant : List ℕ) → is_merchant merchant ≡ true →
    merchant_of_text merchant ≡ Some merchant
merchant_read merchant fits =
    let len : length merchant ≡ 15 = grind (arith, nat_tests) in
    let some : is_empty merchant ≡ false = rw len refl in
    let whole : filled 15 merchant ≡ merchant = rw len (append-nil merchant) in
    named (is_empty merchant) (filled 15 merchant) merchant some whole fits

-- ---- a line

line_read : (moment reference : ℕ) (merchant : List ℕ) (verdict : Verdict)
    (a : Option ℕ) (b : Option (List ℕ)) (c : Option ℕ) (d : Option Verdict) →
    a ≡ Some moment → b ≡ Some merchant → c ≡ Some reference → d ≡ Some verdict →
    answer_event a b c d ≡ Some (event.Answer moment merchant reference verdict)
line_read moment reference merchant verdict a b c d p q r s = rw (p, q, r, s) refl

spells : (moment reference : ℕ) (merchant : List ℕ) (verdict : Verdict) →
    is_moment moment ≡ true → is_merchant merchant ≡ true → is_reference reference ≡ true →
    IsVerdict verdict →
    event_of_fields (codes "answer" ∷ decimal moment ∷ merchant ∷ zero_padded 12 reference
    ∷ verdict_fields verdict)
    ≡ Some (event.Answer moment merchant reference verdict)
spells moment reference merchant (Approved id) m n r v =
    line_read moment reference merchant (Approved id) _ _ _ _
    (moment_read moment m) (merchant_read merchant n) (reference_read reference r)
    (ap (λ b. cond b (Some (Approved id)) None) v)
spells moment reference merchant (Declined code) m n r v =
    line_read moment reference merchant (Declined code) _ _ _ _
    (moment_read moment m) (merchant_read merchant n) (reference_read reference r)
    (ap (λ b. cond b (Some (Declined code)) None) v)
spells moment reference merchant NoAnswer m n r v =
    line_read moment reference merchant NoAnswer _ _ _ _
    (moment_read moment m) (merchant_read merchant n) (reference_read reference r) refl

-- ---- all lines

module _ (answers : List CardAnswer) (moment : ℕ) where
  abbrev fields : Request → List (List ℕ)
  fields row = answer_fields moment (verdict_on answers row) row

  some_fields : (row : Request) → read_back (fields row) ≡ fields row
  some_fields row = refl

  same_text : (rows : List Request) →
      strip_bom (flat_map (answer_line answers moment) rows)
      ≡ flat_map (answer_line answers moment) rows
  unfolding strip_bom reports_on_literals
  same_text [] = refl
  same_text (row ∷ rows) = refl

  records_are : (rows : List Request) →
      records_of (flat_map (answer_line answers moment) rows) ≡ map fields rows
  records_are rows =
      let text = flat_map (answer_line answers moment) rows in
      let fewer = fewer_records fields some_fields rows in
      ap (λ s. records_from default_config (length s + 1) st.StartRecord s) (same_text rows)
      ∙ read_lines fields some_fields (length text + 1) rows (omega arith)

  -- a row's fields spell its answer
  abbrev AnswerSpells : Request → Type 0
  AnswerSpells row = Spells event_of_fields fields (pending.answer_event answers moment) row

-- what a file says is a verdict
is_verdict : (answers : List CardAnswer) (card : List ℕ) →
    AllByRecursion (λ answer. IsVerdict answer.verdict) answers →
    IsVerdict (verdict_for answers card)
is_verdict [] card all = tt
is_verdict (answer ∷ answers) card all =
    elim (is_for card answer) as
    (λ b. IsVerdict (verdict_of_first (cond b (Some answer) (find (is_for card) answers)))) [
      | true ↦ all.0
      | false ↦ is_verdict answers card all.1
    ]

-- a reference, or 0 where there is none
is_some_reference : (reference : Option ℕ) → IfSome reference (λ n. is_reference n ≡ true) →
    is_reference (unwrap_or reference 0) ≡ true
is_some_reference None fits = refl
is_some_reference (Some n) fits = fits

pub reads_as_answers : (answers : List CardAnswer) (moment : ℕ) (day : Option ℕ) (t : Tables) →
    is_moment moment ≡ true → AreVerdicts answers → HasPast t →
    ReadsAsAnswers answers moment day t
reads_as_answers answers moment day t m verdicts past =
    let fit = (books_are_sound past.0 t past.1).rows.requests in
    let rows = waiting_on day t in
    let waiting = All-filter (λ row. is_pending row.status) FitsRequest t.requests fit in
    let fitting = All-filter (is_of_day day) FitsRequest (waiting_at t) waiting in
    let each = recursion_from_All (λ answer. IsVerdict answer.verdict) answers verdicts in
    ap (values_of_records event_of_fields) (records_are answers moment rows)
    ∙ all_values event_of_fields (fields answers moment) (pending.answer_event answers moment) rows
    (recursion_from_All (AnswerSpells answers moment) rows
    (All-weaker FitsRequest (AnswerSpells answers moment)
    (λ row fit. spells moment (unwrap_or row.reference 0) row.key.merchant (verdict_on answers row) m
    fit.key.merchant (is_some_reference row.reference fit.reference)
    (is_verdict answers (or_empty row.card) each)) rows fitting))
