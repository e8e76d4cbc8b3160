-- From the columns that were read to the request.
use Rattle.std.proofs.Common.{◌≡◌, ◌≤◌, ◌<◌, ◌==◌, ℕ, pos, Bool, List, [], ◌∷◌, length, slice_get}
use Rattle.std.proofs.Common.{slice_index_or, Option, None, Some}
use Rattle.std.proofs.Common.{Result, Err, IfErr}
use Rattle.std.proofs.Common.{Ok, true, false, get_or, take, refl, sym, ap, subst, ◌∙◌, arith}
use Rattle.std.specs.Prelude.{if◌then◌else◌, IfSome, ◌^◌}
use Rattle.std.specs.List.{list_all}
use Rattle.std.specs.Str.{bytes_eq}
use Rattle.std.proofs.lemmas.Bool.{and_parts}
use Rattle.sqlite_value.specs.declared.value.Value.TheVariants.{Int, Text}
use Rattle.sqlite_value.specs.declared.value.Value.{Value}
use Rattle.sqlite_value.specs.Order.{Row, column}
use Rattle.sqlite.specs.declared.error.Error.{Error}
use Rattle.sqlite.specs.declared.error.Error.TheVariants.{SqliteFailure}
use Rattle.sqlite.specs.declared.error.ErrorCode.TheVariants.{DatabaseCorrupt}
use Rattle.row_lemmas.specs.Values.{number, number_or_null, text_or_null}
use Rattle.iso_codec.specs.Message.{IsMessage}
use Rattle.iso_codec.specs.Reading.{reading_of}
use Rattle.day_totals.specs.Totals.{all_legs}
use Rattle.day_totals.specs.declared.leg.Leg.{Leg}
use Rattle.day_totals.specs.declared.leg.Leg.TheVariants.{Credit, CreditReversal, Debit}
use Rattle.day_totals.specs.declared.leg.Leg.TheVariants.{DebitReversal}
use Rattle.acq_message.specs.declared.service.Service.{Service}
use Rattle.acq_message.specs.declared.service.Service.TheVariants.{Authorization, Financial}
use Rattle.acq_message.specs.declared.service.Service.TheVariants.{Completion, Reversal}
use Rattle.acq_message.specs.declared.service.Service.TheVariants.{ReversalAdvice, Reconciliation}
use Rattle.acq_message.specs.declared.service.Service.TheVariants.{NetworkManagement}
use Rattle.acq_message.specs.Services.{digits_of, served, service_in, service_of}
use Rattle.acq_core.specs.declared.request.Request.{Request}
use Rattle.acq_core.specs.declared.status.Status.{Status}
use Rattle.acq_core.specs.Statuses.{status_number, status_numbered}
use Rattle.acq_soundness.specs.Rows.{AreHoldDays}
use Rattle.acq_sql_rows.specs.Rows.{request_row, leg_number, bit_of}
use Rattle.acq_sql_rows.specs.ReadBack.{request_at}
use Rattle.acq_sql_rows.proofs.SameKeys.{bytes_same}
use Rattle.acq_sql_reads.specs.Recorded.{request_cells, IsRowOf, HasKey, ShowsRequest}
use Rattle.acq_sql_reads.specs.Recorded.{NamesNoService}
use Rattle.acq_sql_reads.specs.Failing.{FailsForMemory}
use Rattle.acq_sql_rows.proofs.TablesReadBack.{text_back, number_back, bit_back, leg_back}
use Rattle.acq_core.proofs.Statuses.{status_back}
use Rattle.acq_sql_rows.proofs.TablesReadBack.{service_back}
use Rattle.acq_sql_rows.proofs.TablesReadBack.{request_back}

-- ---- a number stands for one value

pub bit_same : (a b : Bool) → bit_of a ≡ bit_of b → a ≡ b
bit_same a b h = sym (bit_back a) ∙ ap (λ n. n == 1) h ∙ bit_back b

pub leg_same : (a b : Leg) → leg_number a ≡ leg_number b → a ≡ b
leg_same a b h = sym (leg_back a) ∙ ap (λ n. slice_index_or all_legs n Credit) h ∙ leg_back b

-- ---- a service by the digits of its type

abbrev has_digits : List ℕ × Service → Bool
has_digits row = bytes_eq (take 3 row.0) (digits_of row.1)

digits_in : (rows : List (List ℕ × Service)) → list_all has_digits rows ≡ true
    → (kind : List ℕ) (s : Service) → service_in rows kind ≡ Some s → take 3 kind ≡ digits_of s
digits_in [] all kind s is = absurd (cc)
digits_in (row ∷ rows) all kind s is =
    let parts = and_parts (has_digits row) (list_all has_digits rows) all in
    go (bytes_same (take 3 row.0) (digits_of row.1) parts.0) (digits_in rows parts.1 kind s)
    (bytes_eq kind row.0) refl is
  where
    go : take 3 row.0 ≡ digits_of row.1
        → (service_in rows kind ≡ Some s → take 3 kind ≡ digits_of s)
        → (b : Bool) → bytes_eq kind row.0 ≡ b
        → (if b then Some row.1 else service_in rows kind) ≡ Some s → take 3 kind ≡ digits_of s
    go here rest true same is =
        let e : row.1 ≡ s = cc in
        ap (take 3) (bytes_same kind row.0 same) ∙ here ∙ ap digits_of e
    go here rest false other is = rest is

-- the type's last digit is 0
pub service_read : (text : List ℕ) (s : Service) → 3 ≤ length text → length text < 4
    → service_of (get_or text 0 0 ∷ get_or text 1 0 ∷ get_or text 2 0 ∷ 48 ∷ []) ≡ Some s
    → text ≡ digits_of s
service_read (a ∷ b ∷ c ∷ []) s low high = digits_in served refl (a ∷ b ∷ c ∷ 48 ∷ []) s
service_read text s low high = absurd (omega arith)

-- ---- a row is one request's

cells_back : (a : Request) (reply : List ℕ) → reading_of reply ≡ Ok a.reply
    → request_at (Int (pos 0) ∷ request_cells a reply) ≡ a
cells_back a reply reads =
    rw (
      service_back a.key.service,
      status_back a.status,
      bit_back a.admitted,
      number_back a.reference,
      number_back a.follows,
      leg_back a.leg,
      text_back a.card,
      text_back a.acquirer,
      number_back a.hold_days,
      number_back a.hold_end,
      reads,
    ) refl

pub same_request : (a x : Request) (reply : List ℕ) → reading_of reply ≡ Ok a.reply →
    IsMessage x.reply
    → request_cells a reply ≡ request_row x → a ≡ x
same_request a x reply reads whole h =
    sym (cells_back a reply reads) ∙ ap (λ row. request_at (Int (pos 0) ∷ row)) h
    ∙ request_back 0 x whole

-- no row stands for none
pub none_is : (o : Option Request) (rows : List Row) → ShowsRequest o rows →
    None ≡ slice_get rows 0 → None ≡ o
none_is None rows are is = refl
none_is (Some x) rows are is = absurd (let e = is ∙ ap (λ l. slice_get l 0) are.0 in cc)

-- the row that was found is the request's
pub row_is : (o : Option Request) (rows : List Row) (row : Row) (r : Request) → ShowsRequest o rows
    → Some row ≡ slice_get rows 0 → (length row ≡ 18 → IsRowOf row r) → Some r ≡ o
row_is None rows row r are some read = absurd (let e = some ∙ ap (λ l. slice_get l 0) are in cc)
row_is (Some x) rows row r are some read =
    let first : row ≡ request_row x =
    let e : Some row ≡ Some (request_row x) = some ∙ ap (λ l. slice_get l 0) are.0 in cc in
    let it = read (ap length first) in
    ap Some (same_request r x it.0 it.2 are.1 (sym it.1 ∙ first))

-- ---- the columns of a row that was read

eighteen_columns : (row : Row) → length row ≡ 18
    → row ≡ column row 0 ∷ column row 1 ∷ column row 2 ∷ column row 3 ∷ column row 4 ∷ column row 5
    ∷ column row 6
    ∷ column row 7 ∷ column row 8 ∷ column row 9 ∷ column row 10 ∷ column row 11 ∷ column row 12
    ∷ column row 13
    ∷ column row 14 ∷ column row 15 ∷ column row 16 ∷ column row 17 ∷ []
eighteen_columns (a ∷ b ∷ c ∷ d ∷ e ∷ f ∷ g ∷ h ∷ i ∷ j ∷ k ∷ l ∷ m ∷ n ∷ o ∷ p ∷ q ∷ r ∷ []) len =
    refl
eighteen_columns row len = absurd (omega arith)

pub request_is : (row : Row) (r : Request) (reply : List ℕ) → length row ≡ 18 → HasKey row r.key
    → column row 5 ≡ Text r.essence → column row 6 ≡ number r.day →
    column row 7 ≡ number (status_number r.status)
    → column row 8 ≡ number (bit_of r.admitted) → column row 9 ≡ number_or_null r.reference
    → column row 10 ≡ number_or_null r.follows → column row 11 ≡ number r.amount
    → column row 12 ≡ number (leg_number r.leg) → column row 13 ≡ text_or_null r.card
    → column row 14 ≡ text_or_null r.acquirer → column row 15 ≡ number_or_null r.hold_days
    → column row 16 ≡ number_or_null r.hold_end → column row 17 ≡ Text reply →
    row ≡ request_cells r reply
request_is row r reply len key e5 e6 e7 e8 e9 e10 e11 e12 e13 e14 e15 e16 e17 =
    eighteen_columns row len
    ∙ rw (
      key.merchant,
      key.terminal,
      key.kind,
      key.trace,
      key.stamp,
      e5,
      e6,
      e7,
      e8,
      e9,
      e10,
      e11,
      e12,
      e13,
      e14,
      e15,
      e16,
      e17,
    ) refl

-- ---- a row of a book is read

-- the digits of a service name it
service_given : (s : Service)
    → service_of (get_or (digits_of s) 0 0 ∷ get_or (digits_of s) 1 0 ∷ get_or (digits_of s) 2 0
    ∷ 48 ∷ []) ≡ Some s
service_given Authorization = refl
service_given Financial = refl
service_given Completion = refl
service_given Reversal = refl
service_given ReversalAdvice = refl
service_given Reconciliation = refl
service_given NetworkManagement = refl

-- they are three
three_digits : (s : Service) → length (digits_of s) ≡ 3
three_digits Authorization = refl
three_digits Financial = refl
three_digits Completion = refl
three_digits Reversal = refl
three_digits ReversalAdvice = refl
three_digits Reconciliation = refl
three_digits NetworkManagement = refl

pub none_named : (value : Value) (text : List ℕ) → value ≡ Text text → (length text ≡ 3 → ⊥)
    → NamesNoService value
none_named value text is other s named =
    let same : text ≡ digits_of s = let both = sym is ∙ named in cc in
    other (ap length same ∙ three_digits s)

pub service_taken : (value : Value) (text : List ℕ) (o : Option Service)
    (res : Result Service Error) → value ≡ Text text
    → o ≡ service_of (get_or text 0 0 ∷ get_or text 1 0 ∷ get_or text 2 0 ∷ 48 ∷ [])
    → IfErr res (λ e. (o ≡ None) × (e ≡ SqliteFailure DatabaseCorrupt))
    → IfErr res (λ e. NamesNoService value)
service_taken value text o (Ok x) is given fault = tt
service_taken value text o (Err e) is given fault = λ s named.
    let same : text ≡ digits_of s = let both = sym is ∙ named in cc in
    let none : Some s ≡ None =
    sym (rw same at given ∙ service_given s) ∙ fault.0 in
    cc

pub status_taken : (n : ℕ) (s : Status) (o : Option Status) (res : Result Status Error)
    → n ≡ status_number s → o ≡ status_numbered n
    → IfErr res (λ e. (o ≡ None) × (e ≡ SqliteFailure DatabaseCorrupt)) → FailsForMemory res
status_taken n s o (Ok x) is given fault = tt
status_taken n s o (Err e) is given fault =
    let none : Some s ≡ None =
    sym (status_back s) ∙ ap status_numbered (sym is) ∙ sym given ∙ fault.0 in
    absurd (cc)

pub days_fit : (o : Option ℕ) → IfSome o AreHoldDays → IfSome o (λ n. n < 2 ^ 8)
days_fit None days = tt
days_fit (Some n) days = omega (arith, days.1)

pub bit_fits : (b : Bool) → bit_of b < 2
bit_fits true = omega arith
bit_fits false = omega arith

pub leg_fits : (l : Leg) → leg_number l < 4
leg_fits Credit = omega arith
leg_fits CreditReversal = omega arith
leg_fits Debit = omega arith
leg_fits DebitReversal = omega arith

-- of a request's row
module _ (row : Row) (r : Request) (reply : List ℕ) (is : row ≡ request_cells r reply) where
  pub key_shown : HasKey row r.key
  key_shown =
      record {
        merchant = ap (λ l. column l 0) is;
        terminal = ap (λ l. column l 1) is;
        kind = ap (λ l. column l 2) is;
        trace = ap (λ l. column l 3) is;
        stamp = ap (λ l. column l 4) is;
      }

  pub is_wide : (k : ℕ) → k < 18 → k < length row
  is_wide k few = subst (λ n. k < n) (sym (ap length is)) few
