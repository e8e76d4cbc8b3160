-- The tables that a database holds are those that it stands for, so it holds no others.
use Rattle.std.proofs.Common.{◌≡◌, ℕ, suc, pos, Bool, true, false, List, [], ◌∷◌, map, Option, None}
use Rattle.std.proofs.Common.{Some}
use Rattle.std.proofs.Common.{find, unwrap_or, slice_index_or, ◌==◌, refl, sym, ap, ap₂, ◌∙◌}
use Rattle.std.specs.Str.{bytes_eq}
use Rattle.std.specs.List.{AllByRecursion}
use Rattle.sqlite_value.specs.declared.value.Value.TheVariants.{Int}
use Rattle.sqlite_value.specs.Order.{Row}
use Rattle.sqlite.specs.Effect.{Database}
use Rattle.row_lemmas.specs.Numbered.{numbered_from}
use Rattle.row_lemmas.specs.Values.{number_or_null, text_or_null}
use Rattle.iso_codec.specs.Message.{IsoMessage, IsMessage}
use Rattle.iso_codec.specs.Reading.{reading_of, spelling}
use Rattle.iso_codec.proofs.WrittenIsRead.{is_read}
use Rattle.iso_codec.proofs.ReadingComputes.{reads_as}
use Rattle.iso_codec.proofs.SpellingComputes.{spelling_writes}
use Rattle.day_totals.specs.Totals.{all_legs}
use Rattle.day_totals.specs.declared.leg.Leg.{Leg}
use Rattle.day_totals.specs.declared.leg.Leg.TheVariants.{Credit, CreditReversal, Debit}
use Rattle.day_totals.specs.declared.leg.Leg.TheVariants.{DebitReversal}
use Rattle.acq_message.specs.Services.{digits_of}
use Rattle.acq_message.specs.declared.service.Service.{Service}
use Rattle.acq_message.specs.declared.service.Service.TheVariants.{Authorization, Financial}
use Rattle.acq_message.specs.declared.service.Service.TheVariants.{Completion, Reversal}
use Rattle.acq_message.specs.declared.service.Service.TheVariants.{ReversalAdvice, Reconciliation}
use Rattle.acq_message.specs.declared.service.Service.TheVariants.{NetworkManagement}
use Rattle.acq_core.specs.declared.request.Request.{Request}
use Rattle.acq_core.specs.Tables.{Tables}
use Rattle.acq_core.proofs.Statuses.{status_back}
use Rattle.acq_sql_rows.specs.Rows.{merchant_row, terminal_row, range_row, request_row, posting_row}
use Rattle.acq_sql_rows.specs.Rows.{reconciliation_row}
use Rattle.acq_sql_rows.specs.Rows.{leg_number, bit_of}
use Rattle.acq_sql_rows.specs.ReadBack.{tables_in, tables_of, merchant_at, terminal_at, range_at}
use Rattle.acq_sql_rows.specs.ReadBack.{request_at, posting_at}
use Rattle.acq_sql_rows.specs.ReadBack.{reconciliation_at, all_services, text_if}
use Rattle.acq_sql_rows.specs.ReadBack.{number_if, message_read}
use Rattle.acq_sql_rows.specs.Relation.{Holds}

-- ---- values

pub text_back : (t : Option (List ℕ)) → text_if (text_or_null t) ≡ t
text_back None = refl
text_back (Some t) = refl

pub number_back : (n : Option ℕ) → number_if (number_or_null n) ≡ n
number_back None = refl
number_back (Some n) = refl

pub bit_back : (b : Bool) → (bit_of b == 1) ≡ b
bit_back true = refl
bit_back false = refl

pub leg_back : (l : Leg) → slice_index_or all_legs (leg_number l) Credit ≡ l
leg_back Credit = refl
leg_back CreditReversal = refl
leg_back Debit = refl
leg_back DebitReversal = refl

pub service_back : (s : Service)
    → unwrap_or (find (λ x. bytes_eq (digits_of x) (digits_of s)) all_services) Authorization ≡ s
service_back Authorization = refl
service_back Financial = refl
service_back Completion = refl
service_back Reversal = refl
service_back ReversalAdvice = refl
service_back Reconciliation = refl
service_back NetworkManagement = refl

message_back : (m : IsoMessage) → IsMessage m → message_read (reading_of (spelling m)) ≡ m
message_back m whole =
    ap message_read (reads_as (spelling m) m (is_read (spelling m) m (spelling_writes m whole)))

-- ---- rows

pub request_back : (id : ℕ) (r : Request) → IsMessage r.reply →
    request_at (Int (pos id) ∷ request_row r) ≡ r
request_back id r whole =
    rw (
      service_back r.key.service,
      status_back r.status,
      bit_back r.admitted,
      number_back r.reference,
      number_back r.follows,
      leg_back r.leg,
      text_back r.card,
      text_back r.acquirer,
      number_back r.hold_days,
      number_back r.hold_end,
      message_back r.reply whole,
    ) refl

-- ---- lists

module _ {X : Type 0} (row_of : X → Row) (read : Row → X) where
  numbered_back : ((id : ℕ) (x : X) → read (Int (pos id) ∷ row_of x) ≡ x) → (n : ℕ) (xs : List X)
      → map read (numbered_from n (map row_of xs)) ≡ xs
  numbered_back each n [] = refl
  numbered_back each n (x ∷ xs) = ap₂ (λ y ys. y ∷ ys) (each n x) (numbered_back each (suc n) xs)

  keyed_back : ((x : X) → read (row_of x) ≡ x) → (xs : List X) → map read (map row_of xs) ≡ xs
  keyed_back each [] = refl
  keyed_back each (x ∷ xs) = ap₂ (λ y ys. y ∷ ys) (each x) (keyed_back each xs)

requests_back : (n : ℕ) (rs : List Request) → AllByRecursion (λ r. IsMessage r.reply) rs
    → map request_at (numbered_from n (map request_row rs)) ≡ rs
requests_back n [] whole = refl
requests_back n (r ∷ rs) whole =
    ap₂ (λ y ys. y ∷ ys) (request_back n r whole.0) (requests_back (suc n) rs whole.1)

-- ---- the tables

-- the tables that a database holds are those that it stands for
pub tables_of-holds : (db : Database) (t : Tables) → Holds db t → tables_of db ≡ t
unfolding tables_in
tables_of-holds db t holds =
    let h = holds.rows in
    rw (h.book, h.merchants, h.terminals, h.ranges, h.requests, h.postings, h.reconciliations)
    (rw (
      numbered_back merchant_row merchant_at (λ id x. refl) 1 t.merchants,
      numbered_back terminal_row terminal_at (λ id x. refl) 1 t.terminals,
      keyed_back range_row range_at (λ x. refl) t.ranges,
      requests_back 1 t.requests h.recorded,
      numbered_back posting_row posting_at (λ id p. rw (leg_back p.1.leg) refl) 1 t.postings,
      numbered_back reconciliation_row reconciliation_at (λ id r. rw (bit_back r.1.in_balance) refl)
          1 t.reconciliations,
    ) refl)

-- so it holds no others
pub one_tables : (db : Database) (s t : Tables) → Holds db s → Holds db t → s ≡ t
one_tables db s t hs ht = sym (tables_of-holds db s hs) ∙ tables_of-holds db t ht
