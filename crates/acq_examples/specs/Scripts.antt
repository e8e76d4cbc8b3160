-- Events of the worked rows, and what a row says of them.
use Rattle.std.specs.Prelude.{◌≡◌, ℕ, List, [], ◌∷◌, ◌++◌, map, Option, Some, None}
use Rattle.std.specs.Prelude.{option_map, if◌then◌else◌, codes}
use Prim.Native.String.{String}
use Rattle.day_totals.specs.declared.leg.Leg.{Leg}
use Rattle.day_totals.specs.declared.leg.Leg.TheVariants.{Credit, Debit}
use Rattle.acq_message.specs.declared.service.Service.{Service}
use Rattle.acq_message.specs.declared.service.Service.TheVariants.{Authorization, Financial}
use Rattle.acq_message.specs.declared.request_key.RequestKey.{RequestKey}
use Rattle.acq_core.specs.declared.request.Request.{Request}
use Rattle.acq_core.specs.declared.reconciliation.Reconciliation.{Reconciliation}
use Rattle.acq_core.specs.declared.posting.Posting.{Posting}
use Rattle.acq_core.specs.declared.event.Event.{Event}
use Rattle.acq_core.specs.declared.event.Event.TheVariants.{Frame, Answer, Cutover, AddRange, Enrol}
use Rattle.acq_core.specs.declared.event.Event.TheVariants.{AddTerminal}
use Rattle.acq_message.specs.declared.verdict.Verdict.TheVariants.{Approved, Declined, NoAnswer}
use Rattle.acq_core.specs.declared.output.Output.{Output}
use Rattle.acq_core.specs.declared.output.Output.TheVariants.{Reply, Ask, Done}
use Rattle.acq_core.specs.Arrivals.{merchant_named}
use Rattle.acq_core.specs.Outcome.{output_of}
use Rattle.acq_core.specs.Known.{Prior}
use Rattle.acq_core.specs.Decision.{is_open_at}
use Rattle.acq_core.specs.Tables.{Opening, Tables, new_tables, outputs, postings_of, requests_of}
use Rattle.acq_core.specs.Tables.{prior_of}
use Rattle.acq_history.specs.Entries.{Entry}
use Rattle.acq_history.specs.History.{postings, day_after, prior, recorded, referred, is_admission}
use Rattle.acq_history.specs.History.{next_reference}
use Rattle.acq_history.specs.PartyHistory.{Party, own, history_of, book_after, outputs_alone}
use Rattle.acq_history.specs.PartyHistory.{outputs_at}
use Rattle.acq_history.specs.Reconciliations.{reconciliations_of, reconciliations}
use Rattle.acq_examples.specs.Messages.{merchant_a, merchant_b, terminal}

-- ---- days and moments

-- 2024-05-01
abbrev pub may_1 : ℕ
may_1 = 8887

-- 2024-05-02
abbrev pub may_2 : ℕ
may_2 = 8888

-- 2099-12-31
abbrev pub last_day : ℕ
last_day = 36524

-- 09:30 of 2024-05-01
abbrev pub morning : ℕ
morning = 1714555800

-- 09:30 of 2024-05-02
abbrev pub next_morning : ℕ
next_morning = 1714642200

-- ---- events

-- the ranges of most rows
abbrev pub ranges : List Event
ranges =
    AddRange (record { low = 40000000; high = 49999999; issuer = codes "12345"; hold_days = 7 })
    ∷ AddRange (record { low = 50000000; high = 59999999; issuer = codes "67890"; hold_days = 1 })
    ∷ []

-- the ranges, merchants and terminals of most rows
abbrev pub setup : List Event
setup =
    ranges ++ Enrol merchant_a (codes "978") 1 ∷ AddTerminal merchant_a terminal
    ∷ Enrol merchant_b (codes "978") 1 ∷ AddTerminal merchant_b terminal ∷ []

-- a frame comes
abbrev pub sent : List ℕ → Event
sent text = Frame morning text

-- the issuer approves the merchant's request that has this reference
abbrev pub approves : String → List ℕ → ℕ → Event
approves id merchant reference = Answer morning merchant reference (Approved (codes id))

-- it declines
abbrev pub declines : String → List ℕ → ℕ → Event
declines code merchant reference = Answer morning merchant reference (Declined (codes code))

-- it gives no answer
abbrev pub says_nothing : List ℕ → ℕ → Event
says_nothing merchant reference = Answer morning merchant reference NoAnswer

-- the business day ends
abbrev pub cutover : Event
cutover = Cutover morning

-- ---- outputs

-- the issuer is asked about a sale
abbrev pub asked : List ℕ → ℕ → ℕ → Output
asked merchant reference amount =
    Ask (record {
      merchant = merchant;
      reference = reference;
      service = Financial;
      leg = Debit;
      card = codes "4111111111111111";
      amount = amount;
      issuer = codes "12345";
    })

-- the issuer is asked about a return
abbrev pub asked_to_credit : List ℕ → ℕ → ℕ → Output
asked_to_credit merchant reference amount =
    Ask (record {
      merchant = merchant;
      reference = reference;
      service = Financial;
      leg = Credit;
      card = codes "4111111111111111";
      amount = amount;
      issuer = codes "12345";
    })

-- the issuer is asked about an authorization
abbrev pub asked_to_hold : List ℕ → ℕ → ℕ → Output
asked_to_hold merchant reference amount =
    Ask (record {
      merchant = merchant;
      reference = reference;
      service = Authorization;
      leg = Debit;
      card = codes "5500005555555559";
      amount = amount;
      issuer = codes "67890";
    })

-- a merchant's terminal gets a reply
abbrev pub replied : List ℕ → List ℕ → Output
replied merchant text = Reply (Some merchant) text

-- ---- postings, each with its number of the day

-- a posting with a card, from the terminal of most rows
abbrev pub posting_with : String → ℕ → List ℕ → ℕ → Leg → ℕ → ℕ → String → ℕ × Posting
posting_with card number merchant day leg amount reference trace = (
  number,
  record {
    merchant = merchant;
    day = day;
    leg = leg;
    amount = amount;
    reference = reference;
    card = codes card;
    terminal = terminal;
    trace = codes trace;
  },
)

-- with the card of most sales and returns
abbrev pub sale_posting : ℕ → List ℕ → ℕ → Leg → ℕ → ℕ → String → ℕ × Posting
sale_posting = posting_with "4111111111111111"

-- with the card of most holds
abbrev pub hold_posting : ℕ → List ℕ → ℕ → Leg → ℕ → ℕ → String → ℕ × Posting
hold_posting = posting_with "5500005555555559"

-- ---- what a row says. What is expected stands on the left, where `refl` takes its term from.

-- a book whose days admit so many messages of a merchant, and which begins with a day
abbrev pub book_opening : ℕ → ℕ → Opening
book_opening limit first_day = record { limit = limit; first_day = first_day }

-- In a book that begins so, a party gets these outputs of these events: by the tables, and by its
-- own history.
pub record GivesParty (opening : Opening) (party : Party) (es : List Event)
    (expected : List Output) : Type 0 where
  pub by_tables : expected ≡ outputs_at party es (outputs (new_tables opening) es)
  pub by_history : expected ≡ outputs_alone opening party [] (own party es)

-- a merchant, after the setup
abbrev pub Gives : ℕ → List ℕ → List Event → List Output → Type 0
Gives limit m es expected =
    GivesParty (book_opening limit may_1) (Some m) (setup ++ es) (Done ∷ Done ∷ expected)

-- nobody, after the setup
abbrev pub GivesNobody : ℕ → List Event → List Output → Type 0
GivesNobody limit es expected = GivesParty (book_opening limit may_1) None (setup ++ es) expected

-- After the setup and these events, a merchant has these postings: by the tables, and by its own
-- history.
pub record Posts (limit : ℕ) (m : List ℕ) (es : List Event)
    (rows : List (ℕ × Posting)) : Type 0 where
  pub by_tables :
      rows ≡ postings_of m (book_after (book_opening limit may_1) (setup ++ es)).postings
  pub by_history :
      rows ≡ postings (history_of (book_opening limit may_1) (Some m) (setup ++ es))

-- ---- what a row says of the rows that are recorded

-- the tables after the setup and these events
abbrev pub tables_of : ℕ → List Event → Tables
tables_of limit es = book_after (book_opening limit may_1) (setup ++ es)

-- a merchant's history of them
abbrev pub history_alone : ℕ → List ℕ → List Event → List Entry
history_alone limit m es = history_of (book_opening limit may_1) (Some m) (setup ++ es)

-- the key of a request from the terminal of most rows
abbrev pub key_from : List ℕ → Service → String → String → RequestKey
key_from merchant service trace transmission =
    record {
      merchant = merchant;
      terminal = terminal;
      service = service;
      trace = codes trace;
      transmission = codes transmission;
    }

-- what a history says of the requests with the keys of these rows
abbrev pub recorded_by : List Entry → List Request → List (Option Prior)
recorded_by h rows = map (λ row. option_map prior (recorded row.key h)) rows

-- After the setup and these events, these are a merchant's requests, with all their columns; and
-- its own history says of each what its row says.
pub record Records (limit : ℕ) (m : List ℕ) (es : List Event)
    (rows : List Request) : Type 0 where
  pub by_tables : rows ≡ requests_of m (tables_of limit es).requests
  pub by_history :
      map (λ row. Some (prior_of row)) rows ≡ recorded_by (history_alone limit m es) rows

-- After them, these are a merchant's reconciliations, with their numbers: by the tables, and by its
-- own history.
pub record Reconciles (limit : ℕ) (m : List ℕ) (es : List Event)
    (rows : List (ℕ × Reconciliation)) : Type 0 where
  pub by_tables :
      rows ≡ reconciliations_of m (tables_of limit es).reconciliations
  pub by_history : rows ≡ reconciliations (history_alone limit m es)

-- the references of a history's admitted requests, the first first
abbrev pub references : List Entry → List ℕ
references [] = []
references (e ∷ h) =
    if is_admission e h then references h ++ next_reference h ∷ [] else references h

-- the reference and the last second of a hold that is open at a moment
abbrev pub open_end : ℕ → Option Prior → List (Option ℕ × Option ℕ)
open_end moment None = []
open_end moment (Some p) =
    if is_open_at moment p.hold_end then (p.reference, p.hold_end) ∷ [] else []

-- those of all that are open then
abbrev pub open_ends : ℕ → List (Option Prior) → List (Option ℕ × Option ℕ)
open_ends moment [] = []
open_ends moment (p ∷ ps) = open_end moment p ++ open_ends moment ps

-- After them, these are a merchant's holds that are open at a moment: their references and last
-- seconds, by the tables, and by its own history.
pub record OpenHolds (limit : ℕ) (m : List ℕ) (es : List Event) (moment : ℕ)
    (holds : List (Option ℕ × Option ℕ)) : Type 0 where
  pub by_tables :
      holds ≡ open_ends moment
      (map (λ row. Some (prior_of row)) (requests_of m (tables_of limit es).requests))
  pub by_history :
      holds ≡ open_ends moment
      (map (λ n. option_map prior (referred n (history_alone limit m es)))
      (references (history_alone limit m es)))

-- After them, these are the tables.
pub record Leaves (limit : ℕ) (es : List Event) (t : Tables) : Type 0 where
  pub by_tables : t ≡ tables_of limit es

-- ---- what belongs to all

-- the outputs of a history's entries, the oldest first
abbrev pub all_outputs : List Entry → List Output
all_outputs [] = []
all_outputs (e ∷ h) = all_outputs h ++ output_of (merchant_named e.arrival) e.outcome ∷ []

-- Of these events, which belong to all, these outputs go out from a first day on, and then it is
-- such a day: by the tables, and by the history.
pub record GivesAllFrom (first : ℕ) (es : List Event) (expected : List Output)
    (day : ℕ) : Type 0 where
  pub by_tables : expected ≡ outputs (new_tables (book_opening 999999 first)) es
  pub by_history : expected ≡ all_outputs (history_of (book_opening 999999 first) None es)
  pub day_by_tables : day ≡ (book_after (book_opening 999999 first) es).day
  pub day_by_history : day ≡ day_after first (history_of (book_opening 999999 first) None es)

-- the same after the ranges of most rows
abbrev pub GivesAll : List Event → List Output → Type 0
GivesAll es expected = GivesAllFrom may_1 (ranges ++ es) (Done ∷ Done ∷ expected) may_1
