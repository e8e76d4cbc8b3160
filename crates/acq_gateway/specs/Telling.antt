-- What a gateway is told as its host looks into the book (own profile): words, and behind them the
-- lines of the rows behind those that it was told.
use Rattle.std.specs.Prelude.{◌≡◌, ◌⊎◌, ◌++◌, ◌≤◌, ℕ, List, [], ◌∷◌, drop, length}
use Rattle.std.specs.Prelude.{Option, Some, None, codes}
use Rattle.std.specs.Fmt.{decimal}
use Rattle.std.specs.List.{concat}
use Rattle.day_totals.specs.Digits.{zero_padded}
use Rattle.acq_message.specs.declared.verdict.Verdict.{Verdict}
use Rattle.acq_core.specs.Tables.{Tables}
use Rattle.acq_reports.specs.Marks.{csv_line}
use Rattle.acq_gateway_lines.specs.declared.answer_outcome.AnswerOutcome.{AnswerOutcome}
use Rattle.acq_gateway_lines.specs.declared.answer_outcome.AnswerOutcome.TheVariants as outcome
use Rattle.acq_gateway_lines.specs.declared.slice.GatewaySlice.{GatewaySlice}
use Rattle.acq_gateway_lines.specs.declared.waiting_message.WaitingMessage.{WaitingMessage}
use Rattle.acq_gateway_lines.specs.Outcomes.{outcome_at}
use Rattle.acq_gateway_lines.specs.Slices.{IsSliceOf}
use Rattle.acq_gateway.specs.declared.gateway.Gateway.{Gateway}

-- what is still to be written
abbrev pub unsent_of : Gateway → List ℕ
unsent_of gateway = drop gateway.gone gateway.output.items

-- so many bytes of what it holds were written, and no more than it holds
abbrev pub IsHeld : Gateway → Type 0
IsHeld gateway = gateway.gone ≤ length gateway.output.items

-- it was told no row, asked for none, and nothing is to be written
pub record IsNew (gateway : Gateway) : Type 0 where
  pub held : IsHeld gateway
  pub unsent : unsent_of gateway ≡ []
  pub rows : gateway.rows ≡ None
  pub from : gateway.from ≡ None

-- ---- words

-- the number of a refusal
abbrev pub refused_words : List ℕ → List (List ℕ)
refused_words number = codes "refused" ∷ number ∷ []

abbrev pub outcome_words : AnswerOutcome → List (List ℕ)
outcome_words outcome.Done = codes "done" ∷ []
outcome_words outcome.Late = refused_words (codes "33")
outcome_words outcome.UnknownReference = refused_words (codes "34")
outcome_words outcome.AlreadyAnswered = refused_words (codes "35")
outcome_words outcome.NoSuchMerchant = refused_words (codes "37")

-- what became of an answer to a merchant's request
abbrev pub outcome_line : (merchant : List ℕ) (reference : ℕ) → AnswerOutcome → List ℕ
outcome_line merchant reference outcome =
    csv_line (outcome_words outcome ++ merchant ∷ zero_padded 12 reference ∷ [])

-- it knows of rows that the book lacks, which has so many
abbrev pub missing_line : ℕ → List ℕ
missing_line rows = codes "acqd: 65 RowsMissing " ++ decimal rows ++ codes "\n"

-- a line of its own is out of its form
abbrev pub bad_line : ℕ → List ℕ
bad_line number = codes "acqd: 62 BadLine " ++ decimal number ++ codes "\n"

abbrev pub bad_lines : List ℕ → List ℕ
bad_lines [] = []
bad_lines (number ∷ numbers) = bad_line number ++ bad_lines numbers

-- nothing is told, or asked for
pub record Stays (old new : Gateway) : Type 0 where
  pub output : new.output ≡ old.output
  pub rows : new.rows ≡ old.rows
  pub from : new.from ≡ old.from
  pub gone : new.gone ≡ old.gone

-- Lines of its own are taken: those that are none are told. It goes on behind the rows that it was
-- told, or has asked anew.
pub record Takes (old new : Gateway) : Type 0 where
  pub bad : List ℕ
  pub output : new.output.items ≡ old.output.items ++ bad_lines bad
  pub gone : new.gone ≡ old.gone
  pub asks : ((new.rows ≡ old.rows) × (new.from ≡ old.from)) ⊎ (new.rows ≡ None)

-- that is added to what is to be written, or nothing is
abbrev pub MayMiss : Gateway → Gateway → Type 0
MayMiss old new =
    (new.gone ≡ old.gone)
    × ((new.output ≡ old.output)
    ⊎ ((rows : ℕ) × (new.output.items ≡ old.output.items ++ missing_line rows)))

-- it goes on behind the rows that it was told, or begins where it asked for
abbrev pub Begins : Gateway → Option ℕ → Type 0
Begins old rows =
    (rows ≡ old.rows) ⊎ ((asked : ℕ) × (old.from ≡ Some asked) × (rows ≡ Some asked))

module _ (t : Tables) (moment : ℕ) where
  abbrev pub IsOutcome : List ℕ → Type 0
  IsOutcome text =
      (merchant : List ℕ) × (reference : ℕ) × (v : Verdict)
      × (text ≡ outcome_line merchant reference (outcome_at t merchant reference v))

  abbrev pub IsMissing : List ℕ → Type 0
  IsMissing text = (rows : ℕ) × (text ≡ missing_line rows)

  -- the line of one row again, since it ended
  abbrev pub IsOfRow : List ℕ → Type 0
  IsOfRow text =
      (behind : ℕ) × (slice : GatewaySlice) × IsSliceOf t moment [] behind 1 slice
      × (text ≡ slice.text.items)

  abbrev pub IsWord : List ℕ → Type 0
  IsWord text = IsOutcome text ⊎ IsMissing text ⊎ IsOfRow text

  abbrev pub AreWords : List (List ℕ) → Type 0
  AreWords [] = Unit
  AreWords (word ∷ words) = IsWord word × AreWords words

  -- words are added to what is to be written, and nothing else comes of it
  pub record Says (old new : Gateway) : Type 0 where
    pub words : List (List ℕ)
    pub are : AreWords words
    pub output : new.output.items ≡ old.output.items ++ concat words
    pub rows : new.rows ≡ old.rows
    pub from : new.from ≡ old.from
    pub gone : new.gone ≡ old.gone

  -- ---- rows

  -- The lines of rows behind those that it was told, as they stand, and how many it is told then;
  -- or none.
  abbrev pub TellsRows : (old new : Option ℕ) → List ℕ → Type 0
  TellsRows old new text =
      ((text ≡ []) × (new ≡ old))
      ⊎ ((behind : ℕ) × (messages : List WaitingMessage) × (slice : GatewaySlice)
      × (old ≡ Some behind) × IsSliceOf t moment messages behind 512 slice
      × (text ≡ slice.text.items) × (new ≡ Some slice.rows))

  -- such lines are added to what is to be written
  abbrev pub AddsRows : Gateway → Gateway → Type 0
  AddsRows old new =
      (text : List ℕ) × (new.output.items ≡ old.output.items ++ text)
      × TellsRows old.rows new.rows text × (new.gone ≡ old.gone) × (new.from ≡ old.from)

  -- what a look adds to what is to be written
  pub record Tells (old new : Gateway) : Type 0 where
    pub words : List (List ℕ)
    pub are : AreWords words
    pub told : Option ℕ
    pub begins : Begins old told
    pub lines : List ℕ
    pub rows : TellsRows told new.rows lines
    pub output : new.output.items ≡ old.output.items ++ (concat words ++ lines)
    pub gone : new.gone ≡ old.gone
    pub from : new.from ≡ None
