-- An issuer's code is told as it was given, and so is its authorization id.
use Rattle.std.specs.Prelude.{◌≡◌, ℕ, not, ◌&&◌, List, Option, Some, None, is_none, option_and_then}
use Rattle.std.specs.Prelude.{if◌then◌else◌, codes}
use Rattle.acq_message.specs.declared.verdict.Verdict.{Verdict}
use Rattle.acq_message.specs.declared.verdict.Verdict.TheVariants as verdict
use Rattle.acq_core.specs.declared.event.Event.{Event}
use Rattle.acq_core.specs.declared.arrival.Arrival.TheVariants.{Answered}
use Rattle.acq_core.specs.Outcome.{outcome}
use Rattle.acq_core.specs.Tables.{Opening}
use Rattle.acq_history.specs.History.{Found, referred, answer_to, is_reversed}
use Rattle.acq_history.specs.PartyHistory.{known_by, history_of}
use Rattle.acq_history.specs.Told.{told_now, id_now}

-- what an issuer says, in the two characters of element 39; 91 where it said nothing
abbrev pub code_said : Verdict → List ℕ
code_said (verdict.Approved id) = codes "00"
code_said (verdict.Declined code) = code
code_said verdict.NoAnswer = codes "91"

-- what is told of a request at an answer: the issuer's code, if it was neither answered nor
-- reversed before
abbrev pub told_of : Verdict → Found → Option (List ℕ)
told_of v f =
    if is_none (answer_to f) && not (is_reversed f) then Some (code_said v) else None

-- An answer is told to the terminal whose request waits for it, with the issuer's code, and
-- nothing is told of any other answer.
abbrev pub TellsIssuersCodes : List ℕ → Type 0
TellsIssuersCodes m =
    (opening : Opening) (es : List Event) (moment : ℕ) (merchant : List ℕ) (reference : ℕ)
    (v : Verdict) →
    let h = history_of opening (Some m) es in
    let a = Answered moment merchant reference v in
    told_now (outcome (known_by opening h a) a)
    ≡ option_and_then (told_of v) (referred reference h)

-- ---- the authorization id

-- the id that an issuer gives with an approval, in element 38
abbrev pub id_said : Verdict → Option (List ℕ)
id_said (verdict.Approved id) = Some id
id_said (verdict.Declined code) = None
id_said verdict.NoAnswer = None

-- what is told of it at an answer
abbrev pub id_told : Verdict → Found → Option (List ℕ)
id_told v f = if is_none (answer_to f) && not (is_reversed f) then id_said v else None

-- The reply to an approval has the issuer's own authorization id, and that to any other answer has
-- none.
abbrev pub TellsIssuersIds : List ℕ → Type 0
TellsIssuersIds m =
    (opening : Opening) (es : List Event) (moment : ℕ) (merchant : List ℕ) (reference : ℕ)
    (v : Verdict) →
    let h = history_of opening (Some m) es in
    let a = Answered moment merchant reference v in
    id_now (outcome (known_by opening h a) a) ≡ option_and_then (id_told v) (referred reference h)
