-- What a host takes within a group of its book.
use Rattle.std.specs.Prelude.{◌≡◌, ◌≤◌, ℕ, Bool, true, false, List, [], ◌∷◌, ◌++◌}
use Rattle.acq_message.specs.declared.verdict.Verdict.{Verdict}
use Rattle.acq_core.specs.declared.event.Event.TheVariants.{Answer}
use Rattle.acq_core.specs.declared.query.Query.{Query}
use Rattle.acq_core.specs.Arrivals.{arrival_of}
use Rattle.acq_core.specs.Tables.{Tables, step_output, step_tables}
use Rattle.acq_book.specs.declared.book.Book.{Ghosts}
use Rattle.acq_front.specs.Talk.{Saying}
use Rattle.acq_front.specs.Turns.{ReplyFits}
use Rattle.acq_rounds.specs.Acts.{Taken, Told, Took, Turn, told_of, turns_of}
use Rattle.acq_rounds.specs.Said.{told_at, told_by, told_by_all}
use Rattle.acq_rounds.specs.declared.said.Said.{Said}

-- an issuer's answer to this was taken, and the host said this
pub record TookAnswer (may_give : ℕ → Type 0) (may_say : Saying) (old new : Tables) (query : Query)
    (said : Said) : Type 0 where
  pub moment : ℕ
  pub given : may_give moment
  pub verdict : Verdict
  pub may : may_say query verdict
  pub told : told_by said
      ≡ told_at (step_output old
      (arrival_of (Answer moment query.merchant query.reference verdict)))
  pub fits : ReplyFits
      (step_output old (arrival_of (Answer moment query.merchant query.reference verdict)))
  pub tables : new
      ≡ step_tables old (arrival_of (Answer moment query.merchant query.reference verdict))

module _ {S : Type 0} (book : Ghosts S) where
  -- A group stays open, or is to be given up where a call in it failed; a stop leaves what it might
  -- before.
  pub record StaysWithin (old new : S) (succeeded : Bool) : Type 0 where
    pub was_honest : book.is_honest new → book.is_honest old
    pub stays : (began : Tables) (n : ℕ) → succeeded ≡ true → book.is_honest new
        → book.is_within old began n → book.is_within new began n
    pub breaks : (began : Tables) (n : ℕ) → succeeded ≡ false → book.is_honest new
        → book.is_within old began n → book.can_return new began n
    pub leaves : (began : Tables) (n : ℕ) → book.is_honest new → book.is_within old began n
        → (t : Tables) → book.may_leave new t → book.may_leave old t
    pub books : (began : Tables) (n : ℕ) → book.is_honest new → book.is_within old began n
        → book.leaves_books old → book.leaves_books new
    pub rise : book.failures old ≤ book.failures new
    pub counts : book.store_faults old ≤ book.store_faults new

  -- this is so within a group of a store that is honest
  abbrev pub IfWithin : S → S → Type 0 → Type 0
  IfWithin old new p =
      (began : Tables) (n : ℕ) → book.is_honest new → book.is_within old began n → p

  module _ (may_give : ℕ → Type 0) (may_say : Saying) where
    -- these turns were taken, and this was told
    pub record TookWithin (old new : S) (turns : List Turn) (told : List Told) : Type 0 where
      pub taken : List Taken
      pub brought : turns_of taken ≡ turns
      pub replied : told_of taken ≡ told
      pub took : Took may_give may_say (book.tables old) (book.tables new) taken

    -- one more was, to which this was said
    pub record TookNext (old new : S) (turn : Turn) (said now : List Said) : Type 0 where
      pub last : Said
      pub behind : now ≡ said ++ last ∷ []
      pub took : TookWithin old new (turn ∷ []) (told_by_all (last ∷ []))
