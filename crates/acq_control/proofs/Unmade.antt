-- What is still to be made of an answer is so after whatever events.
use Rattle.std.proofs.Common.{◌≡◌, ◌++◌, ◌+◌, ◌∙◌, ℕ, List, Option, Some, None, ap, length, refl}
use Rattle.std.proofs.Common.{[], ◌∷◌, subst, sym}
use Rattle.std.specs.Prelude.{filter, flat_map}
use Rattle.acq_core.specs.declared.event.Event.{Event}
use Rattle.acq_core.specs.declared.posting.Posting.{Posting}
use Rattle.acq_core.specs.Tables.{Tables, tables_after}
use Rattle.acq_book.specs.Lookups.{postings_at}
use Rattle.acq_clearing.specs.ClearingFile.{clearing_header, posting_line}
use Rattle.acq_clearing.specs.Slices.{file_from, is_behind}
use Rattle.acq_clearing.specs.declared.bookmark.Bookmark.{Bookmark}
use Rattle.acq_clearing.specs.declared.bookmark.Bookmark.TheVariants.{Beginning, Behind, End}
use Rattle.acq_closed_days.proofs.Closed.{given_again, same_postings}
use Rattle.acq_control.specs.Answers.{text_answer}
use Rattle.acq_control.specs.Exchanges.{FollowsLog, Passed}
use Rattle.acq_control.specs.Log.{Act, FollowsActs, behind_acts, events_in}
use Rattle.acq_control.proofs.Following.{behind-append}
use Rattle.acq_control.specs.Unmade.{IsCounted, MayBeUnmade, rest_of, unmade_at}
use Rattle.acq_inquiry.proofs.Later.{searched_later}
use Rattle.acq_statement.proofs.Gathered.{gathered_later}
use Rattle.acq_control.specs.declared.unmade_answer.UnmadeAnswer.{UnmadeAnswer}
use Rattle.acq_control.specs.declared.unmade_answer.UnmadeAnswer.TheVariants.{Clearing, Finding}
use Rattle.acq_control.specs.declared.unmade_answer.UnmadeAnswer.TheVariants.{Comparing}
use Rattle.acq_control.specs.declared.unmade_answer.UnmadeAnswer.TheVariants.{Stating}
use Rattle.acq_control.specs.declared.clearing_stage.ClearingStage.{ClearingStage}
use Rattle.acq_control.specs.declared.clearing_stage.ClearingStage.TheVariants.{Counting, Saying}

module _ (t u : Tables) (day : ℕ) (same : postings_at u day ≡ postings_at t day) where
  file_same : (from : Bookmark) → file_from u day from ≡ file_from t day from
  file_same Beginning =
      ap (λ (rows : List (ℕ × Posting)). clearing_header ++ flat_map posting_line rows) same
  file_same (Behind m n) =
      ap (λ (rows : List (ℕ × Posting)). flat_map posting_line (filter (is_behind m n) rows)) same
  file_same End = refl

  rest_same : (stage : ClearingStage) → rest_of u day stage ≡ rest_of t day stage
  rest_same (Counting from bytes) =
      ap (λ (rows : List (ℕ × Posting)).
      text_answer (clearing_header ++ flat_map posting_line rows)) same
  rest_same (Saying from) = file_same from

  counted_same : (stage : ClearingStage) → IsCounted t day stage → IsCounted u day stage
  counted_same (Counting from bytes) is =
      ap (λ (l : List ℕ). bytes + length l) (file_same from) ∙ is
      ∙ ap length (sym (file_same Beginning))
  counted_same (Saying from) is = tt

pub unmade_later : (t : Tables) (events : List Event) (o : Option UnmadeAnswer) →
    MayBeUnmade t o → MayBeUnmade (tables_after t events) o
unmade_later t events None may = tt
unmade_later t events (Some (Finding search)) may = searched_later t events search may
unmade_later t events (Some (Stating gathering)) may = gathered_later t events gathering may
unmade_later t events (Some (Comparing comparison)) may = tt
unmade_later t events (Some (Clearing c)) may = record {
  given = given_again t events c.day may.given;
  counted = counted_same t (tables_after t events) c.day
      (same_postings t events c.day may.given) c.stage may.counted;
}

pub unmade_same : (t : Tables) (events : List Event) (o : Option UnmadeAnswer) →
    MayBeUnmade t o → unmade_at (tables_after t events) o ≡ unmade_at t o
unmade_same t events None may = refl
unmade_same t events (Some (Finding search)) may = refl
unmade_same t events (Some (Stating gathering)) may = refl
unmade_same t events (Some (Comparing comparison)) may = refl
unmade_same t events (Some (Clearing c)) may =
    rest_same t (tables_after t events) c.day (same_postings t events c.day may.given) c.stage

-- a connection goes on to follow acts past one that has nothing for it
pub log_past : (k : ℕ) (t : Tables) (acts : List Act) (a : Act) (p : Passed) →
    (f : FollowsLog k t acts p) →
    FollowsActs k t (acts ++ a ∷ []) p.came p.went f.held
    (p.unsent ++ unmade_at (behind_acts t acts) p.unmade) p.taken →
    FollowsLog k t (acts ++ a ∷ []) p
log_past k t acts a p f follows =
    let now = behind_acts t acts in
    let events = events_in now a.deed in
    let behind : tables_after now events ≡ behind_acts t (acts ++ a ∷ []) =
    sym (behind-append t acts (a ∷ [])) in
    record {
      held = f.held;
      holds = f.holds;
      follows = subst (λ (x : Tables). FollowsActs k t (acts ++ a ∷ []) p.came p.went f.held
          (p.unsent ++ unmade_at x p.unmade) p.taken) behind
          (rw (unmade_same now events p.unmade f.may) follows);
      may = subst (λ (x : Tables). MayBeUnmade x p.unmade) behind
          (unmade_later now events p.unmade f.may);
    }
