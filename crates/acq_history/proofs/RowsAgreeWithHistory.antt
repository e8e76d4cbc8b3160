-- A merchant's rows of requests against what is recorded in its history, and how changes keep them
-- alike.
use Rattle.std.proofs.Common.{◌≡◌, ℕ, ◌+◌, List, [], ◌∷◌, ◌++◌, Option, Some, None, Bool, true}
use Rattle.std.proofs.Common.{false, cond, refl, sym, ap, ◌∙◌}
use Rattle.std.specs.Prelude.{map, find, option_map, ◌&&◌, ◌||◌, not, is_some, ◌==◌}
use Rattle.std.specs.Str.{bytes_eq}
use Rattle.std.proofs.lemmas.List.{append-nil}
use Rattle.acq_message.specs.declared.request_key.RequestKey.{RequestKey}
use Rattle.acq_core.specs.declared.request.Request.{Request}
use Rattle.acq_message.specs.Elements.{key_of, same_key}
use Rattle.acq_message.specs.declared.request_message.RequestMessage.{RequestMessage}
use Rattle.acq_core.specs.Known.{Prior}
use Rattle.acq_core.specs.Tables.{count, prior_of, requests_of, recorded_in, referred_in}
use Rattle.acq_core.specs.Tables.{admitted_in, used_in, with_changed}
use Rattle.acq_message.specs.Numbers.{is_number}
use Rattle.acq_core.proofs.Counts.{count-push}
use Rattle.acq_history.specs.Entries.{Entry, request_of, is_acceptance, is_past_merchant, is_answer}
use Rattle.acq_history.specs.History.{Found, newest, aged, recorded, referred, is_admission}
use Rattle.acq_history.specs.History.{admitted, enrolled, used, prior}
use Rattle.acq_history.specs.Isolation.{recording_first, all_recorded}
use Rattle.acq_soundness.proofs.Lookups.{map_map, find-view, count-view, map-push, filter-push_in}
use Rattle.acq_soundness.proofs.Lookups.{Each}
use Rattle.acq_history.proofs.RecordedInHistory.{find_recorded, find_referred, count_admitted}
use Rattle.acq_history.proofs.RecordedInHistory.{AdmitsOnlyEnrolled, IsFoundAgain, each_found_again}
use Rattle.acq_history.proofs.RequestsAfterNewEntry.{line, shown, shown_aged}
use Rattle.acq_soundness.proofs.RowsWithChanges.{changing, Edits, requests_of-changed}
use Rattle.acq_soundness.proofs.CountsOfRows.{used_in-changed}

-- a merchant's rows say what its history says
pub record Rows (m : List ℕ) (rows : List Request) (h : List Entry) : Type 0 where
  -- row by row, what is recorded
  pub lines : map line (requests_of m rows) ≡ map shown (all_recorded h)
  pub used : (day : ℕ) → used_in (requests_of m rows) day ≡ used h day
  pub genuine : AdmitsOnlyEnrolled h

-- ---- what look-ups and counts give

-- to find a row by what it shows is to find the request that it stands for
found_line : (q : Prior × Option ℕ → Bool) (rows : List Request) (fs : List Found) →
    map line rows ≡ map shown fs →
    option_map prior_of (find (λ row. q (line row)) rows) ≡ option_map prior
    (find (λ f. q (shown f)) fs)
found_line q rows fs same =
    sym (map_map (λ (x : Prior × Option ℕ). x.0) line (find (λ row. q (line row)) rows))
    ∙ (ap (option_map (λ (x : Prior × Option ℕ). x.0))
    (sym (find-view line q rows) ∙ (ap (find q) same ∙ find-view shown q fs))
    ∙ map_map (λ (x : Prior × Option ℕ). x.0) shown (find (λ f. q (shown f)) fs))

pub recorded_in_is : (m : List ℕ) (rows : List Request) (h : List Entry) → Rows m rows h →
    (key : RequestKey) → recorded_in (requests_of m rows) key ≡ option_map prior (recorded key h)
recorded_in_is m rows h r key =
    found_line (λ x. same_key x.0.key key) (requests_of m rows) (all_recorded h) r.lines
    ∙ ap (option_map prior) (find_recorded key h)

pub referred_in_is : (m : List ℕ) (rows : List Request) (h : List Entry) → Rows m rows h → (n : ℕ) →
    referred_in (requests_of m rows) n ≡ option_map prior (referred n h)
referred_in_is m rows h r n =
    found_line (λ x. is_number n x.1) (requests_of m rows) (all_recorded h) r.lines
    ∙ ap (option_map prior) (find_referred n h)

pub admitted_in_is : (m : List ℕ) (rows : List Request) (h : List Entry) → Rows m rows h →
    admitted_in (requests_of m rows) ≡ admitted h
admitted_in_is m rows h r =
    sym (count-view line (λ x. is_some x.1) (requests_of m rows))
    ∙ (ap (count (λ (x : Prior × Option ℕ). is_some x.1)) r.lines
    ∙ (count-view shown (λ x. is_some x.1) (all_recorded h) ∙ count_admitted h))

-- ---- a change of rows

-- what becomes of each row by an edit is what becomes of what it stands for
abbrev pub FollowsEntry : (Request → Request) → Entry → List Entry → Type 0
FollowsEntry u e h = (a : Request) (f : Found) → IsFoundAgain h f → line a ≡ shown f →
    line (u a) ≡ shown (aged e f)

head_is : {X : Type 0} (x y : X) (xs ys : List X) → x ∷ xs ≡ y ∷ ys → (x ≡ y) × (xs ≡ ys)
head_is x y xs ys e = (cc, cc)

-- so edited rows show what the requests show one entry later
lines_edited : (u : Request → Request) (e : Entry) (h : List Entry) → FollowsEntry u e h →
    (rows : List Request) (fs : List Found) → Each (IsFoundAgain h) fs →
    map line rows ≡ map shown fs → map line (map u rows) ≡ map shown (map (aged e) fs)
lines_edited u e h follows [] [] each same = refl
lines_edited u e h follows (a ∷ rows) (f ∷ fs) each same =
    let both = head_is (line a) (shown f) (map line rows) (map shown fs) same in
    λ i. follows a f each.0 both.0 i ∷ lines_edited u e h follows rows fs each.1 both.1 i
lines_edited u e h follows [] (f ∷ fs) each same = absurd (cc)
lines_edited u e h follows (a ∷ rows) [] each same = absurd (cc)

-- rows after an edit, while what the newest entry records is left out
pub record RowsWithoutNewest (m : List ℕ) (rows : List Request) (e : Entry)
    (h : List Entry) : Type 0 where
  pub lines : map line (requests_of m rows) ≡ map shown (map (aged e) (all_recorded h))
  pub used : (day : ℕ) → used_in (requests_of m rows) day ≡ used h day
  pub genuine : AdmitsOnlyEnrolled h

-- rows in which one was edited
pub without_newest_edited : {m : List ℕ} {rows : List Request} {e : Entry} {h : List Entry}
    (key : RequestKey)
    (changed : Request → Request) → Edits changed → FollowsEntry (changing key changed) e h →
    Rows m rows h → RowsWithoutNewest m (with_changed key changed rows) e h
without_newest_edited {m} {rows} {e} {h} key changed edits follows r =
    record {
      lines =
          ap (map line) (requests_of-changed m key changed edits rows)
          ∙ lines_edited (changing key changed) e h follows (requests_of m rows) (all_recorded h)
          (each_found_again h r.genuine) r.lines;
      used =
          λ d. ap (λ rs. used_in rs d) (requests_of-changed m key changed edits rows)
          ∙ (used_in-changed key changed edits (requests_of m rows) d ∙ r.used d);
      genuine = r.genuine;
    }

older_same : (e : Entry) → ((f : Found) → shown (aged e f) ≡ shown f) → (fs : List Found) →
    map shown (map (aged e) fs) ≡ map shown fs
older_same e same [] = refl
older_same e same (f ∷ fs) = λ i. same f i ∷ older_same e same fs i

-- rows that stay as they are
pub without_newest_still : {m : List ℕ} {rows : List Request} {e : Entry} {h : List Entry} →
    is_acceptance e ≡ false →
    ((n : ℕ) → is_answer n e ≡ false) → Rows m rows h → RowsWithoutNewest m rows e h
without_newest_still {e = e} {h = h} accepted answers r =
    record {
      lines = r.lines ∙ sym (older_same e (shown_aged e accepted answers) (all_recorded h));
      used = r.used;
      genuine = r.genuine;
    }

-- nothing is recorded
pub rows_still : {m : List ℕ} {rows : List Request} {e : Entry} {h : List Entry} →
    is_acceptance e ≡ false →
    is_admission e h ≡ false → recording_first e h (request_of e.arrival) ≡ [] →
    RowsWithoutNewest m rows e h → Rows m rows (e ∷ h)
rows_still {e = e} {h = h} accepted admission none r =
    record {
      lines =
          r.lines ∙ sym
          (ap (λ fs. map shown fs)
          (ap (λ fs. map (aged e) (all_recorded h) ++ fs) none
          ∙ append-nil (map (aged e) (all_recorded h))));
      used = λ d. r.used d
          ∙ sym (λ i. cond ((admission i || accepted i) && (e.day == d)) (1 + used h d) (used h d));
      genuine = (λ a. absurd (let no : true ≡ false = sym a ∙ admission in cc), r.genuine);
    }

-- a request is recorded
pub record Joins (m : List ℕ) (row : Request) (e : Entry) (h : List Entry) : Type 0 where
  pub request : RequestMessage
  pub came : request_of e.arrival ≡ Some request
  pub new : recorded (key_of request.service request.message) h ≡ None
  pub past : is_past_merchant e.outcome ≡ true
  pub mine : bytes_eq row.key.merchant m ≡ true
  pub same : line row ≡ shown (newest request e h)
  pub counts : row.admitted ≡ (is_admission e h || is_acceptance e)
  pub day : row.day ≡ e.day
  pub enrolled : is_admission e h ≡ true → is_some (enrolled h) ≡ true

-- where it records one row more
pub rows_joined : {m : List ℕ} {rows : List Request} {row : Request} {e : Entry}
    {h : List Entry} → Joins m row e h →
    RowsWithoutNewest m rows e h → Rows m (rows ++ row ∷ []) (e ∷ h)
rows_joined {m} {rows} {row} {e} {h} j r =
    let mine = filter-push_in (λ a. bytes_eq a.key.merchant m) rows row j.mine in
    let first : recording_first e h (request_of e.arrival) ≡ newest j.request e h ∷ [] =
    ap (recording_first e h) j.came
    ∙ (λ i. cond (j.past i && not (is_some (j.new i))) (newest j.request e h ∷ []) []) in
    record {
      lines =
          ap (map line) mine
          ∙ (map-push line (requests_of m rows) (row ∷ [])
          ∙ ((λ i. r.lines i ++ j.same i ∷ [])
          ∙ (sym (map-push shown (map (aged e) (all_recorded h)) (newest j.request e h ∷ []))
          ∙ sym (ap (λ fs. map shown (map (aged e) (all_recorded h) ++ fs)) first))));
      used = λ d.
          ap (λ rs. used_in rs d) mine
          ∙ (count-push (λ a. a.admitted && (a.day == d)) (requests_of m rows) row
          ∙ (λ i. cond (j.counts i && (j.day i == d)) (1 + r.used d i) (r.used d i)));
      genuine = (j.enrolled, r.genuine);
    }
