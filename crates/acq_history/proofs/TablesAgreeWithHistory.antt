-- Tables and a history that say the same of a merchant, and of what all share.
use Rattle.std.proofs.Common.{◌≡◌, ℕ, ◌+◌, List, [], ◌∷◌, ◌++◌, Option, Some, None, true, false}
use Rattle.std.proofs.Common.{cond, refl, sym, ap, ◌∙◌}
use Rattle.std.specs.Prelude.{find, option_map, ◌&&◌, ◌||◌, ◌==◌}
use Rattle.std.specs.Option.{option_or}
use Rattle.std.specs.List.{list_any}
use Rattle.std.specs.Str.{bytes_eq}
use Rattle.card_no.specs.declared.range.Range.{Range}
use Rattle.card_no.specs.Ranges.{range_of_prefix, overlapped_by, between}
use Rattle.day_totals.specs.declared.leg.Leg.{Leg}
use Rattle.std.proofs.lemmas.Bool.{and_parts}
use Rattle.std.proofs.Math.Bool.{and-false}
use Rattle.acq_core.specs.declared.merchant.Merchant.{Merchant}
use Rattle.acq_core.specs.declared.terminal.Terminal.{Terminal}
use Rattle.acq_core.specs.declared.posting.Posting.{Posting}
use Rattle.acq_message.specs.declared.verdict.Verdict.{Verdict}
use Rattle.acq_message.specs.declared.verdict.Verdict.TheVariants as verdict
use Rattle.acq_message.specs.Elements.{or_empty, text_at}
use Rattle.acq_core.specs.declared.arrival.Arrival.{Arrival}
use Rattle.acq_message.specs.declared.request_message.RequestMessage.{RequestMessage}
use Rattle.acq_core.specs.Arrivals.{merchant_named, is_shared}
use Rattle.acq_core.specs.declared.arrival.Arrival.TheVariants.{CutOver, RangeAdded, RangeDropped}
use Rattle.acq_core.specs.Known.{Prior, wanted_by, known_for}
use Rattle.acq_core.specs.Outcome.{Outcome}
use Rattle.acq_core.specs.Changes.{answer_posting, approval_posting, reversal_posting}
use Rattle.acq_core.specs.Changes.{reversing_posting, posted_leg}
use Rattle.acq_core.specs.Tables.{Opening, Tables, postings_of, facts_in, known_in, totals_on}
use Rattle.acq_core.specs.Tables.{with_next_posting}
use Rattle.acq_core.proofs.Counts.{or_none}
use Rattle.acq_history.specs.Entries.{Entry, is_cutover, is_performed, enrolment_in, terminal_in}
use Rattle.acq_history.specs.History.{day_after, ranges_after, ranges_with, enrolled, has_terminal}
use Rattle.acq_history.specs.History.{is_text, postings, facts_of}
use Rattle.acq_history.specs.PartyHistory.{names, known_by}
use Rattle.acq_soundness.proofs.Lookups.{filter-push_in, filter-push_out, count-filter}
use Rattle.acq_soundness.proofs.Keys.{bytes_eq_is, bytes_eq_itself}
use Rattle.acq_history.proofs.RowsAgreeWithHistory.{Rows, recorded_in_is, referred_in_is}
use Rattle.acq_history.proofs.RowsAgreeWithHistory.{admitted_in_is}

-- what isn't a request or a posting
pub record Common (opening : Opening) (m : List ℕ) (bound today : ℕ) (merchants : List Merchant)
    (terminals : List Terminal) (held : List Range) (h : List Entry) : Type 0 where
  pub bounded : bound ≡ opening.limit
  pub day : today ≡ day_after opening.first_day h
  pub ranges : held ≡ ranges_after h
  pub merchant : find (λ row. bytes_eq row.id m) merchants ≡ enrolled h
  pub terminal : (id : List ℕ) →
      list_any (λ row. bytes_eq row.merchant m && bytes_eq row.id id) terminals ≡ has_terminal h id

-- the tables say of a merchant what its history says
pub record Agrees (opening : Opening) (m : List ℕ) (t : Tables) (h : List Entry) : Type 0 where
  pub common : Common opening m t.limit t.day t.merchants t.terminals t.ranges h
  pub rows : Rows m t.requests h
  pub posted : postings_of m t.postings ≡ postings h

-- ---- what is known

-- so look-ups in both know the same
pub facts_in_is : {opening : Opening} {m : List ℕ} {t : Tables} {h : List Entry} →
    Agrees opening m t h → facts_in t m ≡ facts_of opening h
facts_in_is {opening} {m} {t} {h} a =
    λ i. record {
      today = a.common.day i;
      limit = a.common.bounded i;
      merchant = a.common.merchant i;
      has_terminal = λ id. a.common.terminal id i;
      recorded = λ key. recorded_in_is m t.requests h a.rows key i;
      referred = λ n. referred_in_is m t.requests h a.rows n i;
      admitted = admitted_in_is m t.requests h a.rows i;
      used = λ day. a.rows.used day i;
      totals = λ day. totals_on (a.posted i) day;
      range = λ prefix. range_of_prefix (a.common.ranges i) prefix;
      overlapped = λ low high. overlapped_by (between low high) (a.common.ranges i);
    }

-- for an event of the merchant's
pub known_in_mine : {opening : Opening} {m : List ℕ} {t : Tables} {h : List Entry} →
    Agrees opening m t h → (a : Arrival) →
    merchant_named a ≡ Some m → known_in t a ≡ known_by opening h a
known_in_mine {t = t} g a named =
    ap (λ o. known_for (wanted_by t.day a) (facts_in t (or_empty o))) named
    ∙ (λ i. known_for (wanted_by (g.common.day i) a) (facts_in_is g i))

-- for a shared event
pub known_in_shared : {opening : Opening} {m : List ℕ} {t : Tables} {h : List Entry} →
    Agrees opening m t h → (a : Arrival) → is_shared a ≡ true → known_in t a ≡ known_by opening h a
known_in_shared g CutOver shared =
    λ i. known_for (wanted_by (g.common.day i) CutOver) (facts_in_is g i)
known_in_shared g (RangeAdded range) shared =
    λ i. known_for (wanted_by (g.common.day i) (RangeAdded range)) (facts_in_is g i)
known_in_shared g (RangeDropped low high) shared =
    λ i. known_for (wanted_by (g.common.day i) (RangeDropped low high))
    (facts_in_is g i)
known_in_shared g other shared = absurd (cc)

-- a party that is named so is that one
pub names_is : (o : Option (List ℕ)) (m : List ℕ) → names o m ≡ true → o ≡ Some m
names_is None m e = absurd (cc)
names_is (Some named) m e = ap (λ x. Some x) (bytes_eq_is named m e)

-- ---- entries that change nothing of what isn't a request or a posting

pub common_still : {opening : Opening} {m : List ℕ} {bound today : ℕ} {merchants : List Merchant}
    {terminals : List Terminal} {held : List Range} {h : List Entry} (a : Arrival) (o : Outcome) →
    is_performed o ≡ false →
    Common opening m bound today merchants terminals held h →
    Common opening m bound today merchants terminals held
    (record {
      arrival = a;
      day = day_after opening.first_day h;
      ranges = ranges_after h;
      outcome = o;
    } ∷ h)
common_still {opening} {h = h} a o performed c =
    record {
      bounded = c.bounded;
      day =
          c.day ∙ sym (λ i.
          cond ((ap (λ b. is_cutover a && b) performed ∙ and-false (is_cutover a)) i)
          (day_after opening.first_day h + 1) (day_after opening.first_day h));
      ranges = c.ranges
          ∙ sym (λ i. cond (performed i) (ranges_with a (ranges_after h)) (ranges_after h));
      merchant =
          c.merchant ∙ sym
          (ap (λ b. option_or (enrolled h) (cond b (enrolment_in a) None)) performed
          ∙ or_none (enrolled h));
      terminal = λ id. c.terminal id
          ∙ sym (λ i. (performed i && is_text id (terminal_in a)) || has_terminal h id);
    }

-- ---- postings

-- a posting of a merchant, if there is one
abbrev pub IsOf : List ℕ → Option Posting → Type 0
IsOf n None = Unit {0}
IsOf n (Some p) = p.merchant ≡ n

-- a posting of the merchant's is one more of its own
pub postings_of_mine : (m : List ℕ) (rows : List (ℕ × Posting)) (o : Option Posting) → IsOf m o →
    postings_of m (with_next_posting rows o) ≡ with_next_posting (postings_of m rows) o
postings_of_mine m rows None is = refl
postings_of_mine m rows (Some p) is =
    filter-push_in (λ row. bytes_eq row.1.merchant m) rows _
    (ap (λ n. bytes_eq n m) is ∙ bytes_eq_itself m)
    ∙ ap (λ n. postings_of m rows ++ (n + 1, p) ∷ [])
    (sym (count-filter (λ row. bytes_eq row.1.merchant m)
    (λ row. bytes_eq row.1.merchant p.merchant && (row.1.day == p.day))
    (λ row on. ap (λ n. bytes_eq row.1.merchant n) (sym is) ∙ (and_parts _ _ on).0) rows))

-- one of another merchant's is none
pub postings_of_other : (m n : List ℕ) (rows : List (ℕ × Posting)) (o : Option Posting) → IsOf n o →
    bytes_eq n m ≡ false → postings_of m (with_next_posting rows o) ≡ postings_of m rows
postings_of_other m n rows None is other = refl
postings_of_other m n rows (Some p) is other =
    filter-push_out (λ row. bytes_eq row.1.merchant m) rows _ (ap (λ k. bytes_eq k m) is ∙ other)

approval_posting_is_of : (p : Prior) (leg : Option Leg) →
    IsOf p.key.merchant (approval_posting p leg)
approval_posting_is_of p None = tt
approval_posting_is_of p (Some leg) = refl

-- what an answer posts is of the answered request's merchant
pub answer_posting_is_of : (v : Verdict) (p : Prior) → IsOf p.key.merchant (answer_posting v p)
answer_posting_is_of (verdict.Approved id) p = approval_posting_is_of p p.leg
answer_posting_is_of other p = tt

-- what a reversal posts is of its own
pub reversal_posting_is_of : (today : ℕ) (r : RequestMessage) (p : Prior) →
    IsOf (text_at r.message 42) (reversal_posting today r p)
reversal_posting_is_of today r p = step (posted_leg p.reply_state p.leg)
  where
    step : (o : Option Leg) →
        IsOf (text_at r.message 42) (option_map (reversing_posting today r p) o)
    step None = tt
    step (Some leg) = refl
