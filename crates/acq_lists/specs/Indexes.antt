-- What the lists of a book in memory hold beside their rows.
use Rattle.std.specs.Prelude.{◌≡◌, ℕ, ◌+◌, ◌≤◌, ◌==◌, ◌&&◌, List}
use Rattle.std.specs.Str.{bytes_eq}
use Rattle.std.specs.Vec.{vec_len, vec_capacity}
use Rattle.std.specs.Map.{count_at}
use Rattle.indexmap.specs.IndexMap.{get, values, spare}
use Rattle.acq_core.specs.Tables.{count, requests_of, used_in, admitted_in}
use Rattle.acq_lists.specs.declared.merchant_day.MerchantDay.{MerchantDay}
use Rattle.acq_lists.specs.declared.merchant_reference.MerchantReference.{
  MerchantReference,
}
use Rattle.acq_lists.specs.declared.merchants.Merchants.TheInside as merchants
use Rattle.acq_lists.specs.declared.terminals.Terminals.TheInside as terminals
use Rattle.acq_lists.specs.declared.requests.Requests.TheInside as requests
use Rattle.acq_lists.specs.declared.postings.Postings.TheInside as postings
use Rattle.acq_lists.specs.declared.reconciliations.Reconciliations.TheInside
    as reconciliations
use Rattle.acq_book.specs.Keys.{merchant_eq}
use Rattle.acq_lists.specs.Keys.{day_eq, reference_eq, key_of_terminal}
use Rattle.acq_lists.specs.Keys.{IsKeyedBy, place, refers}
use Rattle.acq_book.specs.Order.{last_of}
use Rattle.acq_lists.specs.Sums.{sums_at, sums_in, reconciliations_in, number_in}

-- merchants stand under their names
pub record HasMerchants (s : merchants.Inside) : Type 0 where
  pub keyed : IsKeyedBy (λ row. row.id) s.rows.entries
  pub room : s.room ≤ spare s.rows

-- terminals stand under their names at merchants
pub record HasTerminals (s : terminals.Inside) : Type 0 where
  pub keyed : IsKeyedBy key_of_terminal s.rows.entries
  pub room : s.room ≤ spare s.rows

-- requests stand under their keys; places and counts are theirs
pub record HasRequests (s : requests.Inside) : Type 0 where
  pub keyed : IsKeyedBy (λ row. row.key) s.rows.entries
  pub places : (r : MerchantReference) →
      get reference_eq s.places r ≡ place (refers r) (values s.rows)
  pub used : (k : MerchantDay) →
      count_at (get day_eq s.used) k ≡ used_in (requests_of k.merchant (values s.rows)) k.day
  pub admitted : (m : List ℕ) →
      count_at (get merchant_eq s.admitted) m ≡ admitted_in (requests_of m (values s.rows))
  pub room_rows : s.room ≤ spare s.rows
  pub room_places : s.room ≤ spare s.places
  pub room_used : s.room ≤ spare s.used
  pub room_admitted : s.room ≤ spare s.admitted

-- the sums of each day are of the postings
pub record HasPostings (s : postings.Inside) : Type 0 where
  pub sums : (k : MerchantDay) → sums_at (get day_eq s.sums k) ≡ sums_in s.rows.items k
  pub room_rows : vec_len s.rows + s.room ≤ vec_capacity s.rows
  pub room_sums : s.room ≤ spare s.sums

-- the last of each day, with its number, is of the reconciliations
pub record HasReconciliations (s : reconciliations.Inside) : Type 0 where
  pub last : (k : MerchantDay) →
      get day_eq s.last k ≡ last_of (reconciliations_in s.rows.items k)
  pub number : (k : MerchantDay) → number_in (get day_eq s.last k)
      ≡ count (λ row. bytes_eq row.1.merchant k.merchant && (row.1.day == k.day)) s.rows.items
  pub room_rows : vec_len s.rows + s.room ≤ vec_capacity s.rows
  pub room_last : s.room ≤ spare s.last
