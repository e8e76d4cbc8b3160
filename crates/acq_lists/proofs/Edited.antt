-- The maps beside the requests, when a request is edited.
use Rattle.std.proofs.Common.{◌≡◌, ℕ, ◌+◌, List, [], ◌∷◌, Bool, true, false, cond, Some, None}
use Rattle.std.proofs.Common.{Option, refl, sym, ap}
use Rattle.std.proofs.Common.{◌∙◌, subst, arith, eqb, if◌then◌else◌, IfSome}
use Rattle.std.specs.Prelude.{◌&&◌, find, is_some}
use Rattle.std.specs.Map.{values_of}
use Rattle.std.specs.Str.{bytes_eq}
use Rattle.indexmap.specs.IndexMap.{IndexMap, IsUnique, spare}
use Rattle.acq_message.specs.Elements.{same_key}
use Rattle.acq_message.specs.Numbers.{is_number}
use Rattle.iso_codec.specs.Message.{IsoMessage}
use Rattle.acq_core.specs.Numbers.{is_used_count, is_admitted_count}
use Rattle.acq_core.specs.Tables.{with_changed, answered_row, followed_row, requests_of, used_in}
use Rattle.acq_core.specs.Tables.{admitted_in}
use Rattle.acq_core.specs.declared.request.Request.{Request}
use Rattle.acq_core.specs.declared.status.Status.{Status}
use Rattle.acq_core.specs.declared.remains.Remains.{Remains}
use Rattle.acq_message.specs.declared.request_key.RequestKey.{RequestKey}
use Rattle.acq_lists.specs.declared.requests.Requests.TheInside.{Inside}
use Rattle.acq_book.specs.Keys.{key_eq}
use Rattle.acq_lists.specs.Keys.{IsKeyedBy, changed_at, place, refers}
use Rattle.acq_lists.specs.Indexes.{HasRequests}
use Rattle.acq_lists.specs.Rows.{IsNewRow}
use Rattle.acq_lists.proofs.Edits.{key_of, changed-rows, changed-keyed}
use Rattle.acq_lists.proofs.Places.{place-map, find-filter}
use Rattle.acq_book.proofs.Counting.{count-filter-map}

-- an edit that no index sees
pub record IsUnseen (f : Request → Request) : Type 0 where
  pub key : (row : Request) → (f row).key ≡ row.key
  pub reference : (row : Request) → (f row).reference ≡ row.reference
  pub admitted : (row : Request) → (f row).admitted ≡ row.admitted
  pub day : (row : Request) → (f row).day ≡ row.day

module _ (k : RequestKey) (f : Request → Request) (u : IsUnseen f) where
  -- a test of what the edit leaves
  same_at : {Y : Type 0} (p : Request → Y) → ((row : Request) → p (f row) ≡ p row) →
      (row : Request) →
      p (if same_key row.key k then f row else row) ≡ p row
  same_at p same row =
      elim (same_key row.key k) as (λ b. p (if b then f row else row) ≡ p row)
      [ true ↦ same row | false ↦ refl ]

  merchant : (m : List ℕ) (row : Request) →
      bytes_eq (f row).key.merchant m ≡ bytes_eq row.key.merchant m
  merchant m row = ap (λ x. bytes_eq x.merchant m) (u.key row)

  used-map : (m : List ℕ) (day : ℕ) (rows : List Request)
      → used_in (requests_of m (with_changed k f rows)) day ≡ used_in (requests_of m rows) day
  used-map m day rows =
      count-filter-map (λ row. row.admitted && eqb row.day day) (λ row. bytes_eq row.key.merchant m)
      (λ row. if same_key row.key k then f row else row)
      (same_at (λ row. row.admitted && eqb row.day day)
      (λ row i. u.admitted row i && eqb (u.day row i) day))
      (same_at (λ row. bytes_eq row.key.merchant m) (merchant m)) rows

  admitted-map : (m : List ℕ) (rows : List Request)
      → admitted_in (requests_of m (with_changed k f rows)) ≡ admitted_in (requests_of m rows)
  admitted-map m rows =
      count-filter-map (λ row. is_some row.reference) (λ row. bytes_eq row.key.merchant m)
      (λ row. if same_key row.key k then f row else row)
      (same_at (λ row. is_some row.reference) (λ row. ap is_some (u.reference row)))
      (same_at (λ row. bytes_eq row.key.merchant m) (merchant m)) rows

  -- the maps are of the edited rows
  pub requests_changed : (s : Inside) (rows : IndexMap RequestKey Request _) → HasRequests s →
      rows.entries ≡ changed_at (key_eq k) f s.rows.entries → IsUnique key_eq s.rows →
      spare rows ≡ spare s.rows →
      HasRequests (record s { rows = rows })
  requests_changed s rows was entries unique room =
      let edited : values_of rows.entries ≡ with_changed k f (values_of s.rows.entries) =
      ap values_of entries ∙ changed-rows k f s.rows.entries was.keyed unique in
      record {
        keyed = subst (IsKeyedBy key_of) (sym entries)
            (changed-keyed k f u.key s.rows.entries was.keyed);
        places = λ r. was.places r ∙ sym (ap (place (refers r)) edited
            ∙ place-map (refers r) (λ row. if same_key row.key k then f row else row)
            (same_at (refers r) (λ row i. bytes_eq (u.key row i).merchant r.merchant
            && is_number r.reference (u.reference row i))) (values_of s.rows.entries));
        used = λ d. was.used d ∙ sym (ap (λ l. used_in (requests_of d.merchant l) d.day) edited
            ∙ used-map d.merchant d.day (values_of s.rows.entries));
        admitted = λ m. was.admitted m ∙ sym (ap (λ l. admitted_in (requests_of m l)) edited
            ∙ admitted-map m (values_of s.rows.entries));
        room_rows = omega (arith, room, was.room_rows);
        room_places = was.room_places;
        room_used = was.room_used;
        room_admitted = was.room_admitted;
      }

  rest : (x : Request) (b : Bool) (o n : Option Request) → (o ≡ None → n ≡ None) →
      cond b (Some x) o ≡ None →
      cond b (Some (if same_key x.key k then f x else x)) n ≡ None
  rest x true o n h e = absurd (let no : ◌≡◌ {A = Option Request} (Some x) None = e in cc)
  rest x false o n h e = h e

  find-map : (p : Request → Bool) → ((row : Request) → p (f row) ≡ p row) → (rows : List Request) →
      find p rows ≡ None →
      find p (with_changed k f rows) ≡ None
  find-map p same [] = λ e. refl
  find-map p same (x ∷ xs) = λ e.
      ap (λ b. cond b (Some (if same_key x.key k then f x else x)) (find p (with_changed k f xs)))
      (same_at p same x)
      ∙ rest x (p x) (find p xs) (find p (with_changed k f xs)) (find-map p same xs) e

  -- what is new stays new
  pub new_changed : (rows : List Request) (row : Request) → IsNewRow rows row →
      IsNewRow (with_changed k f rows) row
  new_changed rows row new = record {
    key = find-map (λ old. same_key old.key row.key)
        (λ old. ap (λ x. same_key x row.key) (u.key old)) rows new.key;
    reference = by row.reference new.reference;
    used = λ e. ap (λ n. is_used_count (1 + n)) (used-map row.key.merchant row.day rows)
        ∙ new.used e;
    admitted = λ e. ap (λ n. is_admitted_count (1 + n)) (admitted-map row.key.merchant rows)
        ∙ new.admitted e;
  }
    where
      by : (o : Option ℕ) →
          IfSome o (λ n. find (λ old. is_number n old.reference) (requests_of row.key.merchant rows)
          ≡ None) →
          IfSome o (λ n. find (λ old. is_number n old.reference)
          (requests_of row.key.merchant (with_changed k f rows))
          ≡ None)
      by None h = h
      by (Some n) h =
          find-filter (λ old. bytes_eq old.key.merchant row.key.merchant)
          (λ old. is_number n old.reference)
          (with_changed k f rows)
          ∙ find-map (λ old. bytes_eq old.key.merchant row.key.merchant
          && is_number n old.reference)
          (λ old i. bytes_eq (u.key old i).merchant row.key.merchant
          && is_number n (u.reference old i)) rows
          (sym (find-filter (λ old. bytes_eq old.key.merchant row.key.merchant)
          (λ old. is_number n old.reference) rows)
          ∙ h)

pub edit_follow : (remains : Remains) → IsUnseen (followed_row remains)
edit_follow remains =
    record { key = λ row. refl; reference = λ row. refl; admitted = λ row. refl; day = λ row. refl }

pub edit_answer : (status : Status) (reply : IsoMessage) (hold_end : Option ℕ) →
    IsUnseen (answered_row status reply hold_end)
edit_answer status reply hold_end =
    record { key = λ row. refl; reference = λ row. refl; admitted = λ row. refl; day = λ row. refl }
