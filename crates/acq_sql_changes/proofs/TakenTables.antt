-- What the tables that a change is made of give each of its writes.
use Rattle.std.proofs.Common.{◌≡◌, ◌==◌, ◌&&◌, ◌≤◌, inl, inr, ℕ, suc, Bool}
use Rattle.std.proofs.Common.{true, false, List, [], ◌∷◌, ◌++◌, length, map, find, Option, None}
use Rattle.std.proofs.Common.{Some, option_map, cond}
use Rattle.std.proofs.Common.{refl, sym, ap, ap₂, subst, ◌∙◌, arith, if◌then◌else◌, nat_le}
use Rattle.std.specs.List.{AllByRecursion, list_all, list_any}
use Rattle.std.proofs.lemmas.Bool.{and_parts, false_from_ne_true}
use Rattle.std.proofs.lemmas.Bool.Decides.{nat_tests}
use Rattle.std.proofs.lemmas.Slice.Eq.{bytes_eq-Decides}
use Rattle.sqlite_value.specs.Order.{Row}
use Rattle.sqlite.specs.Effect.{Database}
use Rattle.sqlite_rules.specs.Lists.{Has}
use Rattle.sqlite_rules.proofs.ListLemmas.{all_has, test_has}
use Rattle.row_lemmas.specs.Numbered.{numbered_from, rows_of}
use Rattle.row_lemmas.proofs.Elements.{length-map, map_has}
use Rattle.card_no.specs.declared.range.Range.{Range}
use Rattle.card_no.specs.declared.range_fault.RangeFault.TheVariants.{Overlap, BadRange}
use Rattle.card_no.specs.Prefix.{eight_digits}
use Rattle.card_no.specs.Ranges.{is_valid_range, overlaps, overlapped_by}
use Rattle.card_no.specs.RangeChanges.{add_fault}
use Rattle.acq_message.specs.declared.request_key.RequestKey.{RequestKey}
use Rattle.acq_message.specs.Elements.{same_key}
use Rattle.acq_core.specs.declared.change.Change.{Change}
use Rattle.acq_core.specs.declared.change.Change.TheVariants as change
use Rattle.acq_core.specs.declared.merchant.Merchant.{Merchant}
use Rattle.acq_core.specs.declared.posting.Posting.{Posting}
use Rattle.acq_core.specs.declared.reconciliation.Reconciliation.{Reconciliation}
use Rattle.acq_core.specs.declared.remains.Remains.{Remains}
use Rattle.acq_core.specs.declared.request.Request.{Request}
use Rattle.acq_core.specs.declared.terminal.Terminal.{Terminal}
use Rattle.acq_core.specs.Tables.{Tables, followed_row, postings_before, reconciliations_before}
use Rattle.acq_core.specs.Tables.{with_changed}
use Rattle.acq_book.specs.Lookups.{request_at}
use Rattle.acq_sql_rows.specs.Rows.{merchant_row, terminal_row, request_row, posting_row}
use Rattle.acq_sql_rows.specs.Rows.{reconciliation_row, running_row}
use Rattle.acq_sql_rows.specs.Schema.{merchants_tree, terminals_tree, requests_tree}
use Rattle.acq_sql_rows.specs.Schema.{postings_tree, reconciliations_tree, running_tree}
use Rattle.acq_sql_rows.specs.Tallies.{Tally, Tallies, Running, FitsTally, plus, raised, tally_in}
use Rattle.acq_sql_writes.specs.Written.{with_remains}
use Rattle.acq_sql_writes.specs.Refused.{AnyTables, HasNumberLeft, HasNumbersLeft, HasShortTexts}
use Rattle.acq_sql_writes.specs.Refused.{HasShortRequests}
use Rattle.acq_sql_writes.specs.Refused.{IsShortText, TakesMerchant, TakesTerminal, TakesRange}
use Rattle.acq_sql_writes.specs.Refused.{TakesRequest, TakesPosting, TakesReconciliation, TakesMore}
use Rattle.acq_sql_writes.specs.Refused.{is_posting, is_reconciliation}
use Rattle.acq_sql_rows.specs.Relation.{Holds}
use Rattle.acq_sql_changes.specs.Refused.{IsNextPosting, IsNextReconciliation, Takes}
use Rattle.acq_sql_changes.proofs.ListTallies.{ComesToMore, more_tallied}
use Rattle.acq_sql_changes.proofs.Room.{HasShortDays}
use Rattle.acq_sql_writes.proofs.RaiseWrites.{none_find}
use Rattle.acq_sql_writes.proofs.RangeMoves.{narrow_of}
use Rattle.acq_sql_rows.proofs.SameKeys.{bytes_same, number_itself, number_same}
use Rattle.acq_sql_writes.proofs.RunningTotals.{find_none, is_key, tally_raised}

-- what is known of the tables that a change is made of
pub record IsTaken (change : Change) (fits : Tables → Type 0) (db : Database) (t : Tables) : Type 0
  where
    pub numbers : HasNumbersLeft db
    pub holds : Holds db t
    pub takes : Takes change t
    pub fit : fits t

-- what the lists come to with what came has room in the running totals
pub has_room : (t : Tables) (runs : List Running) (merchant : List ℕ) (day : ℕ) (more : Tally)
    → Tallies (raised merchant day more runs) t → HasShortDays t
    → FitsTally (plus (tally_in runs merchant day) more)
has_room t runs merchant day more tallied short =
    subst FitsTally
    (sym (tallied merchant day) ∙ tally_raised merchant day more merchant day runs ∙ itself)
    (short merchant day)
  where
    own : is_key merchant day merchant day ≡ true
    own = rw ((bytes_eq-Decides merchant merchant).1 refl, number_itself day) refl

    itself : cond (is_key merchant day merchant day) (plus (tally_in runs merchant day) more)
        (tally_in runs merchant day)
        ≡ plus (tally_in runs merchant day) more
    itself = rw own refl

-- ---- lists

numbered_length : (n : ℕ) (rows : List Row) → length (numbered_from n rows) ≡ length rows
numbered_length n [] = refl
numbered_length n (row ∷ rows) = ap suc (numbered_length (suc n) rows)

-- as many rows as elements
pub number_left : {X : Type 0} (row_of : X → Row) (rows : List Row) (xs : List X)
    → rows ≡ rows_of row_of xs → HasNumberLeft rows → HasNumberLeft xs
number_left row_of rows xs held left =
    let same = ap length held ∙ numbered_length 1 (map row_of xs) ∙ length-map row_of xs in
    omega (arith, same, left)

all_last : {X : Type 0} (P : X → Type 0) (xs : List X) (x : X) → AllByRecursion P (xs ++ x ∷ [])
    → P x
all_last P [] x h = h.0
all_last P (y ∷ xs) x h = all_last P xs x h.1

none_any : {X : Type 0} (p : X → Bool) (xs : List X) → ((x : X) → Has xs x → p x ≡ false)
    → list_any p xs ≡ false
none_any p [] none = refl
none_any p (x ∷ xs) none = rw (none x (inl refl)) (none_any p xs (λ y h. none y (inr h)))

-- ---- what a change gives whatever it is

module _ {change : Change} {fits : Tables → Type 0} {db : Database} {t : Tables}
    (taken : IsTaken change fits db t) where
  requests_left : HasNumberLeft t.requests
  requests_left =
      number_left request_row (db.trees requests_tree) t.requests taken.holds.rows.requests
      taken.numbers.requests

  pub short_requests : HasShortRequests t
  short_requests =
      record {
        texts = taken.takes.before.texts;
        keys = taken.takes.before.keys;
        room = requests_left;
      }

  -- columns can keep what the lists come to before the running totals are raised
  pub takes_more : (u : Tables) (merchant : List ℕ) (day : ℕ) (more : Tally)
      → ComesToMore t u merchant day more → (HasShortDays t → HasShortDays u)
      → TakesMore merchant day more taken.holds.runs
  takes_more u merchant day more come short =
      let h = taken.holds in
      record {
        fits = has_room u h.runs merchant day more
            (more_tallied t u h.runs merchant day more come h.tallied) (short h.short);
        room = number_left running_row (db.trees running_tree) h.runs h.rows.running
            taken.numbers.running;
      }

  -- a request with a new key
  pub takes_request : (r : Request) → request_at t r.key ≡ None → HasShortTexts r
      → TakesRequest r t
  takes_request r none texts = record { key = none; texts = texts; room = requests_left }

  -- a posting with its next number, in tables with the same postings
  pub takes_posting : (n : ℕ) (p : Posting) → IsNextPosting n p t → IsShortText p.card
      → (u : Tables) → t.postings ≡ u.postings → TakesPosting n p u
  takes_posting n p next card u same =
      record {
        fresh =
            subst (λ rows. list_any (is_posting n p) rows ≡ false) same
            (none_any (is_posting n p) t.postings (λ x h. false_from_ne_true _ (λ is.
            let parts = and_parts _ (x.0 == n) is in
            let own = and_parts _ _ parts.0 in
            let alike = ap₂ (λ m d. postings_before t.postings (record p { merchant = m; day = d }))
            (bytes_same x.1.merchant p.merchant own.0) (number_same x.1.day p.day own.1) in
            let few = all_has (λ row. row.0 ≤ postings_before t.postings row.1) t.postings x
            taken.takes.before.postings h in
            let number = number_same x.0 n parts.1 in
            omega (arith, next, alike, few, number))));
        card = card;
        room =
            subst HasNumberLeft same
            (number_left posting_row (db.trees postings_tree) t.postings
            taken.holds.rows.postings taken.numbers.postings);
      }

  -- so it is of a reconciliation
  pub takes_reconciliation : (n : ℕ) (r : Reconciliation) → IsNextReconciliation n r t
      → (u : Tables) → t.reconciliations ≡ u.reconciliations → TakesReconciliation n r u
  takes_reconciliation n r next u same =
      record {
        fresh =
            subst (λ rows. list_any (is_reconciliation n r) rows ≡ false) same
            (none_any (is_reconciliation n r) t.reconciliations (λ x h. false_from_ne_true _ (λ is.
            let parts = and_parts _ (x.0 == n) is in
            let own = and_parts _ _ parts.0 in
            let alike = ap₂
            (λ m d. reconciliations_before t.reconciliations (record r { merchant = m; day = d }))
            (bytes_same x.1.merchant r.merchant own.0) (number_same x.1.day r.day own.1) in
            let few = all_has (λ row. row.0 ≤ reconciliations_before t.reconciliations row.1)
            t.reconciliations x taken.takes.before.reconciliations h in
            let number = number_same x.0 n parts.1 in
            omega (arith, next, alike, few, number))));
        room =
            subst HasNumberLeft same
            (number_left reconciliation_row (db.trees reconciliations_tree) t.reconciliations
            taken.holds.rows.reconciliations taken.numbers.reconciliations);
      }

-- ---- enrolments

module _ {db : Database} {t : Tables} where
  pub takes_merchant : (m : Merchant) → IsTaken (change.AddMerchant m) AnyTables db t
      → TakesMerchant m t
  takes_merchant m taken =
      record {
        name = taken.takes.fits;
        room = number_left merchant_row (db.trees merchants_tree) t.merchants
            taken.holds.rows.merchants taken.numbers.merchants;
      }

  pub takes_terminal : (x : Terminal) → IsTaken (change.AddTerminal x) AnyTables db t
      → TakesTerminal x t
  takes_terminal x taken =
      record {
        name = taken.takes.fits;
        room = number_left terminal_row (db.trees terminals_tree) t.terminals
            taken.holds.rows.terminals taken.numbers.terminals;
      }

-- ---- ranges

-- of two ranges apart, neither begins where the other does
other_low : (a b c d : ℕ) → a ≤ b → c ≤ d → (nat_le c b && nat_le a d) ≡ false → (a == c) ≡ false
other_low a b c d first second apart = grind (arith, nat_tests, first, second, apart)

taken_range : (t : Tables) (r : Range) → list_all is_valid_range t.ranges ≡ true
    → add_fault t.ranges r ≡ None → TakesRange r t
taken_range t r all free = go (is_valid_range r) refl (overlapped_by r t.ranges) refl free
  where
    go : (b : Bool) → is_valid_range r ≡ b → (o : Option Range) → overlapped_by r t.ranges ≡ o
        → (if b then option_map Overlap o else Some BadRange) ≡ None → TakesRange r t
    go true valid None apart free =
        record {
          valid = valid;
          begins = none_any (λ s. s.low == r.low) t.ranges (λ s h.
              let its = narrow_of eight_digits s (test_has is_valid_range t.ranges s all h) in
              let own = narrow_of eight_digits r valid in
              other_low s.low s.high r.low r.high its.ends own.ends
              (find_none (overlaps r) t.ranges s apart h));
        }
    go true valid (Some s) apart free = absurd (cc)
    go false valid o apart free = absurd (cc)

pub takes_range : {db : Database} {t : Tables} (r : Range)
    → IsTaken (change.AddRange r) AnyTables db t → TakesRange r t
takes_range {t = t} r taken = taken_range t r taken.takes.before.ranges taken.takes.fits

-- ---- a request after the earlier one that it follows

still_new : (of : RequestKey) (remains : Remains) (key : RequestKey) (rows : List Request)
    → find (λ row. same_key row.key key) rows ≡ None
    → find (λ row. same_key row.key key) (with_changed of (followed_row remains) rows) ≡ None
still_new of remains key rows none =
    none_find is_it (map turned rows) (λ y h.
    let it = map_has turned rows y h in
    ap is_it it.2 ∙ stays it.0 (same_key it.0.key of) ∙ find_none is_it rows it.0 none it.1)
  where
    is_it : Request → Bool
    is_it row = same_key row.key key

    turned : Request → Request
    turned row = if same_key row.key of then followed_row remains row else row

    stays : (row : Request) (b : Bool)
        → is_it (if b then followed_row remains row else row) ≡ is_it row
    stays row true = refl
    stays row false = refl

pub takes_follower : {change : Change} {fits : Tables → Type 0} {db : Database} {t : Tables}
    (taken : IsTaken change fits db t) (of : RequestKey) (remains : Remains) (r : Request)
    → request_at t r.key ≡ None → HasShortTexts r → TakesRequest r (with_remains of remains t)
takes_follower {t = t} taken of remains r none texts =
    let same = length-map (λ row. if same_key row.key of then followed_row remains row else row)
    t.requests in
    let left = requests_left taken in
    record {
      key = still_new of remains r.key t.requests none;
      texts = texts;
      room = omega (arith, same, left);
    }

-- ---- what the tables after it say of what came

pub texts_of_last : (rows : List Request) (r : Request)
    → AllByRecursion HasShortTexts (rows ++ r ∷ []) → HasShortTexts r
texts_of_last = all_last HasShortTexts

pub card_of_last : (rows : List (ℕ × Posting)) (row : ℕ × Posting)
    → AllByRecursion (λ row. IsShortText row.1.card) (rows ++ row ∷ []) → IsShortText row.1.card
card_of_last = all_last (λ row. IsShortText row.1.card)
