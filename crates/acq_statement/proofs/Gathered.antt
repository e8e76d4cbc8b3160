-- A statement that is gathered on, and its text.
use Rattle.std.proofs.Common.{◌≡◌, ◌∙◌, ◌⊎◌, ◌&&◌, ◌+◌, ◌-◌, ◌≤◌, ◌∷◌, ◌++◌, ℕ, zero, suc, Bool}
use Rattle.std.proofs.Common.{true, false, cond, List, [], Option, Some, None, inl, inr, refl, sym}
use Rattle.std.proofs.Common.{ap, subst, arith, append-nil, drop, filter, length, take}
use Rattle.std.specs.Prelude.{IfSome, flat_map, nat_le, nat_lt}
use Rattle.std.specs.List.{AllByRecursion, cons_option, filter_map, range_with_len}
use Rattle.std.specs.Str.{bytes_eq}
use Rattle.std.proofs.Math.Seq.{take-add, take-append_seam}
use Rattle.std.proofs.lemmas.Bool.Decides.{nat_tests}
use Rattle.std.proofs.lemmas.List.{take-append-drop}
use Rattle.std.proofs.lemmas.List.Elements.{filter_map-append}
use Rattle.acq_core.specs.declared.event.Event.{Event}
use Rattle.acq_core.specs.declared.merchant.Merchant.{Merchant}
use Rattle.acq_core.specs.declared.posting.Posting.{Posting}
use Rattle.acq_core.specs.declared.request.Request.{Request}
use Rattle.acq_core.specs.Pasts.{HasPast}
use Rattle.acq_core.specs.Tables.{Tables, count, tables_after}
use Rattle.acq_soundness.proofs.Keys.{bytes_eq_is}
use Rattle.acq_soundness.proofs.Members.{In-find}
use Rattle.acq_book.specs.Lookups.{merchant_at, postings_above_at, requests_behind_at, terminals_at}
use Rattle.acq_book.specs.Visits.{SawAll}
use Rattle.acq_statement.specs.declared.claim.Claim.{Claim}
use Rattle.acq_statement.specs.declared.claims.Claims.{Claims}
use Rattle.acq_statement.specs.declared.gathering.Gathering.{Gathering}
use Rattle.acq_statement.specs.declared.posted_sums.PostedSums.{PostedSums}
use Rattle.acq_statement.specs.declared.statement_form.StatementForm.{StatementForm}
use Rattle.acq_statement.specs.declared.terminal_sums.TerminalSums.{TerminalSums}
use Rattle.acq_statement.specs.Claims.{claim_in, claims_at, claims_of}
use Rattle.acq_statement.specs.ClaimRows.{ClaimsOne}
use Rattle.acq_statement.specs.Currencies.{currencies_of, currency_sums}
use Rattle.acq_statement.specs.Gathered.{Asks, IsGathered, only, postings_up_to}
use Rattle.acq_statement.specs.Gathered.{IsSettled, is_of_day, sums_in}
use Rattle.acq_statement.specs.Lines.{currency_lines, statement_header}
use Rattle.acq_statement.specs.Span.{days_of}
use Rattle.acq_statement.specs.Statement.{block_of, merchant_blocks, statement_text, statement_with}
use Rattle.acq_statement.specs.TerminalRows.{SumsOne}
use Rattle.acq_statement.specs.TerminalTotals.{day_postings, sums_at_terminal, sums_at_terminals}
use Rattle.acq_statement.specs.TerminalTotals.{terminals_of}
use Rattle.acq_statement.proofs.Keeping.{HasClaimed, claimed}
use Rattle.acq_statement.proofs.Numbers.{after_events, day_in_two, gone_on, gone_within}
use Rattle.acq_statement.proofs.Settled.{claims_later, more_later, settled_by_past, settled_later}
use Rattle.acq_statement.proofs.SumsOfTerminals.{HasPosted, last_number, posted}

-- ---- nothing was gone over

none_up_to : (m : List ℕ) (day : ℕ) (rows : List (ℕ × Posting)) →
    filter (λ row. is_of_day m day row && (nat_lt 0 row.0 && nat_le row.0 0)) rows ≡ []
none_up_to m day [] = refl
none_up_to m day (row ∷ rows) =
    ap (λ b. cond b (row ∷ filter passes rows) (filter passes rows))
    (none (is_of_day m day row) (nat_lt 0 row.0) (nat_le row.0 0) refl refl)
    ∙ none_up_to m day rows
  where
    passes : ℕ × Posting → Bool
    passes one = is_of_day m day one && (nat_lt 0 one.0 && nat_le one.0 0)

    none : (a b c : Bool) → nat_lt 0 row.0 ≡ b → nat_le row.0 0 ≡ c → (a && (b && c)) ≡ false
    none true true true e f = let bad : ⊥ = grind (arith, nat_tests, e, f) in absurd bad
    none true true false e f = refl
    none true false c e f = refl
    none false b c e f = refl

pub fresh_is : (t : Tables) (g : Gathering) → g.number ≡ 0 → g.sums.items ≡ [] → g.looked ≡ 0 →
    g.claims.items ≡ [] → IsGathered t g
fresh_is t g first unsummed unseen unclaimed = record {
  within = omega (arith, first);
  sums = λ terminal.
      ap (λ l. sums_in l terminal) unsummed
      ∙ ap (λ l. sums_at_terminal l terminal)
      (sym (ap (postings_up_to t g.merchant g.day) first
      ∙ none_up_to g.merchant g.day t.postings));
  looked = omega (arith, unseen);
  claims = unclaimed
      ∙ ap (λ n. filter_map (claim_in (g.merchant ∷ []) (only g.day)) (take n t.requests))
      (sym unseen);
  stays = inl unseen;
}

-- ---- postings were gone over

module _ (t : Tables) (past : HasPast t) (g : Gathering) (v w : PostedSums)
    (had : v.sums.items ≡ g.sums.items) (from : v.number ≡ g.number) (is : IsGathered t g)
    (saw : SawAll SumsOne (postings_above_at t g.merchant g.day g.number) v w)
    (enough : w.is_short ≡ false) where
  abbrev rows_above : List (ℕ × Posting)
  rows_above = postings_above_at t g.merchant g.day g.number

  posting_on : HasPosted (postings_up_to t g.merchant g.day g.number) g.number rows_above v w
  posting_on =
      posted (postings_up_to t g.merchant g.day g.number) g.number rows_above v w
      (λ terminal. ap (λ l. sums_in l terminal) had ∙ is.sums terminal) from saw enough

  pub summed_whole : v.end ≡ None → (terminal : List ℕ) →
      sums_in w.sums.items terminal
      ≡ sums_at_terminal (day_postings t g.merchant g.day) terminal
  summed_whole whole terminal =
      posting_on.holds.0 terminal
      ∙ ap (λ l. sums_at_terminal l terminal)
      (ap (λ l. postings_up_to t g.merchant g.day g.number ++ l)
      (sym (append-nil posting_on.gone)
      ∙ ap (λ l. posting_on.gone ++ l) (sym (posting_on.whole whole))
      ∙ sym posting_on.parts)
      ∙ day_in_two g.merchant g.day t past g.number)

  module _ (new : Gathering) (asks : Asks g.merchant g.day g.form new)
      (sums : new.sums.items ≡ w.sums.items) (number : new.number ≡ w.number)
      (claims : new.claims.items ≡ g.claims.items) (looked : new.looked ≡ g.looked) where
    at : new.number ≡ last_number g.number posting_on.gone
    at = number ∙ posting_on.holds.1

    abbrev count_at : List ℕ → ℕ → ℕ
    count_at m d = count (is_of_day m d) t.postings

    stays_on : (g.looked ≡ 0) ⊎ AllByRecursion IsSettled t.requests →
        (new.looked ≡ 0) ⊎ AllByRecursion IsSettled t.requests
    stays_on (inl none) = inl (looked ∙ none)
    stays_on (inr settled) = inr settled

    pub summed_on : IsGathered t new
    summed_on = record {
      within =
          subst (λ n. n ≤ count_at new.merchant new.day) (sym at)
          (subst (λ m. last_number g.number posting_on.gone ≤ count_at m new.day) (sym asks.0)
          (subst (λ d. last_number g.number posting_on.gone ≤ count_at g.merchant d) (sym asks.1)
          (gone_within g.merchant g.day t past g.number posting_on.gone posting_on.left
          posting_on.parts is.within)));
      sums = λ terminal.
          ap (λ l. sums_in l terminal) sums ∙ posting_on.holds.0 terminal
          ∙ ap (λ l. sums_at_terminal l terminal)
          (sym (gone_on g.merchant g.day t past g.number posting_on.gone posting_on.left
          posting_on.parts)
          ∙ (λ i. postings_up_to t (sym asks.0 i) (sym asks.1 i) (sym at i)));
      looked = omega (arith, looked, is.looked);
      claims = claims ∙ is.claims
          ∙ (λ i. filter_map (claim_in (sym asks.0 i ∷ []) (only (sym asks.1 i)))
          (take (sym looked i) t.requests));
      stays = stays_on is.stays;
    }

-- ---- requests were looked at

lengths : {X : Type 0} (xs : List X) (n : ℕ) → n ≤ length xs → n + length (drop n xs) ≡ length xs
lengths xs zero within = omega arith
lengths [] (suc n) within = absurd (omega (arith, within))
lengths (x ∷ xs) (suc n) within = omega (arith, lengths xs n (omega (arith, within)))

sizes : {X : Type 0} (xs ys : List X) → length (xs ++ ys) ≡ length xs + length ys
sizes [] ys = omega arith
sizes (x ∷ xs) ys = omega (arith, sizes xs ys)

module _ (t : Tables) (past : HasPast t) (g : Gathering) (v w : Claims)
    (had : v.claims.items ≡ g.claims.items) (names : v.asked.merchants.now ≡ g.merchant ∷ [])
    (on : v.asked.days ≡ only g.day) (from : v.looked ≡ g.looked) (is : IsGathered t g)
    (saw : SawAll ClaimsOne (requests_behind_at t g.looked) v w)
    (enough : w.is_short ≡ false) where
  abbrev rows_behind : List Request
  rows_behind = requests_behind_at t g.looked

  claiming_on : HasClaimed g.claims.items (g.merchant ∷ []) (only g.day) rows_behind v w
  claiming_on =
      claimed g.claims.items (g.merchant ∷ []) (only g.day) rows_behind v w had names on saw enough

  abbrev claiming : Request → Option Claim
  claiming = claim_in (g.merchant ∷ []) (only g.day)

  claims_on_rows : w.claims.items
      ≡ filter_map claiming (take g.looked t.requests ++ claiming_on.gone)
  claims_on_rows =
      claiming_on.holds.0
      ∙ ap (λ l. l ++ filter_map claiming claiming_on.gone) is.claims
      ∙ sym (filter_map-append claiming (take g.looked t.requests) claiming_on.gone)

  pub claimed_whole : v.end ≡ None →
      w.claims.items ≡ claims_at t (g.merchant ∷ []) (only g.day)
  claimed_whole whole =
      claims_on_rows
      ∙ ap (filter_map claiming)
      (ap (λ l. take g.looked t.requests ++ l)
      (sym (append-nil claiming_on.gone)
      ∙ ap (λ l. claiming_on.gone ++ l) (sym (claiming_on.whole whole))
      ∙ sym claiming_on.parts)
      ∙ take-append-drop g.looked t.requests)

  module _ (new : Gathering) (asks : Asks g.merchant g.day g.form new)
      (sums : new.sums.items ≡ g.sums.items) (number : new.number ≡ g.number)
      (claims : new.claims.items ≡ w.claims.items) (looked : new.looked ≡ w.looked) where
    gone_at : new.looked ≡ g.looked + length claiming_on.gone
    gone_at = looked ∙ claiming_on.at ∙ ap (λ n. n + length claiming_on.gone) from

    first_rows : take (g.looked + length claiming_on.gone) t.requests
        ≡ take g.looked t.requests ++ claiming_on.gone
    first_rows =
        take-add g.looked (length claiming_on.gone) t.requests
        ∙ ap (λ l. take g.looked t.requests ++ l)
        (ap (take (length claiming_on.gone)) claiming_on.parts
        ∙ take-append_seam claiming_on.gone claiming_on.left)

    pub claimed_on : IsGathered t new
    claimed_on = record {
      within = subst (λ n. n ≤ count (is_of_day new.merchant new.day) t.postings) (sym number)
          (subst (λ m. g.number ≤ count (is_of_day m new.day) t.postings) (sym asks.0)
          (subst (λ d. g.number ≤ count (is_of_day g.merchant d) t.postings) (sym asks.1)
          is.within));
      sums = λ terminal.
          ap (λ l. sums_in l terminal) sums ∙ is.sums terminal
          ∙ (λ i. sums_at_terminal
          (postings_up_to t (sym asks.0 i) (sym asks.1 i) (sym number i)) terminal);
      looked =
          let whole = lengths t.requests g.looked is.looked in
          let parts = ap length claiming_on.parts ∙ sizes claiming_on.gone claiming_on.left in
          omega (arith, gone_at, whole, parts);
      claims = claims ∙ claims_on_rows
          ∙ ap (filter_map claiming)
          (sym first_rows ∙ ap (λ n. take n t.requests) (sym gone_at))
          ∙ (λ i. filter_map (claim_in (sym asks.0 i ∷ []) (only (sym asks.1 i)))
          (take new.looked t.requests));
      stays = inr (settled_by_past t past);
    }

-- ---- events are taken

pub gathered_later : (t : Tables) (events : List Event) (g : Gathering) → IsGathered t g →
    IsGathered (tables_after t events) g
gathered_later t events g is =
    let goes = after_events g.merchant g.day t events in
    record {
      within = omega (arith, is.within, goes.grows);
      sums = λ terminal.
          is.sums terminal
          ∙ ap (λ l. sums_at_terminal l terminal) (sym (goes.same g.number is.within));
      looked = looked is.stays;
      claims = claims is.stays;
      stays = stays is.stays;
    }
  where
    Stays : Tables → Type 0
    Stays u = (g.looked ≡ 0) ⊎ AllByRecursion IsSettled u.requests

    looked : Stays t → g.looked ≤ length (tables_after t events).requests
    looked (inl none) = omega (arith, none)
    looked (inr all) = omega (arith, is.looked, more_later t events all)

    claims : Stays t → g.claims.items
        ≡ filter_map (claim_in (g.merchant ∷ []) (only g.day))
        (take g.looked (tables_after t events).requests)
    claims (inl none) =
        is.claims
        ∙ ap (λ n. filter_map (claim_in (g.merchant ∷ []) (only g.day)) (take n t.requests)) none
        ∙ ap (λ n. filter_map (claim_in (g.merchant ∷ []) (only g.day))
        (take n (tables_after t events).requests)) (sym none)
    claims (inr all) =
        is.claims ∙ claims_later t events all (g.merchant ∷ []) (only g.day) g.looked is.looked

    stays : Stays t → Stays (tables_after t events)
    stays (inl none) = inl none
    stays (inr all) = inr (settled_later t events all)

-- ---- the text

module _ (t : Tables) (m : List ℕ) (day : ℕ) (form : StatementForm) where
  abbrev own_sums : List TerminalSums
  own_sums = sums_at_terminals (day_postings t m day) (terminals_of m (terminals_at t))

  abbrev own_claims : List Claim
  own_claims = claims_at t (m ∷ []) (only day)

  abbrev own_block : Merchant → List ℕ
  own_block merchant = block_of form own_sums (claims_of merchant.id own_claims) t merchant day

  abbrev rest_of : List Merchant → List ℕ
  rest_of merchants =
      flat_map (λ currency. currency_lines form currency
      (currency_sums t (day ∷ []) merchants currency)) (currencies_of merchants)

  same_block : (row : Merchant) → row.id ≡ m →
      own_block row ≡ merchant_blocks form (terminals_at t) own_claims t (day ∷ []) row
  same_block row is =
      (λ i. block_of form
      (sums_at_terminals (day_postings t (sym is i) day) (terminals_of (sym is i) (terminals_at t)))
      (claims_of row.id own_claims) t row day)
      ∙ sym (append-nil (block_of form
      (sums_at_terminals (day_postings t row.id day) (terminals_of row.id (terminals_at t)))
      (claims_of row.id own_claims) t row day))

  same_blocks : (o : Option Merchant) → IfSome o (λ row. row.id ≡ m) →
      statement_with form own_block t (day ∷ []) (cons_option o [])
      ≡ statement_with form (merchant_blocks form (terminals_at t) own_claims t (day ∷ [])) t
      (day ∷ []) (cons_option o [])
  same_blocks None is = refl
  same_blocks (Some row) is =
      ap (λ block. statement_header form ++ (block ++ []) ++ rest_of (row ∷ []))
      (same_block row is)

  found_is : (o : Option Merchant) → merchant_at t m ≡ o → IfSome o (λ row. row.id ≡ m)
  found_is None is = tt
  found_is (Some row) is =
      bytes_eq_is row.id m (In-find (λ one. bytes_eq one.id m) t.merchants row is).1

  one_day : days_of (only day) ≡ day ∷ []
  one_day = let one : day + 1 - day ≡ 1 = omega arith in ap (range_with_len day) one

  pub stated : (sums : List TerminalSums) (claims : List Claim) (merchants : List Merchant) →
      sums ≡ own_sums → claims ≡ own_claims → merchants ≡ cons_option (merchant_at t m) [] →
      statement_with form
      (λ merchant. block_of form sums (claims_of merchant.id claims) t merchant day) t (day ∷ [])
      merchants
      ≡ statement_text t (m ∷ []) (only day) form
  stated sums claims merchants summed claimed named =
      (λ i. statement_with form
      (λ merchant. block_of form (summed i) (claims_of merchant.id (claimed i)) t merchant day) t
      (day ∷ []) (named i))
      ∙ same_blocks (merchant_at t m) (found_is (merchant_at t m) refl)
      ∙ (λ i. statement_with form
      (merchant_blocks form (terminals_at t) own_claims t (sym one_day i)) t (sym one_day i)
      (cons_option (merchant_at t m) []))
