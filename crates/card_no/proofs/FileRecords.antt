-- The records of a text, read one after the other, and the list that they make.
use Rattle.std.proofs.Common.{◌≡◌, ℕ, zero, suc, ◌+◌, ◌-◌, ◌≤◌, true, false, eqb, List, [], ◌∷◌}
use Rattle.std.proofs.Common.{◌++◌, length, take}
use Rattle.std.proofs.Common.{Option, Some, None, Result, Ok, Err, refl, sym, ap, ◌∙◌, arith, inl}
use Rattle.std.proofs.Common.{inr}
use Rattle.std.specs.Prelude.{◌||◌, ◌⊎◌}
use Rattle.std.proofs.lemmas.Bool.{cases_Bool, false≢true, cond_both}
use Rattle.std.proofs.lemmas.List.{append-nil, take_at, length-append, length_push}
use Rattle.csv.specs.Machine.{Read, step, in_field, start_field, start_record, is_end, ends_at_end}
use Rattle.csv.specs.Machine.{next_record}
use Rattle.csv.specs.Machine.{fields_after, carriage_return, line_feed}
use Rattle.csv.specs.Reading.{Reached, ReadRecord, default_config, records_from, source_of}
use Rattle.csv.specs.Reading.{strip_bom}
use Rattle.csv.specs.declared.reader.Reader.{Reader}
use Rattle.csv.proofs.ReadFacts.{rows-end, rows-more}
use Rattle.csv.specs.declared.parser.State.{State}
use Rattle.csv.specs.declared.parser.State.TheVariants as st
use Rattle.csv.specs.declared.parser.Action.{Action}
use Rattle.card_no.specs.declared.range.Range.{Range}
use Rattle.card_no.specs.declared.range_fault.RangeFault.{RangeFault}
use Rattle.card_no.specs.declared.range_fault.RangeFault.TheVariants.{Memory}
use Rattle.card_no.specs.declared.read_stop.ReadStop.{ReadStop}
use Rattle.card_no.specs.declared.read_stop.ReadStop.TheVariants.{Fault, Unread}
use Rattle.card_no.specs.RangeFiles.{with_record, with_records, records_of, ranges_of_text}
use Rattle.card_no.specs.RangeFiles.{StopsBefore}
use Rattle.card_no.specs.ReadStops.{Stops}
use Rattle.card_no.specs.RangeFiles.{◌>>=◌}

-- ---- each record takes bytes

-- after the byte that ends a record, the end of the text ends no other
EndsBetween : State × Action → Type 0
EndsBetween p = is_end p.1 ≡ true → ends_at_end p.0 ≡ false

in_field-between : (c : ℕ) → EndsBetween (in_field default_config c)
unfolding EndsBetween
in_field-between c =
    cond_both (eqb c 44) _ _ EndsBetween (λ e. λ h. absurd (false≢true h))
    (λ e. cond_both ((eqb c carriage_return) || (eqb c line_feed)) _ _ EndsBetween
    (λ f. λ h. cond_both (eqb c carriage_return) st.AfterCr st.StartRecord
    (λ s. ends_at_end s ≡ false) (λ g. refl)
    (λ g. refl))
    (λ f. λ h. absurd (false≢true h)))

start_field-between : (c : ℕ) → EndsBetween (start_field default_config c)
unfolding EndsBetween
start_field-between c = cond_both (eqb c 34) _ _ EndsBetween (λ e. λ h. absurd (false≢true h))
    (λ e. in_field-between c)

start_record-between : (c : ℕ) → EndsBetween (start_record default_config c)
unfolding EndsBetween
start_record-between c =
    cond_both ((eqb c carriage_return) || (eqb c line_feed)) _ _ EndsBetween
    (λ e. λ h. absurd (false≢true h))
    (λ e. start_field-between c)

step-between : (s : State) (c : ℕ) → is_end (step default_config s c).1 ≡ true →
    ends_at_end (step default_config s c).0
    ≡ false
unfolding EndsBetween
step-between st.StartRecord c = start_record-between c
step-between st.StartField c = start_field-between c
step-between st.InField c = in_field-between c
step-between st.InQuoted c = cond_both (eqb c 34) _ _ EndsBetween (λ e. λ h. absurd (false≢true h))
    (λ e. λ h. absurd (false≢true h))
step-between st.InEscape c = λ h. absurd (false≢true h)
step-between st.AfterQuote c = cond_both (eqb c 34) _ _ EndsBetween
    (λ e. λ h. absurd (false≢true h))
    (λ e. in_field-between c)
step-between st.InComment c = cond_both (eqb c line_feed) _ _ EndsBetween
    (λ e. λ h. absurd (false≢true h))
    (λ e. λ h. absurd (false≢true h))
step-between st.AfterCr c = cond_both (eqb c line_feed) _ _ EndsBetween
    (λ e. λ h. absurd (false≢true h))
    (λ e. start_record-between c)

-- what is left after a record: no more than there was, and the reader stands between two records
next-left : (s : State) (fields : List (List ℕ)) (field xs : List ℕ) (p : Read)
    → next_record default_config s fields field xs ≡ Some p
    → (length p.2 ≤ length xs) × (ends_at_end p.1 ≡ false)
unfolding next_record
next-left s fields field [] p h =
    elim (cases_Bool (ends_at_end s)) [
      | inl end ↦
          let e : Some (fields ++ (field ∷ []), st.StartRecord, []) ≡ Some p = rw end at h in
          let same : (fields ++ (field ∷ []), st.StartRecord, []) ≡ p = cc in
          rw (← same) (omega arith, refl)
      | inr none ↦ let e : None ≡ Some p = rw none at h in absurd cc
    ]
next-left s fields field (c ∷ rest) p h =
    elim (cases_Bool (is_end (step default_config s c).1)) [
      | inl end ↦
          let e : Some (
            fields_after (step default_config s c).1 fields field,
            (step default_config s c).0,
            rest,
          )
          ≡ Some p = rw end at h in
          let same : (
            fields_after (step default_config s c).1 fields field,
            (step default_config s c).0,
            rest,
          ) ≡ p =
          cc in
          rw (← same) (omega arith, step-between s c end)
      | inr on ↦
          let more = next-left (step default_config s c).0 _ _ rest p (rw on at h) in
          (omega (arith, more.0), more.1)
    ]

-- a record that begins between two takes a byte at least
record-shorter : (s : State) (xs : List ℕ) (p : Read) → ends_at_end s ≡ false →
    next_record default_config s [] [] xs
    ≡ Some p
    → (length p.2 + 1 ≤ length xs) × (ends_at_end p.1 ≡ false)
unfolding next_record
record-shorter s [] p between h = let none : None ≡ Some p = rw between at h in absurd cc
record-shorter s (c ∷ rest) p between h =
    elim (cases_Bool (is_end (step default_config s c).1)) [
      | inl end ↦
          let e : Some (
            fields_after (step default_config s c).1 [] [],
            (step default_config s c).0,
            rest,
          ) ≡ Some p =
          rw end at h in
          let same : (
            fields_after (step default_config s c).1 [] [],
            (step default_config s c).0,
            rest,
          ) ≡ p = cc in
          rw (← same) (omega arith, step-between s c end)
      | inr on ↦
          let more = next-left (step default_config s c).0 _ _ rest p (rw on at h) in
          (omega (arith, more.0), more.1)
    ]

-- no more records are reached than there are bytes
reached-count : (s : State) (xs : List ℕ) (rows : List (List (List ℕ))) (s2 : State) (ys : List ℕ) →
    ends_at_end s
    ≡ false
    → Reached default_config s xs rows s2 ys → length rows + length ys ≤ length xs
unfolding Reached
reached-count s xs [] s2 ys between h = rw h.1 (omega arith)
reached-count s xs (r ∷ rows) s2 ys between h =
    let (p, next, same, more) = h in
    let left = record-shorter s xs p between next in
    let rest = reached-count p.1 p.2 rows s2 ys left.1 more in
    omega (arith, left.0, rest)

-- the records of a text begin with those that were reached
records-reached : (m : ℕ) (s : State) (xs : List ℕ) (rows : List (List (List ℕ))) (s2 : State)
    (ys : List ℕ)
    → length rows ≤ m
    → Reached default_config s xs rows s2 ys → records_from default_config m s xs ≡ rows
    ++ records_from default_config (m - length rows) s2 ys
unfolding Reached records_from
records-reached m s xs [] s2 ys le h = let same : m ≡ m - 0 = omega arith in
    rw (h.0, h.1, ← same) refl
records-reached zero s xs (r ∷ rows) s2 ys le h = absurd (omega arith)
records-reached (suc m) s xs (r ∷ rows) s2 ys le h =
    let (p, next, same, more) = h in
    let rest = records-reached m p.1 p.2 rows s2 ys (omega arith) more in
    let count : suc m - suc (length rows) ≡ m - length rows = omega arith in
    rw (next, same, rest, count) refl

records-end : (m : ℕ) (s : State) (xs : List ℕ) → next_record default_config s [] [] xs ≡ None
    → records_from default_config m s xs ≡ []
unfolding records_from
records-end zero s xs h = refl
records-end (suc m) s xs h = rw h refl

-- the records of a text are those reached, and more
pub all_records : (text : List ℕ) (rows : List (List (List ℕ))) (state : State) (rest : List ℕ)
    → Reached default_config st.StartRecord (strip_bom text) rows state rest
    → (more : List (List (List ℕ))) × (records_of text ≡ rows ++ more)
    × (next_record default_config state [] [] rest ≡ None → more ≡ [])
all_records text rows state rest h =
    let few = reached-count st.StartRecord (strip_bom text) rows state rest refl h in
    let left = length (strip_bom text) + 1 - length rows in (
      records_from default_config left state rest,
      records-reached (length (strip_bom text) + 1) st.StartRecord (strip_bom text) rows state rest
          (omega arith) h,
      (λ none. records-end left state rest none),
    )

-- ---- what the records make

with_records-append : (n : ℕ) (ranges : List Range) (xs ys : List (List (List ℕ)))
    → with_records n ranges (xs ++ ys)
    ≡ (with_records n ranges xs >>= (λ more. with_records (n + length xs) more ys))
with_records-append n ranges [] ys = let same : n + 0 ≡ n = omega arith in rw same refl
with_records-append n ranges (x ∷ xs) ys =
    let place : n + suc (length xs) ≡ n + 1 + length xs = omega arith in
    rw place (go (λ more. with_records-append (n + 1) more xs ys) (with_record n ranges x))
  where
    go : ((more : List Range) → with_records (n + 1) more (xs ++ ys)
        ≡ (with_records (n + 1) more xs >>= (λ others. with_records (n + 1 + length xs) others ys)))
        → (r : Result (List Range) RangeFault)
        → (r >>= (λ more. with_records (n + 1) more (xs ++ ys)))
        ≡ ((r >>= (λ more. with_records (n + 1) more xs)) >>=
        (λ more. with_records (n + 1 + length xs) more ys))
    go later (Ok more) = later more
    go later (Err e) = refl

-- one record more
made-more : (rows : List (List (List ℕ))) (ranges : List Range) (n : ℕ) (fields : List (List ℕ))
    (r : Result (List Range) RangeFault)
    → with_records 1 [] rows ≡ Ok ranges → n ≡ length rows + 1 → with_record n ranges fields ≡ r
    → with_records 1 [] (rows ++ fields ∷ []) ≡ r
made-more rows ranges n fields r made count is =
    let place : 1 + length rows ≡ n = omega (arith, count) in
    with_records-append 1 [] rows (fields ∷ [])
    ∙ rw (made, place, is) (last r)
  where
    last : (q : Result (List Range) RangeFault) → (q >>= (λ more. Ok more)) ≡ q
    last (Ok more) = refl
    last (Err e) = refl

-- Where a reader stands: the records read so far made this list, and the record at hand has this
-- number.
pub record Stands (text : List ℕ) (left : Option (List ℕ)) (state : State) (ranges : List Range)
    (number : ℕ) : Type 0
  where
    pub rows : List (List (List ℕ))
    pub rest : List ℕ
    pub left_is : left ≡ Some rest
    pub reached : Reached default_config st.StartRecord (strip_bom text) rows state rest
    pub made : with_records 1 [] rows ≡ Ok ranges
    pub count : number ≡ length rows + 1

pub stands-start : (text : List ℕ) (left : Option (List ℕ)) (state : State) (ranges : List Range) →
    left
    ≡ Some (strip_bom text) → state ≡ st.StartRecord → ranges ≡ []
    → Stands text left state ranges 1
unfolding Reached
stands-start text left state ranges l s none = record {
  rows = [];
  rest = strip_bom text;
  left_is = l;
  reached = (sym s, refl);
  made = ap (λ (rs : List Range). Ok rs) (sym none);
  count = refl;
}

pub stands-more : {R : Type 0} (rem : R → Option (List ℕ)) (text : List ℕ) (a b : Reader R)
    (ranges more : List Range)
    (n : ℕ) (fields : List (List ℕ))
    → Stands text (source_of rem a) a.state ranges n → a.config ≡ default_config →
    ReadRecord rem a b true fields
    → with_record n ranges fields ≡ Ok more → Stands text (source_of rem b) b.state more (n + 1)
stands-more rem text a b ranges more n fields p config read is =
    let (rest, left, reached) = rows-more rem a b fields default_config st.StartRecord
    (strip_bom text) p.rest p.rows
    config p.left_is p.reached read in
    record {
      rows = p.rows ++ fields ∷ [];
      rest = rest;
      left_is = left;
      reached = reached;
      made = made-more p.rows ranges n fields (Ok more) p.made p.count is;
      count = omega (arith, p.count, length_push p.rows fields);
    }

-- the record that was read is refused
pub stands-refused : {R : Type 0} (rem : R → Option (List ℕ)) (text : List ℕ) (a b : Reader R)
    (ranges : List Range)
    (n : ℕ) (fields : List (List ℕ)) (fault : RangeFault)
    → Stands text (source_of rem a) a.state ranges n → a.config ≡ default_config →
    ReadRecord rem a b true fields
    → with_record n ranges fields ≡ Err fault → ranges_of_text text ≡ Err fault
stands-refused rem text a b ranges n fields fault p config read is =
    let (rest, left, reached) = rows-more rem a b fields default_config st.StartRecord
    (strip_bom text) p.rest p.rows
    config p.left_is p.reached read in
    let (later, all, end) = all_records text (p.rows ++ fields ∷ []) b.state rest reached in
    let made = made-more p.rows ranges n fields (Err fault) p.made p.count is in
    ap (λ (rs : List (List (List ℕ))). with_records 1 [] rs) all
    ∙ with_records-append 1 [] (p.rows ++ fields ∷ []) later ∙ rw made refl

-- the reader found no other record
pub stands-end : {R : Type 0} (rem : R → Option (List ℕ)) (text : List ℕ) (a b : Reader R)
    (ranges : List Range) (n : ℕ)
    (fields : List (List ℕ))
    → Stands text (source_of rem a) a.state ranges n → a.config ≡ default_config →
    ReadRecord rem a b false fields
    → ranges_of_text text ≡ Ok ranges
stands-end rem text a b ranges n fields p config read =
    let none = rows-end rem a b fields default_config p.rest config p.left_is read in
    let (later, all, end) = all_records text p.rows a.state p.rest p.reached in
    let rows : records_of text ≡ p.rows = all ∙ ap (λ (more : List (List (List ℕ))). p.rows ++ more)
    (end none)
    ∙ append-nil p.rows in
    ap (λ (rs : List (List (List ℕ))). with_records 1 [] rs) rows ∙ p.made

-- the record at hand could not be had
pub stands-stopped : (text : List ℕ) (left : Option (List ℕ)) (state : State) (ranges : List Range)
    (n : ℕ)
    → Stands text left state ranges n → StopsBefore n text
stands-stopped text left state ranges n p =
    let (later, all, end) = all_records text p.rows state p.rest p.reached in
    let size : length (records_of text) ≡ length p.rows + length later =
    ap length all ∙ length-append p.rows later in
    let before : n - 1 ≡ length p.rows = omega (arith, p.count) in
    let front : take (n - 1) (records_of text) ≡ p.rows =
    rw (all, before) (take_at p.rows later (length p.rows) refl) in
    (omega (arith, p.count), omega (arith, p.count, size), rw (front, p.made) refl)

-- ---- why reading stopped

pub stops-unread : (text : List ℕ) (n : ℕ) (stop : ReadStop) → StopsBefore n text →
    (stop ≡ Fault Memory)
    ⊎ (stop ≡ Unread n) → Stops text stop
stops-unread text n stop h (inl memory) = rw memory (inr refl)
stops-unread text n stop h (inr unread) = rw unread h

-- the record that was read is refused, or memory ran out for it
pub stops-refused : {R : Type 0} (rem : R → Option (List ℕ)) (text : List ℕ) (a b : Reader R)
    (ranges : List Range)
    (n : ℕ) (fields : List (List ℕ)) (fault : RangeFault)
    → Stands text (source_of rem a) a.state ranges n → a.config ≡ default_config →
    ReadRecord rem a b true fields
    → (fault ≡ Memory) ⊎ (with_record n ranges fields ≡ Err fault) → Stops text (Fault fault)
stops-refused rem text a b ranges n fields fault p config read (inl memory) = inr memory
stops-refused rem text a b ranges n fields fault p config read (inr refused) =
    inl (stands-refused rem text a b ranges n fields fault p config read refused)
