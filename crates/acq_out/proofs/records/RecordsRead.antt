-- The records of a text, read one after the other, and the values that they spell.
use Rattle.std.proofs.Common.{◌≡◌, ℕ, suc, ◌+◌, true, false, List, [], ◌∷◌, ◌++◌, length, Option}
use Rattle.std.proofs.Common.{Some, None}
use Rattle.std.proofs.Common.{Ok, Err, refl, sym, ap, ◌∙◌, append_assoc, leb, inl, inr, arith}
use Rattle.std.specs.Prelude.{Bool, not, filter_map, ◌⊎◌}
use Rattle.std.specs.List.{prefix_len}
use Rattle.std.proofs.lemmas.List.{append-nil, length_push, length-append}
use Rattle.std.proofs.lemmas.List.Elements.{filter_map-append}
use Rattle.std.proofs.lemmas.List.Folds.{prefix_len-append}
use Rattle.std.proofs.lemmas.Bool.{cond-true, eq-eqb, lt-leb, le-leb}
use Rattle.csv.specs.Reading.{Reached, ReadRecord, default_config, source_of, strip_bom}
use Rattle.csv.specs.declared.reader.Reader.{Reader}
use Rattle.csv.specs.declared.parser.State.{State}
use Rattle.csv.specs.declared.parser.State.TheVariants as st
use Rattle.csv.proofs.ReadFacts.{rows-end, rows-more}
use Rattle.card_no.specs.RangeFiles.{records_of}
use Rattle.card_no.proofs.FileRecords.{all_records}
use Rattle.acq_out.specs.Records.{Spelling, is_bad, values_of_records, values_of_text}
use Rattle.acq_out.specs.RecordReads.{ReadsValues}
use Rattle.acq_out.specs.RecordFaults.{reads_failed}
use Rattle.acq_out.specs.declared.records.record_fault.RecordFault.{RecordFault}
use Rattle.acq_out.specs.declared.records.record_fault.RecordFault.TheVariants.{Memory, BadRecord}

module _ {V : Type 0} (spelled : Spelling V) where
  -- whether a record spells a value
  abbrev pub is_good : List (List ℕ) → Bool
  is_good fields = not (is_bad spelled fields)

  -- Where a reader stands: the records read so far spell these values, and the record at hand has
  -- this number.
  pub record Stands (text : List ℕ) (left : Option (List ℕ)) (state : State) (values : List V)
      (number : ℕ) : Type 0
    where
      pub rows : List (List (List ℕ))
      pub rest : List ℕ
      pub left_is : left ≡ Some rest
      pub reached : Reached default_config st.StartRecord (strip_bom text) rows state rest
      pub good : prefix_len is_good rows ≡ length rows
      pub made : filter_map spelled rows ≡ values
      pub count : number ≡ length rows + 1

  pub stands-start : (text : List ℕ) (left : Option (List ℕ)) (state : State) (values : List V) →
      left
      ≡ Some (strip_bom text) → state ≡ st.StartRecord → values ≡ []
      → Stands text left state values 1
  unfolding Reached
  stands-start text left state values l s none = record {
    rows = [];
    rest = strip_bom text;
    left_is = l;
    reached = (sym s, refl);
    good = refl;
    made = sym none;
    count = refl;
  }

  pub stands-more : {R : Type 0} (rem : R → Option (List ℕ)) (text : List ℕ) (a b : Reader R)
      (values more : List V)
      (n : ℕ) (fields : List (List ℕ)) (value : V)
      → Stands text (source_of rem a) a.state values n → a.config ≡ default_config →
      ReadRecord rem a b true fields
      → spelled fields ≡ Some value → more ≡ values ++ value ∷ []
      → Stands text (source_of rem b) b.state more (n + 1)
  stands-more rem text a b values more n fields value p config read is new =
      let (rest, left, reached) = rows-more rem a b fields default_config st.StartRecord
      (strip_bom text) p.rest p.rows
      config p.left_is p.reached read in
      let last : filter_map spelled (fields ∷ []) ≡ value ∷ [] = rw is refl in
      let one : prefix_len is_good (fields ∷ []) ≡ 1 = rw is refl in
      let size = length_push p.rows fields in
      record {
        rows = p.rows ++ fields ∷ [];
        rest = rest;
        left_is = left;
        reached = reached;
        good = omega (
          arith,
          prefix_len-append is_good p.rows (fields ∷ []) ∙ cond-true _ _ _
              (eq-eqb _ _ p.good),
          one,
          size,
        );
        made = filter_map-append spelled p.rows (fields ∷ []) ∙ rw (p.made, last) (sym new);
        count = omega (arith, p.count, size);
      }

  -- the record that was read spells no value
  pub stands-bad : {R : Type 0} (rem : R → Option (List ℕ)) (text : List ℕ) (a b : Reader R)
      (values : List V)
      (n : ℕ) (fields : List (List ℕ))
      → Stands text (source_of rem a) a.state values n → a.config ≡ default_config →
      ReadRecord rem a b true fields
      → spelled fields ≡ None → values_of_text spelled text ≡ Err n
  stands-bad rem text a b values n fields p config read is =
      let (rest, left, reached) = rows-more rem a b fields default_config st.StartRecord
      (strip_bom text) p.rest p.rows
      config p.left_is p.reached read in
      let (later, all, end) = all_records text (p.rows ++ fields ∷ []) b.state rest reached in
      let whole : records_of text ≡ p.rows ++ (fields ∷ later) =
      all ∙ append_assoc p.rows (fields ∷ []) later in
      let none : prefix_len is_good (fields ∷ later) ≡ 0 = rw is refl in
      let place : prefix_len is_good (p.rows ++ (fields ∷ later)) ≡ length p.rows =
      omega (
        arith,
        prefix_len-append is_good p.rows (fields ∷ later) ∙ cond-true _ _ _
            (eq-eqb _ _ p.good),
        none,
      ) in
      let size = length-append p.rows (fields ∷ later) in
      let before : leb (suc (length p.rows)) (length (p.rows ++ (fields ∷ later))) ≡ true =
      le-leb _ _ (omega (arith, size)) in
      ap (values_of_records spelled) whole ∙ rw (place, before)
      (ap (λ (k : ℕ). Err k) (sym p.count))

  -- the reader found no other record
  pub stands-end : {R : Type 0} (rem : R → Option (List ℕ)) (text : List ℕ) (a b : Reader R)
      (values : List V) (n : ℕ)
      (fields : List (List ℕ))
      → Stands text (source_of rem a) a.state values n → a.config ≡ default_config →
      ReadRecord rem a b false fields
      → values_of_text spelled text ≡ Ok values
  stands-end rem text a b values n fields p config read =
      let none = rows-end rem a b fields default_config p.rest config p.left_is read in
      let (later, all, end) = all_records text p.rows a.state p.rest p.reached in
      let rows : records_of text ≡ p.rows =
      all ∙ ap (λ (more : List (List (List ℕ))). p.rows ++ more) (end none)
      ∙ append-nil p.rows in
      let past : leb (suc (length p.rows)) (length p.rows) ≡ false = lt-leb _ _ (omega arith) in
      ap (values_of_records spelled) rows ∙ rw (p.good, past, p.made) refl

  -- the record that was read spells no value, or memory ran out for it
  pub reads-failed : {R : Type 0} (rem : R → Option (List ℕ)) (text : List ℕ) (a b : Reader R)
      (values : List V)
      (n : ℕ) (fields : List (List ℕ)) (fault : RecordFault)
      → Stands text (source_of rem a) a.state values n → a.config ≡ default_config →
      ReadRecord rem a b true fields
      → (fault ≡ Memory) ⊎ ((fault ≡ BadRecord n) × (spelled fields ≡ None)) →
      ReadsValues spelled text (Err fault)
  reads-failed rem text a b values n fields fault p config read (inl memory) = rw memory tt
  reads-failed rem text a b values n fields fault p config read (inr bad) =
      rw bad.0 (stands-bad rem text a b values n fields p config read bad.1)

-- no read fails where a record is refused
pub no_reads : (fault : RecordFault) (n : ℕ) (P : Type 0) →
    (fault ≡ Memory) ⊎ ((fault ≡ BadRecord n) × P)
    → reads_failed fault ≡ 0
no_reads fault n P (inl memory) = rw memory refl
no_reads fault n P (inr bad) = rw bad.0 refl
