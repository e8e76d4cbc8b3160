-- Lines that are CSV read back as the fields that each was made of.
use Rattle.std.proofs.Common.{◌≡◌, ℕ, zero, suc, ◌≤◌, List, [], ◌∷◌, ◌++◌, length, map, cond}
use Rattle.std.proofs.Common.{refl, ap, arith}
use Rattle.std.specs.Prelude.{flat_map}
use Rattle.std.proofs.lemmas.List.{length-append}
use Rattle.csv.specs.Machine.{next_record}
use Rattle.csv.specs.Reading.{default_config, records_from}
use Rattle.csv.specs.Writing.{default_writer, is_blank, read_back, row_body}
use Rattle.csv.specs.declared.parser.State.TheVariants as st
use Rattle.csv.proofs.RoundTrip.{read-write}
use Rattle.acq_reports.specs.Marks.{csv_line}

-- what ends with a line feed has a byte
some_byte : (body blank : List ℕ) → 1 ≤ length (body ++ (blank ++ 10 ∷ []))
some_byte body blank =
    let end : List ℕ = 10 ∷ [] in
    omega (arith, length-append body (blank ++ end), length-append blank end)

-- `whole` says that what is read back of a row's fields is the same: it is, where there are some
module _ {Row : Type 0} (fields : Row → List (List ℕ))
    (whole : (row : Row) → read_back (fields row) ≡ fields row) where
  -- a row's line
  abbrev pub line : Row → List ℕ
  line row = csv_line (fields row)

  line_some : (row : Row) → 1 ≤ length (line row)
  line_some row =
      some_byte (row_body default_writer (fields row))
      (cond (is_blank default_writer (fields row)) (34 ∷ 34 ∷ []) [])

  -- each record has a byte at least
  pub fewer_records : (rows : List Row) → length rows ≤ length (flat_map line rows)
  fewer_records [] = omega arith
  fewer_records (row ∷ rows) =
      let rest = fewer_records rows in
      let some = line_some row in
      omega (arith, length-append (line row) (flat_map line rows))

  -- the records of the rows' lines
  pub read_lines : (n : ℕ) (rows : List Row) → length rows ≤ n →
      records_from default_config n st.StartRecord (flat_map line rows) ≡ map fields rows
  unfolding records_from next_record
  read_lines zero [] within = refl
  read_lines (suc n) [] within = refl
  read_lines zero (row ∷ rows) within = absurd (omega arith)
  read_lines (suc n) (row ∷ rows) within =
      rw (read-write (fields row) (flat_map line rows), whole row)
      (ap (λ (rest : List (List (List ℕ))). fields row ∷ rest)
      (read_lines n rows (omega arith)))
