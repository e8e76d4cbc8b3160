-- What the writes mean.
use Rattle.std.specs.Prelude.{List, ℕ, pos, negsuc, [], ◌∷◌, map, Some}
use Rattle.std.specs.List.{range_with_len}
use Rattle.sqlite_value.specs.declared.value.Value.TheVariants.{Null, Int}
use Rattle.sqlite_sql.specs.declared.ops.BinaryOp.TheVariants.{Arith}
use Rattle.sqlite_sql.specs.declared.ops.ArithOp.TheVariants.{Add, Sub, Mul}
use Rattle.sqlite_sql.specs.Term.{Term, lit, op2}
use Rattle.sqlite_sql.specs.Query.{Query}
use Rattle.sqlite_schema.specs.declared.command.Upsert.{Upsert}
use Rattle.row_lemmas.specs.Queries.{plain_query, alone, column, param, is_param}
use Rattle.acq_sql_rows.specs.Rows.{version}
use Rattle.acq_sql_rows.specs.Schema.{book_tree, ranges_tree, requests_tree, running_tree}

-- a row of so many parameters, with a rowid that is chosen for it
abbrev pub new_row : ℕ → List Term
new_row width = lit Null ∷ map param (range_with_len 0 width)

-- columns of the row, from one to another
abbrev pub columns : ℕ → ℕ → List Term
columns from len = map column (range_with_len from len)

abbrev pub constant : ℕ → Term
constant n = lit (Int (pos n))

-- ---- the book's row

abbrev pub set_day_query : Query
set_day_query =
    plain_query book_tree [] (column 0 ∷ column 0 ∷ column 1 ∷ column 2 ∷ param 0 ∷ []) []

abbrev pub version_columns : List Term
version_columns = column 0 ∷ constant version ∷ column 2 ∷ column 3 ∷ []

abbrev pub set_version_query : Query
set_version_query = plain_query book_tree [] (column 0 ∷ version_columns) []

-- ---- ranges: low is the rowid, and its column stands empty

abbrev pub new_range : List Term
new_range = param 0 ∷ lit Null ∷ param 1 ∷ param 2 ∷ param 3 ∷ []

abbrev pub ends_are : List Term
ends_are = is_param 0 0 ∷ is_param 2 1 ∷ []

abbrev pub drop_range_query : Query
drop_range_query = plain_query ranges_tree ends_are (column 0 ∷ []) []

-- -1 - x
abbrev pub turned : Term → Term
turned x = op2 (Arith Sub) (lit (Int (negsuc 0))) x

-- x * 100
abbrev pub hundredfold : Term → Term
hundredfold x = op2 (Arith Mul) x (constant 100)

-- what becomes of a range's columns
abbrev pub widened_columns : List Term
widened_columns =
    turned (hundredfold (column 0)) ∷ lit Null
    ∷ op2 (Arith Add) (hundredfold (column 2)) (constant 99) ∷ column 3 ∷ column 4 ∷ []

abbrev pub widen_ranges_query : Query
widen_ranges_query = plain_query ranges_tree [] (column 0 ∷ widened_columns) []

abbrev pub turned_columns : List Term
turned_columns = turned (column 0) ∷ lit Null ∷ column 2 ∷ column 3 ∷ column 4 ∷ []

abbrev pub turn_ranges_query : Query
turn_ranges_query = plain_query ranges_tree [] (column 0 ∷ turned_columns) []

-- ---- requests

-- merchant, terminal, kind, trace and stamp are the first five parameters
abbrev pub key_is : List Term
key_is = is_param 1 0 ∷ is_param 2 1 ∷ is_param 3 2 ∷ is_param 4 3 ∷ is_param 5 4 ∷ []

abbrev pub answer_query : Query
answer_query =
    plain_query requests_tree key_is
    (column 0 ∷ column 0 ∷ column 1 ∷ column 2 ∷ column 3 ∷ column 4 ∷ column 5 ∷ column 6
    ∷ column 7 ∷ param 5 ∷ column 9 ∷ column 10 ∷ column 11 ∷ column 12 ∷ column 13 ∷ column 14
    ∷ column 15 ∷ column 16 ∷ param 6 ∷ param 7 ∷ []) []

abbrev pub follow_query : Query
follow_query =
    plain_query requests_tree key_is
    (column 0 ∷ column 0 ∷ column 1 ∷ column 2 ∷ column 3 ∷ column 4 ∷ column 5 ∷ column 6
    ∷ column 7 ∷ param 5 ∷ column 9 ∷ column 10 ∷ column 11 ∷ param 6 ∷ column 13 ∷ column 14
    ∷ column 15 ∷ column 16 ∷ column 17 ∷ column 18 ∷ []) []

-- ---- running totals

-- a column and a parameter
abbrev pub plus_param : ℕ → ℕ → Term
plus_param at given = op2 (Arith Add) (column at) (param given)

-- parameter 11 is the rowid of the row that is there
abbrev pub raise_query : Query
raise_query =
    plain_query running_tree (is_param 0 11 ∷ [])
    (column 0 ∷ column 0 ∷ column 1 ∷ column 2 ∷ plus_param 3 2 ∷ plus_param 4 3 ∷ plus_param 5 4
    ∷ plus_param 6 5 ∷ plus_param 7 6 ∷ plus_param 8 7 ∷ plus_param 9 8 ∷ plus_param 10 9
    ∷ plus_param 11 10 ∷ []) []

-- a row with the same merchant and day is raised
abbrev pub raises : Upsert
raises = record { target = Some (1 ∷ 2 ∷ []); update = Some (alone raise_query) }
