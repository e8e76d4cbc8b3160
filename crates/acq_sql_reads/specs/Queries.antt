-- What the look-ups mean: which columns of which rows they show.
use Rattle.std.specs.Prelude.{ℕ, List, [], ◌∷◌, pos, None, Some}
use Rattle.sqlite_value.specs.declared.keys.Collation.TheVariants.{Binary}
use Rattle.sqlite_value.specs.declared.value.Value.TheVariants.{Int}
use Rattle.sqlite_sql.specs.declared.ops.BinaryOp.TheVariants.{Compare}
use Rattle.sqlite_sql.specs.declared.ops.CompareOp.TheVariants.{Eq, Le}
use Rattle.sqlite_sql.specs.Term.{Term, lit, op2}
use Rattle.sqlite_sql.specs.Query.{Query}
use Rattle.row_lemmas.specs.Queries.{plain_query, table_query, no_limit, counting, column}
use Rattle.row_lemmas.specs.Queries.{param, is_param, rising, falling}
use Rattle.acq_sql_rows.specs.Queries.{columns, key_is}

-- the first two columns are the first two parameters
abbrev pub two_are : List Term
two_are = is_param 1 0 ∷ is_param 2 1 ∷ []

abbrev pub business_query : Query
business_query = plain_query 0 [] (column 2 ∷ column 3 ∷ []) []

abbrev pub merchant_query : Query
merchant_query = plain_query 1 (is_param 1 0 ∷ []) (columns 1 3) []

abbrev pub terminal_query : Query
terminal_query = plain_query 3 two_are (columns 1 2) []

abbrev pub running_query : Query
running_query = plain_query 12 two_are (columns 3 9) []

-- how many rows of a table pass
abbrev pub count_query : ℕ → List Term → Query
count_query tree filter = table_query tree filter (Some counting) (column 0 ∷ []) [] no_limit

abbrev pub terminal_count_query : Query
terminal_count_query = count_query 3 []

-- ---- ranges: low is the rowid

abbrev pub one : Term
one = lit (Int (pos 1))

abbrev pub range_columns : List Term
range_columns = column 0 ∷ column 2 ∷ column 3 ∷ column 4 ∷ []

abbrev pub at_most : Term → Term → Term
at_most = op2 (Compare Le Binary)

abbrev pub nearest_query : Query
nearest_query =
    table_query 5 (at_most (column 0) (param 0) ∷ []) None range_columns
    ((column 0, falling) ∷ []) one

abbrev pub overlapping_query : Query
overlapping_query =
    table_query 5
    (at_most (param 0) (column 0) ∷ at_most (param 1) (column 2)
    ∷ at_most (column 0) (param 2) ∷ [])
    None range_columns ((column 0, rising) ∷ []) one

abbrev pub range_count_query : Query
range_count_query = count_query 5 []

-- ---- requests

-- status 1 is that of a pending request
abbrev pub waiting : List Term
waiting = op2 (Compare Eq Binary) (column 8) one ∷ []

abbrev pub waiting_count_query : Query
waiting_count_query = count_query 6 waiting

abbrev pub pending_on : List Term
pending_on = op2 (Compare Eq Binary) (column 8) one ∷ is_param 7 0 ∷ []

abbrev pub pending_query : Query
pending_query = count_query 6 pending_on

-- one that was admitted on a day
abbrev pub admitted_on : List Term
admitted_on = op2 (Compare Eq Binary) (column 9) one ∷ is_param 7 0 ∷ []

abbrev pub used_on_query : Query
used_on_query = count_query 6 admitted_on

abbrev pub request_query : Query
request_query = plain_query 6 key_is (columns 1 18) []

abbrev pub reference_query : Query
reference_query = plain_query 6 (is_param 1 0 ∷ is_param 10 1 ∷ []) (columns 1 18) []

abbrev pub greatest_query : Query
greatest_query =
    table_query 6 (is_param 1 0 ∷ []) None (column 10 ∷ []) ((column 10, falling) ∷ []) one

-- ---- reconciliations

abbrev pub reconciliation_query : Query
reconciliation_query =
    table_query 10 (is_param 2 0 ∷ is_param 1 1 ∷ []) None (column 3 ∷ column 4 ∷ [])
    ((column 3, falling) ∷ []) one
