-- What the walks mean: which columns of which rows they show, and in which order.
use Rattle.std.specs.Prelude.{ℕ, List, [], ◌∷◌, codes}
use Rattle.sqlite_value.specs.declared.keys.Collation.TheVariants.{Binary}
use Rattle.sqlite_value.specs.declared.value.Value.TheVariants.{Text}
use Rattle.sqlite_sql.specs.declared.ops.BinaryOp.TheVariants.{Compare, Or}
use Rattle.sqlite_sql.specs.declared.ops.CompareOp.TheVariants.{Eq, Ge, Gt}
use Rattle.sqlite_sql.specs.Term.{Term, lit, op2}
use Rattle.sqlite_sql.specs.Query.{Query}
use Rattle.row_lemmas.specs.Values.{number}
use Rattle.row_lemmas.specs.Queries.{plain_query, column, param, is_param, rising}
use Rattle.acq_sql_rows.specs.Queries.{columns}
use Rattle.acq_sql_reads.specs.Queries.{range_columns}

-- postings that pass, by merchant, and of one merchant by number
abbrev pub query_of_postings : List Term → Query
query_of_postings passing =
    plain_query 8 passing (columns 1 9) ((column 1, rising) ∷ (column 3, rising) ∷ [])

-- a column is above a parameter
abbrev pub is_above : ℕ → ℕ → Term
is_above at given = op2 (Compare Gt Binary) (column at) (param given)

-- one that is this or above it
abbrev pub is_from : ℕ → ℕ → Term
is_from at given = op2 (Compare Ge Binary) (column at) (param given)

abbrev pub postings_query : Query
postings_query = query_of_postings (is_param 2 0 ∷ [])

abbrev pub above_query : Query
above_query = query_of_postings (is_param 2 0 ∷ is_param 1 1 ∷ is_above 3 2 ∷ [])

abbrev pub behind_query : Query
behind_query = query_of_postings (is_param 2 0 ∷ is_from 1 1 ∷ [])

abbrev pub merchants_query : Query
merchants_query = plain_query 1 [] (columns 1 3) ((column 1, rising) ∷ [])

-- by merchant, and of one merchant by name
abbrev pub terminals_query : Query
terminals_query = plain_query 3 [] (columns 1 2) ((column 1, rising) ∷ (column 2, rising) ∷ [])

-- low is the rowid
abbrev pub ranges_query : Query
ranges_query = plain_query 5 [] range_columns ((column 0, rising) ∷ [])

-- a status is this one
abbrev pub has_status : ℕ → Term
has_status status = op2 (Compare Eq Binary) (column 8) (lit (number status))

-- an approved authorization, which may have been lowered
abbrev pub is_hold : List Term
is_hold =
    op2 (Compare Eq Binary) (column 3) (lit (Text (codes "010")))
    ∷ op2 Or (has_status 3) (has_status 8) ∷ []

abbrev pub holds_query : Query
holds_query =
    plain_query 6 (is_param 1 0 ∷ is_hold) (columns 1 18) ((column 10, rising) ∷ [])

-- requests that pass, by rowid, which is column 0 and rises as rows come
abbrev pub query_of_requests : List Term → Query
query_of_requests passing = plain_query 6 passing (columns 1 18) ((column 0, rising) ∷ [])

abbrev pub waiting_query : Query
waiting_query = query_of_requests (has_status 1 ∷ [])

abbrev pub requests_behind_query : Query
requests_behind_query = query_of_requests (is_above 0 0 ∷ [])
