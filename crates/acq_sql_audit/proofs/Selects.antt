-- What the queries of the comparison mean, computed.
use Rattle.std.proofs.Common.{◌≡◌, ℕ, List, [], ◌∷◌, map, refl, ap}
use Rattle.sqlite_value.specs.Order.{Row, column}
use Rattle.sqlite_sql.specs.Query.{Query}
use Rattle.sqlite_sql.specs.Term.{eval_all}
use Rattle.sqlite_tied.specs.Compute.{everything}
use Rattle.sqlite.specs.Listing.{understood}
use Rattle.row_lemmas.specs.Queries.{plain_query, rising, column as term}
use Rattle.acq_sql_rows.specs.Schema.{book_schema}
use Rattle.acq_sql_reads.proofs.TextLemmas.{Asks}
use Rattle.acq_sql_audit.specs.Compared.{columns_of, places_of, select_of, tree_of}
use Rattle.acq_sql_audit.specs.declared.table.Table.{Table}
use Rattle.acq_sql_audit.specs.declared.table.Table.TheVariants.{Book, Merchants, Terminals}
use Rattle.acq_sql_audit.specs.declared.table.Table.TheVariants.{Ranges, Requests, Postings}
use Rattle.acq_sql_audit.specs.declared.table.Table.TheVariants.{Reconciliations, Running}

-- the columns of all rows, by rowid
abbrev pub query_of : Table → Query
query_of table =
    plain_query (tree_of table) [] (map term (places_of table)) ((term 0, rising) ∷ [])

pub asks : (table : Table) → Asks (select_of table) (query_of table) (columns_of table)
unfolding understood everything book_schema
asks Book = record {
  is = λ form. refl;
  plain = λ form. (refl, refl);
  unlisted = λ form. refl;
  begins = refl;
}
asks Merchants = record {
  is = λ form. refl;
  plain = λ form. (refl, refl);
  unlisted = λ form. refl;
  begins = refl;
}
asks Terminals = record {
  is = λ form. refl;
  plain = λ form. (refl, refl);
  unlisted = λ form. refl;
  begins = refl;
}
asks Ranges = record {
  is = λ form. refl;
  plain = λ form. (refl, refl);
  unlisted = λ form. refl;
  begins = refl;
}
asks Requests = record {
  is = λ form. refl;
  plain = λ form. (refl, refl);
  unlisted = λ form. refl;
  begins = refl;
}
asks Postings = record {
  is = λ form. refl;
  plain = λ form. (refl, refl);
  unlisted = λ form. refl;
  begins = refl;
}
asks Reconciliations = record {
  is = λ form. refl;
  plain = λ form. (refl, refl);
  unlisted = λ form. refl;
  begins = refl;
}
asks Running = record {
  is = λ form. refl;
  plain = λ form. (refl, refl);
  unlisted = λ form. refl;
  begins = refl;
}

-- what is shown of a row
pub shows_places : (row : Row) (places : List ℕ)
    → eval_all (map term places) ([] ∷ row ∷ []) ≡ map (column row) places
shows_places row [] = refl
shows_places row (at ∷ places) = ap (λ l. column row at ∷ l) (shows_places row places)
