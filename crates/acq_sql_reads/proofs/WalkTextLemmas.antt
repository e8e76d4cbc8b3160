-- What the texts of the walks mean, computed.
use Rattle.std.proofs.Common.{ℕ, List, refl, [], ◌∷◌, codes}
use Rattle.sqlite_tied.specs.Compute.{everything}
use Rattle.sqlite.specs.Listing.{understood}
use Rattle.acq_sql_rows.specs.Schema.{book_schema}
use Rattle.acq_sql_reads.proofs.TextLemmas.{Asks, range_names, request_names}
use Rattle.acq_sql_reads.specs.WalkTexts as text
use Rattle.acq_sql_reads.specs.WalkQueries as query

abbrev pub columns_of_postings : List (List ℕ)
columns_of_postings =
    codes "merchant" ∷ codes "day" ∷ codes "number" ∷ codes "leg" ∷ codes "amount"
    ∷ codes "reference" ∷ codes "card" ∷ codes "terminal" ∷ codes "trace" ∷ []

pub postings_asks : Asks text.postings_text query.postings_query columns_of_postings
unfolding understood everything book_schema
postings_asks = record {
  is = λ form. refl;
  plain = λ form. (refl, refl);
  unlisted = λ form. refl;
  begins = refl;
}

pub above_asks : Asks text.above_text query.above_query columns_of_postings
unfolding understood everything book_schema
above_asks = record {
  is = λ form. refl;
  plain = λ form. (refl, refl);
  unlisted = λ form. refl;
  begins = refl;
}

pub behind_asks : Asks text.behind_text query.behind_query columns_of_postings
unfolding understood everything book_schema
behind_asks = record {
  is = λ form. refl;
  plain = λ form. (refl, refl);
  unlisted = λ form. refl;
  begins = refl;
}

pub merchants_asks :
    Asks text.merchants_text query.merchants_query
    (codes "merchant" ∷ codes "currency" ∷ codes "first" ∷ [])
unfolding understood everything book_schema
merchants_asks = record {
  is = λ form. refl;
  plain = λ form. (refl, refl);
  unlisted = λ form. refl;
  begins = refl;
}

pub terminals_asks : Asks text.terminals_text query.terminals_query
    (codes "merchant" ∷ codes "terminal" ∷ [])
unfolding understood everything book_schema
terminals_asks = record {
  is = λ form. refl;
  plain = λ form. (refl, refl);
  unlisted = λ form. refl;
  begins = refl;
}

pub ranges_asks : Asks text.ranges_text query.ranges_query range_names
unfolding understood everything book_schema
ranges_asks = record {
  is = λ form. refl;
  plain = λ form. (refl, refl);
  unlisted = λ form. refl;
  begins = refl;
}

pub holds_asks : Asks text.holds_text query.holds_query request_names
unfolding understood everything book_schema
holds_asks = record {
  is = λ form. refl;
  plain = λ form. (refl, refl);
  unlisted = λ form. refl;
  begins = refl;
}

pub waiting_asks : Asks text.waiting_text query.waiting_query request_names
unfolding understood everything book_schema
waiting_asks = record {
  is = λ form. refl;
  plain = λ form. (refl, refl);
  unlisted = λ form. refl;
  begins = refl;
}

pub requests_behind_asks :
    Asks text.requests_behind_text query.requests_behind_query request_names
unfolding understood everything book_schema
requests_behind_asks = record {
  is = λ form. refl;
  plain = λ form. (refl, refl);
  unlisted = λ form. refl;
  begins = refl;
}
