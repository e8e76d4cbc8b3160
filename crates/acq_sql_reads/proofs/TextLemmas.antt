-- What the texts of the look-ups mean, computed.
use Rattle.std.proofs.Common.{◌≡◌, List, ℕ, refl, false, [], ◌∷◌, codes}
use Rattle.sqlite_sql.specs.Query.{Query}
use Rattle.sqlite_schema.specs.declared.command.Command.TheVariants.{Select}
use Rattle.sqlite_tied.specs.Compute.{everything}
use Rattle.sqlite.specs.Listing.{understood, reads_listing}
use Rattle.sqlite.proofs.Callers.{IsPlain, command_of}
use Rattle.row_lemmas.specs.Queries.{alone}
use Rattle.row_lemmas.specs.Selects.{IsSelect}
use Rattle.acq_sql_rows.specs.declared.form.Form.{Form}
use Rattle.acq_sql_rows.specs.Schema.{book_schema}
use Rattle.acq_sql_reads.specs.Texts as text
use Rattle.acq_sql_reads.specs.Queries as query

-- the text is one statement, which reads tables of the book alone, and answers this query
pub record Asks (text : List ℕ) (query : Query) (names : List (List ℕ)) : Type 0 where
  pub is : (form : Form)
      → command_of (understood (book_schema form) text) ≡ Select (alone query) names
  pub plain : (form : Form) → IsPlain (understood (book_schema form) text)
  pub unlisted : (form : Form) → reads_listing (book_schema form) text ≡ false
  pub begins : IsSelect text

pub business_asks : Asks text.business_text query.business_query
    (codes "max_a_day" ∷ codes "day" ∷ [])
unfolding understood everything book_schema
business_asks = record {
  is = λ form. refl;
  plain = λ form. (refl, refl);
  unlisted = λ form. refl;
  begins = refl;
}

pub merchant_asks :
    Asks text.merchant_text query.merchant_query
    (codes "merchant" ∷ codes "currency" ∷ codes "first" ∷ [])
unfolding understood everything book_schema
merchant_asks = record {
  is = λ form. refl;
  plain = λ form. (refl, refl);
  unlisted = λ form. refl;
  begins = refl;
}

pub terminal_asks : Asks text.terminal_text query.terminal_query
    (codes "merchant" ∷ codes "terminal" ∷ [])
unfolding understood everything book_schema
terminal_asks = record {
  is = λ form. refl;
  plain = λ form. (refl, refl);
  unlisted = λ form. refl;
  begins = refl;
}

pub running_asks : Asks text.running_text query.running_query
    (codes "used" ∷ codes "credits" ∷ codes "credit_reversals" ∷ codes "debits"
    ∷ codes "debit_reversals"
    ∷ codes "credit_amount" ∷ codes "credit_reversal_amount" ∷ codes "debit_amount"
    ∷ codes "debit_reversal_amount"
    ∷ [])
unfolding understood everything book_schema
running_asks = record {
  is = λ form. refl;
  plain = λ form. (refl, refl);
  unlisted = λ form. refl;
  begins = refl;
}

abbrev pub range_names : List (List ℕ)
range_names = codes "low" ∷ codes "high" ∷ codes "issuer" ∷ codes "hold_days" ∷ []

pub nearest_asks : Asks text.nearest_text query.nearest_query range_names
unfolding understood everything book_schema
nearest_asks = record {
  is = λ form. refl;
  plain = λ form. (refl, refl);
  unlisted = λ form. refl;
  begins = refl;
}

pub overlapping_asks : Asks text.overlapping_text query.overlapping_query range_names
unfolding understood everything book_schema
overlapping_asks = record {
  is = λ form. refl;
  plain = λ form. (refl, refl);
  unlisted = λ form. refl;
  begins = refl;
}

pub pending_asks : Asks text.pending_text query.pending_query (codes "count(*)" ∷ [])
unfolding understood everything book_schema
pending_asks = record {
  is = λ form. refl;
  plain = λ form. (refl, refl);
  unlisted = λ form. refl;
  begins = refl;
}

pub waiting_count_asks :
    Asks text.waiting_count_text query.waiting_count_query (codes "count(*)" ∷ [])
unfolding understood everything book_schema
waiting_count_asks = record {
  is = λ form. refl;
  plain = λ form. (refl, refl);
  unlisted = λ form. refl;
  begins = refl;
}

pub used_on_asks : Asks text.used_on_text query.used_on_query (codes "count(*)" ∷ [])
unfolding understood everything book_schema
used_on_asks = record {
  is = λ form. refl;
  plain = λ form. (refl, refl);
  unlisted = λ form. refl;
  begins = refl;
}

pub terminal_count_asks :
    Asks text.terminal_count_text query.terminal_count_query (codes "count(*)" ∷ [])
unfolding understood everything book_schema
terminal_count_asks = record {
  is = λ form. refl;
  plain = λ form. (refl, refl);
  unlisted = λ form. refl;
  begins = refl;
}

pub range_count_asks :
    Asks text.range_count_text query.range_count_query (codes "count(*)" ∷ [])
unfolding understood everything book_schema
range_count_asks = record {
  is = λ form. refl;
  plain = λ form. (refl, refl);
  unlisted = λ form. refl;
  begins = refl;
}

pub reconciliation_asks :
    Asks text.reconciliation_text query.reconciliation_query
    (codes "number" ∷ codes "in_balance" ∷ [])
unfolding understood everything book_schema
reconciliation_asks = record {
  is = λ form. refl;
  plain = λ form. (refl, refl);
  unlisted = λ form. refl;
  begins = refl;
}

abbrev pub request_names : List (List ℕ)
request_names =
    codes "merchant" ∷ codes "terminal" ∷ codes "kind" ∷ codes "trace" ∷ codes "stamp"
    ∷ codes "essence"
    ∷ codes "day" ∷ codes "status" ∷ codes "admitted" ∷ codes "reference" ∷ codes "follows"
    ∷ codes "amount"
    ∷ codes "leg" ∷ codes "card" ∷ codes "acquirer" ∷ codes "hold_days" ∷ codes "until"
    ∷ codes "reply" ∷ []

pub request_asks : Asks text.request_text query.request_query request_names
unfolding understood everything book_schema
request_asks = record {
  is = λ form. refl;
  plain = λ form. (refl, refl);
  unlisted = λ form. refl;
  begins = refl;
}

pub reference_asks : Asks text.reference_text query.reference_query request_names
unfolding understood everything book_schema
reference_asks = record {
  is = λ form. refl;
  plain = λ form. (refl, refl);
  unlisted = λ form. refl;
  begins = refl;
}

pub greatest_asks : Asks text.greatest_text query.greatest_query (codes "reference" ∷ [])
unfolding understood everything book_schema
greatest_asks = record {
  is = λ form. refl;
  plain = λ form. (refl, refl);
  unlisted = λ form. refl;
  begins = refl;
}
