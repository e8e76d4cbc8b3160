-- What a change asks of the lists that it is to be made in.
use Rattle.std.specs.Prelude.{◌≡◌, ◌+◌, true, List, None, find, is_some, IfSome}
use Rattle.acq_message.specs.Numbers.{is_number}
use Rattle.acq_message.specs.Elements.{same_key}
use Rattle.acq_core.specs.declared.request.Request.{Request}
use Rattle.acq_core.specs.Numbers.{is_admitted_count, is_used_count}
use Rattle.acq_core.specs.Tables.{requests_of, admitted_in, used_in}

-- the row's key is new, and so is its reference; where it counts, there is room for it
pub record IsNewRow (rows : List Request) (row : Request) : Type 0 where
  pub key : find (λ old. same_key old.key row.key) rows ≡ None
  pub reference : IfSome row.reference
      (λ n. find (λ old. is_number n old.reference) (requests_of row.key.merchant rows) ≡ None)
  pub used : row.admitted ≡ true →
      is_used_count (1 + used_in (requests_of row.key.merchant rows) row.day) ≡ true
  pub admitted : is_some row.reference ≡ true →
      is_admitted_count (1 + admitted_in (requests_of row.key.merchant rows)) ≡ true
