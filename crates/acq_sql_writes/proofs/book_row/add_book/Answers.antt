use Rattle.acq_core.specs.Tables.{Opening}
use Rattle.acq_sql_writes.proofs.Inside.{book_inside}
use Rattle.acq_sql_writes.proofs.Refusals.{book_excused}
use Rattle.acq_sql_writes.proofs.book_row.add_book.Goals as goal

pub returns : goal.returns
returns g c =
    let opening : Opening = record { limit = c.args.limit; first_day = c.args.first_day } in
    let ran =
    rw (
      c.short_value.ensures,
      c.short_value-2.ensures,
      c.number.ensures.value,
      c.day_value.ensures,
    ) at c.execute_in.ensures.runs in
    record {
      same_reference = c.execute_in.ensures.same_reference;
      writes = book_inside _ _ c.execute_in.result opening
          c.execute_in.ensures.survives ran;
      fails = book_excused _ _ c.execute_in.result opening ran;
    }
