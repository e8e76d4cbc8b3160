use Rattle.std.proofs.Common.{◌≡◌, IsTrue, None, rules, sym, subst, ◌∙◌}
use Rattle.std.proofs.lemmas.Result.{err_from_is_err_and}
use Rattle.sqlite.specs.Held.{state}
use Rattle.sqlite.specs.Steps.{over_memory}
use Rattle.sqlite.proofs.Callers.{memory_is_clean}
use Rattle.acq_sql_rows.specs.Schema.{book_schema}
use Rattle.acq_sql_checking.specs.Plain.{IsPlainSchema}
use Rattle.acq_sql_checking.proofs.Blaming.{memory_fails}
use Rattle.acq_sql_checking.proofs.PlainBook.{plain_book}
use Rattle.acq_sql_checking.proofs.checking.has_form.Goals as goal

pub returns-clause-same : goal.returns-clause-same
returns-clause-same c =
    let made = c.in_ok-create_tables.ensures.made (memory_is_clean c.create_tables.new.conn) in
    let ours : c.schema.result.now ≡ book_schema c.args.form = c.schema.ensures.value ∙ made in (
      λ is. sym (c.is_alike.ensures.0 is).0 ∙ ours,
      λ is. c.is_alike.ensures.1 (
        ours ∙ sym is,
        subst IsPlainSchema (sym ours)
            (plain_book c.args.form),
      ),
    )

pub returns-in_err-create_tables-clause-fails : goal.returns-in_err-create_tables-clause-fails
returns-in_err-create_tables-clause-fails c =
    let result = c.from_residual-in_err-create_tables.result in
    let p = err_from_is_err_and result c.from_residual-in_err-create_tables.ensures.1 in
    let ours = c.in_ok-ours.ours in
    let opened : IsTrue (state over_memory ours).is_open = search rules in
    let free : ours.step_limit ≡ None = search rules in
    rw (p.1, p.2) (memory_fails ours c.create_tables.new.conn _
    (c.in_err-create_tables.ensures.fails (memory_is_clean c.create_tables.new.conn) opened free))
