use Rattle.std.proofs.Common.{refl, slice_index_or}
use Rattle.acq_sql_audit.specs.Compared.{all_tables}
use Rattle.acq_sql_audit.specs.declared.table.Table.TheVariants.{Book}
use Rattle.acq_sql_reads.proofs.Leaves.{looks_in_vain}
use Rattle.acq_sql_audit.proofs.ComparedTables.{all_same, compared_more, compared_none}
use Rattle.acq_sql_audit.proofs.ComparedTables.{first_found, looked_all, looked_on, looks_all}
use Rattle.acq_sql_audit.proofs.ComparedTables.{never_same, not_none, placed}
use Rattle.acq_sql_audit.proofs.Selects.{asks}
use Rattle.acq_sql_audit.proofs.comparing.first_difference.Goals as goal

pub loop-table-init : goal.loop-table-init
loop-table-init g c =
    compared_none g.S.Store g.M.Store c.args.file.now c.args.made.now

pub returns-in_err-difference-clause-looks : goal.returns-in_err-difference-clause-looks
returns-in_err-difference-clause-looks g c =
    let begins = (asks (slice_index_or all_tables c.loop-table.table-index Book)).begins in
    let looks = rw c.in_err-difference.was at (c.difference_in.ensures.looks begins) in
    looks_in_vain (looked_on g.S.Store c.args.file.now c.loop-table.file c.difference_in.new.file
    c.loop-table.table-index c.loop-table.invariant.looks _ looks)
    c.from_residual.result c.from_residual.ensures.0

pub returns-in_err-difference-clause-looks_at_made :
    goal.returns-in_err-difference-clause-looks_at_made
returns-in_err-difference-clause-looks_at_made g c =
    let begins = (asks (slice_index_or all_tables c.loop-table.table-index Book)).begins in
    let looks = rw c.in_err-difference.was at (c.difference_in.ensures.looks_at_made begins) in
    looks_in_vain (looked_on g.M.Store c.args.made.now c.loop-table.made c.difference_in.new.made
    c.loop-table.table-index c.loop-table.invariant.looked _ looks)
    c.from_residual.result c.from_residual.ensures.0

pub returns-in-Some-clause-compares : goal.returns-in-Some-clause-compares
returns-in-Some-clause-compares g c =
    let table = slice_index_or all_tables c.loop-table.table-index Book in
    let begins = (asks table).begins in
    let made = rw c.in_ok-difference.was at c.difference_in.ensures in
    first_found c.loop-table.invariant table
    (placed c.loop-table.table-index c.loop-table-test.true) c.difference_in.new.file
    c.difference_in.new.made c.in_ok-difference.field-0
    (λ clean pure. made.tells clean pure begins) (made.looks begins) (made.looks_at_made begins)
    c.in-Some.difference c.in-Some.is

pub returns-in-Some-clause-same : goal.returns-in-Some-clause-same
returns-in-Some-clause-same g c clean pure fits suits =
    let first = returns-in-Some-clause-compares g c clean pure fits suits in (
      λ none. not_none c.in-Some.difference none,
      λ same. absurd (never_same _ _ c.in-Some.difference first.4 same),
    )

pub returns-in-Some-clause-looks : goal.returns-in-Some-clause-looks
returns-in-Some-clause-looks g c =
    let begins = (asks (slice_index_or all_tables c.loop-table.table-index Book)).begins in
    looked_on g.S.Store c.args.file.now c.loop-table.file c.difference_in.new.file
    c.loop-table.table-index c.loop-table.invariant.looks _
    (rw c.in_ok-difference.was at (c.difference_in.ensures.looks begins))

pub returns-in-Some-clause-looks_at_made : goal.returns-in-Some-clause-looks_at_made
returns-in-Some-clause-looks_at_made g c =
    let begins = (asks (slice_index_or all_tables c.loop-table.table-index Book)).begins in
    looked_on g.M.Store c.args.made.now c.loop-table.made c.difference_in.new.made
    c.loop-table.table-index c.loop-table.invariant.looked _
    (rw c.in_ok-difference.was at (c.difference_in.ensures.looks_at_made begins))

pub loop-table-preserved : goal.loop-table-preserved
loop-table-preserved g c =
    let table = slice_index_or all_tables c.loop-table.table-index Book in
    let begins = (asks table).begins in
    let made = rw c.in_ok-difference.was at c.difference_in.ensures in
    compared_more c.loop-table.invariant table
    (placed c.loop-table.table-index c.loop-table-test.true) c.difference_in.new.file
    c.difference_in.new.made c.in_ok-difference.field-0
    (λ clean pure. made.tells clean pure begins) (made.looks begins) (made.looks_at_made begins)
    c.in_default.is

pub returns-clause-compares : goal.returns-clause-compares
returns-clause-compares g c = all_same c.loop-table.invariant c.loop-table-test.false

pub returns-clause-same : goal.returns-clause-same
returns-clause-same g c clean pure fits suits = (
  λ none. all_same c.loop-table.invariant c.loop-table-test.false clean pure fits suits,
  λ same. refl,
)

pub returns-clause-looks : goal.returns-clause-looks
returns-clause-looks g c = looks_all c.loop-table.invariant c.loop-table-test.false

pub returns-clause-looks_at_made : goal.returns-clause-looks_at_made
returns-clause-looks_at_made g c = looked_all c.loop-table.invariant c.loop-table-test.false
