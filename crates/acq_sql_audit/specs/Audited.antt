-- What an audit says of a file.
use Rattle.std.specs.Prelude.{ℕ, List, Option, Some, None, codes}
use Rattle.sqlite.specs.Effect.{Database}
use Rattle.acq_core.specs.Tables.{Tables, new_tables, tables_after}
use Rattle.acq_core.specs.declared.event.Event.{Event}
use Rattle.acq_sql_rows.specs.Relation.{Holds}
use Rattle.acq_sql_audit.specs.Differences.{IsFirstDifference}
use Rattle.acq_sql_audit.specs.declared.audit_fault.AuditFault.{AuditFault}
use Rattle.acq_sql_audit.specs.declared.audit_fault.AuditFault.TheVariants.{Memory, NotABook}
use Rattle.acq_sql_audit.specs.declared.audit_fault.AuditFault.TheVariants.{Store}
use Rattle.acq_sql_audit.specs.declared.difference.Difference.{Difference}

-- the fault as printed lines have it: its number and its name
abbrev pub fault_text : AuditFault → List ℕ
fault_text Memory = codes "1 Memory"
fault_text Store = codes "2 Store"
fault_text NotABook = codes "40 NotABook"

-- the tables of a book that began so, after these events
abbrev pub made_by : ℕ → ℕ → List Event → Tables
made_by limit first_day events =
    tables_after (new_tables (record { limit = limit; first_day = first_day })) events

-- the file holds these tables; or it differs first so from a database that holds them
abbrev pub Audits : Database → Tables → Option Difference → Type 0
Audits file t None = Holds file t
Audits file t (Some d) =
    (made : Database) × Holds made t × IsFirstDifference file.trees made.trees (Some d)
