-- Schemas whose tables have only columns and keys.
use Rattle.std.specs.Prelude.{◌≡◌, []}
use Rattle.std.specs.List.{AllByRecursion}
use Rattle.sqlite_value.specs.declared.value.Value.TheVariants.{Null}
use Rattle.sqlite_schema.specs.declared.schema.Column.{Column}
use Rattle.sqlite_schema.specs.declared.schema.Stamps.{Stamps}
use Rattle.sqlite_schema.specs.declared.schema.Table.{Table}
use Rattle.sqlite_schema.specs.declared.schema.Schema.{Schema}

-- with no default
abbrev pub IsPlainColumn : Column → Type 0
IsPlainColumn c = c.default ≡ Null

abbrev pub no_stamps : Stamps
no_stamps = record { places = []; terms = []; formats = [] }

-- with no check, no foreign key and no default that is computed
pub record IsBare (t : Table) : Type 0 where
  pub checks : t.checks ≡ []
  pub references : t.references ≡ []
  pub computed : t.computed ≡ []
  pub stamps : t.stamps ≡ no_stamps

-- with the same primary key, and the same unique keys in the same order
pub record HaveSameKeys (a b : Table) : Type 0 where
  pub primary : a.primary ≡ b.primary
  pub uniques : a.uniques ≡ b.uniques
  pub orders : a.orders ≡ b.orders

abbrev pub IsPlainTable : Table → Type 0
IsPlainTable t = IsBare t × AllByRecursion IsPlainColumn t.columns

-- with no view
abbrev pub IsPlainSchema : Schema → Type 0
IsPlainSchema schema = (schema.views ≡ []) × AllByRecursion IsPlainTable schema.tables
