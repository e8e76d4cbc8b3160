-- Options are read one after the other.
use Rattle.std.proofs.Common.{◌≡◌, List, ap, codes, inl, inr, refl}
use Rattle.std.specs.Borrow.{Bor}
use Rattle.std.specs.Prelude.{[], Option, Result, Ok, Err, map, option_map, unwrap_or}
use Rattle.clap.specs.Words.{Text, matched_of, raw_values, rows_of}
use Rattle.clap.specs.declared.parser.matches.Found.{Found}
use Rattle.clap.proofs.WalkLemmas.{first_value-rows, raw_values-rows}
use Rattle.acq_program.specs.declared.option_name.OptionName.{OptionName}
use Rattle.acq_program.specs.declared.usage_fault.UsageFault.{UsageFault}
use Rattle.acq_program.specs.declared.usage_fault.UsageFault.TheVariants.{BadValue, Words}
use Rattle.acq_program.specs.Arguments.{IsNoMemory, Reads, Then}
use Rattle.acq_program.specs.Options.{found_texts, option_texts}
use Rattle.acq_program.specs.Options.{values_found, values_of}
use Rattle.acq_program.specs.WantedReports.{texts_in}

values_found-rows : (f : Found) (id : Text) → values_found f id ≡ values_of id (rows_of f)
values_found-rows f id = ap (λ o. unwrap_or o []) (raw_values-rows f id)

-- the crate reads the texts of options as its rules say
pub found_texts-rows : (f : Found) → found_texts f ≡ option_texts (rows_of f)
found_texts-rows f =
    rw (
      first_value-rows f (codes "db"),
      first_value-rows f (codes "limit"),
      first_value-rows f (codes "day"),
      first_value-rows f (codes "group"),
      first_value-rows f (codes "merchant"),
      first_value-rows f (codes "at"),
      first_value-rows f (codes "hex"),
      first_value-rows f (codes "json"),
      first_value-rows f (codes "whole"),
      first_value-rows f (codes "issuers"),
      first_value-rows f (codes "gateway"),
      first_value-rows f (codes "port"),
      first_value-rows f (codes "address"),
      first_value-rows f (codes "count"),
      first_value-rows f (codes "idle"),
      first_value-rows f (codes "frame-within"),
      first_value-rows f (codes "stop-within"),
      first_value-rows f (codes "answer-within"),
      first_value-rows f (codes "gateway-within"),
      first_value-rows f (codes "end-waiting"),
      first_value-rows f (codes "together"),
      first_value-rows f (codes "from-one-address"),
      first_value-rows f (codes "proxy-protocol"),
      first_value-rows f (codes "control"),
      first_value-rows f (codes "log"),
      first_value-rows f (codes "log-bytes"),
      first_value-rows f (codes "within"),
      first_value-rows f (codes "events"),
      first_value-rows f (codes "repeat"),
      first_value-rows f (codes "path"),
      first_value-rows f (codes "what"),
      first_value-rows f (codes "sums"),
      first_value-rows f (codes "csv"),
      first_value-rows f (codes "reference"),
      first_value-rows f (codes "terminal"),
      first_value-rows f (codes "trace"),
      first_value-rows f (codes "card-ends"),
      first_value-rows f (codes "to"),
      first_value-rows f (codes "set"),
      first_value-rows f (codes "dry-run"),
      values_found-rows f (codes "merchant"),
      first_value-rows f (codes "event"),
      values_found-rows f (codes "clearing"),
      values_found-rows f (codes "report"),
    ) refl

-- all values of an option, as the crate lends them
pub texts_found : (f : Found) (id : Text) (found : Option (Bor (List (Bor Text))))
    → option_map (λ s. map (λ (v : Bor Text). v.now) s.now) found ≡ option_map raw_values
    (matched_of f id)
    → texts_in found ≡ values_found f id
texts_found f id found is = ap (λ o. unwrap_or o []) is

-- there was no memory for what was read
pub no_memory : {A : Type 0} (Asked : Result A OptionName → Type 0) (fault : UsageFault) →
    IsNoMemory fault
    → Reads Asked (Err fault)
no_memory Asked (BadValue name) h = absurd h
no_memory Asked (Words error) h = h

module _ {A B : Type 0} (First : Result A OptionName → Type 0) (Rest : A → Result B OptionName →
    Type 0) where
  -- the first option is out of its form, or there was no memory for it
  pub first_fails : (fault : UsageFault) → Reads First (Err fault) →
      Reads (Then First Rest) (Err fault)
  first_fails (BadValue name) bad = inl (name, refl, bad)
  first_fails (Words error) bad = bad

  -- it is read, and the rest by its value
  pub then_rest : (value : A) (read : Result B UsageFault) → First (Ok value) →
      Reads (Rest value) read
      → Reads (Then First Rest) read
  then_rest value (Ok x) given rest = inr (value, given, rest)
  then_rest value (Err (BadValue name)) given rest = inr (value, given, rest)
  then_rest value (Err (Words error)) given rest = rest
