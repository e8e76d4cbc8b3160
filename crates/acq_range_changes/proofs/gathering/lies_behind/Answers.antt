use Rattle.std.proofs.Common.{◌≡◌, ◌∙◌, Bool, true, false, Option, Some, None, Bor, refl, sym, ap}
use Rattle.std.specs.Prelude.{not}
use Rattle.std.specs.List.{list_all}
use Rattle.std.specs.Option.{is_none, option_copied}
use Rattle.std.proofs.lemmas.Bool.{and_parts}
use Rattle.card_no.specs.Ranges.{are_apart, is_valid_range}
use Rattle.acq_range_changes.proofs.Collecting.{none_reaches, with_last}
use Rattle.acq_range_changes.proofs.gathering.lies_behind.Goals as goal

-- none is none, behind a reference too
none_copied : {X : Type 0} (found : Option (Bor X)) → is_none found ≡ is_none (option_copied found)
none_copied None = refl
none_copied (Some r) = refl

turned : (none some : Bool) → some ≡ not none → none ≡ not some
turned true some is = rw is refl
turned false some is = rw is refl

pub returns-clause-behind : goal.returns-clause-behind
returns-clause-behind c =
    let ranges = rw c.as_slice-ranges.ensures.value at c.as_slice-ranges.ensures.apart in
    let list = c.args.list.now in
    let valid = (and_parts (list_all is_valid_range list) (are_apart list) ranges).0 in
    let none : c.is_none.result ≡ is_none c.overlapping.result = turned _ _ c.is_none.ensures in
    none ∙ none_copied c.overlapping.result ∙ ap (λ o. is_none o) c.overlapping.ensures
    ∙ none_reaches list c.args.range.now valid

pub returns-clause-last : goal.returns-clause-last
returns-clause-last c = λ behind.
    let ranges = rw c.as_slice-ranges.ensures.value at c.as_slice-ranges.ensures.apart in
    let list = c.args.list.now in
    let valid = (and_parts (list_all is_valid_range list) (are_apart list) ranges).0 in
    with_last list c.args.range.now valid (sym (returns-clause-behind c) ∙ behind)
