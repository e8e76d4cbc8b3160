use Rattle.std.proofs.Common.{◌≡◌, get_or, List, Option, None, map, refl, sym, ap, ◌∙◌, arith}
use Rattle.std.specs.List.{range_with_len}
use Rattle.std.proofs.lemmas.List.FromFn.{get_or-map-range_with_len}
use Rattle.iso_codec.specs.declared.element_format.ElementFormat.{ElementFormat}
use Rattle.iso_codec.specs.declared.element_format.TheConstants.{FORMATS}
use Rattle.iso_codec.specs.Table.{format_of}
use Rattle.iso_codec.proofs.TableBounds.{format_of-beyond}
use Rattle.iso_codec.proofs.element_format.format_at.Goals as goal

-- the table is the definition's, computed
formats_are : FORMATS ≡ map format_of (range_with_len 0 129)
unfolding format_of
formats_are = refl

pub returns-then-number-lt129 : goal.returns-then-number-lt129
returns-then-number-lt129 c =
    let n = c.args.number in
    ap (λ (fs : List (Option ElementFormat)). get_or fs n None) formats_are
    ∙ get_or-map-range_with_len format_of 0 129 n n None c.if-number-lt129.true (omega arith)

pub returns-else-number-lt129 : goal.returns-else-number-lt129
returns-else-number-lt129 c =
    sym (format_of-beyond c.args.number (omega (arith, c.if-number-lt129.false)))
