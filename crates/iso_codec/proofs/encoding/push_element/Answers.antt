use Rattle.std.proofs.Common.{sym, ◌∙◌}
use Rattle.iso_codec.proofs.TableBounds.{format_in_bounds}
use Rattle.iso_codec.proofs.encoding.push_element.Goals as goal

pub push_length-requires-clause-sound : goal.push_length-requires-clause-sound
push_length-requires-clause-sound c =
    (format_in_bounds c.args.number c.in-Some.format (sym c.format_at.ensures ∙ c.in-Some.is)).0
