-- What is shown of a message, with what is hidden there written whole (own profile).
use Rattle.std.specs.Prelude.{ℕ, ◌-◌, ◌==◌, Bool, not, ◌&&◌, ◌||◌, List, ◌++◌, length}
use Rattle.std.specs.Prelude.{codes, if◌then◌else◌}
use Rattle.std.specs.List.{flat_map, list_all}
use Rattle.std.specs.Fmt.{decimal}
use Rattle.iso_codec.specs.Content.{is_printable}
use Rattle.iso_codec.specs.Message.{IsoMessage}
use Rattle.acq_show.specs.Contents.{content_shown}
use Rattle.acq_show.specs.Names.{element_name}
use Rattle.acq_show.specs.Remarks.{message_remark}
use Rattle.acq_show.specs.Shown.{spaces, type_line}
use Rattle.acq_make.specs.Contents.{is_hidden}

-- the elements of which no more than a mask or a length is shown: card number, tracks 2 and 1, PIN
-- block, chip data
abbrev pub is_masked : ℕ → Bool
is_masked n = n == 2 || n == 35 || n == 45 || n == 52 || n == 55

-- the content itself of these, and of others what is shown
abbrev pub content_written : ℕ → List ℕ → List ℕ
content_written n content = if is_masked n then content else content_shown n content

-- the line of an element
abbrev pub line_written : ℕ × List ℕ → List ℕ
line_written e =
    spaces (5 - length (decimal e.0)) ++ decimal e.0 ++ codes "  " ++ element_name e.0
    ++ spaces (34 - length (element_name e.0)) ++ content_written e.0 e.1 ++ codes "\n"

unfoldable pub written_out : IsoMessage → List ℕ
written_out m = type_line m.kind ++ flat_map line_written m.elements ++ message_remark m

-- Its bytes can be printed, and it isn't what is shown in place of a content.
abbrev pub is_writable : ℕ × List ℕ → Bool
is_writable e = list_all is_printable e.1 && not (is_hidden e.0 e.1)

-- Its bytes can be printed, and all of it is shown.
abbrev pub is_open : ℕ × List ℕ → Bool
is_open e = list_all is_printable e.1 && not (is_masked e.0)
