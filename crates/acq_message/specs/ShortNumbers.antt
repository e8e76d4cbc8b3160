-- Elements that are numbers of at most sixteen digits.
use Rattle.std.specs.Prelude.{ℕ, nat_le, Bool, true, false, ◌&&◌, Option, Some, None}
use Rattle.iso_codec.specs.declared.form.Form.{Form}
use Rattle.iso_codec.specs.declared.form.Form.TheVariants.{Fixed, Llvar, Lllvar}
use Rattle.iso_codec.specs.declared.class.Class.{Class}
use Rattle.iso_codec.specs.declared.class.Class.TheVariants.{Numeric}
use Rattle.iso_codec.specs.declared.element_format.ElementFormat.{ElementFormat}
use Rattle.iso_codec.specs.Table.{format_of}

abbrev pub is_short_form : Form → Bool
is_short_form (Fixed size) = nat_le size 16
is_short_form (Llvar greatest) = nat_le greatest 16
is_short_form (Lllvar greatest) = nat_le greatest 16

abbrev pub is_numeric : Class → Bool
is_numeric Numeric = true
is_numeric class = false

abbrev pub is_short_format : Option ElementFormat → Bool
is_short_format None = false
is_short_format (Some format) = is_short_form format.form && is_numeric format.class

-- whether an element is a number of at most sixteen digits
abbrev pub is_short_number : ℕ → Bool
is_short_number n = is_short_format (format_of n)
