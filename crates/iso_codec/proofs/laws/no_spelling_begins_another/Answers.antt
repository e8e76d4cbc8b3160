use Rattle.std.proofs.Common.{sym, ◌++◌, []}
use Rattle.std.proofs.lemmas.List.{append-nil}
use Rattle.iso_codec.proofs.OneMessage.{one_spelling}
use Rattle.iso_codec.proofs.laws.no_spelling_begins_another.Goals as goal

pub returns : goal.returns
returns c = λ text more m n a b. (one_spelling text (text ++ more) more [] m n a b
    (sym (append-nil (text ++ more)))).1
