use Rattle.std.proofs.Common.{ap, ◌∙◌, List, ℕ, ◌++◌}
use Rattle.std.proofs.lemmas.Result.{on_ok_weaker}
use Rattle.iso_codec.proofs.SpellingComputes.{written_is}
use Rattle.iso_codec.proofs.encoding.encode.Goals as goal

pub returns-else-is_err-clause-exact : goal.returns-else-is_err-clause-exact
returns-else-is_err-clause-exact c =
    on_ok_weaker c.push_message-pushed.result (λ h. h.2
    ∙ ap (λ (x : List ℕ). c.args.out.now.items ++ x) (written_is h.0 c.args.message.now h.1))
    c.push_message-pushed.ensures.ok
