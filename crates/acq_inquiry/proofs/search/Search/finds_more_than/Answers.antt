use Rattle.std.proofs.Common.{◌≡◌, ◌∙◌, ap, arith, length, rules, sym}
use Rattle.std.proofs.lemmas.Bool.Decides.{nat_tests}
use Rattle.std.specs.Prelude.{nat_lt}
use Rattle.std.specs.Vec.{vec_len}
use Rattle.acq_inquiry.proofs.Enough.{finds_no_more, more_places, more_references}
use Rattle.acq_inquiry.proofs.search.Search.finds_more_than.Goals as goal

pub returns-then-most-len-clause-more : goal.returns-then-most-len-clause-more
returns-then-most-len-clause-more c = λ h t is.
    let whole = c.args.self.now in
    let size : vec_len whole.places ≡ length whole.places.items = search rules in
    more_places t whole is c.args.most
    (ap (nat_lt c.args.most) (sym (c.len.ensures ∙ size)) ∙ h)

pub returns-else-most-len-clause-more : goal.returns-else-most-len-clause-more
returns-else-most-len-clause-more c = λ h t is.
    more_references t c.args.self.now is c.args.most (c.refers_to_more_than.ensures h)

pub returns-else-most-len-clause-whole : goal.returns-else-most-len-clause-whole
returns-else-most-len-clause-whole c = λ h t is.
    let whole = c.args.self.now in
    let size : vec_len whole.places ≡ length whole.places.items = search rules in
    let same = c.len.ensures ∙ size in
    let few = c.if-most-len.false in
    finds_no_more t whole is c.args.most (grind (arith, nat_tests, same, few))
