use Rattle.std.proofs.Common.{◌∙◌, sym, arith}
use Rattle.csv.specs.Records.{fields_of}
use Rattle.card_no.proofs.RecordFields.{fields-none, fields-more, fields-four}
use Rattle.card_no.proofs.range_file.range_of.Goals as goal

pub returns-in_default : goal.returns-in_default
returns-in_default c =
    sym (fields-none (fields_of c.args.fields.now) 0 (omega arith) (sym c.in_default.ensures.value))

pub returns-in_default-get : goal.returns-in_default-get
returns-in_default-get c = sym (fields-none (fields_of c.args.fields.now) 1 (omega arith)
    (sym c.in_default-get.ensures.value))

pub returns-in_default-get-2 : goal.returns-in_default-get-2
returns-in_default-get-2 c = sym (fields-none (fields_of c.args.fields.now) 2 (omega arith)
    (sym c.in_default-get-2.ensures.value))

pub returns-in_default-get-3 : goal.returns-in_default-get-3
returns-in_default-get-3 c = sym (fields-none (fields_of c.args.fields.now) 3 (omega arith)
    (sym c.in_default-get-3.ensures.value))

pub returns-then-is_some : goal.returns-then-is_some
returns-then-is_some c = sym (fields-more (fields_of c.args.fields.now) c.get-5.result
    (sym c.is_some.ensures ∙ c.if-is_some.true) c.get-5.ensures.value)

pub returns : goal.returns
returns c =
    let four = fields-four (fields_of c.args.fields.now) c.in-Some.low.now c.in-Some-get.high.now
    c.in-Some-get-2.issuer.now c.in-Some-get-3.days.now c.get-5.result
    c.in-Some.ensures.value c.in-Some-get.ensures.value c.in-Some-get-2.ensures.value
    c.in-Some-get-3.ensures.value
    (sym c.is_some.ensures ∙ c.if-is_some.false) c.get-5.ensures.value in
    rw four c.from_texts.ensures
