use Rattle.std.proofs.Common.{◌≡◌, ◌∙◌, ℕ, List, [], ◌∷◌, length, Some, refl, arith}
use Rattle.csv.specs.Records.{field_at, fields_of}
use Rattle.acq_out.proofs.records.RecordFields.{fields_three}
use Rattle.acq_stand_in.proofs.answer_form.answer_in.Goals as goal
use Rattle.acq_stand_in.proofs.answer_form.answer_in.Goals.{in-3, in-4}

-- a record of four has these four
fields_four : (fs : List (List ℕ)) (a b c d : List ℕ) → length fs ≡ 4 → field_at fs 0 ≡ Some a
    → field_at fs 1 ≡ Some b → field_at fs 2 ≡ Some c → field_at fs 3 ≡ Some d
    → fs ≡ a ∷ b ∷ c ∷ d ∷ []
unfolding field_at
fields_four [] a b c d four h0 h1 h2 h3 = absurd (omega (arith, four))
fields_four (p ∷ fs) a b c d four h0 h1 h2 h3 =
    let e0 : Some p ≡ Some a = h0 in
    let rest = fields_three fs b c d (omega arith) h1 h2 h3 in
    cc

pub returns : goal.returns
returns c =
    let fs = fields_of c.args.fields.now in
    elim c.match-len.branch [
      | in-3 w ↦
          let is = fields_three fs _ _ _ (omega (arith, c.len.ensures)) c.field-2.ensures
          c.field-3.ensures c.field-4.ensures in
          c.answer_of.ensures ∙ rw (w.takes-is, is) refl
      | in-4 w ↦
          let is = fields_four fs _ _ _ _ (omega (arith, c.len.ensures)) c.field-2.ensures
          c.field-3.ensures c.field-4.ensures w.field.ensures in
          c.answer_of.ensures ∙ rw (w.takes-is, w.milliseconds_of-takes.ensures, is) refl
    ]
