use Rattle.std.proofs.Common.{sym, ap, ◌∙◌, List, [], ℕ, ◌++◌, append_assoc}
use Rattle.std.proofs.lemmas.List.{append-nil}
use Rattle.iso_codec.specs.Message.{is_upper_hex}
use Rattle.iso_codec.proofs.WrittenIsRead.{two_bitmaps, all_append}
use Rattle.iso_codec.proofs.encoding.push_bitmaps.Goals as goal

pub returns-in_ok-extend_from_slice-2-clause-ok : goal.returns-in_ok-extend_from_slice-2-clause-ok
returns-in_ok-extend_from_slice-2-clause-ok c =
    let p = c.digits_of_bits.result in
    let q = c.digits_of_bits-then-bit.result in
    let first = c.digits_of_bits.ensures in
    let second = c.digits_of_bits-then-bit.ensures in (
      p ++ q,
      two_bitmaps p q c.args.bitmaps first.digits (sym c.bit.ensures ∙ c.if-bit.true) second.digits,
      all_append is_upper_hex p q first.capitals second.capitals,
      c.in_ok-extend_from_slice-2.ensures.items
          ∙ ap (λ (x : List ℕ). x ++ q) c.in_ok-extend_from_slice.ensures.items
          ∙ append_assoc c.args.out.now.items p q,
    )

pub returns-in_err-extend_from_slice-clause-grows :
    goal.returns-in_err-extend_from_slice-clause-grows
returns-in_err-extend_from_slice-clause-grows c =
    ([], c.in_err-extend_from_slice.ensures.items ∙ sym (append-nil c.args.out.now.items))

pub returns-in_err-extend_from_slice-2-clause-grows :
    goal.returns-in_err-extend_from_slice-2-clause-grows
returns-in_err-extend_from_slice-2-clause-grows c = (
  c.digits_of_bits.result,
  c.in_err-extend_from_slice-2.ensures.items ∙ c.in_ok-extend_from_slice.ensures.items,
)

pub returns-in_ok-extend_from_slice-2-clause-grows :
    goal.returns-in_ok-extend_from_slice-2-clause-grows
returns-in_ok-extend_from_slice-2-clause-grows c =
    let p = c.digits_of_bits.result in
    let q = c.digits_of_bits-then-bit.result in (
      p ++ q,
      c.in_ok-extend_from_slice-2.ensures.items
          ∙ ap (λ (x : List ℕ). x ++ q) c.in_ok-extend_from_slice.ensures.items
          ∙ append_assoc c.args.out.now.items p q,
    )

pub returns-else-bit-clause-grows : goal.returns-else-bit-clause-grows
returns-else-bit-clause-grows c =
    (c.digits_of_bits.result, c.in_ok-extend_from_slice.ensures.items)
