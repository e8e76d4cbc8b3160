use Rattle.std.proofs.Common.{sym, ◌∙◌, ap, drop, get_or, take, ◌≡◌, List, ℕ, ◌∷◌, [], ◌++◌, ◌-◌}
use Rattle.std.proofs.Common.{length, refl, ◌≤◌}
use Rattle.std.proofs.lemmas.List.{take_rest}
use Rattle.std.proofs.lemmas.Result.{err_from_is_err_and}
use Rattle.iso_codec.specs.Message.{IsKind}
use Rattle.iso_codec.proofs.FaultsOfParts.{four, bitmap_fault, header_one, header_two, awaits_first}
use Rattle.iso_codec.proofs.FaultsOfParts.{awaits_second}
use Rattle.iso_codec.proofs.decoding.header_at.Goals as goal

abbrev kind_of : List ℕ → List ℕ
kind_of text = get_or text 0 0 ∷ get_or text 1 0 ∷ get_or text 2 0 ∷ get_or text 3 0 ∷ []

abbrev rest_of : List ℕ → List ℕ
rest_of text = take (length text - 4) (drop 4 text)

split : (text : List ℕ) → 4 ≤ length text → text ≡ kind_of text ++ rest_of text
split text h = four text h ∙ ap (λ (x : List ℕ). kind_of text ++ x) (sym (take_rest text 4))

pub returns-in_err-primary-clause-fault : goal.returns-in_err-primary-clause-fault
returns-in_err-primary-clause-fault c =
    let p = err_from_is_err_and c.from_residual.result c.from_residual.ensures.1 in
    let text = c.args.text.now in
    let kind : IsKind (kind_of text) = record {
      size = refl;
      digits = sym c.all_digits.ensures
          ∙ c.if-not-all_digits.false;
    } in
    rw (p.1, p.2)
    (bitmap_fault text (rest_of text) _ (awaits_first text (kind_of text) (rest_of text) kind
    (split text c.in-len4-up.len_at_least)) c.in_err-primary.ensures.fault)

pub returns-in_err-secondary-clause-fault : goal.returns-in_err-secondary-clause-fault
returns-in_err-secondary-clause-fault c =
    let p = err_from_is_err_and c.from_residual-in_err-secondary.result
    c.from_residual-in_err-secondary.ensures.1 in
    let text = c.args.text.now in
    let kind : IsKind (kind_of text) = record {
      size = refl;
      digits = sym c.all_digits.ensures
          ∙ c.if-not-all_digits.false;
    } in
    rw (p.1, p.2) (bitmap_fault text c.in_ok-primary.after.now _
    (awaits_second text (kind_of text) (rest_of text) c.in_ok-primary.after.now
    c.in_ok-primary.primary kind
    (split text c.in-len4-up.len_at_least) c.in_ok-primary.ensures.found
    (sym c.bit.ensures ∙ c.if-bit.true))
    c.in_err-secondary.ensures.fault)

pub returns-in_ok-secondary-clause-found : goal.returns-in_ok-secondary-clause-found
returns-in_ok-secondary-clause-found c =
    let text = c.args.text.now in
    let kind : IsKind (kind_of text) = record {
      size = refl;
      digits = sym c.all_digits.ensures
          ∙ c.if-not-all_digits.false;
    } in
    header_two text (kind_of text) (rest_of text) c.in_ok-primary.after.now
    c.in_ok-secondary.body.now
    c.in_ok-primary.primary c.in_ok-secondary.secondary kind
    (split text c.in-len4-up.len_at_least) c.in_ok-primary.ensures.found
    (sym c.bit.ensures ∙ c.if-bit.true) c.in_ok-secondary.ensures.found

pub returns-else-bit-clause-found : goal.returns-else-bit-clause-found
returns-else-bit-clause-found c =
    let text = c.args.text.now in
    let kind : IsKind (kind_of text) = record {
      size = refl;
      digits = sym c.all_digits.ensures
          ∙ c.if-not-all_digits.false;
    } in
    header_one text (kind_of text) (rest_of text) c.in_ok-primary.after.now c.in_ok-primary.primary
    kind
    (split text c.in-len4-up.len_at_least) c.in_ok-primary.ensures.found
    (sym c.bit.ensures ∙ c.if-bit.false)
