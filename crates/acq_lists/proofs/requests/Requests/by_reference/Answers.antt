use Rattle.std.proofs.Common.{◌∙◌, ap, sym}
use Rattle.std.specs.Prelude.{find}
use Rattle.std.specs.Option.{option_copied}
use Rattle.indexmap.specs.IndexMap.{values}
use Rattle.acq_message.specs.Numbers.{is_number}
use Rattle.acq_core.specs.Tables.{requests_of}
use Rattle.acq_lists.specs.declared.merchant_reference.MerchantReference.{
  MerchantReference,
}
use Rattle.acq_lists.proofs.Places.{found-at}
use Rattle.acq_lists.proofs.requests.Requests.by_reference.Goals as goal

pub returns-in-Some : goal.returns-in-Some
returns-in-Some c =
    let s = c.self.inside in
    let r : MerchantReference = record { merchant = c.args.merchant; reference = c.args.reference }
    in
    c.row_at.ensures
    ∙ (found-at r (values s.rows) _ (sym (c.self.invariant.places r)
    ∙ (sym c.get.ensures.value ∙ ap option_copied c.in-Some.is))
    ∙ ap (λ t. find (λ row. is_number c.args.reference row.reference)
    (requests_of c.args.merchant t.rows)) c.self.view_is)

pub returns-in-None : goal.returns-in-None
returns-in-None c =
    let s = c.self.inside in
    let r : MerchantReference = record { merchant = c.args.merchant; reference = c.args.reference }
    in
    found-at r (values s.rows) _ (sym (c.self.invariant.places r)
    ∙ (sym c.get.ensures.value ∙ ap option_copied c.in-None.is))
    ∙ ap (λ t. find (λ row. is_number c.args.reference row.reference)
    (requests_of c.args.merchant t.rows)) c.self.view_is
