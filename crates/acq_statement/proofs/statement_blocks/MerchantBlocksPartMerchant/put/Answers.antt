use Rattle.std.proofs.Common.{List, flat_map, subst, ◌∙◌}
use Rattle.acq_core.specs.declared.terminal.Terminal.{Terminal}
use Rattle.acq_core.specs.Tables.{Tables}
use Rattle.acq_statement.specs.declared.claim.Claim.{Claim}
use Rattle.acq_statement.specs.Claims.{claims_of}
use Rattle.acq_statement.specs.Parts.{PutsPart}
use Rattle.acq_statement.specs.Statement.{block_text}
use Rattle.acq_statement.proofs.statement_blocks.MerchantBlocksPartMerchant.put.Goals as goal

pub returns : goal.returns
returns g c =
    let blocks = c.args.self.now in
    let merchant = c.args.item.now in
    let texts = λ (own : List Terminal) (claimed : List Claim) (t : Tables).
    flat_map (block_text blocks.form own claimed t merchant) blocks.days.now in
    let puts = λ (own : List Terminal) (claimed : List Claim).
    PutsPart g.B.Book g.K.Sink.sent g.K.Sink.failures (texts own claimed) c.args.book.now
    c.put_each.new.book c.args.report.now c.put_each.new.report c.put_each.result in
    subst (λ (own : List Terminal). puts own (claims_of merchant.id blocks.claims.now))
    (c.as_slice.ensures.value ∙ c.in-Ok.ensures)
    (subst (λ (claimed : List Claim). puts c.as_slice.result.now claimed)
    (c.as_slice-2.ensures.value ∙ c.in-Ok-claims_of.ensures) c.put_each.ensures)
