-- What an answer unfolds to compute this crate's definitions on literals.
use Rattle.std.specs.Prelude.{⊤}
use Rattle.acq_reports.proofs.OnLiterals.{reports_on_literals}
use Rattle.acq_show.proofs.OnLiterals.{shown_on_literals}
use Rattle.acq_inquiry.specs.InquiryTexts.{request_text}
use Rattle.acq_inquiry.specs.PostingLines.{posted_words}
use Rattle.acq_inquiry.specs.RequestLines.{start_of}

unfoldable pub inquiries_on_literals : ⊤
unfolding reports_on_literals shown_on_literals request_text posted_words start_of
inquiries_on_literals = tt
