use Rattle.day_totals.proofs.DateTexts.{date_text_of-injective}
use Rattle.day_totals.proofs.laws.date_texts_name_days.Goals as goal

pub returns : goal.returns
returns c = date_text_of-injective
