use Rattle.std.proofs.Common.{◌∙◌, refl, subst, sym}
use Rattle.std.specs.List.{All}
use Rattle.acq_inquiry.specs.KeptPostings.{IsKept}
use Rattle.acq_inquiry.proofs.search.Search.copied.Goals as goal

pub returns : goal.returns
returns c = record {
  asks = (refl, refl);
  references = c.in_ok-references.ensures.items ∙ c.as_slice.ensures.value;
  seen = refl;
  places = c.in_ok-places.ensures.items ∙ c.as_slice-2.ensures.value;
  looked = refl;
  days = λ t merchant references all.
      c.in_ok-days.ensures t merchant references
      (subst (All (IsKept t merchant references)) (sym c.as_slice-4.ensures.value) all);
}
