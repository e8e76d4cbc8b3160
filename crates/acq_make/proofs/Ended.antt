-- What becomes of a message that ends.
use Rattle.std.proofs.Common.{◌≡◌, ℕ, true, false, List, [], ◌∷◌, ◌++◌, Option, Some, None, Ok, Err}
use Rattle.std.proofs.Common.{refl, sym, ap, ◌∙◌, append-nil}
use Rattle.std.proofs.lemmas.List.Concat.{flat_map-append}
use Rattle.iso_codec.specs.Message.{IsoMessage}
use Rattle.iso_codec.specs.Reading.{spelling}
use Rattle.iso_codec.specs.declared.set_fault.SetFault.TheVariants.{BadLength}
use Rattle.acq_link.specs.Frames.{fits_frame}
use Rattle.acq_make.specs.declared.draft.Draft.{Draft}
use Rattle.acq_make.specs.declared.made_form.MadeForm.{MadeForm}
use Rattle.acq_make.specs.declared.make_fault.MakeFault.TheVariants.{BadMessage}
use Rattle.acq_make.specs.Said.{ended}
use Rattle.acq_make.specs.Written.{made, written}

pub ended_none : (d : Option Draft) → d ≡ None → ended d ≡ Ok []
unfolding ended
ended_none d is = rw is refl

pub ended_whole : (d : Option Draft) (draft : Draft) (text : List ℕ) → d ≡ Some draft
    → text ≡ spelling draft.message → fits_frame text ≡ true → ended d ≡ Ok (draft.message ∷ [])
unfolding ended
ended_whole d draft text is spelled fits =
    let so : fits_frame (spelling draft.message) ≡ true = sym (ap fits_frame spelled) ∙ fits in
    rw (is, so) refl

pub ended_long : (d : Option Draft) (draft : Draft) (text : List ℕ) → d ≡ Some draft
    → text ≡ spelling draft.message → fits_frame text ≡ false
    → ended d ≡ Err (BadMessage draft.line (BadLength 0))
unfolding ended
ended_long d draft text is spelled long =
    let so : fits_frame (spelling draft.message) ≡ false = sym (ap fits_frame spelled) ∙ long in
    rw (is, so) refl

-- its spelling stands behind nothing
pub spelled_first : (m : IsoMessage) (old new : List ℕ) → old ≡ [] → new ≡ old ++ spelling m
    → new ≡ spelling m
spelled_first m old new none put = put ∙ ap (λ (x : List ℕ). x ++ spelling m) none

-- ---- what is written

pub written_none : (form : MadeForm) (out : List ℕ) → out ≡ out ++ written form []
unfolding written
written_none form out = sym (append-nil out)

pub written_one : (form : MadeForm) (m : IsoMessage) (text old new : List ℕ) → text ≡ spelling m
    → new ≡ old ++ made form text → new ≡ old ++ written form (m ∷ [])
unfolding written
written_one form m text old new spelled put =
    put ∙ ap (λ (x : List ℕ). old ++ made form x) spelled
    ∙ ap (λ (x : List ℕ). old ++ x) (sym (append-nil (made form (spelling m))))

pub written_more : (form : MadeForm) (some more : List IsoMessage)
    → written form (some ++ more) ≡ written form some ++ written form more
unfolding written
written_more form some more = flat_map-append (λ m. made form (spelling m)) some more
