use Rattle.acq_sql.proofs.once_book.OnceBookBook.apply.Goals as goal

pub returns-clause-makes : goal.returns-clause-makes
returns-clause-makes g c =
    c.apply_any.ensures.makes (λ live. (c.requires.fits live, c.requires.past live))

pub returns-clause-within : goal.returns-clause-within
returns-clause-within g c =
    c.apply_any.ensures.within (λ live. (c.requires.fits live, c.requires.past live))

pub returns-clause-blames : goal.returns-clause-blames
returns-clause-blames g c =
    c.apply_any.ensures.blames (λ live. (c.requires.fits live, c.requires.past live))
