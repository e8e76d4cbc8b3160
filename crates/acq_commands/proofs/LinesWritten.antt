-- Lines, one after another, and one that was cut short.
use Rattle.std.proofs.Common.{◌≡◌, ℕ, ◌+◌, ◌<◌, ◌≤◌, List, [], ◌++◌, take, refl, sym, ap, ◌∙◌}
use Rattle.std.proofs.Common.{append_assoc, append-nil, arith}
use Rattle.std.proofs.lemmas.Grind.{flat_map-append}
use Rattle.std.specs.Prelude.{Some, Err, slice_get}
use Rattle.std.specs.List.{flat_map}
use Rattle.acq_core.specs.declared.output.Output.{Output}
use Rattle.acq_book.specs.declared.book_fault.BookFault as book
use Rattle.acq_out.specs.OutputLines.{WritesLine, line_of}
use Rattle.acq_out.specs.declared.out_fault.OutFault as out
use Rattle.acq_faults.specs.Faults.{of_book, of_out}
use Rattle.acq_commands.specs.Replay.{Reaches}

-- the lines of more outputs, behind those of others
pub lines_on : (start between sent : List ℕ) (said more : List Output) →
    between ≡ start ++ flat_map line_of said → sent ≡ between ++ flat_map line_of more →
    sent ≡ start ++ flat_map line_of (said ++ more)
lines_on start between sent said more begun is =
    let both = flat_map-append line_of said more in
    is
    ∙ (ap (λ x. x ++ flat_map line_of more) begun
    ∙ (append_assoc start (flat_map line_of said) (flat_map line_of more)
    ∙ ap (λ x. start ++ x) (sym both)))

-- a fault of the book leaves the group in hand untaken
pub reaches_untaken : (group : ℕ) (said : List Output) (at : ℕ) (f : book.BookFault) →
    Reaches group said at at [] (of_book f)
reaches_untaken group said at book.TheVariants.Memory = (omega arith, omega arith, refl)
reaches_untaken group said at book.TheVariants.Store = (refl, refl)

-- a fault of one of its lines leaves first bytes of it, or none
pub reaches_line : (group : ℕ) (said : List Output) (taken at : ℕ) (o : Output) →
    slice_get said at ≡ Some o → at < taken → taken ≤ at + group →
    (f : out.OutFault) (old new : List ℕ) → WritesLine o old new (Err f) →
    (part : List ℕ) × (new ≡ old ++ part) × Reaches group said taken at part (of_out f)
reaches_line group said taken at o is ahead by_one out.TheVariants.Memory old new same =
    ([], same ∙ sym (append-nil old), (omega (arith, ahead), by_one, refl))
reaches_line group said taken at o is ahead by_one (out.TheVariants.Write n) old new so =
    (take n (line_of o), so.1, (ahead, by_one, (o, is, so.0, refl)))
reaches_line group said taken at o is ahead by_one out.TheVariants.Read old new never = absurd never
reaches_line group said taken at o is ahead by_one (out.TheVariants.BadLine n) old new never =
    absurd never
