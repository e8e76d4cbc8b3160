-- What a visitor that keeps claims makes of a request.
use Rattle.std.specs.Prelude.{◌≡◌, ◌⊎◌, ◌+◌, Bool, true, false, [], ◌++◌}
use Rattle.std.specs.List.{cons_option}
use Rattle.acq_core.specs.declared.request.Request.{Request}
use Rattle.acq_statement.specs.declared.claims.Claims.{Claims}
use Rattle.acq_statement.specs.Claims.{claim_in}
use Rattle.acq_reports.specs.Slices.{goes_on}

-- it has the claim of the request besides, if there is one that is asked for, and goes on to its
-- end; or memory ran out
abbrev pub ClaimsOne : Claims → Request → Bool → Claims → Type 0
ClaimsOne old row more new =
    ((new.claims.items
    ≡ old.claims.items ++ cons_option (claim_in old.asked.merchants.now old.asked.days row) [])
    × (new.asked ≡ old.asked) × (new.looked ≡ old.looked + 1) × (new.end ≡ old.end)
    × (more ≡ goes_on new.end new.looked))
    ⊎ ((new.is_short ≡ true) × (more ≡ false))
