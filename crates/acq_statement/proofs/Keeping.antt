-- The rows that a walk keeps.
use Rattle.std.proofs.Common.{◌≡◌, ◌⊎◌, ℕ, Bool, List, [], ◌∷◌, ◌++◌, true, false, inl, inr, sym}
use Rattle.std.proofs.Common.{ap, ap₂, ◌∙◌}
use Rattle.std.proofs.Common.{append_assoc, append-nil, ◌+◌, ◌<◌, length, take, slice_index_or}
use Rattle.std.proofs.lemmas.List.Elements.{filter_map-append}
use Rattle.acq_statement.proofs.Summing.{take_next}
use Rattle.std.specs.Prelude.{Option, None}
use Rattle.std.specs.List.{cons_option, filter_map}
use Rattle.acq_core.specs.declared.request.Request.{Request}
use Rattle.acq_core.specs.declared.terminal.Terminal.{Terminal}
use Rattle.acq_book.specs.Visits.{SawAll}
use Rattle.acq_statement.specs.declared.claim.Claim.{Claim}
use Rattle.acq_statement.specs.declared.claims.Claims.{Claims}
use Rattle.acq_statement.specs.declared.days.Days.{Days}
use Rattle.acq_statement.specs.declared.terminals.Terminals.{Terminals}
use Rattle.acq_statement.specs.Claims.{claim_in}
use Rattle.acq_statement.specs.ClaimRows.{ClaimsOne}
use Rattle.acq_reports.specs.Slices.{goes_on}
use Rattle.acq_statement.specs.TerminalRows.{KeepsTerminal}
use Rattle.acq_statement.proofs.Slicing as slices

-- terminals
pub all_kept : (rows : List Terminal) (v w : Terminals) → SawAll KeepsTerminal rows v w →
    w.is_short ≡ false → w.terminals.items ≡ v.terminals.items ++ rows
all_kept [] v w same short =
    ap (λ u. u.terminals.items) (sym same) ∙ sym (append-nil v.terminals.items)
all_kept (row ∷ rows) v w (inl (u, seen, rest)) short =
    all_kept rows u w rest short
    ∙ (ap (λ xs. xs ++ rows) seen.0 ∙ append_assoc v.terminals.items (row ∷ []) rows)
all_kept (row ∷ rows) v w (inr seen) short = absurd (let a = seen in let b = short in cc)

-- claims
module _ (before : List Claim) (asked : List (List ℕ)) (days : Days) where
  abbrev HoldsClaims : List Request → Claims → Type 0
  HoldsClaims done v =
      (v.claims.items ≡ before ++ filter_map (claim_in asked days) done)
      × (v.asked.merchants.now ≡ asked) × (v.asked.days ≡ days)

  pub one_claim : (done : List Request) (v : Claims) (row : Request) (more : Bool) (w : Claims) →
      HoldsClaims done v → ClaimsOne v row more w →
      (HoldsClaims (done ++ row ∷ []) w × (w.looked ≡ v.looked + 1) × (w.end ≡ v.end)
      × (more ≡ goes_on w.end w.looked))
      ⊎ ((w.is_short ≡ true) × (more ≡ false))
  one_claim done v row more w holds (inr stops) = inr stops
  one_claim done v row more w (has, names, on) (inl (adds, same, next, ends, goes)) =
      inl (
        (
          adds
              ∙ ap₂ (λ m d. v.claims.items ++ cons_option (claim_in m d row) []) names on
              ∙ ap (λ l. l ++ cons_option (claim_in asked days row) []) has
              ∙ append_assoc before (filter_map (claim_in asked days) done)
              (cons_option (claim_in asked days row) [])
              ∙ ap (λ l. before ++ l) (sym (filter_map-append (claim_in asked days) done
              (row ∷ []))),
          ap (λ a. a.merchants.now) same ∙ names,
          ap (λ a. a.days) same ∙ on,
        ),
        next,
        ends,
        goes,
      )

  abbrev pub HasClaimed : List Request → Claims → Claims → Type 0
  HasClaimed rows v w =
      slices.HasWalked ClaimsOne (λ u. u.looked) (λ u. u.end) (λ u. u.is_short) HoldsClaims
      one_claim [] rows v w

  pub claimed : (rows : List Request) (v w : Claims) → v.claims.items ≡ before →
      v.asked.merchants.now ≡ asked → v.asked.days ≡ days → SawAll ClaimsOne rows v w →
      w.is_short ≡ false → HasClaimed rows v w
  claimed rows v w had names on saw enough =
      slices.walked ClaimsOne (λ u. u.looked) (λ u. u.end) (λ u. u.is_short) HoldsClaims one_claim
      [] rows v w (had ∙ sym (append-nil before), names, on) saw enough

-- those of all rows
pub all_claimed : (asked : List (List ℕ)) (days : Days) (rows : List Request) (v w : Claims) →
    SawAll ClaimsOne rows v w → w.is_short ≡ false → v.claims.items ≡ [] →
    v.asked.merchants.now ≡ asked → v.asked.days ≡ days → v.end ≡ None →
    w.claims.items ≡ filter_map (claim_in asked days) rows
all_claimed asked days rows v w saw enough none names on whole =
    let is = claimed [] asked days rows v w none names on saw enough in
    is.holds.0
    ∙ ap (filter_map (claim_in asked days))
    (sym (append-nil is.gone) ∙ ap (λ l. is.gone ++ l) (sym (is.whole whole)) ∙ sym is.parts)

-- what is found, as far as a loop has come
pub filter_map_next : {X Y : Type 0} (f : X → Option Y) (xs : List X) (i : ℕ) (x : X)
    (within : i < length xs) (is : x ≡ slice_index_or xs i x) →
    filter_map f (take i xs) ++ cons_option (f x) [] ≡ filter_map f (take (i + 1) xs)
filter_map_next f xs i x within is =
    sym (ap (filter_map f) (take_next xs i x within is)
    ∙ filter_map-append f (take i xs) (x ∷ []))
