-- What is told where all is well.
use Rattle.std.proofs.Common.{◌≡◌, List, ℕ, Ok, Err, ap, ◌∙◌, inl, inr, arith}
use Rattle.std.specs.Prelude.{Result, OnOk}
use Rattle.acq_program.specs.Arguments.{AsksFor}
use Rattle.acq_program.specs.declared.action.Action.{Action}
use Rattle.acq_program.specs.declared.action.Action.TheVariants.{Init, Migrate, Once, Listen}
use Rattle.acq_program.specs.declared.action.Action.TheVariants.{Replay, Report, Holds, Show, Make}
use Rattle.acq_program.specs.declared.action.Action.TheVariants.{Pending, Status, Tell, Ask, Explain}
use Rattle.acq_program.specs.declared.action.Action.TheVariants as actions
use Rattle.acq_faults.specs.Faults.{status_of}
use Rattle.acq_faults.specs.declared.fault.Fault.{Fault}
use Rattle.acq_faults.specs.declared.fault.Fault.TheVariants as fault
use Rattle.acq_program.specs.Runs.{IsQuiet, Tells, status_in}

-- a fault's status is not 0
not_well : (f : Fault) → status_of f ≡ 0 → ⊥
not_well fault.Memory h = omega (arith, h)
not_well fault.Store h = omega (arith, h)
not_well fault.BadRange h = omega (arith, h)
not_well (fault.Overlap low high) h = omega (arith, h)
not_well (fault.BadRecord n) h = omega (arith, h)
not_well fault.NoSuchMerchant h = omega (arith, h)
not_well fault.NotABook h = omega (arith, h)
not_well (fault.OtherVersion v) h = omega (arith, h)
not_well fault.BadLength h = omega (arith, h)
not_well fault.Ended h = omega (arith, h)
not_well (fault.Undecodable f) h = omega (arith, h)
not_well fault.Read h = omega (arith, h)
not_well (fault.Write n) h = omega (arith, h)
not_well fault.Silent h = omega (arith, h)
not_well fault.NoProxyHeader h = omega (arith, h)
not_well fault.DayNotOver h = omega (arith, h)
not_well (fault.StillPending n) h = omega (arith, h)
not_well (fault.BadLine n) h = omega (arith, h)
not_well (fault.OtherDay day) h = omega (arith, h)
not_well (fault.BadMessage line cause) h = omega (arith, h)
not_well (fault.RowsMissing n) h = omega (arith, h)

where_well : (ended : Result ℕ Fault) (P : Type 0) → OnOk ended P → status_in ended ≡ 0 → P
where_well (Ok status) P p h = p
where_well (Err f) P p h = absurd (not_well f h)

ends_well : (ended : Result ℕ Fault) → status_in ended ≡ 0 → ended ≡ Ok 0
ends_well (Ok status) h = ap Ok h
ends_well (Err f) h = absurd (not_well f h)

pub still_quiet : (words : List (List ℕ)) (action : Action) (ended : Result ℕ Fault)
    (told mid after : List ℕ) →
    AsksFor words (Ok action) → Tells action told mid ended → OnOk ended (after ≡ mid) →
    status_in ended ≡ 0 →
    IsQuiet words told after
still_quiet words (Init new sums) ended told mid after asks same quiet well =
    inl (where_well ended (after ≡ mid) quiet well ∙ same)
still_quiet words (Migrate path) ended told mid after asks same quiet well =
    inl (where_well ended (after ≡ mid) quiet well ∙ same)
still_quiet words (Once asked) ended told mid after asks same quiet well =
    inl (where_well ended (after ≡ mid) quiet well ∙ same)
still_quiet words (Listen asked) ended told mid after asks same quiet well = inr (asked, asks)
still_quiet words (Replay options) ended told mid after asks same quiet well =
    inl (where_well ended (after ≡ mid) quiet well ∙ same)
still_quiet words (Report options) ended told mid after asks same quiet well =
    inl (where_well ended (after ≡ mid) quiet well ∙ same)
still_quiet words (Holds options) ended told mid after asks same quiet well =
    inl (where_well ended (after ≡ mid) quiet well ∙ same)
still_quiet words (actions.ReportCsv asked) ended told mid after asks same quiet well =
    inl (where_well ended (after ≡ mid) quiet well ∙ same)
still_quiet words (actions.Statement asked) ended told mid after asks same quiet well =
    inl (where_well ended (after ≡ mid) quiet well ∙ same)
still_quiet words (actions.Find asked) ended told mid after asks same quiet well =
    inl (where_well ended (after ≡ mid) quiet well ∙ same)
still_quiet words (actions.List asked) ended told mid after asks same quiet well =
    inl (where_well ended (after ≡ mid) quiet well ∙ same)
still_quiet words (actions.Ranges asked) ended told mid after asks same quiet well =
    inl (where_well ended (after ≡ mid) quiet well ∙ same)
still_quiet words (actions.HostRanges asked) ended told mid after asks same quiet well =
    inl (where_well ended (after ≡ mid) quiet well ∙ same (ends_well ended well))
still_quiet words (actions.Audit asked) ended told mid after asks same quiet well =
    inl (where_well ended (after ≡ mid) quiet well ∙ same)
still_quiet words (actions.Page asked) ended told mid after asks same quiet well =
    inl (where_well ended (after ≡ mid) quiet well ∙ same)
still_quiet words (Pending asked) ended told mid after asks same quiet well =
    inl (where_well ended (after ≡ mid) quiet well ∙ same)
still_quiet words (Show how form) ended told mid after asks same quiet well =
    inl (where_well ended (after ≡ mid) quiet well ∙ same)
still_quiet words (Make said form) ended told mid after asks same quiet well =
    inl (where_well ended (after ≡ mid) quiet well ∙ same)
still_quiet words (Status asked) ended told mid after asks same quiet well =
    inl (where_well ended (after ≡ mid) quiet well ∙ same)
still_quiet words (Explain asked) ended told mid after asks same quiet well =
    inl (where_well ended (after ≡ mid) quiet well ∙ same)
still_quiet words (Ask asked) ended told mid after asks same quiet well =
    inl (where_well ended (after ≡ mid) quiet well ∙ same)
still_quiet words (Tell path) ended told mid after asks same quiet well =
    inl (where_well ended (after ≡ mid) quiet well ∙ same (ends_well ended well))
