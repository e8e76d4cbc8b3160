use Rattle.std.proofs.Common.{◌≡◌, ◌∙◌, ◌+◌, ◌++◌, ℕ, List, [], ◌∷◌, map, refl, rules, subst, sym}
use Rattle.std.proofs.Common.{ap, true}
use Rattle.std.proofs.lemmas.List.FromFn.{map-range_with_len_more}
use Rattle.std.specs.List.{range_with_len}
use Rattle.acq_core.specs.Tables.{Tables}
use Rattle.acq_book.specs.Lookups.{pending_at}
use Rattle.acq_book.proofs.Chains.{looks_more}
use Rattle.acq_status.specs.Figures.{pending_on}
use Rattle.acq_status.specs.declared.pending_day.PendingDay.{PendingDay}
use Rattle.acq_status.proofs.looking_up.pending_between.Goals as goal

-- one more day was counted
counted_more : (t : Tables) (from ahead : ℕ) (before after : List PendingDay) (day requests : ℕ) →
    before ≡ map (pending_on t) (range_with_len from ahead) →
    after ≡ before ++ record { day = day; requests = requests } ∷ [] → day ≡ from + ahead →
    requests ≡ pending_at t day →
    after ≡ map (pending_on t) (range_with_len from (ahead + 1))
counted_more t from ahead before after day requests so grown is counted =
    let one : PendingDay = record { day = day; requests = requests } in
    let same : one ≡ pending_on t day =
    ap (λ n. record { day = day; requests = n }) counted in
    let all = map-range_with_len_more (pending_on t) from ahead (from + ahead) refl in
    grown ∙ (ap (λ xs. xs ++ one ∷ []) so
    ∙ (ap (λ x. map (pending_on t) (range_with_len from ahead) ++ x ∷ []) same
    ∙ (ap (λ d. map (pending_on t) (range_with_len from ahead) ++ pending_on t d ∷ []) is
    ∙ sym all)))

pub loop-ahead-preserved : goal.loop-ahead-preserved
loop-ahead-preserved g c =
    let loop = c.loop-ahead in
    let looks = c.in_ok-requests.ensures.looks in (
      looks_more g.B.Book.tables g.B.Book.is_honest g.B.Book.is_open g.B.Book.may_leave
          g.B.Book.leaves_books g.B.Book.failures g.B.Book.store_faults
          c.args.book.now loop.book c.pending.new.self true loop.invariant.0 looks,
      c.in_ok-requests.ensures.store ∙ loop.invariant.1,
      (λ honest opened.
          let before = looks.was_honest honest in
          let middle = loop.invariant.0.stays_open refl before opened in
          let same = loop.invariant.0.same middle in
          let counted = c.in_ok-requests.ensures.value (looks.stays_open refl honest middle) in
          let grown : c.push.new.self.items
          ≡ loop.pending.items ++ record { day = c.in-Some.day; requests = c.in_ok-requests.requests }
          ∷ [] = search rules in
          let is : c.in-Some.day ≡ c.args.from + loop.ahead = search rules in
          counted_more (g.B.Book.tables c.args.book.now) c.args.from loop.ahead loop.pending.items
          c.push.new.self.items c.in-Some.day c.in_ok-requests.requests
          (loop.invariant.2 before opened) grown is
          (subst (λ (t : Tables). c.in_ok-requests.requests ≡ pending_at t c.in-Some.day) same
          counted)),
    )
