use Rattle.std.proofs.Common.{◌≡◌, ◌++◌, ◌∙◌, [], false, true, refl, sym, ap, true≢false}
use Rattle.std.proofs.Common.{append-nil, append_assoc}
use Rattle.acq_book.specs.Lookups.{postings_above_at, postings_at, postings_behind_at}
use Rattle.acq_clearing.specs.Gathering.{wants_more}
use Rattle.acq_clearing.specs.Slices.{header_at, rows_from}
use Rattle.acq_clearing.proofs.Slices.{both_walks, cut_is, fresh, had_all, had_none, none_gathered}
use Rattle.acq_clearing.proofs.Slices.{records, walked_on}
use Rattle.acq_clearing.proofs.slice.clearing_slice.Goals as goal
use Rattle.acq_clearing.proofs.slice.clearing_slice.Goals.{in-Beginning+in_ok-walk_postings-in-Beginning, in-Behind+in_ok-walk_postings_above-in-Behind+then-wants_more+in_ok-walk_postings_behind-in-Behind, in-Behind+in_ok-walk_postings_above-in-Behind+else-wants_more, in-End}

pub returns-clause-text : goal.returns-clause-text
returns-clause-text g c = λ honest opened.
    let t = g.B.Book.tables c.args.book.now in
    let past = g.met.B.Book.past c.args.book.now opened in
    let day = c.args.day in
    let from = c.args.from in
    let start = c.in_ok-records.records in
    let head = c.in_ok-records.ensures.text in
    let none = had_none from start head in
    let more_at_first = fresh from start head c.in_ok-records.ensures.memory in
    cut_is t past day from c.match-from.records c.cut.result c.cut.ensures (λ whole.
    elim c.match-from.branch [
      | in-Beginning+in_ok-walk_postings-in-Beginning w ↦
          let walk = w.in_ok-walk_postings-in-Beginning.ensures in
          let saw = walk.seen (rw (w.book-is) at honest) opened in
          let at : rows_from t day from ≡ postings_at t day =
          ap (rows_from t day) w.in-Beginning.is in
          rw (w.records-is) (walked_on t past day from [] (postings_at t day) [] start _
          (at ∙ sym (append-nil _)) none more_at_first saw (rw (w.records-is) at whole)
          (λ more. refl))
      | in-Behind+in_ok-walk_postings_above-in-Behind+then-wants_more+in_ok-walk_postings_behind-in-Behind w ↦
          let m = w.in-Behind.merchant in
          let n = w.in-Behind.number in
          let above = w.in_ok-walk_postings_above-in-Behind.ensures in
          let behind = w.in_ok-walk_postings_behind-in-Behind.ensures in
          let h = rw (w.book-is) at honest in
          let mid = behind.looks.was_honest h in
          let still = above.looks.stays_open refl mid opened in
          let same = above.looks.same still in
          let more : wants_more w.walk_postings_above.new.visitor ≡ true = sym w.wants_more.ensures
          ∙ w.if-wants_more.true in
          let had = had_all (postings_above_at t m day n) start w.walk_postings_above.new.visitor
          (above.seen mid opened) more_at_first more
          ∙ ap (λ l. l ++ records (postings_above_at t m day n)) none
          ∙ append_assoc (header_at from) [] (records (postings_above_at t m day n)) in
          let is : rows_from t day from ≡ postings_above_at t m day n ++ postings_behind_at t m day =
          ap (rows_from t day) w.in-Behind.is ∙ sym (both_walks day t past m n) in
          rw (w.records-is) (walked_on t past day from (postings_above_at t m day n)
          (postings_behind_at t m day) [] w.walk_postings_above.new.visitor _
          (is ∙ ap (λ l. postings_above_at t m day n ++ l) (sym (append-nil _))) had more
          (rw same at (behind.seen h still)) (rw (w.records-is) at whole) (λ more. refl))
      | in-Behind+in_ok-walk_postings_above-in-Behind+else-wants_more w ↦
          let m = w.in-Behind.merchant in
          let n = w.in-Behind.number in
          let above = w.in_ok-walk_postings_above-in-Behind.ensures in
          let h = rw (w.book-is) at honest in
          let full : wants_more w.walk_postings_above.new.visitor ≡ false = sym w.wants_more.ensures
          ∙ w.if-wants_more.false in
          let is : rows_from t day from ≡ postings_above_at t m day n ++ postings_behind_at t m day =
          ap (rows_from t day) w.in-Behind.is ∙ sym (both_walks day t past m n) in
          rw (w.records-is) (walked_on t past day from [] (postings_above_at t m day n)
          (postings_behind_at t m day) start _ is none more_at_first (above.seen h opened)
          (rw (w.records-is) at whole) (λ more. absurd (true≢false (sym more ∙ full))))
      | in-End w ↦
          rw (w.records-is) (none_gathered t past day from start
          (ap (rows_from t day) w.in-End.is) head more_at_first)
    ])
