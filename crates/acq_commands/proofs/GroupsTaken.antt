-- Events that are taken in groups, one after the other.
use Rattle.std.proofs.Common.{◌≡◌, ◌⊎◌, ℕ, zero, suc, ◌+◌, ◌-◌, ◌<◌, ◌≤◌, min, true, false, List}
use Rattle.std.proofs.Common.{[], ◌∷◌, ◌++◌, length, take, drop, inl, inr, ⊎_elim, refl, sym, ap, subst}
use Rattle.std.proofs.Common.{◌∙◌, append_assoc, append-nil, arith}
use Rattle.std.proofs.lemmas.Bool.{cases_lt}
use Rattle.std.proofs.lemmas.Grind.{flat_map-append}
use Rattle.std.proofs.lemmas.List.{drop-take, get_or-append-add, get_or_append_left, length-append}
use Rattle.std.proofs.lemmas.List.{length-drop, length-take, length-take-le, take-append-drop}
use Rattle.std.proofs.lemmas.List.{take-take, take_min}
use Rattle.std.proofs.lemmas.Option.{get_or_from_slice_get, slice_get-get_or, slice_get_within}
use Rattle.std.specs.Prelude.{Some, slice_get}
use Rattle.std.specs.List.{flat_map}
use Rattle.acq_core.specs.declared.event.Event.{Event}
use Rattle.acq_core.specs.declared.output.Output.{Output}
use Rattle.acq_core.specs.Arrivals.{arrival_of}
use Rattle.acq_core.specs.Tables.{Tables, outputs, step_output, step_tables, tables_after}
use Rattle.acq_book.specs.declared.book.Book.{Ghosts}
use Rattle.acq_book.specs.declared.book_fault.BookFault.{BookFault}
use Rattle.acq_book.specs.Calls.{Makes}
use Rattle.acq_soundness.proofs.Runs.{tables_after-append}
use Rattle.acq_host.specs.Runs.{after_first}
use Rattle.acq_host.proofs.Runs.{HasTaken, LeavesTables}
use Rattle.acq_front.specs.Stops.{left_of}
use Rattle.acq_out.specs.OutputLines.{line_of}
use Rattle.acq_out.specs.declared.out_fault.OutFault.{OutFault}
use Rattle.acq_faults.specs.declared.fault.Fault.{Fault}
use Rattle.acq_faults.specs.Faults.{of_book, of_out}
use Rattle.acq_commands.specs.DayReports.{TakesFirst}
use Rattle.acq_commands.specs.Groups.{AreWhole}
use Rattle.acq_commands.specs.Replay.{Stops, StopsLines, lines}
use Rattle.acq_commands.specs.Streams.{Course, Stream}
use Rattle.acq_commands.proofs.LinesWritten.{reaches_line, reaches_untaken}

-- ---- lists

split_take : {X : Type 0} (xs : List X) (n m : ℕ) → n ≤ m →
    take m xs ≡ take n xs ++ take (m - n) (drop n xs)
split_take xs n m le =
    let e : m ≡ n + (m - n) = omega arith in
    sym (take-append-drop n (take m xs))
    ∙ (ap (λ front. front ++ drop n (take m xs)) (take-take n m xs le)
    ∙ ap (λ back. take n xs ++ back)
    (ap (λ k. drop n (take k xs)) e ∙ drop-take n (m - n) xs))

slice_get_among : {X : Type 0} (xs ys zs : List X) (at : ℕ) (y : X) → slice_get ys at ≡ Some y →
    slice_get (xs ++ (ys ++ zs)) (length xs + at) ≡ Some y
slice_get_among xs ys zs at y is =
    let within = slice_get_within ys at y is in
    slice_get-get_or (xs ++ (ys ++ zs)) (length xs + at) y
    (omega (arith, length-append xs (ys ++ zs), length-append ys zs, within))
    ∙ ap (λ x. Some x) (get_or-append-add xs (ys ++ zs) at y
    ∙ (get_or_append_left ys zs y at within ∙ get_or_from_slice_get ys at y y is))

-- some lines behind others, and a part of the next
sent_lines : (start between first more all part sent : List ℕ) → between ≡ start ++ first →
    all ≡ first ++ more → sent ≡ (between ++ more) ++ part → sent ≡ start ++ (all ++ part)
sent_lines start between first more all part sent begun both is =
    is
    ∙ (ap (λ x. (x ++ more) ++ part) begun
    ∙ (ap (λ x. x ++ part) (append_assoc start first more ∙ ap (λ x. start ++ x) (sym both))
    ∙ append_assoc start all part))

-- ---- outputs

outputs-append : (t : Tables) (es fs : List Event) →
    outputs t (es ++ fs) ≡ outputs t es ++ outputs (tables_after t es) fs
outputs-append t [] fs = refl
outputs-append t (e ∷ es) fs =
    ap (λ os. step_output t (arrival_of e) ∷ os)
    (outputs-append (step_tables t (arrival_of e)) es fs)

outputs-take : (t : Tables) (n : ℕ) (es : List Event) →
    outputs t (take n es) ≡ take n (outputs t es)
outputs-take t zero es = refl
outputs-take t (suc n) [] = refl
outputs-take t (suc n) (e ∷ es) =
    ap (λ os. step_output t (arrival_of e) ∷ os)
    (outputs-take (step_tables t (arrival_of e)) n es)

length-outputs : (t : Tables) (es : List Event) → length (outputs t es) ≡ length es
length-outputs t [] = refl
length-outputs t (e ∷ es) = ap (λ n. suc n) (length-outputs (step_tables t (arrival_of e)) es)

-- ---- a group

-- a group in its place among events, of which so many first ones were taken
pub record IsNext (size : ℕ) (events : List Event) (taken end : ℕ) (group : List Event)
    : Type 0 where
  pub in_hand : taken < length events
  pub whole : AreWhole size taken events
  pub ends : end ≡ min (taken + size) (length events)
  pub more : taken < end
  pub is : group ≡ take (end - taken) (drop taken events)

module _ (size : ℕ) (events : List Event) (taken end : ℕ) (group : List Event)
    (next : IsNext size events taken end group) where
  first_and_group : take end events ≡ take taken events ++ group
  first_and_group =
      split_take events taken end (omega arith) ∙ ap (λ es. take taken events ++ es) (sym next.is)

  all_parts : events ≡ take taken events ++ (group ++ drop end events)
  all_parts =
      sym (take-append-drop end events)
      ∙ (ap (λ front. front ++ drop end events) first_and_group
      ∙ append_assoc (take taken events) group (drop end events))

  length_group : length group ≡ end - taken
  length_group =
      let e = next.ends in
      let long = length-take (end - taken) (drop taken events) in
      let rest = length-drop taken events in
      let is = ap length next.is in
      omega (arith, e, long, rest, is)

  after_group : (t : Tables) →
      after_first end t events ≡ tables_after (after_first taken t events) group
  after_group t =
      ap (tables_after t) first_and_group ∙ tables_after-append t (take taken events) group

  -- where fewer are left than a group has, it has these
  after_all : (t : Tables) →
      after_first (taken + size) t events ≡ tables_after (after_first taken t events) group
  after_all t =
      ap (tables_after t)
      (sym (take_min (taken + size) events) ∙ sym (ap (λ n. take n events) next.ends))
      ∙ after_group t

  pub whole_next : AreWhole size end events
  whole_next = by next.whole (cases_lt (taken + size) (length events))
    where
      by : AreWhole size taken events →
          (taken + size < length events) ⊎ (length events ≤ taken + size) →
          AreWhole size end events
      by (inl first) (inl room) =
          let e = next.ends in
          let is = first.1 in
          inl (first.0 + 1, omega (arith, e, is, room))
      by (inl first) (inr short) = let e = next.ends in inr (omega (arith, e, short))
      by (inr all) other = let some = next.in_hand in absurd (omega (arith, all, some))

  -- what the host says to one of it
  said_in : (t : Tables) (at : ℕ) (o : Output) →
      slice_get (outputs (after_first taken t events) group) at ≡ Some o →
      slice_get (outputs t events) (taken + at) ≡ Some o
  said_in t at o is =
      let u = after_first taken t events in
      let before = outputs t (take taken events) in
      let said = outputs u group in
      let later = outputs (tables_after u group) (drop end events) in
      let all : outputs t events ≡ before ++ (said ++ later) =
      ap (outputs t) all_parts
      ∙ (outputs-append t (take taken events) (group ++ drop end events)
      ∙ ap (λ rest. before ++ rest) (outputs-append u group (drop end events))) in
      let some = next.in_hand in
      let long : length before ≡ taken =
      length-outputs t (take taken events)
      ∙ length-take-le taken events (omega (arith, some)) in
      ap (λ os. slice_get os (taken + at)) all
      ∙ (ap (λ n. slice_get (before ++ (said ++ later)) (n + at)) (sym long)
      ∙ slice_get_among before said later at o is)

  -- the lines up to one of it
  lines_in : (t : Tables) (at : ℕ) → at ≤ length group →
      lines t (take (taken + at) events)
      ≡ lines t (take taken events)
      ++ flat_map line_of (take at (outputs (after_first taken t events) group))
  lines_in t at within =
      let u = after_first taken t events in
      let long = length_group in
      let e : taken + at - taken ≡ at = omega arith in
      let front : take at group ≡ take at (drop taken events) =
      ap (take at) next.is
      ∙ take-take at (end - taken) (drop taken events) (omega (arith, long, within)) in
      let parts : take (taken + at) events ≡ take taken events ++ take at group =
      split_take events taken (taken + at) (omega arith)
      ∙ ap (λ es. take taken events ++ es)
      (ap (λ n. take n (drop taken events)) e ∙ sym front) in
      ap (lines t) parts
      ∙ (ap (λ os. flat_map line_of os) (outputs-append t (take taken events) (take at group))
      ∙ (flat_map-append line_of (outputs t (take taken events)) (outputs u (take at group))
      ∙ ap (λ os. lines t (take taken events) ++ flat_map line_of os) (outputs-take u at group)))

  -- ---- a book that took those before it

  module _ {S : Type 0} (book : Ghosts S) (a b c : S) (said : List Output)
      (first : HasTaken book a b (take taken events) said) where
    abbrev it : Course S
    it = record { left = left_of book; group = size; old = a; new = c }

    -- it took the group, too
    pub took_group : (more : List Output) →
        Makes book b c true (tables_after (book.tables b) group) →
        (book.is_honest c → book.is_open b → more ≡ outputs (book.tables b) group) →
        book.failures c ≡ book.failures b → HasTaken book a c (take end events) (said ++ more)
    took_group more makes adds failed = record {
      was_honest = λ h. first.was_honest (makes.was_honest h);
      stays_open = λ h o. makes.stays_open refl h (first.stays_open (makes.was_honest h) o);
      says = λ h o.
          let was = makes.was_honest h in
          let between = first.stays_open was o in
          ap (λ os. said ++ os) (adds h between)
          ∙ ((λ i. first.says was o i ++ outputs (first.leads was o i) group)
          ∙ (sym (outputs-append (book.tables a) (take taken events) group)
          ∙ sym (ap (outputs (book.tables a)) first_and_group)));
      leads = λ h o.
          let was = makes.was_honest h in
          let between = first.stays_open was o in
          makes.made refl between (makes.stays_open refl h between)
          ∙ (ap (λ t. tables_after t group) (first.leads was o)
          ∙ sym (after_group (book.tables a)));
      failed = failed ∙ first.failed;
      counts = let one = first.counts in let two = makes.counts in omega (arith, one, two);
    }

    module _ (honest : book.is_honest c) (opened : book.is_open a) where
      -- it did not
      module _ (settled : LeavesTables book)
          (makes : Makes book b c false (tables_after (book.tables b) group)) where
        leads_before : book.is_open c → book.tables c ≡ after_first taken (book.tables a) events
        leads_before o =
            let was = makes.was_honest honest in
            makes.unmade refl (first.stays_open was opened) o ∙ first.leads was opened

        may_stop : (t : Tables) → book.may_leave c t →
            (t ≡ after_first taken (book.tables a) events)
            ⊎ (t ≡ after_first (taken + size) (book.tables a) events)
        may_stop t l =
            let was = makes.was_honest honest in
            let between = first.stays_open was opened in
            let leads = first.leads was opened in
            ⊎_elim (λ before. inl (settled b between t before ∙ leads))
            (λ is. inr (is ∙ (ap (λ u. tables_after u group) leads
            ∙ sym (after_all (book.tables a)))))
            (makes.leaves between honest t l)

        leaves_books : book.leaves_books c
        leaves_books = makes.books (first.stays_open (makes.was_honest honest) opened) honest

        pub first_taken : TakesFirst size (book.tables a) (left_of book c) events
        first_taken = record {
          taken = taken;
          in_hand = next.in_hand;
          whole = next.whole;
          leads = leads_before;
          stop = record { tables = may_stop; stored = leaves_books };
        }

        -- and it stopped there
        stops_untaken : (sent : Stream) (f : BookFault) →
            sent.after ≡ sent.before ++ flat_map line_of said → Stops it events sent (of_book f)
        stops_untaken sent f same =
            let was = makes.was_honest honest in
            let t = book.tables a in
            let some = next.in_hand in
            record {
              taken = taken;
              written = taken;
              part = [];
              lines_sent =
                  same ∙ ap (λ x. sent.before ++ x) (ap (flat_map line_of) (first.says was opened)
                  ∙ sym (append-nil (lines t (take taken events))));
              in_hand = some;
              within = omega (arith, some);
              whole = next.whole;
              next = reaches_untaken size (outputs t events) taken f;
              leads = leads_before;
              stop = record {
                tables = λ u l. ⊎_elim (λ is. inl is) (λ is. inr (refl, is)) (may_stop u l);
                stored = leaves_books;
              };
            }

      -- it did, and stopped at a line
      stops_at_line : Makes book b c true (tables_after (book.tables b) group) →
          (sent : Stream) (between : List ℕ) → between ≡ sent.before ++ flat_map line_of said →
          (f : OutFault) → StopsLines (outputs (book.tables b) group) between sent.after f →
          Stops it events sent (of_out f)
      stops_at_line makes sent between same f stopped =
          let was = makes.was_honest honest in
          let stays = first.stays_open was opened in
          let t = book.tables a in
          let leads = first.leads was opened in
          let u = after_first taken t events in
          let so = subst (λ v. StopsLines (outputs v group) between sent.after f) leads stopped in
          let at = so.written in
          let place = said_in t at so.output so.in_hand in
          let some = slice_get_within (outputs u group) at so.output so.in_hand in
          let long = length-outputs u group in
          let size_is = length_group in
          let e = next.ends in
          let line = reaches_line size (outputs t events) end (taken + at) so.output place
          (omega (arith, some, long, size_is)) (omega (arith, e))
          f (between ++ flat_map line_of (take at (outputs u group))) sent.after so.line in
          record {
            taken = end;
            written = taken + at;
            part = line.0;
            lines_sent = sent_lines sent.before between (lines t (take taken events))
                (flat_map line_of (take at (outputs u group))) (lines t (take (taken + at) events))
                line.0 sent.after
                (same ∙ ap (λ os. sent.before ++ flat_map line_of os) (first.says was opened))
                (lines_in t at (omega (arith, some, long))) line.1;
            in_hand = omega (arith, some, long, size_is, e);
            within = omega (arith, e);
            whole = whole_next;
            next = line.2;
            leads = λ o. makes.made refl stays o
                ∙ (ap (λ v. tables_after v group) leads ∙ sym (after_group t));
            stop = record {
              tables = λ v l. inl (makes.settled refl stays honest v l
                  ∙ (ap (λ w. tables_after w group) leads ∙ sym (after_group t)));
              stored = makes.books stays honest;
            };
          }

      -- it did or did not, by the fault
      pub stops_there : LeavesTables book → (sent : Stream) (between : List ℕ) (fault : Fault) →
          (book.is_honest b → between ≡ sent.before ++ flat_map line_of said) →
          ((f : BookFault) × (fault ≡ of_book f)
          × Makes book b c false (tables_after (book.tables b) group) × (sent.after ≡ between))
          ⊎ ((f : OutFault) × (fault ≡ of_out f)
          × Makes book b c true (tables_after (book.tables b) group)
          × (book.is_honest c → book.is_open b →
          StopsLines (outputs (book.tables b) group) between sent.after f)) →
          Stops it events sent fault
      stops_there settled sent between fault so (inl untaken) =
          let makes = untaken.2 in
          subst (Stops it events sent) (sym untaken.1)
          (stops_untaken settled makes sent untaken.0
          (untaken.3 ∙ so (makes.was_honest honest)))
      stops_there settled sent between fault so (inr taken) =
          let makes = taken.2 in
          let was = makes.was_honest honest in
          subst (Stops it events sent) (sym taken.1)
          (stops_at_line makes sent between (so was) taken.0
          (taken.3 honest (first.stays_open was opened)))
