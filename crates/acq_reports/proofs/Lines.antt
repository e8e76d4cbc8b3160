-- Lines of a report, one after another, as far as they went out.
use Rattle.std.proofs.Common.{◌≡◌, ◌⊎◌, ℕ, ◌+◌, ◌<◌, List, [], ◌∷◌, ◌++◌, take, drop, length}
use Rattle.std.proofs.Common.{Bool, true, false, inl, inr, refl, sym, ap, ◌∙◌, subst, arith}
use Rattle.std.proofs.Common.{append_assoc, append-nil, length-append}
use Rattle.std.proofs.lemmas.List.{take-append-drop, take-append-le}
use Rattle.std.proofs.Math.Seq.{take-append_seam, take-append-add}
use Rattle.std.proofs.lemmas.Grind.{flat_map-append}
use Rattle.std.specs.Prelude.{Option, Some, None, Result, Ok, Err, OnOk, OnErr, is_ok}
use Rattle.std.specs.List.{flat_map}
use Rattle.acq_book.specs.declared.book_fault.BookFault.{BookFault}
use Rattle.acq_book.specs.declared.book_fault.BookFault as book
use Rattle.acq_book.specs.Visits.{Saw, SawAll, SawRows, SawSome}
use Rattle.acq_reports.specs.declared.report.Report.{Report}
use Rattle.acq_reports.specs.declared.report_fault.ReportFault.{ReportFault}
use Rattle.acq_reports.specs.declared.stop.Stop.{Stop}
use Rattle.acq_reports.specs.declared.stop.Stop.TheVariants as stop
use Rattle.acq_reports.specs.Faults.{failed_writes}
use Rattle.acq_reports.specs.Writing.{WentOut, StoppedAfter, Puts, PutsReport, Reports, Writes}
use Rattle.acq_reports.specs.Writing.{Ends, IsFresh, Settles, end_of}

module _ {K : Type 0} (sent : K → List ℕ) (failures : K → ℕ) where
  -- nothing more, as far as it goes
  pub went_nothing : (r : Report K) → WentOut sent failures [] r r
  went_nothing r = record {
    same_writer = refl;
    stop = refl;
    gone = [];
    out = sym (append-nil (sent r.writer.now));
    held = sym (append-nil r.held);
    written = omega arith;
    failed = refl;
  }

  -- what was held and a longer text are what went out meanwhile, what is held then, and the rest
  gone_first : (a b : List ℕ) (x y : Report K) (went : WentOut sent failures a x y)
      → x.held ++ (a ++ b) ≡ went.gone ++ (y.held ++ b)
  gone_first a b x y went =
      sym (append_assoc x.held a b)
      ∙ (ap (λ t. t ++ b) (sym went.held) ∙ append_assoc went.gone y.held b)

  -- two texts
  pub went_more : (a b : List ℕ) (x y z : Report K) → WentOut sent failures a x y →
      WentOut sent failures b y z
      → WentOut sent failures (a ++ b) x z
  went_more a b x y z first second = record {
    same_writer = second.same_writer ∙ first.same_writer;
    stop = second.stop ∙ first.stop;
    gone = first.gone ++ second.gone;
    out =
        second.out
        ∙ (ap (λ s. s ++ second.gone) first.out
        ∙ append_assoc (sent x.writer.now) first.gone second.gone);
    held =
        append_assoc first.gone second.gone z.held
        ∙ (ap (λ t. first.gone ++ t) second.held ∙ sym (gone_first a b x y first));
    written =
        let len = length-append first.gone second.gone in
        let one = first.written in
        let two = second.written in
        omega arith;
    failed = second.failed ∙ first.failed;
  }

  -- a text, and not all of another
  pub went_stopped : (a b : List ℕ) (x y z : Report K) → WentOut sent failures a x y
      → (n : ℕ) × StoppedAfter sent failures b y z n
      → (n : ℕ) × StoppedAfter sent failures (a ++ b) x z n
  went_stopped a b x y z first (n, second) =
      let all = gone_first a b x y first in
      let lengths : length (x.held ++ (a ++ b)) ≡ length first.gone
      + length (y.held ++ b) =
      ap length all ∙ length-append first.gone (y.held ++ b) in (
        length first.gone + n,
        record {
          same_writer = second.same_writer ∙ first.same_writer;
          within =
              let le = second.within in
              omega arith;
          out =
              second.out
              ∙ (ap (λ s. s ++ take n (y.held ++ b)) first.out
              ∙ (append_assoc (sent x.writer.now) first.gone (take n (y.held ++ b))
              ∙ ap (λ t. sent x.writer.now ++ t)
              (sym (take-append-add first.gone (y.held ++ b) n)
              ∙ ap (take (length first.gone + n)) (sym all))));
          why = reason lengths second.why;
        },
      )
    where
      reason : length (x.held ++ (a ++ b)) ≡ length first.gone + length (y.held ++ b)
          → ((z.stop ≡ Some stop.Memory) × (failures z.writer.now ≡ failures y.writer.now))
          ⊎ ((z.stop ≡ Some (stop.Write (y.written + n))) × (n < length (y.held ++ b))
          × (failures z.writer.now ≡ failures y.writer.now + 1))
          → ((z.stop ≡ Some stop.Memory) × (failures z.writer.now ≡ failures x.writer.now))
          ⊎ ((z.stop ≡ Some (stop.Write (x.written + (length first.gone + n))))
          × (length first.gone + n < length (x.held ++ (a ++ b)))
          × (failures z.writer.now ≡ failures x.writer.now + 1))
      reason lengths (inl memory) = inl (memory.0, memory.1 ∙ first.failed)
      reason lengths (inr write) =
          let one = first.written in
          let short = write.1 in
          let count : y.written + n ≡ x.written + (length first.gone + n) = omega arith in
          inr (
            write.0 ∙ ap (λ m. Some (stop.Write m)) count,
            omega arith,
            write.2 ∙ ap (λ m. m + 1) first.failed,
          )

  -- not all of a text, and so not all of a longer one
  pub stopped_more : (a b : List ℕ) (x z : Report K) (n : ℕ) → StoppedAfter sent failures a x z n
      → StoppedAfter sent failures (a ++ b) x z n
  stopped_more a b x z n stopped =
      let all = append_assoc x.held a b in
      let lengths : length (x.held ++ (a ++ b)) ≡ length (x.held ++ a) + length b =
      ap length (sym all) ∙ length-append (x.held ++ a) b in
      record {
        same_writer = stopped.same_writer;
        within =
            let le = stopped.within in
            omega arith;
        out =
            stopped.out
            ∙ ap (λ t. sent x.writer.now ++ t)
            (sym (take-append-le n (x.held ++ a) b stopped.within) ∙ ap (take n) all);
        why = reason lengths stopped.why;
      }
    where
      reason : length (x.held ++ (a ++ b)) ≡ length (x.held ++ a) + length b
          → ((z.stop ≡ Some stop.Memory) × (failures z.writer.now ≡ failures x.writer.now))
          ⊎ ((z.stop ≡ Some (stop.Write (x.written + n))) × (n < length (x.held ++ a))
          × (failures z.writer.now ≡ failures x.writer.now + 1))
          → ((z.stop ≡ Some stop.Memory) × (failures z.writer.now ≡ failures x.writer.now))
          ⊎ ((z.stop ≡ Some (stop.Write (x.written + n)))
          × (n < length (x.held ++ (a ++ b)))
          × (failures z.writer.now ≡ failures x.writer.now + 1))
      reason lengths (inl memory) = inl memory
      reason lengths (inr write) =
          let short = write.1 in
          inr (write.0, omega arith, write.2)

  -- a text went out or is held, or not all of it
  abbrev pub Outcome : List ℕ → Report K → Report K → Type 0
  Outcome text x z = WentOut sent failures text x z
      ⊎ ((n : ℕ) × StoppedAfter sent failures text x z n)

  pub outcome_more : (a b : List ℕ) (x y z : Report K) → WentOut sent failures a x y → Outcome b y z
      → Outcome (a ++ b) x z
  outcome_more a b x y z first (inl went) = inl (went_more a b x y z first went)
  outcome_more a b x y z first (inr stopped) = inr (went_stopped a b x y z first stopped)

  pub puts_more : (a b : List ℕ) (x y z : Report K) (more : Bool) → WentOut sent failures a x y
      → Puts sent failures b y more z → Puts sent failures (a ++ b) x more z
  puts_more a b x y z true first went = went_more a b x y z first went
  puts_more a b x y z false first stopped = went_stopped a b x y z first stopped

  -- what went out of a text by the end of a walk
  abbrev pub Progress : List ℕ → Report K → Report K → Result (Unit {0}) BookFault → Type 0
  Progress text x z w = PutsReport sent failures text x z w

  pub progress_more : (a b : List ℕ) (x y z : Report K) (w : Result (Unit {0}) BookFault)
      → WentOut sent failures a x y → Progress b y z w → Progress (a ++ b) x z w
  progress_more a b x y z (Ok u) first rest = outcome_more a b x y z first rest
  progress_more a b x y z (Err f) first rest = (
    rest.0 ∙ first.same_writer,
    (
      length first.gone + rest.1.0,
      rest.1.1
          ∙ (ap (λ s. s ++ take rest.1.0 (y.held ++ b)) first.out
          ∙ (append_assoc (sent x.writer.now) first.gone (take rest.1.0 (y.held ++ b))
          ∙ ap (λ t. sent x.writer.now ++ t)
          (sym (take-append-add first.gone (y.held ++ b) rest.1.0)
          ∙ ap (take (length first.gone + rest.1.0)) (sym (gone_first a b x y first))))),
    ),
    rest.2 ∙ first.failed,
  )

  pub progress_stopped : (a b : List ℕ) (x z : Report K) (n : ℕ) →
      StoppedAfter sent failures a x z n
      → Progress (a ++ b) x z (Ok tt)
  progress_stopped a b x z n stopped = inr (n, stopped_more a b x z n stopped)

  -- a text went out or is held, and nothing of what is behind it was put
  pub begins_part : (a b : List ℕ) (x z : Report K) (f : BookFault) → WentOut sent failures a x z
      → Progress (a ++ b) x z (Err f)
  begins_part a b x z f went = (
    went.same_writer,
    (
      length went.gone,
      went.out
          ∙ ap (λ t. sent x.writer.now ++ t)
          (sym (take-append_seam went.gone (z.held ++ b))
          ∙ ap (take (length went.gone)) (sym (gone_first a b x z went))),
    ),
    went.failed,
  )

  -- ---- what the report ends with

  abbrev Tells : List ℕ → Report K → Report K → Result (Unit {0}) ReportFault → Type 0
  Tells text x z result =
      Reports None text (sent x.writer.now) (sent z.writer.now) result
      × (failures z.writer.now ≡ failures x.writer.now + failed_writes result)

  told-stopped : (text : List ℕ) (x z : Report K) (n : ℕ) → IsFresh x
      → StoppedAfter sent failures text x z n → Tells text x z (end_of (Ok tt) z.stop)
  told-stopped text x z n fresh stopped = at out why
    where
      alone : x.held ++ text ≡ text
      alone = ap (λ h. h ++ text) fresh.1

      out : sent z.writer.now ≡ sent x.writer.now ++ take n text
      out = stopped.out ∙ ap (λ t. sent x.writer.now ++ take n t) alone

      why : ((z.stop ≡ Some stop.Memory) × (failures z.writer.now ≡ failures x.writer.now))
          ⊎ ((z.stop ≡ Some (stop.Write (x.written + n))) × (n < length text)
          × (failures z.writer.now ≡ failures x.writer.now + 1))
      why =
          subst (λ t. ((z.stop ≡ Some stop.Memory)
          × (failures z.writer.now ≡ failures x.writer.now))
          ⊎ ((z.stop ≡ Some (stop.Write (x.written + n))) × (n < length t)
          × (failures z.writer.now ≡ failures x.writer.now + 1))) alone stopped.why

      at : sent z.writer.now ≡ sent x.writer.now ++ take n text
          → ((z.stop ≡ Some stop.Memory) × (failures z.writer.now ≡ failures x.writer.now))
          ⊎ ((z.stop ≡ Some (stop.Write (x.written + n))) × (n < length text)
          × (failures z.writer.now ≡ failures x.writer.now + 1))
          → Tells text x z (end_of (Ok tt) z.stop)
      at out (inl memory) =
          let same = memory.1 in
          let count : failures z.writer.now ≡ failures x.writer.now + 0 = omega arith in
          subst (λ s. Tells text x z (end_of (Ok tt) s)) (sym memory.0) ((n, out), count)
      at out (inr write) =
          let zero = fresh.0 in
          let all : x.written + n ≡ n = omega arith in
          subst (λ s. Tells text x z (end_of (Ok tt) s))
          (sym (write.0 ∙ ap (λ m. Some (stop.Write m)) all)) ((refl, write.1, out), write.2)

  told-went : (text : List ℕ) (x z : Report K) → IsFresh x → x.stop ≡ None
      → WentOut sent failures text x z → z.held ≡ []
      → Tells text x z (end_of (Ok tt) z.stop)
  told-went text x z fresh begun went empty =
      let same = went.failed in
      let count : failures z.writer.now ≡ failures x.writer.now + 0 = omega arith in
      let all : went.gone ≡ text =
      sym (append-nil went.gone)
      ∙ (ap (λ h. went.gone ++ h) (sym empty) ∙ (went.held ∙ ap (λ h. h ++ text) fresh.1)) in
      subst (λ s. Tells text x z (end_of (Ok tt) s)) (sym (went.stop ∙ begun))
      ((refl, went.out ∙ ap (λ t. sent x.writer.now ++ t) all), count)

  -- a walk that failed
  told-failed : (text : List ℕ) (x z : Report K) (f : BookFault) → IsFresh x
      → Progress text x z (Err f) → Tells text x z (end_of (Err f) z.stop)
  told-failed text x z book.TheVariants.Memory fresh rest =
      let same = rest.2 in
      let count : failures z.writer.now ≡ failures x.writer.now + 0 = omega arith in (
        (
          rest.1.0,
          rest.1.1 ∙ ap (λ h. sent x.writer.now ++ take rest.1.0 (h ++ text)) fresh.1,
        ),
        count,
      )
  told-failed text x z book.TheVariants.Store fresh rest =
      let same = rest.2 in
      let count : failures z.writer.now ≡ failures x.writer.now + 0 = omega arith in (
        (
          rest.1.0,
          rest.1.1 ∙ ap (λ h. sent x.writer.now ++ take rest.1.0 (h ++ text)) fresh.1,
        ),
        count,
      )

  -- what is held goes out behind the text
  settled : (text : List ℕ) (x z u : Report K) (w : Result (Unit {0}) BookFault)
      (before : Option Stop) → z.stop ≡ before → IsFresh x → x.stop ≡ None → Progress text x z w
      → Settles sent failures w before z u → Tells text x u (end_of w u.stop)
  settled text x z u (Err f) before is fresh begun rest same =
      subst (λ r. Tells text x r (end_of (Err f) r.stop)) (sym same)
      (told-failed text x z f fresh rest)
  settled text x z u (Ok tt) (Some why) is fresh begun (inl went) same =
      absurd (let a = is in let b = went.stop in let c = begun in cc)
  settled text x z u (Ok tt) (Some why) is fresh begun (inr stopped) same =
      subst (λ r. Tells text x r (end_of (Ok tt) r.stop)) (sym same)
      (told-stopped text x z stopped.0 fresh stopped.1)
  settled text x z u (Ok tt) None is fresh begun (inr stopped) last =
      absurd (never stopped.1.why)
    where
      never : ((z.stop ≡ Some stop.Memory) × (failures z.writer.now ≡ failures x.writer.now))
          ⊎ ((z.stop ≡ Some (stop.Write (x.written + stopped.0)))
          × (stopped.0 < length (x.held ++ text))
          × (failures z.writer.now ≡ failures x.writer.now + 1)) → ⊥
      never (inl memory) = let a = is in let b = memory.0 in cc
      never (inr write) = let a = is in let b = write.0 in cc
  settled text x z u (Ok tt) None is fresh begun (inl went) (inl last) =
      subst (λ t. Tells t x u (end_of (Ok tt) u.stop)) (append-nil text)
      (told-went (text ++ []) x u fresh begun (went_more text [] x z u went last.0) last.1)
  settled text x z u (Ok tt) None is fresh begun (inl went) (inr stopped) =
      let all = went_stopped text [] x z u went stopped in
      subst (λ t. Tells t x u (end_of (Ok tt) u.stop)) (append-nil text)
      (told-stopped (text ++ []) x u all.0 fresh all.1)

  same_name : (text : List ℕ) (x z : Report K) (w : Result (Unit {0}) BookFault) →
      Progress text x z w
      → x.writer.ghost_name ≡ z.writer.ghost_name
  same_name text x z (Ok u) (inl went) = sym went.same_writer
  same_name text x z (Ok u) (inr stopped) = sym stopped.1.same_writer
  same_name text x z (Err f) rest = sym rest.0

  same_last : (z u : Report K) (w : Result (Unit {0}) BookFault) (before : Option Stop)
      → Settles sent failures w before z u → z.writer.ghost_name ≡ u.writer.ghost_name
  same_last z u (Ok v) None (inl last) = sym last.0.same_writer
  same_last z u (Ok v) None (inr stopped) = sym stopped.1.same_writer
  same_last z u (Ok v) (Some why) same = ap (λ r. r.writer.ghost_name) (sym same)
  same_last z u (Err f) before same = ap (λ r. r.writer.ghost_name) (sym same)

  -- the same of what it was written to, which is `first` before and `last` after
  told : (text : List ℕ) (x z u : Report K) (w : Result (Unit {0}) BookFault) (first last : K)
      (result : Result (Unit {0}) ReportFault) → IsFresh x → x.stop ≡ None →
      x.writer.now ≡ first
      → (x.writer.ghost_name ≡ u.writer.ghost_name → last ≡ u.writer.now)
      → result ≡ end_of w u.stop → Settles sent failures w z.stop z u
      → Progress text x z w
      → Writes sent failures text first last result
  told text x z u w first last result fresh begun starts ends is settles rest =
      let tells = settled text x z u w z.stop refl fresh begun rest settles in
      let same = ends (same_name text x z w rest ∙ same_last z u w z.stop settles) in
      rw (is, same, ← starts) tells

  pub finished : (text : List ℕ) (x z : Report K) {u : Report K} (w : Result (Unit {0}) BookFault)
      (first last : K)
      (result : Result (Unit {0}) ReportFault) → IsFresh x → x.stop ≡ None →
      x.writer.now ≡ first
      → (x.writer.ghost_name ≡ u.writer.ghost_name → last ≡ u.writer.now)
      → Ends sent failures w z result u
      → Progress text x z w
      → Writes sent failures text first last result
  finished text x z {u} w first last result fresh begun starts ends is rest =
      told text x z u w first last result fresh begun starts ends is.tells is.settles rest

  pub puts_outcome : (text : List ℕ) (x z : Report K) (more : Bool)
      → Puts sent failures text x more z → Outcome text x z
  puts_outcome text x z true went = inl went
  puts_outcome text x z false stopped = inr stopped

  -- a report that ends so ends so of one text, too
  pub ended : (z u : Report K) (w : Result (Unit {0}) BookFault)
      (result : Result (Unit {0}) ReportFault) → result ≡ end_of w u.stop
      → Settles sent failures w z.stop z u → Ends sent failures w z result u
  ended z u w result is settles = record {
    tells = is;
    settles = settles;
    alone = λ text x first last more well fresh begun starts ends puts.
        told text x z u w first last result fresh begun starts ends is settles
        (subst (λ v. Progress text x z v) (sym well) (puts_outcome text x z more puts));
  }

module _ {K Row V : Type 0} (sent : K → List ℕ) (failures : K → ℕ) (report : V → Report K)
    (line : Row → List ℕ)
    (Keeps : V → Type 0) (sees : V → Row → Bool → V → Type 0)
    (puts : (v : V) (row : Row) (more : Bool) (w : V) → Keeps v → sees v row more w
    → Puts sent failures (line row) (report v) more (report w) × Keeps w) where
  -- a visitor that wanted more after each row wrote all of their lines
  pub all_out : (rows : List Row) (v w : V) → Keeps v → Saw sees rows v w
      → WentOut sent failures (flat_map line rows) (report v) (report w)
  all_out [] v w kept same =
      subst (λ u. WentOut sent failures [] (report v) (report u)) same
      (went_nothing sent failures (report v))
  all_out (row ∷ rows) v w kept (u, seen, rest) =
      let one = puts v row true u kept seen in
      went_more sent failures (line row) (flat_map line rows) (report v) (report u) (report w) one.0
      (all_out rows u w one.1 rest)

  -- after a whole walk the lines went out, or not all of them
  pub walked : (rows : List Row) (v w : V) → Keeps v → SawAll sees rows v w
      → Outcome sent failures (flat_map line rows) (report v) (report w)
  walked [] v w kept same =
      inl (subst (λ u. WentOut sent failures [] (report v) (report u)) same
      (went_nothing sent failures (report v)))
  walked (row ∷ rows) v w kept (inl (u, seen, rest)) =
      let one = puts v row true u kept seen in
      outcome_more sent failures (line row) (flat_map line rows) (report v) (report u)
      (report w) one.0
      (walked rows u w one.1 rest)
  walked (row ∷ rows) v w kept (inr seen) =
      let one = puts v row false w kept seen in
      inr (
        one.0.0,
        stopped_more sent failures (line row) (flat_map line rows) (report v)
            (report w) one.0.0 one.0.1,
      )

  -- after a part of a walk a beginning of them did
  begun : (rows : List Row) (v w : V) (f : BookFault) → Keeps v → SawSome sees rows v w
      → Progress sent failures (flat_map line rows) (report v) (report w) (Err f)
  begun rows v w f kept (n, saw) =
      let front = flat_map line (take n rows) in
      let back = flat_map line (drop n rows) in
      let whole : flat_map line rows ≡ front ++ back =
      ap (flat_map line) (sym (take-append-drop n rows)) ∙ flat_map-append line (take n rows)
      (drop n rows) in
      subst (λ t. Progress sent failures t (report v) (report w) (Err f)) (sym whole)
      (begins_part sent failures front back (report v) (report w) f
      (all_out (take n rows) v w kept saw))

  pub progress : (rows : List Row) (v w : V) (r : Result (Unit {0}) BookFault) → Keeps v
      → OnOk r (SawAll sees rows v w) → OnErr r (SawSome sees rows v w)
      → Progress sent failures (flat_map line rows) (report v) (report w) r
  progress rows v w (Ok u) kept all some = walked rows v w kept all
  progress rows v w (Err f) kept all some = begun rows v w f kept some

-- The same of whichever rows were walked, of each of which a visitor puts some text.
module _ {K Row V : Type 0} (sent : K → List ℕ) (failures : K → ℕ) (report : V → Report K)
    (sees : V → Row → Bool → V → Type 0)
    (puts : (v : V) (row : Row) (more : Bool) (w : V) → sees v row more w
    → (text : List ℕ) × Puts sent failures text (report v) more (report w)) where
  any_out : (rows : List Row) (v w : V) → Saw sees rows v w
      → (text : List ℕ) × WentOut sent failures text (report v) (report w)
  any_out [] v w same = (
    [],
    subst (λ u. WentOut sent failures [] (report v) (report u)) same
        (went_nothing sent failures (report v)),
  )
  any_out (row ∷ rows) v w (u, seen, rest) =
      let one = puts v row true u seen in
      let more = any_out rows u w rest in (
        one.0 ++ more.0,
        went_more sent failures one.0 more.0 (report v) (report u) (report w) one.1 more.1,
      )

  any_walked : (rows : List Row) (v w : V) → SawAll sees rows v w
      → (text : List ℕ) × Outcome sent failures text (report v) (report w)
  any_walked [] v w same = (
    [],
    inl (subst (λ u. WentOut sent failures [] (report v) (report u)) same
        (went_nothing sent failures (report v))),
  )
  any_walked (row ∷ rows) v w (inl (u, seen, rest)) =
      let one = puts v row true u seen in
      let more = any_walked rows u w rest in (
        one.0 ++ more.0,
        outcome_more sent failures one.0 more.0 (report v) (report u) (report w) one.1 more.1,
      )
  any_walked (row ∷ rows) v w (inr seen) =
      let one = puts v row false w seen in (one.0, inr one.1)

  pub progress_any : (v w : V) (r : Result (Unit {0}) BookFault) → SawRows sees v w (is_ok r)
      → (text : List ℕ) × Progress sent failures text (report v) (report w) r
  progress_any v w (Ok u) (rows, saw) = any_walked rows v w saw
  progress_any v w (Err f) (rows, saw) =
      let out = any_out rows v w saw in (
        out.0,
        subst (λ t. Progress sent failures t (report v) (report w) (Err f)) (append-nil out.0)
            (begins_part sent failures out.0 [] (report v) (report w) f out.1),
      )
