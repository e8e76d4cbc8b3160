-- Parts of a text, one after another.
use Rattle.std.proofs.Common.{◌≡◌, ℕ, ◌+◌, ◌<◌, List, [], ◌∷◌, ◌++◌, take, drop, length}
use Rattle.std.proofs.Common.{Bool, true, false, refl, sym, ap, ◌∙◌, subst, add-one}
use Rattle.std.proofs.Common.{append_assoc, append-nil, is_ok, get_or}
use Rattle.std.proofs.lemmas.List.{take-append-drop}
use Rattle.std.proofs.lemmas.Grind.{flat_map-append}
use Rattle.std.proofs.Math.Seq.{take-suc, take-append_seam}
use Rattle.std.specs.Prelude.{Result, Ok, Err}
use Rattle.std.specs.List.{flat_map}
use Rattle.acq_core.specs.Tables.{Tables}
use Rattle.acq_book.specs.declared.book.Book.{Ghosts}
use Rattle.acq_book.specs.declared.book_fault.BookFault.{BookFault}
use Rattle.acq_book.specs.Calls.{Looks}
use Rattle.acq_book.specs.Promise.{CountsFault}
use Rattle.acq_reports.specs.declared.report.Report.{Report}
use Rattle.acq_reports.specs.Writing.{WentOut, Puts, PutsLines, PutsReport, Begins}
use Rattle.acq_reports.proofs.Chains.{looks_more}
use Rattle.acq_reports.proofs.Lines.{went_more, went_nothing, went_stopped, stopped_more}
use Rattle.acq_reports.proofs.Lines.{progress_more, puts_outcome, begins_part}
use Rattle.acq_statement.specs.Parts.{PutsPart, walk_of}

-- ---- what went out

module _ {K : Type 0} (sent : K → List ℕ) (failures : K → ℕ) where
  -- a beginning of a text is one of a longer text
  begins_longer : (a b old new : List ℕ) → Begins a old new → Begins (a ++ b) old new
  begins_longer a b old new (n, is) =
      let whole : take n a ++ (drop n a ++ b) ≡ a ++ b =
      sym (append_assoc (take n a) (drop n a) b) ∙ ap (λ t. t ++ b) (take-append-drop n a) in (
        length (take n a),
        is
            ∙ ap (λ t. old ++ t)
            (sym (take-append_seam (take n a) (drop n a ++ b))
            ∙ ap (take (length (take n a))) whole),
      )

  -- lines, and more of them
  pub lines_then : (a b : List ℕ) (x y z : Report K) (r : Result Bool BookFault)
      → WentOut sent failures a x y → PutsLines sent failures b y z r
      → PutsLines sent failures (a ++ b) x z r
  lines_then a b x y z (Ok true) first second = went_more sent failures a b x y z first second
  lines_then a b x y z (Ok false) first second = went_stopped sent failures a b x y z first second
  lines_then a b x y z (Err f) first second =
      progress_more sent failures a b x y z (Err f) first second

  -- lines that stopped, and so the longer text
  pub lines_stopped : (a b : List ℕ) (x y : Report K) → PutsLines sent failures a x y (Ok false)
      → PutsLines sent failures (a ++ b) x y (Ok false)
  lines_stopped a b x y (n, stopped) = (n, stopped_more sent failures a b x y n stopped)

  pub lines_failed : (a b : List ℕ) (x y : Report K) (f : BookFault)
      → PutsLines sent failures a x y (Err f) → PutsLines sent failures (a ++ b) x y (Err f)
  lines_failed a b x y f (same, begun, failed) =
      let longer = begins_longer (x.held ++ a) b (sent x.writer.now) (sent y.writer.now) begun in (
        same,
        subst (λ t. Begins t (sent x.writer.now) (sent y.writer.now))
            (append_assoc x.held a b) longer,
        failed,
      )

  -- nothing was put, and the book failed
  pub lines_none : (a : List ℕ) (x : Report K) (f : BookFault)
      → PutsLines sent failures a x x (Err f)
  lines_none a x f = begins_part sent failures [] a x x f (went_nothing sent failures x)

  -- by the end
  pub lines_report : (a : List ℕ) (x y : Report K) (r : Result Bool BookFault)
      → PutsLines sent failures a x y r → PutsReport sent failures a x y (walk_of r)
  lines_report a x y (Ok more) put = puts_outcome sent failures a x y more put
  lines_report a x y (Err f) put = put

-- ---- parts

module _ {S K : Type 0} (book : Ghosts S) (sent : K → List ℕ) (failures : K → ℕ) where
  abbrev Part : (Tables → List ℕ) → S → S → Report K → Report K → Result Bool BookFault → Type 0
  Part = PutsPart book sent failures

  -- the same of the same text
  pub part_of : (text other : Tables → List ℕ) (a b : S) (x y : Report K)
      (r : Result Bool BookFault) → ((t : Tables) → text t ≡ other t) → Part text a b x y r →
      Part other a b x y r
  part_of text other a b x y r same part = record {
    puts = λ honest opened.
        subst (λ l. PutsLines sent failures l x y r) (same (book.tables a))
        (part.puts honest opened);
    any = part.any;
    looks = part.looks;
    store = part.store;
  }

  -- two parts
  pub part_then : (first second : Tables → List ℕ) (a b c : S) (x y z : Report K)
      (r : Result Bool BookFault) → Part first a b x y (Ok true) → Part second b c y z r
      → Part (λ t. first t ++ second t) a c x z r
  part_then first second a b c x y z r one two = record {
    puts = λ honest opened.
        let was = two.looks.was_honest honest in
        let between = one.looks.stays_open refl was opened in
        lines_then sent failures (first (book.tables a)) (second (book.tables a)) x y z r
        (one.puts was opened)
        (subst (λ t. PutsLines sent failures (second t) y z r) (one.looks.same between)
        (two.puts honest between));
    any = (
      one.any.0 ++ two.any.0,
      lines_then sent failures one.any.0 two.any.0 x y z r one.any.1 two.any.1,
    );
    looks = looks_more book.tables book.is_honest book.is_open book.may_leave book.leaves_books
        book.failures book.store_faults a b c (is_ok r) one.looks two.looks;
    store = subst (λ n. CountsFault r n (book.failures c)) one.store two.store;
  }

  -- a part after which none may follow, of a longer text
  pub part_stopped : (text more : Tables → List ℕ) (a b : S) (x y : Report K)
      → Part text a b x y (Ok false) → Part (λ t. text t ++ more t) a b x y (Ok false)
  part_stopped text more a b x y part = record {
    puts = λ honest opened.
        lines_stopped sent failures (text (book.tables a)) (more (book.tables a)) x y
        (part.puts honest opened);
    any = part.any;
    looks = part.looks;
    store = part.store;
  }

  pub part_failed : (text more : Tables → List ℕ) (a b : S) (x y : Report K) (f : BookFault)
      → Part text a b x y (Err f) → Part (λ t. text t ++ more t) a b x y (Err f)
  part_failed text more a b x y f part = record {
    puts = λ honest opened.
        lines_failed sent failures (text (book.tables a)) (more (book.tables a)) x y f
        (part.puts honest opened);
    any = part.any;
    looks = part.looks;
    store = part.store;
  }

  -- a text that was put, after calls of the book that succeeded
  pub part_put : (text : Tables → List ℕ) (put : List ℕ) (a b : S) (x y : Report K) (more : Bool)
      → (book.is_honest b → book.is_open a → put ≡ text (book.tables a))
      → Puts sent failures put x more y → Looks book a b true
      → book.failures b ≡ book.failures a → Part text a b x y (Ok more)
  part_put text put a b x y more is puts looks same = record {
    puts = λ honest opened. subst (λ l. Puts sent failures l x more y) (is honest opened) puts;
    any = (put, puts);
    looks = looks;
    store = same;
  }

  -- a call of the book that failed before anything was put
  pub part_unput : (text : Tables → List ℕ) (a b : S) (x y : Report K) (f : BookFault) → y ≡ x
      → Looks book a b false → CountsFault {T = Bool} (Err f) (book.failures a) (book.failures b)
      → Part text a b x y (Err f)
  part_unput text a b x y f same looks counts = record {
    puts = λ honest opened.
        subst (λ r. PutsLines sent failures (text (book.tables a)) x r (Err f)) (sym same)
        (lines_none sent failures (text (book.tables a)) x f);
    any = (
      [],
      subst (λ r. PutsLines sent failures [] x r (Err f)) (sym same)
          (lines_none sent failures [] x f),
    );
    looks = looks;
    store = counts;
  }

-- ---- the parts of a list

module _ {S K Item : Type 0} (book : Ghosts S) (sent : K → List ℕ) (failures : K → ℕ)
    (text : Item → Tables → List ℕ) (items : List Item) where
  -- the texts of the first items
  abbrev pub first_texts : ℕ → Tables → List ℕ
  first_texts i t = flat_map (λ item. text item t) (take i items)

  abbrev pub all_texts : Tables → List ℕ
  all_texts t = flat_map (λ item. text item t) items

  module _ (i : ℕ) (item : Item) (within : i < length items) (is : item ≡ get_or items i item) where
    next_texts : (t : Tables) → first_texts i t ++ text item t ≡ first_texts (i + 1) t
    next_texts t =
        sym (ap (flat_map (λ one. text one t))
        (ap (λ n. take n items) (add-one i)
        ∙ (take-suc items i item within ∙ ap (λ one. take i items ++ one ∷ []) (sym is)))
        ∙ (flat_map-append (λ one. text one t) (take i items) (item ∷ [])
        ∙ ap (λ l. first_texts i t ++ l) (append-nil (text item t))))

    -- and those behind
    later_texts : Tables → List ℕ
    later_texts t = flat_map (λ one. text one t) (drop (i + 1) items)

    whole_texts : (t : Tables) → (first_texts i t ++ text item t) ++ later_texts t ≡ all_texts t
    unfolding later_texts
    whole_texts t =
        ap (λ l. l ++ later_texts t) (next_texts t)
        ∙ (sym (flat_map-append (λ one. text one t) (take (i + 1) items) (drop (i + 1) items))
        ∙ ap (flat_map (λ one. text one t)) (take-append-drop (i + 1) items))

    pub part_next : (a b c : S) (x y z : Report K)
        → PutsPart book sent failures (first_texts i) a b x y (Ok true)
        → PutsPart book sent failures (text item) b c y z (Ok true)
        → PutsPart book sent failures (first_texts (i + 1)) a c x z (Ok true)
    part_next a b c x y z so one =
        part_of book sent failures _ (first_texts (i + 1)) a c x z (Ok true) next_texts
        (part_then book sent failures (first_texts i) (text item) a b c x y z (Ok true) so one)

    pub part_last : (a b c : S) (x y z : Report K)
        → PutsPart book sent failures (first_texts i) a b x y (Ok true)
        → PutsPart book sent failures (text item) b c y z (Ok false)
        → PutsPart book sent failures all_texts a c x z (Ok false)
    part_last a b c x y z so one =
        part_of book sent failures _ all_texts a c x z (Ok false) whole_texts
        (part_stopped book sent failures (λ t. first_texts i t ++ text item t) later_texts a c x z
        (part_then book sent failures (first_texts i) (text item) a b c x y z (Ok false) so one))

    pub part_lost : (a b c : S) (x y z : Report K) (f : BookFault)
        → PutsPart book sent failures (first_texts i) a b x y (Ok true)
        → PutsPart book sent failures (text item) b c y z (Err f)
        → PutsPart book sent failures all_texts a c x z (Err f)
    part_lost a b c x y z f so one =
        part_of book sent failures _ all_texts a c x z (Err f) whole_texts
        (part_failed book sent failures (λ t. first_texts i t ++ text item t) later_texts a c x z f
        (part_then book sent failures (first_texts i) (text item) a b c x y z (Err f) so one))
