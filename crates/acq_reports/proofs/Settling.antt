-- The merchants' lines, as far as the loop over their names has come, and the lines around them.
use Rattle.std.proofs.Common.{◌≡◌, ℕ, ◌+◌, ◌<◌, List, [], ◌∷◌, ◌++◌, take, drop, length}
use Rattle.std.proofs.Common.{slice_index_or}
use Rattle.std.proofs.Common.{Bool, inr, sym, ap, ◌∙◌, subst, add-one}
use Rattle.std.proofs.Common.{append_assoc, append-nil}
use Rattle.std.proofs.lemmas.List.{take-append-drop}
use Rattle.std.proofs.lemmas.Grind.{flat_map-append}
use Rattle.std.proofs.Math.Seq.{take-suc, take-append_seam}
use Rattle.std.specs.Prelude.{Err}
use Rattle.std.specs.List.{flat_map}
use Rattle.acq_book.specs.declared.book_fault.BookFault.{BookFault}
use Rattle.acq_reports.specs.declared.report.Report.{Report}
use Rattle.acq_reports.specs.Writing.{WentOut, StoppedAfter, Puts, PutsReport, Begins}
use Rattle.acq_reports.proofs.Lines.{Outcome, went_more, went_stopped, stopped_more, outcome_more}
use Rattle.acq_reports.proofs.Lines.{progress_more, puts_outcome}
use Rattle.acq_reports.proofs.Lines.{begins_part}

take_next : (names : List (List ℕ)) (i : ℕ) (name : List ℕ) → i < length names →
    name ≡ slice_index_or names i name
    → take (i + 1) names ≡ take i names ++ name ∷ []
take_next names i name within is =
    rw (add-one, take-suc names i name within) (ap (λ x. take i names ++ x ∷ []) (sym is))

module _ {K : Type 0} (sent : K → List ℕ) (failures : K → ℕ) (line : List ℕ → List ℕ)
    (names : List (List ℕ))
    (i : ℕ) (name : List ℕ) (within : i < length names) (is : name ≡ slice_index_or names i name)
  where
    -- the lines before this one
    abbrev front : List ℕ
    front = flat_map line (take i names)

    next_lines : flat_map line (take (i + 1) names) ≡ front ++ line name
    next_lines =
        ap (flat_map line) (take_next names i name within is)
        ∙ (flat_map-append line (take i names) (name ∷ []) ∙ ap (λ t. front ++ t)
        (append-nil (line name)))

    all_lines : flat_map line names ≡ (front ++ line name) ++ flat_map line (drop (i + 1) names)
    all_lines =
        ap (flat_map line) (sym (take-append-drop (i + 1) names))
        ∙ (flat_map-append line (take (i + 1) names) (drop (i + 1) names)
        ∙ ap (λ t. t ++ flat_map line (drop (i + 1) names)) next_lines)

    from_here : flat_map line names ≡ front ++ flat_map line (drop i names)
    from_here =
        ap (flat_map line) (sym (take-append-drop i names)) ∙ flat_map-append line (take i names)
        (drop i names)

    pub went_here : (x y z : Report K) → WentOut sent failures front x y →
        WentOut sent failures (line name) y z
        → WentOut sent failures (flat_map line (take (i + 1) names)) x z
    went_here x y z first second =
        subst (λ t. WentOut sent failures t x z) (sym next_lines)
        (went_more sent failures front (line name) x y z first second)

    pub stopped_here : (x y z : Report K) → WentOut sent failures front x y
        → (n : ℕ) × StoppedAfter sent failures (line name) y z n
        → (n : ℕ) × StoppedAfter sent failures (flat_map line names) x z n
    stopped_here x y z first second =
        let stopped = went_stopped sent failures front (line name) x y z first second in (
          stopped.0,
          subst (λ t. StoppedAfter sent failures t x z stopped.0) (sym all_lines)
              (stopped_more sent failures (front ++ line name)
              (flat_map line (drop (i + 1) names)) x z stopped.0 stopped.1),
        )

    pub failed_here : (x y z : Report K) (f : BookFault) → WentOut sent failures front x y → z ≡ y
        → PutsReport sent failures (flat_map line names) x z (Err f)
    failed_here x y z f first same =
        subst (λ r. PutsReport sent failures (flat_map line names) x r (Err f)) (sym same)
        (subst (λ t. PutsReport sent failures t x y (Err f)) (sym from_here)
        (begins_part sent failures front (flat_map line (drop i names)) x y f first))

module _ {K : Type 0} (sent : K → List ℕ) (failures : K → ℕ) (first lines last : List ℕ) where
  -- a beginning of a text is one of a longer text
  begins_longer : (a b old new : List ℕ) → Begins a old new → Begins (a ++ b) old new
  begins_longer a b old new (n, is) =
      let whole : take n a ++ (drop n a ++ b) ≡ a ++ b =
      sym (append_assoc (take n a) (drop n a) b) ∙ ap (λ t. t ++ b) (take-append-drop n a) in (
        length (take n a),
        is
            ∙ ap (λ t. old ++ t)
            (sym (take-append_seam (take n a) (drop n a ++ b))
            ∙ ap (take (length (take n a))) whole),
      )

  pub failed_between : (x y z : Report K) (f : BookFault) → WentOut sent failures first x y
      → PutsReport sent failures lines y z (Err f)
      → PutsReport sent failures (first ++ (lines ++ last)) x z (Err f)
  failed_between x y z f went rest =
      let longer =
      begins_longer (y.held ++ lines) last (sent y.writer.now) (sent z.writer.now) rest.1 in
      progress_more sent failures first (lines ++ last) x y z (Err f) went (
        rest.0,
        subst (λ t. Begins t (sent y.writer.now) (sent z.writer.now))
            (append_assoc y.held lines last) longer,
        rest.2,
      )

  pub stopped_between : (x y z : Report K) → WentOut sent failures first x y
      → (n : ℕ) × StoppedAfter sent failures lines y z n
      → Outcome sent failures (first ++ (lines ++ last)) x z
  stopped_between x y z went (n, stopped) =
      outcome_more sent failures first (lines ++ last) x y z went
      (inr (n, stopped_more sent failures lines last y z n stopped))

  pub put_last : (x y z u : Report K) (more : Bool) → WentOut sent failures first x y
      → WentOut sent failures lines y z → Puts sent failures last z more u
      → Outcome sent failures (first ++ (lines ++ last)) x u
  put_last x y z u more went through puts =
      outcome_more sent failures first (lines ++ last) x y u went
      (outcome_more sent failures lines last y z u through
      (puts_outcome sent failures last z u more puts))

  pub stopped_first : (x y : Report K) → (n : ℕ) × StoppedAfter sent failures first x y n
      → Outcome sent failures (first ++ (lines ++ last)) x y
  stopped_first x y (n, stopped) =
      inr (n, stopped_more sent failures first (lines ++ last) x y n stopped)
