-- What was told to an event is among all that was told after any later ones.
use Rattle.std.proofs.Common.{◌≡◌, ℕ, ◌+◌, List, [], ◌∷◌, ◌++◌, true, cond, refl, sym, ap, subst, ◌∙◌}
use Rattle.std.specs.Prelude.{◌||◌, Option, Some, None}
use Rattle.std.proofs.lemmas.List.Elements.{filter-append}
use Rattle.acq_core.specs.declared.event.Event.{Event}
use Rattle.acq_core.specs.declared.posting.Posting.{Posting}
use Rattle.acq_core.specs.Arrivals.{arrival_of, is_shared}
use Rattle.acq_core.specs.Tables.{Opening, postings_before, with_next_posting}
use Rattle.acq_soundness.proofs.Members.{In, In-first, In-last}
use Rattle.acq_history.specs.Entries.{Entry}
use Rattle.acq_history.specs.PartyHistory.{Party, own, is_of, entry_for, history_after, history_of}
use Rattle.acq_history.specs.Cleared.{told_posting, told_postings}

history_after-append : (opening : Opening) (h : List Entry) (es fs : List Event) →
    history_after opening h (es ++ fs) ≡ history_after opening (history_after opening h es) fs
history_after-append opening h [] fs = refl
history_after-append opening h (e ∷ es) fs =
    history_after-append opening (entry_for opening h (arrival_of e) ∷ h) es fs

with_more : (rows : List (ℕ × Posting)) (o : Option Posting) (row : ℕ × Posting) → In row rows →
    In row (with_next_posting rows o)
with_more rows None row there = there
with_more rows (Some p) row there = In-first row rows ((postings_before rows p + 1, p) ∷ []) there

stays : (opening : Opening) (h : List Entry) (es : List Event) (row : ℕ × Posting) →
    In row (told_postings h) → In row (told_postings (history_after opening h es))
stays opening h [] row there = there
stays opening h (e ∷ es) row there =
    let entry = entry_for opening h (arrival_of e) in
    stays opening (entry ∷ h) es row
    (with_more (told_postings h) (told_posting entry h) row there)

-- one of the party's own events is in its history
own_in_history : (opening : Opening) (party : Party) (es later : List Event) (e : Event) →
    is_of party (arrival_of e) ≡ true →
    history_of opening party (es ++ e ∷ later)
    ≡ history_after opening
    (entry_for opening (history_of opening party es) (arrival_of e) ∷ history_of opening party es)
    (own party later)
own_in_history opening party es later e mine =
    ap (history_after opening [])
    (filter-append (λ x. is_of party (arrival_of x) || is_shared (arrival_of x)) es (e ∷ later))
    ∙ (history_after-append opening [] (own party es) (own party (e ∷ later))
    ∙ ap (λ b. history_after opening (history_of opening party es)
    (cond (b || is_shared (arrival_of e)) (e ∷ own party later) (own party later))) mine)

pub told_stays : (opening : Opening) (m : List ℕ) (es later : List Event) (e : Event)
    (p : Posting) → is_of (Some m) (arrival_of e) ≡ true →
    told_posting (entry_for opening (history_of opening (Some m) es) (arrival_of e))
    (history_of opening (Some m) es) ≡ Some p →
    (n : ℕ) × In (n, p) (told_postings (history_of opening (Some m) (es ++ e ∷ later)))
told_stays opening m es later e p mine told =
    let h = history_of opening (Some m) es in
    let entry = entry_for opening h (arrival_of e) in
    let n = postings_before (told_postings h) p + 1 in
    let row : ℕ × Posting = (n, p) in (
      n,
      subst (λ x. In row (told_postings x))
          (sym (own_in_history opening (Some m) es later e mine))
          (stays opening (entry ∷ h) (own (Some m) later) row
          (subst (λ o. In row (with_next_posting (told_postings h) o)) (sym told)
          (In-last row (told_postings h)))),
    )
