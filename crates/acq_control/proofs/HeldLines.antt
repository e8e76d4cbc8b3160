-- What is held of what came, as more of it is taken in and lines are taken out.
use Rattle.std.proofs.Common.{◌≡◌, ℕ, zero, suc, ◌≤◌, List, [], ◌∷◌, ◌++◌, length, replicate, Bool}
use Rattle.std.proofs.Common.{true, false, refl, sym, ap, subst, ◌∙◌, arith, append_assoc}
use Rattle.std.proofs.Common.{append-nil}
use Rattle.std.proofs.Common.{length-append}
use Rattle.std.specs.Prelude.{◌&&◌, ◌↔◌}
use Rattle.std.specs.List.{list_all}
use Rattle.std.proofs.lemmas.Bool.Decides.{nat_tests}
use Rattle.std.proofs.lemmas.List.{length-replicate}
use Rattle.std.proofs.lemmas.List.Folds.{list_all-append}
use Rattle.acq_control.specs.Lines.{BeginsWithLine, IsInLine, ended, is_in_line, line_feed}
use Rattle.acq_control.specs.Lines.{longest_line}
use Rattle.acq_control.specs.Held.{Held, Holds, HoldsMore, TakesFront, is_nothing, nothing}
use Rattle.acq_control.specs.declared.taken_line.TakenLine.TheVariants.{TooLong}

pub in_line_more : (a b : List ℕ) → IsInLine a → IsInLine b → IsInLine (a ++ b)
in_line_more a b one two =
    list_all-append is_in_line a b ∙ ap (λ (t : Bool). t && list_all is_in_line b) one ∙ two

module _ (kept : List ℕ) (was : Bool) where
  -- no line ends in what is kept then, which fills the room, and it is dropped
  pub holds_none : (all none piece : List ℕ) → all ≡ kept ++ piece → IsInLine all →
      longest_line ≤ length all → none ≡ [] →
      (bytes : List ℕ) → Holds (record { kept = kept; is_cut = was }) bytes →
      Holds (record { kept = none; is_cut = true }) (bytes ++ piece)
  holds_none all none piece same within full empty bytes h = record {
    dropped = h.dropped ++ all;
    within = in_line_more h.dropped all h.within within;
    whole = ap (λ (l : List ℕ). l ++ piece) h.whole ∙ append_assoc h.dropped kept piece
        ∙ ap (λ (l : List ℕ). h.dropped ++ l) (sym same) ∙ sym (append-nil (h.dropped ++ all))
        ∙ ap (λ (l : List ℕ). (h.dropped ++ all) ++ l) (sym empty);
    uncut = λ not. absurd cc;
    cut = λ is. omega (arith, length-append h.dropped all, full);
  }

  -- the line in front was taken, whose beginning was dropped
  pub takes_cut : (line left : List ℕ) → was ≡ true → BeginsWithLine kept line left →
      (bytes : List ℕ) → Holds (record { kept = kept; is_cut = was }) bytes →
      TakesFront (record { kept = kept; is_cut = was }) (record { kept = left; is_cut = false })
      TooLong bytes
  takes_cut line left is begins bytes h = record {
    line = h.dropped ++ line;
    rest = left;
    begins = record {
      within = in_line_more h.dropped line h.within begins.within;
      whole = h.whole ∙ ap (λ (l : List ℕ). h.dropped ++ l) begins.whole
          ∙ sym (append_assoc h.dropped (ended line) left)
          ∙ ap (λ (l : List ℕ). l ++ left) (sym (append_assoc h.dropped line (line_feed ∷ [])));
    };
    holds = record {
      dropped = [];
      within = refl;
      whole = refl;
      uncut = λ not. refl;
      cut = λ not. absurd cc;
    };
    is = omega (arith, length-append h.dropped line, h.cut is);
  }

-- nothing more came
pub holds_same : (held : Held) → HoldsMore held held []
holds_same held bytes h = subst (Holds held) (sym (append-nil bytes)) h

-- what was read is what it was fed with
pub holds_read : (before after : Held) (received received_then piece got : List ℕ) →
    received_then ≡ received ++ got → HoldsMore before after piece → piece ≡ got →
    (x : List ℕ) × (received_then ≡ received ++ x) × HoldsMore before after x
holds_read before after received received_then piece got came more same =
    (got, came, subst (HoldsMore before after) same more)

-- ---- what is held says of what came

pub holds_nothing : Holds nothing []
holds_nothing = record {
  dropped = [];
  within = refl;
  whole = refl;
  uncut = λ is. refl;
  cut = λ is. absurd cc;
}

none_came : (kept : List ℕ) (is_cut : Bool) (bytes : List ℕ) →
    Holds (record { kept = kept; is_cut = is_cut }) bytes →
    is_nothing (record { kept = kept; is_cut = is_cut }) ≡ true → bytes ≡ []
none_came kept true bytes h is = absurd cc
none_came [] false bytes h is = h.whole ∙ append-nil h.dropped ∙ h.uncut refl
none_came (byte ∷ kept) false bytes h is =
    let size : length (byte ∷ kept) ≡ 0 = grind (arith, nat_tests) in
    absurd (omega (arith, size))

none_held : (kept : List ℕ) (is_cut : Bool) (bytes : List ℕ) →
    Holds (record { kept = kept; is_cut = is_cut }) bytes →
    bytes ≡ [] → is_nothing (record { kept = kept; is_cut = is_cut }) ≡ true
none_held kept true bytes h none = absurd
    (omega (arith, h.cut refl, length-append h.dropped kept, ap length (sym h.whole ∙ none)))
none_held [] false bytes h none = refl
none_held (byte ∷ kept) false bytes h none = absurd
    (omega (arith, length-append h.dropped (byte ∷ kept), ap length (sym h.whole ∙ none)))

pub holds_none_of : (held : Held) (bytes : List ℕ) → Holds held bytes →
    (is_nothing held ≡ true) ↔ (bytes ≡ [])
holds_none_of held bytes h =
    (none_came held.kept held.is_cut bytes h, none_held held.kept held.is_cut bytes h)

pub holds_in_line : (held : Held) (bytes : List ℕ) → Holds held bytes →
    IsInLine held.kept ↔ IsInLine bytes
holds_in_line held bytes h = (
  (λ is. ap (list_all is_in_line) h.whole ∙ in_line_more h.dropped held.kept h.within is),
  (λ is. sym (ap (λ (t : Bool). t && list_all is_in_line held.kept) h.within)
      ∙ sym (list_all-append is_in_line h.dropped held.kept)
      ∙ ap (list_all is_in_line) (sym h.whole) ∙ is),
)

in_line_zeros : (n : ℕ) → IsInLine (replicate n 0)
in_line_zeros zero = refl
in_line_zeros (suc n) = in_line_zeros n

some_dropped : (n : ℕ) (kept : List ℕ) → longest_line ≤ n →
    (bytes : List ℕ) × Holds (record { kept = kept; is_cut = true }) bytes
some_dropped n kept long = (
  replicate n 0 ++ kept,
  record {
    dropped = replicate n 0;
    within = in_line_zeros n;
    whole = refl;
    uncut = λ not. absurd cc;
    cut = λ is. omega (arith, long, length-replicate {A = ℕ} n 0);
  },
)

some_by : (kept : List ℕ) (is_cut : Bool) →
    (bytes : List ℕ) × Holds (record { kept = kept; is_cut = is_cut }) bytes
some_by kept true = some_dropped longest_line kept (omega arith)
some_by kept false = (
  kept,
  record {
    dropped = [];
    within = refl;
    whole = refl;
    uncut = λ is. refl;
    cut = λ not. absurd cc;
  },
)

pub holds_some : (held : Held) → (bytes : List ℕ) × Holds held bytes
holds_some held = some_by held.kept held.is_cut
