-- A talk goes on, line by line.
use Rattle.std.proofs.Common.{◌≡◌, ◌<◌, ℕ, Bool, true, false, List, [], ◌∷◌, ◌++◌, length}
use Rattle.std.proofs.Common.{refl, sym, ap, ◌∙◌, Ok, inl, inr, None, true≢false, append_assoc}
use Rattle.std.proofs.Common.{append-nil, arith, length-append}
use Rattle.std.specs.Prelude.{◌||◌, ◌⊎◌, Option, Result}
use Rattle.std.specs.List.{flat_map, list_any}
use Rattle.std.proofs.Math.Bool.{or-false}
use Rattle.std.proofs.lemmas.Grind.{flat_map-append}
use Rattle.std.proofs.lemmas.List.Concat.{flat_map-cons}
use Rattle.std.proofs.lemmas.List.Folds.{list_any-append}
use Rattle.std.proofs.lemmas.List.Elements.{All-append, All-cons, All-nil}
use Rattle.acq_faults.specs.declared.fault.Fault.{Fault}
use Rattle.acq_control.specs.Lines.{BeginsWithLine, IsInLine, LinesThen, all_ended, ended}
use Rattle.acq_control.specs.HostAnswers.{Answer, IsAnswer, is_fault, is_fault_kind}
use Rattle.acq_control.specs.HostAnswers.{kind_of_line, said, shown, spelled, told, told_of}
use Rattle.acq_control.specs.declared.answer_kind.AnswerKind.{AnswerKind}
use Rattle.acq_control.specs.declared.answer_kind.AnswerKind.TheVariants as kind
use Rattle.acq_control.specs.Telling.{Answered, AnswersLine, AreLines, EndsInLine}
use Rattle.acq_control.specs.Telling.{IsNextLine, LacksLine, StopsTurn, Talk, TellsSome}
use Rattle.acq_control.specs.Telling.{joined}

-- ---- lists

-- one more
snoc : {X A : Type 0} (f : X → List A) (xs : List X) (x : X) →
    flat_map f (xs ++ x ∷ []) ≡ flat_map f xs ++ f x
snoc f xs x = flat_map-append f xs (x ∷ []) ∙ ap (λ l. flat_map f xs ++ l) (append-nil (f x))

-- two parts that are others
both : {a b x y : List ℕ} → a ≡ x → b ≡ y → a ++ b ≡ x ++ y
both e h = cc

-- what came later stands behind
pub passed_more : (before mid now first next : List ℕ) → mid ≡ before ++ first →
    now ≡ mid ++ next → now ≡ before ++ (first ++ next)
passed_more before mid now first next e h =
    h ∙ ap (λ (l : List ℕ). l ++ next) e ∙ append_assoc before first next

none_behind : (held more : List ℕ) → held ++ more ≡ [] → more ≡ []
none_behind [] more e = e
none_behind (x ∷ held) more e = absurd cc

-- ---- the lines of the input

-- The lines are the input's first ones, and what is held stands behind them; or the input is over,
-- and they are all.
abbrev pub Came : List ℕ → List (List ℕ) → (held : List ℕ) → (over : Bool) → Type 0
Came input lines held over =
    LinesThen input lines held ⊎ ((over ≡ true) × EndsInLine input lines)

then_more : (input held more : List ℕ) (lines : List (List ℕ)) → LinesThen input lines held →
    LinesThen (input ++ more) lines (held ++ more)
then_more input held more lines t = record {
  each = t.each;
  whole = ap (λ (l : List ℕ). l ++ more) t.whole ∙ append_assoc (all_ended lines) held more;
}

then_line : (bytes held line rest : List ℕ) (lines : List (List ℕ)) → LinesThen bytes lines held →
    BeginsWithLine held line rest → LinesThen bytes (lines ++ line ∷ []) rest
then_line bytes held line rest lines t b = record {
  each = All-append IsInLine lines (line ∷ []) t.each
      (All-cons IsInLine line [] b.within (All-nil IsInLine));
  whole = t.whole ∙ ap (λ (l : List ℕ). all_ended lines ++ l) b.whole
      ∙ sym (append_assoc (all_ended lines) (ended line) rest)
      ∙ ap (λ (l : List ℕ). l ++ rest) (sym (snoc ended lines line));
}

-- which line was taken
abbrev pub TakesLine : List ℕ → (line after : List ℕ) → (over : Bool) → Type 0
TakesLine bytes line after over =
    BeginsWithLine bytes line after
    ⊎ ((over ≡ true) × (bytes ≡ line) × IsInLine line × (0 < length line) × (after ≡ []))

module _ (input held more : List ℕ) (lines : List (List ℕ)) (first : LinesThen input lines held)
  where
    -- a line was taken
    pub line_came : (line after : List ℕ) (over : Bool) →
        TakesLine (held ++ more) line after over →
        Came (input ++ more) (lines ++ line ∷ []) after over
    line_came line after over (inl begins) =
        inl (then_line (input ++ more) (held ++ more) line after lines
        (then_more input held more lines first) begins)
    line_came line after over (inr last) = inr (
      last.0,
      record {
        earlier = lines;
        last = line;
        before = rw (sym last.1) (then_more input held more lines first);
        within = last.2;
        some = last.3;
        all = refl;
      },
    )

    next_line : (line after : List ℕ) (over : Bool) → TakesLine (held ++ more) line after over →
        IsNextLine (held ++ more) line
    next_line line after over (inl begins) = inl (after, begins)
    next_line line after over (inr last) = inr (last.1, last.2, last.3)

    -- no line could be had
    pub stops_between : (talk : Talk) (answers : List Answer) (rest : List ℕ) (f : Fault) →
        Answered talk lines answers rest → LacksLine (held ++ more) f →
        TellsSome (input ++ more) talk f
    stops_between talk answers rest f so why = record {
      lines = lines;
      answers = answers;
      rest = rest;
      held = held ++ more;
      before = talk;
      taken = then_more input held more lines first;
      answered = so;
      stops = inl (refl, why);
    }

    -- the turn of a line was stopped
    pub stops_within : (talk turn : Talk) (answers : List Answer) (rest line after : List ℕ)
        (over : Bool) (f : Fault) → Answered talk lines answers rest →
        TakesLine (held ++ more) line after over → StopsTurn line rest turn f →
        TellsSome (input ++ more) (joined talk turn) f
    stops_within talk turn answers rest line after over f so next why = record {
      lines = lines;
      answers = answers;
      rest = rest;
      held = held ++ more;
      before = talk;
      taken = then_more input held more lines first;
      answered = so;
      stops = inr (line, turn, refl, next_line line after over next, why);
    }

-- an input that is over gives none
pub not_over : {X : Type 0} (input held : List ℕ) (lines : List (List ℕ)) (over : Bool)
    (result given : Result (Option X) Fault) → (over ≡ true → result ≡ Ok None) → result ≡ given →
    (given ≡ Ok None → ⊥) → Came input lines held over → LinesThen input lines held
not_over input held lines over result given none is other (inl first) = first
not_over input held lines over result given none is other (inr last) =
    absurd (other (sym is ∙ none last.0))

-- no line is left
pub all_came : (input held more : List ℕ) (lines : List (List ℕ)) (over : Bool) →
    Came input lines held over → held ++ more ≡ [] → AreLines (input ++ more) lines
all_came input held more lines over (inl first) none =
    inl (rw (sym none) (then_more input held more lines first))
all_came input held more lines over (inr last) none =
    let same : input ++ more ≡ input =
    ap (λ (l : List ℕ). input ++ l) (none_behind held more none) ∙ append-nil input in
    inr (rw same last.1)

-- ---- the answers

pub answered_more : (talk turn : Talk) (lines : List (List ℕ)) (answers : List Answer)
    (rest line after : List ℕ) (answer : Answer) → Answered talk lines answers rest →
    AnswersLine line rest turn answer after →
    Answered (joined talk turn) (lines ++ line ∷ []) (answers ++ answer ∷ []) after
answered_more talk turn lines answers rest line after answer so a = record {
  count = omega (
    arith,
    so.count,
    length-append answers (answer ∷ []),
    length-append lines (line ∷ []),
  );
  each = All-append IsAnswer answers (answer ∷ []) so.each
      (All-cons IsAnswer answer [] a.came.is (All-nil IsAnswer));
  sent = both so.sent a.sent ∙ sym (snoc ended lines line);
  came = both so.came refl ∙ append_assoc (flat_map spelled answers) rest turn.came
      ∙ ap (λ (l : List ℕ). flat_map spelled answers ++ l) a.came.whole
      ∙ sym (append_assoc (flat_map spelled answers) (spelled answer) after)
      ∙ ap (λ (l : List ℕ). l ++ after) (sym (snoc spelled answers answer));
  shown = both so.shown a.shown ∙ sym (snoc shown answers answer);
  told = both so.told a.told ∙ sym (snoc told answers answer);
}

-- ---- what the result says

pub refused_more : (answers : List Answer) (answer : Answer) (refused now : Bool) →
    refused ≡ list_any is_fault answers → now ≡ is_fault answer →
    (refused || now) ≡ list_any is_fault (answers ++ answer ∷ [])
refused_more answers answer refused now e h =
    ap (λ (b : Bool). b || now) e ∙ ap (λ (b : Bool). list_any is_fault answers || b)
    (h ∙ sym (or-false (is_fault answer)))
    ∙ sym (list_any-append is_fault answers (answer ∷ []))

-- ---- before the first line

abbrev pub nothing_said : Talk
nothing_said = record { sent = []; came = []; shown = []; told = [] }

pub none_answered : (held : List ℕ) → held ≡ [] → Answered nothing_said [] [] held
none_answered held none = record {
  count = refl;
  each = All-nil IsAnswer;
  sent = refl;
  came = sym none;
  shown = refl;
  told = refl;
}

pub none_came : (held : List ℕ) (over : Bool) → held ≡ [] → Came [] [] held over
none_came held over none = inl (record { each = All-nil IsInLine; whole = sym none })

-- ---- faults' lines

told_none : (kind : AnswerKind) (bytes : List ℕ) (others : Bool) →
    (is_fault_kind kind || others) ≡ false → (told_of kind bytes ≡ []) × (others ≡ false)
told_none kind.Line bytes others none = (refl, none)
told_none kind.Text bytes others none = (refl, none)
told_none kind.Fault bytes others none = absurd (true≢false none)

none_told : (answers : List Answer) → list_any is_fault answers ≡ false →
    flat_map told answers ≡ []
none_told [] none = refl
none_told (answer ∷ answers) none =
    let first = told_none (kind_of_line answer.line) (said answer) (list_any is_fault answers) none
    in
    flat_map-cons told answer answers ∙ both first.0 (none_told answers first.1)

-- where no answer was a fault's line, none was told
pub quiet_talk : (before now : List ℕ) (talk : Talk) (lines : List (List ℕ))
    (answers : List Answer) (rest : List ℕ) (refused : Bool) → now ≡ before ++ talk.told →
    Answered talk lines answers rest → refused ≡ list_any is_fault answers →
    refused ≡ false → now ≡ before
quiet_talk before now talk lines answers rest refused written so is none =
    written ∙ ap (λ (l : List ℕ). before ++ l) (so.told ∙ none_told answers (sym is ∙ none))
    ∙ append-nil before
