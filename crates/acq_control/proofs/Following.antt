-- Each control connection follows what was done for all connections to one host.
use Rattle.std.proofs.Common.{◌≡◌, ◌≢◌, ◌==◌, ◌+◌, ℕ, Bool, true, false, List, [], ◌∷◌, ◌++◌}
use Rattle.std.proofs.Common.{take, drop, length, cond, refl, sym, ap, subst, ◌∙◌, append_assoc}
use Rattle.std.proofs.Common.{append-nil, take-append-drop, length-append, arith}
use Rattle.std.specs.Prelude.{Option}
use Rattle.std.proofs.lemmas.Bool.Decides.{nat_tests}
use Rattle.std.proofs.lemmas.Grind.{flat_map-append}
use Rattle.std.proofs.lemmas.List.Elements.{All-append, All-cons, All-nil}
use Rattle.acq_core.specs.declared.event.Event.{Event}
use Rattle.acq_core.specs.Tables.{Tables}
use Rattle.acq_control.specs.declared.question.Question.{Question}
use Rattle.acq_control.specs.Answers.{answer_of}
use Rattle.acq_control.specs.Lines.{BeginsWithLine, IsInLine, LinesThen, all_ended, ended}
use Rattle.acq_control.specs.Log.{Act, FollowsActs, IsAskedBy, answers_to, asked_by, behind_act}
use Rattle.acq_control.specs.Log.{behind_acts, lines_by, lines_in, own, said_to, served_by}
use Rattle.acq_control.specs.Questions.{Asks}

-- ---- what an act has for a connection

own_same : {X : Type 0} (k : ℕ) (a : Act) (xs : List X) → a.connection ≡ k → own k a xs ≡ xs
own_same k a xs is =
    let same : (a.connection == k) ≡ true = grind (arith, nat_tests) in
    ap (λ (b : Bool). cond b xs []) same

pub own_other : {X : Type 0} (k : ℕ) (a : Act) (xs : List X) → a.connection ≢ k → own k a xs ≡ []
own_other k a xs other =
    let differs : (a.connection == k) ≡ false = grind (arith, nat_tests) in
    ap (λ (b : Bool). cond b xs []) differs

-- ---- acts behind others

lines_by-append : (k : ℕ) (acts more : List Act) →
    lines_by k (acts ++ more) ≡ lines_by k acts ++ lines_by k more
lines_by-append k acts more =
    flat_map-append (λ (a : Act). own k a (lines_in a.deed)) acts more

answers_to-append : (k : ℕ) (t : Tables) (taken : ℕ) (acts more : List Act) →
    answers_to k t taken (acts ++ more)
    ≡ answers_to k t taken acts
    ++ answers_to k (behind_acts t acts) (taken + length (lines_by k acts)) more
answers_to-append k t taken [] more =
    let none : taken ≡ taken + length (lines_by k []) = omega arith in
    ap (λ (n : ℕ). answers_to k t n more) none
answers_to-append k t taken (a ∷ acts) more =
    let said = own k a (said_to t (taken + 1) a.deed) in
    let next = behind_act t a in
    let lines = own k a (lines_in a.deed) in
    let count : taken + length lines + length (lines_by k acts)
    ≡ taken + length (lines_by k (a ∷ acts)) =
    omega (arith, length-append lines (lines_by k acts)) in
    ap (λ (l : List ℕ). said ++ l)
    (answers_to-append k next (taken + length lines) acts more
    ∙ ap (λ (n : ℕ). answers_to k next (taken + length lines) acts
    ++ answers_to k (behind_acts next acts) n more) count)
    ∙ sym (append_assoc said (answers_to k next (taken + length lines) acts)
    (answers_to k (behind_acts next acts) (taken + length (lines_by k (a ∷ acts))) more))

-- ---- what follows acts goes on to

pub follows_none : (k : ℕ) (t : Tables) → FollowsActs k t [] [] [] [] [] 0
follows_none k t = record {
  came = record { each = All-nil IsInLine; whole = refl };
  count = refl;
  asked = All-nil (IsAskedBy k);
  written = refl;
}

pub follows_fed : (k : ℕ) (t : Tables) (acts : List Act)
    (input output held unsent piece : List ℕ) (taken : ℕ) →
    FollowsActs k t acts input output held unsent taken →
    FollowsActs k t acts (input ++ piece) output (held ++ piece) unsent taken
follows_fed k t acts input output held unsent piece taken f = record {
  came = record {
    each = f.came.each;
    whole = ap (λ (l : List ℕ). l ++ piece) f.came.whole
        ∙ append_assoc (all_ended (lines_by k acts)) held piece;
  };
  count = f.count;
  asked = f.asked;
  written = f.written;
}

pub follows_written : (k : ℕ) (t : Tables) (acts : List Act)
    (input output held unsent rest : List ℕ) (taken n : ℕ) →
    FollowsActs k t acts input output held (unsent ++ rest) taken →
    FollowsActs k t acts input (output ++ take n unsent) held (drop n unsent ++ rest) taken
follows_written k t acts input output held unsent rest taken n f = record {
  came = f.came;
  count = f.count;
  asked = f.asked;
  written = append_assoc output (take n unsent) (drop n unsent ++ rest)
      ∙ ap (λ (l : List ℕ). output ++ l) (sym (append_assoc (take n unsent) (drop n unsent) rest))
      ∙ ap (λ (l : List ℕ). output ++ (l ++ rest)) (take-append-drop n unsent) ∙ f.written;
}

-- an act that has nothing for the connection
follows_past : (k : ℕ) (t : Tables) (acts : List Act) (a : Act)
    (input output held unsent : List ℕ) (taken : ℕ) →
    FollowsActs k t acts input output held unsent taken →
    own k a (lines_in a.deed) ≡ [] →
    ((now : Tables) (number : ℕ) → own k a (said_to now number a.deed) ≡ []) → IsAskedBy k a →
    FollowsActs k t (acts ++ a ∷ []) input output held unsent taken
follows_past k t acts a input output held unsent taken f none silent asked =
    let lines : lines_by k (acts ++ a ∷ []) ≡ lines_by k acts =
    lines_by-append k acts (a ∷ [])
    ∙ ap (λ (l : List (List ℕ)). lines_by k acts ++ (l ++ [])) none
    ∙ append-nil (lines_by k acts) in
    let said : answers_to k t 0 (acts ++ a ∷ []) ≡ answers_to k t 0 acts =
    answers_to-append k t 0 acts (a ∷ [])
    ∙ ap (λ (l : List ℕ). answers_to k t 0 acts ++ (l ++ []))
    (silent (behind_acts t acts) (0 + length (lines_by k acts) + 1))
    ∙ append-nil (answers_to k t 0 acts) in
    record {
      came = subst (λ (l : List (List ℕ)). LinesThen input l held) (sym lines) f.came;
      count = f.count ∙ ap length (sym lines);
      asked = All-append (IsAskedBy k) acts (a ∷ []) f.asked
          (All-cons (IsAskedBy k) a [] asked (All-nil (IsAskedBy k)));
      written = f.written ∙ sym said;
    }

pub follows_other : (k : ℕ) (t : Tables) (acts : List Act) (a : Act)
    (input output held unsent : List ℕ) (taken : ℕ) →
    FollowsActs k t acts input output held unsent taken → a.connection ≢ k →
    FollowsActs k t (acts ++ a ∷ []) input output held unsent taken
follows_other k t acts a input output held unsent taken f other =
    follows_past k t acts a input output held unsent taken f
    (own_other k a (lines_in a.deed) other)
    (λ now number. own_other k a (said_to now number a.deed) other)
    (λ is. absurd (other is))

pub own_none : {X : Type 0} (k : ℕ) (a : Act) → own {X = X} k a [] ≡ []
own_none k a = cond_none (a.connection == k)
  where
    cond_none : {X : Type 0} (b : Bool) → cond {A = List X} b [] [] ≡ []
    cond_none true = refl
    cond_none false = refl

-- what was taken for a terminal is nothing to a control connection, whatever their numbers are
pub follows_served : (k j : ℕ) (t : Tables) (acts : List Act) (events : List Event)
    (input output held unsent : List ℕ) (taken : ℕ) →
    FollowsActs k t acts input output held unsent taken →
    FollowsActs k t (acts ++ served_by j events ∷ []) input output held unsent taken
follows_served k j t acts events input output held unsent taken f =
    follows_past k t acts (served_by j events) input output held unsent taken f
    (own_none k (served_by j events)) (λ now number. own_none k (served_by j events)) (λ is. tt)

module _ (k : ℕ) (t : Tables) (acts : List Act)
    (input output held left unsent line : List ℕ) (taken taken_then moment : ℕ)
    (asked : Option Question)
    (f : FollowsActs k t acts input output held [] taken)
    (begins : BeginsWithLine held line left) (asks : Asks moment line asked)
    (count : taken_then ≡ taken + 1)
    (answers : unsent ≡ answer_of (behind_acts t acts) taken_then asked) where
  abbrev act : Act
  act = asked_by k moment line asked

  own_line : lines_by k (act ∷ []) ≡ line ∷ []
  own_line = ap (λ (l : List (List ℕ)). l ++ []) (own_same k act (line ∷ []) refl)

  lines : lines_by k (acts ++ act ∷ []) ≡ lines_by k acts ++ line ∷ []
  lines = lines_by-append k acts (act ∷ [])
      ∙ ap (λ (l : List (List ℕ)). lines_by k acts ++ l) own_line

  came_more : LinesThen input (lines_by k acts ++ line ∷ []) left
  came_more = record {
    each = All-append IsInLine (lines_by k acts) (line ∷ []) f.came.each
        (All-cons IsInLine line [] begins.within (All-nil IsInLine));
    whole = f.came.whole
        ∙ ap (λ (l : List ℕ). all_ended (lines_by k acts) ++ l)
        (begins.whole ∙ ap (λ (l : List ℕ). l ++ left) (sym (append-nil (ended line))))
        ∙ sym (append_assoc (all_ended (lines_by k acts)) (all_ended (line ∷ [])) left)
        ∙ ap (λ (l : List ℕ). l ++ left)
        (sym (flat_map-append ended (lines_by k acts) (line ∷ [])));
  }

  said : answers_to k t 0 (acts ++ act ∷ []) ≡ answers_to k t 0 acts ++ unsent
  said =
      let number : 0 + length (lines_by k acts) + 1 ≡ taken_then =
      omega (arith, f.count, count) in
      answers_to-append k t 0 acts (act ∷ [])
      ∙ ap (λ (l : List ℕ). answers_to k t 0 acts ++ l)
      (append-nil _ ∙ own_same k act _ refl
      ∙ ap (λ (n : ℕ). answer_of (behind_acts t acts) n asked) number ∙ sym answers)

  pub follows_asked :
      FollowsActs k t (acts ++ act ∷ []) input output left unsent taken_then
  follows_asked = record {
    came = subst (λ (l : List (List ℕ)). LinesThen input l left) (sym lines) came_more;
    count = omega (
      arith,
      f.count,
      count,
      ap length lines,
      length-append (lines_by k acts) (line ∷ []),
    );
    asked = All-append (IsAskedBy k) acts (act ∷ []) f.asked
        (All-cons (IsAskedBy k) act [] (λ is. asks) (All-nil (IsAskedBy k)));
    written = ap (λ (l : List ℕ). l ++ unsent) (sym (append-nil output) ∙ f.written) ∙ sym said;
  }

-- ---- the tables

pub behind-append : (t : Tables) (acts more : List Act) →
    behind_acts t (acts ++ more) ≡ behind_acts (behind_acts t acts) more
behind-append t [] more = refl
behind-append t (a ∷ acts) more = behind-append (behind_act t a) acts more
