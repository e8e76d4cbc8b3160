-- Connections of which one moves.
use Rattle.std.proofs.Common.{◌≡◌, ◌<◌, ◌≤◌, ◌+◌, ℕ, true, false, List, [], ◌∷◌, ◌++◌}
use Rattle.std.proofs.Common.{map, take, drop, length, set, get_or, cond, refl, sym, ap, subst}
use Rattle.std.proofs.Common.{◌∙◌, append_assoc, append-nil, take-append-drop, arith, None}
use Rattle.std.proofs.Math.ListN.{get_or-map}
use Rattle.std.proofs.Math.Seq.{map-set_same}
use Rattle.std.proofs.lemmas.List.{map-append, map-set, drop_more, take_more_set}
use Rattle.std.proofs.lemmas.List.{drop-set-lt, drop_all, set-get_or, take_all}
use Rattle.std.specs.List.{AllByRecursion, remove}
use Rattle.acq_link.specs.Frames.{framed}
use Rattle.acq_rounds.specs.Acts.{Act, Connection, Follows, Serves, TakeTurns, Told, Turn, awaited}
use Rattle.acq_rounds.specs.Acts.{messages_in, numbers, taken_by}
use Rattle.acq_rounds.specs.Groups.{answered, asked, handed, is_ready, turn_of}
use Rattle.acq_rounds.specs.Moves.{AllGoOn, GoesOn}
use Rattle.acq_rounds.specs.declared.stage.Stage.{Stage}
use Rattle.acq_rounds.specs.declared.stage.Stage.TheVariants.{Listening}
use Rattle.acq_rounds.proofs.Lasting.{serves_less, serves_more}
use Rattle.acq_rounds.proofs.Lists.{all_set}
use Rattle.acq_rounds.proofs.Turning.{parts, without}

-- ---- one goes on

pub goes_on_same : (c d : Connection) → d ≡ c → GoesOn c d
goes_on_same c d is = record {
  same = ap (λ (x : Connection). x.number) is;
  follows = λ acts f. subst (Follows acts) (sym is) f;
}

pub goes_on_then : (a b c : Connection) → GoesOn a b → c ≡ b → GoesOn a c
goes_on_then a b c on is = subst (GoesOn a) (sym is) on

-- a piece came
pub goes_on_fed : (c : Connection) (came held piece : List ℕ) → came ≡ c.came ++ piece →
    held ≡ c.held ++ piece →
    GoesOn c (record {
      number = c.number;
      came = came;
      held = held;
      went = c.went;
      unsent = c.unsent;
      stage = c.stage;
    })
goes_on_fed c came held piece is kept = record {
  same = refl;
  follows = λ acts f.
      let messages = framed (messages_in (taken_by c.number acts)) in
      record {
        came = record {
          each = f.came.each;
          whole = is ∙ ap (λ (l : List ℕ). l ++ piece) f.came.whole
              ∙ append_assoc messages c.held piece
              ∙ ap (λ (l : List ℕ). messages ++ l) (sym kept);
        };
        written = f.written;
        turns = f.turns;
      };
}

-- bytes were written
pub goes_on_written : (c : Connection) (went unsent : List ℕ) (n : ℕ) →
    went ≡ c.went ++ take n c.unsent → unsent ≡ drop n c.unsent →
    GoesOn c (record {
      number = c.number;
      came = c.came;
      held = c.held;
      went = went;
      unsent = unsent;
      stage = c.stage;
    })
goes_on_written c went unsent n is left = record {
  same = refl;
  follows = λ acts f. record {
    came = f.came;
    written = (λ i. is i ++ left i) ∙ append_assoc c.went (take n c.unsent) (drop n c.unsent)
        ∙ ap (λ (l : List ℕ). c.went ++ l) (take-append-drop n c.unsent) ∙ f.written;
    turns = f.turns;
  };
}

-- what is waited for is there
pub goes_on_heard : (c : Connection) (stage : Stage) → awaited stage ≡ awaited c.stage →
    GoesOn c (record {
      number = c.number;
      came = c.came;
      held = c.held;
      went = c.went;
      unsent = c.unsent;
      stage = stage;
    })
goes_on_heard c stage same = record {
  same = refl;
  follows = λ acts f. record {
    came = f.came;
    written = f.written;
    turns = subst (TakeTurns None (taken_by c.number acts)) (sym same) f.turns;
  };
}

-- one of them has gone on
pub goes_on_at : {X : Type 0} (view : X → Connection) (old : List Connection) (ps : List X) (i : ℕ)
    (d y : X) → GoesOn (view (get_or ps i d)) (view y) → AllGoOn old (map view ps) →
    AllGoOn old (map view (set ps i y))
goes_on_at view old ps i d y on all =
    let number : Connection → ℕ = λ c. c.number in
    let is : get_or (map view ps) i (view d) ≡ view (get_or ps i d) = get_or-map view ps i d in
    let put : map view (set ps i y) ≡ set (map view ps) i (view y) = map-set view ps i y in
    record {
      same = ap numbers put
          ∙ map-set_same number (map view ps) i (view y) (view d) (on.same ∙ ap number (sym is))
          ∙ all.same;
      follow = λ acts f. subst (AllByRecursion (Follows acts)) (sym put)
          (all_set (Follows acts) (map view ps) i (view y) (view d)
          (λ g. on.follows acts (subst (Follows acts) is g)) (all.follow acts f));
    }

-- one of them shows what it did
pub same_at : {X : Type 0} (view : X → Connection) (old : List Connection) (ps : List X) (i : ℕ)
    (d y : X) → view y ≡ view (get_or ps i d) → map view ps ≡ old → map view (set ps i y) ≡ old
same_at view old ps i d y is e =
    map-set view ps i y
    ∙ ap (λ (c : Connection). set (map view ps) i c) (is ∙ sym (get_or-map view ps i d))
    ∙ set-get_or (map view ps) i (view d) ∙ e

handed_nil : (cs : List Connection) → handed cs [] ≡ cs
handed_nil [] = refl
handed_nil (c ∷ cs) = refl

-- ---- what is asked

module _ {X : Type 0} (view : X → Connection) (ps : List X) (i : ℕ) (d : X) (lt : i < length ps)
  where
    abbrev c : Connection
    c = view (get_or ps i d)

    abbrev rest : List Connection
    rest = map view (drop (i + 1) ps)

    next : map view (drop i ps) ≡ c ∷ rest
    next = ap (map view) (drop_more ps i d lt)

    pub asked_some : (ms : List Turn) (m : Turn) → is_ready c ≡ true →
        m ≡ turn_of c →
        (ms ++ m ∷ []) ++ asked rest ≡ ms ++ asked (map view (drop i ps))
    asked_some ms m on is =
        append_assoc ms (m ∷ []) (asked rest)
        ∙ ap (λ (l : List Turn). ms ++ l) (ap (λ (n : Turn). n ∷ asked rest) is
        ∙ sym (ap (λ b. cond b (turn_of c ∷ asked rest) (asked rest)) on)
        ∙ sym (ap asked next))

    pub asked_none : is_ready c ≡ false → asked rest ≡ asked (map view (drop i ps))
    asked_none off =
        sym (ap (λ b. cond b (turn_of c ∷ asked rest) (asked rest)) off)
        ∙ sym (ap asked next)

    -- ---- what is handed out

    -- the next is for this one
    pub handed_some : (y : X) (r : Told) (rs : List Told) →
        is_ready c ≡ true → view y ≡ answered c r →
        map view (take (i + 1) (set ps i y)) ++ handed (map view (drop (i + 1) (set ps i y))) rs
        ≡ map view (take i ps) ++ handed (map view (drop i ps)) (r ∷ rs)
    handed_some y r rs on is =
        ap (λ (l : List X). map view (take (i + 1) (set ps i y)) ++ handed (map view l) rs)
        (drop-set-lt (i + 1) ps i y (omega arith))
        ∙ ap (λ (l : List Connection). l ++ handed rest rs)
        (ap (map view) (take_more_set ps i y lt) ∙ map-append view (take i ps) (y ∷ []))
        ∙ append_assoc (map view (take i ps)) (view y ∷ []) (handed rest rs)
        ∙ ap (λ (l : List Connection). map view (take i ps) ++ l)
        (ap (λ (x : Connection). x ∷ handed rest rs) is
        ∙ sym (ap (λ b. cond b (answered c r ∷ handed rest rs) (c ∷ handed rest (r ∷ rs))) on)
        ∙ sym (ap (λ (l : List Connection). handed l (r ∷ rs)) next))

    -- this one wasn't ready
    pub handed_pass : (y : X) (rs : List Told) → is_ready c ≡ false → view y ≡ c →
        map view (take (i + 1) (set ps i y)) ++ handed (map view (drop (i + 1) (set ps i y))) rs
        ≡ map view (take i ps) ++ handed (map view (drop i ps)) rs
    handed_pass y rs off is =
        ap (λ (l : List X). map view (take (i + 1) (set ps i y)) ++ handed (map view l) rs)
        (drop-set-lt (i + 1) ps i y (omega arith))
        ∙ ap (λ (l : List Connection). l ++ handed rest rs)
        (ap (map view) (take_more_set ps i y lt) ∙ map-append view (take i ps) (y ∷ [])
        ∙ ap (λ (x : Connection). map view (take i ps) ++ (x ∷ [])) is)
        ∙ append_assoc (map view (take i ps)) (c ∷ []) (handed rest rs)
        ∙ ap (λ (l : List Connection). map view (take i ps) ++ l)
        (passed rs ∙ sym (ap (λ (l : List Connection). handed l rs) next)) where
          passed : (rs : List Told) → c ∷ handed rest rs ≡ handed (c ∷ rest) rs
          passed [] = ap (λ (l : List Connection). c ∷ l) (handed_nil rest)
          passed (r ∷ rs) =
              sym (ap (λ b. cond b (answered c r ∷ handed rest rs) (c ∷ handed rest (r ∷ rs))) off)

-- nothing is left that was said
pub handed_out : {X : Type 0} (view : X → Connection) (ps : List X) (i : ℕ) →
    map view (take i ps) ++ handed (map view (drop i ps)) [] ≡ map view ps
handed_out view ps i =
    ap (λ (l : List Connection). map view (take i ps) ++ l) (handed_nil (map view (drop i ps)))
    ∙ sym (map-append view (take i ps) (drop i ps)) ∙ ap (map view) (take-append-drop i ps)

-- no connection is left
pub handed_all : {X : Type 0} (view : X → Connection) (ps : List X) (i : ℕ)
    (rs : List Told) → length ps ≤ i →
    map view (take i ps) ++ handed (map view (drop i ps)) rs ≡ map view ps
handed_all view ps i rs le =
    ap (λ (l : List _). map view (take i ps) ++ handed (map view l) rs) (drop_all i ps le)
    ∙ append-nil (map view (take i ps)) ∙ ap (map view) (take_all i ps le)

-- ---- one ends

pub serves_remove : {X : Type 0} (view : X → Connection) (acts : List Act)
    (ended front behind : List Connection) (ps : List X) (i : ℕ) (d : X) (count : ℕ) →
    i < length ps → Serves acts ended (front ++ (map view ps ++ behind)) count →
    Serves acts (ended ++ view (get_or ps i d) ∷ [])
    (front ++ (map view (remove ps i) ++ behind)) count
serves_remove view acts ended front behind ps i d count lt s =
    let x = view (get_or ps i d) in
    let before = map view (take i ps) in
    let more = map view (drop (i + 1) ps) in
    let split : front ++ (map view ps ++ behind) ≡ (front ++ before) ++ (x ∷ (more ++ behind)) =
    ap (λ (l : List Connection). front ++ (l ++ behind)) (parts view ps i d lt)
    ∙ ap (λ (l : List Connection). front ++ l) (append_assoc before (x ∷ more) behind)
    ∙ sym (append_assoc front before (x ∷ (more ++ behind))) in
    let rest : front ++ (map view (remove ps i) ++ behind)
    ≡ (front ++ before) ++ (more ++ behind) =
    ap (λ (l : List Connection). front ++ (l ++ behind)) (without view ps i d lt)
    ∙ ap (λ (l : List Connection). front ++ l) (append_assoc before more behind)
    ∙ sym (append_assoc front before (more ++ behind)) in
    subst (λ (l : List Connection). Serves acts (ended ++ x ∷ []) l count) (sym rest)
    (serves_less acts ended (front ++ before) x (more ++ behind) count
    (subst (λ (l : List Connection). Serves acts ended l count) split s))

-- ---- one comes

pub admits : (acts : List Act) (ended here new : List Connection) (count : ℕ)
    (came held went unsent : List ℕ) (c : Connection) →
    c ≡ record {
      number = count;
      came = came;
      held = held;
      went = went;
      unsent = unsent;
      stage = Listening;
    } →
    came ≡ [] → held ≡ [] → went ≡ [] → unsent ≡ [] → new ≡ here ++ c ∷ [] →
    Serves acts ended here count → Serves acts ended new (count + 1)
admits acts ended here new count came held went unsent c is came_none held_none went_none none put
    s =
    let made : List ℕ → List ℕ → List ℕ → List ℕ → Connection = λ came held went unsent. record {
      number = count;
      came = came;
      held = held;
      went = went;
      unsent = unsent;
      stage = Listening;
    } in
    subst (λ (l : List Connection). Serves acts ended l (count + 1))
    (sym (put ∙ ap (λ (x : Connection). here ++ x ∷ [])
    (is ∙ (λ i. made (came_none i) (held_none i) (went_none i) (none i)))))
    (serves_more acts ended here count s)
