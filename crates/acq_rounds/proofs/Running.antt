-- Runs, one behind the other.
use Rattle.std.proofs.Common.{◌≡◌, ◌+◌, ◌≤◌, length-append, ℕ, List, [], ◌∷◌, ◌++◌, refl, sym, ap, subst, subst₂}
use Rattle.std.proofs.Common.{◌∙◌, ◌⊎◌, append_assoc, append-nil, arith, drop, inl, inr, length}
use Rattle.std.proofs.Common.{take}
use Rattle.std.proofs.lemmas.List.{take_at}
use Rattle.std.proofs.lemmas.List.Elements.{All-weaker}
use Rattle.acq_message.specs.declared.verdict.Verdict.{Verdict}
use Rattle.acq_core.specs.declared.query.Query.{Query}
use Rattle.acq_core.specs.declared.event.Event.{Event}
use Rattle.acq_core.specs.Tables.{Tables, tables_after}
use Rattle.acq_soundness.proofs.Runs.{tables_after-append}
use Rattle.acq_front.specs.Stops.{Left}
use Rattle.acq_front.specs.Talk.{AreSaid, Saying, queries}
use Rattle.acq_rounds.specs.Acts.{Act, AnswerTo, Connection, IsTaken, MakesOf, Message, Serves}
use Rattle.acq_rounds.specs.Acts.{Taken, Took, Turn, events_of, taken_of, told_of, turns_of}
use Rattle.acq_rounds.specs.Groups.{acts_in, asked, handed}
use Rattle.acq_rounds.specs.Moves.{AllGoOn}
use Rattle.acq_rounds.specs.Reaching.{ReachesSome}
use Rattle.acq_rounds.specs.Runs.{AreFair, AreTold, Begins, Between, Did, Following, Group, Grouped}
use Rattle.acq_rounds.specs.Runs.{LeavesInHand, OthersGoOn, Ran, RanUntil, ServesAll, Step, Untold, Whole}
use Rattle.acq_rounds.specs.Runs.{acts_of, all_acts, events_in, groups_in, whole}
use Rattle.acq_rounds.specs.Taking.{LeavesGroup, TookNone}
use Rattle.acq_rounds.proofs.Grouping.{each_has_its, taken_group}
use Rattle.acq_rounds.proofs.Lasting.{serves_group, serves_on}
use Rattle.acq_rounds.proofs.Together.{took_tables}

pub begins_both : (a b c : List Connection) → Begins a b → Begins b c → Begins a c
begins_both a b c f h =
    (f.0 ++ h.0, h.1 ∙ ap (λ (l : List Connection). l ++ h.0) f.1 ∙ append_assoc a f.0 h.0)

pub begins_more : (a b : List Connection) (x : Connection) (c : List Connection) → Begins a b →
    c ≡ b ++ x ∷ [] → Begins a c
begins_more a b x c f e = begins_both a b c f (x ∷ [], e)

pub begins_same : (a b : List Connection) → b ≡ a → Begins a b
begins_same a b e = ([], e ∙ sym (append-nil a))

acts-append : (steps more : List Step) → all_acts (steps ++ more) ≡ all_acts steps ++ all_acts more
acts-append [] more = refl
acts-append (Grouped g ∷ steps) more =
    ap (λ (l : List Act). acts_of g ++ l) (acts-append steps more)
    ∙ sym (append_assoc (acts_of g) (all_acts steps) (all_acts more))
acts-append (Between events ∷ steps) more = acts-append steps more
acts-append (Untold events ∷ steps) more = acts-append steps more

groups-append : (steps more : List Step) →
    groups_in (steps ++ more) ≡ groups_in steps + groups_in more
groups-append [] more = omega arith
groups-append (Grouped g ∷ steps) more =
    let e : _ = groups-append steps more in
    omega (arith, e)
groups-append (Between events ∷ steps) more = groups-append steps more
groups-append (Untold events ∷ steps) more = groups-append steps more

told-append : (steps more : List Step) → AreTold steps → AreTold more → AreTold (steps ++ more)
told-append [] more a b = b
told-append (Grouped g ∷ steps) more a b = told-append steps more a b
told-append (Between events ∷ steps) more a b = told-append steps more a b
told-append (Untold events ∷ steps) more a b = absurd a

pub events-append : (steps more : List Step) →
    events_in (steps ++ more) ≡ events_in steps ++ events_in more
events-append [] more = refl
events-append (Grouped g ∷ steps) more =
    let events = events_of (taken_of (acts_of g)) in
    ap (λ (l : List Event). events ++ l) (events-append steps more)
    ∙ sym (append_assoc events (events_in steps) (events_in more))
events-append (Between events ∷ steps) more =
    ap (λ (l : List Event). events ++ l) (events-append steps more)
    ∙ sym (append_assoc events (events_in steps) (events_in more))
events-append (Untold events ∷ steps) more =
    ap (λ (l : List Event). events ++ l) (events-append steps more)
    ∙ sym (append_assoc events (events_in steps) (events_in more))

fair-append : (before : List Act) (mid new : List Connection) (steps more : List Step) →
    Begins mid new → AreFair before mid steps → AreFair (before ++ all_acts steps) new more →
    AreFair before new (steps ++ more)
fair-append before mid new [] more b f h =
    subst (λ (l : List Act). AreFair l new more) (append-nil before) h
fair-append before mid new (Grouped g ∷ steps) more b f h = (
  record { serves = f.0.serves; each = f.0.each; gone = begins_both g.ended mid new f.0.gone b },
  fair-append (before ++ acts_of g) mid new steps more b f.1
      (subst (λ (l : List Act). AreFair l new more)
      (sym (append_assoc before (acts_of g) (all_acts steps))) h),
)
fair-append before mid new (Between events ∷ steps) more b f h =
    fair-append before mid new steps more b f h
fair-append before mid new (Untold events ∷ steps) more b f h =
    fair-append before mid new steps more b f h

pub fair_longer : (before : List Act) (mid new : List Connection) (steps : List Step) →
    Begins mid new → AreFair before mid steps → AreFair before new steps
fair_longer before mid new steps b f =
    subst (AreFair before new) (append-nil steps) (fair-append before mid new steps [] b f tt)

-- ---- what a clock may give later, and an issuer say, they might before

are_said : (may_say might_say : Saying) (qs : List Query) (vs : List Verdict) →
    ((q : Query) (v : Verdict) → may_say q v → might_say q v) → AreSaid may_say qs vs →
    AreSaid might_say qs vs
are_said may_say might_say [] [] f h = tt
are_said may_say might_say [] (v ∷ vs) f h = absurd h
are_said may_say might_say (q ∷ qs) [] f h = absurd h
are_said may_say might_say (q ∷ qs) (v ∷ vs) f h =
    (f q v h.0, are_said may_say might_say qs vs f h.1)

module _ (may_give might_give : ℕ → Type 0) (may_say might_say : Saying)
    (given : (m : ℕ) → may_give m → might_give m)
    (said : (q : Query) (v : Verdict) → may_say q v → might_say q v) where
  makes_earlier : (t : Tables) (turn : Turn) (x : Taken) → MakesOf may_say t turn x →
      MakesOf might_say t turn x
  makes_earlier t (Message message) x (inl once) = inl (record {
    makes = once.makes;
    asked = are_said may_say might_say (queries t x.events) x.verdicts said once.asked;
  })
  makes_earlier t (Message message) x (inr later) = inr later
  makes_earlier t (AnswerTo query) x h = record {
    moment = h.moment;
    verdict = h.verdict;
    given = h.given;
    event = h.event;
    answers = h.answers;
    may = said query h.verdict h.may;
  }

  pub taken_earlier : (t : Tables) (x : Taken) → IsTaken may_give may_say t x →
      IsTaken might_give might_say t x
  taken_earlier t x h = record {
    makes = makes_earlier t x.turn x h.makes;
    given = All-weaker may_give might_give given x.moments h.given;
    waits = h.waits;
    said = h.said;
    fit = h.fit;
  }

  pub took_earlier : (old new : Tables) (xs : List Taken) → Took may_give may_say old new xs →
      Took might_give might_say old new xs
  took_earlier old new [] h = h
  took_earlier old new (x ∷ xs) h =
      (taken_earlier old x h.0, took_earlier (tables_after old x.events) new xs h.1)

  did_earlier : (old new : Tables) (steps : List Step) → Did may_give may_say old new steps →
      Did might_give might_say old new steps
  did_earlier old new [] h = h
  did_earlier old new (Grouped g ∷ steps) h =
      (h.0, took_earlier old h.0 (taken_of (acts_of g)) h.1, did_earlier h.0 new steps h.2)
  did_earlier old new (Between events ∷ steps) h =
      did_earlier (tables_after old events) new steps h
  did_earlier old new (Untold events ∷ steps) h =
      did_earlier (tables_after old events) new steps h

  pub ran_earlier : {O : Type 0} (follow : Following O) (old new : Whole O) → Ran may_give may_say follow old new →
      Ran might_give might_say follow old new
  ran_earlier follow old new r = record {
    steps = r.steps;
    did = did_earlier old.tables new.tables r.steps r.did;
    serves = r.serves;
    fair = r.fair;
    gone = r.gone;
    others = r.others;
  }

module _ (may_give : ℕ → Type 0) (may_say : Saying) where
  pub took-append : (old mid new : Tables) (xs more : List Taken) →
      Took may_give may_say old mid xs → Took may_give may_say mid new more →
      Took may_give may_say old new (xs ++ more)
  took-append old mid new [] more a b =
      subst (λ (t : Tables). Took may_give may_say t new more) a b
  took-append old mid new (x ∷ xs) more a b =
      (a.0, took-append (tables_after old x.events) mid new xs more a.1 b)

  did-append : (old mid new : Tables) (steps more : List Step) →
      Did may_give may_say old mid steps → Did may_give may_say mid new more →
      Did may_give may_say old new (steps ++ more)
  did-append old mid new [] more a b =
      subst (λ (t : Tables). Did may_give may_say t new more) a b
  did-append old mid new (Grouped g ∷ steps) more a b =
      (a.0, a.1, did-append a.0 mid new steps more a.2 b)
  did-append old mid new (Between events ∷ steps) more a b =
      did-append (tables_after old events) mid new steps more a b
  did-append old mid new (Untold events ∷ steps) more a b =
      did-append (tables_after old events) mid new steps more a b

  -- the tables behind steps
  pub did_tables : (old new : Tables) (steps : List Step) → Did may_give may_say old new steps →
      new ≡ tables_after old (events_in steps)
  did_tables old new [] d = d
  did_tables old new (Grouped g ∷ steps) d =
      let events = events_of (taken_of (acts_of g)) in
      did_tables d.0 new steps d.2
      ∙ ap (λ (t : Tables). tables_after t (events_in steps))
      (took_tables may_give may_say old d.0 (taken_of (acts_of g)) d.1)
      ∙ sym (tables_after-append old events (events_in steps))
  did_tables old new (Between events ∷ steps) d =
      did_tables (tables_after old events) new steps d
      ∙ sym (tables_after-append old events (events_in steps))
  did_tables old new (Untold events ∷ steps) d =
      did_tables (tables_after old events) new steps d
      ∙ sym (tables_after-append old events (events_in steps))

module _ {O : Type 0} (may_give : ℕ → Type 0) (may_say : Saying) (follow : Following O) where
  -- nothing was taken
  pub ran_quietly : (old new : Whole O) → new.tables ≡ old.tables → Begins old.ended new.ended →
      ((acts : List Act) → ServesAll acts old → ServesAll acts new) → new.others ≡ old.others →
      Ran may_give may_say follow old new
  ran_quietly old new same begins on others = record {
    steps = [];
    did = same;
    serves = λ before s. subst (λ (l : List Act). ServesAll l new) (sym (append-nil before))
        (on before s);
    fair = λ before s. tt;
    gone = begins;
    others = λ t before is f. subst₂ (follow t) (sym (append-nil before)) (sym others) f;
  }

  -- nothing has changed
  serves_same : (old new : Whole O) → new.ended ≡ old.ended → new.here ≡ old.here →
      new.count ≡ old.count → (acts : List Act) → ServesAll acts old → ServesAll acts new
  serves_same old new ended here count acts s =
      subst (λ (l : List Connection). Serves acts l new.here new.count) (sym ended)
      (subst (λ (l : List Connection). Serves acts old.ended l new.count) (sym here)
      (subst (Serves acts old.ended old.here) (sym count) s))

  pub ran_same : (old new : Whole O) → new.tables ≡ old.tables → new.ended ≡ old.ended →
      new.here ≡ old.here → new.count ≡ old.count → new.others ≡ old.others →
      Ran may_give may_say follow old new
  ran_same old new tables ended here count others =
      ran_quietly old new tables (begins_same old.ended new.ended ended)
      (serves_same old new ended here count) others

  pub ran_both : (old mid new : Whole O) → Ran may_give may_say follow old mid →
      Ran may_give may_say follow mid new → Ran may_give may_say follow old new
  ran_both old mid new a b =
      let all = acts-append a.steps b.steps in
      record {
        steps = a.steps ++ b.steps;
        did = did-append may_give may_say old.tables mid.tables new.tables a.steps b.steps a.did
            b.did;
        serves = λ before s. subst (λ (l : List Act). ServesAll l new)
            (append_assoc before (all_acts a.steps) (all_acts b.steps)
            ∙ ap (λ (l : List Act). before ++ l) (sym all))
            (b.serves (before ++ all_acts a.steps) (a.serves before s));
        fair = λ before s. fair-append before mid.ended new.ended a.steps b.steps b.gone
            (a.fair before s) (b.fair (before ++ all_acts a.steps) (a.serves before s));
        gone = begins_both old.ended mid.ended new.ended a.gone b.gone;
        others = λ t before is f.
            let behind : mid.tables ≡ tables_after t (events_in (before ++ a.steps)) =
            did_tables may_give may_say old.tables mid.tables a.steps a.did
            ∙ ap (λ (x : Tables). tables_after x (events_in a.steps)) is
            ∙ sym (tables_after-append t (events_in before) (events_in a.steps))
            ∙ ap (tables_after t) (sym (events-append before a.steps)) in
            subst (λ (l : List Step). follow t l new.others) (append_assoc before a.steps b.steps)
            (b.others t (before ++ a.steps) behind (a.others t before is f));
      }

  -- a group was taken
  pub ran_group : (ended here now : List Connection) (others : O) (count : ℕ) (old new : Tables)
      (taken : List Taken) →
      ((t : Tables) (steps : List Step) (g : Group) → follow t steps others →
      follow t (steps ++ Grouped g ∷ []) others) →
      turns_of taken ≡ asked here → now ≡ handed here (told_of taken) →
      Took may_give may_say old new taken →
      Ran may_give may_say follow (whole ended here count old others)
      (whole ended now count new others)
  ran_group ended here now others count old new taken past brought is took =
      let g : Group = record { ended = ended; here = here; count = count; taken = taken } in
      let one : all_acts (Grouped g ∷ []) ≡ acts_in here taken = append-nil (acts_in here taken) in
      record {
        steps = Grouped g ∷ [];
        did = (
          new,
          subst (Took may_give may_say old new) (sym (taken_group here taken brought)) took,
          refl,
        );
        serves = λ before s. subst₂
            (λ (l : List Connection) (a : List Act). Serves (before ++ a) ended l count)
            (sym is) (sym one) (serves_group before ended here count taken brought s);
        fair = λ before s. (
          record {
            serves = s;
            each = each_has_its here taken s.distinct brought;
            gone = ([], sym (append-nil ended));
          },
          tt,
        );
        gone = ([], sym (append-nil ended));
        others = λ t before is f. past t before g f;
      }

  -- other events were taken
  pub ran_between : (ended now here : List Connection) (before after : O) (count : ℕ)
      (old new : Tables) (events : List Event) → now ≡ ended → new ≡ tables_after old events →
      OthersGoOn follow old before after events →
      Ran may_give may_say follow (whole ended here count old before)
      (whole now here count new after)
  ran_between ended now here before after count old new events same is on = record {
    steps = Between events ∷ [];
    did = is;
    serves = λ before s. subst₂
        (λ (e : List Connection) (l : List Act). Serves l e here count)
        (sym same) (sym (append-nil before)) s;
    fair = λ before s. tt;
    gone = begins_same ended now same;
    others = on;
  }

  -- so many that nothing is told of
  ran_untold : (ended here : List Connection) (others : O) (count : ℕ) (old : Tables)
      (events : List Event) →
      ((t : Tables) (steps : List Step) → follow t steps others →
      follow t (steps ++ Untold events ∷ []) others) →
      Ran may_give may_say follow (whole ended here count old others)
      (whole ended here count (tables_after old events) others)
  ran_untold ended here others count old events past = record {
    steps = Untold events ∷ [];
    did = refl;
    serves = λ before s. subst (λ (l : List Act). Serves l ended here count)
        (sym (append-nil before)) s;
    fair = λ before s. tt;
    gone = begins_same ended ended refl;
    others = λ t before is f. past t before f;
  }

  -- bytes came or went
  pub ran_on : (ended here now : List Connection) (others : O) (count : ℕ) (t : Tables) →
      AllGoOn here now → Ran may_give may_say follow (whole ended here count t others)
      (whole ended now count t others)
  ran_on ended here now others count t on =
      ran_quietly (whole ended here count t others) (whole ended now count t others) refl
      ([], sym (append-nil ended)) (λ acts s. serves_on acts ended here now count on s) refl

  -- with how many groups were taken
  pub record RanIn (n : ℕ) (old new : Whole O) : Type 0 where
    pub ran : Ran may_give may_say follow old new
    pub long : groups_in ran.steps ≡ n
    pub told : AreTold ran.steps

  pub in_quietly : (old new : Whole O) → new.tables ≡ old.tables → Begins old.ended new.ended →
      ((acts : List Act) → ServesAll acts old → ServesAll acts new) → new.others ≡ old.others →
      RanIn 0 old new
  unfolding ran_quietly
  in_quietly old new same begins on others =
      record { ran = ran_quietly old new same begins on others; long = refl; told = tt }

  pub in_same : (old new : Whole O) → new.tables ≡ old.tables → new.ended ≡ old.ended →
      new.here ≡ old.here → new.count ≡ old.count → new.others ≡ old.others → RanIn 0 old new
  unfolding ran_same ran_quietly
  in_same old new tables ended here count others =
      record { ran = ran_same old new tables ended here count others; long = refl; told = tt }

  pub in_both : (m n : ℕ) (old mid new : Whole O) → RanIn m old mid → RanIn n mid new →
      RanIn (m + n) old new
  unfolding ran_both
  in_both m n old mid new a b = record {
    ran = ran_both old mid new a.ran b.ran;
    long = groups-append a.ran.steps b.ran.steps
        ∙ ap (λ k. k + groups_in b.ran.steps) a.long ∙ ap (λ k. m + k) b.long;
    told = told-append a.ran.steps b.ran.steps a.told b.told;
  }

  pub in_group : (ended here now : List Connection) (others : O) (count : ℕ) (old new : Tables)
      (taken : List Taken) →
      ((t : Tables) (steps : List Step) (g : Group) → follow t steps others →
      follow t (steps ++ Grouped g ∷ []) others) →
      turns_of taken ≡ asked here → now ≡ handed here (told_of taken) →
      Took may_give may_say old new taken →
      RanIn 1 (whole ended here count old others) (whole ended now count new others)
  unfolding ran_group
  in_group ended here now others count old new taken past brought is took = record {
    ran = ran_group ended here now others count old new taken past brought is took;
    long = refl;
    told = tt;
  }

  pub in_between : (ended now here : List Connection) (before after : O) (count : ℕ)
      (old new : Tables) (events : List Event) → now ≡ ended → new ≡ tables_after old events →
      OthersGoOn follow old before after events →
      RanIn 0 (whole ended here count old before) (whole now here count new after)
  unfolding ran_between
  in_between ended now here before after count old new events same is on = record {
    ran = ran_between ended now here before after count old new events same is on;
    long = refl;
    told = tt;
  }

  pub in_on : (ended here now : List Connection) (others : O) (count : ℕ) (t : Tables) →
      AllGoOn here now →
      RanIn 0 (whole ended here count t others) (whole ended now count t others)
  unfolding ran_on ran_quietly
  in_on ended here now others count t on =
      record { ran = ran_on ended here now others count t on; long = refl; told = tt }

pub in_earlier : (may_give might_give : ℕ → Type 0) (may_say might_say : Saying)
    (given : (m : ℕ) → may_give m → might_give m)
    (said : (q : Query) (v : Verdict) → may_say q v → might_say q v)
    {O : Type 0} (follow : Following O) (n : ℕ) (old new : Whole O) → RanIn may_give may_say follow n old new →
    RanIn might_give might_say follow n old new
unfolding ran_earlier
in_earlier may_give might_give may_say might_say given said follow n old new r = record {
  ran = ran_earlier may_give might_give may_say might_say given said follow old new r.ran;
  long = r.long;
  told = r.told;
}

-- ---- where it was stopped

group_earlier : (may_give might_give : ℕ → Type 0) (may_say might_say : Saying)
    (given : (m : ℕ) → may_give m → might_give m)
    (said : (q : Query) (v : Verdict) → may_say q v → might_say q v)
    (left : Left) (old : Tables) (turns : List Turn) →
    LeavesGroup may_give may_say left old turns → LeavesGroup might_give might_say left old turns
group_earlier may_give might_give may_say might_say given said left old turns (inl same) = inl same
group_earlier may_give might_give may_say might_say given said left old turns (inr l) = inr (
  l.0,
  l.1,
  l.2,
  took_earlier may_give might_give may_say might_say given said old l.1 l.0 l.3,
  l.4,
)

pub leaves_earlier : (may_give might_give : ℕ → Type 0) (may_say might_say : Saying)
    (given : (m : ℕ) → may_give m → might_give m)
    (said : (q : Query) (v : Verdict) → may_say q v → might_say q v)
    (left : Left) (old : Tables) (turns : List Turn) →
    LeavesInHand may_give may_say left old turns →
    LeavesInHand might_give might_say left old turns
leaves_earlier may_give might_give may_say might_say given said left old turns (inl group) =
    inl (group_earlier may_give might_give may_say might_say given said left old turns group)
leaves_earlier may_give might_give may_say might_say given said left old turns (inr one) =
    inr one

pub none_earlier : (may_give might_give : ℕ → Type 0) (may_say might_say : Saying)
    (given : (m : ℕ) → may_give m → might_give m)
    (said : (q : Query) (v : Verdict) → may_say q v → might_say q v)
    (old : Tables) (left : Left) (turns : List Turn) →
    TookNone may_give may_say old left turns → TookNone might_give might_say old left turns
none_earlier may_give might_give may_say might_say given said old left turns none = record {
  tables = none.tables;
  stop = group_earlier may_give might_give may_say might_say given said left old turns none.stop;
}

module _ {O : Type 0} (may_give : ℕ → Type 0) (may_say : Saying) (follow : Following O) where
  pub ran_until : (old : Whole O) (ended here : List Connection) (others : O) (count : ℕ) (left : Left)
      (kept : Tables) → Ran may_give may_say follow old (whole ended here count kept others) →
      TookNone may_give may_say kept left (asked here) →
      RanUntil may_give may_say follow old ended here count left others
  ran_until old ended here others count left kept ran none =
      record { kept = kept; ran = ran; tables = none.tables; stop = inl none.stop }

  -- other events were taken, perhaps with one in hand
  pub until_between : (old : Whole O) (ended now here : List Connection) (before after : O) (count : ℕ)
      (left : Left) (t : Tables) →
      Ran may_give may_say follow old (whole ended here count t before) → now ≡ ended →
      ((u : Tables) (steps : List Step) (events : List Event) → follow u steps after →
      follow u (steps ++ Untold events ∷ []) after) →
      ReachesSome t left (OthersGoOn follow t before after) →
      RanUntil may_give may_say follow old now here count left after
  until_between old ended now here before after count left t ran same past some =
      let told = tables_after t some.events in
      let kept = tables_after told some.untold in
      record {
        kept = kept;
        ran = ran_both may_give may_say follow old (whole now here count told after)
            (whole now here count kept after)
            (ran_both may_give may_say follow old (whole ended here count t before)
            (whole now here count told after) ran
            (ran_between may_give may_say follow ended now here before after count t told
            some.events same refl some.are_such))
            (ran_untold may_give may_say follow now here after count told some.untold
            (λ u steps. past u steps some.untold));
        tables = λ o. some.tables o ∙ tables_after-append t some.events some.untold;
        stop = inr (
          some.in_hand,
          fewer some.untold some.in_hand some.at_most_one,
          record {
            tables = λ s l. either s (some.stop.tables s l);
            stored = some.stop.stored;
          },
        );
      }
    where
      fewer : (xs ys : List Event) → length (xs ++ ys) ≤ 1 → length ys ≤ 1
      fewer xs ys l = omega (arith, l, length-append xs ys)

      both : tables_after t (some.events ++ some.untold)
          ≡ tables_after (tables_after t some.events) some.untold
      both = tables_after-append t some.events some.untold

      either : (s : Tables) →
          (s ≡ tables_after t (some.events ++ some.untold))
          ⊎ (s ≡ tables_after t ((some.events ++ some.untold) ++ some.in_hand)) →
          (s ≡ tables_after (tables_after t some.events) some.untold)
          ⊎ (s ≡ tables_after (tables_after (tables_after t some.events) some.untold) some.in_hand)
      either s (inl is) = inl (is ∙ both)
      either s (inr is) =
          inr (is ∙ tables_after-append t (some.events ++ some.untold) some.in_hand
          ∙ ap (λ (x : Tables). tables_after x some.in_hand) both)

  -- behind a run that went on
  pub until_behind : (might_give : ℕ → Type 0) (might_say : Saying)
      (given : (m : ℕ) → may_give m → might_give m)
      (said : (q : Query) (v : Verdict) → may_say q v → might_say q v)
      (old mid : Whole O) (ended here : List Connection) (others : O) (count : ℕ) (left : Left) →
      Ran might_give might_say follow old mid →
      RanUntil may_give may_say follow mid ended here count left others →
      RanUntil might_give might_say follow old ended here count left others
  until_behind might_give might_say given said old mid ended here others count left first more =
      record {
        kept = more.kept;
        ran = ran_both might_give might_say follow old mid (whole ended here count more.kept others)
            first
            (ran_earlier may_give might_give may_say might_say given said follow mid
            (whole ended here count more.kept others) more.ran);
        tables = more.tables;
        stop = leaves_earlier may_give might_give may_say might_say given said left more.kept
            (asked here) more.stop;
      }

-- what was written through a slice of all of a Vec is what it has
pub put_back : {X : Type 0} (len : ℕ) (old ws : List X) → len ≡ length old →
    length ws ≡ length old → take len (ws ++ drop (length ws) old) ≡ ws
put_back len old ws e f = take_at ws (drop (length ws) old) len (f ∙ sym e)
