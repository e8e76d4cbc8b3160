-- What all connections have had, as more happens.
use Rattle.std.proofs.Common.{◌≡◌, ◌≢◌, ◌⊎◌, inl, inr, ◌<◌, ◌+◌, ℕ, List, [], ◌∷◌, ◌++◌}
use Rattle.std.proofs.Common.{refl, sym, subst, append-nil, arith}
use Rattle.std.proofs.lemmas.List.{map-append}
use Rattle.std.specs.List.{AllByRecursion}
use Rattle.acq_link.proofs.FramesInOrder.{taken_none}
use Rattle.acq_rounds.specs.Acts.{Act, Connection, Distinct, Follows, HasOf, IsAmong, IsOther}
use Rattle.acq_rounds.specs.Acts.{Serves, Taken, numbers, told_of, turns_of}
use Rattle.acq_rounds.specs.Groups.{acts_in, asked, handed}
use Rattle.acq_rounds.specs.Moves.{AllGoOn}
use Rattle.acq_rounds.specs.declared.stage.Stage.TheVariants.{Listening}
use Rattle.acq_rounds.proofs.Acting.{Others, follows_others, taken_other}
use Rattle.acq_rounds.proofs.Grouping.{acts_among, follow_group, handed_numbers}
use Rattle.acq_rounds.proofs.Lists.{all-append, all_both, all_right, all_weaker}
use Rattle.acq_rounds.proofs.Lists.{all_without, among_left, among_right, among_without, below_or}
use Rattle.acq_rounds.proofs.Lists.{distinct_apart, distinct_more, distinct_push}
use Rattle.acq_rounds.proofs.Lists.{distinct_without, either_more, not_below}

-- a group was taken
pub serves_group : (acts : List Act) (ended here : List Connection) (count : ℕ)
    (taken : List Taken) → turns_of taken ≡ asked here → Serves acts ended here count →
    Serves (acts ++ acts_in here taken) ended (handed here (told_of taken)) count
serves_group acts ended here count taken is s =
    let now = handed here (told_of taken) in
    let same = sym (handed_numbers here (told_of taken)) in
    let more = acts_in here taken in
    record {
      ended_follow = all_both (Follows acts) (λ e. IsOther e.number (numbers here))
          (Follows (acts ++ more)) ended
          (λ e f o. follows_others e acts more (acts_among (λ j. j ≢ e.number) here taken o) f)
          s.ended_follow s.apart;
      here_follow = follow_group here taken acts is s.distinct s.here_follow;
      distinct = subst Distinct same s.distinct;
      apart = subst (λ (l : List ℕ). AllByRecursion (λ e. IsOther e.number l) ended) same s.apart;
      ended_distinct = s.ended_distinct;
      ended_below = s.ended_below;
      below = subst (AllByRecursion (λ k. k < count)) same s.below;
      each = λ k l. either_more (IsAmong k (numbers ended)) (IsAmong k (numbers here))
          (IsAmong k (numbers now)) (λ q. subst (IsAmong k) same q) (s.each k l);
      known = all-append (λ a. a.connection < count) acts more s.known
          (acts_among (λ k. k < count) here taken s.below);
    }

-- bytes came, or went
pub serves_on : (acts : List Act) (ended old new : List Connection) (count : ℕ) →
    AllGoOn old new → Serves acts ended old count → Serves acts ended new count
serves_on acts ended old new count on s =
    let same = sym on.same in
    record {
      ended_follow = s.ended_follow;
      here_follow = on.follow acts s.here_follow;
      distinct = subst Distinct same s.distinct;
      apart = subst (λ (l : List ℕ). AllByRecursion (λ e. IsOther e.number l) ended) same s.apart;
      ended_distinct = s.ended_distinct;
      ended_below = s.ended_below;
      below = subst (AllByRecursion (λ k. k < count)) same s.below;
      known = s.known;
      each = λ k l. either_more (IsAmong k (numbers ended)) (IsAmong k (numbers old))
          (IsAmong k (numbers new)) (λ q. subst (IsAmong k) same q) (s.each k l);
    }

-- ---- a connection ends

others_ended : (x : ℕ) (ended : List Connection) → AllByRecursion (λ e. x ≢ e.number) ended →
    AllByRecursion (λ k. x ≢ k) (numbers ended)
others_ended x [] h = tt
others_ended x (e ∷ ended) h = (h.0, others_ended x ended h.1)

less_among : (k : ℕ) (ended xs : List Connection) (x : Connection) (ys : List Connection) →
    IsAmong k (numbers ended) ⊎ IsAmong k (numbers (xs ++ x ∷ ys)) →
    IsAmong k (numbers (ended ++ x ∷ [])) ⊎ IsAmong k (numbers (xs ++ ys))
less_among k ended xs x ys (inl q) = inl (among_left k ended (x ∷ []) q)
less_among k ended xs x ys (inr q) = either (among_without k xs x ys q) where
  either : (x.number ≡ k) ⊎ IsAmong k (numbers (xs ++ ys)) →
      IsAmong k (numbers (ended ++ x ∷ [])) ⊎ IsAmong k (numbers (xs ++ ys))
  either (inl e) = inl (among_right k ended (x ∷ []) (inl e))
  either (inr p) = inr p

pub serves_less : (acts : List Act) (ended xs : List Connection) (x : Connection)
    (ys : List Connection) (count : ℕ) → Serves acts ended (xs ++ x ∷ ys) count →
    Serves acts (ended ++ x ∷ []) (xs ++ ys) count
serves_less acts ended xs x ys count s =
    let number : Connection → ℕ = λ c. c.number in
    let was : numbers (xs ++ x ∷ ys) ≡ numbers xs ++ x.number ∷ numbers ys =
    map-append number xs (x ∷ ys) in
    let is : numbers (xs ++ ys) ≡ numbers xs ++ numbers ys = map-append number xs ys in
    let distinct : Distinct (numbers xs ++ x.number ∷ numbers ys) = subst Distinct was s.distinct in
    let below : AllByRecursion (λ k. k < count) (numbers xs ++ x.number ∷ numbers ys) =
    subst (AllByRecursion (λ k. k < count)) was s.below in
    record {
      ended_follow = all-append (Follows acts) ended (x ∷ []) s.ended_follow
          ((all_right (Follows acts) xs (x ∷ ys) s.here_follow).0, tt);
      here_follow = all_without (Follows acts) xs x ys s.here_follow;
      distinct = subst Distinct (sym is)
          (distinct_without (numbers xs) x.number (numbers ys) distinct);
      apart = all-append (λ e. IsOther e.number (numbers (xs ++ ys))) ended (x ∷ [])
          (all_weaker (λ e. IsOther e.number (numbers (xs ++ x ∷ ys)))
          (λ e. IsOther e.number (numbers (xs ++ ys))) ended
          (λ e o. subst (IsOther e.number) (sym is)
          (all_without (λ j. j ≢ e.number) (numbers xs) x.number (numbers ys)
          (subst (IsOther e.number) was o))) s.apart) (
            subst (IsOther x.number) (sym is)
                (distinct_apart (numbers xs) x.number (numbers ys) distinct),
            tt,
          );
      ended_distinct = subst Distinct (sym (map-append number ended (x ∷ [])))
          (distinct_more (numbers ended) x.number s.ended_distinct
          (others_ended x.number ended
          (all_weaker (λ e. IsOther e.number (numbers (xs ++ x ∷ ys)))
          (λ e. x.number ≢ e.number) ended
          (λ e o. (all_right (λ j. j ≢ e.number) (numbers xs) (x.number ∷ numbers ys)
          (subst (IsOther e.number) was o)).0) s.apart)));
      ended_below = all-append (λ c. c.number < count) ended (x ∷ []) s.ended_below
          ((all_right (λ k. k < count) (numbers xs) (x.number ∷ numbers ys) below).0, tt);
      below = subst (AllByRecursion (λ k. k < count)) (sym is)
          (all_without (λ k. k < count) (numbers xs) x.number (numbers ys) below);
      known = s.known;
      each = λ k l. less_among k ended xs x ys (s.each k l);
    }

-- ---- a connection comes

abbrev pub fresh : ℕ → Connection
fresh count =
    record { number = count; came = []; held = []; went = []; unsent = []; stage = Listening }

below_others : (count : ℕ) (acts : List Act) → AllByRecursion (λ a. a.connection < count) acts →
    Others count acts
below_others count [] h = tt
below_others count (a ∷ acts) h =
    ((λ e. not_below a.connection count h.0 e), below_others count acts h.1)

more_among : (k count : ℕ) (ended here : List Connection) → (k < count) ⊎ (count ≡ k) →
    ((j : ℕ) → j < count → IsAmong j (numbers ended) ⊎ IsAmong j (numbers here)) →
    IsAmong k (numbers ended) ⊎ IsAmong k (numbers (here ++ fresh count ∷ []))
more_among k count ended here (inl l) h =
    either_more (IsAmong k (numbers ended)) (IsAmong k (numbers here))
    (IsAmong k (numbers (here ++ fresh count ∷ []))) (among_left k here (fresh count ∷ [])) (h k l)
more_among k count ended here (inr e) h = inr (among_right k here (fresh count ∷ []) (inl e))

-- nothing has passed over it, and no act is its own
follows_fresh : (count : ℕ) (acts : List Act) → Others count acts → Follows acts (fresh count)
follows_fresh count acts others = subst (λ (l : List Taken). HasOf l (fresh count))
    (sym (taken_other count acts others))
    (record { came = taken_none []; written = refl; turns = refl })

pub serves_more : (acts : List Act) (ended here : List Connection) (count : ℕ) →
    Serves acts ended here count → Serves acts ended (here ++ fresh count ∷ []) (count + 1)
serves_more acts ended here count s =
    let is : numbers (here ++ fresh count ∷ []) ≡ numbers here ++ count ∷ [] =
    map-append (λ (c : Connection). c.number) here (fresh count ∷ []) in
    let up : (k : ℕ) → k < count → k < count + 1 = λ k l. omega (arith, l) in
    record {
      ended_follow = s.ended_follow;
      here_follow = all-append (Follows acts) here (fresh count ∷ []) s.here_follow
          (follows_fresh count acts (below_others count acts s.known), tt);
      distinct = subst Distinct (sym is) (distinct_push (numbers here) count s.distinct s.below);
      apart = all_both (λ e. IsOther e.number (numbers here)) (λ e. e.number < count)
          (λ e. IsOther e.number (numbers (here ++ fresh count ∷ []))) ended
          (λ e o l. subst (IsOther e.number) (sym is)
          (all-append (λ j. j ≢ e.number) (numbers here) (count ∷ []) o
          ((λ q. not_below e.number count l (sym q)), tt))) s.apart s.ended_below;
      ended_distinct = s.ended_distinct;
      ended_below = all_weaker (λ c. c.number < count) (λ c. c.number < count + 1) ended
          (λ c. up c.number) s.ended_below;
      below = subst (AllByRecursion (λ k. k < count + 1)) (sym is)
          (all-append (λ k. k < count + 1) (numbers here) (count ∷ [])
          (all_weaker (λ k. k < count) (λ k. k < count + 1) (numbers here) up s.below)
          (omega arith, tt));
      known = all_weaker (λ a. a.connection < count) (λ a. a.connection < count + 1) acts
          (λ a. up a.connection) s.known;
      each = λ k l. more_among k count ended here (below_or k count l) s.each;
    }

no_less : (k : ℕ) → k < 0 → ⊥
no_less k l = omega (arith, l)

serves_none : Serves [] [] [] 0
serves_none = record {
  ended_follow = tt;
  here_follow = tt;
  distinct = tt;
  ended_distinct = tt;
  apart = tt;
  ended_below = tt;
  below = tt;
  known = tt;
  each = λ k l. absurd (no_less k l);
}

pub serves_at_first : (ended here : List Connection) (count : ℕ) → ended ≡ [] → here ≡ [] →
    count ≡ 0 → Serves [] ended here count
serves_at_first ended here count e h n = rw (e, h, n) serves_none

pub serves_last : (acts : List Act) (ended xs : List Connection) (x : Connection) (count : ℕ) →
    Serves acts ended (xs ++ x ∷ []) count → Serves acts (ended ++ x ∷ []) xs count
serves_last acts ended xs x count s =
    subst (λ (l : List Connection). Serves acts (ended ++ x ∷ []) l count) (append-nil xs)
    (serves_less acts ended xs x [] count s)

pub serves_counted : (acts : List Act) (ended here : List Connection) (count now : ℕ) →
    now ≡ count → Serves acts ended here count → Serves acts ended here now
serves_counted acts ended here count now is s = subst (Serves acts ended here) (sym is) s

pub serves_as : (acts : List Act) (ended now here there : List Connection) (count : ℕ) →
    now ≡ ended → there ≡ here → Serves acts ended here count → Serves acts now there count
serves_as acts ended now here there count e h s =
    subst (λ (l : List Connection). Serves acts l there count) (sym e)
    (subst (λ (l : List Connection). Serves acts ended l count) (sym h) s)
