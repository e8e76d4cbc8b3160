-- Connections that stand in another order: one moves from among others to among others.
use Rattle.std.proofs.Common.{◌≡◌, ◌≢◌, ◌⊎◌, ◌<◌, ◌+◌, inl, inr, ℕ, suc, List, [], ◌∷◌, ◌++◌}
use Rattle.std.proofs.Common.{Bool, true, false, cond, map, take, drop, length, get_or, refl, sym, ap, subst}
use Rattle.std.proofs.Common.{◌∙◌, append_assoc, append-nil, take-append-drop, arith}
use Rattle.std.proofs.lemmas.List.{drop_more, map-append}
use Rattle.std.specs.List.{AllByRecursion, remove}
use Rattle.acq_rounds.specs.Acts.{Connection, Distinct, Follows, IsAmong, IsOther, Serves}
use Rattle.acq_rounds.specs.Acts.{Told, Turn, numbers}
use Rattle.acq_rounds.specs.Groups.{answered, asked, handed, is_ready, turn_of}
use Rattle.acq_rounds.specs.Moves.{AllGoOn, GoesOn, Turned}
use Rattle.acq_rounds.specs.Places.{AreQuiet}
use Rattle.acq_rounds.proofs.Lasting.{serves_on}
use Rattle.acq_rounds.proofs.Lists.{all-append, all_left, all_right, all_weaker, all_without}
use Rattle.acq_rounds.proofs.Lists.{among_without, distinct_apart, distinct_without, either_more}

-- ---- one more among others

pub all_insert : {A : Type 0} (P : A → Type 0) (ws : List A) (x : A) (zs : List A) →
    AllByRecursion P (ws ++ zs) → P x → AllByRecursion P (ws ++ x ∷ zs)
all_insert P [] x zs h p = (p, h)
all_insert P (w ∷ ws) x zs h p = (h.0, all_insert P ws x zs h.1 p)

distinct_insert : (ws : List ℕ) (x : ℕ) (zs : List ℕ) → Distinct (ws ++ zs) →
    IsOther x (ws ++ zs) → Distinct (ws ++ x ∷ zs)
distinct_insert [] x zs d o = (o, d)
distinct_insert (w ∷ ws) x zs d o = (
  all_insert (λ j. j ≢ w) ws x zs d.0 (λ e. o.0 (sym e)),
  distinct_insert ws x zs d.1 o.1,
)

among_insert : (k : ℕ) (ws : List Connection) (x : Connection) (zs : List Connection) →
    (x.number ≡ k) ⊎ IsAmong k (numbers (ws ++ zs)) → IsAmong k (numbers (ws ++ x ∷ zs))
among_insert k [] x zs h = h
among_insert k (w ∷ ws) x zs (inl e) = inr (among_insert k ws x zs (inl e))
among_insert k (w ∷ ws) x zs (inr (inl e)) = inl e
among_insert k (w ∷ ws) x zs (inr (inr q)) = inr (among_insert k ws x zs (inr q))

-- ---- one moves

module _ (xs : List Connection) (x : Connection) (ys ws zs : List Connection)
    (others : xs ++ ys ≡ ws ++ zs) where
  abbrev number : Connection → ℕ
  number c = c.number

  was : numbers (xs ++ x ∷ ys) ≡ numbers xs ++ x.number ∷ numbers ys
  was = map-append number xs (x ∷ ys)

  is : numbers (ws ++ x ∷ zs) ≡ numbers ws ++ x.number ∷ numbers zs
  is = map-append number ws (x ∷ zs)

  rest : numbers xs ++ numbers ys ≡ numbers ws ++ numbers zs
  rest = sym (map-append number xs ys) ∙ ap numbers others ∙ map-append number ws zs

  moved : (P : Connection → Type 0) → AllByRecursion P (xs ++ x ∷ ys) →
      AllByRecursion P (ws ++ x ∷ zs)
  moved P h = all_insert P ws x zs (subst (AllByRecursion P) others (all_without P xs x ys h))
      (all_right P xs (x ∷ ys) h).0

  renumbered : (P : ℕ → Type 0) → AllByRecursion P (numbers (xs ++ x ∷ ys)) →
      AllByRecursion P (numbers (ws ++ x ∷ zs))
  renumbered P h =
      let then : AllByRecursion P (numbers xs ++ x.number ∷ numbers ys) =
      subst (AllByRecursion P) was h in
      subst (AllByRecursion P) (sym is)
      (all_insert P (numbers ws) x.number (numbers zs)
      (subst (AllByRecursion P) rest (all_without P (numbers xs) x.number (numbers ys) then))
      (all_right P (numbers xs) (x.number ∷ numbers ys) then).0)

  redistinct : Distinct (numbers (xs ++ x ∷ ys)) → Distinct (numbers (ws ++ x ∷ zs))
  redistinct d =
      let then : Distinct (numbers xs ++ x.number ∷ numbers ys) = subst Distinct was d in
      subst Distinct (sym is)
      (distinct_insert (numbers ws) x.number (numbers zs)
      (subst Distinct rest (distinct_without (numbers xs) x.number (numbers ys) then))
      (subst (IsOther x.number) rest (distinct_apart (numbers xs) x.number (numbers ys) then)))

  still_among : (k : ℕ) → IsAmong k (numbers (xs ++ x ∷ ys)) →
      IsAmong k (numbers (ws ++ x ∷ zs))
  still_among k q = among_insert k ws x zs
      (either_more (x.number ≡ k) (IsAmong k (numbers (xs ++ ys)))
      (IsAmong k (numbers (ws ++ zs)))
      (λ p. subst (λ (l : List Connection). IsAmong k (numbers l)) others p)
      (among_without k xs x ys q))

  pub turned : Turned (xs ++ x ∷ ys) (ws ++ x ∷ zs)
  turned = record {
    serves = λ acts ended count s. record {
      ended_follow = s.ended_follow;
      here_follow = moved (Follows acts) s.here_follow;
      distinct = redistinct s.distinct;
      ended_distinct = s.ended_distinct;
      apart = all_weaker (λ e. IsOther e.number (numbers (xs ++ x ∷ ys)))
          (λ e. IsOther e.number (numbers (ws ++ x ∷ zs))) ended
          (λ e o. renumbered (λ j. j ≢ e.number) o) s.apart;
      ended_below = s.ended_below;
      below = renumbered (λ k. k < count) s.below;
      known = s.known;
      each = λ k l. either_more (IsAmong k (numbers ended))
          (IsAmong k (numbers (xs ++ x ∷ ys))) (IsAmong k (numbers (ws ++ x ∷ zs)))
          (still_among k) (s.each k l);
    };
  }

goes_on_among : (front : List Connection) (x y : Connection) (behind : List Connection) →
    GoesOn x y → AllGoOn (front ++ x ∷ behind) (front ++ y ∷ behind)
goes_on_among [] x y behind on = record {
  same = ap (λ k. k ∷ numbers behind) on.same;
  follow = λ acts f. (on.follows acts f.0, f.1);
}
goes_on_among (z ∷ front) x y behind on =
    let rest = goes_on_among front x y behind on in
    record {
      same = ap (λ (l : List ℕ). z.number ∷ l) rest.same;
      follow = λ acts f. (f.0, rest.follow acts f.1);
    }

pub turned_same : (cs ds : List Connection) → ds ≡ cs → Turned cs ds
turned_same cs ds is = record {
  serves = λ acts ended count s.
      subst (λ (l : List Connection). Serves acts ended l count) (sym is) s;
}

pub turned_both : (cs ds es : List Connection) → Turned cs ds → Turned ds es → Turned cs es
turned_both cs ds es f h = record {
  serves = λ acts ended count s. h.serves acts ended count (f.serves acts ended count s);
}

-- one among others goes on
pub turned_on : (front : List Connection) (x y : Connection) (behind : List Connection) →
    GoesOn x y → Turned (front ++ x ∷ behind) (front ++ y ∷ behind)
turned_on front x y behind on = record {
  serves = λ acts ended count s. serves_on acts ended (front ++ x ∷ behind) (front ++ y ∷ behind)
      count (goes_on_among front x y behind on) s;
}

-- ---- one of some

module _ {X : Type 0} (view : X → Connection) (ps : List X) (i : ℕ) (d : X) (lt : i < length ps)
  where
    pub parts : map view ps
        ≡ map view (take i ps) ++ view (get_or ps i d) ∷ map view (drop (i + 1) ps)
    parts =
        ap (map view) (sym (take-append-drop i ps)) ∙ map-append view (take i ps) (drop i ps)
        ∙ ap (λ (l : List X). map view (take i ps) ++ map view l) (drop_more ps i d lt)

    pub without : map view (remove ps i) ≡ map view (take i ps) ++ map view (drop (i + 1) ps)
    without =
        ap (λ n. map view (take i ps ++ drop n ps)) (next_is i)
        ∙ map-append view (take i ps) (drop (i + 1) ps)
      where
        next_is : (i : ℕ) → suc i ≡ i + 1
        next_is i = omega arith

    pub quiet_without : AreQuiet (map view ps) → AreQuiet (map view (remove ps i))
    quiet_without q =
        subst AreQuiet (sym without)
        (all_without (λ c. is_ready c ≡ false) (map view (take i ps)) (view (get_or ps i d))
        (map view (drop (i + 1) ps)) (subst AreQuiet parts q))

    -- it goes from these to the end of those before them
    pub turned_up : (us : List X) (y : X) → view y ≡ view (get_or ps i d) →
        Turned (map view us ++ map view ps) (map view (us ++ y ∷ []) ++ map view (remove ps i))
    turned_up us y same =
        let front = map view us in
        let before = map view (take i ps) in
        let behind = map view (drop (i + 1) ps) in
        let x = view (get_or ps i d) in
        let now = map view (us ++ y ∷ []) ++ map view (remove ps i) in
        let first : front ++ map view ps ≡ (front ++ before) ++ (x ∷ behind) =
        ap (λ (l : List Connection). front ++ l) parts
        ∙ sym (append_assoc front before (x ∷ behind)) in
        let last : now ≡ front ++ (x ∷ (before ++ behind)) =
        ap (λ (l : List Connection). l ++ map view (remove ps i))
        (map-append view us (y ∷ []) ∙ ap (λ (c : Connection). front ++ (c ∷ [])) same)
        ∙ append_assoc front (x ∷ []) (map view (remove ps i))
        ∙ ap (λ (l : List Connection). front ++ (x ∷ l)) without in
        turned_both (front ++ map view ps) ((front ++ before) ++ (x ∷ behind)) now
        (turned_same (front ++ map view ps) ((front ++ before) ++ (x ∷ behind)) (sym first))
        (turned_both ((front ++ before) ++ (x ∷ behind)) (front ++ (x ∷ (before ++ behind))) now
        (turned (front ++ before) x behind front (before ++ behind)
        (append_assoc front before behind))
        (turned_same (front ++ (x ∷ (before ++ behind))) now last))

    moved_up : (us : List X) (z : X) → map view (us ++ z ∷ []) ++ map view (remove ps i)
        ≡ map view us ++ view z ∷ map view (remove ps i)
    moved_up us z =
        ap (λ (l : List Connection). l ++ map view (remove ps i)) (map-append view us (z ∷ []))
        ∙ append_assoc (map view us) (view z ∷ []) (map view (remove ps i))

    -- so it goes, and goes on
    pub turned_up_on : (us : List X) (y : X) → GoesOn (view (get_or ps i d)) (view y) →
        Turned (map view us ++ map view ps) (map view (us ++ y ∷ []) ++ map view (remove ps i))
    turned_up_on us y on =
        let front = map view us in
        let rest = map view (remove ps i) in
        let x = get_or ps i d in
        let up = map view (us ++ x ∷ []) ++ rest in
        let now = map view (us ++ y ∷ []) ++ rest in
        turned_both (front ++ map view ps) up now (turned_up us x refl)
        (turned_both up (front ++ view x ∷ rest) now
        (turned_same up (front ++ view x ∷ rest) (sym (moved_up us x)))
        (turned_both (front ++ view x ∷ rest) (front ++ view y ∷ rest) now
        (turned_on front (view x) (view y) rest on)
        (turned_same (front ++ view y ∷ rest) now (moved_up us y))))

    -- it goes from these to among those behind them
    pub turned_down : (zs now before behind : List Connection) → zs ≡ before ++ behind →
        now ≡ before ++ (view (get_or ps i d) ∷ behind) →
        Turned (map view ps ++ zs) (map view (remove ps i) ++ now)
    turned_down zs now before behind old new =
        let front = map view (take i ps) in
        let more = map view (drop (i + 1) ps) in
        let x = view (get_or ps i d) in
        let left = map view (remove ps i) in
        let first : map view ps ++ zs ≡ front ++ (x ∷ (more ++ zs)) =
        ap (λ (l : List Connection). l ++ zs) parts ∙ append_assoc front (x ∷ more) zs in
        let last : left ++ now ≡ (left ++ before) ++ (x ∷ behind) =
        ap (λ (l : List Connection). left ++ l) new ∙ sym (append_assoc left before (x ∷ behind)) in
        let others : front ++ (more ++ zs) ≡ (left ++ before) ++ behind =
        sym (append_assoc front more zs) ∙ ap (λ (l : List Connection). l ++ zs) (sym without)
        ∙ ap (λ (l : List Connection). left ++ l) old ∙ sym (append_assoc left before behind) in
        turned_both (map view ps ++ zs) (front ++ (x ∷ (more ++ zs))) (left ++ now)
        (turned_same (map view ps ++ zs) (front ++ (x ∷ (more ++ zs))) (sym first))
        (turned_both (front ++ (x ∷ (more ++ zs))) ((left ++ before) ++ (x ∷ behind)) (left ++ now)
        (turned front x (more ++ zs) (left ++ before) behind others)
        (turned_same ((left ++ before) ++ (x ∷ behind)) (left ++ now) last))

-- ---- those behind have no turn ready

asked_quiet : (zs : List Connection) → AreQuiet zs → asked zs ≡ []
asked_quiet [] q = refl
asked_quiet (z ∷ zs) q =
    ap (λ b. cond b (turn_of z ∷ asked zs) (asked zs)) q.0 ∙ asked_quiet zs q.1

pub asked_awake : (cs zs : List Connection) → AreQuiet zs → asked (cs ++ zs) ≡ asked cs
asked_awake [] zs q = asked_quiet zs q
asked_awake (c ∷ cs) zs q =
    ap (λ (l : List Turn). cond (is_ready c) (turn_of c ∷ l) l)
    (asked_awake cs zs q)

handed_quiet : (zs : List Connection) (said : List Told) → AreQuiet zs →
    handed zs said ≡ zs
handed_quiet [] said q = refl
handed_quiet (z ∷ zs) [] q = refl
handed_quiet (z ∷ zs) (r ∷ said) q =
    ap (λ b. cond b (answered z r ∷ handed zs said) (z ∷ handed zs (r ∷ said))) q.0
    ∙ ap (λ (l : List Connection). z ∷ l) (handed_quiet zs (r ∷ said) q.1)

pub handed_awake : (cs zs : List Connection) (said : List Told) → AreQuiet zs →
    handed (cs ++ zs) said ≡ handed cs said ++ zs
handed_awake [] zs said q = handed_quiet zs said q
handed_awake (c ∷ cs) zs [] q = refl
handed_awake (c ∷ cs) zs (r ∷ said) q =
    either (is_ready c) (handed_awake cs zs said q) (handed_awake cs zs (r ∷ said) q)
  where
    either : (b : Bool) → handed (cs ++ zs) said ≡ handed cs said ++ zs →
        handed (cs ++ zs) (r ∷ said) ≡ handed cs (r ∷ said) ++ zs →
        cond b (answered c r ∷ handed (cs ++ zs) said) (c ∷ handed (cs ++ zs) (r ∷ said))
        ≡ cond b (answered c r ∷ handed cs said) (c ∷ handed cs (r ∷ said)) ++ zs
    either false e f = ap (λ (l : List Connection). c ∷ l) f
    either true e f = ap (λ (l : List Connection). answered c r ∷ l) e

-- ---- those in front go on

pub on_awake : (cs ds zs : List Connection) → AllGoOn cs ds → AllGoOn (cs ++ zs) (ds ++ zs)
on_awake cs ds zs on =
    let number : Connection → ℕ = λ c. c.number in
    record {
      same = map-append number ds zs ∙ ap (λ (l : List ℕ). l ++ numbers zs) on.same
          ∙ sym (map-append number cs zs);
      follow = λ acts f. all-append (Follows acts) ds zs
          (on.follow acts (all_left (Follows acts) cs zs f)) (all_right (Follows acts) cs zs f);
    }

-- one came, to the end of those in front
pub came_awake : (cs zs : List Connection) (c : Connection) →
    Turned ((cs ++ zs) ++ c ∷ []) ((cs ++ c ∷ []) ++ zs)
came_awake cs zs c =
    turned_both ((cs ++ zs) ++ c ∷ []) (cs ++ c ∷ zs) ((cs ++ c ∷ []) ++ zs)
    (turned (cs ++ zs) c [] cs zs (append-nil (cs ++ zs)))
    (turned_same (cs ++ c ∷ zs) ((cs ++ c ∷ []) ++ zs) (append_assoc cs (c ∷ []) zs))
