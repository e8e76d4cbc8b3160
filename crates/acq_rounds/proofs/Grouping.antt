-- A group of acts, and what each connection has of it.
use Rattle.std.proofs.Common.{◌≡◌, ◌≢◌, ℕ, Bool, true, false, List, [], ◌∷◌, ◌++◌}
use Rattle.std.proofs.Common.{cond, refl, sym, ap, subst, ◌∙◌, append_assoc, append-nil}
use Rattle.std.specs.List.{AllByRecursion}
use Rattle.acq_rounds.specs.Acts.{Act, Connection, Distinct, Follows, IsOther, Taken, Told, Turn}
use Rattle.acq_rounds.specs.Acts.{numbers, taken_by, taken_of, told_in, told_of, turns_of}
use Rattle.acq_rounds.specs.Groups.{acts_in, answered, asked, handed, is_ready, ready_turn, turn_of}
use Rattle.acq_rounds.proofs.Acting.{act, follows_others, follows_took, taken_other}
use Rattle.acq_rounds.proofs.Lists.{differs, same}

-- the acts of a group are of those that were ready
pub acts_among : (P : ℕ → Type 0) (cs : List Connection) (taken : List Taken) →
    AllByRecursion P (numbers cs) → AllByRecursion (λ a. P a.connection) (acts_in cs taken)
acts_among P [] taken h = tt
acts_among P (c ∷ cs) [] h = tt
acts_among P (c ∷ cs) (x ∷ taken) h =
    either (is_ready c) (acts_among P cs taken h.1) (acts_among P cs (x ∷ taken) h.1) where
      either : (b : Bool) → AllByRecursion (λ a. P a.connection) (acts_in cs taken) →
          AllByRecursion (λ a. P a.connection) (acts_in cs (x ∷ taken)) →
          AllByRecursion (λ a. P a.connection)
          (cond b (act c x ∷ acts_in cs taken) (acts_in cs (x ∷ taken)))
      either true one none = (h.0, one)
      either false one none = none

-- the connections are the same ones
pub handed_numbers : (cs : List Connection) (said : List Told) →
    numbers (handed cs said) ≡ numbers cs
handed_numbers [] said = refl
handed_numbers (c ∷ cs) [] = refl
handed_numbers (c ∷ cs) (r ∷ said) =
    either (is_ready c) (handed_numbers cs said) (handed_numbers cs (r ∷ said)) where
      either : (b : Bool) → numbers (handed cs said) ≡ numbers cs →
          numbers (handed cs (r ∷ said)) ≡ numbers cs →
          numbers (cond b (answered c r ∷ handed cs said) (c ∷ handed cs (r ∷ said)))
          ≡ c.number ∷ numbers cs
      either true one none = ap (λ (l : List ℕ). c.number ∷ l) one
      either false one none = ap (λ (l : List ℕ). c.number ∷ l) none

-- one act of another
others_all : (cs : List Connection) (acts : List Act) (a : Act) →
    IsOther a.connection (numbers cs) → AllByRecursion (Follows acts) cs →
    AllByRecursion (Follows (acts ++ a ∷ [])) cs
others_all [] acts a h f = tt
others_all (c ∷ cs) acts a h f = (
  follows_others c acts (a ∷ []) ((λ e. h.0 (sym e)), tt) f.0,
  others_all cs acts a h.1 f.1,
)

-- nothing was taken, and so nothing asked
none_taken : (c : Connection) (cs : List Connection) (b : Bool) →
    [] ≡ cond b (turn_of c ∷ asked cs) (asked cs) → (b ≡ false) × ([] ≡ asked cs)
none_taken c cs true e = absurd (bad e) where
  bad : [] ≡ turn_of c ∷ asked cs → ⊥
  bad e = cc
none_taken c cs false e = (refl, e)

-- the first that was taken is of the first that was ready
first_is : (x : Taken) (taken : List Taken) (m : Turn) (ms : List Turn) →
    x.turn ∷ turns_of taken ≡ m ∷ ms → (x.turn ≡ m) × (turns_of taken ≡ ms)
first_is x taken m ms e = (cc, cc)

-- all connections follow the longer list
pub follow_group : (cs : List Connection) (taken : List Taken) (acts : List Act) →
    turns_of taken ≡ asked cs → Distinct (numbers cs) → AllByRecursion (Follows acts) cs →
    AllByRecursion (Follows (acts ++ acts_in cs taken)) (handed cs (told_of taken))
follow_group [] taken acts is d f = tt
follow_group (c ∷ cs) [] acts is d f =
    subst (λ (l : List Act). AllByRecursion (Follows l) (c ∷ cs)) (sym (append-nil acts)) f
follow_group (c ∷ cs) (x ∷ taken) acts is d f =
    either (is_ready c) refl is
    (λ e. follow_group cs taken (acts ++ act c x ∷ []) e d.1 (others_all cs acts (act c x) d.0 f.1))
    (λ e. follow_group cs (x ∷ taken) acts e d.1 f.1) where
      either : (b : Bool) → is_ready c ≡ b →
          turns_of (x ∷ taken) ≡ cond b (turn_of c ∷ asked cs) (asked cs) →
          (turns_of taken ≡ asked cs →
          AllByRecursion (Follows ((acts ++ act c x ∷ []) ++ acts_in cs taken))
          (handed cs (told_of taken))) →
          (turns_of (x ∷ taken) ≡ asked cs →
          AllByRecursion (Follows (acts ++ acts_in cs (x ∷ taken)))
          (handed cs (told_of (x ∷ taken)))) →
          AllByRecursion
          (Follows (acts ++ cond b (act c x ∷ acts_in cs taken) (acts_in cs (x ∷ taken))))
          (cond b (answered c (told_in x) ∷ handed cs (told_of taken))
          (c ∷ handed cs (told_of (x ∷ taken))))
      either true on is one none =
          let heads = first_is x taken (turn_of c) (asked cs) is in
          subst (λ (l : List Act). AllByRecursion (Follows l)
          (answered c (told_in x) ∷ handed cs (told_of taken)))
          (append_assoc acts (act c x ∷ []) (acts_in cs taken)) (
            follows_others (answered c (told_in x)) (acts ++ act c x ∷ []) (acts_in cs taken)
                (acts_among (λ j. j ≢ c.number) cs taken d.0)
                (follows_took c acts x on heads.0 f.0),
            one heads.1,
          )
      either false off is one none = (
        follows_others c acts (acts_in cs (x ∷ taken))
            (acts_among (λ j. j ≢ c.number) cs (x ∷ taken) d.0) f.0,
        none is,
      )

-- the acts of a group are what was taken
pub taken_group : (cs : List Connection) (taken : List Taken) → turns_of taken ≡ asked cs →
    taken_of (acts_in cs taken) ≡ taken
taken_group [] [] is = refl
taken_group [] (x ∷ taken) is = absurd (bad is) where
  bad : turns_of (x ∷ taken) ≡ [] → ⊥
  bad is = cc
taken_group (c ∷ cs) [] is = refl
taken_group (c ∷ cs) (x ∷ taken) is =
    either (is_ready c) is (taken_group cs taken) (taken_group cs (x ∷ taken)) where
      either : (b : Bool) →
          turns_of (x ∷ taken) ≡ cond b (turn_of c ∷ asked cs) (asked cs) →
          (turns_of taken ≡ asked cs → taken_of (acts_in cs taken) ≡ taken) →
          (turns_of (x ∷ taken) ≡ asked cs →
          taken_of (acts_in cs (x ∷ taken)) ≡ x ∷ taken) →
          taken_of (cond b (act c x ∷ acts_in cs taken) (acts_in cs (x ∷ taken))) ≡ x ∷ taken
      either true is one none =
          ap (λ (l : List Taken). x ∷ l)
          (one (first_is x taken (turn_of c) (asked cs) is).1)
      either false is one none = none is

-- ---- what each has of a group

abbrev pub HasIts : List Act → Connection → Type 0
HasIts acts c = turns_of (taken_by c.number acts) ≡ ready_turn c

-- one act more of another
its_other : (cs : List Connection) (a : Act) (acts : List Act) →
    IsOther a.connection (numbers cs) → AllByRecursion (HasIts acts) cs →
    AllByRecursion (HasIts (a ∷ acts)) cs
its_other [] a acts o h = tt
its_other (c ∷ cs) a acts o h = (
  ap (λ (b : Bool). turns_of (cond b (a.taken ∷ []) [] ++ taken_by c.number acts))
      (differs a.connection c.number (λ e. o.0 (sym e))) ∙ h.0,
  its_other cs a acts o.1 h.1,
)

none_asked : (cs : List Connection) → [] ≡ asked cs → AllByRecursion (HasIts []) cs
none_asked [] e = tt
none_asked (c ∷ cs) e =
    let none = none_taken c cs (is_ready c) e in (
      sym (ap (λ b. cond b (turn_of c ∷ []) []) none.0),
      none_asked cs none.1,
    )

-- each that is ready has its own turn, and no other has one
pub each_has_its : (cs : List Connection) (taken : List Taken) → Distinct (numbers cs) →
    turns_of taken ≡ asked cs → AllByRecursion (HasIts (acts_in cs taken)) cs
each_has_its [] taken d is = tt
each_has_its (c ∷ cs) [] d is = none_asked (c ∷ cs) is
each_has_its (c ∷ cs) (x ∷ taken) d is =
    either (is_ready c) refl is (each_has_its cs taken d.1) (each_has_its cs (x ∷ taken) d.1) where
      either : (b : Bool) → is_ready c ≡ b →
          turns_of (x ∷ taken) ≡ cond b (turn_of c ∷ asked cs) (asked cs) →
          (turns_of taken ≡ asked cs → AllByRecursion (HasIts (acts_in cs taken)) cs) →
          (turns_of (x ∷ taken) ≡ asked cs →
          AllByRecursion (HasIts (acts_in cs (x ∷ taken))) cs) →
          AllByRecursion (HasIts (cond b (act c x ∷ acts_in cs taken) (acts_in cs (x ∷ taken))))
          (c ∷ cs)
      either true on is one none =
          let heads = first_is x taken (turn_of c) (asked cs) is in (
            ap (λ b. turns_of (cond b (x ∷ []) [] ++ taken_by c.number (acts_in cs taken)))
                (same c.number)
                ∙ ap (λ (l : List Taken). x.turn ∷ turns_of l)
                (taken_other c.number (acts_in cs taken)
                (acts_among (λ j. j ≢ c.number) cs taken d.0))
                ∙ ap (λ (m : Turn). m ∷ []) heads.0
                ∙ sym (ap (λ b. cond b (turn_of c ∷ []) []) on),
            its_other cs (act c x) (acts_in cs taken) d.0 (one heads.1),
          )
      either false off is one none = (
        ap turns_of (taken_other c.number (acts_in cs (x ∷ taken))
            (acts_among (λ j. j ≢ c.number) cs (x ∷ taken) d.0))
            ∙ sym (ap (λ b. cond b (turn_of c ∷ []) []) off),
        none is,
      )
