-- Look-ups, one after another.
use Rattle.std.proofs.Common.{◌≡◌, ℕ, ◌≤◌, Bool, true, inl, inr, ⊎_elim, ◌∙◌, refl, subst, arith}
use Rattle.std.proofs.Common.{is_ok, IfOk}
use Rattle.std.specs.Prelude.{Result, Ok, Err}
use Rattle.acq_core.specs.Tables.{Tables}
use Rattle.acq_book.specs.declared.book_fault.BookFault.{BookFault}
use Rattle.acq_book.specs.declared.book_fault.BookFault.TheVariants.{Memory, Store}
use Rattle.acq_book.specs.Promise.{BlamesStore, CountsFault, GivesBy, HasRisen, LooksBy}

-- a count that rose last has risen from where it began
pub risen_after : {a b c : ℕ} → a ≤ b → b ≤ c → HasRisen b c → HasRisen a c
risen_after up on risen = grind arith

-- what a call counts after calls that left the count as it was
pub counts_more : {T : Type 0} (result : Result T BookFault) {a b : ℕ} (c : ℕ) → b ≡ a →
    CountsFault result b c → CountsFault result a c
counts_more result c same counts = subst (λ n. CountsFault result n c) same counts

-- a look-up that succeeded, and what was looked up then
pub looks_more : {S : Type 0} (tables : S → Tables) (is_honest is_open : S → Type 0)
    (may_leave : S → Tables → Type 0) (leaves_books : S → Type 0) (failures store_faults : S → ℕ)
    (a b c : S) (succeeded : Bool) →
    LooksBy tables is_honest is_open may_leave leaves_books failures store_faults a b true →
    LooksBy tables is_honest is_open may_leave leaves_books failures store_faults b c succeeded →
    LooksBy tables is_honest is_open may_leave leaves_books failures store_faults a c succeeded
looks_more tables is_honest is_open may_leave leaves_books failures store_faults a b c succeeded
    first second = record {
      was_honest = λ h. first.was_honest (second.was_honest h);
      was_open = λ o. first.was_open (second.was_open o);
      stays_open = λ s h o. second.stays_open s h (first.stays_open refl (second.was_honest h) o);
      shuts = λ h o.
          ⊎_elim inl (λ risen. inr (risen_after first.counts second.counts risen))
          (second.shuts h (first.stays_open refl (second.was_honest h) o));
      same = λ o. second.same o ∙ first.same (second.was_open o);
      leaves = λ h t l. first.leaves (second.was_honest h) t (second.leaves h t l);
      books = λ h b. second.books h (first.books (second.was_honest h) b);
      rise = omega arith;
      counts = omega arith;
    }

-- ---- what they give

-- what a fault blames after calls that met none
blames_more : {T : Type 0} (result : Result T BookFault) {a b c : ℕ} → a ≤ b → b ≤ c →
    BlamesStore result b c → BlamesStore result a c
blames_more (Ok x) up on blames = tt
blames_more (Err Memory) up on blames = tt
blames_more (Err Store) up on risen = risen_after up on risen

module _ {S : Type 0} (tables : S → Tables) (is_honest is_open : S → Type 0)
    (may_leave : S → Tables → Type 0) (leaves_books : S → Type 0) (failures store_faults : S → ℕ)
    (has_room : S → Type 0) where
  abbrev Gives : {T : Type 0} → S → S → Result T BookFault → (T → Type 0) → Type 0
  Gives a b result says =
      GivesBy tables is_honest is_open may_leave leaves_books failures store_faults has_room a b
      result says

  -- a look-up that succeeded, and what was looked up then: what is said of the tables between is
  -- said of those before
  pub gives_then : {X Y : Type 0} {a b c : S} {x : X} {P : X → Type 0}
      {result : Result Y BookFault} (Q : Tables → Y → Type 0) → Gives {T = X} a b (Ok x) P →
      Gives b c result (Q (tables b)) → Gives a c result (λ y. P x × Q (tables a) y)
  gives_then {a = a} {b = b} {c = c} {x = x} {P = P} {result = result} Q first second = record {
    value = λ o.
        let between = second.looks.was_open o in
        both result (first.value between)
        (subst (λ t. IfOk result (Q t)) (first.looks.same between) (second.value o));
    looks = looks_more tables is_honest is_open may_leave leaves_books failures store_faults a b c
        (is_ok result) first.looks second.looks;
    store = counts_more result (failures c) first.store second.store;
    blames = λ h o room.
        let was = second.looks.was_honest h in
        let between = first.looks.stays_open refl was o in
        blames_more result first.looks.counts second.looks.counts
        (second.blames h between (first.room between room));
    room = λ o room. second.room o (first.room (second.looks.was_open o) room);
  }
    where
      both : (r : Result _ BookFault) → P x → IfOk r (Q (tables a)) →
          IfOk r (λ y. P x × Q (tables a) y)
      both (Ok y) p q = (p, q)
      both (Err fault) p q = tt

  -- what is said in other words
  pub gives_as : {T : Type 0} {a b : S} {result : Result T BookFault} {P Q : T → Type 0} →
      Gives a b result P → (IfOk result P → IfOk result Q) → Gives a b result Q
  gives_as said other = record {
    value = λ o. other (said.value o);
    looks = said.looks;
    store = said.store;
    blames = said.blames;
    room = said.room;
  }

  -- a fault that is passed on
  pub gives_fault : {X Y : Type 0} {a b : S} (fault : BookFault) {P : X → Type 0}
      (Q : Y → Type 0) → Gives {T = X} a b (Err fault) P → Gives {T = Y} a b (Err fault) Q
  gives_fault {X = X} {Y = Y} fault Q said = record {
    value = λ o. tt;
    looks = said.looks;
    store = counted fault _ _ said.store;
    blames = λ h o room. blamed fault _ _ (said.blames h o room);
    room = said.room;
  }
    where
      counted : (f : BookFault) (m n : ℕ) → CountsFault {T = X} (Err f) m n →
          CountsFault {T = Y} (Err f) m n
      counted Memory m n is = is
      counted Store m n is = is

      blamed : (f : BookFault) (m n : ℕ) → BlamesStore {T = X} (Err f) m n →
          BlamesStore {T = Y} (Err f) m n
      blamed Memory m n is = is
      blamed Store m n is = is
