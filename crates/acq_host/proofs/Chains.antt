-- Look-ups, one after another, and a change after them.
use Rattle.std.proofs.Common.{◌≡◌, ℕ, Bool, true, false, true≢false, inl, inr, ⊎_elim, ◌∙◌, refl}
use Rattle.std.proofs.Common.{sym, arith, is_ok, IfOk, Result, Ok, Err}
use Rattle.acq_core.specs.Tables.{Tables}
use Rattle.acq_book.specs.Calls.{GivesWithin, Looks, MakesWithin}
use Rattle.acq_book.specs.Groups.{LooksWithinBy}
use Rattle.acq_book.specs.declared.book_fault.BookFault.{BookFault}
use Rattle.acq_book.specs.Promise.{LooksBy, MakesBy}
use Rattle.acq_book.specs.declared.book.Book.{Ghosts}
pub use Rattle.acq_book.proofs.Chains.{counts_more, looks_more, risen_after}
pub use Rattle.acq_reports.proofs.Chains.{counts_on}

-- the same in one word
pub looks_then : {S : Type 0} (book : Ghosts S) {a b c : S} {succeeded : Bool} →
    Looks book a b true → Looks book b c succeeded → Looks book a c succeeded
looks_then book {a} {b} {c} {succeeded} =
    looks_more book.tables book.is_honest book.is_open book.may_leave book.leaves_books
    book.failures book.store_faults a b c succeeded

-- look-ups that succeeded, and a change then
pub makes_after : {S : Type 0} (tables : S → Tables) (is_honest is_open : S → Type 0)
    (may_leave : S → Tables → Type 0) (leaves_books : S → Type 0) (failures store_faults : S → ℕ)
    (honest : (s : S) → is_open s → is_honest s) (a b c : S)
    (succeeded : Bool) (made changed : Tables) → (is_open b → made ≡ changed) →
    LooksBy tables is_honest is_open may_leave leaves_books failures store_faults a b true →
    MakesBy tables is_honest is_open may_leave leaves_books failures store_faults b c succeeded
    made →
    MakesBy tables is_honest is_open may_leave leaves_books failures store_faults a c succeeded
    changed
makes_after tables is_honest is_open may_leave leaves_books failures store_faults honest a b c
    succeeded made changed same first second = record {
      was_honest = λ h. first.was_honest (second.was_honest h);
      was_open = λ end. ⊎_elim (λ between. inl (first.was_open between)) inr (second.was_open end);
      stays_open = λ s h o. second.stays_open s h (first.stays_open refl (second.was_honest h) o);
      shuts = λ h o.
          ⊎_elim inl (λ risen. inr (risen_after first.counts second.counts risen))
          (second.shuts h (first.stays_open refl (second.was_honest h) o));
      made = λ s o end.
          let between = first.stays_open refl (second.was_honest (honest c end)) o in
          second.made s between end ∙ same between;
      unmade = λ s o end.
          let between = first.stays_open refl (second.was_honest (honest c end)) o in
          second.unmade s between end ∙ first.same between;
      leaves = λ o h t l.
          let between = first.stays_open refl (second.was_honest h) o in
          ⊎_elim (λ was. inl (first.leaves (second.was_honest h) t was)) (λ is. inr (is ∙ same between))
          (second.leaves between h t l);
      settled = λ s o h t l.
          let between = first.stays_open refl (second.was_honest h) o in
          second.settled s between h t l ∙ same between;
      books = λ o h. second.books (first.stays_open refl (second.was_honest h) o) h;
      rise = omega arith;
      counts = omega arith;
    }

-- two things that are said of what succeeded
pub both_ok : {T E : Type 0} (P Q : T → Type 0) (result : Result T E) → IfOk result P
    → IfOk result Q → IfOk result (λ x. P x × Q x)
both_ok P Q (Ok x) p q = (p, q)
both_ok P Q (Err e) p q = tt

-- ---- within a group

-- it leaves the tables as they are
abbrev pub LooksWithin : {S : Type 0} → Ghosts S → S → S → Bool → Type 0
LooksWithin book = LooksWithinBy book.tables book.is_honest book.is_within book.can_return

-- a group that is open can be given up
abbrev pub Returns : {S : Type 0} → Ghosts S → Type 0
Returns {S} book =
    (s : S) (began : Tables) (faults : ℕ) → book.is_within s began faults
    → book.can_return s began faults

module _ {S : Type 0} (book : Ghosts S) where
  -- look-ups that succeeded, of which nothing was made then
  pub fails_within : {a b : S} → Returns book → LooksWithin book a b true → (succeeded : Bool)
      → LooksWithin book a b succeeded
  fails_within {a} {b} law looks succeeded = record {
    was_within = λ began n s w. looks.was_within began n refl w;
    stays = λ began n s h w. looks.stays began n refl h w;
    same = λ began n s w. looks.same began n refl w;
    breaks = λ began n s h w. law b began n (looks.stays began n refl h w);
  }

  -- where it failed nothing is given
  pub gives_none : {T : Type 0} {a b : S} {says : T → Type 0} (result : Result T BookFault)
      → is_ok result ≡ false → LooksWithin book a b false → GivesWithin book a b result says
  gives_none (Ok x) is looks = absurd (true≢false is)
  gives_none (Err e) is looks = record {
    value = λ began n w. tt;
    looks = looks;
  }

  -- what is decided over a look-up that succeeded
  pub gives_over : {T : Type 0} {a b : S} {says : T → Type 0} (result : Result T BookFault)
      → Returns book → LooksWithin book a b true
      → ((began : Tables) (n : ℕ) → book.is_within b began n → IfOk result says)
      → GivesWithin book a b result says
  gives_over result law looks value = record {
    value = value;
    looks = fails_within law looks (is_ok result);
  }

  -- nothing is made
  pub makes_nothing : (s : S) → MakesWithin book s s true (book.tables s)
  makes_nothing s = record {
    stays = λ began n ok h w. w;
    made = λ began n ok h w. refl;
    breaks = λ began n ok h w. absurd (true≢false ok);
    leaves = λ began n h w t l. l;
    books = λ began n h w b. b;
  }

  -- nothing came of it
  pub unmade_within : (s : S) (changed : Tables) → Returns book → MakesWithin book s s false changed
  unmade_within s changed law = record {
    stays = λ began n ok h w. absurd (true≢false (sym ok));
    made = λ began n ok h w. absurd (true≢false (sym ok));
    breaks = λ began n ok h w. law s began n w;
    leaves = λ began n h w t l. l;
    books = λ began n h w b. b;
  }
