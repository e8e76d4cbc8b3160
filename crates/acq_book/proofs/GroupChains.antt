-- Calls within a group, one after another.
use Rattle.std.proofs.Common.{◌≡◌, ℕ, Bool, true, false, true≢false, ◌∙◌, refl, sym, subst}
use Rattle.std.proofs.Common.{is_ok, IfOk}
use Rattle.std.specs.Prelude.{Result, Ok, Err}
use Rattle.acq_core.specs.Tables.{Tables}
use Rattle.acq_book.specs.declared.book_fault.BookFault.{BookFault}
use Rattle.acq_book.specs.Groups.{GivesWithinBy, LooksWithinBy, MakesWithinBy}

module _ {S : Type 0} (tables : S → Tables) (is_honest : S → Type 0)
    (is_within can_return : S → Tables → ℕ → Type 0) where
  abbrev Looks : S → S → Bool → Type 0
  Looks = LooksWithinBy tables is_honest is_within can_return

  abbrev Gives : {T : Type 0} → S → S → Result T BookFault → (T → Type 0) → Type 0
  Gives = GivesWithinBy tables is_honest is_within can_return

  -- nothing is looked up
  pub unlooked_within : (a : S) → Looks a a true
  unlooked_within a = record {
    was_within = λ began n s w. (n, w);
    stays = λ began n s h w. w;
    same = λ began n s w. refl;
    breaks = λ began n s h w. absurd (true≢false s);
  }

  -- a look-up that succeeded, and what was looked up then
  pub looks_within_more : (a b c : S) (succeeded : Bool) → (is_honest c → is_honest b) →
      Looks a b true → Looks b c succeeded → Looks a c succeeded
  looks_within_more a b c succeeded was first second = record {
    was_within = λ began n s w.
        let mid = second.was_within began n s w in first.was_within began mid.0 refl mid.1;
    stays = λ began n s h w. second.stays began n s h (first.stays began n refl (was h) w);
    same = λ began n s w.
        let mid = second.was_within began n s w in
        second.same began n s w ∙ first.same began mid.0 refl mid.1;
    breaks = λ began n s h w. second.breaks began n s h (first.stays began n refl (was h) w);
  }

  -- what both gave
  pub gives_within_then : {X Y : Type 0} {a b c : S} {x : X} {P : X → Type 0}
      {result : Result Y BookFault} (Q : Tables → Y → Type 0) → (is_honest c → is_honest b) →
      Gives {T = X} a b (Ok x) P → Gives b c result (Q (tables b)) →
      Gives a c result (λ y. P x × Q (tables a) y)
  gives_within_then {X} {Y} {a} {b} {c} {x} {P} {result} Q was first second = record {
    value = λ began n w. both result (second.looks.was_within began n) w (second.value began n w);
    looks = looks_within_more a b c (is_ok result) was first.looks second.looks;
  }
    where
      both : {began : Tables} {n : ℕ} (r : Result Y BookFault) →
          (is_ok r ≡ true → is_within c began n → ((m : ℕ) × is_within b began m)) →
          is_within c began n → IfOk r (Q (tables b)) → IfOk r (λ y. P x × Q (tables a) y)
      both {began} {n} (Ok y) back w q =
          let mid = back refl w in (
            first.value began mid.0 mid.1,
            subst (λ t. Q t y) (first.looks.same began mid.0 refl mid.1) q,
          )
      both (Err fault) back w q = tt

  -- what is said in other words
  pub gives_within_as : {T : Type 0} {a b : S} {result : Result T BookFault} {P Q : T → Type 0} →
      Gives a b result P → (IfOk result P → IfOk result Q) → Gives a b result Q
  gives_within_as said other = record {
    value = λ began n w. other (said.value began n w);
    looks = said.looks;
  }

  -- a fault that is passed on
  pub gives_within_fault : {X Y : Type 0} {a b : S} (fault : BookFault) {P : X → Type 0}
      (Q : Y → Type 0) → Gives {T = X} a b (Err fault) P → Gives {T = Y} a b (Err fault) Q
  gives_within_fault fault Q said = record {
    value = λ began n w. tt;
    looks = said.looks;
  }

  -- ---- changes

  module _ (may_leave : S → Tables → Type 0) (leaves_books : S → Type 0) where
    abbrev Makes : S → S → Bool → Tables → Type 0
    Makes = MakesWithinBy tables is_honest is_within can_return may_leave leaves_books

    -- look-ups that succeeded, and a change then
    pub makes_within_after : (a b c : S) (succeeded : Bool) (made changed : Tables) →
        ((began : Tables) (n : ℕ) → is_within b began n → made ≡ changed) →
        (is_honest c → is_honest b) →
        (is_honest b → (t : Tables) → may_leave b t → may_leave a t) →
        (is_honest b → leaves_books a → leaves_books b) →
        Looks a b true → Makes b c succeeded made → Makes a c succeeded changed
    makes_within_after a b c succeeded made changed same was left books first second = record {
      stays = λ began n s h w. second.stays began n s h (first.stays began n refl (was h) w);
      made = λ began n s h w.
          let between = first.stays began n refl (was h) w in
          second.made began n s h between ∙ same began n between;
      breaks = λ began n s h w. second.breaks began n s h (first.stays began n refl (was h) w);
      leaves = λ began n h w t l.
          left (was h) t (second.leaves began n h (first.stays began n refl (was h) w) t l);
      books = λ began n h w b.
          second.books began n h (first.stays began n refl (was h) w) (books (was h) b);
    }

    -- a look-up that failed makes none
    pub looks_make_nothing : (a b : S) (changed : Tables) →
        (is_honest b → (t : Tables) → may_leave b t → may_leave a t) →
        (is_honest b → leaves_books a → leaves_books b) → Looks a b false →
        Makes a b false changed
    looks_make_nothing a b changed left books looks = record {
      stays = λ began n s h w. absurd (true≢false (sym s));
      made = λ began n s h w. absurd (true≢false (sym s));
      breaks = looks.breaks;
      leaves = λ began n h w. left h;
      books = λ began n h w. books h;
    }
