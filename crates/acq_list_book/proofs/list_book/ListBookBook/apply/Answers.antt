use Rattle.std.proofs.Common.{◌≡◌, ◌∙◌, ◌⊎◌, ℕ, ◌≤◌, inl, inr, refl, sym, ap, subst, true≢false, arith}
use Rattle.acq_core.specs.Pasts.{HasPast}
use Rattle.acq_core.specs.Tables.{Tables, after}
use Rattle.acq_book.specs.Fits.{Fits}
use Rattle.acq_list_book.specs.declared.group.Group.{Group}
use Rattle.acq_list_book.specs.declared.group.Group.TheVariants.{Begun, NotBegun}
use Rattle.acq_list_book.specs.Listed.{Listed, faults_of}
use Rattle.acq_list_book.proofs.list_book.ListBookBook.apply.Goals as goal

-- no group was given up, so the book is open, outside a group or within one
lives : (b : Listed) (t : Tables) (g : Group) → ◌≡◌ {A = Listed} (record { tables = t; group = g }) b →
    (g ≡ NotBegun) ⊎ (g ≡ Begun) → HasPast t →
    ((b.group ≡ NotBegun) × HasPast b.tables)
    ⊎ ((began : Tables) × ((faults : ℕ) × ((b.group ≡ Begun) × ((faults ≡ 0) × HasPast b.tables))))
lives b t g same (inl is) past =
    inl (
      sym (ap (λ (l : Listed). l.group) same) ∙ is,
      subst (λ (l : Listed). HasPast l.tables) same past,
    )
lives b t g same (inr is) past =
    inr (
      t,
      (
        0,
        (
          sym (ap (λ (l : Listed). l.group) same) ∙ is,
          (refl, subst (λ (l : Listed). HasPast l.tables) same past),
        ),
      ),
    )

pub make-requires : goal.make-requires
make-requires c =
    subst (λ (l : Listed). Fits l.tables c.args.change.now) (sym c.self.view_is)
    (c.requires.fits (lives _ _ _ c.self.view_is c.in-NotBegun.is c.self.invariant))

pub invariant_of-self-in-NotBegun : goal.invariant_of-self-in-NotBegun
invariant_of-self-in-NotBegun c =
    subst HasPast
    (sym (c.in_ok-make-in-NotBegun.ensures.ok
    ∙ ap (λ (l : Listed). after l.tables c.args.change.now) c.self.view_is))
    (c.requires.past (lives _ _ _ c.self.view_is c.in-NotBegun.is c.self.invariant))

pub returns-in_ok-make-in-NotBegun : goal.returns-in_ok-make-in-NotBegun
returns-in_ok-make-in-NotBegun c =
    let group : c.self.inside.group ≡ c.args.self.now.group =
    ap (λ (l : Listed). l.group) c.self.view_is in
    let made : c.make.new.self ≡ after c.args.self.now.tables c.args.change.now =
    c.in_ok-make-in-NotBegun.ensures.ok
    ∙ ap (λ (l : Listed). after l.tables c.args.change.now) c.self.view_is in
    let past : HasPast c.make.new.self =
    subst HasPast (sym made)
    (c.requires.past (lives _ _ _ c.self.view_is c.in-NotBegun.is c.self.invariant)) in
    let counts : faults_of c.args.self.now.group ≤ faults_of c.self.inside.group =
    omega (arith, ap faults_of group) in
    record {
      makes = record {
        was_honest = λ h. h;
        was_open = λ is. inr is.1;
        stays_open = λ s h is. (group ∙ is.0, past);
        shuts = λ h is. inl (group ∙ is.0, past);
        made = λ s is now. made;
        unmade = λ s is now. absurd (true≢false s);
        leaves = λ is h t left. inr (left.1 ∙ made);
        settled = λ s is h t left. left.1 ∙ made;
        books = λ is h. tt;
        rise = omega arith;
        counts = counts;
      };
      within = record {
        stays = λ began n s h w. (group ∙ w.0, (w.1.0, past));
        made = λ began n s h w. made;
        breaks = λ began n s h w. absurd (true≢false s);
        leaves = λ began n h w t left.
            absurd (let e : NotBegun ≡ Begun = sym left.0 ∙ (group ∙ w.0) in cc);
        books = λ began n h w books. tt;
      };
      store = refl;
      blames = λ h live room has. tt;
    }
