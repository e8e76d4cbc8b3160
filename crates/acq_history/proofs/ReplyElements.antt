-- What a message holds of the elements that were set in it.
use Rattle.std.proofs.Common.{◌≡◌, ℕ, List, [], ◌∷◌, ◌++◌, Some, None, Bool, true, false, cond}
use Rattle.std.proofs.Common.{refl, sym, ap, ◌∙◌}
use Rattle.std.specs.Prelude.{not, filter, ◌==◌, nat_le}
use Rattle.std.specs.List.{list_all, list_any}
use Rattle.std.proofs.lemmas.Bool.{and_parts}
use Rattle.iso_codec.specs.Message.{content_of, with_content, is_among}
use Rattle.acq_message.specs.Reply.{with_contents}
use Rattle.acq_soundness.proofs.Keys.{eqb_is, eqb_itself}
use Rattle.acq_soundness.proofs.Lookups.{not_true}

pub content_of-set : (es : List (ℕ × List ℕ)) (n : ℕ) (text : List ℕ) →
    content_of (with_content es n text) n ≡ Some text
content_of-set [] n text =
    ap (λ b. cond b (Some text) None) (eqb_itself n)
content_of-set (e ∷ es) n text =
    step (content_of-set es n text) (nat_le e.0 n) (n == e.0) refl
  where
    set : (rest : List (ℕ × List ℕ)) → content_of ((n, text) ∷ rest) n ≡ Some text
    set rest = ap (λ b. cond b (Some text) (content_of rest n)) (eqb_itself n)

    step : content_of (with_content es n text) n ≡ Some text →
        (before same : Bool) → (n == e.0) ≡ same →
        content_of (cond before (cond same ((n, text) ∷ es) (e ∷ with_content es n text))
        ((n, text) ∷ e ∷ es)) n
        ≡ Some text
    step later true true is = set es
    step later true false is =
        ap (λ b. cond b (Some e.1) (content_of (with_content es n text) n)) is ∙ later
    step later false same is = set (e ∷ es)

pub content_of-kept : (es : List (ℕ × List ℕ)) (n k : ℕ) (text : List ℕ) → (n == k) ≡ false →
    content_of (with_content es k text) n ≡ content_of es n
content_of-kept [] n k text other = ap (λ b. cond b (Some text) None) other
content_of-kept (e ∷ es) n k text other =
    step (content_of-kept es n k text other) (nat_le e.0 k) (k == e.0) refl
  where
    past : (rest : List (ℕ × List ℕ)) → content_of ((k, text) ∷ rest) n ≡ content_of rest n
    past rest = ap (λ b. cond b (Some text) (content_of rest n)) other

    step : content_of (with_content es k text) n ≡ content_of es n →
        (before same : Bool) → (k == e.0) ≡ same →
        content_of (cond before (cond same ((k, text) ∷ es) (e ∷ with_content es k text))
        ((k, text) ∷ e ∷ es)) n
        ≡ content_of (e ∷ es) n
    step later true true is =
        past es
        ∙ sym (ap (λ b. cond b (Some e.1) (content_of es n))
        (ap (λ j. n == j) (sym (eqb_is k e.0 is)) ∙ other))
    step later true false is = ap (λ o. cond (n == e.0) (Some e.1) o) later
    step later false same is = past (e ∷ es)

pub contents_kept : (n : ℕ) (es added : List (ℕ × List ℕ)) →
    list_all (λ e. not (n == e.0)) added ≡ true →
    content_of (with_contents es added) n ≡ content_of es n
contents_kept n es [] others = refl
contents_kept n es (e ∷ added) others =
    let parts = and_parts (not (n == e.0)) (list_all (λ x. not (n == x.0)) added) others in
    contents_kept n (with_content es e.0 e.1) added parts.1
    ∙ content_of-kept es n e.0 e.1 (not_true (n == e.0) parts.0)

pub with_contents-append : (es xs ys : List (ℕ × List ℕ)) →
    with_contents es (xs ++ ys) ≡ with_contents (with_contents es xs) ys
with_contents-append es [] ys = refl
with_contents-append es (x ∷ xs) ys = with_contents-append (with_content es x.0 x.1) xs ys

-- what isn't among those that are kept isn't there
pub content_of-dropped : (ns : List ℕ) (es : List (ℕ × List ℕ)) (n : ℕ) →
    list_any (λ k. k == n) ns ≡ false → content_of (filter (is_among ns) es) n ≡ None
content_of-dropped ns [] n among = refl
content_of-dropped ns (e ∷ es) n among =
    step (content_of-dropped ns es n among) (n == e.0) (is_among ns e) refl refl
  where
    step : content_of (filter (is_among ns) es) n ≡ None →
        (here there : Bool) → (n == e.0) ≡ here → is_among ns e ≡ there →
        content_of (cond there (e ∷ filter (is_among ns) es) (filter (is_among ns) es)) n ≡ None
    step later false true is kept =
        ap (λ b. cond b (Some e.1) (content_of (filter (is_among ns) es) n)) is ∙ later
    step later here false is kept = later
    step later true true is kept =
        absurd (let two : true ≡ false =
        sym kept ∙ (ap (λ k. list_any (λ j. j == k) ns) (sym (eqb_is n e.0 is)) ∙ among) in cc)

-- what is among those that are kept is as it was
pub content_of-chosen : (ns : List ℕ) (es : List (ℕ × List ℕ)) (n : ℕ) →
    list_any (λ k. k == n) ns ≡ true →
    content_of (filter (is_among ns) es) n ≡ content_of es n
content_of-chosen ns [] n among = refl
content_of-chosen ns (e ∷ es) n among =
    step (content_of-chosen ns es n among) (n == e.0) (is_among ns e) refl refl
  where
    step : content_of (filter (is_among ns) es) n ≡ content_of es n →
        (here there : Bool) → (n == e.0) ≡ here → is_among ns e ≡ there →
        content_of (cond there (e ∷ filter (is_among ns) es) (filter (is_among ns) es)) n
        ≡ cond here (Some e.1) (content_of es n)
    step later true true is kept =
        ap (λ b. cond b (Some e.1) (content_of (filter (is_among ns) es) n)) is
    step later false true is kept =
        ap (λ b. cond b (Some e.1) (content_of (filter (is_among ns) es) n)) is ∙ later
    step later false false is kept = later
    step later true false is kept =
        absurd (let two : true ≡ false =
        sym among ∙ (ap (λ k. list_any (λ j. j == k) ns) (eqb_is n e.0 is) ∙ kept) in cc)
