-- Edits of the entries, seen as edits of the rows.
use Rattle.std.proofs.Common.{◌≡◌, List, [], ◌∷◌, Bool, true, false, cond, Some, None, Option}
use Rattle.std.proofs.Common.{Result, Ok, Err, OnOk}
use Rattle.std.proofs.Common.{refl, sym, ap, ◌∙◌}
use Rattle.std.specs.Prelude.{IsOk}
use Rattle.std.specs.List.{IsDistinct, AllByRecursion}
use Rattle.std.specs.Map.{lookup, set_value, keys_of, values_of}
use Rattle.std.specs.Cmp.{IsEquivalence}
use Rattle.acq_message.specs.Elements.{same_key}
use Rattle.acq_core.specs.Tables.{with_changed}
use Rattle.acq_core.specs.declared.request.Request.{Request}
use Rattle.acq_message.specs.declared.request_key.RequestKey.{RequestKey}
use Rattle.acq_message.specs.contracts.request_key.RequestKeyEq.TheImpl.Laws as key_laws
use Rattle.acq_book.specs.Keys.{key_eq}
use Rattle.acq_lists.specs.Keys.{IsKeyedBy, changed_at}
use Rattle.acq_book.proofs.KeyTests.{key_eq-same}

-- the key of a request
abbrev pub key_of : Request → RequestKey
key_of row = row.key

-- what holds of a call that succeeded
pub of_ok : {A E P : Type 0} (r : Result A E) → IsOk r → OnOk r P → P
of_ok (Ok x) is h = h
of_ok (Err e) is h = absurd (cc)

pub keys_equiv : IsEquivalence key_eq
keys_equiv = key_laws.laws-law

-- a value that was written back
pub set-changed : {K X : Type 0} (test : K → Bool) (f : X → X) (es : List (K × X)) (x : X) →
    lookup test es ≡ Some x →
    set_value test es (f x) ≡ changed_at test f es
set-changed {K} {X} test f [] x = λ e. absurd (let h : ◌≡◌ {A = Option X} None (Some x) = e in cc)
set-changed {K} {X} test f (y ∷ ys) x =
    elim (test y.0) as (λ b. cond b (Some y.1) (lookup test ys) ≡ Some x →
    cond b ((y.0, f x) ∷ ys) (y ∷ set_value test ys (f x))
    ≡ cond b ((y.0, f y.1) ∷ ys) (y ∷ changed_at test f ys)) [
      | true ↦ (λ e. let same : y.1 ≡ x = cc in ap (λ z. (y.0, f z) ∷ ys) (sym same))
      | false ↦ (λ e. ap (λ zs. y ∷ zs) (set-changed test f ys x e))
    ]

-- there was none
pub none-changed : {K X : Type 0} (test : K → Bool) (f : X → X) (es : List (K × X)) →
    lookup test es ≡ None →
    changed_at test f es ≡ es
none-changed test f [] = λ e. refl
none-changed {K} {X} test f (y ∷ ys) =
    elim (test y.0) as (λ b. cond b (Some y.1) (lookup test ys) ≡ None →
    cond b ((y.0, f y.1) ∷ ys) (y ∷ changed_at test f ys) ≡ y ∷ ys) [
      | true ↦ (λ e. absurd (let h : ◌≡◌ {A = Option X} (Some y.1) None = e in cc))
      | false ↦ (λ e. ap (λ zs. y ∷ zs) (none-changed test f ys e))
    ]

-- where no later key is the same
apart : (k : RequestKey) (f : Request → Request) (es : List (RequestKey × Request)) →
    IsKeyedBy key_of es →
    AllByRecursion (λ y. key_eq k y ≡ false) (keys_of es) →
    with_changed k f (values_of es) ≡ values_of es
apart k f [] h a = refl
apart k f (e ∷ es) h a =
    λ i. cond ((ap (λ x. same_key x k) (sym h.0) ∙ (sym (key_eq-same k e.0) ∙ a.0)) i)
    (f e.1) e.1 ∷ apart k f es h.1 a.1 i

pub changed-rows : (k : RequestKey) (f : Request → Request) (es : List (RequestKey × Request)) →
    IsKeyedBy key_of es →
    IsDistinct key_eq (keys_of es) →
    values_of (changed_at (key_eq k) f es) ≡ with_changed k f (values_of es)
unfolding IsDistinct
changed-rows k f [] h d = refl
changed-rows k f (e ∷ es) h d =
    at (changed-rows k f es h.1 d.1) (key_eq k e.0) refl
    ∙ ap (λ b. cond b (f e.1) e.1 ∷ with_changed k f (values_of es))
    (key_eq-same k e.0 ∙ ap (λ x. same_key x k) h.0)
  where
    later : (es' : List (RequestKey × Request)) → key_eq k e.0 ≡ true →
        AllByRecursion (λ y. key_eq e.0 y ≡ false) (keys_of es') →
        AllByRecursion (λ y. key_eq k y ≡ false) (keys_of es')
    later [] t a = tt
    later (x ∷ xs) t a = (keys_equiv.congr k e.0 x.0 t ∙ a.0, later xs t a.1)

    at : values_of (changed_at (key_eq k) f es) ≡ with_changed k f (values_of es) → (b : Bool) →
        key_eq k e.0 ≡ b →
        values_of (cond b ((e.0, f e.1) ∷ es) (e ∷ changed_at (key_eq k) f es))
        ≡ cond b (f e.1) e.1 ∷ with_changed k f (values_of es)
    at rest true t = ap (λ zs. f e.1 ∷ zs) (sym (apart k f es h.1 (later es t d.0)))
    at rest false t = ap (λ zs. e.1 ∷ zs) rest

pub changed-keyed : (k : RequestKey) (f : Request → Request) →
    ((row : Request) → (f row).key ≡ row.key) →
    (es : List (RequestKey × Request)) → IsKeyedBy key_of es →
    IsKeyedBy key_of (changed_at (key_eq k) f es)
changed-keyed k f same [] h = tt
changed-keyed k f same (e ∷ es) h =
    elim (key_eq k e.0) as
    (λ b. IsKeyedBy key_of (cond b ((e.0, f e.1) ∷ es) (e ∷ changed_at (key_eq k) f es))) [
      | true ↦ (h.0 ∙ sym (same e.1), h.1)
      | false ↦ (h.0, changed-keyed k f same es h.1)
    ]
