-- Rows by their places.
use Rattle.std.proofs.Common.{◌≡◌, ℕ, suc, List, [], ◌∷◌, ◌++◌, Bool, true, false, cond, Some, None}
use Rattle.std.proofs.Common.{Option, refl, sym}
use Rattle.std.proofs.Common.{ap, ◌∙◌, length, slice_get, arith, map}
use Rattle.std.specs.Prelude.{◌&&◌, find, filter, option_map, option_and_then}
use Rattle.std.specs.Option.{option_or}
use Rattle.std.proofs.Common.{eqb, MatchOption, IfSome, if◌then◌else◌}
use Rattle.std.specs.Map.{lookup}
use Rattle.std.specs.Str.{bytes_eq}
use Rattle.std.proofs.lemmas.Slice.Eq.{bytes_eq-Decides}
use Rattle.std.proofs.lemmas.Bool.Decides.{nat_tests}
use Rattle.std.proofs.Math.Bool.{and-false}
use Rattle.indexmap.specs.IndexMap.{IndexMap, get}
use Rattle.acq_message.specs.Numbers.{is_number}
use Rattle.acq_core.specs.Tables.{requests_of}
use Rattle.acq_core.specs.declared.request.Request.{Request}
use Rattle.acq_core.proofs.Counts.{or_none}
use Rattle.acq_lists.specs.declared.merchant_reference.MerchantReference.{
  MerchantReference,
}
use Rattle.acq_lists.specs.Keys.{place, refers, reference_eq}

-- what stands at the first place that passes is what a search finds
pub find-place : {X : Type 0} (p : X → Bool) (xs : List X) →
    option_and_then (slice_get xs) (place p xs) ≡ find p xs
find-place p [] = refl
find-place {X} p (x ∷ xs) =
    elim (p x) as
    (λ b. option_and_then (slice_get (x ∷ xs)) (cond b (Some 0) (option_map suc (place p xs)))
    ≡ cond b (Some x) (find p xs)) [
      | true ↦ refl
      | false ↦ later (place p xs) ∙ find-place p xs
    ]
  where
    later : (o : Option ℕ) →
        option_and_then (slice_get (x ∷ xs)) (option_map suc o) ≡ option_and_then (slice_get xs) o
    later None = refl
    later (Some i) = refl

-- a search through a filter
pub find-filter : {X : Type 0} (p q : X → Bool) (xs : List X) →
    find q (filter p xs) ≡ find (λ x. p x && q x) xs
find-filter p q [] = refl
find-filter p q (x ∷ xs) =
    elim (p x) as (λ b. find q (cond b (x ∷ filter p xs) (filter p xs))
    ≡ cond (b && q x) (Some x) (find (λ y. p y && q y) xs)) [
      | true ↦ ap (cond (q x) (Some x)) (find-filter p q xs)
      | false ↦ find-filter p q xs
    ]

-- a filter of a filter
pub filter-filter : {X : Type 0} (p q : X → Bool) (xs : List X) →
    filter q (filter p xs) ≡ filter (λ x. p x && q x) xs
filter-filter p q [] = refl
filter-filter p q (x ∷ xs) =
    elim (p x) as (λ b. filter q (cond b (x ∷ filter p xs) (filter p xs))
    ≡ cond (b && q x) (x ∷ filter (λ y. p y && q y) xs) (filter (λ y. p y && q y) xs)) [
      | true ↦ ap (λ l. cond (q x) (x ∷ l) l) (filter-filter p q xs)
      | false ↦ filter-filter p q xs
    ]

-- one more at the end
pub place-push : {X : Type 0} (p : X → Bool) (xs : List X) (y : X) →
    place p (xs ++ y ∷ []) ≡ option_or (place p xs) (cond (p y) (Some (length xs)) None)
place-push p [] y = refl
place-push {X} p (x ∷ xs) y =
    elim (p x) as (λ b. cond b (Some 0) (option_map suc (place p (xs ++ y ∷ [])))
    ≡ option_or (cond b (Some 0) (option_map suc (place p xs)))
    (cond (p y) (Some (suc (length xs))) None)) [
      | true ↦ refl
      | false ↦ ap (option_map suc) (place-push p xs y) ∙ later (place p xs) (p y)
    ]
  where
    later : (o : Option ℕ) (b : Bool) →
        option_map suc (option_or o (cond b (Some (length xs)) None))
        ≡ option_or (option_map suc o) (cond b (Some (suc (length xs))) None)
    later None true = refl
    later None false = refl
    later (Some i) b = refl

-- an edit that the test does not see
pub place-map : {X : Type 0} (p : X → Bool) (u : X → X) → ((x : X) → p (u x) ≡ p x) →
    (xs : List X) →
    place p (map u xs) ≡ place p xs
place-map p u same [] = refl
place-map p u same (x ∷ xs) =
    λ i. cond (same x i) (Some 0) (option_map suc (place-map p u same xs i))

-- none is found where there is no place
pub no-place : {X : Type 0} (p : X → Bool) (xs : List X) → find p xs ≡ None → place p xs ≡ None
no-place p [] = λ e. refl
no-place {X} p (x ∷ xs) =
    elim (p x) as (λ b. cond b (Some x) (find p xs) ≡ None →
    cond b (Some 0) (option_map suc (place p xs)) ≡ None) [
      | true ↦ (λ e. absurd (let h : ◌≡◌ {A = Option X} (Some x) None = e in cc))
      | false ↦ (λ e. ap (option_map suc) (no-place p xs e))
    ]

and_split : (a b : Bool) → (a && b) ≡ true → (a ≡ true) × (b ≡ true)
and_split true b e = (refl, e)
and_split false b e = absurd (cc)

pub number_is : (a b : ℕ) → eqb a b ≡ true → a ≡ b
number_is a b e = grind (arith, nat_tests)

-- what stands at the place of a reference
pub found-at : (r : MerchantReference) (rows : List Request) (o : Option ℕ) →
    place (refers r) rows ≡ o →
    option_and_then (slice_get rows) o ≡ find (λ row. is_number r.reference row.reference)
    (requests_of r.merchant rows)
found-at r rows o e =
    ap (option_and_then (slice_get rows)) (sym e)
    ∙ (find-place (refers r) rows
    ∙ sym (find-filter (λ row. bytes_eq row.key.merchant r.merchant)
    (λ row. is_number r.reference row.reference) rows))

-- the reference is not there yet
pub new-place : (r : MerchantReference) (rows : List Request) →
    find (λ row. is_number r.reference row.reference) (requests_of r.merchant rows) ≡ None →
    place (refers r) rows ≡ None
new-place r rows e =
    no-place (refers r) rows (sym (find-filter (λ row. bytes_eq row.key.merchant r.merchant)
    (λ row. is_number r.reference row.reference) rows) ∙ e)

-- one row more, under its reference if it has one
pub referred_push : (S : Type 0) (rows : List Request) (y : Request)
    (old new : IndexMap MerchantReference ℕ S)
    → ((r : MerchantReference) → get reference_eq old r ≡ place (refers r) rows)
    → MatchOption y.reference (new.entries ≡ old.entries)
    (λ n. (r : MerchantReference) →
    get reference_eq new r
    ≡ (if reference_eq (record { merchant = y.key.merchant; reference = n }) r then
    Some (length rows)
    else get reference_eq old r))
    → IfSome y.reference
    (λ n. find (λ row. is_number n row.reference) (requests_of y.key.merchant rows) ≡ None)
    → (r : MerchantReference) → get reference_eq new r ≡ place (refers r) (rows ++ y ∷ [])
referred_push S rows y old new was put fresh r = by y.reference put fresh
    ∙ sym (place-push (refers r) rows y)
  where
    by : (o : Option ℕ) →
        MatchOption o (new.entries ≡ old.entries)
        (λ n. (q : MerchantReference) →
        get reference_eq new q
        ≡ (if reference_eq (record { merchant = y.key.merchant; reference = n }) q then
        Some (length rows)
        else get reference_eq old q))
        → IfSome o (λ n. find (λ row. is_number n row.reference) (requests_of y.key.merchant rows)
        ≡ None)
        → get reference_eq new r
        ≡ option_or (place (refers r) rows)
        (cond (bytes_eq y.key.merchant r.merchant && is_number r.reference o)
        (Some (length rows)) None)
    by None put fresh =
        ap (lookup (reference_eq r)) put
        ∙ (was r ∙ sym (ap (λ b. option_or (place (refers r) rows)
        (cond b (Some (length rows)) None))
        (and-false (bytes_eq y.key.merchant r.merchant)) ∙ or_none (place (refers r) rows)))
    by (Some n) put fresh = put r ∙ at (bytes_eq y.key.merchant r.merchant && eqb n r.reference)
        refl
      where
        at : (b : Bool) → (bytes_eq y.key.merchant r.merchant && eqb n r.reference) ≡ b →
            cond b (Some (length rows)) (get reference_eq old r)
            ≡ option_or (place (refers r) rows) (cond b (Some (length rows)) None)
        at false e = was r ∙ sym (or_none (place (refers r) rows))
        at true e =
            let parts = and_split (bytes_eq y.key.merchant r.merchant) (eqb n r.reference) e in
            let merchant : y.key.merchant ≡ r.merchant =
            (bytes_eq-Decides y.key.merchant r.merchant).0 parts.0 in
            let number : n ≡ r.reference = number_is n r.reference parts.1 in
            let gone : find (λ row. is_number r.reference row.reference)
            (requests_of r.merchant rows) ≡ None =
            (λ i. find (λ row. is_number (sym number i) row.reference)
            (requests_of (sym merchant i) rows))
            ∙ fresh in
            sym (ap (λ o. option_or o (Some (length rows))) (new-place r rows gone))
