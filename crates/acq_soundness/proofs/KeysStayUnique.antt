-- Keys stay unique, whatever comes.
use Rattle.std.proofs.Common.{◌≡◌, List, [], ◌∷◌, ◌++◌, Bool, true, false, inl, inr, refl, sym, ap}
use Rattle.std.proofs.Common.{◌∙◌, subst, ℕ}
use Rattle.std.specs.Prelude.{map, not, ◌||◌}
use Rattle.std.specs.List.{list_any}
use Rattle.std.specs.Str.{bytes_eq}
use Rattle.std.proofs.lemmas.Bool.{and_parts, and_from}
use Rattle.card_no.proofs.FirstThatPasses.{find-none}
use Rattle.acq_message.specs.declared.request_key.RequestKey.{RequestKey}
use Rattle.acq_message.specs.Elements.{same_key}
use Rattle.acq_core.specs.declared.arrival.Arrival.{Arrival}
use Rattle.acq_core.specs.declared.request.Request.{Request}
use Rattle.acq_core.specs.Changes.{change_of}
use Rattle.acq_core.specs.Tables.{Tables, new_tables, known_in, with_changed, after_any}
use Rattle.acq_core.specs.Tables.{step_tables}
use Rattle.acq_soundness.proofs.Lookups.{or_split, not_true, any-push, map-push}
use Rattle.acq_soundness.proofs.Members.{In}
use Rattle.acq_soundness.proofs.Keys.{same_key_is, same_key_from}
use Rattle.acq_soundness.specs.Keys.{are_distinct, same_terminal, HasUniqueKeys, KeysStayUnique}
use Rattle.acq_soundness.proofs.StepCases.{by_step}
use Rattle.acq_soundness.proofs.RowsWithChanges.{Edits, changing_kept, followed_kept, answered_kept}
use Rattle.acq_soundness.proofs.Runs.{kept}
use Rattle.acq_core.specs.declared.posting.Posting.{Posting}
use Rattle.acq_core.specs.declared.reconciliation.Reconciliation.{Reconciliation}

-- ---- lists whose elements are distinct

-- with one more at the end, which none is the same as
are_distinct-push : {X : Type 0} (same : X → X → Bool) (xs : List X) (y : X) →
    are_distinct same xs ≡ true →
    list_any (λ x. same x y) xs ≡ false → are_distinct same (xs ++ y ∷ []) ≡ true
are_distinct-push same [] y h new = refl
are_distinct-push same (x ∷ xs) y h new =
    let parts = and_parts (not (list_any (same x) xs)) (are_distinct same xs) h in
    let apart = or_split (same x y) (list_any (λ z. same z y) xs) new in
    let none : list_any (same x) (xs ++ y ∷ []) ≡ false =
    any-push (same x) xs y ∙ (λ i. apart.0 i || not_true (list_any (same x) xs) parts.0 i) in
    and_from (not (list_any (same x) (xs ++ y ∷ []))) (are_distinct same (xs ++ y ∷ []))
    (ap not none)
    (are_distinct-push same xs y parts.1 apart.1)

-- a test of a view
list_any-view : {X Y : Type 0} (v : X → Y) (q : Y → Bool) (xs : List X) →
    list_any q (map v xs) ≡ list_any (λ x. q (v x)) xs
list_any-view v q [] = refl
list_any-view v q (x ∷ xs) = ap (λ b. q (v x) || b) (list_any-view v q xs)

-- ---- the keys of requests

-- a key that is new is the same as none
none_same : (rows : List Request) (key : RequestKey) →
    ((row : Request) → In row rows → row.key ≡ key → ⊥) →
    list_any (λ k. same_key k key) (map (λ row. row.key) rows) ≡ false
none_same [] key new = refl
none_same (row ∷ rows) key new =
    let step : (b : Bool) → same_key row.key key ≡ b → b ≡ false =
    elim [
      | true ↦ (λ e. absurd (new row (inl refl) (same_key_is row.key key e)))
      | false ↦
          (λ e. refl)
    ] in
    λ i. step (same_key row.key key) refl i || none_same rows key (λ x member. new x (inr member)) i

-- a change keeps keys
keys-with_changed : (key : RequestKey) (changed : Request → Request) → Edits changed →
    (rows : List Request) →
    map (λ row. row.key) (with_changed key changed rows) ≡ map (λ row. row.key) rows
keys-with_changed key changed edits [] = refl
keys-with_changed key changed edits (x ∷ xs) =
    λ i. (changing_kept key changed edits x).key i ∷ keys-with_changed key changed edits xs i

-- requests with these keys and a new one behind them
abbrev pub AreUnique : List Request → Type 0
AreUnique rows = are_distinct same_key (map (λ row. row.key) rows) ≡ true

unique_with_row : (rows later : List Request) (row : Request) →
    map (λ x. x.key) later ≡ map (λ x. x.key) rows →
    ((x : Request) → In x rows → x.key ≡ row.key → ⊥) →
    AreUnique rows → AreUnique (later ++ row ∷ [])
unique_with_row rows later row same new h =
    subst (λ ks. are_distinct same_key ks ≡ true)
    (sym (map-push (λ x. x.key) later (row ∷ []) ∙ ap (λ ks. ks ++ row.key ∷ []) same))
    (are_distinct-push same_key (map (λ x. x.key) rows) row.key h (none_same rows row.key new))

-- of the keys of rows, none later is the same as the first
later_differs : (x y : Request) (rows : List Request) → In y rows → x.key ≡ y.key →
    list_any (same_key x.key) (map (λ row. row.key) rows) ≡ false → ⊥
later_differs x y [] member same none = absurd member
later_differs x y (row ∷ rows) (inl is) same none =
    let apart = or_split (same_key x.key row.key) _ none in
    let itself = same_key_from x.key row.key (same ∙ sym (ap (λ z. z.key) is)) in
    absurd (let no : true ≡ false = sym itself ∙ apart.0 in cc)
later_differs x y (row ∷ rows) (inr member) same none =
    later_differs x y rows member same (or_split (same_key x.key row.key) _ none).1

-- rows with one key are one row
pub only_row : (rows : List Request) → AreUnique rows → (x y : Request) → In x rows → In y rows →
    x.key ≡ y.key → x ≡ y
only_row [] unique x y i j same = absurd i
only_row (row ∷ rows) unique x y i j same =
    let parts = and_parts (not (list_any (same_key row.key) (map (λ z. z.key) rows))) _ unique in
    let none = not_true _ parts.0 in
    step i j none (only_row rows parts.1 x y)
  where
    step : In x (row ∷ rows) → In y (row ∷ rows) →
        list_any (same_key row.key) (map (λ z. z.key) rows) ≡ false →
        (In x rows → In y rows → x.key ≡ y.key → x ≡ y) → x ≡ y
    step (inl a) (inl b) none rest = sym a ∙ b
    step (inl a) (inr b) none rest =
        absurd (later_differs row y rows b (ap (λ z. z.key) a ∙ same) none)
    step (inr a) (inl b) none rest =
        absurd (later_differs row x rows a (ap (λ z. z.key) b ∙ sym same) none)
    step (inr a) (inr b) none rest = rest a b same

-- ---- steps

-- tables with other requests
unique_with : {t : Tables} {rows : List Request} {ps : List (ℕ × Posting)}
    {rs : List (ℕ × Reconciliation)} → HasUniqueKeys t → AreUnique rows →
    HasUniqueKeys (record t { requests = rows; postings = ps; reconciliations = rs })
unique_with h unique =
    record { requests = unique; merchants = h.merchants; terminals = h.terminals }

pub unique_after_step : (t : Tables) (a : Arrival) → HasUniqueKeys t →
    HasUniqueKeys (step_tables t a)
unique_after_step t a h =
    by_step t a (λ d. HasUniqueKeys (after_any t (change_of (known_in t a) d)))
    (record {
      reported = λ o is. h;
      malformed = λ r came. h;
      replied = λ r came given is. h;
      repeated = λ row member. h;
      refused = λ r merchant g given is.
          unique_with h (unique_with_row t.requests t.requests _ refl g.new h.requests);
      admitted = λ r merchant g range c.
          unique_with h (unique_with_row t.requests t.requests _ refl g.new h.requests);
      completed = λ r merchant g hold c.
          unique_with h
          (unique_with_row t.requests _ _
          (keys-with_changed hold.key _ (followed_kept _) t.requests) g.new h.requests);
      reversed = λ r merchant g row c.
          unique_with h
          (unique_with_row t.requests _ _
          (keys-with_changed row.key _ (followed_kept _) t.requests) g.new h.requests);
      reconciled = λ r merchant g day c.
          unique_with h (unique_with_row t.requests t.requests _ refl g.new h.requests);
      answered = λ moment v row c.
          unique_with h
          (subst (λ ks. are_distinct same_key ks ≡ true)
          (sym (keys-with_changed row.key _ (answered_kept _ _ _) t.requests)) h.requests);
      cut_over = λ came before.
          record { requests = h.requests; merchants = h.merchants; terminals = h.terminals };
      range_added = λ range came valid free.
          record { requests = h.requests; merchants = h.merchants; terminals = h.terminals };
      range_dropped = λ low high came.
          record { requests = h.requests; merchants = h.merchants; terminals = h.terminals };
      enrolled = λ merchant came new. record {
        requests = h.requests;
        merchants =
            subst (λ ids. are_distinct bytes_eq ids ≡ true)
            (sym (map-push (λ row. row.id) t.merchants (merchant ∷ [])))
            (are_distinct-push bytes_eq (map (λ row. row.id) t.merchants) merchant.id h.merchants
            (list_any-view (λ row. row.id) (λ id. bytes_eq id merchant.id) t.merchants
            ∙ find-none (λ row. bytes_eq row.id merchant.id) t.merchants new));
        terminals = h.terminals;
      };
      terminal_added = λ terminal came new. record {
        requests = h.requests;
        merchants = h.merchants;
        terminals = are_distinct-push same_terminal t.terminals terminal h.terminals new;
      };
    })

pub keys_stay_unique : KeysStayUnique
keys_stay_unique opening es =
    kept HasUniqueKeys unique_after_step (new_tables opening) es
    (record { requests = refl; merchants = refl; terminals = refl })
