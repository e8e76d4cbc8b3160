-- What is recalled of the tables, when they change.
use Rattle.std.proofs.Common.{◌≡◌, ◌∙◌, ℕ, List, [], ◌∷◌, ◌++◌, sym, ap}
use Rattle.std.proofs.Common.{Option, Some, None, IfSome, refl}
use Rattle.std.specs.Prelude.{◌&&◌, ◌||◌, find}
use Rattle.std.specs.Option.{option_or}
use Rattle.std.specs.Str.{bytes_eq}
use Rattle.std.proofs.lemmas.List.Folds.{find-append}
use Rattle.iso_codec.specs.Message.{IsoMessage}
use Rattle.acq_message.specs.declared.request_key.RequestKey.{RequestKey}
use Rattle.acq_core.specs.declared.merchant.Merchant.{Merchant}
use Rattle.acq_core.specs.declared.terminal.Terminal.{Terminal}
use Rattle.acq_core.specs.declared.remains.Remains.{Remains}
use Rattle.acq_core.specs.declared.request.Request.{Request}
use Rattle.acq_core.specs.declared.status.Status.{Status}
use Rattle.acq_core.specs.Tables.{answered_row, followed_row, with_changed}
use Rattle.acq_soundness.proofs.Lookups.{any-push, or_true}
use Rattle.acq_lists.specs.declared.merchant_terminal.MerchantTerminal.{MerchantTerminal}
use Rattle.acq_recall.specs.Counts.{RecallsCounts}
use Rattle.acq_recall.specs.Kept.{Keeps, SaysOf}
use Rattle.acq_recall.specs.Recalled.{IsMerchant, IsTerminal}
use Rattle.acq_recall.specs.Waiting.{HasNewReference, Restates, referred_among}
use Rattle.acq_recall.specs.declared.counts.Counts.{Counts}
use Rattle.acq_recall.proofs.CountedRows.{admitted_changed, used_changed}
use Rattle.acq_recall.proofs.WaitingRows.{referred_restated}

-- ---- what is kept

-- nothing
pub nothing_said : {K V : Type 0} (says : K → V → Type 0) (kept : K → Option V)
    → ((key : K) → kept key ≡ None) → SaysOf says kept
nothing_said {K} {V} says kept none key value there =
    absurd (let e : ◌≡◌ {A = Option V} None (Some value) = sym (none key) ∙ there in cc)

-- no more than before
pub fewer_said : {K V : Type 0} (says : K → V → Type 0) (old new : K → Option V) → Keeps new old
    → SaysOf says old → SaysOf says new
fewer_said says old new fewer said key value there = said key value (fewer key value there)

-- ---- when a row comes

-- a merchant that was there is there
pub merchants_stay : (rows : List Merchant) (y : Merchant) (kept : List ℕ → Option Merchant)
    → SaysOf (IsMerchant rows) kept → SaysOf (IsMerchant (rows ++ y ∷ [])) kept
merchants_stay rows y kept said id row there =
    find-append (λ one. bytes_eq one.id id) rows (y ∷ [])
    ∙ ap (λ o. option_or o (find (λ one. bytes_eq one.id id) (y ∷ []))) (said id row there)

-- and so is a terminal
pub terminals_stay : (rows : List Terminal) (y : Terminal)
    (kept : MerchantTerminal → Option (Unit {0}))
    → SaysOf (IsTerminal rows) kept → SaysOf (IsTerminal (rows ++ y ∷ [])) kept
terminals_stay rows y kept said k here there =
    any-push (λ row. bytes_eq row.merchant k.merchant && bytes_eq row.id k.id) rows y
    ∙ (ap (λ b. (bytes_eq y.merchant k.merchant && bytes_eq y.id k.id) || b) (said k here there)
    ∙ or_true (bytes_eq y.merchant k.merchant && bytes_eq y.id k.id))

-- ---- when a request has another status

pub answers : (status : Status) (reply : IsoMessage) (hold_end : Option ℕ)
    → Restates status (answered_row status reply hold_end)
answers status reply hold_end = record {
  status = λ row. refl;
  key = λ row. refl;
  reference = λ row. refl;
  admitted = λ row. refl;
  day = λ row. refl;
}

pub follows : (remains : Remains) → Restates remains.status (followed_row remains)
follows remains = record {
  status = λ row. refl;
  key = λ row. refl;
  reference = λ row. refl;
  admitted = λ row. refl;
  day = λ row. refl;
}

pub counts_restated : (counts : Counts) (rows : List Request) (key : RequestKey) (status : Status)
    (change : Request → Request) → Restates status change → RecallsCounts counts rows
    → RecallsCounts counts (with_changed key change rows)
counts_restated counts rows key status change restates is = record {
  admitted = λ m n there. is.admitted m n there
      ∙ sym (admitted_changed key change restates.key restates.reference rows m);
  used = λ k n there. is.used k n there
      ∙ sym (used_changed key change restates.key restates.admitted restates.day rows k);
}

-- a new reference stays new
pub still_new : (rows : List Request) (y : Request) (key : RequestKey) (status : Status)
    (change : Request → Request) → Restates status change → HasNewReference rows y
    → HasNewReference (with_changed key change rows) y
still_new rows y key status change restates = go y.reference
  where
    go : (o : Option ℕ) → IfSome o (λ n. referred_among rows y.key.merchant n ≡ None)
        → IfSome o
        (λ n. referred_among (with_changed key change rows) y.key.merchant n ≡ None)
    go None new = tt
    go (Some n) new = referred_restated key change restates.reference restates.key rows
        y.key.merchant n new
