-- A request that is answered as soon as it is recorded is recorded as it ends.
use Rattle.std.proofs.Common.{◌≡◌, List, [], ◌∷◌, ◌++◌, Bool, true, false, Option, None, Some, find}
use Rattle.std.proofs.Common.{ℕ, refl, sym, ap, subst, IfSome}
use Rattle.iso_codec.specs.Message.{IsoMessage}
use Rattle.acq_message.specs.declared.request_key.RequestKey.{RequestKey}
use Rattle.acq_message.specs.Elements.{same_key}
use Rattle.acq_core.specs.declared.change.Change.TheVariants as change
use Rattle.acq_core.specs.declared.posting.Posting.{Posting}
use Rattle.acq_core.specs.declared.request.Request.{Request}
use Rattle.acq_core.specs.declared.status.Status.{Status}
use Rattle.acq_core.specs.Pasts.{HasPast}
use Rattle.acq_core.specs.Tables.{Tables, after, answered_row, with_changed, with_next_posting}
use Rattle.acq_book.specs.Fits.{IsPostedBy}
use Rattle.acq_sql_changes.specs.Changed.{with_posted}
use Rattle.acq_sql.specs.Holding.{LeadsBehind, LeadsPosted, after_both}
use Rattle.acq_soundness.proofs.Keys.{same_key_is}

some_is_none : {X : Type 0} {x : X} → Some x ≡ None → ⊥
some_is_none same = cc

changed_last : (key : RequestKey) (f : Request → Request) (rows : List Request) (r : Request)
    → find (λ row. same_key row.key key) rows ≡ None → same_key r.key key ≡ true
    → with_changed key f (rows ++ r ∷ []) ≡ rows ++ f r ∷ []
changed_last key f [] r none is = rw is refl
changed_last key f (x ∷ rows) r none is =
    by (same_key x.key key) refl (λ rest. changed_last key f rows r rest is)
  where
    by : (b : Bool) → same_key x.key key ≡ b
        → (find (λ row. same_key row.key key) rows ≡ None
        → with_changed key f (rows ++ r ∷ []) ≡ rows ++ f r ∷ [])
        → with_changed key f ((x ∷ rows) ++ r ∷ []) ≡ (x ∷ rows) ++ f r ∷ []
    by true found later = absurd (some_is_none (rw found at none))
    by false other later = rw other (ap (λ ys. x ∷ ys) (later (rw other at none)))

module _ (row : Request) (key : RequestKey) (status : Status) (reply : IsoMessage)
    (hold_end : Option ℕ) (posting : Option Posting) (is : same_key row.key key ≡ true)
    (own : IfSome posting (IsPostedBy row)) where
  abbrev answer : Tables → Tables
  answer = after_both row (change.Answered key status reply hold_end posting)

  abbrev ended : Request
  ended = answered_row status reply hold_end row

  -- it comes to the same tables
  pub ended_is : (t : Tables)
      → LeadsBehind row (change.Answered key status reply hold_end posting) t
      → with_posted ended posting t ≡ answer t
  ended_is t leads = λ i. record (after t (change.AddRequest row)) {
    requests = sym (changed_last key (answered_row status reply hold_end) t.requests row
        (subst (λ k. find (λ row. same_key row.key k) t.requests ≡ None)
        (same_key_is row.key key is)
        leads.0.0.key) is) i;
    postings = with_next_posting t.postings posting;
  }

  pub ended_leads : (t : Tables)
      → LeadsBehind row (change.Answered key status reply hold_end posting) t
      → LeadsPosted ended posting t
  ended_leads t leads = (
    (
      record {
        key = leads.0.0.key;
        reference = leads.0.0.reference;
        used = leads.0.0.used;
        admitted = leads.0.0.admitted;
      },
      leads.1.0,
      its posting own,
    ),
    subst HasPast (sym (ended_is t leads)) leads.1.1,
  )
    where
      its : (o : Option Posting) → IfSome o (IsPostedBy row) → IfSome o (IsPostedBy ended)
      its None h = tt
      its (Some p) h = record { merchant = h.merchant; day = h.day }
