-- What adding a row and changing one mean for the postings.
use Rattle.std.proofs.Common.{◌≡◌, ℕ, List, [], ◌∷◌, ◌++◌, Option, Some, None, Bool, true, false}
use Rattle.std.proofs.Common.{cond, inl, inr, refl, sym, ap, ◌∙◌, subst}
use Rattle.std.specs.Prelude.{option_map}
use Rattle.day_totals.specs.declared.leg.Leg.{Leg}
use Rattle.day_totals.specs.declared.leg.Leg.TheVariants.{CreditReversal, DebitReversal}
use Rattle.acq_message.specs.declared.service.Service.{Service}
use Rattle.acq_message.specs.declared.service.Service.TheVariants.{Authorization, Financial}
use Rattle.acq_message.specs.declared.service.Service.TheVariants.{Completion, Reversal}
use Rattle.acq_message.specs.declared.service.Service.TheVariants.{ReversalAdvice, Reconciliation}
use Rattle.acq_message.specs.declared.service.Service.TheVariants.{NetworkManagement}
use Rattle.iso_codec.specs.Message.{IsoMessage}
use Rattle.acq_core.specs.declared.request.Request.{Request}
use Rattle.acq_core.specs.declared.merchant.Merchant.{Merchant}
use Rattle.acq_core.specs.declared.status.Status.{Status}
use Rattle.acq_core.specs.declared.status.Status.TheVariants.{Pending, Approved, Completed}
use Rattle.acq_core.specs.declared.status.Status.TheVariants.{Lowered}
use Rattle.acq_core.specs.declared.posting.Posting.{Posting}
use Rattle.acq_message.specs.Elements.{or_empty}
use Rattle.acq_core.specs.declared.remains.Remains.{Remains}
use Rattle.acq_core.specs.Known.{Prior}
use Rattle.acq_core.specs.Changes.{reversal_leg, reversed_status, posted_leg, is_lowered}
use Rattle.acq_core.specs.Tables.{reply_state_of, is_reversible, is_approved, leg_by, reference_by}
use Rattle.acq_core.specs.Tables.{followed_row}
use Rattle.acq_soundness.proofs.WhatRemains.{left_by}
use Rattle.acq_soundness.specs.Requests.{is_admissible, is_reversal}
use Rattle.acq_history.specs.Conservation.{is_reversal_leg}
use Rattle.acq_soundness.proofs.Members.{In, In-first, In-push}
use Rattle.acq_history.proofs.PostingsOfRequests.{is_posted, is_reversed, posted_by, posted}
use Rattle.acq_history.proofs.PostingsOfRequests.{reversed_under, HasPosted, HasPosting}
use Rattle.acq_history.proofs.PostingsOfRequests.{PostingsMatchRows, Grows, FromBefore, unposted}
use Rattle.acq_history.proofs.PostingsOfRequests.{under_by}
use Rattle.acq_history.proofs.RowsStayWellFormed.{IsWellFormed, IsReplaced}
use Rattle.acq_soundness.proofs.RowsWithChanges.{IsChange}
use Rattle.acq_soundness.proofs.Lookups.{clash}

-- ---- what has posted

-- a sale or return that was approved, or an accepted completion
pub data IsPostedAs (s : Service) (row : Request) (n : ℕ) : Type 0 where
  Sold : s ≡ Financial → row.reference ≡ Some n → IsPostedAs s row n
  Followed : s ≡ Completion → row.follows ≡ Some n → IsPostedAs s row n

pub posted_as : (s : Service) (row : Request) (n : ℕ) → posted_by s row ≡ Some n →
    IsPostedAs s row n
posted_as Financial row n e = step (is_posted row.status) e
  where
    step : (b : Bool) → cond b row.reference None ≡ Some n → IsPostedAs Financial row n
    step true f = Sold refl f
    step false f = absurd (cc)
posted_as Completion row n e = Followed refl e
posted_as service row n e = absurd (cc)

pub reversed_as : (row : Request) (n : ℕ) → reversed_under row ≡ Some n →
    (is_reversed row.status ≡ true) × (posted row ≡ Some n)
reversed_as row n e = step (is_reversed row.status) refl e
  where
    step : (b : Bool) → is_reversed row.status ≡ b → cond b (posted row) None ≡ Some n →
        (is_reversed row.status ≡ true) × (posted row ≡ Some n)
    step true h f = (h, f)
    step false h f = absurd (cc)

-- rows that agree in this have posted alike
pub posted_same : (s : Service) (a b : Request) → is_posted a.status ≡ is_posted b.status →
    a.reference ≡ b.reference → a.follows ≡ b.follows → posted_by s a ≡ posted_by s b
posted_same Financial a b e f g = λ i. cond (e i) (f i) None
posted_same Completion a b e f g = g
posted_same service a b e f g = refl

-- what has no status of a posting, and follows nothing, has posted nothing
pub posted_none : (s : Service) (row : Request) → is_posted row.status ≡ false →
    row.follows ≡ None → posted_by s row ≡ None
posted_none s row e f = posted_same s row (record row { status = Pending; follows = None }) e refl f
    ∙ none s
  where
    none : (x : Service) → posted_by x (record row { status = Pending; follows = None }) ≡ None
    none Financial = refl
    none Completion = refl
    none Authorization = refl
    none Reversal = refl
    none ReversalAdvice = refl
    none Reconciliation = refl
    none NetworkManagement = refl

-- a reversal itself counts as no original
pub posted_reversing : (s : Service) (row : Request) → is_reversal s ≡ true → posted_by s row ≡ None
posted_reversing Financial row e = absurd (cc)
posted_reversing Completion row e = absurd (cc)
posted_reversing service row e = refl

-- a request with a reference, but no leg, posts nothing
pub posted_unsold : (s : Service) (a b : Request) (n : ℕ) → leg_by s b ≡ None →
    b.reference ≡ Some n → a.follows ≡ b.follows → posted_by s a ≡ posted_by s b
posted_unsold Financial a b n e f g =
    absurd (let some : option_map (λ reference. b.leg) b.reference
    ≡ Some b.leg = ap (option_map (λ reference. b.leg)) f in cc)
posted_unsold Completion a b n e f g = g
posted_unsold service a b n e f g = refl

-- ---- what a row with a leg is

-- a row with a leg to post under: its reference, and what it has posted once it is approved
pub record IsLegOf (s : Service) (row : Request) (leg : Leg) : Type 0 where
  pub same : leg ≡ row.leg
  pub service : is_reversal s ≡ false
  pub number : ℕ
  pub reference : reference_by s row ≡ Some number
  pub under : is_posted row.status ≡ true → posted_by s row ≡ Some number

leg_in : (leg l : Leg) (o : Option ℕ) → option_map (λ reference. leg) o ≡ Some l →
    (n : ℕ) × (o ≡ Some n) × (l ≡ leg)
leg_in leg l None e = absurd (cc)
leg_in leg l (Some n) e = (n, refl, cc)

pub leg_of : (s : Service) (row : Request) (leg : Leg) → leg_by s row ≡ Some leg → IsLegOf s row leg
leg_of Financial row leg e =
    let a = leg_in row.leg leg row.reference e in
    record {
      same = a.2;
      service = refl;
      number = a.0;
      reference = a.1;
      under = λ h. ap (λ b. cond b row.reference None) h ∙ a.1;
    }
leg_of Completion row leg e =
    let a = leg_in row.leg leg row.follows e in
    record { same = a.2; service = refl; number = a.0; reference = a.1; under = λ h. a.1 }
leg_of service row leg e = absurd (cc)

-- of the requests that are admitted, sales and returns alone have a leg
pub leg_by_admissible : (s : Service) (row : Request) (leg : Leg) → leg_by s row ≡ Some leg →
    is_admissible s ≡ true → s ≡ Financial
leg_by_admissible Financial row leg e a = refl
leg_by_admissible service row leg e a = absurd (cc)

-- the leg that reverses an original's is one of a reversal
pub reversal_leg_is : (leg : Leg) → is_reversal_leg leg ≡ false →
    is_reversal_leg (reversal_leg leg) ≡ true
reversal_leg_is CreditReversal e = absurd (cc)
reversal_leg_is DebitReversal e = absurd (cc)
reversal_leg_is other e = refl

-- ---- status

-- neither reversed nor completed
pub record IsStanding (s : Status) : Type 0 where
  pub not_reversed : is_reversed s ≡ false
  pub not_completed : s ≡ Completed → ⊥

-- so is what can be reversed
pub reversible : (s : Status) → is_reversible s ≡ true → IsStanding s
reversible Pending e = record { not_reversed = refl; not_completed = λ h. absurd (cc) }
reversible Approved e = record { not_reversed = refl; not_completed = λ h. absurd (cc) }
reversible status e = absurd (cc)

-- and an open hold, also one that was lowered
pub approved_standing : (s : Status) → is_approved s ≡ true → IsStanding s
approved_standing Approved e = record { not_reversed = refl; not_completed = λ h. absurd (cc) }
approved_standing Lowered e = record { not_reversed = refl; not_completed = λ h. absurd (cc) }
approved_standing status e = absurd (cc)

-- a reversal keeps whether its original posted
reversal_posts : (s : Status) (reply : IsoMessage) → is_reversible s ≡ true →
    is_posted (reversed_status (reply_state_of s reply)) ≡ is_posted s
reversal_posts Pending reply e = refl
reversal_posts Approved reply e = refl
reversal_posts status reply e = absurd (cc)

-- what has posted is left by its reversal with its amount, and has posted as before
pub record LeavesPosted (s : Service) (row : Request) (remains : Remains) : Type 0 where
  pub same : posted_by s (followed_row remains row) ≡ posted_by s row
  pub keeps : (n : ℕ) → posted_by s row ≡ Some n → remains.amount ≡ row.amount

pub leaves_posted : (s : Service) (row : Request) (remaining : ℕ) →
    is_reversible row.status ≡ true → (p : Prior) → p.amount ≡ row.amount →
    p.reply_state ≡ reply_state_of row.status row.reply →
    LeavesPosted s row (left_by (is_lowered s remaining) p remaining)
leaves_posted Financial row remaining can p amount state =
    record {
      same =
          ap (λ x. cond (is_posted (reversed_status x)) row.reference None) state
          ∙ ap (λ b. cond b row.reference None) (reversal_posts row.status row.reply can);
      keeps = λ n e. amount;
    }
leaves_posted Completion row remaining can p amount state =
    record { same = refl; keeps = λ n e. amount }
leaves_posted service row remaining can p amount state =
    record { same = refl; keeps = λ n e. absurd (cc) }

-- where the leg of what can be reversed was posted, it had posted, and its reversal will have
pub record IsPostedLeg (s : Status) (reply : IsoMessage) (o : Option Leg) (leg : Leg) : Type 0 where
  pub posted : is_posted s ≡ true
  pub reversed : is_reversed (reversed_status (reply_state_of s reply)) ≡ true
  pub under : o ≡ Some leg

pub posted_leg_is : (s : Status) (reply : IsoMessage) (o : Option Leg) (leg : Leg) →
    is_reversible s ≡ true → posted_leg (reply_state_of s reply) o ≡ Some leg →
    IsPostedLeg s reply o leg
posted_leg_is Approved reply o leg f e = record { posted = refl; reversed = refl; under = e }
posted_leg_is status reply o leg f e = absurd (cc)

-- ---- under one reference

-- of a merchant's requests one has posted under a reference
pub once_posted : {day : ℕ} {merchants : List Merchant} {rows : List Request} (a b : Request)
    (n : ℕ) →
    IsWellFormed day merchants rows → In a rows → In b rows → a.key.merchant ≡ b.key.merchant →
    posted a ≡ Some n → posted b ≡ Some n → a ≡ b
once_posted {rows = rows} a b n k i j m e f = step (posted_as a.key.service a n e)
    (posted_as b.key.service b n f)
  where
    -- a sale has no reference of a completed hold
    sale_follows_none : (x y : Request) → In x rows → In y rows → x.key.merchant ≡ y.key.merchant →
        x.key.service ≡ Financial → x.reference ≡ Some n → y.key.service ≡ Completion →
        y.follows ≡ Some n → ⊥
    sale_follows_none x y xs ys same sale reference service follows =
        let h = k.held y n ys (record { merchant = refl; service = service; follows = follows }) in
        let one = k.references x h.hold n xs h.member (same ∙ sym h.merchant) reference h.reference
        in
        let kind : Financial ≡ Authorization = sym sale ∙ (ap (λ z. z.key.service) one ∙ h.service)
        in
        cc

    step : IsPostedAs a.key.service a n → IsPostedAs b.key.service b n → a ≡ b
    step (Sold s g) (Sold t h) = k.references a b n i j m g h
    step (Sold s g) (Followed t h) = absurd (sale_follows_none a b i j m s g t h)
    step (Followed s g) (Sold t h) = absurd (sale_follows_none b a j i (sym m) t h s g)
    step (Followed s g) (Followed t h) =
        k.one_completion a b n i j (record { merchant = refl; service = s; follows = g })
        (record { merchant = sym m; service = t; follows = h })

-- none has posted under the reference of a request that has not, and is no completed hold
pub none_posted : {day : ℕ} {merchants : List Merchant} {rows : List Request} (row : Request)
    (n : ℕ) →
    IsWellFormed day merchants rows → In row rows → row.reference ≡ Some n → posted row ≡ None →
    (row.status ≡ Completed → ⊥) → HasPosted false rows row.key.merchant n → ⊥
none_posted row n k i e none incomplete h =
    step (posted_as h.row.key.service h.row n h.under)
  where
    step : IsPostedAs h.row.key.service h.row n → ⊥
    step (Sold s g) =
        let same = k.references h.row row n h.member i h.merchant g e in
        let under : posted row ≡ Some n = ap posted (sym same) ∙ h.under in
        cc
    step (Followed s g) =
        let held = k.held h.row n h.member (record { merchant = refl; service = s; follows = g }) in
        let same = k.references held.hold row n held.member i
        (held.merchant ∙ h.merchant) held.reference e in
        incomplete (ap (λ x. x.status) (sym same) ∙ held.completed)

-- ---- a row more

-- nothing is lost by a row more
pub Grows-push : (rows : List Request) (row : Request) → Grows rows (rows ++ row ∷ [])
Grows-push rows row = record {
  stays =
      λ reversal m n h. record {
        row = h.row;
        member = In-first h.row rows _ h.member;
        merchant = h.merchant;
        under = h.under;
      };
}

-- nor over two steps
pub Grows-both : {rows mid later : List Request} → Grows rows mid → Grows mid later →
    Grows rows later
Grows-both a b = record { stays = λ reversal m n h. b.stays reversal m n (a.stays reversal m n h) }

-- a row more that has posted nothing
pub from_push : (rows : List Request) (row : Request) (ps : List (ℕ × Posting)) →
    posted row ≡ None → FromBefore rows ps rows → FromBefore rows ps (rows ++ row ∷ [])
from_push rows row ps none from x n i e = elim (In-push x rows row i) [
  | inl old ↦ from x n old e
  | inr new ↦ absurd (let under : posted row ≡ Some n = ap posted new ∙ e in cc)
]

-- a row that posts nothing
pub pushed : {rows : List Request} {ps : List (ℕ × Posting)} (row : Request) → posted row ≡ None →
    PostingsMatchRows rows ps → PostingsMatchRows (rows ++ row ∷ []) ps
pushed {rows} {ps} row none b =
    unposted b (Grows-push rows row) (from_push rows row ps none b.there)

-- ---- a row changed

-- nothing is lost where a changed row has posted as before
pub Grows-replaced : {rows later : List Request} {p q : Request} → IsReplaced rows later p q →
    IsChange p q →
    ((n : ℕ) → posted p ≡ Some n → posted q ≡ Some n) → is_reversed p.status ≡ false →
    Grows rows later
Grows-replaced {p = p} {q = q} r c same none = record {
  stays = λ reversal m n h. elim (r.after h.row h.member) [
    | inl stays ↦ record { row = h.row; member = stays; merchant = h.merchant; under = h.under }
    | inr e ↦
        record {
          row = q;
          member = r.changed;
          merchant = ap (λ x. x.merchant) c.key ∙ (ap (λ x. x.key.merchant) e ∙ h.merchant);
          under = kept reversal n (ap (under_by reversal) e ∙ h.under);
        }
  ];
}
  where
    kept : (reversal : Bool) (n : ℕ) → under_by reversal p ≡ Some n → under_by reversal q ≡ Some n
    kept false n e = same n e
    kept true n e = clash (is_reversed p.status) (reversed_as p n e).0 none

-- a changed row of the same amount has the same posting
HasPosting-change : (ps : List (ℕ × Posting)) (p q : Request) (n : ℕ) → IsChange p q →
    q.amount ≡ p.amount → HasPosting ps p n → HasPosting ps q n
HasPosting-change ps p q n c amount h = record {
  posting = h.posting;
  member = h.member;
  of =
      record {
        merchant = h.of.merchant ∙ sym (ap (λ x. x.merchant) c.key);
        reference = h.of.reference;
        leg = h.of.leg ∙ sym c.leg;
        amount = h.of.amount ∙ sym amount;
        card = h.of.card ∙ sym (ap or_empty c.card);
        day = h.of.day ∙ sym c.day;
      };
}

-- where a row has posted, the other has its amount
abbrev pub KeepsAmount : Request → Request → Type 0
KeepsAmount p q = (n : ℕ) → posted p ≡ Some n → q.amount ≡ p.amount

-- nothing comes to be posted where a changed row has posted as before
pub from_replaced : {rows later : List Request} {p q : Request} {ps : List (ℕ × Posting)} →
    PostingsMatchRows rows ps →
    In p rows → IsReplaced rows later p q → IsChange p q → posted q ≡ posted p →
    KeepsAmount p q → FromBefore rows ps later
from_replaced {p = p} {q = q} {ps = ps} b i r c same keeps x n j e = elim (r.before x j) [
  | inl old ↦ b.there x n old.0 e
  | inr new ↦
      let under : posted p ≡ Some n = sym same ∙ (ap posted new ∙ e) in
      subst (λ y. HasPosting ps y n) new
      (HasPosting-change ps p q n c (keeps n under) (b.there p n i under))
]
