-- What is known, and what is left to look up, are together what is wanted.
use Rattle.std.proofs.Common.{◌≡◌, ◌∙◌, ℕ, Bool, true, false, List, Option, Some, None, IfSome}
use Rattle.std.proofs.Common.{refl, sym, ap, cond}
use Rattle.std.specs.Prelude.{◌&&◌, ◌||◌, not, is_none, is_some, option_and_then, unwrap_or}
use Rattle.std.specs.Option.{option_or}
use Rattle.acq_message.specs.Elements.{or_empty}
use Rattle.acq_core.specs.declared.merchant.Merchant.{Merchant}
use Rattle.acq_core.specs.declared.looked.Looked.{Looked}
use Rattle.acq_core.specs.declared.wanted.Wanted.{Wanted}
use Rattle.acq_core.specs.Known.{holds_if, number_if, totals_if, used_if}
use Rattle.acq_core.specs.Tables.{Tables}
use Rattle.acq_book.specs.Looked.{IsLooked}
use Rattle.acq_book.specs.Lookups.{admitted_at, has_terminal_at, merchant_at, range_at}
use Rattle.acq_book.specs.Lookups.{referred_at, totals_at, used_at}
use Rattle.acq_recall.specs.Known.{IsKnown, asks_no_more, filled, rest_of, unless_known}
use Rattle.acq_recall.specs.Known.{without_merchant}
use Rattle.acq_recall.specs.declared.known.Known.{Known}

-- ---- tests

both : (a b : Bool) → (a && b) ≡ true → (a ≡ true) × (b ≡ true)
both true b e = (refl, e)
both false b e = absurd (cc)

none_there : {X : Type 0} (o : Option X) → is_none o ≡ true → o ≡ None
none_there None e = refl
none_there (Some x) e = absurd (cc)

not_so : (b : Bool) → not b ≡ true → b ≡ false
not_so true e = absurd (cc)
not_so false e = refl

-- nothing else is wanted
record AsksNoMore (w : Wanted) : Type 0 where
  terminal : w.terminal ≡ None
  reference : w.reference ≡ None
  admitted : w.admitted ≡ false
  used_day : w.used_day ≡ None
  totals_day : w.totals_day ≡ None

no_more : (w : Wanted) → asks_no_more w ≡ true → AsksNoMore w
no_more w is =
    let a = both (is_none w.terminal) _ is in
    let b = both (is_none w.reference) _ a.1 in
    let c = both (not w.admitted) _ b.1 in
    let d = both (is_none w.used_day) _ c.1 in
    record {
      terminal = none_there w.terminal a.0;
      reference = none_there w.reference b.0;
      admitted = not_so w.admitted c.0;
      used_day = none_there w.used_day d.0;
      totals_day = none_there w.totals_day d.1;
    }

-- ---- without the merchant

-- a part that isn't wanted is the same of no merchant
module _ {X A : Type 0} (look : List ℕ → Option A → X)
    (base : (m other : List ℕ) → look m None ≡ look other None) where
  same_part : (m : Option (List ℕ)) (p : Option A) → p ≡ None
      → look (or_empty None) None ≡ look (or_empty m) (option_and_then (λ id. p) m)
  same_part None p none = refl
  same_part (Some id) p none = base (or_empty None) id ∙ ap (look id) (sym none)

-- its row alone was left out, and is put back
put_back : (t : Tables) (w : Wanted) (l : Looked) (known : Option Merchant)
    → IfSome known (λ row. Some row ≡ option_and_then (merchant_at t) w.merchant)
    → IsLooked t (without_merchant (is_some known) w) l
    → IsLooked t w (record l { merchant = option_or known l.merchant })
put_back t w l None known is = record {
  today = is.today;
  limit = is.limit;
  merchant = is.merchant;
  has_terminal = is.has_terminal;
  recorded = is.recorded;
  original = is.original;
  referred = is.referred;
  range = is.range;
  overlapped = is.overlapped;
  admitted = is.admitted;
  used = is.used;
  totals = is.totals;
}
put_back t w l (Some row) known found = go (asks_no_more w) refl found
  where
    go : (b : Bool) → asks_no_more w ≡ b
        → IsLooked t (cond b (record w { merchant = None }) w) l
        → IsLooked t w (record l { merchant = Some row })
    go false more is = record {
      today = is.today;
      limit = is.limit;
      merchant = known;
      has_terminal = is.has_terminal;
      recorded = is.recorded;
      original = is.original;
      referred = is.referred;
      range = is.range;
      overlapped = is.overlapped;
      admitted = is.admitted;
      used = is.used;
      totals = is.totals;
    }
    go true alone is =
        let none = no_more w alone in
        record {
          today = is.today;
          limit = is.limit;
          merchant = known;
          has_terminal = is.has_terminal
              ∙ same_part (λ m o. holds_if (has_terminal_at t m) o) (λ m other. refl) w.merchant
              w.terminal none.terminal;
          recorded = is.recorded;
          original = is.original;
          referred = is.referred
              ∙ same_part (λ m o. option_and_then (referred_at t m) o) (λ m other. refl)
              w.merchant w.reference none.reference;
          range = is.range;
          overlapped = is.overlapped;
          admitted = is.admitted
              ∙ (ap (λ b. number_if b (admitted_at t (or_empty None)) None) none.admitted
              ∙ sym (ap (λ b. number_if b (admitted_at t (or_empty w.merchant)) w.merchant)
              none.admitted));
          used = is.used
              ∙ same_part (λ m o. used_if (used_at t m) o) (λ m other. refl) w.merchant w.used_day
              none.used_day;
          totals = is.totals
              ∙ same_part (λ m o. totals_if (totals_at t m) o) (λ m other. refl) w.merchant
              w.totals_day none.totals_day;
        }

-- ---- the other parts

-- a part that is known, or was looked up
or_looked : {X A : Type 0} (known found : Option X) (p : Option A) (look : Option A → Option X)
    → IfSome known (λ x. Some x ≡ look p) → found ≡ look (unless_known known p)
    → option_or known found ≡ look p
or_looked None found p look known is = is
or_looked (Some x) found p look known is = known

or_counted : {A : Type 0} (known : Option ℕ) (n : ℕ) (p : Option A) (look : Option A → ℕ)
    → IfSome known (λ x. x ≡ look p) → n ≡ look (unless_known known p)
    → unwrap_or known n ≡ look p
or_counted None n p look known is = is
or_counted (Some x) n p look known is = known

or_admitted : (known : Option ℕ) (n : ℕ) (wanted : Bool) (look : Bool → ℕ)
    → IfSome known (λ x. x ≡ look wanted) → n ≡ look (not (is_some known) && wanted)
    → unwrap_or known n ≡ look wanted
or_admitted None n wanted look known is = is
or_admitted (Some x) n wanted look known is = known

or_there : {A : Type 0} (known found : Bool) (p : Option A) (look : Option A → Bool)
    → (known ≡ true → true ≡ look p) → found ≡ look (cond known None p)
    → (known || found) ≡ look p
or_there true found p look known is = known refl
or_there false found p look known is = is

-- all parts
pub fills : (t : Tables) (w : Wanted) (known : Known) (l : Looked) → IsKnown t w known
    → IsLooked t (rest_of known w) l → IsLooked t w (filled known l)
fills t w known l is looked =
    let back = put_back t
    (record w {
      terminal = cond known.has_terminal None w.terminal;
      reference = unless_known known.referred w.reference;
      prefix = unless_known known.range w.prefix;
      admitted = not (is_some known.admitted) && w.admitted;
      used_day = unless_known known.used w.used_day;
    }) l known.merchant is.merchant looked in
    record {
      today = back.today;
      limit = back.limit;
      merchant = back.merchant;
      has_terminal = or_there known.has_terminal l.has_terminal w.terminal
          (λ p. holds_if (has_terminal_at t (or_empty w.merchant))
          (option_and_then (λ id. p) w.merchant))
          is.has_terminal back.has_terminal;
      recorded = back.recorded;
      original = back.original;
      referred = or_looked known.referred l.referred w.reference
          (λ p. option_and_then (referred_at t (or_empty w.merchant))
          (option_and_then (λ id. p) w.merchant))
          is.referred back.referred;
      range = or_looked known.range l.range w.prefix (option_and_then (range_at t)) is.range
          back.range;
      overlapped = back.overlapped;
      admitted = or_admitted known.admitted l.admitted w.admitted
          (λ b. number_if b (admitted_at t (or_empty w.merchant)) w.merchant) is.admitted
          back.admitted;
      used = or_counted known.used l.used w.used_day
          (λ p. used_if (used_at t (or_empty w.merchant)) (option_and_then (λ id. p) w.merchant))
          is.used back.used;
      totals = back.totals;
    }
