use Rattle.std.proofs.Common.{◌≡◌, ◌∙◌, ◌+◌, ap, sym, refl, arith, subst, None, Some, MatchOption}
use Rattle.std.proofs.Common.{IfSome}
use Rattle.std.proofs.Common.{if◌then◌else◌}
use Rattle.std.specs.Prelude.{find, ◌&&◌}
use Rattle.std.specs.Map.{count_at, values_of}
use Rattle.std.proofs.lemmas.Map.Entries.{length-values_of}
use Rattle.indexmap.specs.IndexMap.{get}
use Rattle.acq_message.specs.Numbers.{is_number}
use Rattle.acq_message.specs.Elements.{same_key}
use Rattle.acq_core.specs.Numbers.{is_used_count, is_admitted_count}
use Rattle.acq_core.specs.Tables.{requests_of, used_in, admitted_in}
use Rattle.acq_lists.specs.declared.merchant_reference.MerchantReference.{
  MerchantReference,
}
use Rattle.acq_book.specs.Keys.{key_eq, merchant_eq}
use Rattle.acq_lists.specs.Keys.{IsKeyedBy, reference_eq, place, refers}
use Rattle.acq_lists.specs.Keys.{day_of_request}
use Rattle.acq_book.proofs.KeyTests.{key_eq-same}
use Rattle.acq_lists.proofs.Keyed.{found-keyed, keyed-push, values-push}
use Rattle.acq_lists.proofs.Edits.{key_of}
use Rattle.acq_lists.proofs.Counting.{used_more, given_more}
use Rattle.acq_lists.proofs.Places.{referred_push}
use Rattle.acq_lists.proofs.requests.Requests.push.Goals as goal

pub put_request-requires-clause-new : goal.put_request-requires-clause-new
put_request-requires-clause-new c =
    found-keyed key_eq key_of (λ k row. same_key row.key k) (λ k row. key_eq-same k row.key)
    c.args.row.key
    c.self.inside.rows.entries c.self.invariant.keyed
    ∙ (ap (λ s. find (λ row. same_key row.key c.args.row.key) s.rows) c.self.view_is
    ∙ c.requires.new.key)

pub count_used-requires-clause-fits : goal.count_used-requires-clause-fits
count_used-requires-clause-fits c = λ e.
    ap (λ n. is_used_count (1 + n)) (c.self.invariant.used (day_of_request c.args.row)
    ∙ ap (λ s. used_in (requests_of c.args.row.key.merchant s.rows) c.args.row.day) c.self.view_is)
    ∙ c.requires.new.used e

pub count_admitted-requires-clause-fits : goal.count_admitted-requires-clause-fits
count_admitted-requires-clause-fits c = λ e.
    ap (λ n. is_admitted_count (1 + n)) (c.self.invariant.admitted c.args.row.key.merchant
    ∙ ap (λ s. admitted_in (requests_of c.args.row.key.merchant s.rows)) c.self.view_is)
    ∙ c.requires.new.admitted (sym c.is_some.ensures ∙ e)

pub invariant_of-self : goal.invariant_of-self
invariant_of-self c =
    let s = c.self.inside in
    let y = c.args.row in
    let new = c.put_request.ensures.entries in
    let grown = ap values_of new ∙ values-push s.rows.entries y.key y in
    record {
      keyed = subst (IsKeyedBy key_of) (sym new)
          (keyed-push key_of s.rows.entries y.key y refl c.self.invariant.keyed);
      places = λ r.
          referred_push _ (values_of s.rows.entries) y s.places c.put_place.new.places
          c.self.invariant.places
          (subst (λ n. MatchOption y.reference (c.put_place.new.places.entries ≡ s.places.entries)
          (λ number. (q : MerchantReference) →
          get reference_eq c.put_place.new.places q
          ≡ (if reference_eq (record { merchant = y.key.merchant; reference = number }) q then
          Some n
          else get reference_eq s.places q)))
          (c.len-place.ensures.len ∙ sym (length-values_of s.rows.entries))
          c.put_place.ensures.places)
          (subst (λ rows. IfSome y.reference (λ n. find (λ old. is_number n old.reference)
          (requests_of y.key.merchant rows) ≡ None))
          (sym (ap (λ t. t.rows) c.self.view_is)) c.requires.new.reference)
          r
          ∙ sym (ap (place (refers r)) grown);
      used =
          λ k. used_more (values_of s.rows.entries) y s.used c.count_used.new.counts
          c.self.invariant.used
          c.count_used.ensures.counts k
          ∙ sym (ap (λ rows. used_in (requests_of k.merchant rows) k.day) grown);
      admitted =
          λ m. given_more (values_of s.rows.entries) y s.admitted c.count_admitted.new.counts
          c.self.invariant.admitted
          (λ q. c.count_admitted.ensures.counts q
          ∙ ap (λ b. if b && merchant_eq y.key.merchant q
          then 1 + count_at (get merchant_eq s.admitted) y.key.merchant
          else count_at (get merchant_eq s.admitted) q) c.is_some.ensures) m
          ∙ sym (ap (λ rows. admitted_in (requests_of m rows)) grown);
      room_used = omega (arith, c.count_used.ensures.spare, c.self.invariant.room_used);
      room_admitted = omega (arith, c.count_admitted.ensures.spare, c.self.invariant.room_admitted);
      room_rows = omega (arith, c.put_request.ensures.spare, c.self.invariant.room_rows);
      room_places = omega (arith, c.put_place.ensures.spare, c.self.invariant.room_places);
    }
