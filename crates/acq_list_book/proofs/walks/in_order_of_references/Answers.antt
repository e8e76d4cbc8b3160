use Rattle.std.proofs.Common.{◌≡◌, ◌∙◌, IfOk, subst, ℕ, Option, ap, map, Bor, rules, nat_cmp, is_lt}
use Rattle.std.specs.Cmp.{nat_cmp_total}
use Rattle.std.specs.Cmp.Lexicographic.{options_total}
use Rattle.std.specs.Option.{option_cmp}
use Rattle.std.specs.Map.Iter.{deref}
use Rattle.std.proofs.lemmas.List.Sorted.{answers_always, ranks_by}
use Rattle.acq_core.specs.declared.request.Request.{Request}
use Rattle.acq_book.specs.Lookups.{is_reference_before}
use Rattle.acq_book.specs.Order.{in_order}
use Rattle.acq_list_book.proofs.Sorting.{sorted-in_order, in_order-map, reference-order}
use Rattle.acq_list_book.proofs.walks.in_order_of_references.Goals as goal

pub returns : goal.returns
returns c all is =
    let key : Bor Request → Option ℕ = λ row. row.now.reference in
    let rows = c.in_ok-rows.rows.items in
    (ap (map (deref {X = Request}))
    (sorted-in_order (λ a b. is_lt (option_cmp nat_cmp (key a) (key b)))
    (ranks_by (options_total nat_cmp_total) key) rows c.sort_by_key.new.self.items
    (c.in_ok-sort_by_key.ensures.sorted key (answers_always _ _ _ (λ f a r q k. search rules)))
    (c.sort_by_key.ensures.stable key (answers_always _ _ _ (λ f a r q k. search rules))))
    ∙ (in_order-map deref (λ (a b : Request). is_lt (option_cmp nat_cmp a.reference b.reference))
    rows
    ∙ (λ i. in_order (λ (a b : Request). reference-order a.reference b.reference i)
    (map deref rows))))
    ∙ ap (in_order {X = Request} (λ a b. is_reference_before a.reference b.reference))
    (subst (λ r. IfOk r (λ found. map (deref {X = Request}) found.items ≡ all)) c.in_ok-rows.was is)
