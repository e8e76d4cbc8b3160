use Rattle.std.proofs.Common.{◌≡◌, ◌∙◌, IfOk, subst, ℕ, List, ap, map, Bor, rules}
use Rattle.std.specs.Cmp.{nat_cmp_total}
use Rattle.std.specs.Cmp.Lexicographic.{lists_total}
use Rattle.std.specs.Map.Iter.{deref}
use Rattle.std.proofs.lemmas.List.Sorted.{answers_always, ranks_by}
use Rattle.acq_core.specs.declared.merchant.Merchant.{Merchant}
use Rattle.acq_book.specs.Lookups.{is_merchant_before}
use Rattle.acq_book.specs.Order.{in_order}
use Rattle.acq_list_book.proofs.Sorting.{sorted-in_order, in_order-map}
use Rattle.acq_list_book.proofs.walks.in_order_of_names.Goals as goal

pub returns : goal.returns
returns c all is =
    let key : Bor Merchant → List ℕ = λ row. row.now.id in
    let rows = c.in_ok-rows.rows.items in
    (ap (map (deref {X = Merchant}))
    (sorted-in_order (λ a b. is_merchant_before a.now b.now)
    (ranks_by (lists_total nat_cmp_total) key) rows c.sort_by_key.new.self.items
    (c.in_ok-sort_by_key.ensures.sorted key (answers_always _ _ _ (λ f a r q k. search rules)))
    (c.sort_by_key.ensures.stable key (answers_always _ _ _ (λ f a r q k. search rules))))
    ∙ in_order-map deref is_merchant_before rows)
    ∙ ap (in_order {X = Merchant} is_merchant_before)
    (subst (λ r. IfOk r (λ found. map (deref {X = Merchant}) found.items ≡ all)) c.in_ok-rows.was is)
