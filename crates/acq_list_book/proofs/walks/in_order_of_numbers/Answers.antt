use Rattle.std.proofs.Common.{◌≡◌, ◌∙◌, IfOk, subst, ℕ, List, ap, map, Bor, rules}
use Rattle.std.specs.Cmp.{nat_cmp_total, on_total, then_total}
use Rattle.std.specs.Cmp.Lexicographic.{lists_total}
use Rattle.std.specs.Map.Iter.{deref}
use Rattle.std.proofs.lemmas.List.Sorted.{answers_always, ranks_by}
use Rattle.acq_core.specs.declared.posting.Posting.{Posting}
use Rattle.acq_book.specs.Lookups.{is_posting_before}
use Rattle.acq_book.specs.Order.{in_order}
use Rattle.acq_list_book.proofs.Sorting.{sorted-in_order, in_order-map}
use Rattle.acq_list_book.proofs.walks.in_order_of_numbers.Goals as goal

pub returns : goal.returns
returns c all is =
    let key : Bor (ℕ × Posting) → List ℕ × ℕ = λ row. (row.now.1.merchant, row.now.0) in
    let rows = c.in_ok-rows.rows.items in
    (ap (map (deref {X = ℕ × Posting})) (sorted-in_order (λ a b. is_posting_before a.now b.now)
    (ranks_by (then_total (on_total (λ (k : List ℕ × ℕ). k.0) (lists_total nat_cmp_total))
    (on_total (λ (k : List ℕ × ℕ). k.1) nat_cmp_total)) key) rows c.sort_by_key.new.self.items
    (c.in_ok-sort_by_key.ensures.sorted key (answers_always _ _ _ (λ f a r q k. search rules)))
    (c.sort_by_key.ensures.stable key (answers_always _ _ _ (λ f a r q k. search rules))))
    ∙ in_order-map deref is_posting_before rows)
    ∙ ap (in_order {X = ℕ × Posting} is_posting_before)
    (subst (λ r. IfOk r (λ found. map (deref {X = ℕ × Posting}) found.items ≡ all)) c.in_ok-rows.was is)
