use Rattle.std.proofs.Common.{◌≡◌, ◌∙◌, IfOk, subst, ℕ, List, ap, map, Bor, rules}
use Rattle.std.specs.Cmp.{nat_cmp_total, on_total, then_total}
use Rattle.std.specs.Cmp.Lexicographic.{lists_total}
use Rattle.std.specs.Map.Iter.{deref}
use Rattle.std.proofs.lemmas.List.Sorted.{answers_always, ranks_by}
use Rattle.acq_core.specs.declared.terminal.Terminal.{Terminal}
use Rattle.acq_book.specs.Lookups.{is_terminal_before}
use Rattle.acq_book.specs.Order.{in_order}
use Rattle.acq_list_book.proofs.Sorting.{sorted-in_order, in_order-map}
use Rattle.acq_list_book.proofs.walks.in_order_of_terminals.Goals as goal

pub returns : goal.returns
returns c all is =
    let key : Bor Terminal → List ℕ × List ℕ = λ row. (row.now.merchant, row.now.id) in
    let rows = c.in_ok-rows.rows.items in
    (ap (map (deref {X = Terminal})) (sorted-in_order (λ a b. is_terminal_before a.now b.now)
    (ranks_by (then_total (on_total (λ (k : List ℕ × List ℕ). k.0) (lists_total nat_cmp_total))
    (on_total (λ (k : List ℕ × List ℕ). k.1) (lists_total nat_cmp_total))) key) rows c.sort_by_key.new.self.items
    (c.in_ok-sort_by_key.ensures.sorted key (answers_always _ _ _ (λ f a r q k. search rules)))
    (c.sort_by_key.ensures.stable key (answers_always _ _ _ (λ f a r q k. search rules))))
    ∙ in_order-map deref is_terminal_before rows)
    ∙ ap (in_order {X = Terminal} is_terminal_before)
    (subst (λ r. IfOk r (λ found. map (deref {X = Terminal}) found.items ≡ all)) c.in_ok-rows.was is)
