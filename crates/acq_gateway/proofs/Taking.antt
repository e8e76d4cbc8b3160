-- Lines of a gateway that are taken, one behind the other.
use Rattle.std.proofs.Common.{◌≡◌, ◌⊎◌, ◌∙◌, ◌++◌, ◌∷◌, ℕ, List, [], None, inl, inr}
use Rattle.std.proofs.Common.{refl, sym, ap, append-nil, append_assoc}
use Rattle.acq_gateway.specs.declared.gateway.Gateway.{Gateway}
use Rattle.acq_gateway.specs.Telling.{Stays, Takes, bad_line, bad_lines}

bad_both : (a b : List ℕ) → bad_lines (a ++ b) ≡ bad_lines a ++ bad_lines b
bad_both [] b = refl
bad_both (n ∷ a) b =
    ap (λ l. bad_line n ++ l) (bad_both a b)
    ∙ sym (append_assoc (bad_line n) (bad_lines a) (bad_lines b))

-- none
pub takes_none : (a : Gateway) → Takes a a
takes_none a = record {
  bad = [];
  output = sym (append-nil a.output.items);
  gone = refl;
  asks = inl (refl, refl);
}

pub takes_stays : (a b : Gateway) → Stays a b → Takes a b
takes_stays a b same = record {
  bad = [];
  output = ap (λ o. o.items) same.output ∙ sym (append-nil a.output.items);
  gone = same.gone;
  asks = inl (same.rows, same.from);
}

-- one that is out of its form
pub takes_bad : (a b : Gateway) (number : ℕ) → b.output.items ≡ a.output.items ++ bad_line number →
    b.rows ≡ a.rows → b.from ≡ a.from → b.gone ≡ a.gone → Takes a b
takes_bad a b number output rows from gone = record {
  bad = number ∷ [];
  output = output ∙ ap (λ l. a.output.items ++ l) (sym (append-nil (bad_line number)));
  gone = gone;
  asks = inl (rows, from);
}

-- one that asks for rows
pub takes_from : (a b : Gateway) → b.output ≡ a.output → b.rows ≡ None → b.gone ≡ a.gone → Takes a b
takes_from a b output rows gone = record {
  bad = [];
  output = ap (λ o. o.items) output ∙ sym (append-nil a.output.items);
  gone = gone;
  asks = inr rows;
}

-- some, and then others
pub takes_both : (a b c : Gateway) → Takes a b → Takes b c → Takes a c
takes_both a b c one two = record {
  bad = one.bad ++ two.bad;
  output = two.output ∙ ap (λ l. l ++ bad_lines two.bad) one.output
      ∙ append_assoc a.output.items (bad_lines one.bad) (bad_lines two.bad)
      ∙ ap (λ l. a.output.items ++ l) (sym (bad_both one.bad two.bad));
  gone = two.gone ∙ one.gone;
  asks = asks_both one.asks two.asks;
} where
  asks_both : ((b.rows ≡ a.rows) × (b.from ≡ a.from)) ⊎ (b.rows ≡ None) →
      ((c.rows ≡ b.rows) × (c.from ≡ b.from)) ⊎ (c.rows ≡ None) →
      ((c.rows ≡ a.rows) × (c.from ≡ a.from)) ⊎ (c.rows ≡ None)
  asks_both first (inr none) = inr none
  asks_both (inl same) (inl still) = inl (still.0 ∙ same.0, still.1 ∙ same.1)
  asks_both (inr none) (inl still) = inr (still.0 ∙ none)
