-- Words that are said to a gateway, and the lines of rows behind them.
use Rattle.std.proofs.Common.{◌≡◌, ◌∙◌, ◌++◌, ◌∷◌, ℕ, List, [], None, IfOk, inl, inr, ⊎_elim}
use Rattle.std.proofs.Common.{refl, sym, ap, append-nil, append_assoc}
use Rattle.std.specs.Prelude.{Result, Ok, Err}
use Rattle.std.specs.List.{concat}
use Rattle.acq_book.specs.declared.book_fault.BookFault.{BookFault}
use Rattle.acq_core.specs.Tables.{Tables}
use Rattle.acq_gateway.specs.declared.gateway.Gateway.{Gateway}
use Rattle.acq_gateway.specs.Telling.{AddsRows, AreWords, Begins, IsWord, MayMiss, Says}
use Rattle.acq_gateway.specs.Telling.{Tells, missing_line}

concat_both : (a b : List (List ℕ)) → concat (a ++ b) ≡ concat a ++ concat b
concat_both [] b = refl
concat_both (x ∷ a) b =
    ap (λ l. x ++ l) (concat_both a b) ∙ sym (append_assoc x (concat a) (concat b))

-- what is added behind what was added
added : (front first then : List ℕ) {mid back : List ℕ} → mid ≡ front ++ first →
    back ≡ mid ++ then → back ≡ front ++ (first ++ then)
added front first then one two =
    two ∙ ap (λ l. l ++ then) one ∙ append_assoc front first then

-- words behind words
joined : (front : List ℕ) (a b : List (List ℕ)) {mid back : List ℕ} → mid ≡ front ++ concat a →
    back ≡ mid ++ concat b → back ≡ front ++ concat (a ++ b)
joined front a b one two =
    added front (concat a) (concat b) one two ∙ ap (λ l. front ++ l) (sym (concat_both a b))

module _ (t : Tables) (moment : ℕ) where
  are_both : (a b : List (List ℕ)) → AreWords t moment a → AreWords t moment b →
      AreWords t moment (a ++ b)
  are_both [] b left right = right
  are_both (x ∷ a) b left right = (left.0, are_both a b left.1 right)

  pub says_none : (a b : Gateway) → b.output ≡ a.output → b.rows ≡ a.rows → b.from ≡ a.from →
      b.gone ≡ a.gone → Says t moment a b
  says_none a b output rows from gone = record {
    words = [];
    are = tt;
    output = ap (λ o. o.items) output ∙ sym (append-nil a.output.items);
    rows = rows;
    from = from;
    gone = gone;
  }

  pub says_one : (a b : Gateway) (word : List ℕ) → IsWord t moment word →
      b.output.items ≡ a.output.items ++ word → b.rows ≡ a.rows → b.from ≡ a.from →
      b.gone ≡ a.gone → Says t moment a b
  says_one a b word is output rows from gone = record {
    words = word ∷ [];
    are = (is, tt);
    output = output ∙ ap (λ l. a.output.items ++ l) (sym (append-nil word));
    rows = rows;
    from = from;
    gone = gone;
  }

  -- one behind the other
  pub says_both : (a b c : Gateway) → Says t moment a b → Says t moment b c → Says t moment a c
  says_both a b c one two = record {
    words = one.words ++ two.words;
    are = are_both one.words two.words one.are two.are;
    output = joined a.output.items one.words two.words one.output two.output;
    rows = two.rows ∙ one.rows;
    from = two.from ∙ one.from;
    gone = two.gone ∙ one.gone;
  }

  missed : (a b : Gateway) → MayMiss a b →
      (words : List (List ℕ)) × AreWords t moment words
      × (b.output.items ≡ a.output.items ++ concat words)
  missed a b (gone, inl same) = ([], tt, ap (λ o. o.items) same ∙ sym (append-nil a.output.items))
  missed a b (gone, inr line) = (
    missing_line line.0 ∷ [],
    (inr (inl (line.0, refl)), tt),
    line.1 ∙ ap (λ l. a.output.items ++ l) (sym (append-nil (missing_line line.0))),
  )

  -- words, and then rows
  tells : (a b c d e : Gateway) → Says t moment a b → MayMiss b c → Begins b c.rows →
      c.from ≡ None → Says t moment c d → AddsRows t moment d e → Tells t moment a e
  tells a b c d e one may begins taken two rows =
      let m = missed b c may in
      let first = one.words ++ m.0 in record {
        words = first ++ two.words;
        are = are_both first two.words (are_both one.words m.0 one.are m.1) two.are;
        told = d.rows;
        begins = ⊎_elim (λ p. inl (two.rows ∙ p ∙ one.rows))
            (λ p. inr (p.0, sym one.from ∙ p.1, two.rows ∙ p.2)) begins;
        lines = rows.0;
        rows = rows.2;
        output = added a.output.items (concat (first ++ two.words)) rows.0
            (joined a.output.items first two.words
            (joined a.output.items one.words m.0 one.output m.2) two.output)
            rows.1;
        gone = rows.3 ∙ two.gone ∙ may.0 ∙ one.gone;
        from = rows.4 ∙ two.from ∙ taken;
      }

  -- where they were told
  pub tells_if : (a b c d e : Gateway) (r : Result (Unit {0}) BookFault) → Says t moment a b →
      MayMiss b c → Begins b c.rows → c.from ≡ None → Says t moment c d →
      IfOk r (λ done. AddsRows t moment d e) → IfOk r (λ done. Tells t moment a e)
  tells_if a b c d e (Ok done) one may begins taken two rows =
      tells a b c d e one may begins taken two rows
  tells_if a b c d e (Err fault) one may begins taken two rows = rows
