use Rattle.std.proofs.Common.{◌≡◌, ◌∙◌, ◌+◌, ◌++◌, ℕ, List, [], ◌∷◌, ap, arith, codes}
use Rattle.std.proofs.Common.{rules, sym}
use Rattle.std.proofs.lemmas.List.{flat_map_more, map-id}
use Rattle.std.proofs.lemmas.List.FromFn.{map-range_with_len_more}
use Rattle.std.proofs.lemmas.Result.{on_ok_weaker}
use Rattle.std.specs.List.{flat_map, range_with_len}
use Rattle.acq_status.specs.Replies.{code_line, reply_line}
use Rattle.acq_status.proofs.Appended.{appended}
use Rattle.acq_status.proofs.reply_texts.put_reply_lines.Goals as goal

longer : (n : ℕ) → range_with_len 0 (n + 1) ≡ range_with_len 0 n ++ n ∷ []
longer n =
    sym (map-id (range_with_len 0 (n + 1)))
    ∙ map-range_with_len_more (λ (x : ℕ). x) 0 n n (omega arith)
    ∙ ap (λ (l : List ℕ). l ++ n ∷ []) (map-id (range_with_len 0 n))

-- one code more was put
one_more : (f : ℕ → List ℕ) (old before after : List ℕ) (code : ℕ) →
    before ≡ old ++ flat_map f (range_with_len 0 code) → after ≡ before ++ f code →
    after ≡ old ++ flat_map f (range_with_len 0 (code + 1))
one_more f old before after code so grown =
    grown ∙ ap (λ (l : List ℕ). l ++ f code) so
    ∙ flat_map_more f old (range_with_len 0 code) code
    ∙ ap (λ (l : List ℕ). old ++ flat_map f l) (sym (longer code))

pub loop-code-preserved : goal.loop-code-preserved
loop-code-preserved c =
    let line = code_line c.args.before.now c.args.behind.now c.args.counts.now in
    let before = c.loop-code.text.items in
    let grown : c.put_reply_line.new.text.items ≡ before ++ line c.loop-code.code = search rules in
    one_more line c.args.text.now.items before c.put_reply_line.new.text.items c.loop-code.code
    c.loop-code.invariant grown

pub returns : goal.returns
returns c =
    let line = code_line c.args.before.now c.args.behind.now c.args.counts.now in
    let old = c.args.text.now.items in
    let before = c.loop-code.text.items in
    let all : c.loop-code.code ≡ 100 =
    omega (arith, c.loop-code-test.false, c.loop-code.auto.code-end) in
    let so : before ≡ old ++ flat_map line (range_with_len 0 100) =
    c.loop-code.invariant
    ∙ ap (λ (n : ℕ). old ++ flat_map line (range_with_len 0 n)) all in
    on_ok_weaker c.put_reply_line-2.result
    (appended old (flat_map line (range_with_len 0 100))
    (reply_line c.args.before.now c.args.behind.now (codes "other") c.args.counts.now.other)
    before c.put_reply_line-2.new.text.items so)
    c.put_reply_line-2.ensures
