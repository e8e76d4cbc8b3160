use Rattle.std.proofs.Common.{ap, sym, ◌∙◌, ◌≡◌, List, ℕ, [], ◌++◌, append_assoc, subst}
use Rattle.std.proofs.lemmas.List.{append-nil}
use Rattle.std.proofs.lemmas.Result.{on_ok_weaker}
use Rattle.iso_codec.specs.Message.{IsMessage, numbers, body}
use Rattle.iso_codec.specs.Reading.{Extends}
use Rattle.iso_codec.specs.Setting.{Marks}
use Rattle.iso_codec.specs.Span.{numbers_of}
use Rattle.iso_codec.proofs.SpanElements.{numbers-elements_in, numbers_of_range}
use Rattle.iso_codec.proofs.WrittenIsRead.{written}
use Rattle.iso_codec.proofs.encoding.push_message.Goals as goal

pub bitmaps_of-bitmaps-requires : goal.bitmaps_of-bitmaps-requires
bitmaps_of-bitmaps-requires c =
    numbers_of_range c.parts.result.1.now c.parts.result.0.now c.parts.ensures.stored.message.each

pub returns-clause-ok : goal.returns-clause-ok
returns-clause-ok c =
    let m = c.args.message.now in
    let spans = c.parts.result.0.now in
    let bytes = c.parts.result.1.now in
    let es = c.parts.ensures.value in
    let stored = c.parts.ensures.stored.message in
    let p = c.in_ok-push_bitmaps.ensures.ok in
    let ns : numbers_of spans ≡ numbers m.elements = sym (numbers-elements_in bytes spans)
    ∙ ap numbers es in
    let marks = subst (λ (x : List ℕ). Marks x c.bitmaps_of-bitmaps.result) ns
    c.bitmaps_of-bitmaps.ensures in
    let whole = subst (λ (x : List (ℕ × List ℕ)). IsMessage
    (record { kind = m.kind; elements = x })) es stored in
    let text : List ℕ = m.kind ++ (p.0 ++ body m.elements) in
    let head : c.extend_from_slice.new.self.items ≡ c.args.out.now.items ++ m.kind =
    c.in_ok-extend_from_slice.ensures.items ∙ ap (λ (k : List ℕ). c.reserve.new.self.items ++ k)
    c.kind.ensures
    ∙ ap (λ (x : List ℕ). x ++ m.kind) c.reserve.ensures.items in
    on_ok_weaker c.push_body.result (λ h. (
      text,
      written m c.bitmaps_of-bitmaps.result p.0 whole marks p.1 p.2,
      h ∙ ap (λ (x : List (ℕ × List ℕ)). c.push_bitmaps.new.out.items ++ body x) es
          ∙ ap (λ (x : List ℕ). x ++ body m.elements) (p.3 ∙ ap (λ (x : List ℕ). x ++ p.0) head)
          ∙ simp append_assoc,
    )) c.push_body.ensures.ok

-- what grew twice grew
onward : (a b c : List ℕ) → Extends a b → Extends b c → Extends a c
onward a b c x y = (x.0 ++ y.0, y.1 ∙ ap (λ (l : List ℕ). l ++ y.0) x.1 ∙ append_assoc a x.0 y.0)

same : (a b : List ℕ) → b ≡ a → Extends a b
same a b h = ([], h ∙ sym (append-nil a))

pub returns-in_err-reserve-clause-grows : goal.returns-in_err-reserve-clause-grows
returns-in_err-reserve-clause-grows c =
    same c.args.out.now.items c.reserve.new.self.items c.reserve.ensures.items

pub returns-in_err-extend_from_slice-clause-grows :
    goal.returns-in_err-extend_from_slice-clause-grows
returns-in_err-extend_from_slice-clause-grows c =
    same c.args.out.now.items c.extend_from_slice.new.self.items
    (c.in_err-extend_from_slice.ensures.items ∙ c.reserve.ensures.items)

pub returns-in_err-push_bitmaps-clause-grows : goal.returns-in_err-push_bitmaps-clause-grows
returns-in_err-push_bitmaps-clause-grows c =
    let out = c.args.out.now.items in
    let kind : Extends out c.extend_from_slice.new.self.items =
    onward out c.reserve.new.self.items c.extend_from_slice.new.self.items
    (same out c.reserve.new.self.items c.reserve.ensures.items)
    (c.kind.result, c.in_ok-extend_from_slice.ensures.items) in
    onward out c.extend_from_slice.new.self.items c.push_bitmaps.new.out.items kind
    c.push_bitmaps.ensures.grows

pub returns-clause-grows : goal.returns-clause-grows
returns-clause-grows c =
    let out = c.args.out.now.items in
    let kind : Extends out c.extend_from_slice.new.self.items =
    onward out c.reserve.new.self.items c.extend_from_slice.new.self.items
    (same out c.reserve.new.self.items c.reserve.ensures.items)
    (c.kind.result, c.in_ok-extend_from_slice.ensures.items) in
    let bitmaps : Extends out c.push_bitmaps.new.out.items =
    onward out c.extend_from_slice.new.self.items c.push_bitmaps.new.out.items kind
    c.push_bitmaps.ensures.grows in
    onward out c.push_bitmaps.new.out.items c.push_body.new.out.items bitmaps
    c.push_body.ensures.grows
