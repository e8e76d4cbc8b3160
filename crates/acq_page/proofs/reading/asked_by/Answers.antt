use Rattle.std.proofs.Common.{◌≡◌, ◌≤◌, ◌<◌, ◌+◌, ◌∙◌, ℕ, Bool, true, false, List, [], ◌∷◌, length}
use Rattle.std.proofs.Common.{map, take, drop, get_or, codes, sym, ap, refl, subst}
use Rattle.std.specs.Prelude.{◌||◌, if◌then◌else◌}
use Rattle.std.specs.List.{list_any}
use Rattle.std.specs.Str.{bytes_eq}
use Rattle.std.proofs.lemmas.List.{take_all}
use Rattle.std.proofs.lemmas.List.Folds.{list_any_more}
use Rattle.httparse.specs.Grammar.{Field}
use Rattle.httparse.specs.Spans.{span_bytes, header_bytes, name_and_value, AreFieldsAt, IsRequestOf}
use Rattle.httparse.specs.declared.spans.HeaderSpan.{HeaderSpan}
use Rattle.httparse.specs.declared.spans.RequestSpans.{RequestSpans}
use Rattle.acq_page.specs.Requests.{AsksFor, IsAskedSo, asked_of, is_other_host, name_other_host}
use Rattle.acq_page.specs.Requests.{request}
use Rattle.acq_page.specs.declared.asked.Asked.{Asked}
use Rattle.acq_page.specs.declared.asked.Asked.TheVariants.{Page, Metrics, Missing, OtherHost}
use Rattle.acq_page.specs.declared.asked.Asked.TheVariants.{OtherMethod}
use Rattle.acq_page.specs.declared.request.Request.{Request}
use Rattle.acq_page.proofs.reading.asked_by.Goals as goal

abbrev named : Bool → Bool → Bool → Asked
named other page metrics =
    if other then OtherHost else if page then Page else if metrics then Metrics else Missing

-- a head that is there is neither none nor too long, whatever its target and its host
named_so : (bytes : List ℕ) (asked : Request) (other page metrics : Bool)
    → AsksFor bytes asked → IsAskedSo bytes asked (named other page metrics)
named_so bytes asked true page metrics asks = asks
named_so bytes asked false true metrics asks = asks
named_so bytes asked false false true asks = asks
named_so bytes asked false false false asks = asks

-- and whatever its method
asked_so : (bytes : List ℕ) (asked : Request) (get head other page metrics : Bool)
    → AsksFor bytes asked
    → IsAskedSo bytes asked
    (if get then request (named other page metrics) true
    else if head then request (named other page metrics) false
    else request OtherMethod true).asked
asked_so bytes asked true head other page metrics asks =
    named_so bytes asked other page metrics asks
asked_so bytes asked false true other page metrics asks =
    named_so bytes asked other page metrics asks
asked_so bytes asked false false other page metrics asks = asks

any-map : {A B : Type 0} (test : B → Bool) (f : A → B) (items : List A)
    → list_any test (map f items) ≡ list_any (λ item. test (f item)) items
any-map test f [] = refl
any-map test f (item ∷ items) = ap (λ more. test (f item) || more) (any-map test f items)

abbrev is_other : List ℕ → HeaderSpan → Bool
is_other bytes field =
    is_other_host (span_bytes bytes field.name) (span_bytes bytes field.value)

-- the spans of a head's fields name another host exactly if its fields do
others : (bytes : List ℕ) (headers : List HeaderSpan) (count : ℕ) (fields : List Field)
    → AreFieldsAt bytes headers count fields
    → list_any (is_other bytes) (take count headers) ≡ name_other_host fields
others bytes headers count fields are =
    let test : List ℕ × List ℕ → Bool = λ field. is_other_host field.0 field.1 in
    sym (any-map test (header_bytes bytes) (take count headers))
    ∙ ap (list_any test) are ∙ any-map test name_and_value fields

so : (bytes : List ℕ) (headers : List HeaderSpan) (spans : RequestSpans)
    (method target : List ℕ) (other : Bool) (at : ℕ) (asked : Request)
    → IsRequestOf bytes headers spans
    → method ≡ span_bytes bytes spans.method → target ≡ span_bytes bytes spans.path
    → other ≡ list_any (is_other bytes) (take at (take spans.headers headers))
    → length (take spans.headers headers) ≤ at
    → asked ≡ asked_of method target other
    → IsAskedSo bytes asked asked.asked
so bytes headers spans method target other at asked (head, is) m t o end a =
    let all : other ≡ name_other_host head.fields =
    o ∙ ap (list_any (is_other bytes)) (take_all at _ end) ∙ others _ _ _ _ is.fields in
    let whole : asked ≡ asked_of head.method head.target (name_other_host head.fields) =
    rw (m ∙ is.method, t ∙ is.path, all) at a in
    subst (λ (it : Request). IsAskedSo bytes asked it.asked) (sym a)
    (asked_so bytes asked (bytes_eq method (codes "GET")) (bytes_eq method (codes "HEAD")) other
    (bytes_eq target (codes "/")) (bytes_eq target (codes "/metrics"))
    (head, drop spans.len bytes, is.reads, whole))

pub returns-after-loop-field : goal.returns-after-loop-field
returns-after-loop-field c =
    let found : IsRequestOf c.args.bytes.now c.parse_request.new.headers c.in-Ok-Complete.head =
    rw c.in-Ok-Complete.field-0-is at c.in-Ok-Complete.ensures.complete in
    so _ _ c.in-Ok-Complete.head _ _ _ c.loop-field.field-index _ found c.of-method.ensures
    c.of-target.ensures c.loop-field.invariant c.loop-field-test.false c.asked_of.ensures

one_more : (bytes : List ℕ) (headers : List HeaderSpan) (at : ℕ) (none : HeaderSpan)
    (so_far one : Bool) (name value : List ℕ)
    → at < length headers
    → so_far ≡ list_any (is_other bytes) (take at headers)
    → name ≡ span_bytes bytes (get_or headers at none).name
    → value ≡ span_bytes bytes (get_or headers at none).value
    → one ≡ is_other_host name value
    → (so_far || one) ≡ list_any (is_other bytes) (take (at + 1) headers)
one_more bytes headers at none so_far one name value less s n v o =
    rw (s, o, n, v, list_any_more (is_other bytes) headers at none less) refl

pub loop-field-preserved : goal.loop-field-preserved
loop-field-preserved c =
    one_more _ _ _ _ _ _ _ _ c.loop-field-test.true c.loop-field.invariant c.of.ensures
    c.of-in-loop-field.ensures c.is_other_host-for_other.ensures
