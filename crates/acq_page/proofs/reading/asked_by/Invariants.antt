use Rattle.std.proofs.Common.{◌≡◌, take}
use Rattle.std.specs.List.{list_any}
use Rattle.httparse.specs.Spans.{span_bytes}
use Rattle.httparse.specs.declared.spans.HeaderSpan.{HeaderSpan}
use Rattle.acq_page.specs.Requests.{is_other_host}
use Rattle.acq_page.proofs.reading.asked_by.Given as goal

-- whether one of the fields so far names another host
abbrev pub invariant-loop-field : goal.invariant-loop-field
invariant-loop-field l =
    l.for_other
    ≡ list_any (λ (field : HeaderSpan). is_other_host (span_bytes l.bytes field.name)
    (span_bytes l.bytes field.value)) (take l.field-index l.field-items)
