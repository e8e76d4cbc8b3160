-- What a line does, by what it is.
use Rattle.std.proofs.Common.{◌≡◌, ◌⊎◌, inl, inr, ℕ, List, [], Option, Some, None, Ok, Err, refl, sym, ap}
use Rattle.std.proofs.Common.{◌∙◌}
use Rattle.iso_codec.specs.Message.{IsoMessage}
use Rattle.acq_make.specs.declared.draft.Draft.{Draft}
use Rattle.acq_make.specs.declared.line_kind.LineKind.{LineKind}
use Rattle.acq_make.specs.declared.line_kind.LineKind.TheVariants.{Remark, Empty, Head, Element}
use Rattle.acq_make.specs.declared.make_fault.MakeFault.{MakeFault}
use Rattle.acq_make.specs.declared.make_fault.MakeFault.TheVariants.{BadLine}
use Rattle.acq_make.specs.Contents.{content_said}
use Rattle.acq_make.specs.Lines.{line_kind, said_text}
use Rattle.acq_make.specs.Said.{begun, ended, step, step_by, with_line}

pub or_so : {A B C : Type 0} → (B → C) → A ⊎ B → A ⊎ C
or_so f (inl a) = inl a
or_so f (inr b) = inr (f b)

by_kind : (d : Option Draft) (n : ℕ) (line : List ℕ) (k : Option LineKind) → k ≡ line_kind line
    → step d n line ≡ step_by k d n line
unfolding step
by_kind d n line k is = ap (λ (o : Option LineKind). step_by o d n line) (sym is)

pub bad_step : (d : Option Draft) (n : ℕ) (line : List ℕ) → None ≡ line_kind line
    → step d n line ≡ Err (BadLine n)
bad_step d n line is = by_kind d n line None is

pub remark_step : (d : Option Draft) (n : ℕ) (line : List ℕ) → Some Remark ≡ line_kind line
    → step d n line ≡ Ok ([], d)
remark_step d n line is = by_kind d n line (Some Remark) is

pub empty_step : (d next : Option Draft) (n : ℕ) (line : List ℕ) (messages : List IsoMessage)
    → Some Empty ≡ line_kind line → next ≡ None → ended d ≡ Ok messages
    → step d n line ≡ Ok (messages, next)
empty_step d next n line messages is none ends = by_kind d n line (Some Empty) is ∙ rw (ends, none) refl

pub empty_stops : (d : Option Draft) (n : ℕ) (line : List ℕ) (f : MakeFault)
    → Some Empty ≡ line_kind line → ended d ≡ Err f → step d n line ≡ Err f
empty_stops d n line f is ends = by_kind d n line (Some Empty) is ∙ rw ends refl

pub head_step : (d : Option Draft) (n : ℕ) (line kind : List ℕ) (messages : List IsoMessage)
    (next : Draft) → Some (Head kind) ≡ line_kind line → ended d ≡ Ok messages
    → begun n kind ≡ Ok next → step d n line ≡ Ok (messages, Some next)
head_step d n line kind messages next is ends begins =
    by_kind d n line (Some (Head kind)) is ∙ rw (ends, begins) refl

pub head_stops : (d : Option Draft) (n : ℕ) (line kind : List ℕ) (f : MakeFault)
    → Some (Head kind) ≡ line_kind line → ended d ≡ Err f → step d n line ≡ Err f
head_stops d n line kind f is ends = by_kind d n line (Some (Head kind)) is ∙ rw ends refl

pub head_unbegun : (d : Option Draft) (n : ℕ) (line kind : List ℕ) (messages : List IsoMessage)
    (f : MakeFault) → Some (Head kind) ≡ line_kind line → ended d ≡ Ok messages
    → begun n kind ≡ Err f → step d n line ≡ Err f
head_unbegun d n line kind messages f is ends begins =
    by_kind d n line (Some (Head kind)) is ∙ rw (ends, begins) refl

pub element_step : (d : Option Draft) (n : ℕ) (line : List ℕ) (e : ℕ) (next : Draft)
    → Some (Element e) ≡ line_kind line
    → with_line n d e (content_said e (said_text e line)) ≡ Ok next
    → step d n line ≡ Ok ([], Some next)
element_step d n line e next is with =
    by_kind d n line (Some (Element e)) is ∙ rw with refl

pub element_stops : (d : Option Draft) (n : ℕ) (line : List ℕ) (e : ℕ) (f : MakeFault)
    → Some (Element e) ≡ line_kind line
    → with_line n d e (content_said e (said_text e line)) ≡ Err f → step d n line ≡ Err f
element_stops d n line e f is with = by_kind d n line (Some (Element e)) is ∙ rw with refl
