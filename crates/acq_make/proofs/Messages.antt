-- What a text says are messages, each of which a frame can have.
use Rattle.std.proofs.Common.{◌≡◌, ℕ, ◌+◌, List, [], ◌∷◌, ◌++◌}
use Rattle.std.proofs.Common.{length, Option, Some, None, Ok, Err, refl, sym, ap, subst, ◌∙◌, inl, inr}
use Rattle.std.proofs.Common.{arith}
use Rattle.std.specs.Prelude.{◌==◌, ◌&&◌, Result, is_some, nat_le, slice_index_or}
use Rattle.std.specs.Char.{is_ascii_digit}
use Rattle.std.specs.List.{All, list_all}
use Rattle.std.specs.Str.Parse.{digits_value}
use Rattle.std.proofs.lemmas.Bool.{cases_Bool, eqb-true}
use Rattle.std.proofs.lemmas.List.Elements.{All-append}
use Rattle.iso_codec.proofs.ElementPlaces.{message_with}
use Rattle.iso_codec.specs.Message.{IsMessage, IsoMessage, content_of}
use Rattle.iso_codec.specs.Reading.{spelling}
use Rattle.iso_codec.specs.Setting.{set_fault}
use Rattle.iso_codec.specs.declared.set_fault.SetFault.{SetFault}
use Rattle.acq_link.specs.Frames.{fits_frame}
use Rattle.acq_link.specs.HexLines.{lines_of, without_return}
use Rattle.acq_show.specs.Names.{is_empty}
use Rattle.acq_make.specs.declared.draft.Draft.{Draft}
use Rattle.acq_make.specs.declared.line_kind.LineKind.{LineKind}
use Rattle.acq_make.specs.declared.line_kind.LineKind.TheVariants.{Remark, Empty, Head, Element}
use Rattle.acq_make.specs.declared.make_fault.MakeFault.{MakeFault}
use Rattle.acq_make.specs.Contents.{content_said}
use Rattle.acq_make.specs.Lines.{behind_spaces, first_word, is_remark, line_kind, said_text}
use Rattle.acq_make.specs.Lines.{word_kind}
use Rattle.acq_make.specs.Said.{IsSent, begun, ended, in_front, messages_said, said_behind, step, step_by}
use Rattle.acq_make.specs.Said.{with_element, with_line, ◌>>=◌}

-- ---- lists

all_none : All IsSent []
all_none = λ k d less. absurd (omega (arith, less))

all_one : (m : IsoMessage) → IsSent m → All IsSent (m ∷ [])
all_one m sent = λ k d less.
    let at : k ≡ 0 = omega (arith, less) in
    subst (λ (i : ℕ). IsSent (slice_index_or (m ∷ []) i d)) (sym at) sent

-- ---- results

abbrev fine : {A : Type 0} → A → Result A MakeFault
fine a = Ok a

ok_is : {A : Type 0} (a b : A) → fine a ≡ fine b → a ≡ b
ok_is a b is = cc

bind_ok : {A B : Type 0} (r : Result A MakeFault) (f : A → Result B MakeFault) (b : B)
    → (r >>= f) ≡ Ok b → (a : A) × (r ≡ Ok a) × (f a ≡ Ok b)
bind_ok (Ok a) f b is = (a, refl, is)
bind_ok (Err e) f b is = absurd (cc)

-- ---- a message

IsDraft : Option Draft → Type 0
IsDraft None = Unit {0}
IsDraft (Some d) = IsMessage d.message

ended_sent : (d : Option Draft) (ms : List IsoMessage) → IsDraft d → ended d ≡ Ok ms → All IsSent ms
unfolding ended IsDraft
ended_sent None ms is done = subst (λ (x : List IsoMessage). All IsSent x) (ok_is _ _ done) all_none
ended_sent (Some d) ms is done =
    elim (cases_Bool (fits_frame (spelling d.message))) [
      | inl fits ↦
          let own : Ok (d.message ∷ []) ≡ Ok ms = rw fits at done in
          subst (λ (x : List IsoMessage). All IsSent x) (ok_is _ _ own)
          (all_one d.message (record { is = is; fits = fits }))
      | inr long ↦ let no = rw long at done in absurd (cc)
    ]

begun_draft : (line : ℕ) (kind : List ℕ) (d : Draft) → length kind ≡ 4 → begun line kind ≡ Ok d
    → IsMessage d.message
unfolding begun
begun_draft line kind d size done =
    elim (cases_Bool (list_all is_ascii_digit kind)) [
      | inl digits ↦
          let own = rw digits at done in
          subst (λ (x : Draft). IsMessage x.message) (ok_is _ _ own)
          (record { kind_fits = record { size = size; digits = digits }; each = refl; ascends = tt })
      | inr other ↦ let no = rw other at done in absurd (cc)
    ]

element_draft : (o : Option SetFault) (line : ℕ) (d next : Draft) (n : ℕ) (c : List ℕ)
    → set_fault n c ≡ o → IsMessage d.message → with_element o line d n c ≡ Ok next
    → IsMessage next.message
element_draft (Some fault) line d next n c fault_is is done = absurd (cc)
element_draft None line d next n c fault_is is done =
    subst (λ (x : Draft). IsMessage x.message) (ok_is _ _ done)
    (message_with d.message.kind d.message.elements n c is fault_is)

line_draft : (line : ℕ) (d : Option Draft) (n : ℕ) (o : Option (List ℕ)) (next : Draft)
    → IsDraft d → with_line line d n o ≡ Ok next → IsMessage next.message
unfolding with_line IsDraft
line_draft line None n o next is done = absurd (cc)
line_draft line (Some d) n None next is done = absurd (cc)
line_draft line (Some d) n (Some c) next is done =
    elim (cases_Bool (is_some (content_of d.message.elements n))) [
      | inl twice ↦ let no = rw twice at done in absurd (cc)
      | inr new ↦ element_draft (set_fault n c) line d next n c refl is (rw new at done)
    ]

-- ---- lines

word_head : (word kind : List ℕ) → word_kind word ≡ Some (Head kind) → length kind ≡ 4
word_head word kind is =
    elim (cases_Bool (length word == 4)) [
      | inl four ↦
          let own : Some (Head word) ≡ Some (Head kind) = rw four at is in
          let same : word ≡ kind = cc in
          sym (ap length same) ∙ eqb-true (length word) 4 four
      | inr other ↦ elim (cases_Bool (nat_le (length word) 3 && list_all is_ascii_digit word
          && nat_le (digits_value 10 word) 128)) [
            | inl number ↦ let no = rw (other, number) at is in absurd (cc)
            | inr neither ↦ let no = rw (other, neither) at is in absurd (cc)
          ]
    ]

head_size : (line kind : List ℕ) → line_kind line ≡ Some (Head kind) → length kind ≡ 4
unfolding line_kind
head_size line kind is =
    let text : List ℕ = behind_spaces line in
    elim (cases_Bool (is_empty text)) [
      | inl empty ↦ let no = rw empty at is in absurd (cc)
      | inr full ↦ elim (cases_Bool (is_remark text)) [
        | inl remark ↦ let no = rw (full, remark) at is in absurd (cc)
        | inr other ↦ word_head (first_word text) kind (rw (full, other) at is)
      ]
    ]

Keeps : List IsoMessage × Option Draft → Type 0
Keeps x = All IsSent x.0 × IsDraft x.1

by_kind : (k : Option LineKind) (d : Option Draft) (n : ℕ) (line : List ℕ)
    (x : List IsoMessage × Option Draft) → line_kind line ≡ k → IsDraft d
    → step_by k d n line ≡ Ok x → Keeps x
unfolding Keeps IsDraft
by_kind None d n line x kind is done = absurd (cc)
by_kind (Some Remark) d n line x kind is done =
    subst Keeps (ok_is _ _ done) (all_none, is)
by_kind (Some Empty) d n line x kind is done =
    let ends = bind_ok (ended d) (λ messages. Ok (messages, None)) x done in
    subst Keeps (ok_is _ _ ends.2) (ended_sent d ends.0 is ends.1, tt)
by_kind (Some (Head word)) d n line x kind is done =
    let ends = bind_ok (ended d)
    (λ messages. begun n word >>= (λ next. Ok (messages, Some next))) x done in
    let begins = bind_ok (begun n word) (λ next. Ok (ends.0, Some next)) x ends.2 in
    subst Keeps (ok_is _ _ begins.2)
    (ended_sent d ends.0 is ends.1, begun_draft n word begins.0 (head_size line word kind) begins.1)
by_kind (Some (Element e)) d n line x kind is done =
    let with = bind_ok (with_line n d e (content_said e (said_text e line)))
    (λ next. Ok ([], Some next)) x done in
    subst Keeps (ok_is _ _ with.2)
    (all_none, line_draft n d e (content_said e (said_text e line)) with.0 is with.1)

front_ok : (some : List IsoMessage) (r : Result (List IsoMessage) MakeFault) (ms : List IsoMessage)
    → in_front some r ≡ Ok ms
    → (others : List IsoMessage) × (r ≡ Ok others) × (some ++ others ≡ ms)
unfolding in_front
front_ok some (Ok others) ms is = (others, refl, ok_is _ _ is)
front_ok some (Err f) ms is = absurd (cc)

behind_sent : (lines : List (List ℕ)) (d : Option Draft) (k : ℕ) (ms : List IsoMessage) → IsDraft d
    → said_behind d k lines ≡ Ok ms → All IsSent ms
unfolding said_behind step Keeps
behind_sent [] d k ms is done = ended_sent d ms is done
behind_sent (line ∷ lines) d k ms is done =
    let now = bind_ok (step d (k + 1) (without_return line))
    (λ x. in_front x.0 (said_behind x.1 (k + 1) lines)) ms done in
    let keeps = by_kind (line_kind (without_return line)) d (k + 1) (without_return line) now.0 refl is
    now.1 in
    let later = front_ok now.0.0 (said_behind now.0.1 (k + 1) lines) ms now.2 in
    subst (λ (x : List IsoMessage). All IsSent x) later.2
    (All-append IsSent now.0.0 later.0 keeps.0
    (behind_sent lines now.0.1 (k + 1) later.0 keeps.1 later.1))

pub said_are_sent : (text : List ℕ) (ms : List IsoMessage) → messages_said text ≡ Ok ms
    → All IsSent ms
unfolding messages_said IsDraft
said_are_sent text ms is = behind_sent (lines_of text) None 0 ms tt is
