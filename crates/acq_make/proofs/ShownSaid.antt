-- What is shown of a message, with what is hidden written whole, says that message.
use Rattle.std.proofs.Common.{◌≡◌, ℕ, ◌+◌, ◌-◌, ◌<◌, zero, suc, Bool, true, false, nat_eq}
use Rattle.std.proofs.Common.{List, [], ◌∷◌, ◌++◌, length, Option, Some, None, Ok, refl, sym, ap}
use Rattle.std.proofs.Common.{◌∙◌, inl, inr, arith, append-nil, append_assoc}
use Rattle.std.specs.Prelude.{◌==◌, codes, if◌then◌else◌, nat_le, slice_index}
use Rattle.std.specs.Fmt.{decimal}
use Rattle.std.specs.List.{flat_map, list_all}
use Rattle.std.proofs.lemmas.Bool.{and_parts, eq-eqb, le-leb, leb-true, ne_eqb}
use Rattle.iso_codec.proofs.ElementPlaces.{text_fits}
use Rattle.iso_codec.proofs.OneMessage.{format_of_element}
use Rattle.iso_codec.proofs.ReadingComputes.{reads_as}
use Rattle.iso_codec.proofs.SpellingComputes.{spelling_writes}
use Rattle.iso_codec.proofs.WrittenIsRead.{all_append, is_read}
use Rattle.iso_codec.specs.Content.{is_printable}
use Rattle.iso_codec.specs.Message.{Ascends, IsKind, IsMessage, IsoMessage, content_of, is_element}
use Rattle.iso_codec.specs.Message.{numbers, with_content}
use Rattle.iso_codec.specs.Reading.{spelling}
use Rattle.iso_codec.specs.Setting.{set_fault}
use Rattle.acq_link.specs.Frames.{fits_frame}
use Rattle.acq_link.specs.HexLines.{lines_of}
use Rattle.acq_show.specs.Names.{element_name}
use Rattle.acq_show.specs.Contents.{content_shown}
use Rattle.acq_show.specs.Remarks.{message_remark}
use Rattle.acq_show.specs.Shown.{element_line, reading_shown, shown, spaces, type_line}
use Rattle.acq_make.specs.declared.draft.Draft.{Draft}
use Rattle.acq_make.specs.declared.line_kind.LineKind.TheVariants.{Head}
use Rattle.acq_make.specs.Contents.{content_said}
use Rattle.acq_make.specs.Lines.{line_kind, said_text}
use Rattle.acq_make.specs.Said.{begun, ended, in_front, messages_said, said_behind, step}
use Rattle.acq_make.specs.Said.{with_line}
use Rattle.acq_make.specs.WrittenOut.{content_written, is_open, is_writable, line_written}
use Rattle.acq_make.specs.WrittenOut.{written_out}
use Rattle.acq_make.proofs.ContentsBack.{content_back, unhidden}
use Rattle.acq_make.proofs.Inner.{both, digits_inner, words_inner, written_inner}
use Rattle.acq_make.proofs.Ended.{ended_none, ended_whole}
use Rattle.acq_make.proofs.Known.{Known, known}
use Rattle.acq_make.proofs.NumberLines.{bare_head, element_kind, element_text, named_head, remark_kind}
use Rattle.acq_make.proofs.Remarks.{IsRemark, is_remark_text}
use Rattle.acq_make.proofs.SaidInTurn.{none_in_front}
use Rattle.acq_make.proofs.Steps.{element_step, head_step, remark_step}
use Rattle.acq_make.proofs.Texts.{is_inner, is_not, line_front, no_return, one_line}

abbrev Content : Type 0
Content = ℕ × List ℕ

-- ---- one line

-- what lines say, the first of which does so
first_does : (d next : Option Draft) (k : ℕ) (line rest : List ℕ) (messages : List IsoMessage)
    → one_line line ≡ true → step d (k + 1) line ≡ Ok (messages, next)
    → said_behind d k (lines_of (line ++ (10 ∷ rest)))
    ≡ in_front messages (said_behind next (k + 1) (lines_of rest))
unfolding said_behind
first_does d next k line rest messages inner does =
    let own = ap (λ (l : List ℕ). step d (k + 1) l) (no_return line inner) ∙ does in
    ap (said_behind d k) (line_front line rest inner) ∙ rw own refl

-- ---- elements

spaces_inner : (k : ℕ) → one_line (spaces k) ≡ true
spaces_inner zero = refl
spaces_inner (suc k) = spaces_inner k

body_of : ℕ → List ℕ → List ℕ
body_of n content =
    spaces (5 - length (decimal n)) ++ (decimal n ++ (32 ∷ (32 ∷ (element_name n
    ++ (spaces (34 - length (element_name n)) ++ content)))))

line_is : (s d name f c rest : List ℕ) → (s ++ d ++ codes "  " ++ name ++ f ++ c ++ codes "\n") ++ rest
    ≡ (s ++ (d ++ (32 ∷ (32 ∷ (name ++ (f ++ c)))))) ++ (10 ∷ rest)
line_is s d name f c rest = simp append_assoc

body_inner : (n : ℕ) (content : List ℕ) → Known n → one_line content ≡ true
    → one_line (body_of n content) ≡ true
unfolding body_of
body_inner n content is inner =
    let f : List ℕ = spaces (34 - length (element_name n)) in
    let filled = all_append is_inner f content (spaces_inner (34 - length (element_name n))) inner in
    let named = all_append is_inner (element_name n) (f ++ content) is.line filled in
    let numbered = all_append is_inner (decimal n) (32 ∷ (32 ∷ (element_name n ++ (f ++ content))))
    is.number named in
    all_append is_inner (spaces (5 - length (decimal n))) _ (spaces_inner (5 - length (decimal n)))
    numbered

-- all numbers are that or lower
abbrev pub up_to : ℕ → List Content → Bool
up_to low es = list_all (λ e. nat_le e.0 low) es

pub none_yet : (es : List Content) (low n : ℕ) → up_to low es ≡ true → low < n
    → content_of es n ≡ None
none_yet [] low n all less = refl
none_yet (e ∷ es) low n all less =
    let parts = and_parts (nat_le e.0 low) (up_to low es) all in
    let bound = leb-true e.0 low parts.0 in
    let other : (n == e.0) ≡ false = ne_eqb n e.0 (λ is. absurd (omega (arith, is, bound, less))) in
    rw other (none_yet es low n parts.1 less)

pub goes_last : (es : List Content) (low n : ℕ) (c : List ℕ) → up_to low es ≡ true → low < n
    → with_content es n c ≡ es ++ (n, c) ∷ []
goes_last [] low n c all less = refl
goes_last (e ∷ es) low n c all less =
    let parts = and_parts (nat_le e.0 low) (up_to low es) all in
    let bound = leb-true e.0 low parts.0 in
    let other : (n == e.0) ≡ false = ne_eqb n e.0 (λ is. absurd (omega (arith, is, bound, less))) in
    let lower : nat_le e.0 n ≡ true = le-leb e.0 n (omega (arith, bound, less)) in
    rw (lower, other) (ap (λ (x : List Content). e ∷ x) (goes_last es low n c parts.1 less))

higher : (es : List Content) (low n : ℕ) → up_to low es ≡ true → low < n → up_to n es ≡ true
higher [] low n all less = refl
higher (e ∷ es) low n all less =
    let parts = and_parts (nat_le e.0 low) (up_to low es) all in
    let bound = leb-true e.0 low parts.0 in
    let lower : nat_le e.0 n ≡ true = le-leb e.0 n (omega (arith, bound, less)) in
    rw lower (higher es low n parts.1 less)

pub up_to_last : (es : List Content) (low n : ℕ) (c : List ℕ) → up_to low es ≡ true → low < n
    → up_to n (es ++ (n, c) ∷ []) ≡ true
up_to_last es low n c all less =
    let own : nat_le n n ≡ true = le-leb n n (omega arith) in
    all_append (λ (e : Content). nat_le e.0 n) es ((n, c) ∷ []) (higher es low n all less)
    (rw own refl)

draft_of : ℕ → List ℕ → List Content → Draft
draft_of line kind es = record { line = line; message = record { kind = kind; elements = es } }

pub fits : (n : ℕ) (c : List ℕ) → is_element (n, c) ≡ true → set_fault n c ≡ None
fits n c is =
    let own : nat_eq n n ≡ true = eq-eqb n n refl in
    text_fits ((n, c) ∷ []) n c (rw is refl) (rw own refl)

-- an element that isn't there yet goes behind the others
added : (line k : ℕ) (kind : List ℕ) (es : List Content) (low n : ℕ) (c : List ℕ)
    → up_to low es ≡ true → low < n → is_element (n, c) ≡ true
    → with_line k (Some (draft_of line kind es)) n (Some c)
    ≡ Ok (draft_of line kind (es ++ (n, c) ∷ []))
unfolding with_line draft_of
added line k kind es low n c all less is =
    let none = none_yet es low n all less in
    let fit = fits n c is in
    let last = goes_last es low n c all less in
    rw (none, fit, last) refl

element_line_said : (line k : ℕ) (kind : List ℕ) (es : List Content) (low n : ℕ) (c rest : List ℕ)
    → up_to low es ≡ true → low < n → is_element (n, c) ≡ true → is_writable (n, c) ≡ true
    → said_behind (Some (draft_of line kind es)) k (lines_of (line_written (n, c) ++ rest))
    ≡ said_behind (Some (draft_of line kind (es ++ (n, c) ∷ []))) (k + 1) (lines_of rest)
unfolding body_of
element_line_said line k kind es low n c rest all less is writable =
    let d : Option Draft = Some (draft_of line kind es) in
    let next : Draft = draft_of line kind (es ++ (n, c) ∷ []) in
    let parts = and_parts (list_all is_printable c) _ writable in
    let format = format_of_element n c is in
    let own : Known n = known n format.0 format.1 in
    let body : List ℕ = body_of n (content_written n c) in
    let whole : line_written (n, c) ++ rest ≡ body ++ (10 ∷ rest) =
    line_is (spaces (5 - length (decimal n))) (decimal n) (element_name n)
    (spaces (34 - length (element_name n))) (content_written n c) rest in
    let kind_is = element_kind n (5 - length (decimal n)) (32 ∷ (element_name n
    ++ (spaces (34 - length (element_name n)) ++ content_written n c))) own in
    let text : said_text n body ≡ content_written n c =
    element_text n (5 - length (decimal n)) (content_written n c) own in
    let said : content_said n (said_text n body) ≡ Some c =
    ap (content_said n) text ∙ content_back n c is parts.0 (is_not _ parts.1) in
    let does : step d (k + 1) body ≡ Ok ([], Some next) =
    element_step d (k + 1) body n next (sym kind_is)
    (ap (with_line (k + 1) d n) said ∙ added line (k + 1) kind es low n c all less is) in
    ap (λ (t : List ℕ). said_behind d k (lines_of t)) whole
    ∙ first_does d (Some next) k body rest [] (body_inner n (content_written n c) own
    (written_inner n c parts.0)) does
    ∙ sym (none_in_front (said_behind (Some next) (k + 1) (lines_of rest)))

elements_said : (es done : List Content) (line k low : ℕ) (kind rest : List ℕ)
    → up_to low done ≡ true → Ascends low (numbers es) → list_all is_element es ≡ true
    → list_all is_writable es ≡ true
    → (after : ℕ) × (said_behind (Some (draft_of line kind done)) k
    (lines_of (flat_map line_written es ++ rest))
    ≡ said_behind (Some (draft_of line kind (done ++ es))) after (lines_of rest))
elements_said [] done line k low kind rest all a each writable = (
  k,
  ap (λ (es : List Content). said_behind (Some (draft_of line kind es)) k (lines_of rest))
      (sym (append-nil done)),
)
elements_said (e ∷ es) done line k low kind rest all a each writable =
    let own = and_parts (is_element e) (list_all is_element es) each in
    let clear = and_parts (is_writable e) (list_all is_writable es) writable in
    let later : List ℕ = flat_map line_written es ++ rest in
    let one = element_line_said line k kind done low e.0 e.1 later all a.0 own.0 clear.0 in
    let more = elements_said es (done ++ e ∷ []) line (k + 1) e.0 kind rest
    (up_to_last done low e.0 e.1 all a.0) a.1 own.1 clear.1 in (
      more.0,
      ap (λ (t : List ℕ). said_behind (Some (draft_of line kind done)) k (lines_of t))
          (append_assoc (line_written e) (flat_map line_written es) rest)
          ∙ one ∙ more.1
          ∙ ap (λ (x : List Content). said_behind (Some (draft_of line kind x)) more.0 (lines_of rest))
          (append_assoc done (e ∷ []) es),
    )

-- ---- types

begun_is : (kind : List ℕ) → IsKind kind → begun 1 kind ≡ Ok (draft_of 1 kind [])
unfolding begun draft_of
begun_is kind is = rw is.digits refl

head_does : (kind words rest : List ℕ) → IsKind kind → one_line words ≡ true
    → line_kind (kind ++ words) ≡ Some (Head kind)
    → said_behind None 0 (lines_of ((kind ++ words) ++ (10 ∷ rest)))
    ≡ said_behind (Some (draft_of 1 kind [])) 1 (lines_of rest)
head_does kind words rest is inner head =
    let next : Draft = draft_of 1 kind [] in
    let does = head_step None 1 (kind ++ words) kind [] next (sym head) (ended_none None refl)
    (begun_is kind is) in
    first_does None (Some next) 0 (kind ++ words) rest []
    (both kind words (digits_inner kind is.digits) inner) does
    ∙ sym (none_in_front (said_behind (Some next) 1 (lines_of rest)))

words_do : (named : Bool) (kind words rest : List ℕ) → IsKind kind → one_line words ≡ true
    → said_behind None 0
    (lines_of (((kind ++ (if named then (32 ∷ words) else [])) ++ codes "\n") ++ rest))
    ≡ said_behind (Some (draft_of 1 kind [])) 1 (lines_of rest)
words_do true kind words rest is inner =
    ap (λ (t : List ℕ). said_behind None 0 (lines_of t))
    (append_assoc (kind ++ (32 ∷ words)) (codes "\n") rest)
    ∙ head_does kind (32 ∷ words) rest is inner (named_head kind words is)
words_do false kind words rest is inner =
    ap (λ (t : List ℕ). said_behind None 0 (lines_of t))
    (append_assoc (kind ++ []) (codes "\n") rest)
    ∙ head_does kind [] rest is refl (bare_head kind is)

-- ---- what stands behind the elements

remark_said : (d : Draft) (k : ℕ) (text : List ℕ) → IsRemark text
    → said_behind (Some d) k (lines_of text) ≡ ended (Some d)
unfolding said_behind
remark_said d k text (inl none) =
    ap (λ (t : List ℕ). said_behind (Some d) k (lines_of t)) none
remark_said d k text (inr line) =
    let own : List ℕ = codes "the host replies " ++ line.0 in
    ap (λ (t : List ℕ). said_behind (Some d) k (lines_of t)) line.2
    ∙ first_does (Some d) (Some d) k own [] [] (both (codes "the host replies ") line.0 refl line.1)
    (remark_step (Some d) (k + 1) own (sym (remark_kind line.0)))
    ∙ sym (none_in_front (said_behind (Some d) (k + 1) (lines_of [])))

-- ---- the whole

pub written_is_said : (m : IsoMessage) → IsMessage m → list_all is_writable m.elements ≡ true
    → fits_frame (spelling m) ≡ true → messages_said (written_out m) ≡ Ok (m ∷ [])
unfolding messages_said written_out draft_of
written_is_said m is writable fits =
    let flat : List ℕ = flat_map line_written m.elements in
    let remark = message_remark m in
    let elements = elements_said m.elements [] 1 1 1 m.kind remark refl is.ascends is.each writable in
    ap (λ (t : List ℕ). said_behind None 0 (lines_of t)) (append_assoc (type_line m.kind) flat remark)
    ∙ words_do _ m.kind _ (flat ++ remark) is.kind_fits
    (words_inner (slice_index m.kind 1) (slice_index m.kind 2) (slice_index m.kind 3))
    ∙ elements.1
    ∙ remark_said (draft_of 1 m.kind m.elements) elements.0 remark (is_remark_text m)
    ∙ ended_whole (Some (draft_of 1 m.kind m.elements)) (draft_of 1 m.kind m.elements) (spelling m)
    refl refl fits

-- ---- where all of it is shown

line_open : (e : Content) → is_open e ≡ true → line_written e ≡ element_line e
line_open e seen_all =
    let seen = is_not _ (and_parts (list_all is_printable e.1) _ seen_all).1 in
    ap (λ (b : Bool). spaces (5 - length (decimal e.0)) ++ decimal e.0 ++ codes "  "
    ++ element_name e.0 ++ spaces (34 - length (element_name e.0))
    ++ (if b then e.1 else content_shown e.0 e.1) ++ codes "\n") seen

lines_open : (es : List Content) → list_all is_open es ≡ true
    → flat_map line_written es ≡ flat_map element_line es
lines_open [] seen_all = refl
lines_open (e ∷ es) seen_all =
    let parts = and_parts (is_open e) (list_all is_open es) seen_all in
    ap (λ (x : List ℕ). x ++ flat_map line_written es) (line_open e parts.0)
    ∙ ap (λ (x : List ℕ). element_line e ++ x) (lines_open es parts.1)

open_writable : (es : List Content) → list_all is_open es ≡ true → list_all is_writable es ≡ true
open_writable [] seen_all = refl
open_writable (e ∷ es) seen_all =
    let parts = and_parts (is_open e) (list_all is_open es) seen_all in
    let own = and_parts (list_all is_printable e.1) _ parts.0 in
    let hidden = unhidden e.0 e.1 (is_not _ own.1) in
    rw (own.0, hidden) (open_writable es parts.1)

shown_is : (m : IsoMessage) → IsMessage m → list_all is_open m.elements ≡ true
    → shown (spelling m) ≡ written_out m
unfolding shown written_out
shown_is m is seen_all =
    ap (reading_shown (spelling m))
    (reads_as (spelling m) m (is_read (spelling m) m (spelling_writes m is)))
    ∙ ap (λ (x : List ℕ). type_line m.kind ++ x ++ message_remark m) (sym (lines_open m.elements seen_all))

pub shown_is_said : (m : IsoMessage) → IsMessage m → list_all is_open m.elements ≡ true
    → fits_frame (spelling m) ≡ true → messages_said (shown (spelling m)) ≡ Ok (m ∷ [])
shown_is_said m is seen_all fits =
    ap messages_said (shown_is m is seen_all)
    ∙ written_is_said m is (open_writable m.elements seen_all) fits
