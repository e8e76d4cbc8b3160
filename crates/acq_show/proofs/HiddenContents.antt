-- What is shown of contents that differ in what is hidden alone.
use Rattle.std.proofs.Common.{◌≡◌, ℕ, ◌-◌, List, [], ◌∷◌, ◌++◌, length, Option, Some, None, Ok, Err}
use Rattle.std.proofs.Common.{refl, sym, ap, ◌∙◌, inl, inr, is_some, Bool, ◌==◌}
use Rattle.std.specs.Prelude.{not, find}
use Rattle.std.specs.List.{list_any}
use Rattle.std.proofs.lemmas.Bool.{cases_Bool}
use Rattle.std.specs.Prelude.{replicate, nat_le, if◌then◌else◌, flat_map, take, drop, codes, ◌⊎◌}
use Rattle.std.proofs.lemmas.List.Concat.{flat_map-cons}
use Rattle.iso_codec.specs.declared.decode_fault.DecodeFault.{DecodeFault}
use Rattle.iso_codec.specs.Message.{IsoMessage, content_of}
use Rattle.iso_codec.specs.Reading.{reading_of}
use Rattle.iso_codec.specs.FaultPlaces.{fault_place}
use Rattle.card_no.specs.Track2.{track2_of}
use Rattle.acq_message.specs.declared.service.Service.{Service}
use Rattle.acq_message.specs.Services.{needed, needed_card, service_of}
use Rattle.acq_message.specs.Elements.{has}
use Rattle.acq_message.specs.FirstCheck.{has_one_of, unverifiable}
use Rattle.acq_show.specs.Contents.{stars, number_shown, parts_shown, length_shown, content_shown}
use Rattle.acq_show.specs.Hidden.{LookAlike, PartsLookAlike, DifferHidden, Equal, CardNumbers}
use Rattle.acq_show.specs.Hidden.{Tracks, Lengths, EachDiffersHidden}
use Rattle.acq_show.specs.Remarks.{first_missing, first_unverifiable, first_remark}
use Rattle.acq_show.specs.Remarks.{message_remark, remark_by}
use Rattle.acq_show.specs.Shown.{shown, message_shown, type_line, element_line, fault_line}

-- what is shown of a number, by its length and its ends
abbrev by_ends : ℕ → List ℕ → List ℕ → List ℕ
by_ends size first last = if nat_le 13 size then first ++ replicate (size - 10) 42
    ++ last else stars size

numbers_alike : (a b : List ℕ) → LookAlike a b → number_shown a ≡ number_shown b
numbers_alike a b h =
    let of_a : number_shown a ≡ by_ends (length a) (take 6 a) (drop (length a - 4) a) = refl in
    let of_b : by_ends (length b) (take 6 b) (drop (length b - 4) b) ≡ number_shown b = refl in
    of_a ∙ ap (λ (n : ℕ). by_ends n (take 6 a) (drop (length a - 4) a)) h.size
    ∙ ap (λ (x : List ℕ). by_ends (length b) x (drop (length a - 4) a)) h.first
    ∙ ap (λ (x : List ℕ). by_ends (length b) (take 6 b) x) h.last ∙ of_b

parts_alike : (n k : ℕ) (p q : Option (List ℕ × List ℕ)) → n ≡ k → PartsLookAlike p q
    → parts_shown n p ≡ parts_shown k q
parts_alike n k None None size h = ap stars size
parts_alike n k (Some p) (Some q) size h =
    ap (λ (x : List ℕ). x ++ codes "=" ++ stars (length p.1)) (numbers_alike p.0 q.0 h.0)
    ∙ ap (λ (m : ℕ). number_shown q.0 ++ codes "=" ++ stars m) h.1
parts_alike n k None (Some q) size h = absurd h
parts_alike n k (Some p) None size h = absurd h

lengths_alike : (n : ℕ) (a b : List ℕ) → (n ≡ 45) ⊎ ((n ≡ 52) ⊎ (n ≡ 55)) → length a ≡ length b
    → content_shown n a ≡ content_shown n b
lengths_alike n a b (inl is) size = rw is (ap length_shown size)
lengths_alike n a b (inr (inl is)) size = rw is (ap length_shown size)
lengths_alike n a b (inr (inr is)) size = rw is (ap length_shown size)

pub contents_alike : (n : ℕ) (a b : List ℕ) → DifferHidden n a b →
    content_shown n a ≡ content_shown n b
contents_alike n a b (Equal same) = ap (content_shown n) same
contents_alike n a b (CardNumbers is h) = rw is (numbers_alike a b h)
contents_alike n a b (Tracks is size h) =
    rw is (parts_alike (length a) (length b) (track2_of a) (track2_of b) size h)
contents_alike n a b (Lengths is size) = lengths_alike n a b is size

line_alike : (n : ℕ) (a b : List ℕ) → DifferHidden n a b → element_line (n, a) ≡ element_line (n, b)
line_alike n a b h = rw (contents_alike n a b h) refl

lines_alike : (es fs : List (ℕ × List ℕ)) → EachDiffersHidden es fs
    → flat_map element_line es ≡ flat_map element_line fs
lines_alike [] [] h = refl
lines_alike (e ∷ es) (f ∷ fs) h =
    let one : element_line e ≡ element_line f = line_alike e.0 e.1 f.1 h.1
    ∙ ap (λ (n : ℕ). element_line (n, f.1)) h.0 in
    flat_map-cons element_line e es ∙ ap (λ (x : List ℕ). x ++ flat_map element_line es) one
    ∙ ap (λ (x : List ℕ). element_line f ++ x) (lines_alike es fs h.2)
    ∙ sym (flat_map-cons element_line f fs)
lines_alike [] (f ∷ fs) h = absurd h
lines_alike (e ∷ es) [] h = absurd h

-- which elements are there
there_alike : (es fs : List (ℕ × List ℕ)) (n : ℕ) → EachDiffersHidden es fs
    → is_some (content_of es n) ≡ is_some (content_of fs n)
there_alike [] [] n h = refl
there_alike (e ∷ es) (f ∷ fs) n h =
    let later = there_alike es fs n h.2 in
    ap (λ (k : ℕ). is_some (if n == k then Some e.1 else content_of es n)) h.0
    ∙ elim (cases_Bool (n == f.0)) [
      | inl same ↦ rw same refl
      | inr other ↦ rw other later
    ]
there_alike [] (f ∷ fs) n h = absurd h
there_alike (e ∷ es) [] n h = absurd h

-- so the same is told of both
module _ (m n : IsoMessage) (h : EachDiffersHidden m.elements n.elements) where
  have_alike : has m ≡ has n
  have_alike = λ i k. there_alike m.elements n.elements k h i

  one_alike : (numbers : List ℕ) → has_one_of m numbers ≡ has_one_of n numbers
  one_alike [] = refl
  one_alike (k ∷ ks) = ap (λ (there : ℕ → Bool). list_any there (k ∷ ks)) have_alike

  remark_alike : (service : Option Service) → remark_by service m ≡ remark_by service n
  remark_alike None = refl
  remark_alike (Some service) =
      ap (λ (there : ℕ → Bool). first_remark (find (λ k. not (there k)) (needed service))
      (has_one_of m (needed_card service)) (find there unverifiable)) have_alike
      ∙ ap (λ (card : Bool). first_remark (first_missing n (needed service)) card
      (first_unverifiable n)) (one_alike (needed_card service))

  remarks_alike : m.kind ≡ n.kind → message_remark m ≡ message_remark n
  remarks_alike kinds =
      ap (λ (kind : List ℕ). remark_by (service_of kind) m) kinds
      ∙ remark_alike (service_of n.kind)

pub messages_alike : (text other : List ℕ) (m n : IsoMessage) → reading_of text ≡ Ok m →
    reading_of other ≡ Ok n
    → m.kind ≡ n.kind → EachDiffersHidden m.elements n.elements → shown text ≡ shown other
unfolding shown
messages_alike text other m n read read' kinds h =
    let lines : message_shown m ≡ message_shown n =
    ap (λ (kind : List ℕ). type_line kind ++ flat_map element_line m.elements) kinds
    ∙ ap (λ (lines : List ℕ). type_line n.kind ++ lines) (lines_alike m.elements n.elements h) in
    rw (read, read')
    (ap (λ (l : List ℕ). l ++ message_remark m) lines
    ∙ ap (λ (l : List ℕ). message_shown n ++ l) (remarks_alike m n h kinds))

pub faults_alike : (text other : List ℕ) (f : DecodeFault) → reading_of text ≡ Err f →
    reading_of other ≡ Err f
    → fault_place text f ≡ fault_place other f → shown text ≡ shown other
unfolding shown
faults_alike text other f read read' place = rw (read, read') (ap (fault_line f) place)
