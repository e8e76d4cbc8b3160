-- The place of a fault is where the piece stands of which its rule speaks.
use Rattle.std.proofs.Common.{◌≡◌, ℕ, ◌+◌, ◌<◌, Bool, true, false, List, [], ◌∷◌, ◌++◌, length}
use Rattle.std.proofs.Common.{drop, Some, None, Result, Ok, Err, refl, sym, ap, subst, ◌∙◌}
use Rattle.std.proofs.Common.{append_assoc, arith}
use Rattle.std.specs.Prelude.{MatchBool, take_while, nat_lt}
use Rattle.std.specs.List.{list_all}
use Rattle.std.specs.Result.{result_ok}
use Rattle.std.proofs.lemmas.Bool.{and_parts}
use Rattle.std.proofs.lemmas.List.{drop_at, length-append}
use Rattle.iso_codec.specs.declared.bitmaps.Bitmaps.{Bitmaps}
use Rattle.iso_codec.specs.declared.element_format.ElementFormat.{ElementFormat}
use Rattle.iso_codec.specs.declared.decode_fault.DecodeFault.TheVariants.{Trailing}
use Rattle.iso_codec.specs.Table.{format_of}
use Rattle.iso_codec.specs.Content.{length_of}
use Rattle.iso_codec.specs.Message.{IsoMessage, IsBitmap, AreBitmaps, Ascends, bit, named, numbers}
use Rattle.iso_codec.specs.Message.{is_element, spelled, body, Reads}
use Rattle.iso_codec.specs.Faults.{AwaitsElement, HasHeader, IsContent, BeginsWithBitmap}
use Rattle.iso_codec.specs.Reading.{bitmaps_at, content_by}
use Rattle.iso_codec.specs.FaultPlaces.{behind, standing_from, element_place, fault_place}
use Rattle.iso_codec.proofs.NamedNumbers.{named_ascends}
use Rattle.iso_codec.proofs.TableBounds.{format_in_bounds}
use Rattle.iso_codec.proofs.OneMessage.{Stands, stands, format_of_element}
use Rattle.iso_codec.proofs.FaultsSpellNothing.{room, bitmap_long}
use Rattle.iso_codec.proofs.PlacesOfFaults.{content_found, one_bitmap, two_bitmaps, below_more}
use Rattle.iso_codec.proofs.PlacesOfFaults.{below_none}

abbrev below : ℕ → List ℕ → List ℕ
below n ns = take_while (λ k. nat_lt k n) ns

-- ---- bitmaps

begins : (first more : List ℕ) (bits : ℕ) → IsBitmap first bits →
    BeginsWithBitmap (first ++ more) bits more
begins first more bits b =
    let long = bitmap_long (first ++ more) first more bits b refl in
    record {
      enough = long.0;
      bitmap = subst (λ (x : List ℕ). IsBitmap x bits) (sym long.1) b;
      after_is = sym (drop_at first more 16 b.size);
    }

bitmaps_by : (first second more : List ℕ) (primary secondary : ℕ) (b : Bool) → bit primary 1 ≡ b
    → IsBitmap first primary →
    MatchBool b (IsBitmap second secondary) ((second ≡ []) × (secondary ≡ 0))
    → result_ok (bitmaps_at (first ++ (second ++ more)))
    ≡ Some (record { primary = primary; secondary = secondary }, more)
bitmaps_by first second more primary secondary true set p q =
    two_bitmaps (first ++ (second ++ more)) (second ++ more) more primary secondary
    (begins first (second ++ more) primary p) set (begins second more secondary q)
bitmaps_by first second more primary secondary false unset p q =
    let one : result_ok (bitmaps_at (first ++ more))
    ≡ Some (record { primary = primary; secondary = 0 }, more) =
    one_bitmap (first ++ more) more primary (begins first more primary p) unset in
    rw (q.0, q.1) one

bitmaps_found : (digits more : List ℕ) (bitmaps : Bitmaps) → AreBitmaps digits bitmaps
    → result_ok (bitmaps_at (digits ++ more)) ≡ Some (bitmaps, more)
bitmaps_found digits more bitmaps a =
    ap (λ (x : List ℕ). result_ok (bitmaps_at x))
    (ap (λ (x : List ℕ). x ++ more) a.parts ∙ append_assoc a.first a.second more)
    ∙ bitmaps_by a.first a.second more bitmaps.primary bitmaps.secondary
    (bit bitmaps.primary 1) refl a.primary
    a.secondary

-- ---- elements

content_is : (r : ElementFormat) (rest content after : List ℕ) → Stands r rest content after
    → IsContent r rest content after
content_is r rest content after s =
    let m = room r rest content after s in
    record {
      len = length content;
      parts = s.parts ∙ ap (λ (x : List ℕ). x ++ (content ++ after)) (sym m.digits_are);
      stated = ap (length_of r.form) m.digits_are ∙ s.stated_is;
      prefix_there = omega (arith, m.long);
      size = refl;
      class_fits = s.class_fits;
    }

behind_body : (es : List (ℕ × List ℕ)) (rest : List ℕ) → list_all is_element es ≡ true
    → behind (numbers es) (body es ++ rest) ≡ Ok rest
unfolding behind
behind_body [] rest h = refl
behind_body (e ∷ es) rest h =
    let parts = and_parts (is_element e) (list_all is_element es) h in
    let format = format_of_element e.0 e.1 parts.0 in
    let found : content_by e.0 (format_of e.0) (spelled e ++ (body es ++ rest))
    ≡ Ok (e.1, body es ++ rest) =
    content_found e.0 format.0 (spelled e ++ (body es ++ rest)) e.1 (body es ++ rest) format.1
    (content_is format.0 (spelled e ++ (body es ++ rest)) e.1 (body es ++ rest)
    (stands e.0 format.0 e.1 (body es ++ rest) format.1 parts.0)) in
    let split : body (e ∷ es) ++ rest ≡ spelled e ++ (body es ++ rest) =
    append_assoc (spelled e) (body es) rest in
    rw (split, found) (behind_body es rest parts.1)

low_less : (low n : ℕ) (ms later : List ℕ) → Ascends low (ms ++ n ∷ later) → low < n
low_less low n [] later a = a.0
low_less low n (m ∷ ms) later a = let next = low_less m n ms later a.1 in omega (arith, next, a.0)

below_these : (low n : ℕ) (ms later : List ℕ) → Ascends low (ms ++ n ∷ later) →
    below n (ms ++ n ∷ later) ≡ ms
below_these low n [] later a = below_none n n later (omega arith)
below_these low n (m ∷ ms) later a =
    below_more n m (ms ++ n ∷ later) (low_less m n ms later a.1)
    ∙ ap (λ (x : List ℕ). m ∷ x) (below_these m n ms later a.1)

below_all : (es : List (ℕ × List ℕ)) → list_all is_element es ≡ true →
    below 129 (numbers es) ≡ numbers es
below_all [] h = refl
below_all (e ∷ es) h =
    let parts = and_parts (is_element e) (list_all is_element es) h in
    let format = format_of_element e.0 e.1 parts.0 in
    let bounds = format_in_bounds e.0 format.0 format.1 in
    below_more 129 e.0 (numbers es) (omega (arith, bounds.2))
    ∙ ap (λ (x : List ℕ). e.0 ∷ x) (below_all es parts.1)

-- ---- places

read_ok : {X E : Type 0} (r : Result X E) (x : X) → result_ok r ≡ Some x → r ≡ Ok x
read_ok (Ok y) x h = let same : Some y ≡ Some x = h in cc
read_ok (Err e) x h = let same : None ≡ Some x = h in cc

-- where a header stands before elements and a rest, that rest stands from n on
stands_from : (n : ℕ) (text kind rest : List ℕ) (bitmaps : Bitmaps) (es : List (ℕ × List ℕ))
    → HasHeader text kind bitmaps (body es ++ rest) → list_all is_element es ≡ true
    → below n (named bitmaps) ≡ numbers es → element_place n text + length rest ≡ length text
unfolding element_place standing_from
stands_from n text kind rest bitmaps es h each ns =
    let front : drop 4 text ≡ h.digits ++ (body es ++ rest) = ap (drop 4) h.parts
    ∙ drop_at kind (h.digits ++ (body es ++ rest)) 4 h.kind_fits.size in
    let found : result_ok (bitmaps_at (drop 4 text)) ≡ Some (bitmaps, body es ++ rest) =
    ap (λ (x : List ℕ). result_ok (bitmaps_at x)) front
    ∙ bitmaps_found h.digits (body es ++ rest) bitmaps h.digits_fit in
    let read = read_ok (bitmaps_at (drop 4 text)) (bitmaps, body es ++ rest) found in
    let left : behind (below n (named bitmaps)) (body es ++ rest) ≡ Ok rest =
    ap (λ (x : List ℕ). behind x (body es ++ rest)) ns ∙ behind_body es rest each in
    let size : length text ≡ length kind + (length h.digits + (length (body es) + length rest)) =
    ap length h.parts ∙ length-append kind (h.digits ++ (body es ++ rest))
    ∙ ap (λ (k : ℕ). length kind + k) (length-append h.digits (body es ++ rest)
    ∙ ap (λ (k : ℕ). length h.digits + k) (length-append (body es) rest)) in
    rw (read, left) (omega (arith, size))

pub element_stands : (text rest : List ℕ) (n : ℕ) (format : ElementFormat) →
    AwaitsElement text n format rest
    → element_place n text + length rest ≡ length text
element_stands text rest n format a =
    let ascends : Ascends 1 (numbers a.elements ++ n ∷ a.later) =
    subst (Ascends 1) a.numbers_are (named_ascends a.bitmaps) in
    stands_from n text a.kind rest a.bitmaps a.elements a.header a.each
    (ap (below n) a.numbers_are ∙ below_these 1 n (numbers a.elements) a.later ascends)

pub trailing_stands : (front rest : List ℕ) (m : IsoMessage) → Reads front m
    → fault_place (front ++ rest) Trailing + length rest ≡ length (front ++ rest)
trailing_stands front rest m r =
    stands_from 129 (front ++ rest) m.kind rest r.bitmaps m.elements (record {
      digits = r.digits;
      kind_fits = r.is_message.kind_fits;
      digits_fit = r.digits_fit;
      parts = ap (λ (t : List ℕ). t ++ rest) r.parts ∙ simp append_assoc;
    }) r.is_message.each (ap (below 129) (sym r.names_all) ∙ below_all m.elements r.is_message.each)
