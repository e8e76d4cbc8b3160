-- A text with a fault spells no message.
use Rattle.std.proofs.Common.{◌≡◌, ℕ, ◌+◌, ◌<◌, ◌≤◌, true, List, [], ◌∷◌, ◌++◌, length, take, drop}
use Rattle.std.proofs.Common.{Option, Some, None, Result, Ok, Err, refl, sym, ap, subst, ◌∙◌}
use Rattle.std.proofs.Common.{append_assoc, arith, ◌⊎◌, inl, inr}
use Rattle.std.specs.Prelude.{MatchResult, IfErr, IfOk, is_some}
use Rattle.std.specs.List.{list_all}
use Rattle.std.proofs.lemmas.Bool.{and_parts, and_from, true≢false, MatchBool-at_true}
use Rattle.std.proofs.lemmas.List.{append-nil, take_at, drop_at, length-append}
use Rattle.hex.specs.Hex.{is_hex_digit}
use Rattle.iso_codec.specs.declared.bitmaps.Bitmaps.{Bitmaps}
use Rattle.iso_codec.specs.declared.element_format.ElementFormat.{ElementFormat}
use Rattle.iso_codec.specs.declared.decode_fault.DecodeFault.{DecodeFault}
use Rattle.iso_codec.specs.declared.decode_fault.DecodeFault.TheVariants.{Memory, BadType}
use Rattle.iso_codec.specs.declared.decode_fault.DecodeFault.TheVariants.{BadBitmap, UnknownElement}
use Rattle.iso_codec.specs.declared.decode_fault.DecodeFault.TheVariants.{Truncated, BadLength}
use Rattle.iso_codec.specs.declared.decode_fault.DecodeFault.TheVariants.{BadContent, Trailing}
use Rattle.std.specs.Char.{is_ascii_digit}
use Rattle.iso_codec.specs.Content.{prefix_size, length_of, digits_of, has_class}
use Rattle.iso_codec.specs.Message.{IsoMessage, IsKind, IsBitmap, bit, named, numbers, is_element}
use Rattle.iso_codec.specs.Message.{body, Reads}
use Rattle.iso_codec.specs.Faults.{HasHeader, AwaitsBitmap, AwaitsElement, IsFirstUnknown, is_known}
use Rattle.iso_codec.specs.Faults.{IsCut, HasBadLength, HasBadContent, FirstFault}
use Rattle.iso_codec.proofs.ElementReading.{all_of_mid}
use Rattle.iso_codec.proofs.OneMessage.{same_front, Stands, stands, format_of_element, body_after}
use Rattle.iso_codec.proofs.OneMessage.{bitmap_once, bitmap_hex, header_once, reads_header}
use Rattle.iso_codec.proofs.OneMessage.{header_at, one_spelling, read_once}

nothing : (xs : List ℕ) → xs ++ [] ≡ xs
nothing xs = append-nil xs

-- ---- an element

-- how much of rest the digits and the content take
pub record Room (r : ElementFormat) (rest text : List ℕ) : Type 0 where
  pub long : prefix_size r.form + length text ≤ length rest
  pub digits_are : take (prefix_size r.form) rest ≡ digits_of r.form (length text)
  pub content_is : take (length text) (drop (prefix_size r.form) rest) ≡ text

pub room : (r : ElementFormat) (rest text more : List ℕ) → Stands r rest text more →
    Room r rest text
room r rest text more s =
    let digits : List ℕ = digits_of r.form (length text) in
    let size : length rest ≡ length digits + (length text + length more) = ap length s.parts
    ∙ length-append digits (text ++ more) ∙ ap (λ (n : ℕ). length digits + n)
    (length-append text more) in
    let front : take (prefix_size r.form) rest ≡ digits = ap (take (prefix_size r.form)) s.parts
    ∙ take_at digits (text ++ more) (prefix_size r.form) s.prefix_is in
    let back : drop (prefix_size r.form) rest ≡ text ++ more =
    ap (drop (prefix_size r.form)) s.parts
    ∙ drop_at digits (text ++ more) (prefix_size r.form) s.prefix_is in
    record {
      long = omega (arith, s.prefix_is, size);
      digits_are = front;
      content_is = ap (take (length text)) back ∙ take_at text more (length text) refl;
    }

same_some : (a b : ℕ) (o : Option ℕ) → o ≡ Some a → o ≡ Some b → a ≡ b
same_some a b o h k = let e : Some a ≡ Some b = sym h ∙ k in cc

pub not_cut : (r : ElementFormat) (rest text more : List ℕ) → Stands r rest text more →
    IsCut r rest → ⊥
not_cut r rest text more s (inl short) = let m = room r rest text more s in
    omega (arith, m.long, short)
not_cut r rest text more s (inr h) =
    let m = room r rest text more s in
    let len = same_some (h.1) (length text) (length_of r.form (digits_of r.form (length text)))
    (ap (length_of r.form) (sym m.digits_are) ∙ h.2) s.stated_is in
    omega (arith, m.long, h.3, len)

pub not_bad_length : (r : ElementFormat) (rest text more : List ℕ) → Stands r rest text more →
    HasBadLength r rest → ⊥
not_bad_length r rest text more s h =
    let m = room r rest text more s in
    let e : None ≡ Some (length text) = sym h.1 ∙ ap (length_of r.form) m.digits_are ∙ s.stated_is
    in
    cc

pub not_bad_content : (r : ElementFormat) (rest text more : List ℕ) → Stands r rest text more →
    HasBadContent r rest
    → ⊥
not_bad_content r rest text more s h =
    let m = room r rest text more s in
    let len = same_some h.0 (length text) (length_of r.form (digits_of r.form (length text)))
    (ap (length_of r.form) (sym m.digits_are) ∙ h.2) s.stated_is in
    let content : take h.0 (drop (prefix_size r.form) rest) ≡ text =
    ap (λ (n : ℕ). take n (drop (prefix_size r.form) rest)) len ∙ m.content_is in
    true≢false (sym s.class_fits ∙ ap (has_class r.class) (sym content) ∙ h.3)

-- where element n has to come, its spelling stands
element_comes : (text : List ℕ) (n : ℕ) (r : ElementFormat) (rest : List ℕ) (m : IsoMessage)
    → AwaitsElement text n r rest → Reads text m →
    (content more : List ℕ) × Stands r rest content more
element_comes text n r rest m a b =
    let o = header_at (text ++ []) text m.kind (body m.elements ++ []) b.bitmaps (nothing text)
    (reads_header text [] m b) in
    let heads = header_once text a.kind m.kind (body a.elements ++ rest)
    (body m.elements ++ []) a.bitmaps b.bitmaps a.header o in
    let ns : numbers m.elements ≡ numbers a.elements ++ n ∷ a.later =
    b.names_all ∙ ap named (sym heads.bitmaps)
    ∙ a.numbers_are in
    let next = body_after a.elements m.elements n a.later rest ns a.each b.is_message.each
    (heads.rests ∙ nothing (body m.elements)) in (
      next.0,
      next.1,
      subst (λ (x : List ℕ). Stands r x next.0 next.1) (sym next.3)
          (stands n r next.0 next.1 a.format_is next.2),
    )

-- ---- the head

pub known_numbers : (es : List (ℕ × List ℕ)) → list_all is_element es ≡ true →
    list_all is_known (numbers es) ≡ true
known_numbers [] h = refl
known_numbers (e ∷ es) h =
    let p = and_parts (is_element e) (list_all is_element es) h in
    let format = format_of_element e.0 e.1 p.0 in
    and_from (is_known e.0) (list_all is_known (numbers es)) (ap is_some format.1)
    (known_numbers es p.1)

not_unknown : (text kind rest : List ℕ) (bitmaps : Bitmaps) (n : ℕ) (m : IsoMessage)
    → HasHeader text kind bitmaps rest → IsFirstUnknown bitmaps n → Reads text m → ⊥
not_unknown text kind rest bitmaps n m a u b =
    let o = header_at (text ++ []) text m.kind (body m.elements ++ []) b.bitmaps (nothing text)
    (reads_header text [] m b) in
    let heads = header_once text kind m.kind rest (body m.elements ++ []) bitmaps b.bitmaps a o in
    let ns : numbers m.elements ≡ u.earlier ++ n ∷ u.later =
    b.names_all ∙ ap named (sym heads.bitmaps)
    ∙ u.numbers_are in
    let all : list_all is_known (u.earlier ++ n ∷ u.later) ≡ true =
    subst (λ (x : List ℕ). list_all is_known x ≡ true) ns
    (known_numbers m.elements b.is_message.each) in
    let here : is_known n ≡ true = all_of_mid is_known u.earlier u.later n all in
    true≢false (sym here ∙ ap is_some u.unknown)

-- what stands behind the kind, in a text that is read
after_kind : (text kind rest : List ℕ) (m : IsoMessage) → IsKind kind → text ≡ kind ++ rest →
    (b : Reads text m)
    → rest ≡ b.digits_fit.first ++ (b.digits_fit.second ++ body m.elements)
after_kind text kind rest m k e b =
    let f = same_front kind m.kind rest (b.digits ++ body m.elements)
    (k.size ∙ sym b.is_message.kind_fits.size)
    (sym e ∙ b.parts) in
    f.1 ∙ ap (λ (d : List ℕ). d ++ body m.elements) b.digits_fit.parts
    ∙ append_assoc b.digits_fit.first b.digits_fit.second (body m.elements)

-- a bitmap stands where one has to come
bitmap_comes : (text rest : List ℕ) (m : IsoMessage) → AwaitsBitmap text rest → Reads text m
    → (digits more : List ℕ) × (v : ℕ) × IsBitmap digits v × (rest ≡ digits ++ more)
bitmap_comes text rest m (inl a) b = (
  b.digits_fit.first,
  b.digits_fit.second ++ body m.elements,
  b.bitmaps.primary,
  b.digits_fit.primary,
  after_kind text a.0 rest m a.1 a.2 b,
)
bitmap_comes text rest m (inr a) b =
    let e = after_kind text a.0 (a.1 ++ rest) m a.3 a.6 b in
    let f = same_front a.1 b.digits_fit.first rest (b.digits_fit.second ++ body m.elements)
    (a.4.size ∙ sym b.digits_fit.primary.size) e in
    let p = bitmap_once a.1 b.digits_fit.first a.2 b.bitmaps.primary f.0 a.4 b.digits_fit.primary in
    let set : bit b.bitmaps.primary 1 ≡ true = ap (λ (v : ℕ). bit v 1) (sym p) ∙ a.5 in (
      b.digits_fit.second,
      body m.elements,
      b.bitmaps.secondary,
      MatchBool-at_true _ _ set b.digits_fit.secondary,
      f.1,
    )

pub bitmap_long : (rest digits more : List ℕ) (v : ℕ) → IsBitmap digits v → rest ≡ digits ++ more
    → (16 ≤ length rest) × (take 16 rest ≡ digits)
bitmap_long rest digits more v b e = (
  omega (arith, b.size, ap length e ∙ length-append digits more),
  ap (take 16) e
      ∙ take_at digits more 16 b.size,
)

not_cut_head : (text : List ℕ) → ((length text < 4) ⊎ ((rest : List ℕ) × AwaitsBitmap text rest
    × (length rest < 16))) → (m : IsoMessage) → Reads text m → ⊥
not_cut_head text (inl short) m b =
    let size : length text ≡ length m.kind + length (b.digits ++ body m.elements) =
    ap length b.parts
    ∙ length-append m.kind (b.digits ++ body m.elements) in
    omega (arith, short, size, b.is_message.kind_fits.size)
not_cut_head text (inr h) m b =
    let c = bitmap_comes text h.0 m h.1 b in
    let l = bitmap_long h.0 c.0 c.1 c.2 c.3 c.4 in
    omega (arith, l.0, h.2)

-- ---- the whole

pub not_read : (text : List ℕ) (f : DecodeFault) → FirstFault text f → (m : IsoMessage) →
    Reads text m → ⊥
not_read text Memory h m b = h
not_read text BadType h m b =
    let front : take 4 text ≡ m.kind = ap (take 4) b.parts
    ∙ take_at m.kind (b.digits ++ body m.elements) 4 b.is_message.kind_fits.size in
    true≢false (sym b.is_message.kind_fits.digits ∙ ap (list_all is_ascii_digit) (sym front) ∙ h.1)
not_read text BadBitmap h m b =
    let c = bitmap_comes text h.0 m h.1 b in
    let l = bitmap_long h.0 c.0 c.1 c.2 c.3 c.4 in
    true≢false (sym (bitmap_hex c.0 c.2 c.3) ∙ ap (list_all is_hex_digit) (sym l.1) ∙ h.3)
not_read text (UnknownElement n) h m b = not_unknown text h.1 h.2 h.0 n m h.3 h.4 b
not_read text (Truncated n) (inl h) m b = not_cut_head text h.1 m b
not_read text (Truncated n) (inr h) m b =
    let c = element_comes text n h.0 h.1 m h.2 b in not_cut h.0 h.1 c.0 c.1 c.2 h.3
not_read text (BadLength n) h m b =
    let c = element_comes text n h.0 h.1 m h.2 b in not_bad_length h.0 h.1 c.0 c.1 c.2 h.3
not_read text (BadContent n) h m b =
    let c = element_comes text n h.0 h.1 m h.2 b in not_bad_content h.0 h.1 c.0 c.1 c.2 h.3
not_read text Trailing h m b =
    let both = one_spelling h.0 text h.1 [] h.2 m h.3 b (sym h.4 ∙ sym (nothing text)) in
    omega (arith, h.5, ap length both.1)

pub err_none : {X : Type 0} (text : List ℕ) (r : Result X DecodeFault)
    → IfErr r (λ f. (f ≡ Memory) ⊎ FirstFault text f) → IfErr r
    (λ f. (f ≡ Memory) ⊎ ((m : IsoMessage) → Reads text m → ⊥))
err_none text (Ok x) h = h
err_none text (Err f) (inl e) = inl e
err_none text (Err f) (inr h) = inr (not_read text f h)

pub only_read : {X : Type 0} (text : List ℕ) (view : X → IsoMessage) (r : Result X DecodeFault)
    → IfOk r (λ x. Reads text (view x)) → IfErr r (λ f. (f ≡ Memory) ⊎ FirstFault text f) →
    (m : IsoMessage)
    → Reads text m → MatchResult r (λ x. view x ≡ m) (λ f. f ≡ Memory)
only_read text view (Ok x) h k m b = read_once text (view x) m h b
only_read text view (Err f) h (inl e) m b = e
only_read text view (Err f) h (inr e) m b = absurd (not_read text f e m b)
