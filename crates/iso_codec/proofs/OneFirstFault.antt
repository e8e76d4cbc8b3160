-- At most one fault is the first.
use Rattle.std.proofs.Common.{◌≡◌, ℕ, ◌<◌, ◌≤◌, true, false, List, [], ◌∷◌, ◌++◌, length, take}
use Rattle.std.proofs.Common.{Some, None, refl, sym, ap, subst, ◌∙◌, append_assoc, arith, ◌⊎◌, inl}
use Rattle.std.proofs.Common.{inr}
use Rattle.std.specs.Prelude.{is_some}
use Rattle.std.specs.List.{list_all}
use Rattle.std.proofs.lemmas.Bool.{and_parts, true≢false, MatchBool-at_true}
use Rattle.std.proofs.lemmas.List.{take_at, length-append}
use Rattle.std.proofs.lemmas.List.Concat.{flat_map-cons}
use Rattle.hex.specs.Hex.{is_hex_digit}
use Rattle.iso_codec.specs.declared.bitmaps.Bitmaps.{Bitmaps}
use Rattle.iso_codec.specs.declared.element_format.ElementFormat.{ElementFormat}
use Rattle.iso_codec.specs.declared.decode_fault.DecodeFault.{DecodeFault}
use Rattle.iso_codec.specs.declared.decode_fault.DecodeFault.TheVariants.{Memory, BadType}
use Rattle.iso_codec.specs.declared.decode_fault.DecodeFault.TheVariants.{BadBitmap, UnknownElement}
use Rattle.iso_codec.specs.declared.decode_fault.DecodeFault.TheVariants.{Truncated, BadLength}
use Rattle.iso_codec.specs.declared.decode_fault.DecodeFault.TheVariants.{BadContent, Trailing}
use Rattle.iso_codec.specs.Table.{format_of}
use Rattle.std.specs.Char.{is_ascii_digit}
use Rattle.iso_codec.specs.Content.{prefix_size, length_of}
use Rattle.iso_codec.specs.Message.{IsoMessage, IsKind, IsBitmap, bit, named, numbers, is_element}
use Rattle.iso_codec.specs.Message.{spelled, body, Reads}
use Rattle.iso_codec.specs.Faults.{HasHeader, AwaitsBitmap, AwaitsElement, IsFirstUnknown, is_known}
use Rattle.iso_codec.specs.Faults.{IsCut, HasBadLength, HasBadContent, ContentFault, BitmapFault}
use Rattle.iso_codec.specs.Faults.{FirstFault}
use Rattle.iso_codec.proofs.ElementReading.{all_of_mid}
use Rattle.iso_codec.proofs.OneMessage.{same_front, Stands, stands, spelled_once, bodies_once}
use Rattle.iso_codec.proofs.OneMessage.{bitmap_once, bitmap_hex, header_once, reads_header}
use Rattle.iso_codec.proofs.OneMessage.{header_at}
use Rattle.iso_codec.proofs.FaultsSpellNothing.{not_cut, not_bad_length, not_bad_content}
use Rattle.iso_codec.proofs.FaultsSpellNothing.{bitmap_long, known_numbers}

-- ---- where a fault comes

pub data Comes (text : List ℕ) (f : DecodeFault) : Type 0 where
  Short : (length text < 4) → (f ≡ Truncated 0) → Comes text f
  NoKind : (4 ≤ length text) → (list_all is_ascii_digit (take 4 text) ≡ false) → (f ≡ BadType) →
      Comes text f
  NoBitmap : (rest : List ℕ) → AwaitsBitmap text rest → BitmapFault rest f → Comes text f
  Unknown : (kind rest : List ℕ) (bitmaps : Bitmaps) (n : ℕ) → HasHeader text kind bitmaps rest
      → IsFirstUnknown bitmaps n → (f ≡ UnknownElement n) → Comes text f
  NoElement : (n : ℕ) (r : ElementFormat) (rest : List ℕ) → AwaitsElement text n r rest →
      ContentFault n r rest f
      → Comes text f
  More : (front rest : List ℕ) (m : IsoMessage) → Reads front m → (text ≡ front ++ rest) →
      (f ≡ Trailing)
      → Comes text f

cut_head : (text : List ℕ) (n : ℕ) → n ≡ 0 → ((length text < 4)
    ⊎ ((rest : List ℕ) × AwaitsBitmap text rest × (length rest < 16))) → Comes text (Truncated n)
cut_head text n e (inl h) = Short h (ap (λ (x : ℕ). Truncated x) e)
cut_head text n e (inr h) = NoBitmap h.0 h.1 (e, h.2)

pub comes : (text : List ℕ) (f : DecodeFault) → FirstFault text f → Comes text f
comes text Memory h = absurd h
comes text BadType h = NoKind h.0 h.1 refl
comes text BadBitmap h = NoBitmap h.0 h.1 (h.2, h.3)
comes text (UnknownElement n) h = Unknown h.1 h.2 h.0 n h.3 h.4 refl
comes text (Truncated n) (inl h) = cut_head text n h.0 h.1
comes text (Truncated n) (inr h) = NoElement n h.0 h.1 h.2 (refl, h.3)
comes text (BadLength n) h = NoElement n h.0 h.1 h.2 (refl, h.3)
comes text (BadContent n) h = NoElement n h.0 h.1 h.2 (refl, h.3)
comes text Trailing h = More h.0 h.1 h.2 h.3 h.4 refl

-- ---- the kind

abbrev pub HasKind : List ℕ → Type 0
HasKind text = (kind rest : List ℕ) × IsKind kind × (text ≡ kind ++ rest)

kind_long : (text : List ℕ) → HasKind text → 4 ≤ length text
kind_long text h = omega (arith, ap length h.3 ∙ length-append h.0 h.1, h.2.size)

kind_digits : (text : List ℕ) → HasKind text → list_all is_ascii_digit (take 4 text) ≡ true
kind_digits text h = ap (λ (t : List ℕ). list_all is_ascii_digit (take 4 t)) h.3
    ∙ ap (list_all is_ascii_digit) (take_at h.0 h.1 4 h.2.size) ∙ h.2.digits

awaits_kind : (text rest : List ℕ) → AwaitsBitmap text rest → HasKind text
awaits_kind text rest (inl a) = (a.0, rest, a.1, a.2)
awaits_kind text rest (inr a) = (a.0, a.1 ++ rest, a.3, a.6)

header_kind : (text kind rest : List ℕ) (bitmaps : Bitmaps) → HasHeader text kind bitmaps rest →
    HasKind text
header_kind text kind rest bitmaps o = (kind, o.digits ++ rest, o.kind_fits, o.parts)

-- ---- bitmaps

-- a bitmap stands where one has to come, in a text with its bitmaps
opened : (text rest kind after : List ℕ) (bitmaps : Bitmaps) → AwaitsBitmap text rest
    → HasHeader text kind bitmaps after → (digits more : List ℕ) × (v : ℕ) × IsBitmap digits v
    × (rest ≡ digits ++ more)
opened text rest kind after bitmaps (inl a) o =
    let f = same_front a.0 kind rest (o.digits ++ after) (a.1.size ∙ sym o.kind_fits.size)
    (sym a.2 ∙ o.parts) in (
      o.digits_fit.first,
      o.digits_fit.second ++ after,
      bitmaps.primary,
      o.digits_fit.primary,
      f.1
          ∙ ap (λ (d : List ℕ). d ++ after) o.digits_fit.parts
          ∙ append_assoc o.digits_fit.first o.digits_fit.second after,
    )
opened text rest kind after bitmaps (inr a) o =
    let f = same_front a.0 kind (a.1 ++ rest) (o.digits ++ after) (a.3.size ∙ sym o.kind_fits.size)
    (sym a.6 ∙ o.parts) in
    let e : a.1 ++ rest ≡ o.digits_fit.first ++ (o.digits_fit.second ++ after) = f.1
    ∙ ap (λ (d : List ℕ). d ++ after) o.digits_fit.parts
    ∙ append_assoc o.digits_fit.first o.digits_fit.second after in
    let g = same_front a.1 o.digits_fit.first rest (o.digits_fit.second ++ after)
    (a.4.size ∙ sym o.digits_fit.primary.size) e in
    let p = bitmap_once a.1 o.digits_fit.first a.2 bitmaps.primary g.0 a.4 o.digits_fit.primary in
    let set : bit bitmaps.primary 1 ≡ true = ap (λ (v : ℕ). bit v 1) (sym p) ∙ a.5 in (
      o.digits_fit.second,
      after,
      bitmaps.secondary,
      MatchBool-at_true _ _ set o.digits_fit.secondary,
      g.1,
    )

no_bitmap : (rest digits more : List ℕ) (v : ℕ) (f : DecodeFault) → IsBitmap digits v →
    rest ≡ digits ++ more
    → BitmapFault rest f → ⊥
no_bitmap rest digits more v (Truncated n) b e h = let l = bitmap_long rest digits more v b e in
    omega (arith, l.0, h.1)
no_bitmap rest digits more v BadBitmap b e h =
    let l = bitmap_long rest digits more v b e in
    true≢false (sym (bitmap_hex digits v b) ∙ ap (list_all is_hex_digit) (sym l.1) ∙ h.1)
no_bitmap rest digits more v Memory b e h = h
no_bitmap rest digits more v BadType b e h = h
no_bitmap rest digits more v (UnknownElement n) b e h = h
no_bitmap rest digits more v (BadLength n) b e h = h
no_bitmap rest digits more v (BadContent n) b e h = h
no_bitmap rest digits more v Trailing b e h = h

bitmap_fault_once : (rest : List ℕ) (f g : DecodeFault) → BitmapFault rest f → BitmapFault rest g →
    f ≡ g
bitmap_fault_once rest (Truncated n) (Truncated m) h k = ap (λ (x : ℕ). Truncated x) (h.0 ∙ sym k.0)
bitmap_fault_once rest (Truncated n) BadBitmap h k = absurd (omega (arith, h.1, k.0))
bitmap_fault_once rest BadBitmap (Truncated m) h k = absurd (omega (arith, h.0, k.1))
bitmap_fault_once rest BadBitmap BadBitmap h k = refl
bitmap_fault_once rest Memory g h k = absurd h
bitmap_fault_once rest BadType g h k = absurd h
bitmap_fault_once rest (UnknownElement n) g h k = absurd h
bitmap_fault_once rest (BadLength n) g h k = absurd h
bitmap_fault_once rest (BadContent n) g h k = absurd h
bitmap_fault_once rest Trailing g h k = absurd h
bitmap_fault_once rest (Truncated n) Memory h k = absurd k
bitmap_fault_once rest BadBitmap Memory h k = absurd k
bitmap_fault_once rest (Truncated n) BadType h k = absurd k
bitmap_fault_once rest BadBitmap BadType h k = absurd k
bitmap_fault_once rest (Truncated n) (UnknownElement m) h k = absurd k
bitmap_fault_once rest BadBitmap (UnknownElement m) h k = absurd k
bitmap_fault_once rest (Truncated n) (BadLength m) h k = absurd k
bitmap_fault_once rest BadBitmap (BadLength m) h k = absurd k
bitmap_fault_once rest (Truncated n) (BadContent m) h k = absurd k
bitmap_fault_once rest BadBitmap (BadContent m) h k = absurd k
bitmap_fault_once rest (Truncated n) Trailing h k = absurd k
bitmap_fault_once rest BadBitmap Trailing h k = absurd k

two_bitmaps : (text rest1 rest2 : List ℕ) (f g : DecodeFault) → AwaitsBitmap text rest1 →
    AwaitsBitmap text rest2
    → BitmapFault rest1 f → BitmapFault rest2 g → f ≡ g
two_bitmaps text rest1 rest2 f g (inl a) (inl b) h k =
    let s = same_front a.0 b.0 rest1 rest2 (a.1.size ∙ sym b.1.size) (sym a.2 ∙ b.2) in
    bitmap_fault_once rest2 f g (subst (λ (r : List ℕ). BitmapFault r f) s.1 h) k
two_bitmaps text rest1 rest2 f g (inl a) (inr b) h k =
    let s = same_front a.0 b.0 rest1 (b.1 ++ rest2) (a.1.size ∙ sym b.3.size) (sym a.2 ∙ b.6) in
    absurd (no_bitmap rest1 b.1 rest2 b.2 f b.4 s.1 h)
two_bitmaps text rest1 rest2 f g (inr a) (inl b) h k =
    let s = same_front b.0 a.0 rest2 (a.1 ++ rest1) (b.1.size ∙ sym a.3.size) (sym b.2 ∙ a.6) in
    absurd (no_bitmap rest2 a.1 rest1 a.2 g a.4 s.1 k)
two_bitmaps text rest1 rest2 f g (inr a) (inr b) h k =
    let s = same_front a.0 b.0 (a.1 ++ rest1) (b.1 ++ rest2) (a.3.size ∙ sym b.3.size)
    (sym a.6 ∙ b.6) in
    let t = same_front a.1 b.1 rest1 rest2 (a.4.size ∙ sym b.4.size) s.1 in
    bitmap_fault_once rest2 f g (subst (λ (r : List ℕ). BitmapFault r f) t.1 h) k

-- ---- elements

one_len : (r : ElementFormat) (rest : List ℕ) (a b : ℕ) →
    length_of r.form (take (prefix_size r.form) rest) ≡ Some a
    → length_of r.form (take (prefix_size r.form) rest) ≡ Some b → a ≡ b
one_len r rest a b h k = let e : Some a ≡ Some b = sym h ∙ k in cc

cut_not_length : (r : ElementFormat) (rest : List ℕ) → IsCut r rest → HasBadLength r rest → ⊥
cut_not_length r rest (inl h) k = omega (arith, h, k.0)
cut_not_length r rest (inr h) k = let e : Some h.1 ≡ None = sym h.2 ∙ k.1 in cc

cut_not_content : (r : ElementFormat) (rest : List ℕ) → IsCut r rest → HasBadContent r rest → ⊥
cut_not_content r rest (inl h) k = omega (arith, h, k.1)
cut_not_content r rest (inr h) k = omega (arith, one_len r rest h.1 k.0 h.2 k.2, h.3, k.1)

length_not_content : (r : ElementFormat) (rest : List ℕ) → HasBadLength r rest →
    HasBadContent r rest → ⊥
length_not_content r rest h k = let e : None ≡ Some k.0 = sym h.1 ∙ k.2 in cc

content_fault_once : (n : ℕ) (r : ElementFormat) (rest : List ℕ) (f g : DecodeFault) →
    ContentFault n r rest f
    → ContentFault n r rest g → f ≡ g
content_fault_once n r rest Memory g h d = absurd h
content_fault_once n r rest BadType g h d = absurd h
content_fault_once n r rest BadBitmap g h d = absurd h
content_fault_once n r rest (UnknownElement k) g h d = absurd h
content_fault_once n r rest Trailing g h d = absurd h
content_fault_once n r rest (Truncated j) Memory h d = absurd d
content_fault_once n r rest (Truncated j) BadType h d = absurd d
content_fault_once n r rest (Truncated j) BadBitmap h d = absurd d
content_fault_once n r rest (Truncated j) (UnknownElement k) h d = absurd d
content_fault_once n r rest (Truncated j) Trailing h d = absurd d
content_fault_once n r rest (BadLength j) Memory h d = absurd d
content_fault_once n r rest (BadLength j) BadType h d = absurd d
content_fault_once n r rest (BadLength j) BadBitmap h d = absurd d
content_fault_once n r rest (BadLength j) (UnknownElement k) h d = absurd d
content_fault_once n r rest (BadLength j) Trailing h d = absurd d
content_fault_once n r rest (BadContent j) Memory h d = absurd d
content_fault_once n r rest (BadContent j) BadType h d = absurd d
content_fault_once n r rest (BadContent j) BadBitmap h d = absurd d
content_fault_once n r rest (BadContent j) (UnknownElement k) h d = absurd d
content_fault_once n r rest (BadContent j) Trailing h d = absurd d
content_fault_once n r rest (Truncated i) (Truncated j) h d =
    ap (λ (x : ℕ). Truncated x) (h.0 ∙ sym d.0)
content_fault_once n r rest (Truncated i) (BadLength j) h d = absurd (cut_not_length r rest h.1 d.1)
content_fault_once n r rest (Truncated i) (BadContent j) h d =
    absurd (cut_not_content r rest h.1 d.1)
content_fault_once n r rest (BadLength i) (Truncated j) h d = absurd (cut_not_length r rest d.1 h.1)
content_fault_once n r rest (BadLength i) (BadLength j) h d =
    ap (λ (x : ℕ). BadLength x) (h.0 ∙ sym d.0)
content_fault_once n r rest (BadLength i) (BadContent j) h d =
    absurd (length_not_content r rest h.1 d.1)
content_fault_once n r rest (BadContent i) (Truncated j) h d =
    absurd (cut_not_content r rest d.1 h.1)
content_fault_once n r rest (BadContent i) (BadLength j) h d =
    absurd (length_not_content r rest d.1 h.1)
content_fault_once n r rest (BadContent i) (BadContent j) h d =
    ap (λ (x : ℕ). BadContent x) (h.0 ∙ sym d.0)

-- no fault comes where a spelling stands
no_fault : (n : ℕ) (r : ElementFormat) (rest text more : List ℕ) (f : DecodeFault) →
    Stands r rest text more
    → ContentFault n r rest f → ⊥
no_fault n r rest text more (Truncated k) s h = not_cut r rest text more s h.1
no_fault n r rest text more (BadLength k) s h = not_bad_length r rest text more s h.1
no_fault n r rest text more (BadContent k) s h = not_bad_content r rest text more s h.1
no_fault n r rest text more Memory s h = h
no_fault n r rest text more BadType s h = h
no_fault n r rest text more BadBitmap s h = h
no_fault n r rest text more (UnknownElement k) s h = h
no_fault n r rest text more Trailing s h = h

-- where es are the first of fs, rest begins with the spelling of the next
next_stands : (es fs : List (ℕ × List ℕ)) (n : ℕ) (later rest tail : List ℕ) →
    numbers fs ≡ numbers es ++ n ∷ later
    → list_all is_element es ≡ true → list_all is_element fs ≡ true →
    body es ++ rest ≡ body fs ++ tail
    → (text more : List ℕ) × (is_element (n, text) ≡ true) × (rest ≡ spelled (n, text) ++ more)
next_stands [] [] n later rest tail ns he hf e = absurd cc
next_stands [] (f ∷ fs) n later rest tail ns he hf e =
    let heads : f.0 ≡ n = cc in
    let pf = and_parts (is_element f) (list_all is_element fs) hf in (
      f.1,
      body fs ++ tail,
      subst (λ (m : ℕ). is_element (m, f.1) ≡ true) heads pf.0,
      e ∙ ap (λ (l : List ℕ). l ++ tail) (flat_map-cons spelled f fs) ∙ append_assoc (spelled f)
          (body fs) tail
          ∙ ap (λ (m : ℕ). spelled (m, f.1) ++ (body fs ++ tail)) heads,
    )
next_stands (e ∷ es) [] n later rest tail ns he hf h = absurd cc
next_stands (e ∷ es) (f ∷ fs) n later rest tail ns he hf h =
    let pe = and_parts (is_element e) (list_all is_element es) he in
    let pf = and_parts (is_element f) (list_all is_element fs) hf in
    let heads : f.0 ≡ e.0 = cc in
    let tails : numbers fs ≡ numbers es ++ n ∷ later = cc in
    let here : is_element (e.0, f.1) ≡ true =
    subst (λ (n : ℕ). is_element (n, f.1) ≡ true) heads pf.0 in
    let left : body (e ∷ es) ++ rest ≡ spelled e ++ (body es ++ rest) =
    ap (λ (l : List ℕ). l ++ rest) (flat_map-cons spelled e es) ∙ append_assoc (spelled e)
    (body es) rest in
    let right : body (f ∷ fs) ++ tail ≡ spelled (e.0, f.1) ++ (body fs ++ tail) =
    ap (λ (l : List ℕ). l ++ tail) (flat_map-cons spelled f fs) ∙ append_assoc (spelled f)
    (body fs) tail
    ∙ ap (λ (n : ℕ). spelled (n, f.1) ++ (body fs ++ tail)) heads in
    let one = spelled_once e.0 e.1 f.1 (body es ++ rest) (body fs ++ tail) pe.0 here
    (sym left ∙ h ∙ right) in
    next_stands es fs n later rest tail tails pe.1 pf.1 one.1

-- two places in one list
pub data Compare (ns ms : List ℕ) (n m : ℕ) : Type 0 where
  Same : (ns ≡ ms) → (n ≡ m) → Compare ns ms n m
  Before : (later : List ℕ) → (ms ≡ ns ++ n ∷ later) → Compare ns ms n m
  After : (later : List ℕ) → (ns ≡ ms ++ m ∷ later) → Compare ns ms n m

longer : (a b : ℕ) (ns ms : List ℕ) (n m : ℕ) → a ≡ b → Compare ns ms n m →
    Compare (a ∷ ns) (b ∷ ms) n m
longer a b ns ms n m e (Same p q) = Same (ap (λ (x : ℕ). x ∷ ns) e ∙ ap (λ (l : List ℕ). b ∷ l) p) q
longer a b ns ms n m e (Before later p) =
    Before later (ap (λ (x : ℕ). x ∷ ms) (sym e) ∙ ap (λ (l : List ℕ). a ∷ l) p)
longer a b ns ms n m e (After later p) =
    After later (ap (λ (x : ℕ). x ∷ ns) e ∙ ap (λ (l : List ℕ). b ∷ l) p)

compare_at : (ns ms : List ℕ) (n m : ℕ) (x y : List ℕ) → ns ++ n ∷ x ≡ ms ++ m ∷ y →
    Compare ns ms n m
compare_at [] [] n m x y e = let h : n ≡ m = cc in Same refl h
compare_at [] (b ∷ ms) n m x y e = let h : n ≡ b = cc in Before ms (ap (λ (k : ℕ). k ∷ ms) (sym h))
compare_at (a ∷ ns) [] n m x y e = let h : a ≡ m = cc in After ns (ap (λ (k : ℕ). k ∷ ns) h)
compare_at (a ∷ ns) (b ∷ ms) n m x y e =
    let heads : a ≡ b = cc in
    let tails : ns ++ n ∷ x ≡ ms ++ m ∷ y = cc in
    longer a b ns ms n m heads (compare_at ns ms n m x y tails)

same_bitmaps : (text kind1 kind2 rest1 rest2 : List ℕ) (bitmaps1 bitmaps2 : Bitmaps)
    → HasHeader text kind1 bitmaps1 rest1 → HasHeader text kind2 bitmaps2 rest2
    → (named bitmaps1 ≡ named bitmaps2) × (rest1 ≡ rest2)
same_bitmaps text kind1 kind2 rest1 rest2 bitmaps1 bitmaps2 a b = let h =
    header_once text kind1 kind2 rest1 rest2 bitmaps1 bitmaps2 a b in (ap named h.bitmaps, h.rests)

-- a fault at n, and n is among the elements of fs
not_inside : (n : ℕ) (r : ElementFormat) (rest tail later : List ℕ) (es fs : List (ℕ × List ℕ))
    (f : DecodeFault)
    → numbers fs ≡ numbers es ++ n ∷ later → list_all is_element es ≡ true →
    list_all is_element fs ≡ true
    → body es ++ rest ≡ body fs ++ tail → format_of n ≡ Some r → ContentFault n r rest f → ⊥
not_inside n r rest tail later es fs f ns he hf e format h =
    let next = next_stands es fs n later rest tail ns he hf e in
    no_fault n r rest next.0 next.1 f (subst (λ (x : List ℕ). Stands r x next.0 next.1) (sym next.3)
    (stands n r next.0 next.1 format next.2)) h

same_format : (n m : ℕ) (r q : ElementFormat) → n ≡ m → format_of n ≡ Some r →
    format_of m ≡ Some q → r ≡ q
same_format n m r q e h k = let both : Some r ≡ Some q = sym h ∙ ap format_of e ∙ k in cc

places_agree : (text : List ℕ) (n m : ℕ) (r q : ElementFormat) (x y : List ℕ) (f g : DecodeFault)
    (a : AwaitsElement text n r x) (b : AwaitsElement text m q y) → ContentFault n r x f →
    ContentFault m q y g
    → body a.elements ++ x ≡ body b.elements ++ y → named a.bitmaps ≡ named b.bitmaps
    → Compare (numbers a.elements) (numbers b.elements) n m → f ≡ g
places_agree text n m r q x y f g a b h k e s (Same p o) =
    let es = bodies_once a.elements b.elements x y p a.each b.each e in
    let r-is = same_format n m r q o a.format_is b.format_is in
    content_fault_once m q y f g (subst (λ (z : ℕ). ContentFault z q y f) o
    (subst (λ (z : ElementFormat). ContentFault n z y f) r-is
    (subst (λ (z : List ℕ). ContentFault n r z f) es.1 h))) k
places_agree text n m r q x y f g a b h k e s (Before later p) =
    absurd (not_inside n r x y later a.elements b.elements f p a.each b.each e a.format_is h)
places_agree text n m r q x y f g a b h k e s (After later p) =
    absurd (not_inside m q y x later b.elements a.elements g p b.each a.each (sym e) b.format_is k)

two_elements : (text : List ℕ) (n m : ℕ) (r q : ElementFormat) (x y : List ℕ) (f g : DecodeFault)
    → AwaitsElement text n r x → AwaitsElement text m q y → ContentFault n r x f →
    ContentFault m q y g → f ≡ g
two_elements text n m r q x y f g a b h k =
    let s = same_bitmaps text a.kind b.kind (body a.elements ++ x)
    (body b.elements ++ y) a.bitmaps b.bitmaps a.header b.header in
    places_agree text n m r q x y f g a b h k s.1 s.0 (compare_at (numbers a.elements)
    (numbers b.elements) n m a.later b.later (sym a.numbers_are ∙ s.0 ∙ b.numbers_are))

-- ---- unknown elements

unknown_once : (ns : List ℕ) (bitmaps1 bitmaps2 : Bitmaps) (n m : ℕ) →
    named bitmaps1 ≡ named bitmaps2
    → (a : IsFirstUnknown bitmaps1 n) → (b : IsFirstUnknown bitmaps2 m) →
    Compare a.earlier b.earlier n m → n ≡ m
unknown_once ns bitmaps1 bitmaps2 n m e a b (Same p q) = q
unknown_once ns bitmaps1 bitmaps2 n m e a b (Before later p) =
    let here : is_known n ≡ true = all_of_mid is_known a.earlier later n
    (subst (λ (x : List ℕ). list_all is_known x ≡ true) p b.known) in
    absurd (true≢false (sym here ∙ ap is_some a.unknown))
unknown_once ns bitmaps1 bitmaps2 n m e a b (After later p) =
    let here : is_known m ≡ true = all_of_mid is_known b.earlier later m
    (subst (λ (x : List ℕ). list_all is_known x ≡ true) p a.known) in
    absurd (true≢false (sym here ∙ ap is_some b.unknown))

not_all_known : (bitmaps : Bitmaps) (n : ℕ) (ns : List ℕ) → IsFirstUnknown bitmaps n →
    ns ≡ named bitmaps
    → list_all is_known ns ≡ true → ⊥
not_all_known bitmaps n ns u e h =
    let here : is_known n ≡ true = all_of_mid is_known u.earlier u.later n
    (subst (λ (x : List ℕ). list_all is_known x ≡ true) (e ∙ u.numbers_are) h) in
    true≢false (sym here ∙ ap is_some u.unknown)

-- ---- all

more_opens : (text front rest : List ℕ) (m : IsoMessage) → text ≡ front ++ rest →
    (r : Reads front m)
    → HasHeader text m.kind r.bitmaps (body m.elements ++ rest)
more_opens text front rest m e r = header_at (front ++ rest) text m.kind
    (body m.elements ++ rest) r.bitmaps (sym e)
    (reads_header front rest m r)

not_bitmap_there : (text rest kind after : List ℕ) (bitmaps : Bitmaps) (f : DecodeFault) →
    AwaitsBitmap text rest
    → BitmapFault rest f → HasHeader text kind bitmaps after → ⊥
not_bitmap_there text rest kind after bitmaps f a h o = let c =
    opened text rest kind after bitmaps a o in
    no_bitmap rest c.0 c.1 c.2 f c.3 c.4 h

-- an earlier format leaves no room for a later one
short_not : (text : List ℕ) → length text < 4 → HasKind text → ⊥
short_not text h k = let l = kind_long text k in omega (arith, l, h)

kindless_not : (text : List ℕ) → list_all is_ascii_digit (take 4 text) ≡ false → HasKind text → ⊥
kindless_not text h k = true≢false (sym (kind_digits text k) ∙ h)

unknown_not_element : (text kind rest : List ℕ) (bitmaps : Bitmaps) (n : ℕ) (m : ℕ)
    (r : ElementFormat) (y : List ℕ)
    → HasHeader text kind bitmaps rest → IsFirstUnknown bitmaps n → AwaitsElement text m r y → ⊥
unknown_not_element text kind rest bitmaps n m r y o u a =
    let s = same_bitmaps text a.kind kind (body a.elements ++ y) rest a.bitmaps bitmaps a.header o
    in
    not_all_known bitmaps n (named a.bitmaps) u s.0 a.known

unknown_not_more : (text kind rest : List ℕ) (bitmaps : Bitmaps) (n : ℕ) (front tail : List ℕ)
    (m : IsoMessage)
    → HasHeader text kind bitmaps rest → IsFirstUnknown bitmaps n → Reads front m →
    text ≡ front ++ tail → ⊥
unknown_not_more text kind rest bitmaps n front tail m o u r e =
    let s = same_bitmaps text m.kind kind (body m.elements ++ tail) rest r.bitmaps bitmaps
    (more_opens text front tail m e r) o in
    not_all_known bitmaps n (numbers m.elements) u (r.names_all ∙ s.0)
    (known_numbers m.elements r.is_message.each)

element_not_more : (text : List ℕ) (n : ℕ) (q : ElementFormat) (y : List ℕ) (f : DecodeFault)
    (front tail : List ℕ)
    (m : IsoMessage) → AwaitsElement text n q y → ContentFault n q y f → Reads front m →
    text ≡ front ++ tail → ⊥
element_not_more text n q y f front tail m a h r e =
    let s = same_bitmaps text a.kind m.kind (body a.elements ++ y)
    (body m.elements ++ tail) a.bitmaps r.bitmaps a.header (more_opens text front tail m e r) in
    not_inside n q y tail a.later a.elements m.elements f
    (r.names_all ∙ sym s.0 ∙ a.numbers_are) a.each r.is_message.each s.1 a.format_is h

first_once : (text : List ℕ) (f g : DecodeFault) → Comes text f → Comes text g → f ≡ g
first_once text f g (Short h e) (Short k d) = e ∙ sym d
first_once text f g (Short h e) (NoKind k l d) = absurd (omega arith)
first_once text f g (Short h e) (NoBitmap rest a k) =
    absurd (short_not text h (awaits_kind text rest a))
first_once text f g (Short h e) (Unknown kind rest bitmaps n o u d) =
    absurd (short_not text h (header_kind text kind rest bitmaps o))
first_once text f g (Short h e) (NoElement n r rest a k) =
    absurd (short_not text h (header_kind text a.kind (body a.elements ++ rest) a.bitmaps a.header))
first_once text f g (Short h e) (More front rest m r p d) =
    absurd (short_not text h (header_kind text m.kind (body m.elements ++ rest) r.bitmaps
    (more_opens text front rest m p r)))
first_once text f g (NoKind h l e) (Short k d) = absurd (omega arith)
first_once text f g (NoKind h l e) (NoKind k j d) = e ∙ sym d
first_once text f g (NoKind h l e) (NoBitmap rest a k) =
    absurd (kindless_not text l (awaits_kind text rest a))
first_once text f g (NoKind h l e) (Unknown kind rest bitmaps n o u d) =
    absurd (kindless_not text l (header_kind text kind rest bitmaps o))
first_once text f g (NoKind h l e) (NoElement n r rest a k) =
    absurd (kindless_not text l
    (header_kind text a.kind (body a.elements ++ rest) a.bitmaps a.header))
first_once text f g (NoKind h l e) (More front rest m r p d) =
    absurd (kindless_not text l (header_kind text m.kind (body m.elements ++ rest) r.bitmaps
    (more_opens text front rest m p r)))
first_once text f g (NoBitmap rest a h) (Short k d) =
    absurd (short_not text k (awaits_kind text rest a))
first_once text f g (NoBitmap rest a h) (NoKind k l d) =
    absurd (kindless_not text l (awaits_kind text rest a))
first_once text f g (NoBitmap rest a h) (NoBitmap rest2 b k) =
    two_bitmaps text rest rest2 f g a b h k
first_once text f g (NoBitmap rest a h) (Unknown kind rest2 bitmaps n o u d) =
    absurd (not_bitmap_there text rest kind rest2 bitmaps f a h o)
first_once text f g (NoBitmap rest a h) (NoElement n r rest2 b k) =
    absurd (not_bitmap_there text rest b.kind (body b.elements ++ rest2) b.bitmaps f a h b.header)
first_once text f g (NoBitmap rest a h) (More front rest2 m r p d) =
    absurd (not_bitmap_there text rest m.kind (body m.elements ++ rest2) r.bitmaps f a h
    (more_opens text front rest2 m p r))
first_once text f g (Unknown kind rest bitmaps n o u e) (Short k d) =
    absurd (short_not text k (header_kind text kind rest bitmaps o))
first_once text f g (Unknown kind rest bitmaps n o u e) (NoKind k l d) =
    absurd (kindless_not text l (header_kind text kind rest bitmaps o))
first_once text f g (Unknown kind rest bitmaps n o u e) (NoBitmap rest2 b k) =
    absurd (not_bitmap_there text rest2 kind rest bitmaps g b k o)
first_once text f g (Unknown kind rest bitmaps n o u e) (Unknown kind2 rest2 bitmaps2 m p v d) =
    let s = same_bitmaps text kind kind2 rest rest2 bitmaps bitmaps2 o p in
    e ∙ ap (λ (x : ℕ). UnknownElement x) (unknown_once [] bitmaps bitmaps2 n m s.0 u v
    (compare_at u.earlier v.earlier n m u.later v.later (sym u.numbers_are ∙ s.0 ∙ v.numbers_are)))
    ∙ sym d
first_once text f g (Unknown kind rest bitmaps n o u e) (NoElement m r y a k) =
    absurd (unknown_not_element text kind rest bitmaps n m r y o u a)
first_once text f g (Unknown kind rest bitmaps n o u e) (More front tail m r p d) =
    absurd (unknown_not_more text kind rest bitmaps n front tail m o u r p)
first_once text f g (NoElement n q y a h) (Short k d) =
    absurd (short_not text k (header_kind text a.kind (body a.elements ++ y) a.bitmaps a.header))
first_once text f g (NoElement n q y a h) (NoKind k l d) =
    absurd (kindless_not text l (header_kind text a.kind (body a.elements ++ y) a.bitmaps a.header))
first_once text f g (NoElement n q y a h) (NoBitmap rest b k) =
    absurd (not_bitmap_there text rest a.kind (body a.elements ++ y) a.bitmaps g b k a.header)
first_once text f g (NoElement n q y a h) (Unknown kind rest bitmaps m o u d) =
    absurd (unknown_not_element text kind rest bitmaps m n q y o u a)
first_once text f g (NoElement n q y a h) (NoElement m r z b k) =
    two_elements text n m q r y z f g a b h k
first_once text f g (NoElement n q y a h) (More front tail m r p d) =
    absurd (element_not_more text n q y f front tail m a h r p)
first_once text f g (More front tail m r p e) (Short k d) =
    absurd (short_not text k (header_kind text m.kind (body m.elements ++ tail) r.bitmaps
    (more_opens text front tail m p r)))
first_once text f g (More front tail m r p e) (NoKind k l d) =
    absurd (kindless_not text l (header_kind text m.kind (body m.elements ++ tail) r.bitmaps
    (more_opens text front tail m p r)))
first_once text f g (More front tail m r p e) (NoBitmap rest b k) =
    absurd (not_bitmap_there text rest m.kind (body m.elements ++ tail) r.bitmaps g b k
    (more_opens text front tail m p r))
first_once text f g (More front tail m r p e) (Unknown kind rest bitmaps n o u d) =
    absurd (unknown_not_more text kind rest bitmaps n front tail m o u r p)
first_once text f g (More front tail m r p e) (NoElement n q y a k) =
    absurd (element_not_more text n q y g front tail m a k r p)
first_once text f g (More front tail m r p e) (More front2 tail2 m2 r2 p2 d) = e ∙ sym d

pub fault_once : (text : List ℕ) (f g : DecodeFault) → FirstFault text f → FirstFault text g → f ≡ g
fault_once text f g h k = first_once text f g (comes text f h) (comes text g k)
