-- At most one message is read from a text, and no spelling begins another.
use Rattle.std.proofs.Common.{◌≡◌, ℕ, ◌+◌, ◌/◌, ◌%◌, ◌<◌, ◌≤◌, Bool, true, false, leb, List, []}
use Rattle.std.proofs.Common.{◌∷◌, ◌++◌, length, Option, Some, None, Ok, refl, sym, ap, subst, ◌∙◌}
use Rattle.std.proofs.Common.{append_assoc, arith}
use Rattle.std.specs.Prelude.{MatchBool}
use Rattle.std.specs.List.{list_all}
use Rattle.std.specs.Int.{w64, from_be_bytes}
use Rattle.std.proofs.lemmas.Bool.{and_parts, and_from, leb-true, le-leb, eqb-true, true≢false}
use Rattle.std.proofs.lemmas.List.Concat.{flat_map-cons}
use Rattle.hex.specs.Hex.{decode_of, is_hex_digit}
use Rattle.hex.proofs.HexLemmas.{decode_of-even, decode_pairs-ok}
use Rattle.iso_codec.specs.declared.bitmaps.Bitmaps.{Bitmaps}
use Rattle.iso_codec.specs.declared.form.Form.{Form}
use Rattle.iso_codec.specs.declared.form.Form.TheVariants.{Fixed, Llvar, Lllvar}
use Rattle.iso_codec.specs.declared.element_format.ElementFormat.{ElementFormat}
use Rattle.iso_codec.specs.Table.{format_of}
use Rattle.std.specs.Char.{is_ascii_digit, digit_value}
use Rattle.std.proofs.lemmas.Str.{digit_value_digit}
use Rattle.std.specs.Str.Parse.{digits_value}
use Rattle.iso_codec.specs.Content.{prefix_size, length_of, digits_of, has_length, has_class}
use Rattle.iso_codec.specs.Content.{allows, spelled_by}
use Rattle.iso_codec.specs.Message.{IsoMessage, IsBitmap, bit, named, numbers, is_element, spelled}
use Rattle.iso_codec.specs.Message.{body, Reads}
use Rattle.iso_codec.specs.Faults.{HasHeader}
use Rattle.std.proofs.lemmas.List.Sums.{list_all-from_AllPass}
use Rattle.iso_codec.specs.Setting.{is_sound}
use Rattle.iso_codec.proofs.TableBounds.{format_in_bounds}

-- ---- lists

pub same_front : (x y s t : List ℕ) → length x ≡ length y → x ++ s ≡ y ++ t → (x ≡ y) × (s ≡ t)
same_front [] [] s t l e = (refl, e)
same_front [] (b ∷ y) s t l e = absurd (omega arith)
same_front (a ∷ x) [] s t l e = absurd (omega arith)
same_front (a ∷ x) (b ∷ y) s t l e =
    let heads : a ≡ b = cc in
    let tails : x ++ s ≡ y ++ t = cc in
    let rest = same_front x y s t (omega arith) tails in
    (ap (λ (h : ℕ). h ∷ x) heads ∙ ap (λ (l : List ℕ). b ∷ l) rest.0, rest.1)

-- ---- one element

-- a byte of these is a digit, of this value
digit_is : (d : ℕ) → d < 10 → (is_ascii_digit (48 + d) ≡ true) × (digit_value (48 + d) ≡ d)
digit_is d h =
    let low : 48 ≤ 48 + d = omega arith in
    let high : 48 + d ≤ 57 = omega arith in
    let e = digit_value_digit (48 + d) (low, high) in (
      and_from (leb 48 (48 + d)) (leb (48 + d) 57) (le-leb 48 (48 + d) low)
          (le-leb (48 + d) 57 high),
      omega arith,
    )

-- the digits of a length are read as that length
pub length_again : (f : Form) (n : ℕ) → is_sound f ≡ true → has_length f n ≡ true
    → (length (digits_of f n) ≡ prefix_size f) × (length_of f (digits_of f n) ≡ Some n)
length_again (Fixed k) n s h = (refl, ap Some (sym (eqb-true n k h)))
length_again (Llvar greatest) n s h =
    let top = leb-true greatest 99 s in
    let fits = leb-true n greatest h in
    let a = digit_is (n / 10) (omega arith) in
    let b = digit_is (n % 10) (omega arith) in
    let number : digits_value 10 ((48 + n / 10) ∷ (48 + n % 10) ∷ []) ≡ n = omega (arith, a.1, b.1)
    in
    (refl, rw (a.0, b.0, number, h) refl)
length_again (Lllvar greatest) n s h =
    let top = leb-true greatest 999 s in
    let fits = leb-true n greatest h in
    let a = digit_is (n / 100) (omega arith) in
    let b = digit_is (n / 10 % 10) (omega arith) in
    let d = digit_is (n % 10) (omega arith) in
    let number : digits_value 10 ((48 + n / 100) ∷ (48 + n / 10 % 10) ∷ (48 + n % 10) ∷ []) ≡ n =
    omega (arith, a.1, b.1, d.1) in
    (refl, rw (a.0, b.0, d.0, number, h) refl)

-- the content that stands at the front of a spelling
pub record Stands (r : ElementFormat) (rest text more : List ℕ) : Type 0 where
  pub parts : rest ≡ digits_of r.form (length text) ++ (text ++ more)
  pub prefix_is : length (digits_of r.form (length text)) ≡ prefix_size r.form
  pub stated_is : length_of r.form (digits_of r.form (length text)) ≡ Some (length text)
  pub class_fits : has_class r.class text ≡ true

pub stands : (n : ℕ) (r : ElementFormat) (text more : List ℕ) → format_of n ≡ Some r →
    is_element (n, text) ≡ true
    → Stands r (spelled (n, text) ++ more) text more
stands n r text more format h =
    let good : allows (Some r) text ≡ true = rw format at h in
    let parts = and_parts (has_length r.form (length text)) (has_class r.class text) good in
    let again = length_again r.form (length text) (format_in_bounds n r format).0 parts.0 in
    let whole : spelled_by (format_of n) text ++ more ≡ digits_of r.form (length text)
    ++ (text ++ more) =
    rw format (append_assoc (digits_of r.form (length text)) text more) in
    record { parts = whole; prefix_is = again.0; stated_is = again.1; class_fits = parts.1 }

format_there : (o : Option ElementFormat) (text : List ℕ) → allows o text ≡ true →
    (r : ElementFormat) × (o ≡ Some r)
format_there (Some r) text h = (r, refl)
format_there None text h = absurd (true≢false (sym h))

pub format_of_element : (n : ℕ) (text : List ℕ) → is_element (n, text) ≡ true
    → (r : ElementFormat) × (format_of n ≡ Some r)
format_of_element n text h = format_there (format_of n) text h

pub spelled_once : (n : ℕ) (s t x y : List ℕ) → is_element (n, s) ≡ true → is_element (n, t) ≡ true
    → spelled (n, s) ++ x ≡ spelled (n, t) ++ y → (s ≡ t) × (x ≡ y)
spelled_once n s t x y hs ht e =
    let format = format_of_element n s hs in
    let r = format.0 in
    let a = stands n r s x format.1 hs in
    let b = stands n r t y format.1 ht in
    let front = same_front (digits_of r.form (length s)) (digits_of r.form (length t)) (s ++ x)
    (t ++ y)
    (a.prefix_is ∙ sym b.prefix_is) (sym a.parts ∙ e ∙ b.parts) in
    let same : Some (length s) ≡ Some (length t) = sym a.stated_is ∙ ap (length_of r.form) front.0
    ∙ b.stated_is in
    let size : length s ≡ length t = cc in
    same_front s t x y size front.1

-- ---- many elements

pub bodies_once : (es fs : List (ℕ × List ℕ)) (x y : List ℕ) → numbers es ≡ numbers fs
    → list_all is_element es ≡ true → list_all is_element fs ≡ true → body es ++ x ≡ body fs ++ y
    → (es ≡ fs) × (x ≡ y)
bodies_once [] [] x y ns he hf e = (refl, e)
bodies_once [] (f ∷ fs) x y ns he hf e = absurd cc
bodies_once (e ∷ es) [] x y ns he hf h = absurd cc
bodies_once (e ∷ es) (f ∷ fs) x y ns he hf h =
    let pe = and_parts (is_element e) (list_all is_element es) he in
    let pf = and_parts (is_element f) (list_all is_element fs) hf in
    let heads : e.0 ≡ f.0 = cc in
    let tails : numbers es ≡ numbers fs = cc in
    let here : is_element (e.0, f.1) ≡ true = subst (λ (n : ℕ). is_element (n, f.1) ≡ true)
    (sym heads) pf.0 in
    let left : body (e ∷ es) ++ x ≡ spelled e ++ (body es ++ x) =
    ap (λ (l : List ℕ). l ++ x) (flat_map-cons spelled e es) ∙ append_assoc (spelled e) (body es) x
    in
    let right : body (f ∷ fs) ++ y ≡ spelled (e.0, f.1) ++ (body fs ++ y) =
    ap (λ (l : List ℕ). l ++ y) (flat_map-cons spelled f fs) ∙ append_assoc (spelled f) (body fs) y
    ∙ ap (λ (n : ℕ). spelled (n, f.1) ++ (body fs ++ y)) (sym heads) in
    let one = spelled_once e.0 e.1 f.1 (body es ++ x) (body fs ++ y) pe.0 here
    (sym left ∙ h ∙ right) in
    let rest = bodies_once es fs x y tails pe.1 pf.1 one.1 in
    let same : e ≡ f = ap (λ (n : ℕ). (n, e.1)) heads ∙ ap (λ (t : List ℕ). (f.0, t)) one.0 in
    (ap (λ (g : ℕ × List ℕ). g ∷ es) same ∙ ap (λ (gs : List (ℕ × List ℕ)). f ∷ gs) rest.0, rest.1)

-- where es are the first of fs, rest begins with the spelling of the next
pub body_after : (es fs : List (ℕ × List ℕ)) (n : ℕ) (later rest : List ℕ) →
    numbers fs ≡ numbers es ++ n ∷ later
    → list_all is_element es ≡ true → list_all is_element fs ≡ true → body es ++ rest ≡ body fs
    → (text more : List ℕ) × (is_element (n, text) ≡ true) × (rest ≡ spelled (n, text) ++ more)
body_after [] [] n later rest ns he hf e = absurd cc
body_after [] (f ∷ fs) n later rest ns he hf e =
    let heads : f.0 ≡ n = cc in
    let pf = and_parts (is_element f) (list_all is_element fs) hf in (
      f.1,
      body fs,
      subst (λ (m : ℕ). is_element (m, f.1) ≡ true) heads pf.0,
      e ∙ flat_map-cons spelled f fs
          ∙ ap (λ (m : ℕ). spelled (m, f.1) ++ body fs) heads,
    )
body_after (e ∷ es) [] n later rest ns he hf h = absurd cc
body_after (e ∷ es) (f ∷ fs) n later rest ns he hf h =
    let pe = and_parts (is_element e) (list_all is_element es) he in
    let pf = and_parts (is_element f) (list_all is_element fs) hf in
    let heads : f.0 ≡ e.0 = cc in
    let tails : numbers fs ≡ numbers es ++ n ∷ later = cc in
    let here : is_element (e.0, f.1) ≡ true =
    subst (λ (n : ℕ). is_element (n, f.1) ≡ true) heads pf.0 in
    let left : body (e ∷ es) ++ rest ≡ spelled e ++ (body es ++ rest) =
    ap (λ (l : List ℕ). l ++ rest) (flat_map-cons spelled e es) ∙ append_assoc (spelled e)
    (body es) rest in
    let right : body (f ∷ fs) ≡ spelled (e.0, f.1) ++ body fs = flat_map-cons spelled f fs
    ∙ ap (λ (n : ℕ). spelled (n, f.1) ++ body fs) heads in
    let one = spelled_once e.0 e.1 f.1 (body es ++ rest) (body fs) pe.0 here (sym left ∙ h ∙ right)
    in
    body_after es fs n later rest tails pe.1 pf.1 one.1

-- ---- bitmaps

some_bytes : (s : List ℕ) (b d : List ℕ) → decode_of s ≡ Ok b → decode_of s ≡ Ok d → b ≡ d
some_bytes s b d h k = let e : decode_of s ≡ Ok b = h in let same : Ok b ≡ Ok d = sym e ∙ k in cc

pub bitmap_once : (s t : List ℕ) (v w : ℕ) → s ≡ t → IsBitmap s v → IsBitmap t w → v ≡ w
bitmap_once s t v w e a b =
    a.value ∙ ap (from_be_bytes w64)
    (some_bytes s a.bytes b.bytes a.decoded (ap decode_of e ∙ b.decoded))
    ∙ sym b.value

pub bitmap_hex : (s : List ℕ) (v : ℕ) → IsBitmap s v → list_all is_hex_digit s ≡ true
bitmap_hex s v a = list_all-from_AllPass is_hex_digit s (decode_pairs-ok 0 s a.bytes
    (sym (decode_of-even s (omega (arith, a.size))) ∙ a.decoded)).0

seconds_once : (b : Bool) (s t x y : List ℕ) (v w : ℕ) →
    MatchBool b (IsBitmap s v) ((s ≡ []) × (v ≡ 0))
    → MatchBool b (IsBitmap t w) ((t ≡ []) × (w ≡ 0)) → s ++ x ≡ t ++ y → (v ≡ w) × (x ≡ y)
seconds_once true s t x y v w a b e =
    let f = same_front s t x y (a.size ∙ sym b.size) e in
    (bitmap_once s t v w f.0 a b, f.1)
seconds_once false s t x y v w a b e = (a.1 ∙ sym b.1, rw (a.0, b.0) at e)

pub record SameHead (kind1 kind2 : List ℕ) (bitmaps1 bitmaps2 : Bitmaps)
    (rest1 rest2 : List ℕ) : Type 0 where
  pub kinds : kind1 ≡ kind2
  pub bitmaps : bitmaps1 ≡ bitmaps2
  pub rests : rest1 ≡ rest2

pub header_once : (text kind1 kind2 rest1 rest2 : List ℕ) (bitmaps1 bitmaps2 : Bitmaps)
    → HasHeader text kind1 bitmaps1 rest1 → HasHeader text kind2 bitmaps2 rest2
    → SameHead kind1 kind2 bitmaps1 bitmaps2 rest1 rest2
header_once text kind1 kind2 rest1 rest2 bitmaps1 bitmaps2 a b =
    let kinds = same_front kind1 kind2 (a.digits ++ rest1) (b.digits ++ rest2)
    (a.kind_fits.size ∙ sym b.kind_fits.size) (sym a.parts ∙ b.parts) in
    let one : a.digits ++ rest1 ≡ a.digits_fit.first ++ (a.digits_fit.second ++ rest1) =
    ap (λ (d : List ℕ). d ++ rest1) a.digits_fit.parts
    ∙ append_assoc a.digits_fit.first a.digits_fit.second rest1 in
    let two : b.digits ++ rest2 ≡ b.digits_fit.first ++ (b.digits_fit.second ++ rest2) =
    ap (λ (d : List ℕ). d ++ rest2) b.digits_fit.parts
    ∙ append_assoc b.digits_fit.first b.digits_fit.second rest2 in
    let firsts = same_front a.digits_fit.first b.digits_fit.first (a.digits_fit.second ++ rest1)
    (b.digits_fit.second ++ rest2) (a.digits_fit.primary.size ∙ sym b.digits_fit.primary.size)
    (sym one ∙ kinds.1 ∙ two) in
    let primaries = bitmap_once a.digits_fit.first b.digits_fit.first bitmaps1.primary
    bitmaps2.primary firsts.0
    a.digits_fit.primary b.digits_fit.primary in
    let second1 : MatchBool (bit bitmaps2.primary 1)
    (IsBitmap a.digits_fit.second bitmaps1.secondary)
    ((a.digits_fit.second ≡ []) × (bitmaps1.secondary ≡ 0)) =
    subst (λ (p : ℕ). MatchBool (bit p 1) (IsBitmap a.digits_fit.second bitmaps1.secondary)
    ((a.digits_fit.second ≡ []) × (bitmaps1.secondary ≡ 0))) primaries a.digits_fit.secondary in
    let seconds = seconds_once (bit bitmaps2.primary 1)
    a.digits_fit.second b.digits_fit.second rest1 rest2 bitmaps1.secondary bitmaps2.secondary
    second1
    b.digits_fit.secondary firsts.1 in
    let made : Bitmaps → ℕ → ℕ → Bitmaps = λ m p s. record { primary = p; secondary = s } in
    record {
      kinds = kinds.0;
      bitmaps = ap (λ (p : ℕ). made bitmaps1 p bitmaps1.secondary) primaries
          ∙ ap (λ (s : ℕ). made bitmaps1 bitmaps2.primary s) seconds.0;
      rests = seconds.1;
    }

-- ---- messages

pub reads_header : (text more : List ℕ) (m : IsoMessage) (r : Reads text m)
    → HasHeader (text ++ more) m.kind r.bitmaps (body m.elements ++ more)
reads_header text more m r = record {
  digits = r.digits;
  kind_fits = r.is_message.kind_fits;
  digits_fit = r.digits_fit;
  parts = ap (λ (t : List ℕ). t ++ more) r.parts ∙ simp append_assoc;
}

pub header_at : (s t kind rest : List ℕ) (bitmaps : Bitmaps) → s ≡ t → HasHeader s kind bitmaps rest
    → HasHeader t kind bitmaps rest
header_at s t kind rest bitmaps e o = subst (λ (x : List ℕ). HasHeader x kind bitmaps rest) e o

-- no spelling of a message begins another, and each spells one message
pub one_spelling : (s t x y : List ℕ) (m n : IsoMessage) → Reads s m → Reads t n → s ++ x ≡ t ++ y →
    (m ≡ n) × (x ≡ y)
one_spelling s t x y m n a b e =
    let heads = header_once (t ++ y) m.kind n.kind (body m.elements ++ x)
    (body n.elements ++ y) a.bitmaps b.bitmaps
    (header_at (s ++ x) (t ++ y) m.kind (body m.elements ++ x) a.bitmaps e (reads_header s x m a))
    (reads_header t y n b) in
    let same : numbers m.elements ≡ numbers n.elements = a.names_all ∙ ap named heads.bitmaps
    ∙ sym b.names_all in
    let bodies = bodies_once m.elements n.elements x y same a.is_message.each b.is_message.each
    heads.rests in
    let made : List ℕ → List (ℕ × List ℕ) →
    IsoMessage = λ k es. record { kind = k; elements = es } in (
      ap (λ (k : List ℕ). made k m.elements) heads.kinds
          ∙ ap (λ (es : List (ℕ × List ℕ)). made n.kind es) bodies.0,
      bodies.1,
    )

pub read_once : (t : List ℕ) (m n : IsoMessage) → Reads t m → Reads t n → m ≡ n
read_once t m n a b = (one_spelling t t [] [] m n a b refl).0
