-- A fault of a part is the first fault of the whole.
use Rattle.std.proofs.Common.{◌≡◌, ℕ, ◌≤◌, ◌<◌, true, false, ◌++◌, List, [], ◌∷◌, length, take}
use Rattle.std.proofs.Common.{drop, get_or, Option, Some, None, refl, sym, ap, subst, ◌∙◌}
use Rattle.std.proofs.Common.{append_assoc, arith, inl, inr}
use Rattle.std.specs.Prelude.{is_some, not}
use Rattle.std.specs.List.{list_all, filter}
use Rattle.std.proofs.lemmas.Bool.{true≢false}
use Rattle.std.proofs.lemmas.List.{append-nil, take-append-drop, nil_from_length}
use Rattle.iso_codec.specs.declared.bitmaps.Bitmaps.{Bitmaps}
use Rattle.iso_codec.specs.declared.element_format.ElementFormat.{ElementFormat}
use Rattle.iso_codec.specs.declared.decode_fault.DecodeFault.{DecodeFault}
use Rattle.iso_codec.specs.declared.decode_fault.DecodeFault.TheVariants.{Memory, BadType}
use Rattle.iso_codec.specs.declared.decode_fault.DecodeFault.TheVariants.{BadBitmap, UnknownElement}
use Rattle.iso_codec.specs.declared.decode_fault.DecodeFault.TheVariants.{Truncated, BadLength}
use Rattle.iso_codec.specs.declared.decode_fault.DecodeFault.TheVariants.{BadContent, Trailing}
use Rattle.iso_codec.specs.Table.{format_of}
use Rattle.iso_codec.specs.Message.{IsKind, bit, named, numbers, body, Reads, Ascends}
use Rattle.iso_codec.specs.Faults.{FirstFault, AwaitsBitmap, AwaitsElement, HasHeader, BitmapFault}
use Rattle.iso_codec.specs.Faults.{BeginsWithBitmap, ContentFault, IsFirstUnknown, IsBody, is_known}
use Rattle.iso_codec.proofs.NamedNumbers.{named_ascends, first_fails}
use Rattle.iso_codec.proofs.ElementReading.{all_of_mid, Goes}

pub bitmap_fault : (text rest : List ℕ) (f : DecodeFault) → AwaitsBitmap text rest →
    BitmapFault rest f
    → FirstFault text f
bitmap_fault text rest (Truncated n) a h = inl (h.0, inr (rest, a, h.1))
bitmap_fault text rest BadBitmap a h = (rest, a, h.0, h.1)
bitmap_fault text rest Memory a h = absurd h
bitmap_fault text rest BadType a h = absurd h
bitmap_fault text rest (UnknownElement n) a h = absurd h
bitmap_fault text rest (BadLength n) a h = absurd h
bitmap_fault text rest (BadContent n) a h = absurd h
bitmap_fault text rest Trailing a h = absurd h

pub content_fault : (text : List ℕ) (n : ℕ) (r : ElementFormat) (rest : List ℕ) (f : DecodeFault)
    → AwaitsElement text n r rest → ContentFault n r rest f → FirstFault text f
content_fault text n r rest (Truncated k) a h = inr (
  r,
  rest,
  subst (λ (m : ℕ). AwaitsElement text m r rest) (sym h.0) a,
  h.1,
)
content_fault text n r rest (BadLength k) a h = (
  r,
  rest,
  subst (λ (m : ℕ). AwaitsElement text m r rest) (sym h.0) a,
  h.1,
)
content_fault text n r rest (BadContent k) a h = (
  r,
  rest,
  subst (λ (m : ℕ). AwaitsElement text m r rest) (sym h.0) a,
  h.1,
)
content_fault text n r rest Memory a h = absurd h
content_fault text n r rest BadType a h = absurd h
content_fault text n r rest BadBitmap a h = absurd h
content_fault text n r rest (UnknownElement k) a h = absurd h
content_fault text n r rest Trailing a h = absurd h

-- four bytes at the front
pub four : (text : List ℕ) → 4 ≤ length text →
    text ≡ (get_or text 0 0 ∷ get_or text 1 0 ∷ get_or text 2 0 ∷ get_or
    text 3 0 ∷ []) ++ drop 4 text
four [] h = absurd (omega arith)
four (a ∷ []) h = absurd (omega arith)
four (a ∷ b ∷ []) h = absurd (omega arith)
four (a ∷ b ∷ d ∷ []) h = absurd (omega arith)
four (a ∷ b ∷ d ∷ e ∷ rest) h = refl

-- what stands behind a bitmap
pub behind : (kind rest after : List ℕ) (bits : ℕ) (text : List ℕ) → text ≡ kind ++ rest
    → BeginsWithBitmap rest bits after → text ≡ kind ++ (take 16 rest ++ after)
behind kind rest after bits text h b = h ∙ ap (λ (x : List ℕ). kind ++ x)
    (sym (take-append-drop 16 rest) ∙ ap (λ (x : List ℕ). take 16 rest ++ x) (sym b.after_is))

pub header_one : (text kind rest after : List ℕ) (primary : ℕ) → IsKind kind → text ≡ kind ++ rest
    → BeginsWithBitmap rest primary after → bit primary 1 ≡ false
    → HasHeader text kind (record { primary = primary; secondary = 0 }) after
header_one text kind rest after primary k h b unset = record {
  digits = take 16 rest;
  kind_fits = k;
  digits_fit = record {
    first = take 16 rest;
    second = [];
    parts = sym (append-nil (take 16 rest));
    primary = b.bitmap;
    secondary = rw unset (refl, refl);
  };
  parts = behind kind rest after primary text h b;
}

pub header_two : (text kind rest after end : List ℕ) (primary secondary : ℕ) → IsKind kind →
    text ≡ kind ++ rest
    → BeginsWithBitmap rest primary after → bit primary 1 ≡ true →
    BeginsWithBitmap after secondary end
    → HasHeader text kind (record { primary = primary; secondary = secondary }) end
header_two text kind rest after end primary secondary k h b set d = record {
  digits = take 16 rest ++ take 16 after;
  kind_fits = k;
  digits_fit = record {
    first = take 16 rest;
    second = take 16 after;
    parts = refl;
    primary = b.bitmap;
    secondary = rw set d.bitmap;
  };
  parts = behind kind rest after primary text h b ∙ ap (λ (x : List ℕ). kind ++ x)
      (behind (take 16 rest) after end secondary (take 16 rest ++ after) refl d
      ∙ sym (append_assoc (take 16 rest) (take 16 after) end));
}

pub awaits_first : (text kind rest : List ℕ) → IsKind kind → text ≡ kind ++ rest →
    AwaitsBitmap text rest
awaits_first text kind rest k h = inl (kind, k, h)

pub awaits_second : (text kind rest after : List ℕ) (primary : ℕ) → IsKind kind →
    text ≡ kind ++ rest
    → BeginsWithBitmap rest primary after → bit primary 1 ≡ true → AwaitsBitmap text after
awaits_second text kind rest after primary k h b set =
    inr (kind, take 16 rest, primary, k, b.bitmap, set, behind kind rest after primary text h b)

pub none_is : {X : Type 0} (o : Option X) → is_some o ≡ false → o ≡ None
none_is (Some x) h = absurd (true≢false h)
none_is None h = refl

-- the first number that the table doesn't have
pub first_unknown_is : (bitmaps : Bitmaps) (n : ℕ) (more : List ℕ)
    → filter (λ m. not (is_known m)) (named bitmaps) ≡ n ∷ more → IsFirstUnknown bitmaps n
first_unknown_is bitmaps n more h =
    let f = first_fails is_known (named bitmaps) n more h in
    record {
      earlier = f.earlier;
      later = f.later;
      numbers_are = f.parts;
      known = f.pass;
      unknown = none_is (format_of n) f.fails;
    }

-- a number that has to come is in the table
pub known_next : (bitmaps : Bitmaps) (front rest ns : List ℕ) (es : List (ℕ × List ℕ)) (n : ℕ)
    → Goes bitmaps front es rest (n ∷ ns) → list_all is_known (named bitmaps) ≡ true →
    format_of n ≡ None → ⊥
known_next bitmaps front rest ns es n g known unknown =
    let here : is_known n ≡ true = all_of_mid is_known (numbers es) ns n
    (subst (λ (ms : List ℕ). list_all is_known ms ≡ true) g.numbers_are known) in
    true≢false (sym here ∙ ap is_some unknown)

pub awaits_element : (text kind front rest ns : List ℕ) (bitmaps : Bitmaps) (es : List (ℕ × List ℕ))
    (n : ℕ)
    (r : ElementFormat) → HasHeader text kind bitmaps front → Goes bitmaps front es rest (n ∷ ns)
    → list_all is_known (named bitmaps) ≡ true → format_of n ≡ Some r → AwaitsElement text n r rest
awaits_element text kind front rest ns bitmaps es n r o g known format = record {
  kind = kind;
  bitmaps = bitmaps;
  elements = es;
  later = ns;
  header = subst (λ (x : List ℕ). HasHeader text kind bitmaps x) g.parts o;
  known = known;
  each = g.each;
  numbers_are = g.numbers_are;
  format_is = format;
}

-- the message that head and elements spell
pub reads_whole : (text kind rest : List ℕ) (bitmaps : Bitmaps) (es : List (ℕ × List ℕ))
    → HasHeader text kind bitmaps rest → IsBody bitmaps rest es →
    Reads text (record { kind = kind; elements = es })
reads_whole text kind rest bitmaps es o b = record {
  digits = o.digits;
  bitmaps = bitmaps;
  is_message = record {
    kind_fits = o.kind_fits;
    each = b.each;
    ascends =
        subst (λ (ns : List ℕ). Ascends 1 ns) (sym b.numbers_are) (named_ascends bitmaps);
  };
  parts = o.parts ∙ ap (λ (x : List ℕ). kind ++ (o.digits ++ x)) b.parts;
  digits_fit = o.digits_fit;
  names_all = b.numbers_are;
}

pub body_whole : (bitmaps : Bitmaps) (front rest : List ℕ) (es : List (ℕ × List ℕ)) →
    Goes bitmaps front es rest []
    → length rest ≡ 0 → IsBody bitmaps front es
body_whole bitmaps front rest es g none = record {
  parts = g.parts ∙ ap (λ (x : List ℕ). body es ++ x) (nil_from_length rest none)
      ∙ append-nil (body es);
  each = g.each;
  numbers_are = sym (g.numbers_are ∙ append-nil (numbers es));
}

pub trailing_fault : (text kind front rest : List ℕ) (bitmaps : Bitmaps) (es : List (ℕ × List ℕ))
    → HasHeader text kind bitmaps front → Goes bitmaps front es rest [] → 0 < length rest →
    FirstFault text Trailing
trailing_fault text kind front rest bitmaps es o g some =
    let whole : List ℕ = kind ++ (o.digits ++ body es) in
    let header : HasHeader whole kind bitmaps (body es) = record {
      digits = o.digits;
      kind_fits = o.kind_fits;
      digits_fit = o.digits_fit;
      parts = refl;
    } in
    let is_body : IsBody bitmaps (body es) es = record {
      parts = refl;
      each = g.each;
      numbers_are = sym (g.numbers_are ∙ append-nil (numbers es));
    } in
    let parts : text ≡ whole ++ rest =
    o.parts ∙ ap (λ (x : List ℕ). kind ++ (o.digits ++ x)) g.parts ∙ simp append_assoc in (
      whole,
      rest,
      record { kind = kind; elements = es },
      reads_whole whole kind (body es) bitmaps es header is_body,
      parts,
      some,
    )
