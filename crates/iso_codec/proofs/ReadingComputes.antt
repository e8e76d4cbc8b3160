-- What a text reads as is what the relation says, and its fault the first.
use Rattle.std.proofs.Common.{◌≡◌, ℕ, ◌<◌, ◌≤◌, Bool, true, false, ltb, List, [], ◌∷◌, ◌++◌, length}
use Rattle.std.proofs.Common.{take, drop, Option, Some, None, Result, Ok, Err, refl, sym, ap, subst}
use Rattle.std.proofs.Common.{◌∙◌, append_assoc, arith, ◌⊎◌, inl, inr}
use Rattle.std.specs.Prelude.{MatchResult, IfOk, IfErr, is_some}
use Rattle.std.specs.List.{list_all}
use Rattle.std.proofs.lemmas.Bool.{cases_Bool, ltb-true, ltb-false}
use Rattle.std.proofs.lemmas.List.{append-nil, take-append-drop, length-take-le, length-drop}
use Rattle.std.proofs.lemmas.List.{map-append}
use Rattle.hex.specs.Hex.{decode_of, is_hex_digit}
use Rattle.hex.specs.declared.error.FromHexError.{FromHexError}
use Rattle.iso_codec.specs.declared.bitmaps.Bitmaps.{Bitmaps}
use Rattle.iso_codec.specs.declared.element_format.ElementFormat.{ElementFormat}
use Rattle.iso_codec.specs.declared.decode_fault.DecodeFault.{DecodeFault}
use Rattle.iso_codec.specs.declared.decode_fault.DecodeFault.TheVariants.{Memory, BadBitmap}
use Rattle.iso_codec.specs.declared.decode_fault.DecodeFault.TheVariants.{UnknownElement, Truncated}
use Rattle.iso_codec.specs.declared.decode_fault.DecodeFault.TheVariants.{BadLength}
use Rattle.iso_codec.specs.Table.{format_of}
use Rattle.std.specs.Char.{is_ascii_digit}
use Rattle.iso_codec.specs.Content.{prefix_size, length_of, has_class}
use Rattle.iso_codec.specs.Message.{IsoMessage, IsKind, IsBitmap, bit, named, numbers, is_element}
use Rattle.iso_codec.specs.Message.{body, Reads}
use Rattle.iso_codec.specs.Faults.{HasHeader, AwaitsElement, IsFirstUnknown, is_known, ContentFault}
use Rattle.iso_codec.specs.Faults.{IsContent, BitmapFault, BeginsWithBitmap, IsBody, FirstFault}
use Rattle.iso_codec.specs.Reading.{◌>>=◌, taken, or_fault, kind_at, bits_of, bitmap_at, second_at}
use Rattle.iso_codec.specs.Reading.{bitmaps_at, known_of, content_by, elements_at, reading_of}
use Rattle.iso_codec.proofs.BitmapDigits.{not_hex, sized_is}
use Rattle.iso_codec.proofs.ElementReading.{Goes, content_is, body_push, all_push, all_of_mid}
use Rattle.iso_codec.proofs.FaultsOfParts.{bitmap_fault, content_fault, header_one, header_two}
use Rattle.iso_codec.proofs.FaultsOfParts.{awaits_first, awaits_second, reads_whole, trailing_fault}
use Rattle.iso_codec.proofs.FaultsOfParts.{none_is}
use Rattle.iso_codec.proofs.OneMessage.{read_once}
use Rattle.iso_codec.proofs.FaultsSpellNothing.{not_read}
use Rattle.iso_codec.proofs.OneFirstFault.{fault_once}

-- what holds of a step and of what follows it
bound : {A B : Type 0} (P : A → Type 0) (E : DecodeFault → Type 0) (Q : B → Type 0)
    (F : DecodeFault → Type 0)
    (x : Result A DecodeFault) (f : A → Result B DecodeFault)
    → MatchResult x P E → ((a : A) → P a → MatchResult (f a) Q F) → ((e : DecodeFault) → E e → F e)
    → MatchResult (x >>= f) Q F
bound P E Q F (Ok a) f h k w = k a h
bound P E Q F (Err e) f h k w = w e h

-- ---- bytes

pub record Took (count : ℕ) (rest front after : List ℕ) : Type 0 where
  pub enough : count ≤ length rest
  pub front_is : front ≡ take count rest
  pub after_is : after ≡ drop count rest

abbrev Falls : ℕ → ℕ → List ℕ → DecodeFault → Type 0
Falls n count rest f = (f ≡ Truncated n) × (length rest < count)

taken_is : (n count : ℕ) (rest : List ℕ) →
    MatchResult (taken n count rest) (λ x. Took count rest x.0 x.1)
    (Falls n count rest)
taken_is n count rest =
    elim (cases_Bool (ltb (length rest) count)) [
      | inl short ↦ rw short (refl, ltb-true (length rest) count short)
      | inr long ↦ rw long
          (record { enough = ltb-false (length rest) count long; front_is = refl; after_is = refl })
    ]

both_parts : (count : ℕ) (rest front after : List ℕ) → Took count rest front after →
    rest ≡ front ++ after
both_parts count rest front after t = sym (take-append-drop count rest)
    ∙ ap (λ (x : List ℕ). x ++ drop count rest) (sym t.front_is) ∙ ap (λ (x : List ℕ). front ++ x)
    (sym t.after_is)

front_size : (count : ℕ) (rest front after : List ℕ) → Took count rest front after →
    length front ≡ count
front_size count rest front after t = ap length t.front_is ∙ length-take-le count rest t.enough

-- ---- the kind

kind_is : (text : List ℕ) →
    MatchResult (kind_at text) (λ x. IsKind x.0 × (text ≡ x.0 ++ x.1)) (FirstFault text)
unfolding kind_at
kind_is text =
    bound (λ x. Took 4 text x.0 x.1) (Falls 0 4 text) (λ x. IsKind x.0 × (text ≡ x.0 ++ x.1))
    (FirstFault text)
    (taken 0 4 text) _ (taken_is 0 4 text)
    (λ kind t. elim (cases_Bool (list_all is_ascii_digit kind.0)) [
      | inl good ↦ rw good (
        record { size = front_size 4 text kind.0 kind.1 t; digits = good },
        both_parts 4 text kind.0 kind.1 t,
      )
      | inr bad ↦ rw bad (t.enough, ap (list_all is_ascii_digit) (sym t.front_is) ∙ bad)
    ])
    (λ e h. subst (FirstFault text) (sym h.0) (inl (refl, inl h.1)))

-- ---- bitmaps

bits_is : (digits : List ℕ) (r : Result (List ℕ) FromHexError) → length digits ≡ 16 →
    decode_of digits ≡ r
    → MatchResult (bits_of r) (IsBitmap digits)
    (λ f. (f ≡ BadBitmap) × (list_all is_hex_digit digits ≡ false))
bits_is digits (Ok bytes) size h = record { bytes = bytes; size = size; decoded = h; value = refl }
bits_is digits (Err e) size h = (refl, not_hex digits e size (sized_is digits size ∙ h))

pub bitmap_is : (rest : List ℕ) →
    MatchResult (bitmap_at rest) (λ x. BeginsWithBitmap rest x.0 x.1) (BitmapFault rest)
unfolding bitmap_at
bitmap_is rest =
    bound (λ x. Took 16 rest x.0 x.1) (Falls 0 16 rest) (λ x. BeginsWithBitmap rest x.0 x.1)
    (BitmapFault rest)
    (taken 0 16 rest) _ (taken_is 0 16 rest)
    (λ digits t. bound (IsBitmap digits.0)
    (λ f. (f ≡ BadBitmap) × (list_all is_hex_digit digits.0 ≡ false))
    (λ x. BeginsWithBitmap rest x.0 x.1) (BitmapFault rest) (bits_of (decode_of digits.0)) _
    (bits_is digits.0 (decode_of digits.0) (front_size 16 rest digits.0 digits.1 t) refl)
    (λ bits b. record {
      enough = t.enough;
      bitmap = subst (λ (d : List ℕ). IsBitmap d bits) t.front_is b;
      after_is =
          t.after_is;
    })
    (λ e h. subst (BitmapFault rest) (sym h.0)
    (t.enough, ap (list_all is_hex_digit) (sym t.front_is) ∙ h.1)))
    (λ e h. subst (BitmapFault rest) (sym h.0) (refl, h.1))

abbrev opened : List ℕ → List ℕ → Bitmaps × List ℕ → Type 0
opened text kind x = HasHeader text kind x.0 x.1

second_is : (text kind rest after : List ℕ) (primary : ℕ) → IsKind kind → text ≡ kind ++ rest
    → BeginsWithBitmap rest primary after → (b : Bool) → bit primary 1 ≡ b
    → MatchResult
    (second_at b after >>= λ second. Ok
    (record { primary = primary; secondary = second.0 }, second.1))
    (opened text kind) (FirstFault text)
second_is text kind rest after primary k h first true set =
    bound (λ x. BeginsWithBitmap after x.0 x.1) (BitmapFault after) (opened text kind)
    (FirstFault text)
    (bitmap_at after) _ (bitmap_is after)
    (λ second b. header_two text kind rest after second.1 primary second.0 k h first set b)
    (λ e f. bitmap_fault text after e (awaits_second text kind rest after primary k h first set) f)
second_is text kind rest after primary k h first false unset =
    header_one text kind rest after primary k h first unset

bitmaps_is : (text kind rest : List ℕ) → IsKind kind → text ≡ kind ++ rest
    → MatchResult (bitmaps_at rest) (opened text kind) (FirstFault text)
unfolding bitmaps_at
bitmaps_is text kind rest k h =
    bound (λ x. BeginsWithBitmap rest x.0 x.1) (BitmapFault rest) (opened text kind)
    (FirstFault text)
    (bitmap_at rest) _ (bitmap_is rest)
    (λ first b. second_is text kind rest first.1 first.0 k h b (bit first.0 1) refl)
    (λ e f. bitmap_fault text rest e (awaits_first text kind rest k h) f)

-- ---- unknown elements

abbrev Unknown : Bitmaps → DecodeFault → Type 0
Unknown bitmaps f = (n : ℕ) × (f ≡ UnknownElement n) × IsFirstUnknown bitmaps n

known_is : (bitmaps : Bitmaps) (ns earlier : List ℕ) → named bitmaps ≡ earlier ++ ns
    → list_all is_known earlier ≡ true →
    MatchResult (known_of ns) (λ x. (x ≡ ns) × (list_all is_known ns ≡ true))
    (Unknown bitmaps)
unfolding known_of
known_is bitmaps [] earlier h k = (refl, refl)
known_is bitmaps (n ∷ ns) earlier h k =
    elim (cases_Bool (is_known n)) [
      | inl here ↦
          let others = known_is bitmaps ns (earlier ++ n ∷ [])
          (h ∙ sym (append_assoc earlier (n ∷ []) ns))
          (all_push is_known earlier n k here) in
          rw here (bound (λ x. (x ≡ ns) × (list_all is_known ns ≡ true)) (Unknown bitmaps)
          (λ x. (x ≡ n ∷ ns) × (list_all is_known ns ≡ true)) (Unknown bitmaps) (known_of ns)
          (λ x. Ok (n ∷ x)) others
          (λ x e. (ap (λ (l : List ℕ). n ∷ l) e.0, e.1))
          (λ e f. f))
      | inr not ↦ rw not (
        n,
        refl,
        record {
          earlier = earlier;
          later = ns;
          numbers_are = h;
          known = k;
          unknown =
              none_is (format_of n) not;
        },
      )
    ]

-- ---- one element

length_is : (fault : DecodeFault) (o : Option ℕ) → MatchResult (or_fault fault o) (λ n. o ≡ Some n)
    (λ f. (f ≡ fault) × (o ≡ None))
length_is fault (Some n) = refl
length_is fault None = (refl, refl)

pub content_gives : (n : ℕ) (r : ElementFormat) (rest : List ℕ)
    → MatchResult (content_by n (Some r) rest) (λ x. IsContent r rest x.0 x.1)
    (ContentFault n r rest)
unfolding content_by
content_gives n r rest =
    bound (λ x. Took (prefix_size r.form) rest x.0 x.1) (Falls n (prefix_size r.form) rest)
    (λ x. IsContent r rest x.0 x.1) (ContentFault n r rest) (taken n (prefix_size r.form) rest) _
    (taken_is n (prefix_size r.form) rest)
    (λ digits t. bound (λ count. length_of r.form digits.0 ≡ Some count)
    (λ f. (f ≡ BadLength n) × (length_of r.form digits.0 ≡ None)) (λ x. IsContent r rest x.0 x.1)
    (ContentFault n r rest) (or_fault (BadLength n) (length_of r.form digits.0)) _
    (length_is (BadLength n) (length_of r.form digits.0))
    (λ count c.
    let stated : length_of r.form (take (prefix_size r.form) rest) ≡ Some count =
    ap (length_of r.form) (sym t.front_is) ∙ c in
    bound (λ x. Took count digits.1 x.0 x.1) (Falls n count digits.1)
    (λ x. IsContent r rest x.0 x.1)
    (ContentFault n r rest) (taken n count digits.1) _ (taken_is n count digits.1)
    (λ content u.
    let content_is : content.0 ≡ take count (drop (prefix_size r.form) rest) = u.front_is
    ∙ ap (take count) t.after_is in
    elim (cases_Bool (has_class r.class content.0)) [
      | inl good ↦ rw good (record {
        len = count;
        parts = both_parts (prefix_size r.form) rest digits.0 digits.1 t
            ∙ ap (λ (x : List ℕ). x ++ digits.1) t.front_is
            ∙ ap (λ (x : List ℕ). take (prefix_size r.form) rest ++ x)
            (both_parts count digits.1 content.0 content.1 u);
        stated = stated;
        prefix_there = t.enough;
        size = front_size count digits.1 content.0 content.1 u;
        class_fits = good;
      })
      | inr bad ↦ rw bad (
        refl,
        (
          count,
          omega (
            arith,
            t.enough,
            u.enough,
            ap length t.after_is,
            length-drop (prefix_size r.form) rest,
          ),
          stated,
          ap (has_class r.class) (sym content_is) ∙ bad,
        ),
      )
    ])
    (λ e h. subst (ContentFault n r rest) (sym h.0) (
      refl,
      inr (
        t.enough,
        count,
        stated,
        omega (
          arith,
          t.enough,
          h.1,
          ap length t.after_is,
          length-drop (prefix_size r.form) rest,
        ),
      ),
    )))
    (λ e h. subst (ContentFault n r rest) (sym h.0)
    (refl, (t.enough, ap (length_of r.form) (sym t.front_is) ∙ h.1))))
    (λ e h. subst (ContentFault n r rest) (sym h.0) (refl, inl h.1))

-- ---- the elements

format_there : (o : Option ElementFormat) → is_some o ≡ true → (r : ElementFormat) × (o ≡ Some r)
format_there (Some r) h = (r, refl)
format_there None h = absurd cc

elements_is : (text kind front : List ℕ) (bitmaps : Bitmaps) → HasHeader text kind bitmaps front
    → list_all is_known (named bitmaps) ≡ true →
    (ns : List ℕ) (es : List (ℕ × List ℕ)) (rest : List ℕ)
    → front ≡ body es ++ rest → named bitmaps ≡ numbers es ++ ns → list_all is_element es ≡ true
    → MatchResult (elements_at ns rest) (λ fs. IsBody bitmaps front (es ++ fs)) (FirstFault text)
unfolding elements_at
elements_is text kind front bitmaps o known [] es [] parts ns each =
    let all : es ++ [] ≡ es = append-nil es in
    subst (IsBody bitmaps front) (sym all) (record {
      parts = parts ∙ append-nil (body es);
      each = each;
      numbers_are =
          sym (ns ∙ append-nil (numbers es));
    })
elements_is text kind front bitmaps o known [] es (b ∷ rest) parts ns each =
    let goes : Goes bitmaps front es (b ∷ rest) [] =
    record { parts = parts; numbers_are = ns; each = each } in
    trailing_fault text kind front (b ∷ rest) bitmaps es o goes (omega arith)
elements_is text kind front bitmaps o known (n ∷ ns) es rest parts numbers_are each =
    let here : is_known n ≡ true = all_of_mid is_known (numbers es) ns n
    (subst (λ (l : List ℕ). list_all is_known l ≡ true) numbers_are known) in
    let format = format_there (format_of n) here in
    let awaits : AwaitsElement text n format.0 rest = record {
      kind = kind;
      bitmaps = bitmaps;
      elements = es;
      later = ns;
      header = subst (λ (x : List ℕ). HasHeader text kind bitmaps x) parts o;
      known = known;
      each = each;
      numbers_are = numbers_are;
      format_is = format.1;
    } in
    let content : MatchResult (content_by n (format_of n) rest)
    (λ x. IsContent format.0 rest x.0 x.1)
    (ContentFault n format.0 rest) =
    subst (λ (o : Option ElementFormat). MatchResult (content_by n o rest)
    (λ x. IsContent format.0 rest x.0 x.1)
    (ContentFault n format.0 rest)) (sym format.1) (content_gives n format.0 rest) in
    bound (λ x. IsContent format.0 rest x.0 x.1) (ContentFault n format.0 rest)
    (λ fs. IsBody bitmaps front (es ++ fs)) (FirstFault text) (content_by n (format_of n) rest) _
    content
    (λ x c.
    let e : ℕ × List ℕ = (n, x.0) in
    let one = content_is n format.0 rest x.0 x.1 format.1 c in
    let ns-are : named bitmaps ≡ numbers (es ++ e ∷ []) ++ ns = numbers_are
    ∙ sym (append_assoc (numbers es) (n ∷ []) ns) ∙ ap (λ (l : List ℕ). l ++ ns)
    (sym (map-append (λ (f : ℕ × List ℕ). f.0) es (e ∷ []))) in
    bound (λ fs. IsBody bitmaps front ((es ++ e ∷ []) ++ fs)) (FirstFault text)
    (λ fs. IsBody bitmaps front (es ++ fs)) (FirstFault text) (elements_at ns x.1)
    (λ others. Ok (e ∷ others))
    (elements_is text kind front bitmaps o known ns (es ++ e ∷ []) x.1
    (body_push es e front rest x.1 parts one.1) ns-are (all_push is_element es e each one.0))
    (λ fs b. subst (IsBody bitmaps front) (append_assoc es (e ∷ []) fs) b)
    (λ f h. h))
    (λ f h. content_fault text n format.0 rest f awaits h)

-- ---- the whole

pub reading_is : (text : List ℕ) → MatchResult (reading_of text) (Reads text) (FirstFault text)
unfolding reading_of
reading_is text =
    bound (λ x. IsKind x.0 × (text ≡ x.0 ++ x.1)) (FirstFault text) (Reads text) (FirstFault text)
    (kind_at text) _
    (kind_is text)
    (λ kind k. bound (opened text kind.0) (FirstFault text) (Reads text) (FirstFault text)
    (bitmaps_at kind.1) _
    (bitmaps_is text kind.0 kind.1 k.0 k.1)
    (λ bitmaps o. bound (λ x. (x ≡ named bitmaps.0) × (list_all is_known (named bitmaps.0) ≡ true))
    (Unknown bitmaps.0) (Reads text) (FirstFault text) (known_of (named bitmaps.0)) _
    (known_is bitmaps.0 (named bitmaps.0) [] refl refl)
    (λ ns known. bound (IsBody bitmaps.0 bitmaps.1) (FirstFault text) (Reads text) (FirstFault text)
    (elements_at ns bitmaps.1) _
    (elements_is text kind.0 bitmaps.1 bitmaps.0 o known.1 ns [] bitmaps.1 refl
    (sym known.0) refl)
    (λ es b. reads_whole text kind.0 bitmaps.1 bitmaps.0 es o b)
    (λ f h. h))
    (λ f h. subst (FirstFault text) (sym h.1) (bitmaps.0, kind.0, bitmaps.1, o, h.2)))
    (λ f h. h))
    (λ f h. h)

pub read_as : (text : List ℕ) (m : IsoMessage) → reading_of text ≡ Ok m → Reads text m
read_as text m e =
    subst (λ (r : Result IsoMessage DecodeFault). MatchResult r (Reads text) (FirstFault text)) e
    (reading_is text)

pub fault_of : (text : List ℕ) (f : DecodeFault) → reading_of text ≡ Err f → FirstFault text f
fault_of text f e =
    subst (λ (r : Result IsoMessage DecodeFault). MatchResult r (Reads text) (FirstFault text)) e
    (reading_is text)

must_be : (text : List ℕ) (m : IsoMessage) (r : Result IsoMessage DecodeFault)
    → MatchResult r (Reads text) (FirstFault text) → Reads text m → r ≡ Ok m
must_be text m (Ok n) h b = ap (λ (x : IsoMessage). Ok x) (read_once text n m h b)
must_be text m (Err f) h b = absurd (not_read text f h m b)

must_fail : (text : List ℕ) (f : DecodeFault) (r : Result IsoMessage DecodeFault)
    → MatchResult r (Reads text) (FirstFault text) → FirstFault text f → r ≡ Err f
must_fail text f (Ok n) h b = absurd (not_read text f b n h)
must_fail text f (Err g) h b = ap (λ (x : DecodeFault). Err x) (fault_once text g f h b)

pub reads_as : (text : List ℕ) (m : IsoMessage) → Reads text m → reading_of text ≡ Ok m
reads_as text m b = must_be text m (reading_of text) (reading_is text) b

pub has_fault : (text : List ℕ) (f : DecodeFault) → FirstFault text f → reading_of text ≡ Err f
has_fault text f b = must_fail text f (reading_of text) (reading_is text) b

pub exact_read : {X : Type 0} (text : List ℕ) (view : X → IsoMessage) (r : Result X DecodeFault)
    → IfOk r (λ x. Reads text (view x)) → IfErr r (λ f. (f ≡ Memory) ⊎ FirstFault text f)
    → MatchResult r (λ x. reading_of text ≡ Ok (view x))
    (λ f. (f ≡ Memory) ⊎ (reading_of text ≡ Err f))
exact_read text view (Ok x) h k = reads_as text (view x) h
exact_read text view (Err f) h (inl e) = inl e
exact_read text view (Err f) h (inr e) = inr (has_fault text f e)
