-- What the parts of a text read as, where the code has found them or their fault.
use Rattle.std.proofs.Common.{◌≡◌, ℕ, ◌<◌, ◌≤◌, true, false, List, [], ◌∷◌, drop, Some, None}
use Rattle.std.proofs.Common.{Result, Ok, Err, refl, sym, ap, subst, ◌∙◌, arith}
use Rattle.std.specs.Prelude.{MatchResult, take, take_while, nat_lt}
use Rattle.std.specs.Result.{result_ok}
use Rattle.std.proofs.lemmas.Bool.{true≢false, lt-ltb, le-ltb}
use Rattle.std.proofs.lemmas.List.Sums.{take_while-cons}
use Rattle.iso_codec.specs.declared.bitmaps.Bitmaps.{Bitmaps}
use Rattle.iso_codec.specs.declared.element_format.ElementFormat.{ElementFormat}
use Rattle.iso_codec.specs.declared.decode_fault.DecodeFault.{DecodeFault}
use Rattle.iso_codec.specs.declared.decode_fault.DecodeFault.TheVariants.{Memory, BadType}
use Rattle.iso_codec.specs.declared.decode_fault.DecodeFault.TheVariants.{BadBitmap, UnknownElement}
use Rattle.iso_codec.specs.declared.decode_fault.DecodeFault.TheVariants.{Truncated, BadLength}
use Rattle.iso_codec.specs.declared.decode_fault.DecodeFault.TheVariants.{BadContent, Trailing}
use Rattle.iso_codec.specs.Table.{format_of}
use Rattle.iso_codec.specs.Message.{bit, named}
use Rattle.iso_codec.specs.Faults.{ContentFault, IsContent, BitmapFault, BeginsWithBitmap}
use Rattle.iso_codec.specs.Reading.{◌>>=◌, bitmap_at, bitmaps_at, content_by}
use Rattle.iso_codec.specs.FaultPlaces.{behind, standing_from}
use Rattle.iso_codec.proofs.ElementReading.{content_is}
use Rattle.iso_codec.proofs.OneMessage.{Stands, stands, spelled_once, bitmap_once, bitmap_hex}
use Rattle.iso_codec.proofs.FaultsSpellNothing.{not_cut, not_bad_length, not_bad_content}
use Rattle.iso_codec.proofs.ReadingComputes.{bitmap_is, content_gives}

-- ---- a bitmap

not_both : (rest : List ℕ) (bits : ℕ) (after : List ℕ) (f : DecodeFault) →
    BeginsWithBitmap rest bits after
    → BitmapFault rest f → ⊥
not_both rest bits after (Truncated n) b h = omega (arith, b.enough, h.1)
not_both rest bits after BadBitmap b h =
    true≢false (sym (bitmap_hex (take 16 rest) bits b.bitmap) ∙ h.1)
not_both rest bits after Memory b h = absurd h
not_both rest bits after BadType b h = absurd h
not_both rest bits after (UnknownElement n) b h = absurd h
not_both rest bits after (BadLength n) b h = absurd h
not_both rest bits after (BadContent n) b h = absurd h
not_both rest bits after Trailing b h = absurd h

found_by : (rest : List ℕ) (bits : ℕ) (after : List ℕ) (r : Result (ℕ × List ℕ) DecodeFault)
    → MatchResult r (λ x. BeginsWithBitmap rest x.0 x.1) (BitmapFault rest) →
    BeginsWithBitmap rest bits after
    → r ≡ Ok (bits, after)
found_by rest bits after (Ok x) h b =
    let value : x.0 ≡ bits = bitmap_once (take 16 rest) (take 16 rest) x.0 bits refl h.bitmap
    b.bitmap in
    let behind : x.1 ≡ after = h.after_is ∙ sym b.after_is in
    rw (← value, ← behind) refl
found_by rest bits after (Err f) h b = absurd (not_both rest bits after f b h)

pub bitmap_found : (rest : List ℕ) (bits : ℕ) (after : List ℕ) → BeginsWithBitmap rest bits after
    → bitmap_at rest ≡ Ok (bits, after)
bitmap_found rest bits after b = found_by rest bits after (bitmap_at rest) (bitmap_is rest) b

missing_by : (rest : List ℕ) (f : DecodeFault) (r : Result (ℕ × List ℕ) DecodeFault)
    → MatchResult r (λ x. BeginsWithBitmap rest x.0 x.1) (BitmapFault rest) → BitmapFault rest f
    → (e : DecodeFault) × (r ≡ Err e)
missing_by rest f (Ok x) h b = absurd (not_both rest x.0 x.1 f h b)
missing_by rest f (Err e) h b = (e, refl)

pub bitmap_missing : (rest : List ℕ) (f : DecodeFault) → BitmapFault rest f
    → (e : DecodeFault) × (bitmap_at rest ≡ Err e)
bitmap_missing rest f b = missing_by rest f (bitmap_at rest) (bitmap_is rest) b

-- ---- the bitmaps

pub no_bitmaps : (rest : List ℕ) (f : DecodeFault) → BitmapFault rest f →
    result_ok (bitmaps_at rest) ≡ None
unfolding bitmaps_at
no_bitmaps rest f b = rw (bitmap_missing rest f b).1 refl

pub no_second : (rest after : List ℕ) (primary : ℕ) (f : DecodeFault) →
    BeginsWithBitmap rest primary after
    → bit primary 1 ≡ true → BitmapFault after f → result_ok (bitmaps_at rest) ≡ None
unfolding bitmaps_at
no_second rest after primary f first set b =
    rw (bitmap_found rest primary after first, set, (bitmap_missing after f b).1) refl

pub one_bitmap : (rest after : List ℕ) (primary : ℕ) → BeginsWithBitmap rest primary after →
    bit primary 1 ≡ false
    → result_ok (bitmaps_at rest) ≡ Some (record { primary = primary; secondary = 0 }, after)
unfolding bitmaps_at
one_bitmap rest after primary first unset = rw (bitmap_found rest primary after first, unset) refl

pub two_bitmaps : (rest after end : List ℕ) (primary secondary : ℕ) →
    BeginsWithBitmap rest primary after
    → bit primary 1 ≡ true → BeginsWithBitmap after secondary end
    → result_ok (bitmaps_at rest) ≡ Some (record { primary = primary; secondary = secondary }, end)
unfolding bitmaps_at
two_bitmaps rest after end primary secondary first set second =
    rw (bitmap_found rest primary after first, set, bitmap_found after secondary end second) refl

-- ---- one element

read_both : (n : ℕ) (r : ElementFormat) (rest content after : List ℕ) (f : DecodeFault) →
    format_of n ≡ Some r
    → IsContent r rest content after → ContentFault n r rest f → ⊥
read_both n r rest content after f format c h =
    let one = content_is n r rest content after format c in
    let s : Stands r rest content after =
    subst (λ (x : List ℕ). Stands r x content after) (sym one.1)
    (stands n r content after format one.0) in
    none_fits n r rest content after f s h where
      none_fits : (n : ℕ) (r : ElementFormat) (rest content after : List ℕ) (f : DecodeFault)
          → Stands r rest content after → ContentFault n r rest f → ⊥
      none_fits n r rest content after (Truncated k) s h = not_cut r rest content after s h.1
      none_fits n r rest content after (BadLength k) s h = not_bad_length r rest content after s h.1
      none_fits n r rest content after (BadContent k) s h =
          not_bad_content r rest content after s h.1
      none_fits n r rest content after Memory s h = absurd h
      none_fits n r rest content after BadType s h = absurd h
      none_fits n r rest content after BadBitmap s h = absurd h
      none_fits n r rest content after (UnknownElement k) s h = absurd h
      none_fits n r rest content after Trailing s h = absurd h

content_as : (n : ℕ) (r : ElementFormat) (rest content after : List ℕ)
    (x : Result (List ℕ × List ℕ) DecodeFault)
    → format_of n ≡ Some r → MatchResult x (λ x. IsContent r rest x.0 x.1) (ContentFault n r rest)
    → IsContent r rest content after → x ≡ Ok (content, after)
content_as n r rest content after (Ok x) format h c =
    let a = content_is n r rest x.0 x.1 format h in
    let b = content_is n r rest content after format c in
    let same = spelled_once n x.0 content x.1 after a.0 b.0 (sym a.1 ∙ b.1) in
    rw (← same.0, ← same.1) refl
content_as n r rest content after (Err f) format h c =
    absurd (read_both n r rest content after f format c h)

pub content_found : (n : ℕ) (r : ElementFormat) (rest content after : List ℕ) → format_of n ≡ Some r
    → IsContent r rest content after → content_by n (format_of n) rest ≡ Ok (content, after)
content_found n r rest content after format c =
    rw format (content_as n r rest content after (content_by n (Some r) rest) format
    (content_gives n r rest) c)

content_not : (n : ℕ) (r : ElementFormat) (rest : List ℕ) (f : DecodeFault)
    (x : Result (List ℕ × List ℕ) DecodeFault)
    → format_of n ≡ Some r → MatchResult x (λ x. IsContent r rest x.0 x.1) (ContentFault n r rest)
    → ContentFault n r rest f → (e : DecodeFault) × (x ≡ Err e)
content_not n r rest f (Ok x) format h c = absurd (read_both n r rest x.0 x.1 f format h c)
content_not n r rest f (Err e) format h c = (e, refl)

pub content_missing : (n : ℕ) (r : ElementFormat) (rest : List ℕ) (f : DecodeFault) →
    format_of n ≡ Some r
    → ContentFault n r rest f → (e : DecodeFault) × (content_by n (format_of n) rest ≡ Err e)
content_missing n r rest f format c =
    let h = content_not n r rest f (content_by n (Some r) rest) format (content_gives n r rest) c in
    (h.0, rw format h.1)

-- ---- the elements below a number

abbrev below : ℕ → List ℕ → List ℕ
below n ns = take_while (λ k. nat_lt k n) ns

pub below_more : (n m : ℕ) (ms : List ℕ) → m < n → below n (m ∷ ms) ≡ m ∷ below n ms
below_more n m ms lt = take_while-cons (λ k. nat_lt k n) m ms ∙ rw (lt-ltb m n lt) refl

pub below_none : (n m : ℕ) (ms : List ℕ) → n ≤ m → below n (m ∷ ms) ≡ []
below_none n m ms le = take_while-cons (λ k. nat_lt k n) m ms ∙ rw (le-ltb m n le) refl

-- what stands from n on is what is left of rest behind those of ns that are below n
pub record Leaves (n : ℕ) (text ns rest : List ℕ) : Type 0 where
  pub same : result_ok (behind (take_while (λ k. nat_lt k n) ns) rest)
      ≡ result_ok (standing_from n text)

pub leaves_none : (n : ℕ) (text after : List ℕ) → after ≡ drop 4 text →
    None ≡ result_ok (bitmaps_at after)
    → None ≡ result_ok (standing_from n text)
unfolding standing_from
leaves_none n text after is h =
    nothing (bitmaps_at (drop 4 text)) (h ∙ ap (λ (x : List ℕ). result_ok (bitmaps_at x)) is)
  where
    nothing : (r : Result (Bitmaps × List ℕ) DecodeFault) → None ≡ result_ok r
        → None ≡ result_ok
        (r >>= (λ bitmaps. behind (take_while (λ k. nat_lt k n) (named bitmaps.0)) bitmaps.1))
    nothing (Ok x) h = let e : None ≡ Some x = h in cc
    nothing (Err e) h = refl

some_none : {X : Type 0} {x : X} → Some x ≡ None → ⊥
some_none h = cc

pub leaves_all : (n : ℕ) (text after : List ℕ) (bitmaps left : Bitmaps) (body : List ℕ) →
    after ≡ drop 4 text
    → Some (bitmaps, body) ≡ result_ok (bitmaps_at after) → named left ≡ named bitmaps
    → Leaves n text (named left) body
unfolding standing_from
leaves_all n text after bitmaps left body is h same = record {
  same = rw same
      (begun (bitmaps_at (drop 4 text)) (h ∙ ap (λ (x : List ℕ). result_ok (bitmaps_at x)) is));
}
  where
    begun : (r : Result (Bitmaps × List ℕ) DecodeFault) → Some (bitmaps, body) ≡ result_ok r
        → result_ok (behind (take_while (λ k. nat_lt k n) (named bitmaps)) body)
        ≡ result_ok (r >>= (λ x. behind (take_while (λ k. nat_lt k n) (named x.0)) x.1))
    begun (Ok x) h =
        let some : Some (bitmaps, body) ≡ Some x = h in
        let same : (bitmaps, body) ≡ x = cc in
        rw (← same) refl
    begun (Err e) h = absurd (some_none h)

pub leaves_fewer : (n m : ℕ) (text ns ms rest content after : List ℕ) (r : ElementFormat) →
    Leaves n text ns rest
    → ns ≡ m ∷ ms → m < n → format_of m ≡ Some r → IsContent r rest content after →
    Leaves n text ms after
unfolding behind
leaves_fewer n m text ns ms rest content after r l is lt format c = record {
  same =
      let whole : result_ok (behind (m ∷ below n ms) rest) ≡ result_ok (behind (below n ms) after) =
      rw (content_found m r rest content after format c) refl in
      let from : below n ns ≡ m ∷ below n ms = ap (below n) is ∙ below_more n m ms lt in
      sym whole ∙ ap (λ (x : List ℕ). result_ok (behind x rest)) (sym from) ∙ l.same;
}

-- element m has no format, or not its form
pub leaves_fault : (n m : ℕ) (text ns ms rest : List ℕ) (e : DecodeFault) → Leaves n text ns rest →
    ns ≡ m ∷ ms
    → m < n → content_by m (format_of m) rest ≡ Err e → None ≡ result_ok (standing_from n text)
unfolding behind
leaves_fault n m text ns ms rest e l is lt fault =
    let whole : result_ok (behind (m ∷ below n ms) rest) ≡ None = rw fault refl in
    let from : below n ns ≡ m ∷ below n ms = ap (below n) is ∙ below_more n m ms lt in
    sym whole ∙ ap (λ (x : List ℕ). result_ok (behind x rest)) (sym from) ∙ l.same

pub no_format : (m : ℕ) (rest : List ℕ) → format_of m ≡ None
    → (e : DecodeFault) × (content_by m (format_of m) rest ≡ Err e)
unfolding content_by
no_format m rest none = (UnknownElement m, rw none refl)

pub leaves_rest : (n m : ℕ) (text ns ms rest : List ℕ) → Leaves n text ns rest → ns ≡ m ∷ ms → n ≤ m
    → Some rest ≡ result_ok (standing_from n text)
unfolding behind
leaves_rest n m text ns ms rest l is le =
    let none : below n ns ≡ [] = ap (below n) is ∙ below_none n m ms le in
    sym (ap (λ (x : List ℕ). result_ok (behind x rest)) none) ∙ l.same

pub leaves_end : (n : ℕ) (text ns rest : List ℕ) → Leaves n text ns rest → ns ≡ []
    → Some rest ≡ result_ok (standing_from n text)
unfolding behind
leaves_end n text ns rest l is =
    sym (ap (λ (x : List ℕ). result_ok (behind (below n x) rest)) is) ∙ l.same
