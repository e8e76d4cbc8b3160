-- The message of the frame in front.
use Rattle.std.proofs.Common.{◌≡◌, ◌/◌, ◌%◌, ◌<◌, ◌≤◌, ℕ, Bool, true, false, ◌&&◌, true≢false}
use Rattle.std.proofs.Common.{List, [], ◌∷◌, ◌++◌, length, take, drop, arith, refl, sym, ap}
use Rattle.std.proofs.Common.{◌∙◌, inl, inr, take-append-drop}
use Rattle.std.proofs.Math.Seq.{drop-append_seam}
use Rattle.std.proofs.lemmas.Bool.{leb-true, lt-ltb, ltb-true}
use Rattle.std.proofs.lemmas.List.{length-take-le, take_at}
use Rattle.std.specs.List.{list_all}
use Rattle.acq_link.specs.Frames.{fits_frame, fits_length, frame, has_bad_length, has_frame}
use Rattle.acq_link.specs.Frames.{stated_length}
use Rattle.acq_link.specs.FramesAt.{BeginsWithFrame, MayBecomeFrame}
use Rattle.acq_link.specs.FirstMessage.{begins_with_message, behind_message, first_message}
use Rattle.acq_link.specs.FirstMessage.{is_byte}
use Rattle.acq_link.proofs.FramesReadOnce.{bad_length_is, has_frame-frame, partial_is}

both : (a b : Bool) → a ≡ true → b ≡ true → (a && b) ≡ true
both a b p q = ap (λ x. x && b) p ∙ q

stated : (n : ℕ) → stated_length (n / 256) (n % 256) ≡ n
stated n = omega arith

short : (n : ℕ) → fits_length n ≡ true → n ≤ 4096
short n fits = leb-true n 4096 (right _ _ fits) where
  right : (a b : Bool) → (a && b) ≡ true → b ≡ true
  right true b h = h
  right false b h = absurd (true≢false (sym h))

high_byte : (n : ℕ) → n ≤ 4096 → n / 256 < 256
high_byte n le = omega (arith, le)

low_byte : (n : ℕ) → n % 256 < 256
low_byte n = omega arith

-- a frame that stands in front is that of the first message
module _ (message rest : List ℕ) (fits : fits_frame message ≡ true) where
  bytes_of_length : list_all is_byte (take 2 (frame message ++ rest)) ≡ true
  bytes_of_length =
      let n = length message in
      both (is_byte (n / 256)) (is_byte (n % 256) && true)
      (lt-ltb (n / 256) 256 (high_byte n (short n fits)))
      (both (is_byte (n % 256)) true (lt-ltb (n % 256) 256 (low_byte n)) refl)

  begins : begins_with_message (frame message ++ rest) ≡ true
  begins = both (has_frame (frame message ++ rest)) _ (has_frame-frame message rest fits)
      bytes_of_length

  first : message ≡ first_message (frame message ++ rest)
  first =
      sym (ap (λ (n : ℕ). take n (message ++ rest)) (stated (length message))
      ∙ take_at message rest (length message) refl)

  behind : rest ≡ behind_message (frame message ++ rest)
  behind =
      sym (ap (λ (n : ℕ). drop n (message ++ rest)) (stated (length message))
      ∙ drop-append_seam message rest)

pub message_is : (bytes message rest : List ℕ) → BeginsWithFrame bytes message rest →
    (begins_with_message bytes ≡ true) × (message ≡ first_message bytes)
    × (rest ≡ behind_message bytes)
message_is bytes message rest b = (
  ap begins_with_message b.whole ∙ begins message rest b.fits,
  first message rest b.fits ∙ ap first_message (sym b.whole),
  behind message rest b.fits ∙ ap behind_message (sym b.whole),
)

-- and the other way round
parts : (a b c d : Bool) → ((a && b) && (c && (d && true))) ≡ true →
    (a ≡ true) × (b ≡ true) × (c ≡ true) × (d ≡ true)
parts true true true true h = (refl, refl, refl, refl)
parts false b c d h = absurd (true≢false (sym h))
parts true false c d h = absurd (true≢false (sym h))
parts true true false d h = absurd (true≢false (sym h))
parts true true true false h = absurd (true≢false (sym h))

high_of : (high low : ℕ) → low < 256 → stated_length high low / 256 ≡ high
high_of high low l = omega (arith, l)

low_of : (high low : ℕ) → low < 256 → stated_length high low % 256 ≡ low
low_of high low l = omega (arith, l)

pub message_in_front : (bytes : List ℕ) → begins_with_message bytes ≡ true →
    BeginsWithFrame bytes (first_message bytes) (behind_message bytes)
message_in_front [] h = absurd (true≢false (sym h))
message_in_front (high ∷ []) h = absurd (true≢false (sym h))
message_in_front (high ∷ low ∷ text) h =
    let n = stated_length high low in
    let p = parts _ _ (is_byte high) (is_byte low) h in
    let small = ltb-true low 256 p.3 in
    let long : length (take n text) ≡ n =
    length-take-le n text (leb-true n (length text) p.1) in
    record {
      whole = sym ((λ i. long i / 256 ∷ long i % 256 ∷ take-append-drop n text i)
          ∙ (λ i. high_of high low small i ∷ low_of high low small i ∷ text));
      fits = ap fits_length long ∙ p.0;
    }

-- where none is whole
no_frame : (bytes : List ℕ) → has_frame bytes ≡ false → begins_with_message bytes ≡ false
no_frame bytes h = ap (λ (b : Bool). b && list_all is_byte (take 2 bytes)) h

pub none_begun : (bytes : List ℕ) → MayBecomeFrame bytes → begins_with_message bytes ≡ false
none_begun bytes (inl e) = ap begins_with_message e
none_begun bytes (inr part) = no_frame bytes (partial_is bytes part).0

pub none_bad : (bytes : List ℕ) → has_bad_length bytes ≡ true → begins_with_message bytes ≡ false
none_bad bytes bad = no_frame bytes (bad_length_is bytes bad)
