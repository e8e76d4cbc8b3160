-- Bytes are the frames of one list of messages at most.
use Rattle.std.proofs.Common.{◌≡◌, ◌/◌, ◌%◌, ◌≤◌, ◌⊎◌, ℕ, Bool, true, false, not, ◌&&◌, nat_lt}
use Rattle.std.proofs.Common.{nat_le, List, [], ◌∷◌, ◌++◌, length, append_assoc, append-nil}
use Rattle.std.proofs.Common.{length-append, arith, refl, sym, ap, subst, ◌∙◌, inl, inr}
use Rattle.std.proofs.lemmas.Bool.{le-leb}
use Rattle.std.proofs.lemmas.Bool.Decides.{nat_tests}
use Rattle.acq_link.specs.Frames.{fits_length, fits_frame, fit_frames, frame, framed, stated_length}
use Rattle.acq_link.specs.Frames.{has_frame, is_partial, has_bad_length, FramesThen, Frames}

-- the two parts of a byte string are stated by the length of the first
split_once : (xs ys us vs : List ℕ) → length xs ≡ length us → xs ++ ys ≡ us ++ vs →
    (xs ≡ us) × (ys ≡ vs)
split_once [] ys [] vs same e = (refl, e)
split_once [] ys (u ∷ us) vs same e = absurd (omega arith)
split_once (x ∷ xs) ys [] vs same e = absurd (omega arith)
split_once (x ∷ xs) ys (u ∷ us) vs same e =
    let head : x ≡ u = cc in
    let tail : xs ++ ys ≡ us ++ vs = cc in
    let rest = split_once xs ys us vs (omega arith) tail in
    (cc (head, rest.0), rest.1)

-- a length is stated by its two bytes
same_length : (m n : ℕ) → m / 256 ≡ n / 256 → m % 256 ≡ n % 256 → m ≡ n
same_length m n high low = omega arith

-- two frames at the front of the same bytes are one
frame_once : (message other rest after : List ℕ) → frame message ++ rest ≡ frame other ++ after →
    (message ≡ other) × (rest ≡ after)
frame_once message other rest after e =
    let high : length message / 256 ≡ length other / 256 = cc in
    let low : length message % 256 ≡ length other % 256 = cc in
    let tail : message ++ rest ≡ other ++ after = cc in
    split_once message rest other after (same_length (length message) (length other) high low) tail

true-is-not-false : true ≡ false → ⊥
true-is-not-false e = cc

both : (a b : Bool) → a ≡ true → b ≡ true → (a && b) ≡ true
both a b p q = ap (λ x. x && b) p ∙ q

stated : (n : ℕ) → stated_length (n / 256) (n % 256) ≡ n
stated n = omega arith

-- a frame is one at the front
pub has_frame-frame : (message rest : List ℕ) → fits_frame message ≡ true →
    has_frame (frame message ++ rest) ≡ true
has_frame-frame message rest fits =
    let P : ℕ → Type 0 = λ n. (fits_length n && nat_le n (length (message ++ rest))) ≡ true in
    let long : length message ≤ length (message ++ rest) = omega (arith, length-append message rest)
    in
    subst P (sym (stated (length message)))
    (both (fits_length (length message)) (nat_le (length message) (length
    (message ++ rest))) fits (le-leb (length message) (length (message ++ rest)) long))

first_fits : (message : List ℕ) (messages : List (List ℕ)) →
    fit_frames (message ∷ messages) ≡ true →
    (fits_frame message ≡ true) × (fit_frames messages ≡ true)
first_fits message messages fits = grind arith

-- bytes are whole frames and a rest that begins with none in one way at most
pub reading_once : (messages others : List (List ℕ)) (rest after : List ℕ) →
    fit_frames messages ≡ true →
    fit_frames others ≡ true
    → has_frame rest ≡ false → has_frame after ≡ false →
    framed messages ++ rest ≡ framed others ++ after →
    (messages ≡ others) × (rest ≡ after)
reading_once [] [] rest after f g h k e = (refl, e)
reading_once [] (other ∷ others) rest after f g h k e =
    let there = has_frame-frame other (framed others ++ after) (first_fits other others g).0 in
    let e' : rest ≡ frame other ++ (framed others ++ after) = e
    ∙ append_assoc (frame other) (framed others) after in
    let no : has_frame (frame other ++ (framed others ++ after)) ≡ false =
    subst (λ l. has_frame l ≡ false) e' h in
    absurd (true-is-not-false (sym there ∙ no))
reading_once (message ∷ messages) [] rest after f g h k e =
    let there = has_frame-frame message (framed messages ++ rest) (first_fits message messages f).0
    in
    let e' : after ≡ frame message ++ (framed messages ++ rest) = sym e
    ∙ append_assoc (frame message) (framed messages) rest in
    let no : has_frame (frame message ++ (framed messages
    ++ rest)) ≡ false = subst (λ l. has_frame l ≡ false) e' k in
    absurd (true-is-not-false (sym there ∙ no))
reading_once (message ∷ messages) (other ∷ others) rest after f g h k e =
    let e' : frame message ++ (framed messages ++ rest) ≡ frame other ++ (framed others ++ after) =
    sym (append_assoc (frame message) (framed messages) rest) ∙ e
    ∙ append_assoc (frame other) (framed others) after in
    let one = frame_once message other (framed messages ++ rest) (framed others ++ after) e' in
    let more = reading_once messages others rest after (first_fits message messages f).1
    (first_fits other others g).1 h k one.1 in
    (cc (one.0, more.0), more.1)

-- the frames of one list at most
pub frames_once : (bytes : List ℕ) (messages others : List (List ℕ)) → Frames bytes messages →
    Frames bytes others → messages ≡ others
frames_once bytes messages others a b =
    (reading_once messages others [] [] a.each b.each refl refl
    (append-nil (framed messages) ∙ sym a.whole
    ∙ b.whole ∙ sym (append-nil (framed others)))).0

pub frames_then_once : (bytes : List ℕ) (messages others : List (List ℕ)) (rest after : List ℕ) →
    FramesThen bytes messages rest → FramesThen bytes others after
    → has_frame rest ≡ false → has_frame after ≡ false → (messages ≡ others) × (rest ≡ after)
frames_then_once bytes messages others rest after a b h k =
    reading_once messages others rest after a.each b.each h
    k (sym a.whole ∙ b.whole)

le_or_lt : (stated len : ℕ) → nat_le stated len ≡ false → nat_lt len stated ≡ true
le_or_lt stated len h = grind (arith, nat_tests)

part_or_bad : (fits : Bool) (stated len : ℕ) → (fits && nat_le stated len) ≡ false →
    ((fits && nat_lt len stated) ≡ true) ⊎ (not fits ≡ true)
part_or_bad false stated len h = inr refl
part_or_bad true stated len h = inl (le_or_lt stated len h)

-- what does not begin with a whole frame is nothing, a frame begun, or a bad length
pub rest_is : (rest : List ℕ) → has_frame rest ≡ false →
    (rest ≡ []) ⊎ ((is_partial rest ≡ true) ⊎ (has_bad_length rest ≡ true))
rest_is [] h = inl refl
rest_is (high ∷ []) h = inr (inl refl)
rest_is (high ∷ low ∷ message) h =
    inr (part_or_bad (fits_length (stated_length high low)) (stated_length high low)
    (length message) h)

lt_not_le : (stated len : ℕ) → nat_lt len stated ≡ true → nat_le stated len ≡ false
lt_not_le stated len h = grind (arith, nat_tests)

partial_at : (fits : Bool) (stated len : ℕ) → (fits && nat_lt len stated) ≡ true →
    ((fits && nat_le stated len) ≡ false) × (not fits ≡ false)
partial_at false stated len h = absurd (true-is-not-false (sym h))
partial_at true stated len h = (lt_not_le stated len h, refl)

-- a frame begun and a bad length are no whole frame, and never the same
pub partial_is : (rest : List ℕ) → is_partial rest ≡ true →
    (has_frame rest ≡ false) × (has_bad_length rest ≡ false)
partial_is [] h = absurd (true-is-not-false (sym h))
partial_is (high ∷ []) h = (refl, refl)
partial_is (high ∷ low ∷ message) h = partial_at (fits_length (stated_length high low))
    (stated_length high low)
    (length message) h

bad_at : (fits b : Bool) → not fits ≡ true → (fits && b) ≡ false
bad_at false b h = refl
bad_at true b h = absurd (true-is-not-false (sym h))

pub bad_length_is : (rest : List ℕ) → has_bad_length rest ≡ true → has_frame rest ≡ false
bad_length_is [] h = refl
bad_length_is (high ∷ []) h = refl
bad_length_is (high ∷ low ∷ message) h = bad_at (fits_length (stated_length high low)) (nat_le
    (stated_length high low) (length message)) h
