-- A content that is shown, or written whole, is said by what is written.
use Rattle.std.proofs.Common.{◌≡◌, ℕ, Bool, true, false, List, [], ◌∷◌, ◌++◌, length}
use Rattle.std.proofs.Common.{take, drop, Option, Some, None, refl, sym, ap, subst, ◌∙◌, inl, inr, arith}
use Rattle.std.proofs.Common.{append-nil, length-append, leb}
use Rattle.std.specs.Prelude.{◌==◌, ◌&&◌, codes, if◌then◌else◌}
use Rattle.std.specs.List.{list_all}
use Rattle.std.proofs.Math.Seq.{drop-append_seam, drop-length, take-append_seam}
use Rattle.std.proofs.lemmas.Bool.{and_parts, cases_Bool, eqb-true, le-leb, or_cases}
use Rattle.std.proofs.lemmas.Bool.{or_parts}
use Rattle.iso_codec.specs.Content.{is_printable}
use Rattle.iso_codec.specs.Message.{is_element}
use Rattle.iso_codec.specs.Table.{format_of}
use Rattle.acq_show.specs.Contents.{content_shown, meaning_shown, printable}
use Rattle.acq_show.specs.Lines.{begins}
use Rattle.acq_show.specs.Meanings.{meaning}
use Rattle.acq_make.specs.Contents.{code_size, content_said, is_hidden, shown_said, without_meaning}
use Rattle.acq_make.specs.Contents.{without_words}
use Rattle.acq_make.specs.WrittenOut.{content_written, is_masked}
use Rattle.acq_make.proofs.NumberLines.{no_empty}
use Rattle.acq_make.proofs.PartsBack.{amounts_back, original_back}
use Rattle.acq_make.proofs.Printed.{printable_is}
use Rattle.acq_make.proofs.Texts.{begins_own}

-- ---- what is said

said_by : (n : ℕ) (text content : List ℕ) → is_hidden n text ≡ false → shown_said n text ≡ content
    → content_said n text ≡ Some content
unfolding content_said
said_by n text content seen is =
    ap (λ (b : Bool). if b then None else Some (shown_said n text)) seen ∙ ap Some is

-- ---- what is hidden, and written whole

at_literal : (n k : ℕ) (content : List ℕ) → (n == k) ≡ true → shown_said k content ≡ content
    → shown_said n content ≡ content
at_literal n k content same is =
    subst (λ (x : ℕ). shown_said x content ≡ content) (sym (eqb-true n k same)) is

masked_said : (n : ℕ) (content : List ℕ) → is_masked n ≡ true → shown_said n content ≡ content
masked_said n content masked =
    elim (or_cases _ _ masked) [
      | inr at ↦ at_literal n 55 content at refl
      | inl four ↦ elim (or_cases _ _ four) [
        | inr at ↦ at_literal n 52 content at refl
        | inl three ↦ elim (or_cases _ _ three) [
          | inr at ↦ at_literal n 45 content at refl
          | inl two ↦ elim (or_cases _ _ two) [
            | inr at ↦ at_literal n 35 content at refl
            | inl at ↦ at_literal n 2 content at refl
          ]
        ]
      ]
    ]

and_false : (b : Bool) → (b && false) ≡ false
and_false true = refl
and_false false = refl

-- a code, and what it means
coded_with : (size : ℕ) (content more : List ℕ) → length content ≡ size
    → without_words (Some size) (content ++ (codes ": " ++ more)) ≡ content
coded_with size content more is =
    let later : List ℕ = codes ": " ++ more in
    let text : List ℕ = content ++ later in
    let cut : drop size text ≡ later =
    ap (λ (k : ℕ). drop k text) (sym is) ∙ drop-append_seam content later in
    let long : leb size (length text) ≡ true =
    le-leb size (length text) (omega (arith, length-append content later, is)) in
    let there : begins (codes ": ") (drop size text) ≡ true =
    ap (begins (codes ": ")) cut ∙ begins_own (codes ": ") more in
    ap (λ (b : Bool). if b && begins (codes ": ") (drop size text) then take size text else text) long
    ∙ ap (λ (b : Bool). if b then take size text else text) there
    ∙ ap (λ (k : ℕ). take k text) (sym is) ∙ take-append_seam content later

without_words_is : (size : ℕ) (content words : List ℕ) → length content ≡ size
    → without_words (Some size) (content ++ meaning_shown words) ≡ content
without_words_is size content [] is =
    let text : List ℕ = content ++ [] in
    let cut : drop size text ≡ [] =
    ap (λ (k : ℕ). drop k text) (sym is) ∙ ap (drop (length content)) (append-nil content)
    ∙ drop-length content in
    let no : (leb size (length text) && begins (codes ": ") (drop size text)) ≡ false =
    ap (λ (t : List ℕ). leb size (length text) && begins (codes ": ") t) cut ∙ and_false _ in
    ap (λ (b : Bool). if b then take size text else text) no ∙ append-nil content
without_words_is size content (w ∷ ws) is =
    let said : meaning_shown (w ∷ ws) ≡ codes ": " ++ (w ∷ ws) =
    ap (λ (b : Bool). if b then [] else (codes ": " ++ (w ∷ ws))) (no_empty w ws) in
    ap (λ (t : List ℕ). without_words (Some size) (content ++ t)) said
    ∙ coded_with size content (w ∷ ws) is

-- ---- lengths of codes and of contents in parts

sized_3 : (c : List ℕ) → is_element (3, c) ≡ true → length c ≡ 6
unfolding format_of
sized_3 c h = eqb-true (length c) 6 (and_parts _ _ h).0

sized_39 : (c : List ℕ) → is_element (39, c) ≡ true → length c ≡ 2
unfolding format_of
sized_39 c h = eqb-true (length c) 2 (and_parts _ _ h).0

sized_66 : (c : List ℕ) → is_element (66, c) ≡ true → length c ≡ 1
unfolding format_of
sized_66 c h = eqb-true (length c) 1 (and_parts _ _ h).0

sized_70 : (c : List ℕ) → is_element (70, c) ≡ true → length c ≡ 3
unfolding format_of
sized_70 c h = eqb-true (length c) 3 (and_parts _ _ h).0

sized_90 : (c : List ℕ) → is_element (90, c) ≡ true → length c ≡ 42
unfolding format_of
sized_90 c h = eqb-true (length c) 42 (and_parts _ _ h).0

sized_95 : (c : List ℕ) → is_element (95, c) ≡ true → length c ≡ 42
unfolding format_of
sized_95 c h = eqb-true (length c) 42 (and_parts _ _ h).0

-- ---- what is shown with what it means

Coded : ℕ → List ℕ → Type 0
Coded n c = without_meaning n (c ++ meaning_shown (meaning n c)) ≡ c

coded_at : (n k : ℕ) (c : List ℕ) → (n == k) ≡ true → is_element (n, c) ≡ true
    → (is_element (k, c) ≡ true → Coded k c) → Coded n c
coded_at n k c same is own =
    let at : n ≡ k = eqb-true n k same in
    subst (λ (x : ℕ). Coded x c) (sym at) (own (subst (λ (x : ℕ). is_element (x, c) ≡ true) at is))

plain : (n : ℕ) (c : List ℕ) → (n == 3) ≡ false → (n == 39) ≡ false → (n == 66) ≡ false
    → (n == 70) ≡ false → Coded n c
unfolding Coded
plain n c n3 n39 n66 n70 =
    let size : code_size n ≡ None = rw (n3, n39, n66, n70) refl in
    let none : meaning n c ≡ [] = rw (n3, n39, n66, n70) refl in
    ap (λ (o : Option ℕ). without_words o (c ++ meaning_shown (meaning n c))) size
    ∙ ap (λ (w : List ℕ). c ++ meaning_shown w) none ∙ append-nil c

coded : (n : ℕ) (c : List ℕ) → is_element (n, c) ≡ true → Coded n c
unfolding Coded
coded n c is =
    elim (cases_Bool (n == 3)) [
      | inl at ↦ coded_at n 3 c at is (λ h. without_words_is 6 c (meaning 3 c) (sized_3 c h))
      | inr n3 ↦ elim (cases_Bool (n == 39)) [
        | inl at ↦ coded_at n 39 c at is (λ h. without_words_is 2 c (meaning 39 c) (sized_39 c h))
        | inr n39 ↦ elim (cases_Bool (n == 66)) [
          | inl at ↦
              coded_at n 66 c at is (λ h. without_words_is 1 c (meaning 66 c) (sized_66 c h))
          | inr n66 ↦ elim (cases_Bool (n == 70)) [
            | inl at ↦
                coded_at n 70 c at is (λ h. without_words_is 3 c (meaning 70 c) (sized_70 c h))
            | inr n70 ↦ plain n c n3 n39 n66 n70
          ]
        ]
      ]
    ]

-- ---- all contents

Back : ℕ → List ℕ → Type 0
Back n c = content_said n (content_shown n c) ≡ Some c

pub shown_plain : (n : ℕ) (c : List ℕ) → is_masked n ≡ false → (n == 90) ≡ false → (n == 95) ≡ false
    → content_shown n c ≡ printable c ++ meaning_shown (meaning n c)
shown_plain n c seen n90 n95 =
    let four = or_parts _ _ seen in
    let three = or_parts _ _ four.0 in
    let two = or_parts _ _ three.0 in
    let one = or_parts _ _ two.0 in
    let n2 : (n == 2) ≡ false = one.0 in
    let n35 : (n == 35) ≡ false = one.1 in
    let n45 : (n == 45) ≡ false = two.1 in
    let n52 : (n == 52) ≡ false = three.1 in
    let n55 : (n == 55) ≡ false = four.1 in
    rw (n2, n35, n45, n52, n55, n90, n95) refl

pub unhidden : (n : ℕ) (text : List ℕ) → is_masked n ≡ false → is_hidden n text ≡ false
unhidden n text seen =
    let four = or_parts _ _ seen in
    let three = or_parts _ _ four.0 in
    let two = or_parts _ _ three.0 in
    let n45 : (n == 45) ≡ false = two.1 in
    let n55 : (n == 55) ≡ false = four.1 in
    rw (n45, n55) refl

plain_back : (n : ℕ) (c : List ℕ) → is_element (n, c) ≡ true → list_all is_printable c ≡ true
    → is_masked n ≡ false → (n == 90) ≡ false → (n == 95) ≡ false → Back n c
unfolding Back Coded
plain_back n c is clear seen n90 n95 =
    let text : List ℕ = c ++ meaning_shown (meaning n c) in
    let shown : content_shown n c ≡ text =
    shown_plain n c seen n90 n95
    ∙ ap (λ (x : List ℕ). x ++ meaning_shown (meaning n c)) (printable_is c clear) in
    let said : shown_said n text ≡ c = rw (n90, n95) (coded n c is) in
    ap (content_said n) shown ∙ said_by n text c (unhidden n text seen) said

back_at : (n k : ℕ) (c : List ℕ) → (n == k) ≡ true → is_element (n, c) ≡ true
    → (is_element (k, c) ≡ true → Back k c) → Back n c
back_at n k c same is own =
    let at : n ≡ k = eqb-true n k same in
    subst (λ (x : ℕ). Back x c) (sym at) (own (subst (λ (x : ℕ). is_element (x, c) ≡ true) at is))

original_said : (c : List ℕ) → list_all is_printable c ≡ true → is_element (90, c) ≡ true → Back 90 c
unfolding Back
original_said c clear is =
    said_by 90 (content_shown 90 c) c refl (original_back c (sized_90 c is) clear)

amounts_said : (c : List ℕ) → list_all is_printable c ≡ true → is_element (95, c) ≡ true → Back 95 c
unfolding Back
amounts_said c clear is =
    said_by 95 (content_shown 95 c) c refl (amounts_back c (sized_95 c is) clear)

shown_back : (n : ℕ) (c : List ℕ) → is_element (n, c) ≡ true → list_all is_printable c ≡ true
    → is_masked n ≡ false → Back n c
shown_back n c is clear seen =
    elim (cases_Bool (n == 90)) [
      | inl at ↦ back_at n 90 c at is (original_said c clear)
      | inr n90 ↦ elim (cases_Bool (n == 95)) [
        | inl at ↦ back_at n 95 c at is (amounts_said c clear)
        | inr n95 ↦ plain_back n c is clear seen n90 n95
      ]
    ]

-- a content that is written is said again
pub content_back : (n : ℕ) (c : List ℕ) → is_element (n, c) ≡ true → list_all is_printable c ≡ true
    → is_hidden n c ≡ false → content_said n (content_written n c) ≡ Some c
unfolding Back
content_back n c is clear hidden =
    elim (cases_Bool (is_masked n)) [
      | inl masked ↦
          ap (λ (b : Bool). content_said n (if b then c else content_shown n c)) masked
          ∙ said_by n c c hidden (masked_said n c masked)
      | inr seen ↦
          ap (λ (b : Bool). content_said n (if b then c else content_shown n c)) seen
          ∙ shown_back n c is clear seen
    ]
