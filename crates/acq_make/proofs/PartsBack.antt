-- A content of which the parts are shown is had back from them.
use Rattle.std.proofs.Common.{◌≡◌, ℕ, ◌+◌, Bool, true, nat_eq, List, [], ◌++◌, length, take, drop}
use Rattle.std.proofs.Common.{refl, sym, ap, ◌∙◌, arith, append-nil, append_assoc, length-append}
use Rattle.std.proofs.Common.{length-drop}
use Rattle.std.specs.Prelude.{codes, if◌then◌else◌}
use Rattle.std.specs.List.{list_all}
use Rattle.std.specs.Cmp.Lexicographic.{pointwise}
use Rattle.std.proofs.Math.Seq.{drop-append_seam, take-append_seam}
use Rattle.std.proofs.lemmas.Bool.{eq-eqb}
use Rattle.std.proofs.lemmas.List.{length-take, take-append-drop}
use Rattle.iso_codec.specs.Content.{is_printable}
use Rattle.acq_show.specs.Contents.{content_shown, part_shown, printable}
use Rattle.acq_make.specs.Contents.{amount_places, if_shown, original_places, parts_at, unshown}
use Rattle.acq_make.proofs.Printed.{all_drop, all_take, printable_is}
use Rattle.acq_make.proofs.Texts.{same_all}

-- a part of a text, by what stands in front of it
piece : (text front p rest : List ℕ) (start size : ℕ) → text ≡ front ++ (p ++ rest)
    → length front ≡ start → length p ≡ size → take size (drop start text) ≡ p
piece text front p rest start size is e1 e2 =
    ap (λ (t : List ℕ). take size (drop start t)) is
    ∙ ap (λ (k : ℕ). take size (drop k (front ++ (p ++ rest)))) (sym e1)
    ∙ ap (take size) (drop-append_seam front (p ++ rest))
    ∙ ap (λ (k : ℕ). take k (p ++ rest)) (sym e2) ∙ take-append_seam p rest

Five : (a1 p1 a2 p2 a3 p3 a4 p4 a5 p5 : List ℕ) → List ℕ
Five a1 p1 a2 p2 a3 p3 a4 p4 a5 p5 =
    (a1 ++ p1) ++ (a2 ++ p2) ++ (a3 ++ p3) ++ (a4 ++ p4) ++ (a5 ++ p5)

five_parts : (text a1 p1 a2 p2 a3 p3 a4 p4 a5 p5 : List ℕ)
    → text ≡ Five a1 p1 a2 p2 a3 p3 a4 p4 a5 p5
    → length a1 ≡ 5 → length p1 ≡ 4 → length a2 ≡ 15 → length p2 ≡ 6 → length a3 ≡ 14
    → length p3 ≡ 10 → length a4 ≡ 11 → length p4 ≡ 11 → length a5 ≡ 12 → length p5 ≡ 11
    → parts_at original_places text ≡ p1 ++ (p2 ++ (p3 ++ (p4 ++ p5)))
unfolding Five
five_parts text a1 p1 a2 p2 a3 p3 a4 p4 a5 p5 is m1 n1 m2 n2 m3 n3 m4 n4 m5 n5 =
    let e1 = piece text a1 p1 (a2 ++ (p2 ++ (a3 ++ (p3 ++ (a4 ++ (p4 ++ (a5 ++ p5))))))) 5 4
    (is ∙ simp append_assoc) m1 n1 in
    let e2 = piece text (a1 ++ (p1 ++ a2)) p2 (a3 ++ (p3 ++ (a4 ++ (p4 ++ (a5 ++ p5))))) 24 6
    (is ∙ simp append_assoc) (simp length-append (omega arith)) n2 in
    let e3 = piece text (a1 ++ (p1 ++ (a2 ++ (p2 ++ a3)))) p3 (a4 ++ (p4 ++ (a5 ++ p5))) 44 10
    (is ∙ simp append_assoc) (simp length-append (omega arith)) n3 in
    let e4 = piece text (a1 ++ (p1 ++ (a2 ++ (p2 ++ (a3 ++ (p3 ++ a4)))))) p4 (a5 ++ p5) 65 11
    (is ∙ simp append_assoc) (simp length-append (omega arith)) n4 in
    let e5 = piece text (a1 ++ (p1 ++ (a2 ++ (p2 ++ (a3 ++ (p3 ++ (a4 ++ (p4 ++ a5)))))))) p5 [] 88 11
    (is ∙ simp (append_assoc, append-nil)) (simp length-append (omega arith)) n5 in
    rw (e1, e2, e3, e4, e5, append-nil) refl

Four : (a1 p1 a2 p2 a3 p3 a4 p4 : List ℕ) → List ℕ
Four a1 p1 a2 p2 a3 p3 a4 p4 = (a1 ++ p1) ++ (a2 ++ p2) ++ (a3 ++ p3) ++ (a4 ++ p4)

four_parts : (text a1 p1 a2 p2 a3 p3 a4 p4 : List ℕ) → text ≡ Four a1 p1 a2 p2 a3 p3 a4 p4
    → length a1 ≡ 7 → length p1 ≡ 12 → length a2 ≡ 20 → length p2 ≡ 12 → length a3 ≡ 6
    → length p3 ≡ 9 → length a4 ≡ 17 → length p4 ≡ 9
    → parts_at amount_places text ≡ p1 ++ (p2 ++ (p3 ++ p4))
unfolding Four
four_parts text a1 p1 a2 p2 a3 p3 a4 p4 is m1 n1 m2 n2 m3 n3 m4 n4 =
    let e1 = piece text a1 p1 (a2 ++ (p2 ++ (a3 ++ (p3 ++ (a4 ++ p4))))) 7 12
    (is ∙ simp append_assoc) m1 n1 in
    let e2 = piece text (a1 ++ (p1 ++ a2)) p2 (a3 ++ (p3 ++ (a4 ++ p4))) 39 12
    (is ∙ simp append_assoc) (simp length-append (omega arith)) n2 in
    let e3 = piece text (a1 ++ (p1 ++ (a2 ++ (p2 ++ a3)))) p3 (a4 ++ p4) 57 9
    (is ∙ simp append_assoc) (simp length-append (omega arith)) n3 in
    let e4 = piece text (a1 ++ (p1 ++ (a2 ++ (p2 ++ (a3 ++ (p3 ++ a4)))))) p4 [] 83 9
    (is ∙ simp (append_assoc, append-nil)) (simp length-append (omega arith)) n4 in
    rw (e1, e2, e3, e4, append-nil) refl

-- a text that is what is shown of its parts says them
unshown_all : (n : ℕ) (places : List (ℕ × ℕ)) (text c : List ℕ) → parts_at places text ≡ c
    → text ≡ content_shown n c → unshown n places text ≡ c
unfolding unshown
unshown_all n places text c parts is =
    ap (λ (p : List ℕ). if_shown (pointwise nat_eq (content_shown n p) text) p text) parts
    ∙ ap (λ (t : List ℕ). if_shown (pointwise nat_eq t text) c text) (sym is)
    ∙ ap (λ (b : Bool). if_shown b c text) (same_all text)

clear_take : (k : ℕ) (c : List ℕ) → list_all is_printable c ≡ true → printable (take k c) ≡ take k c
clear_take k c clear = printable_is (take k c) (all_take is_printable k c clear)

clear_drop : (k : ℕ) (c : List ℕ) → list_all is_printable c ≡ true → printable (drop k c) ≡ drop k c
clear_drop k c clear = printable_is (drop k c) (all_drop is_printable k c clear)

taken : (k : ℕ) (c : List ℕ) → k + length (drop k c) ≡ length c → length (take k c) ≡ k
taken k c is = omega (arith, length-take k c, length-drop k c, is)

pub original_back : (c : List ℕ) → length c ≡ 42 → list_all is_printable c ≡ true
    → unshown 90 original_places (content_shown 90 c) ≡ c
unfolding Five
original_back c size clear =
    let r1 : List ℕ = drop 4 c in
    let r2 : List ℕ = drop 6 r1 in
    let r3 : List ℕ = drop 10 r2 in
    let r4 : List ℕ = drop 11 r3 in
    let c1 = all_drop is_printable 4 c clear in
    let c2 = all_drop is_printable 6 r1 c1 in
    let c3 = all_drop is_printable 10 r2 c2 in
    let s1 : length r1 ≡ 38 = omega (arith, length-drop 4 c, size) in
    let s2 : length r2 ≡ 32 = omega (arith, length-drop 6 r1, s1) in
    let s3 : length r3 ≡ 22 = omega (arith, length-drop 10 r2, s2) in
    let s4 : length r4 ≡ 11 = omega (arith, length-drop 11 r3, s3) in
    let shown : content_shown 90 c ≡ Five (codes "type ") (take 4 c) (codes ", trace number ")
    (take 6 r1) (codes ", transmitted ") (take 10 r2) (codes ", acquirer ") (take 11 r3)
    (codes ", forwarder ") r4 =
    ap (λ (b : Bool). if b then part_shown (codes "type ") (take 4 c)
    ++ part_shown (codes ", trace number ") (take 6 r1)
    ++ part_shown (codes ", transmitted ") (take 10 r2)
    ++ part_shown (codes ", acquirer ") (take 11 r3)
    ++ part_shown (codes ", forwarder ") r4 else printable c) (eq-eqb (length c) 42 size)
    ∙ rw (
      clear_take 4 c clear,
      clear_take 6 r1 c1,
      clear_take 10 r2 c2,
      clear_take 11 r3 c3,
      clear_drop 11 r3 c3,
    ) refl in
    let parts = five_parts (content_shown 90 c) (codes "type ") (take 4 c) (codes ", trace number ")
    (take 6 r1) (codes ", transmitted ") (take 10 r2) (codes ", acquirer ") (take 11 r3)
    (codes ", forwarder ") r4 shown refl (taken 4 c (omega (arith, s1, size))) refl
    (taken 6 r1 (omega (arith, s1, s2))) refl (taken 10 r2 (omega (arith, s2, s3))) refl
    (taken 11 r3 (omega (arith, s3, s4))) refl s4 in
    unshown_all 90 original_places (content_shown 90 c) c
    (parts ∙ rw (
      take-append-drop 11 r3,
      take-append-drop 10 r2,
      take-append-drop 6 r1,
      take-append-drop 4 c,
    ) refl) refl

pub amounts_back : (c : List ℕ) → length c ≡ 42 → list_all is_printable c ≡ true
    → unshown 95 amount_places (content_shown 95 c) ≡ c
unfolding Four
amounts_back c size clear =
    let r1 : List ℕ = drop 12 c in
    let r2 : List ℕ = drop 12 r1 in
    let r3 : List ℕ = drop 9 r2 in
    let c1 = all_drop is_printable 12 c clear in
    let c2 = all_drop is_printable 12 r1 c1 in
    let s1 : length r1 ≡ 30 = omega (arith, length-drop 12 c, size) in
    let s2 : length r2 ≡ 18 = omega (arith, length-drop 12 r1, s1) in
    let s3 : length r3 ≡ 9 = omega (arith, length-drop 9 r2, s2) in
    let shown : content_shown 95 c ≡ Four (codes "amount ") (take 12 c)
    (codes ", settlement amount ") (take 12 r1) (codes ", fee ") (take 9 r2)
    (codes ", settlement fee ") r3 =
    ap (λ (b : Bool). if b then part_shown (codes "amount ") (take 12 c)
    ++ part_shown (codes ", settlement amount ") (take 12 r1)
    ++ part_shown (codes ", fee ") (take 9 r2)
    ++ part_shown (codes ", settlement fee ") r3 else printable c) (eq-eqb (length c) 42 size)
    ∙ rw (clear_take 12 c clear, clear_take 12 r1 c1, clear_take 9 r2 c2, clear_drop 9 r2 c2) refl in
    let parts = four_parts (content_shown 95 c) (codes "amount ") (take 12 c)
    (codes ", settlement amount ") (take 12 r1) (codes ", fee ") (take 9 r2)
    (codes ", settlement fee ") r3 shown refl (taken 12 c (omega (arith, s1, size))) refl
    (taken 12 r1 (omega (arith, s1, s2))) refl (taken 9 r2 (omega (arith, s2, s3))) refl s3 in
    unshown_all 95 amount_places (content_shown 95 c) c
    (parts ∙ rw (take-append-drop 9 r2, take-append-drop 12 r1, take-append-drop 12 c) refl) refl
