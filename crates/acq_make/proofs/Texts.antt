-- Words, spaces and lines of texts that are put together.
use Rattle.std.proofs.Common.{◌≡◌, ℕ, zero, suc, ◌-◌, Bool, true, false, nat_eq, List, [], ◌∷◌}
use Rattle.std.proofs.Common.{◌++◌, length, take, drop, Option, Some, None, leb, refl, sym, ap, ◌∙◌}
use Rattle.std.proofs.Common.{arith, length-append}
use Rattle.std.specs.Prelude.{◌==◌, not, ◌&&◌, if◌then◌else◌}
use Rattle.std.specs.List.{list_all, position, prefix_len}
use Rattle.std.specs.Cmp.Lexicographic.{pointwise}
use Rattle.std.proofs.Math.Seq.{drop-append_seam, take-append_seam}
use Rattle.std.proofs.lemmas.Bool.{and_parts, eq-eqb, le-leb, lt-leb, ne_eqb}
use Rattle.std.proofs.lemmas.List.{length-replicate}
use Rattle.acq_link.specs.HexLines.{lines_of, on_first, without_return}
use Rattle.acq_show.specs.Lines.{begins, field_to}
use Rattle.acq_show.specs.Shown.{spaces}
use Rattle.acq_make.specs.Lines.{behind_spaces, behind_word, first_word, from_place}

-- ---- where the first byte stands

front_len : (p : ℕ → Bool) (front : List ℕ) (b : ℕ) (rest : List ℕ)
    → list_all (λ x. not (p x)) front ≡ true → p b ≡ true
    → prefix_len (λ x. not (p x)) (front ++ (b ∷ rest)) ≡ length front
front_len p [] b rest none here = rw here refl
front_len p (x ∷ xs) b rest none here =
    let parts = and_parts (not (p x)) (list_all (λ y. not (p y)) xs) none in
    let more = front_len p xs b rest parts.1 here in
    rw parts.0 (omega (arith, more))

pub position_front : (p : ℕ → Bool) (front : List ℕ) (b : ℕ) (rest : List ℕ)
    → list_all (λ x. not (p x)) front ≡ true → p b ≡ true
    → position p (front ++ (b ∷ rest)) ≡ Some (length front)
position_front p front b rest none here =
    let place = front_len p front b rest none here in
    let size = length-append front (b ∷ rest) in
    let within : leb (suc (length front)) (length (front ++ (b ∷ rest))) ≡ true =
    le-leb _ _ (omega (arith, size)) in
    rw (place, within) refl

all_len : (q : ℕ → Bool) (xs : List ℕ) → list_all q xs ≡ true → prefix_len q xs ≡ length xs
all_len q [] all = refl
all_len q (x ∷ xs) all =
    let parts = and_parts (q x) (list_all q xs) all in
    let more = all_len q xs parts.1 in
    rw parts.0 (omega (arith, more))

pub position_none : (p : ℕ → Bool) (text : List ℕ) → list_all (λ x. not (p x)) text ≡ true
    → position p text ≡ None
position_none p text none =
    let len = all_len (λ x. not (p x)) text none in
    let past : leb (suc (length text)) (length text) ≡ false = lt-leb _ _ (omega arith) in
    rw (len, past) refl

-- ---- spaces and words

abbrev pub is_space : ℕ → Bool
is_space byte = byte == 32

abbrev pub no_space : List ℕ → Bool
no_space word = list_all (λ byte. not (is_space byte)) word

all_spaces : (k : ℕ) → list_all (λ byte. not (not (is_space byte))) (spaces k) ≡ true
all_spaces zero = refl
all_spaces (suc k) = all_spaces k

pub behind_spaces_is : (k b : ℕ) (rest : List ℕ) → is_space b ≡ false
    → behind_spaces (spaces k ++ (b ∷ rest)) ≡ b ∷ rest
behind_spaces_is k b rest other =
    let here : not (is_space b) ≡ true = rw other refl in
    ap (λ (o : Option ℕ). from_place o (spaces k ++ (b ∷ rest)))
    (position_front (λ byte. not (is_space byte)) (spaces k) b rest (all_spaces k) here)
    ∙ drop-append_seam (spaces k) (b ∷ rest)

pub first_word_is : (word rest : List ℕ) → no_space word ≡ true
    → first_word (word ++ (32 ∷ rest)) ≡ word
first_word_is word rest none =
    ap (λ (o : Option ℕ). field_to o (word ++ (32 ∷ rest)))
    (position_front is_space word 32 rest none refl)
    ∙ take-append_seam word (32 ∷ rest)

pub first_word_all : (word : List ℕ) → no_space word ≡ true → first_word word ≡ word
first_word_all word none =
    ap (λ (o : Option ℕ). field_to o word) (position_none is_space word none)

pub behind_word_is : (word : List ℕ) (k b : ℕ) (rest : List ℕ) → no_space word ≡ true
    → is_space b ≡ false → behind_word (word ++ (32 ∷ (spaces k ++ (b ∷ rest)))) ≡ b ∷ rest
behind_word_is word k b rest none other =
    let later : List ℕ = 32 ∷ (spaces k ++ (b ∷ rest)) in
    ap (λ (o : Option ℕ). behind_spaces (from_place o (word ++ later)))
    (position_front is_space word 32 (spaces k ++ (b ∷ rest)) none refl)
    ∙ ap behind_spaces (drop-append_seam word later)
    ∙ behind_spaces_is (suc k) b rest other

-- ---- names

pub same_all : (xs : List ℕ) → pointwise nat_eq xs xs ≡ true
same_all [] = refl
same_all (x ∷ xs) = rw (eq-eqb x x refl) (same_all xs)

pub begins_own : (front rest : List ℕ) → begins front (front ++ rest) ≡ true
begins_own front rest =
    ap (λ (t : List ℕ). pointwise nat_eq front t) (take-append_seam front rest) ∙ same_all front

-- what stands behind a name and its column
pub behind_column : (name rest : List ℕ) (f : ℕ)
    → (if begins name (name ++ (spaces f ++ rest))
    && begins (spaces f) (drop (length name) (name ++ (spaces f ++ rest)))
    then drop f (drop (length name) (name ++ (spaces f ++ rest)))
    else (name ++ (spaces f ++ rest))) ≡ rest
behind_column name rest f =
    let later : List ℕ = spaces f ++ rest in
    let cut : drop (length name) (name ++ later) ≡ later = drop-append_seam name later in
    let own = begins_own name later in
    let filled : begins (spaces f) (drop (length name) (name ++ later)) ≡ true =
    ap (begins (spaces f)) cut ∙ begins_own (spaces f) rest in
    let there : List ℕ = drop f (drop (length name) (name ++ later)) in
    ap (λ (b : Bool). if b && begins (spaces f) (drop (length name) (name ++ later)) then there
    else (name ++ later)) own
    ∙ ap (λ (b : Bool). if b then there else (name ++ later)) filled
    ∙ ap (drop f) cut
    ∙ ap (λ (k : ℕ). drop k later) (sym (length-replicate f 32))
    ∙ drop-append_seam (spaces f) rest

-- ---- lines

-- a byte that ends no line
abbrev pub is_inner : ℕ → Bool
is_inner b = not (b == 10) && not (b == 13)

abbrev pub one_line : List ℕ → Bool
one_line text = list_all is_inner text

pub is_not : (b : Bool) → not b ≡ true → b ≡ false
is_not true h = absurd (cc)
is_not false h = refl

pub line_front : (line rest : List ℕ) → one_line line ≡ true
    → lines_of (line ++ (10 ∷ rest)) ≡ line ∷ lines_of rest
line_front [] rest inner = refl
line_front (x ∷ xs) rest inner =
    let parts = and_parts (is_inner x) (one_line xs) inner in
    let own = and_parts (not (x == 10)) (not (x == 13)) parts.0 in
    let other : (x == 10) ≡ false = is_not _ own.0 in
    rw other (ap (on_first x) (line_front xs rest parts.1))

last_at : (x : ℕ) (xs : List ℕ) → one_line (x ∷ xs) ≡ true
    → pointwise nat_eq (13 ∷ []) (drop (length xs) (x ∷ xs)) ≡ false
last_at x [] inner =
    let parts = and_parts (is_inner x) (one_line []) inner in
    let own = and_parts (not (x == 10)) (not (x == 13)) parts.0 in
    let other : nat_eq x 13 ≡ false = is_not _ own.1 in
    let no : nat_eq 13 x ≡ false =
    ne_eqb 13 x (λ is. let yes = eq-eqb x 13 (sym is) in absurd (cc)) in
    rw no refl
last_at x (y ∷ ys) inner =
    last_at y ys (and_parts (is_inner x) (one_line (y ∷ ys)) inner).1

pub no_return : (line : List ℕ) → one_line line ≡ true → without_return line ≡ line
no_return [] inner = refl
no_return (x ∷ xs) inner =
    let e : length (x ∷ xs) - 1 ≡ length xs = omega arith in
    let no = ap (λ (k : ℕ). pointwise nat_eq (13 ∷ []) (drop k (x ∷ xs))) e ∙ last_at x xs inner in
    ap (λ (b : Bool). if b then take (length (x ∷ xs) - 1) (x ∷ xs) else (x ∷ xs)) no
