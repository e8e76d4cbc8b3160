-- Words of four bytes, and parts that are shown so.
use Rattle.std.proofs.Common.{◌≡◌, ℕ, ◌<◌, ◌≤◌, Bool, nat_eq, List, [], ◌∷◌, ◌++◌, length, Some, refl}
use Rattle.std.proofs.Common.{ap, ◌∙◌, arith}
use Rattle.std.specs.Prelude.{slice_index_or}
use Rattle.std.specs.Cmp.Lexicographic.{pointwise}
use Rattle.acq_show.specs.Contents.{content_shown}
use Rattle.acq_make.specs.declared.line_kind.LineKind.TheVariants.{Head}
use Rattle.acq_make.specs.Contents.{if_shown, parts_at, unshown}
use Rattle.acq_make.specs.Lines.{word_kind}

-- four bytes are a head
pub is_head : (word : List ℕ) → 4 ≤ length word → length word < 5
    → Some (Head (slice_index_or word 0 0 ∷ slice_index_or word 1 0 ∷ slice_index_or word 2 0
    ∷ slice_index_or word 3 0 ∷ [])) ≡ word_kind word
is_head [] low high = absurd (omega arith)
is_head (a ∷ []) low high = absurd (omega arith)
is_head (a ∷ b ∷ []) low high = absurd (omega arith)
is_head (a ∷ b ∷ c ∷ []) low high = absurd (omega arith)
is_head (a ∷ b ∷ c ∷ d ∷ []) low high = refl
is_head (a ∷ b ∷ c ∷ d ∷ e ∷ rest) low high = absurd (omega arith)

-- the parts, or the text, by whether the text is what is shown of them
pub unshown_is : (n : ℕ) (places : List (ℕ × ℕ)) (text parts shown : List ℕ) (is : Bool)
    → parts ≡ parts_at places text → shown ≡ content_shown n parts → is ≡ pointwise nat_eq shown text
    → if_shown is parts text ≡ unshown n places text
unfolding unshown
unshown_is n places text parts shown is e1 e2 e3 =
    let so : is ≡ pointwise nat_eq (content_shown n parts) text =
    e3 ∙ ap (λ (s : List ℕ). pointwise nat_eq s text) e2 in
    ap (λ (b : Bool). if_shown b parts text) so
    ∙ ap (λ (p : List ℕ). if_shown (pointwise nat_eq (content_shown n p) text) p text) e1

-- what is shown of a content stands behind nothing
pub put_first : (n : ℕ) (old read parts new : List ℕ) → old ≡ [] → read ≡ parts
    → new ≡ old ++ content_shown n read → new ≡ content_shown n parts
put_first n old read parts new none is put =
    put ∙ ap (λ (x : List ℕ). x ++ content_shown n read) none ∙ ap (content_shown n) is
