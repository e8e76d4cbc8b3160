use Rattle.std.proofs.Common.{◌≡◌, ◌<◌, ◌≤◌, ℕ, List, length, take, sym, arith}
use Rattle.std.proofs.lemmas.List.{length-take-le, take_all}
use Rattle.acq_page.proofs.http_connection.front_of.Goals as goal

-- stated of any length, since a list can't be cut at a number as large without steps of that number
cut : (n : ℕ) (bytes : List ℕ) → n < length bytes → n ≡ length (take n bytes)
cut n bytes more = sym (length-take-le n bytes (omega arith))

whole : (n : ℕ) (bytes : List ℕ) → length bytes ≤ n → bytes ≡ take n bytes
whole n bytes no_more = sym (take_all n bytes no_more)

pub slice_bounds-result-end : goal.slice_bounds-result-end
slice_bounds-result-end c = cut 8192 c.args.bytes.now c.if-bytes-gt-LONGEST_HEAD.true

pub returns-else-bytes-gt-LONGEST_HEAD : goal.returns-else-bytes-gt-LONGEST_HEAD
returns-else-bytes-gt-LONGEST_HEAD c =
    whole 8192 c.args.bytes.now c.if-bytes-gt-LONGEST_HEAD.false
