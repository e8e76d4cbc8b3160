use Rattle.std.proofs.Common.{◌≡◌, ◌<◌, ℕ, false, eqb, take, length, get_or}
use Rattle.std.specs.List.{list_any}
use Rattle.iso_codec.proofs.message.marked.Given as goal

abbrev pub invariant-loop-number : goal.invariant-loop-number
invariant-loop-number l = record {
  size : length l.marks ≡ 256;
  value : (n : ℕ) → n < 256
      → get_or l.marks n false ≡ list_any (λ m. eqb m n) (take l.number-index l.numbers);
}
