use Rattle.std.proofs.Common.{◌≡◌, ℕ, [], ◌∷◌, Option, Some, None, true, sym, ◌∙◌}
use Rattle.std.specs.Prelude.{IfNone, IfSome, MatchOption, not}
use Rattle.std.specs.List.{list_all, filter}
use Rattle.iso_codec.specs.declared.bitmaps.Bitmaps.{Bitmaps}
use Rattle.iso_codec.specs.Message.{named}
use Rattle.iso_codec.specs.Faults.{is_known, IsFirstUnknown}
use Rattle.iso_codec.proofs.NamedNumbers.{none_fails}
use Rattle.iso_codec.proofs.FaultsOfParts.{first_unknown_is}
use Rattle.iso_codec.proofs.decoding.first_unknown.Goals as goal

none_is_known : (bitmaps unknown after : Bitmaps) (o : Option ℕ)
    → named unknown ≡ filter (λ n. not (is_known n)) (named bitmaps)
    → MatchOption o (named unknown ≡ []) (λ n. named unknown ≡ n ∷ named after)
    → IfNone o (list_all is_known (named bitmaps) ≡ true)
none_is_known bitmaps unknown after None same h = none_fails is_known (named bitmaps) (sym same ∙ h)
none_is_known bitmaps unknown after (Some n) same h = tt

some_is_first : (bitmaps unknown after : Bitmaps) (o : Option ℕ)
    → named unknown ≡ filter (λ n. not (is_known n)) (named bitmaps)
    → MatchOption o (named unknown ≡ []) (λ n. named unknown ≡ n ∷ named after)
    → IfSome o (λ n. IsFirstUnknown bitmaps n)
some_is_first bitmaps unknown after None same h = tt
some_is_first bitmaps unknown after (Some n) same h = first_unknown_is bitmaps n (named after)
    (sym same ∙ h)

pub returns-clause-none : goal.returns-clause-none
returns-clause-none c =
    none_is_known c.args.bitmaps.now c.of_unknown-unknown.result c.take_first.new.self
    c.take_first.result
    c.of_unknown-unknown.ensures.same c.take_first.ensures.first

pub returns-clause-some : goal.returns-clause-some
returns-clause-some c =
    some_is_first c.args.bitmaps.now c.of_unknown-unknown.result c.take_first.new.self
    c.take_first.result
    c.of_unknown-unknown.ensures.same c.take_first.ensures.first
