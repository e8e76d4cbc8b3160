-- A program and its commands, as far as the loops over their tables have come.
use Rattle.std.proofs.Common.{◌≡◌, ℕ, ◌+◌, ◌<◌, List, [], ◌∷◌, ◌++◌, take, length, refl, ap, ◌∙◌}
use Rattle.std.proofs.Common.{slice_index_or, add-one, zero, suc, true, arith}
use Rattle.std.proofs.lemmas.Bool.{and_parts}
use Rattle.std.proofs.Math.Seq.{take-suc}
use Rattle.clap.specs.Words.{App, with_rule, with_subcommand}
use Rattle.acq_program.specs.Parameters.{rule_of_parameter, with_parameters}
use Rattle.acq_program.specs.Commands.{are_plain, command_of, with_commands}
use Rattle.acq_program.specs.declared.command_text.CommandText.{CommandText}
use Rattle.acq_program.specs.declared.parameter.Parameter.{Parameter}

pub with-append : (a : App) (ps qs : List Parameter) →
    with_parameters a (ps ++ qs) ≡ with_parameters (with_parameters a ps) qs
with-append a [] qs = refl
with-append a (p ∷ ps) qs = with-append (with_rule a (rule_of_parameter p)) ps qs

pub with_next : (a : App) (ps : List Parameter) (i : ℕ) (other : Parameter) → i < length ps →
    with_parameters a (take (i + 1) ps)
    ≡ with_rule (with_parameters a (take i ps)) (rule_of_parameter (slice_index_or ps i other))
with_next a ps i other within =
    ap (with_parameters a) (ap (λ n. take n ps) (add-one i) ∙ take-suc ps i other within)
    ∙ with-append a (take i ps) (slice_index_or ps i other ∷ [])

pub commands-append : (a : App) (xs ys : List CommandText) →
    with_commands a (xs ++ ys) ≡ with_commands (with_commands a xs) ys
commands-append a [] ys = refl
commands-append a (x ∷ xs) ys = commands-append (with_subcommand a (command_of x).top) xs ys

pub commands_next : (a : App) (xs : List CommandText) (i : ℕ) (other : CommandText) →
    i < length xs → with_commands a (take (i + 1) xs)
    ≡ with_subcommand (with_commands a (take i xs)) (command_of (slice_index_or xs i other)).top
commands_next a xs i other within =
    ap (with_commands a) (ap (λ n. take n xs) (add-one i) ∙ take-suc xs i other within)
    ∙ commands-append a (take i xs) (slice_index_or xs i other ∷ [])

-- each of them is plain
pub plain_at : (xs : List CommandText) (i : ℕ) (other : CommandText) → i < length xs →
    are_plain xs ≡ true → (command_of (slice_index_or xs i other)).top.is_plain ≡ true
plain_at [] i other within all = absurd (omega (arith, within))
plain_at (x ∷ xs) zero other within all = (and_parts _ _ all).0
plain_at (x ∷ xs) (suc i) other within all =
    plain_at xs i other (omega (arith, within)) (and_parts _ _ all).1
