-- The 31 days after the last day.
use Rattle.std.proofs.Common.{◌≡◌, ℕ, zero, suc, ◌+◌, ◌<◌, slice_set, refl, sym, ap, ◌∙◌, arith}
use Rattle.day_totals.specs.Day.{date_text_of}
use Rattle.day_totals.proofs.OnLiterals.{day_totals_on_literals}

-- it holds of each number below n
abbrev AllBelow : (ℕ → Type 0) → ℕ → Type 0
AllBelow P zero = Unit {0}
AllBelow P (suc n) = P 0 × AllBelow (λ k. P (suc k)) n

below : (P : ℕ → Type 0) (n k : ℕ) → AllBelow P n → k < n → P k
below P zero k all lt = absurd (omega arith)
below P (suc n) zero all lt = all.0
below P (suc n) (suc k) all lt = below (λ j. P (suc j)) n k all.1 (omega arith)

-- each is written as the day of January 2000, but for a digit
abbrev IsAlike : ℕ → Type 0
IsAlike k = slice_set (date_text_of k) 1 49 ≡ date_text_of (k + 36525)

all_alike : AllBelow IsAlike 31
unfolding day_totals_on_literals
all_alike = (
  refl,
  (
    refl,
    (
      refl,
      (
        refl,
        (
          refl,
          (
            refl,
            (
              refl,
              (
                refl,
                (
                  refl,
                  (
                    refl,
                    (
                      refl,
                      (
                        refl,
                        (
                          refl,
                          (
                            refl,
                            (
                              refl,
                              (
                                refl,
                                (
                                  refl,
                                  (
                                    refl,
                                    (
                                      refl,
                                      (
                                        refl,
                                        (
                                          refl,
                                          (
                                            refl,
                                            (
                                              refl,
                                              (
                                                refl,
                                                (
                                                  refl,
                                                  (
                                                    refl,
                                                    (
                                                      refl,
                                                      (
                                                        refl,
                                                        (
                                                          refl,
                                                          (
                                                            refl,
                                                            (
                                                              refl,
                                                              tt,
                                                            ),
                                                          ),
                                                        ),
                                                      ),
                                                    ),
                                                  ),
                                                ),
                                              ),
                                            ),
                                          ),
                                        ),
                                      ),
                                    ),
                                  ),
                                ),
                              ),
                            ),
                          ),
                        ),
                      ),
                    ),
                  ),
                ),
              ),
            ),
          ),
        ),
      ),
    ),
  ),
)

pub january : (number day : ℕ) → number ≡ day + 36525 → day < 31
    → slice_set (date_text_of day) 1 49 ≡ date_text_of number
january number day is within = below IsAlike 31 day all_alike within ∙ ap date_text_of (sym is)
