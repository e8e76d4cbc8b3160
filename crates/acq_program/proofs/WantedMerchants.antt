-- The merchants that an option's values name, as far as the loop over them has come.
use Rattle.std.proofs.Common.{◌≡◌, ℕ, ◌+◌, ◌<◌, List, [], ◌∷◌, ◌++◌, take, length, map}
use Rattle.std.proofs.Common.{slice_index_or}
use Rattle.std.proofs.Common.{sym, ap, ap₂, ◌∙◌, add-one}
use Rattle.std.proofs.lemmas.List.{map-append}
use Rattle.std.proofs.Math.Seq.{take-suc}
use Rattle.std.specs.Borrow.{Bor}
use Rattle.std.specs.Prelude.{Option, Some, Err}
use Rattle.clap.specs.Words.{Text}
use Rattle.acq_out.specs.Fields.{merchant_of_text}
use Rattle.acq_program.specs.declared.usage_fault.UsageFault.{UsageFault}
use Rattle.acq_program.specs.declared.usage_fault.UsageFault.TheVariants.{BadValue, Words}
use Rattle.acq_program.specs.Arguments.{Reads}
use Rattle.acq_program.specs.Options.{GivesMerchants, MerchantsAre, OptionTexts}
use Rattle.acq_program.specs.WantedMerchants.{MayRefuseMerchants}
use Rattle.acq_program.specs.WantedReports.{each_text}

-- why they aren't given is why what is asked for isn't read
pub refused : (texts : OptionTexts) (fault : UsageFault) → MayRefuseMerchants texts.merchants fault →
    Reads (MerchantsAre texts) (Err fault)
refused texts (BadValue name) h = h
refused texts (Words error) h = h

module _ (texts : List (Bor Text)) (i : ℕ) (other : Bor Text) (within : i < length texts)
    (merchants after : List (List ℕ)) (merchant : List ℕ) where
  pub merchants_next : GivesMerchants (each_text (take i texts)) merchants →
      merchant_of_text (slice_index_or texts i other).now ≡ Some merchant →
      after ≡ merchants ++ merchant ∷ [] →
      GivesMerchants (each_text (take (i + 1) texts)) after
  merchants_next before this is =
      let next = slice_index_or texts i other in
      ap (λ (x : List (Bor Text)). map merchant_of_text (each_text x))
      (ap (λ n. take n texts) (add-one i) ∙ take-suc texts i other within)
      ∙ (ap (map merchant_of_text) (map-append (λ (t : Bor Text). t.now) (take i texts) (next ∷ []))
      ∙ (map-append merchant_of_text (each_text (take i texts)) (next.now ∷ [])
      ∙ (ap₂ (λ (x : List (Option (List ℕ))) (y : Option (List ℕ)). x ++ y ∷ []) before this
      ∙ (sym (map-append (λ (name : List ℕ). Some name) merchants (merchant ∷ []))
      ∙ ap (map (λ (name : List ℕ). Some name)) (sym is)))))
