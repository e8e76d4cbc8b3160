-- What lines say, one after another.
use Rattle.std.proofs.Common.{◌≡◌, ℕ, ◌+◌, List, [], ◌∷◌, ◌++◌, Ok, Err, refl, sym, ap, ◌∙◌}
use Rattle.std.proofs.Common.{append_assoc, append-nil, true}
use Rattle.std.specs.Prelude.{Result}
use Rattle.iso_codec.specs.Message.{IsoMessage}
use Rattle.acq_link.specs.HexLines.{lines_of, without_return}
use Rattle.acq_make.specs.declared.make_fault.MakeFault.{MakeFault}
use Rattle.acq_make.specs.Said.{in_front}
use Rattle.acq_make.proofs.SaidInTurn.{none_in_front}
use Rattle.acq_json.specs.Said.{is_blank, line_said, messages_said, said_behind}

-- The text says these messages, and then what the rest says.
pub record SaysFirst (text : List ℕ) (messages : List IsoMessage) (n : ℕ) (rest : List ℕ) :
    Type 0 where
  pub says : messages_said text ≡ in_front messages (said_behind n (lines_of rest))

in_front_twice : (some more : List IsoMessage) (r : Result (List IsoMessage) MakeFault)
    → in_front some (in_front more r) ≡ in_front (some ++ more) r
unfolding in_front
in_front_twice some more (Ok messages) = ap Ok (sym (append_assoc some more messages))
in_front_twice some more (Err f) = refl

pub says_none : (text : List ℕ) (messages : List IsoMessage) → messages ≡ []
    → SaysFirst text messages 0 text
unfolding messages_said
says_none text messages none = record {
  says = rw none (none_in_front (said_behind 0 (lines_of text)));
}

-- one line more
pub says_more : (text rest line after : List ℕ) (some more all : List IsoMessage) (n : ℕ)
    → SaysFirst text some n rest → lines_of rest ≡ line ∷ lines_of after
    → line_said (n + 1) (without_return line) ≡ Ok more → all ≡ some ++ more
    → SaysFirst text all (n + 1) after
unfolding said_behind
says_more text rest line after some more all n so first does whole = record {
  says =
      so.says ∙ rw (first, does) (in_front_twice some more (said_behind (n + 1) (lines_of after)))
      ∙ ap (λ (x : List IsoMessage). in_front x (said_behind (n + 1) (lines_of after))) (sym whole);
}

pub says_until : (text rest line after : List ℕ) (some : List IsoMessage) (n : ℕ) (f : MakeFault)
    → SaysFirst text some n rest → lines_of rest ≡ line ∷ lines_of after
    → line_said (n + 1) (without_return line) ≡ Err f → messages_said text ≡ Err f
unfolding said_behind in_front
says_until text rest line after some n f so first does = so.says ∙ rw (first, does) refl

pub says_all : (text rest : List ℕ) (all : List IsoMessage) (n : ℕ) → SaysFirst text all n rest
    → rest ≡ [] → messages_said text ≡ Ok all
unfolding said_behind in_front
says_all text rest all n so none = so.says ∙ rw none (ap Ok (append-nil all))

-- a blank line says none
pub blank_said : (n : ℕ) (line : List ℕ) → is_blank line ≡ true → line_said n line ≡ Ok []
unfolding line_said
blank_said n line is = rw is refl
