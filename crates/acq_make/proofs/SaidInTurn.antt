-- What a text says, one line after the other.
use Rattle.std.proofs.Common.{◌≡◌, ℕ, ◌+◌, List, [], ◌∷◌, ◌++◌, Option, None, Ok, Err, refl, sym, ap}
use Rattle.std.proofs.Common.{◌∙◌, append_assoc}
use Rattle.std.specs.Prelude.{Result}
use Rattle.iso_codec.specs.Message.{IsoMessage}
use Rattle.acq_link.specs.HexLines.{lines_of, without_return}
use Rattle.acq_make.specs.declared.draft.Draft.{Draft}
use Rattle.acq_make.specs.declared.make_fault.MakeFault.{MakeFault}
use Rattle.acq_make.specs.Said.{ended, in_front, messages_said, said_behind, step}

-- The text says these messages, and then what the rest says behind a draft.
pub record SaysFirst (text : List ℕ) (messages : List IsoMessage) (d : Option Draft) (n : ℕ)
    (rest : List ℕ) : Type 0 where
  pub says : messages_said text ≡ in_front messages (said_behind d n (lines_of rest))

pub none_in_front : (r : Result (List IsoMessage) MakeFault) → r ≡ in_front [] r
unfolding in_front
none_in_front (Ok messages) = refl
none_in_front (Err f) = refl

in_front_twice : (some more : List IsoMessage) (r : Result (List IsoMessage) MakeFault)
    → in_front some (in_front more r) ≡ in_front (some ++ more) r
unfolding in_front
in_front_twice some more (Ok messages) = ap Ok (sym (append_assoc some more messages))
in_front_twice some more (Err f) = refl

pub says_none : (text : List ℕ) (d : Option Draft) → d ≡ None → SaysFirst text [] d 0 text
unfolding messages_said
says_none text d none = record {
  says = rw none (none_in_front (said_behind None 0 (lines_of text)));
}

-- one line more
pub says_more : (text rest line after : List ℕ) (some more : List IsoMessage) (d next : Option Draft)
    (n : ℕ) → SaysFirst text some d n rest → lines_of rest ≡ line ∷ lines_of after
    → step d (n + 1) (without_return line) ≡ Ok (more, next)
    → SaysFirst text (some ++ more) next (n + 1) after
unfolding said_behind
says_more text rest line after some more d next n so first does = record {
  says = so.says ∙ rw (first, does)
      (in_front_twice some more (said_behind next (n + 1) (lines_of after)));
}

pub says_until : (text rest line after : List ℕ) (some : List IsoMessage) (d : Option Draft)
    (n : ℕ) (f : MakeFault) → SaysFirst text some d n rest → lines_of rest ≡ line ∷ lines_of after
    → step d (n + 1) (without_return line) ≡ Err f → messages_said text ≡ Err f
unfolding said_behind in_front
says_until text rest line after some d n f so first does = so.says ∙ rw (first, does) refl

pub says_all : (text rest : List ℕ) (some more : List IsoMessage) (d : Option Draft) (n : ℕ)
    → SaysFirst text some d n rest → rest ≡ [] → ended d ≡ Ok more
    → messages_said text ≡ Ok (some ++ more)
unfolding said_behind in_front
says_all text rest some more d n so none ends = so.says ∙ rw (none, ends) refl

pub says_unended : (text rest : List ℕ) (some : List IsoMessage) (d : Option Draft) (n : ℕ)
    (f : MakeFault) → SaysFirst text some d n rest → rest ≡ [] → ended d ≡ Err f
    → messages_said text ≡ Err f
unfolding said_behind in_front
says_unended text rest some d n f so none ends = so.says ∙ rw (none, ends) refl
