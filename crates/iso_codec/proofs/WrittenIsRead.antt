-- What is written is read, with the bitmaps that name the message's elements.
use Rattle.std.proofs.Common.{◌≡◌, ℕ, Bool, true, false, List, [], ◌++◌, refl, sym, ◌∙◌}
use Rattle.std.specs.List.{list_all}
use Rattle.std.proofs.lemmas.List.{append-nil}
use Rattle.std.proofs.lemmas.List.Folds.{list_all-append}
use Rattle.iso_codec.specs.declared.bitmaps.Bitmaps.{Bitmaps}
use Rattle.iso_codec.specs.Message.{IsoMessage, IsMessage, IsBitmap, AreBitmaps, bit, numbers, body}
use Rattle.iso_codec.specs.Message.{is_upper_hex, Writes, Reads}
use Rattle.iso_codec.specs.Setting.{Marks}
use Rattle.iso_codec.proofs.BitmapsOfNumbers.{names_marked}

pub all_append : {X : Type 0} (p : X → Bool) (xs ys : List X) → list_all p xs ≡ true →
    list_all p ys ≡ true
    → list_all p (xs ++ ys) ≡ true
all_append p xs ys h k = list_all-append p xs ys ∙ rw (h, k) refl

pub one_bitmap : (digits : List ℕ) (bitmaps : Bitmaps) → IsBitmap digits bitmaps.primary
    → bit bitmaps.primary 1 ≡ false → bitmaps.secondary ≡ 0 → AreBitmaps digits bitmaps
one_bitmap digits bitmaps b unset none = record {
  first = digits;
  second = [];
  parts = sym (append-nil digits);
  primary = b;
  secondary = rw unset (refl, none);
}

pub two_bitmaps : (first second : List ℕ) (bitmaps : Bitmaps) → IsBitmap first bitmaps.primary
    → bit bitmaps.primary 1 ≡ true → IsBitmap second bitmaps.secondary →
    AreBitmaps (first ++ second) bitmaps
two_bitmaps first second bitmaps b set d = record {
  first = first;
  second = second;
  parts = refl;
  primary = b;
  secondary = rw set d;
}

pub written : (m : IsoMessage) (bitmaps : Bitmaps) (digits : List ℕ) → IsMessage m
    → Marks (numbers m.elements) bitmaps → AreBitmaps digits bitmaps →
    list_all is_upper_hex digits ≡ true
    → Writes (m.kind ++ (digits ++ body m.elements)) m
written m bitmaps digits l k a c = record {
  digits = digits;
  bitmaps = bitmaps;
  is_message = l;
  parts = refl;
  digits_fit = a;
  names_all = names_marked bitmaps m.elements k l.ascends l.each;
  upper_case = c;
  second_only = k.second;
}

pub is_read : (text : List ℕ) (m : IsoMessage) → Writes text m → Reads text m
is_read text m w = record {
  digits = w.digits;
  bitmaps = w.bitmaps;
  is_message = w.is_message;
  parts =
      w.parts;
  digits_fit = w.digits_fit;
  names_all = w.names_all;
}
