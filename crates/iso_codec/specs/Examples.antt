-- Messages of the field, spelled out: the parts of their texts stand without gaps.
use Rattle.std.specs.Prelude.{ℕ, List, [], ◌∷◌, ◌++◌, codes}
use Rattle.iso_codec.specs.Message.{IsoMessage}

-- an echo test
abbrev pub echo_request : IsoMessage
echo_request = record {
  kind = codes "0800";
  elements = (7, codes "0101120000") ∷ (11, codes "000001") ∷ (70, codes "301") ∷ [];
}

abbrev pub echo_request_text : List ℕ
echo_request_text =
    codes "0800" ++ codes "8220000000000000" ++ codes "0400000000000000"
    ++ codes "0101120000" ++ codes "000001" ++ codes "301"

abbrev pub echo_reply : IsoMessage
echo_reply = record {
  kind = codes "0810";
  elements =
      (7, codes "0101120000") ∷ (11, codes "000001") ∷ (39, codes "00") ∷ (70, codes "301") ∷ [];
}

abbrev pub echo_reply_text : List ℕ
echo_reply_text =
    codes "0810" ++ codes "8220000002000000" ++ codes "0400000000000000"
    ++ codes "0101120000" ++ codes "000001" ++ codes "00" ++ codes "301"

-- a purchase
abbrev pub purchase_body : List ℕ
purchase_body =
    codes "16" ++ codes "4111111111111111" ++ codes "000000" ++ codes "000000001000"
    ++ codes "0501093000" ++ codes "000001" ++ codes "TERM0001" ++ codes "MERCHANT0000001"
    ++ codes "978"

abbrev pub purchase_text : List ℕ
purchase_text = codes "0200" ++ codes "7220000000C08000" ++ purchase_body

-- the same with its bitmap in lower case
abbrev pub purchase_text_lower : List ℕ
purchase_text_lower = codes "0200" ++ codes "7220000000c08000" ++ purchase_body

abbrev pub purchase : IsoMessage
purchase = record {
  kind = codes "0200";
  elements =
      (2, codes "4111111111111111") ∷ (3, codes "000000") ∷ (4, codes "000000001000")
      ∷ (7, codes "0501093000") ∷ (11, codes "000001") ∷ (41, codes "TERM0001")
      ∷ (42, codes "MERCHANT0000001") ∷ (49, codes "978") ∷ [];
}

-- the answer to a reconciliation of an empty day
abbrev pub reconciliation_text : List ℕ
reconciliation_text =
    codes "0510" ++ codes "8222000002C00000" ++ codes "4078078080000000"
    ++ codes "0501100000" ++ codes "000010" ++ codes "0501" ++ codes "00"
    ++ codes "TERM0001" ++ codes "MERCHANT0000001" ++ codes "1"
    ++ codes "0000000000" ++ codes "0000000000" ++ codes "0000000000" ++ codes "0000000000"
    ++ codes "0000000000000000" ++ codes "0000000000000000"
    ++ codes "0000000000000000" ++ codes "0000000000000000" ++ codes "C0000000000000000"

abbrev pub reconciliation : IsoMessage
reconciliation = record {
  kind = codes "0510";
  elements =
      (7, codes "0501100000") ∷ (11, codes "000010") ∷ (15, codes "0501") ∷ (39, codes "00")
      ∷ (41, codes "TERM0001") ∷ (42, codes "MERCHANT0000001") ∷ (66, codes "1")
      ∷ (74, codes "0000000000") ∷ (75, codes "0000000000")
      ∷ (76, codes "0000000000") ∷ (77, codes "0000000000")
      ∷ (86, codes "0000000000000000") ∷ (87, codes "0000000000000000")
      ∷ (88, codes "0000000000000000") ∷ (89, codes "0000000000000000")
      ∷ (97, codes "C0000000000000000") ∷ [];
}

-- a second bitmap of zeros
abbrev pub zeros_text : List ℕ
zeros_text =
    codes "0800" ++ codes "8220000000000000" ++ codes "0000000000000000"
    ++ codes "0101120000" ++ codes "000001"

abbrev pub zeros : IsoMessage
zeros = record {
  kind = codes "0800";
  elements = (7, codes "0101120000") ∷ (11, codes "000001") ∷ [];
}

abbrev pub zeros_spelling : List ℕ
zeros_spelling =
    codes "0800" ++ codes "0220000000000000" ++ codes "0101120000" ++ codes "000001"
