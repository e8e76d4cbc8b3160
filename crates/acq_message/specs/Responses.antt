-- Response codes (ISO 8583:1987, response code; when each is given: own profile).
use Rattle.std.specs.Prelude.{ℕ, List, codes}
use Rattle.acq_message.specs.declared.response_code.ResponseCode.{ResponseCode}
use Rattle.acq_message.specs.declared.response_code.ResponseCode.TheVariants as code

-- the two bytes of element 39
abbrev pub code_text : ResponseCode → List ℕ
code_text code.Approved = codes "00"
code_text code.InvalidMerchant = codes "03"
code_text code.InvalidTransaction = codes "12"
code_text code.InvalidAmount = codes "13"
code_text code.InvalidCard = codes "14"
code_text code.NoSuchIssuer = codes "15"
code_text code.NoActionTaken = codes "21"
code_text code.RecordNotFound = codes "25"
code_text code.FormatError = codes "30"
code_text code.ExpiredCard = codes "54"
code_text code.LimitExceeded = codes "65"
code_text code.IssuerInoperative = codes "91"
code_text code.DuplicateTransmission = codes "94"
code_text code.ReconcileError = codes "95"
code_text (code.Declined text) = text
